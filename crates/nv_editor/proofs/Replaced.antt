-- A buffer deleted whose windows show another one.
use Rattle.std.proofs.Common.{◌≡◌, ◌≢◌, ℕ, zero, suc, ℤ, pos, ◌+◌, ◌<◌, ◌≤◌, ◌+ℤ◌, Bool, true, false, cond, not, List, [], ◌∷◌, ◌++◌, length, map, All, Option, Some, None, refl, sym, ap, subst, ◌∙◌, arith}
use Rattle.std.specs.Prelude.{◌≤ℤ◌, ◌<ℤ◌, filter, is_some, slice_get}
use Rattle.std.proofs.Common.{eqb}
use Rattle.std.proofs.lemmas.Bool.Decides.{nat_tests}
use Rattle.std.specs.Ordering.{int_eq}
use Rattle.std.proofs.lemmas.Int.{ints}
use Rattle.std.proofs.lemmas.List.Elements.{All-filter, All-map, All-head, All-tail}
use Rattle.nv_buffer.specs.Content.{Content}
use Rattle.nv_windows.specs.Operations.{windows_with, window_instead, with_buffer_in, with_buffer_instead}
use Rattle.nv_windows.specs.Sound.{IsRisingFrom}
use Rattle.nv_windows.specs.Workspace.{handles_of_windows, showing, window_on, Workspace}
use Rattle.nv_windows.specs.declared.window.Window.{Window}
use Rattle.nv_windows.proofs.SoundLaws.{soundness_stays}
use Rattle.nv_model.specs.Deleting.{showing_operations, other_handles}
use Rattle.nv_model.specs.Editors.{ModelEditor, at_handle, handles_of}
use Rattle.nv_model.specs.Operations.{Operation, buffer_dropped, after_operations}
use Rattle.nv_model.specs.Stage.{Stage, in_workspace}
use Rattle.nv_model.specs.Standing.{PresentEditor, Stands}
use Rattle.nv_model.proofs.Changing.{dropped_buffer_is_kept}
use Rattle.nv_model.proofs.Gone.{all-append}
use Rattle.nv_model.proofs.Lookups.{same_int, int_eq-itself}
use Rattle.nv_editor.specs.Doing.{Does}
use Rattle.nv_editor.specs.Sound.{content_of, IsSoundEditor, ShowsBuffer, ShowsText, IsOfGroups}
use Rattle.nv_editor.specs.inside.Replacing.{IsTakenOut, replacing_operations}
use Rattle.nv_editor.specs.inside.Table.{IsKeptBuffer, AreKeptBuffers, content_in}
use Rattle.nv_editor.proofs.StageKept.{editor_of}
use Rattle.nv_editor.proofs.Updating.{all_by, looked_up, all_looked_up, either_handle}
use Rattle.nv_editor.proofs.ViewLemmas.{none_else}

-- ---- windows that show another buffer, one after another
abbrev shows_in : ℤ → List Window → List Window → List Window
shows_in other [] vs = vs
shows_in other (w ∷ ws) vs = shows_in other ws (windows_with w.handle (λ v. window_on v.handle other) vs)

abbrev shows_stage : ℤ → List Window → Stage → Stage
shows_stage other [] stage = stage
shows_stage other (w ∷ ws) stage = shows_stage other ws (in_workspace (with_buffer_in w.handle other) stage)

shown_after : (other : ℤ) (ws : List Window) (m : ModelEditor)
    → after_operations (showing_operations other ws) m ≡ record m { stage = shows_stage other ws m.stage }
shown_after other [] m = refl
shown_after other (w ∷ ws) m = shown_after other ws (record m { stage = in_workspace (with_buffer_in w.handle other) m.stage })

stage_of_list : (other : ℤ) (ws : List Window) (stage : Stage)
    → shows_stage other ws stage ≡ in_workspace (λ v. record v { windows = shows_in other ws v.windows }) stage
stage_of_list other [] stage = refl
stage_of_list other (w ∷ ws) stage = stage_of_list other ws (in_workspace (with_buffer_in w.handle other) stage)

apart_above : (a n : ℤ) → (n +ℤ pos 1) ≤ℤ a → int_eq n a ≡ false
apart_above a n h = grind (arith, ints)

-- a window stays in front where those behind it change
front_stays : (low : ℤ) (other : ℤ) (v : Window) (ws vs : List Window) → (v.handle +ℤ pos 1) ≤ℤ low → IsRisingFrom low (handles_of_windows ws)
    → shows_in other ws (v ∷ vs) ≡ v ∷ shows_in other ws vs
front_stays low other v [] vs above r = refl
front_stays low other v (w ∷ ws) vs above r =
    ap (λ (t : Bool). shows_in other ws (cond t (window_on v.handle other) v ∷ windows_with w.handle (λ u. window_on u.handle other) vs))
    (apart_above w.handle v.handle (omega (arith, ints, above, r.0)))
    ∙ front_stays (w.handle +ℤ pos 1) other v ws (windows_with w.handle (λ u. window_on u.handle other) vs) (omega (arith, ints, above, r.0)) r.1

showing_rises : (low n : ℤ) (ws : List Window) → IsRisingFrom low (handles_of_windows ws) → IsRisingFrom low (handles_of_windows (showing n ws))
showing_rises low n [] r = tt
showing_rises low n (w ∷ ws) r = by_case (int_eq w.buffer n) (showing_rises (w.handle +ℤ pos 1) n ws r.1)
  where
    lower : (ks : List ℤ) → IsRisingFrom (w.handle +ℤ pos 1) ks → IsRisingFrom low ks
    lower [] h = tt
    lower (k ∷ ks) h = (omega (arith, ints, r.0, h.0), h.1)

    by_case : (t : Bool) → IsRisingFrom (w.handle +ℤ pos 1) (handles_of_windows (showing n ws))
        → IsRisingFrom low (handles_of_windows (cond t (w ∷ showing n ws) (showing n ws)))
    by_case true rest = (r.0, rest)
    by_case false rest = lower (handles_of_windows (showing n ws)) rest

shown_instead : (low n other : ℤ) (ws : List Window) → IsRisingFrom low (handles_of_windows ws)
    → shows_in other (showing n ws) ws ≡ map (window_instead n other) ws
shown_instead low n other [] r = refl
shown_instead low n other (w ∷ ws) r = by_case (int_eq w.buffer n) (shown_instead (w.handle +ℤ pos 1) n other ws r.1)
  where
    itself : (w.handle +ℤ pos 1) ≤ℤ (w.handle +ℤ pos 1)
    itself = omega (arith, ints)

    head : windows_with w.handle (λ u. window_on u.handle other) (w ∷ ws) ≡ window_on w.handle other ∷ ws
    head =
        ap (λ (t : Bool). cond t (window_on w.handle other) w ∷ windows_with w.handle (λ u. window_on u.handle other) ws) (int_eq-itself w.handle)
        ∙ ap (λ (l : List Window). window_on w.handle other ∷ l) (none_else (w.handle +ℤ pos 1) w.handle (λ u. window_on u.handle other) ws r.1 itself)

    rises : IsRisingFrom (w.handle +ℤ pos 1) (handles_of_windows (showing n ws))
    rises = showing_rises (w.handle +ℤ pos 1) n ws r.1

    by_case : (t : Bool) → shows_in other (showing n ws) ws ≡ map (window_instead n other) ws
        → shows_in other (cond t (w ∷ showing n ws) (showing n ws)) (w ∷ ws) ≡ cond t (window_on w.handle other) w ∷ map (window_instead n other) ws
    by_case true rest =
        ap (shows_in other (showing n ws)) head
        ∙ front_stays (w.handle +ℤ pos 1) other (window_on w.handle other) (showing n ws) ws itself rises
        ∙ ap (λ (l : List Window). window_on w.handle other ∷ l) rest
    by_case false rest =
        front_stays (w.handle +ℤ pos 1) other w (showing n ws) ws itself rises ∙ ap (λ (l : List Window). w ∷ l) rest

stage_instead : (n other : ℤ) (stage : Stage) → IsRisingFrom (pos 1000) (handles_of_windows stage.workspace.windows)
    → shows_stage other (showing n stage.workspace.windows) stage ≡ in_workspace (with_buffer_instead n other) stage
stage_instead n other stage r =
    stage_of_list other (showing n stage.workspace.windows) stage
    ∙ ap (λ (l : List Window). in_workspace (λ v. record v { windows = l }) stage) (shown_instead (pos 1000) n other stage.workspace.windows r)

-- ---- the model
pub replaced_done : (bs later : List (ℤ × Content)) (stage new : Stage) (n other : ℤ) → IsSoundEditor (editor_of bs stage)
    → new ≡ in_workspace (with_buffer_instead n other) stage → IsTakenOut bs later n
    → Does (replacing_operations stage.workspace n other) (editor_of bs stage) (editor_of later new)
replaced_done bs later stage new n other sound put out m stands =
    let shows : List Operation = showing_operations other (showing n stage.workspace.windows) in
    let mid : ModelEditor = record m { stage = shows_stage other (showing n stage.workspace.windows) m.stage } in
    let stage_is : new ≡ shows_stage other (showing n stage.workspace.windows) m.stage =
    put ∙ sym (stage_instead n other stage sound.workspace.rising) ∙ ap (shows_stage other (showing n stage.workspace.windows)) stands.stage in
    let stands_mid : Stands (editor_of bs new) mid = record { buffers = stands.buffers; handles = stands.handles; stage = stage_is } in
    let after : after_operations (shows ++ buffer_dropped n ∷ []) m ≡ after_operations (buffer_dropped n ∷ []) mid =
    all-append shows (buffer_dropped n ∷ []) m ∙ ap (after_operations (buffer_dropped n ∷ [])) (shown_after other (showing n stage.workspace.windows) m) in
    subst (λ (x : ModelEditor). Stands (editor_of later new) x) (sym after)
    (dropped_buffer_is_kept (editor_of bs new) (editor_of later new) n mid (record { none = out.none; others = out.others; handles = out.handles }) refl stands_mid)

-- ---- soundness
none_same : (o : Option Content) (c : Content) → o ≡ None → o ≡ Some c → ⊥
none_same o c none some = let both = sym none ∙ some in cc

out_of : (P : ℤ → Content → Type 0) (bs later : List (ℤ × Content)) (n : ℤ) → IsTakenOut bs later n
    → ((k : ℤ) (b : Content) → at_handle bs k ≡ Some b → P k b) → (k : ℤ) (c : Content) → at_handle later k ≡ Some c → P k c
out_of P bs later n out each k c there =
    either_handle (P k c) k n (λ same. absurd (none_same (at_handle later n) c out.none (ap (at_handle later) (sym same) ∙ there)))
    (λ other. each k c (sym (out.others k other) ∙ there))

rising_filter : (low n : ℤ) (ks : List ℤ) → IsRisingFrom low ks → IsRisingFrom low (filter (λ (k : ℤ). not (int_eq k n)) ks)
rising_filter low n [] r = tt
rising_filter low n (k ∷ ks) r = by_case (int_eq k n) (rising_filter (k +ℤ pos 1) n ks r.1)
  where
    lower : (js : List ℤ) → IsRisingFrom (k +ℤ pos 1) js → IsRisingFrom low js
    lower [] h = tt
    lower (j ∷ js) h = (omega (arith, ints, r.0, h.0), h.1)

    by_case : (t : Bool) → IsRisingFrom (k +ℤ pos 1) (filter (λ (j : ℤ). not (int_eq j n)) ks)
        → IsRisingFrom low (cond (not t) (k ∷ filter (λ (j : ℤ). not (int_eq j n)) ks) (filter (λ (j : ℤ). not (int_eq j n)) ks))
    by_case true rest = lower (filter (λ (j : ℤ). not (int_eq j n)) ks) rest
    by_case false rest = (r.0, rest)

top_shows : (lines : List (List ℕ)) (h n : ℤ) → 0 < length lines → ShowsText lines (window_on h n)
top_shows lines h n some = record { cursor = record { row = some; col = omega arith }; top = some }

pub replaced_sound : (bs later : List (ℤ × Content)) (stage new : Stage) (n other : ℤ) (b : Content) → IsSoundEditor (editor_of bs stage)
    → new ≡ in_workspace (with_buffer_instead n other) stage → IsTakenOut bs later n → at_handle bs other ≡ Some b → other ≢ n
    → 0 < length b.text → IsSoundEditor (editor_of later new)
replaced_sound bs later stage new n other b sound put out there apart some =
    subst (λ (s : Stage). IsSoundEditor (editor_of later s)) (sym put) (record {
      workspace = soundness_stays.showing_instead stage.workspace n other sound.workspace;
      rising = rises;
      below = subst (λ (l : List ℤ). All (λ k. k <ℤ stage.next_buffer) l) (sym out.handles)
          (All-filter (λ (k : ℤ). not (int_eq k n)) (λ k. k <ℤ stage.next_buffer) (handles_of bs) sound.below);
      next_buffer = sound.next_buffer;
      shown =
          All-map (λ (w : Window). ShowsBuffer (at_handle later w.buffer) w) (window_instead n other) stage.workspace.windows
          (all_by (λ (w : Window). ShowsBuffer (at_handle bs w.buffer) w) (λ (w : Window). ShowsBuffer (at_handle later (window_instead n other w).buffer) (window_instead n other w))
          (λ w shows. shows_instead w (int_eq w.buffer n) refl shows) stage.workspace.windows sound.shown);
      painted =
          all_looked_up (λ (c : Content). All (IsOfGroups stage.groups) c.marks.marks) (pos 1) later rises
          (out_of (λ k c. All (IsOfGroups stage.groups) c.marks.marks) bs later n out
          (λ k c found. looked_up (λ (d : Content). All (IsOfGroups stage.groups) d.marks.marks) bs k c sound.painted found));
      uis = sound.uis;
    })
  where
    rises : IsRisingFrom (pos 1) (handles_of later)
    rises = subst (IsRisingFrom (pos 1)) (sym out.handles) (rising_filter (pos 1) n (handles_of bs) sound.rising)

    new_shows : (h : ℤ) → ShowsBuffer (at_handle later other) (window_on h other)
    new_shows h = subst (λ (o : Option Content). ShowsBuffer o (window_on h other)) (sym (out.others other apart ∙ there)) (top_shows b.text h other some)

    shows_instead : (w : Window) (t : Bool) → int_eq w.buffer n ≡ t → ShowsBuffer (at_handle bs w.buffer) w
        → ShowsBuffer (at_handle later (cond t (window_on w.handle other) w).buffer) (cond t (window_on w.handle other) w)
    shows_instead w true is shows = new_shows w.handle
    shows_instead w false is shows = subst (λ (o : Option Content). ShowsBuffer o w) (sym (out.others w.buffer differs)) shows
      where
        differs : w.buffer ≢ n
        differs e =
            let itself : int_eq n n ≡ true = int_eq-itself n in
            let isnt : int_eq n n ≡ false = subst (λ (k : ℤ). int_eq k n ≡ false) e is in
            let both = sym itself ∙ isnt in cc

pub replaced_kept : (edited : List ℤ) (bs later : List (ℤ × Content)) (n : ℤ) → IsTakenOut bs later n → AreKeptBuffers edited bs → AreKeptBuffers edited later
replaced_kept edited bs later n out kept = out_of (IsKeptBuffer edited) bs later n out kept

-- ---- the least other buffer
pub record IsOther (bs : List (ℤ × Content)) (n k : ℤ) : Type 0 where
  pub apart : int_eq k n ≡ false
  pub there : is_some (at_handle bs k) ≡ true

some_int : (a b : ℤ) → Some a ≡ Some b → a ≡ b
some_int a b e = cc

pub other_there : (bs : List (ℤ × Content)) (n k : ℤ) → slice_get (other_handles n (handles_of bs)) 0 ≡ Some k → IsOther bs n k
other_there [] n k is = cc
other_there (e ∷ es) n k is = by_case (λ rest. other_there es n k rest) (int_eq e.0 n) refl is
  where
    either_way : (t : Bool) (o : Option Content) → is_some o ≡ true → is_some (cond t (Some e.1) o) ≡ true
    either_way true o there = refl
    either_way false o there = there

    by_case : (slice_get (other_handles n (handles_of es)) 0 ≡ Some k → IsOther es n k) → (t : Bool) → int_eq e.0 n ≡ t
        → slice_get (cond t (other_handles n (handles_of es)) (e.0 ∷ other_handles n (handles_of es))) 0 ≡ Some k → IsOther (e ∷ es) n k
    by_case rest true same found = record {
      apart = (rest found).apart;
      there = either_way (int_eq e.0 k) (at_handle es k) (rest found).there;
    }
    by_case rest false apart found = record {
      apart = subst (λ (j : ℤ). int_eq j n ≡ false) (some_int e.0 k found) apart;
      there =
          subst (λ (j : ℤ). is_some (at_handle (e ∷ es) j) ≡ true) (some_int e.0 k found)
          (ap (λ (t : Bool). is_some (cond t (Some e.1) (at_handle es e.0))) (int_eq-itself e.0));
    }

not_some : false ≡ true → ⊥
not_some e = cc

one_there : eqb 1 1 ≡ true
one_there = refl

pub count_one : (bs : List (ℤ × Content)) (n : ℤ) → IsRisingFrom (pos 1) (handles_of bs) → is_some (at_handle bs n) ≡ true
    → slice_get (other_handles n (handles_of bs)) 0 ≡ None → eqb (length (handles_of bs)) 1 ≡ true
count_one [] n r live is = absurd (not_some live)
count_one (e ∷ []) n r live is = one_there
count_one (e ∷ f ∷ es) n r live is = absurd (by_case (int_eq e.0 n) refl is)
  where
    some_none : (k : ℤ) → ◌≡◌ {A = Option ℤ} (Some k) None → ⊥
    some_none k e = cc

    second : e.0 ≡ n → int_eq f.0 n ≡ false
    second same = by_above (subst (λ (j : ℤ). (j +ℤ pos 1) ≤ℤ f.0) same r.1.0)
      where
        by_above : (n +ℤ pos 1) ≤ℤ f.0 → int_eq f.0 n ≡ false
        by_above h = grind (arith, ints)

    by_case : (t : Bool) → int_eq e.0 n ≡ t
        → slice_get (cond t (cond (int_eq f.0 n) (other_handles n (handles_of es)) (f.0 ∷ other_handles n (handles_of es))) (e.0 ∷ cond (int_eq f.0 n) (other_handles n (handles_of es)) (f.0 ∷ other_handles n (handles_of es)))) 0 ≡ None
        → ⊥
    by_case true same found =
        some_none f.0 (subst (λ (t : Bool). slice_get (cond t (other_handles n (handles_of es)) (f.0 ∷ other_handles n (handles_of es))) 0 ≡ None) (second (same_int e.0 n same)) found)
    by_case false apart found = some_none e.0 found

pub does_both : (cs ds : List Operation) (a b d : PresentEditor) → Does cs a b → Does ds b d → Does (cs ++ ds) a d
does_both cs ds a b d one two m stands =
    subst (λ (x : ModelEditor). Stands d x) (sym (all-append cs ds m)) (two (after_operations cs m) (one m stands))

pub live_there : (es : List (ℤ × Content)) (k : ℤ) → is_some (at_handle es k) ≡ true → at_handle es k ≡ Some (content_in es k)
live_there es k live = by_cases (at_handle es k) live
  where
    by_cases : (o : Option Content) → is_some o ≡ true → o ≡ Some (content_of k o)
    by_cases None is = absurd (not_some is)
    by_cases (Some b) is = refl

pub apart_is : (a n : ℤ) → int_eq a n ≡ false → a ≢ n
apart_is a n apart same =
    let itself : int_eq n n ≡ true = int_eq-itself n in
    let isnt : int_eq n n ≡ false = subst (λ (k : ℤ). int_eq k n ≡ false) same apart in
    let both = sym itself ∙ isnt in cc

pub below_live : (next : ℤ) (es : List (ℤ × Content)) (n : ℤ) → All (λ k. k <ℤ next) (handles_of es) → is_some (at_handle es n) ≡ true → n <ℤ next
below_live next [] n below live = absurd (not_some live)
below_live next (e ∷ es) n below live =
    by_case (λ rest. below_live next es n (All-tail (λ k. k <ℤ next) e.0 (handles_of es) below) rest) (int_eq e.0 n) refl live
  where
    by_case : (is_some (at_handle es n) ≡ true → n <ℤ next) → (t : Bool) → int_eq e.0 n ≡ t → is_some (cond t (Some e.1) (at_handle es n)) ≡ true
        → n <ℤ next
    by_case rest true same there = subst (λ (k : ℤ). k <ℤ next) (same_int e.0 n same) (All-head (λ k. k <ℤ next) e.0 (handles_of es) below)
    by_case rest false apart there = rest there

pub next_apart : (next n : ℤ) → n <ℤ next → int_eq next n ≡ false
next_apart next n h = grind (arith, ints)
