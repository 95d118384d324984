-- An editor with one buffer updated.
use Rattle.std.proofs.Common.{◌≡◌, ◌≢◌, ℕ, ℤ, pos, ◌+◌, ◌<◌, ◌≤◌, ◌+ℤ◌, Bool, true, false, cond, List, [], ◌∷◌, length, All, Option, Some, None, refl, sym, ap, subst, ◌∙◌, arith}
use Rattle.std.specs.Prelude.{◌≤ℤ◌, ◌<ℤ◌, IfSome}
use Rattle.std.specs.Ordering.{int_eq}
use Rattle.std.proofs.lemmas.Int.{ints}
use Rattle.std.proofs.lemmas.List.Elements.{All-head, All-tail, All-nil, All-cons}
use Rattle.nv_marks.specs.Marks.{Marks}
use Rattle.nv_marks.specs.declared.extmark.Mark.{Mark}
use Rattle.nv_hl.specs.Groups.{NamedGroup}
use Rattle.nv_buffer.specs.Content.{Content}
use Rattle.nv_windows.specs.Rooms.{last_handle}
use Rattle.nv_windows.specs.Sound.{IsRisingFrom, IsSoundWorkspace}
use Rattle.nv_windows.specs.declared.window.Window.{Window}
use Rattle.nv_model.specs.Buffers.{ModelBuffer}
use Rattle.nv_model.specs.Editors.{ModelEditor, at_handle, handles_of}
use Rattle.nv_model.specs.Keeping.{IsBufferUpdated}
use Rattle.nv_model.specs.Operations.{with_buffer}
use Rattle.nv_model.specs.Stage.{Stage}
use Rattle.nv_model.specs.Standing.{PresentEditor, StandsFor, Stands}
use Rattle.nv_model.proofs.Changing.{buffer_update_is_kept}
use Rattle.nv_model.proofs.Lookups.{same_int, int_eq-itself}
use Rattle.nv_editor.specs.Sound.{IsSoundEditor, ShowsBuffer, ShowsText, IsOfGroups}
use Rattle.nv_editor.specs.Uis.{AreSoundUis}
use Rattle.nv_editor.specs.inside.Kept.{AreKeptEdits}
use Rattle.nv_editor.specs.inside.Table.{IsUpdatedAt, content_in, is_among, IsKeptBuffer, AreKeptBuffers}
use Rattle.nv_editor.proofs.KeptEdits.{same_kept_edits}
use Rattle.nv_editor.proofs.StageKept.{editor_of}

pub all_by : {X : Type 0} (P Q : X → Type 0) → ((x : X) → P x → Q x) → (xs : List X) → All P xs → All Q xs
all_by P Q f [] all = All-nil Q
all_by P Q f (x ∷ xs) all = All-cons Q x xs (f x (All-head P x xs all)) (all_by P Q f xs (All-tail P x xs all))

-- a handle is this one, or another
pub either_handle : (Q : Type 0) (k n : ℤ) → (k ≡ n → Q) → (k ≢ n → Q) → Q
either_handle Q k n same other = by_case (int_eq k n) refl
  where
    by_case : (t : Bool) → int_eq k n ≡ t → Q
    by_case true is = same (same_int k n is)
    by_case false is = other (λ e. differ (subst (λ j. int_eq k j ≡ false) (sym e) is))
      where
        differ : int_eq k k ≡ false → ⊥
        differ apart = let itself : int_eq k k ≡ true = int_eq-itself k in let both = sym itself ∙ apart in cc

-- what holds of all entries holds of one that is looked up
pub looked_up : (P : Content → Type 0) (es : List (ℤ × Content)) (n : ℤ) (b : Content) → All (λ (e : ℤ × Content). P e.1) es
    → at_handle es n ≡ Some b → P b
looked_up P [] n b all is = cc
looked_up P (e ∷ es) n b all is =
    by_case (λ there. looked_up P es n b (All-tail (λ (d : ℤ × Content). P d.1) e es all) there) (int_eq e.0 n) is
  where
    by_case : (at_handle es n ≡ Some b → P b) → (t : Bool) → cond t (Some e.1) (at_handle es n) ≡ Some b → P b
    by_case rest true found = let same : e.1 ≡ b = cc in subst P same (All-head (λ (d : ℤ × Content). P d.1) e es all)
    by_case rest false found = rest found

below_none : (low n : ℤ) (es : List (ℤ × Content)) (b : Content) → IsRisingFrom low (handles_of es) → at_handle es n ≡ Some b → low ≤ℤ n
below_none low n [] b r is = cc
below_none low n (e ∷ es) b r is = by_case (λ found. below_none (e.0 +ℤ pos 1) n es b r.1 found) (int_eq e.0 n) refl is
  where
    above : (e.0 +ℤ pos 1) ≤ℤ n → low ≤ℤ n
    above h = omega (arith, ints, r.0, h)

    at : e.0 ≡ n → low ≤ℤ n
    at same = subst (λ k. low ≤ℤ k) same r.0

    by_case : (at_handle es n ≡ Some b → (e.0 +ℤ pos 1) ≤ℤ n) → (t : Bool) → int_eq e.0 n ≡ t → cond t (Some e.1) (at_handle es n) ≡ Some b
        → low ≤ℤ n
    by_case rest true eq found = at (same_int e.0 n eq)
    by_case rest false eq found = above (rest found)

apart_above : (a n : ℤ) → (a +ℤ pos 1) ≤ℤ n → int_eq a n ≡ false
apart_above a n h = grind (arith, ints)

-- what holds of each that is looked up holds of all entries, where handles rise
pub all_looked_up : (P : Content → Type 0) (low : ℤ) (es : List (ℤ × Content)) → IsRisingFrom low (handles_of es)
    → ((n : ℤ) (b : Content) → at_handle es n ≡ Some b → P b) → All (λ (e : ℤ × Content). P e.1) es
all_looked_up P low [] r each = All-nil (λ (e : ℤ × Content). P e.1)
all_looked_up P low (e ∷ es) r each =
    All-cons (λ (d : ℤ × Content). P d.1) e es
    (each e.0 e.1 (ap (λ (t : Bool). cond t (Some e.1) (at_handle es e.0)) (int_eq-itself e.0)))
    (all_looked_up P (e.0 +ℤ pos 1) es r.1 (λ n b there. each n b
    (ap (λ (t : Bool). cond t (Some e.1) (at_handle es n)) (apart_above e.0 n (below_none (e.0 +ℤ pos 1) n es b r.1 there)) ∙ there)))

some_same : {X : Type 0} (a b : X) → Some a ≡ Some b → a ≡ b
some_same a b e = cc

-- what holds of the updated buffer and held of the others holds of each that is looked up
pub each_updated : (P : ℤ → Content → Type 0) (bs later : List (ℤ × Content)) (n : ℤ) → IsUpdatedAt n bs later → P n (content_in later n)
    → ((k : ℤ) (b : Content) → k ≢ n → at_handle bs k ≡ Some b → P k b) → (k : ℤ) (c : Content) → at_handle later k ≡ Some c → P k c
each_updated P bs later n is here others k c there =
    either_handle (P k c) k n
    (λ same. subst (λ (j : ℤ). P j c) (sym same)
    (subst (λ (d : Content). P n d) (some_same (content_in later n) c (sym is.becomes ∙ subst (λ (j : ℤ). at_handle later j ≡ Some c) same there)) here))
    (λ other. others k c other (sym (is.others k other) ∙ there))

-- ---- soundness
pub sound_updated : (bs later : List (ℤ × Content)) (stage new : Stage) (n : ℤ) → IsSoundEditor (editor_of bs stage) → IsUpdatedAt n bs later
    → IsSoundWorkspace new.workspace → new.next_buffer ≡ stage.next_buffer → new.groups ≡ stage.groups
    → All (λ (w : Window). ShowsBuffer (at_handle later w.buffer) w) new.workspace.windows
    → All (IsOfGroups stage.groups) (content_in later n).marks.marks → AreSoundUis new.uis new.workspace.width new.workspace.height
    → IsSoundEditor (editor_of later new)
sound_updated bs later stage new n sound is workspace next groups shown painted uis =
    let rises : IsRisingFrom (pos 1) (handles_of later) = subst (IsRisingFrom (pos 1)) (sym is.handles) sound.rising in
    let all : All (λ (e : ℤ × Content). All (IsOfGroups stage.groups) e.1.marks.marks) later =
    all_looked_up (λ (b : Content). All (IsOfGroups stage.groups) b.marks.marks) (pos 1) later rises
    (each_updated (λ k b. All (IsOfGroups stage.groups) b.marks.marks) bs later n is painted
    (λ k b other there. looked_up (λ (c : Content). All (IsOfGroups stage.groups) c.marks.marks) bs k b sound.painted there)) in record {
      workspace = workspace;
      rising = rises;
      below = subst (λ (m : ℤ). All (λ k. k <ℤ m) (handles_of later)) (sym next) (subst (λ (l : List ℤ). All (λ k. k <ℤ stage.next_buffer) l) (sym is.handles) sound.below);
      next_buffer = subst (λ (m : ℤ). (pos 1 ≤ℤ m) × (m ≤ℤ (last_handle +ℤ pos 1))) (sym next) sound.next_buffer;
      shown = shown;
      painted = subst (λ (gs : List NamedGroup). All (λ (e : ℤ × Content). All (IsOfGroups gs) e.1.marks.marks) later) (sym groups) all;
      uis = uis;
    }

-- a window shows what it showed, where the text is the same
shows_same : (bs later : List (ℤ × Content)) (n : ℤ) → IsUpdatedAt n bs later → (content_in later n).text ≡ (content_in bs n).text → (w : Window)
    → ShowsBuffer (at_handle bs w.buffer) w → ShowsBuffer (at_handle later w.buffer) w
shows_same bs later n is text w shows = either_handle (ShowsBuffer (at_handle later w.buffer) w) w.buffer n at_n elsewhere
  where
    at_n : w.buffer ≡ n → ShowsBuffer (at_handle later w.buffer) w
    at_n same =
        let was : ShowsText (content_in bs n).text w = subst (λ (o : Option Content). ShowsBuffer o w) is.was (subst (λ (k : ℤ). ShowsBuffer (at_handle bs k) w) same shows) in
        subst (λ (k : ℤ). ShowsBuffer (at_handle later k) w) (sym same)
        (subst (λ (o : Option Content). ShowsBuffer o w) (sym is.becomes) (subst (λ (t : List (List ℕ)). ShowsText t w) (sym text) was))

    elsewhere : w.buffer ≢ n → ShowsBuffer (at_handle later w.buffer) w
    elsewhere other = subst (λ (o : Option Content). ShowsBuffer o w) (sym (is.others w.buffer other)) shows

-- an editor in which neither the text nor a window changes
pub text_same_sound : (bs later : List (ℤ × Content)) (stage : Stage) (n : ℤ) → IsSoundEditor (editor_of bs stage) → IsUpdatedAt n bs later
    → (content_in later n).text ≡ (content_in bs n).text → All (IsOfGroups stage.groups) (content_in later n).marks.marks
    → IsSoundEditor (editor_of later stage)
text_same_sound bs later stage n sound is text painted =
    sound_updated bs later stage stage n sound is sound.workspace refl refl
    (all_by (λ (w : Window). ShowsBuffer (at_handle bs w.buffer) w) (λ (w : Window). ShowsBuffer (at_handle later w.buffer) w) (shows_same bs later n is text)
    stage.workspace.windows sound.shown) painted sound.uis

-- the groups of the marks that were there
pub painted_there : (bs later : List (ℤ × Content)) (stage : Stage) (n : ℤ) → IsSoundEditor (editor_of bs stage) → IsUpdatedAt n bs later
    → All (IsOfGroups stage.groups) (content_in bs n).marks.marks
painted_there bs later stage n sound is =
    looked_up (λ (b : Content). All (IsOfGroups stage.groups) b.marks.marks) bs n (content_in bs n) sound.painted is.was

pub option_sound : (bs later : List (ℤ × Content)) (stage : Stage) (n : ℤ) → IsSoundEditor (editor_of bs stage) → IsUpdatedAt n bs later
    → (content_in later n).text ≡ (content_in bs n).text → (content_in later n).marks ≡ (content_in bs n).marks
    → IsSoundEditor (editor_of later stage)
option_sound bs later stage n sound is text marks =
    text_same_sound bs later stage n sound is text
    (subst (λ (k : Marks). All (IsOfGroups stage.groups) k.marks) (sym marks) (painted_there bs later stage n sound is))

-- ---- what is known of each buffer
pub kept_updated : (edited more : List ℤ) (bs later : List (ℤ × Content)) (n : ℤ) → AreKeptBuffers edited bs → IsUpdatedAt n bs later
    → IsKeptBuffer more n (content_in later n) → ((k : ℤ) → is_among k more ≡ false → is_among k edited ≡ false) → AreKeptBuffers more later
kept_updated edited more bs later n kept is here grows =
    each_updated (IsKeptBuffer more) bs later n is here
    (λ k b other there. let was = kept k b there in record { edits = was.edits; sealed = λ outside. was.sealed (grows k outside) })

pub option_kept : (edited : List ℤ) (bs later : List (ℤ × Content)) (n : ℤ) → AreKeptBuffers edited bs → IsUpdatedAt n bs later
    → (content_in later n).undo ≡ (content_in bs n).undo → (content_in later n).unsealed ≡ (content_in bs n).unsealed
    → AreKeptBuffers edited later
option_kept edited bs later n kept is undo unsealed =
    let was = kept n (content_in bs n) is.was in
    kept_updated edited edited bs later n kept is
    (record {
      edits = same_kept_edits (content_in bs n) (content_in later n) undo unsealed was.edits;
      sealed = λ outside. unsealed ∙ was.sealed outside;
    })
    (λ k outside. outside)

-- ---- the model
pub buffer_done : (bs later : List (ℤ × Content)) (stage : Stage) (old : PresentEditor) (n : ℤ) (update : ModelBuffer → ModelBuffer)
    → editor_of bs stage ≡ old → IsUpdatedAt n bs later
    → ((x : ModelBuffer) → StandsFor (content_in bs n) x → StandsFor (content_in later n) (update x))
    → (m : ModelEditor) → Stands old m → Stands (editor_of later stage) (with_buffer n update m)
buffer_done bs later stage old n update view is goes_on m stands =
    buffer_update_is_kept (editor_of bs stage) (editor_of later stage) n (content_in bs n) (content_in later n) update m
    (record { was = is.was; becomes = is.becomes; others = is.others; handles = is.handles }) refl goes_on
    (subst (λ (e : PresentEditor). Stands e m) (sym view) stands)

-- a buffer that is, but for a part of it, the one that was there
pub stands_as : (c d : Content) (x : ModelBuffer) → c ≡ d → StandsFor d x → StandsFor c x
stands_as c d x same stands = subst (λ (e : Content). StandsFor e x) (sym same) stands
