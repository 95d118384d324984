-- Open changes closed, one buffer after another.
use Rattle.std.proofs.Common.{◌≡◌, ◌≢◌, ℕ, zero, suc, ℤ, pos, ◌+◌, ◌<◌, ◌≤◌, Bool, true, false, cond, ◌||◌, List, [], ◌∷◌, ◌++◌, length, map, take, get_or, All, Option, Some, None, refl, sym, ap, subst, ◌∙◌, arith}
use Rattle.std.specs.Prelude.{◌<ℤ◌, fold, is_some, option_map}
use Rattle.std.specs.Ordering.{int_eq}
use Rattle.std.proofs.lemmas.List.{take_more}
use Rattle.nv_undo.specs.Tree.{IsTree}
use Rattle.nv_buffer.specs.Content.{Content, after_seal, after_seal_of}
use Rattle.nv_buffer.specs.declared.edit.Edit.{Edit}
use Rattle.nv_windows.specs.Sound.{IsRisingFrom}
use Rattle.nv_windows.specs.declared.window.Window.{Window}
use Rattle.nv_model.specs.Buffers.{ModelBuffer, with_seal}
use Rattle.nv_model.specs.Editors.{ModelEditor, at_handle, handles_of, updated_at}
use Rattle.nv_model.specs.Operations.{sealed_in, with_buffer, after_operations}
use Rattle.nv_model.specs.Stage.{Stage}
use Rattle.nv_model.specs.Standing.{Stands, StandsFor, Both}
use Rattle.nv_model.proofs.Lookups.{same_int, int_eq-itself, at_updated, handles-updated}
use Rattle.nv_model.proofs.Sealing.{seal_is_kept}
use Rattle.nv_model.proofs.Telling.{fold-append}
use Rattle.nv_editor.specs.Doing.{Does}
use Rattle.nv_marks.specs.Marks.{Marks}
use Rattle.nv_marks.specs.declared.extmark.Mark.{Mark}
use Rattle.nv_editor.specs.Sound.{content_of, IsSoundEditor, ShowsBuffer, ShowsText, IsOfGroups, AllSealed}
use Rattle.nv_editor.specs.inside.Kept.{AreKeptEdits}
use Rattle.nv_editor.specs.inside.Sealing.{HasSameEntries, with_sealed, after_seals}
use Rattle.nv_editor.specs.inside.Table.{IsUpdatedAt, content_in, is_among, IsKeptBuffer, AreKeptBuffers}
use Rattle.nv_editor.proofs.KeptEdits.{seal_kept_edits}
use Rattle.nv_editor.proofs.StageKept.{editor_of}
use Rattle.nv_editor.proofs.TextDone.{same_lookups}
use Rattle.nv_editor.proofs.Updating.{all_by, all_looked_up, looked_up, either_handle}

sealed_once : (b : Content) → after_seal (after_seal b) ≡ after_seal b
sealed_once b = by b.unsealed refl
  where
    by : (edits : List Edit) → b.unsealed ≡ edits → after_seal (after_seal_of b edits) ≡ after_seal_of b edits
    by [] is = ap (after_seal_of b) is
    by (edit ∷ edits) is = refl

sealed_none : (b : Content) → (after_seal b).unsealed ≡ []
sealed_none b = by b.unsealed refl
  where
    by : (edits : List Edit) → b.unsealed ≡ edits → (after_seal_of b edits).unsealed ≡ []
    by [] is = is
    by (edit ∷ edits) is = refl

sealed_text : (b : Content) → (after_seal b).text ≡ b.text
sealed_text b = by b.unsealed
  where
    by : (edits : List Edit) → (after_seal_of b edits).text ≡ b.text
    by [] = refl
    by (edit ∷ edits) = refl

sealed_marks : (b : Content) → (after_seal b).marks ≡ b.marks
sealed_marks b = by b.unsealed
  where
    by : (edits : List Edit) → (after_seal_of b edits).marks ≡ b.marks
    by [] = refl
    by (edit ∷ edits) = refl

sealed_itself : (b : Content) → b.unsealed ≡ [] → after_seal b ≡ b
sealed_itself b is = ap (after_seal_of b) is

-- ---- one buffer
at_sealed : (es : List (ℤ × Content)) (n k : ℤ) → at_handle (with_sealed es n) k ≡ cond (int_eq n k) (option_map after_seal (at_handle es k)) (at_handle es k)
at_sealed es n k = at_updated n k after_seal es

pub not_there_same : (es : List (ℤ × Content)) (n : ℤ) → is_some (at_handle es n) ≡ false → HasSameEntries es (with_sealed es n)
not_there_same es n none = record {
  lookups = λ k. by_case k (int_eq n k) refl ∙ sym (at_sealed es n k);
  handles = sym (handles-updated n after_seal es);
}
  where
    nothing : (o : Option Content) → is_some o ≡ false → o ≡ option_map after_seal o
    nothing None is = refl
    nothing (Some b) is = cc

    by_case : (k : ℤ) (t : Bool) → int_eq n k ≡ t → at_handle es k ≡ cond t (option_map after_seal (at_handle es k)) (at_handle es k)
    by_case k true same = nothing (at_handle es k) (subst (λ (j : ℤ). is_some (at_handle es j) ≡ false) (same_int n k same) none)
    by_case k false same = refl

pub sealed_same : (es later : List (ℤ × Content)) (n : ℤ) → IsUpdatedAt n es later → content_in later n ≡ after_seal (content_in es n)
    → HasSameEntries later (with_sealed es n)
sealed_same es later n is sealed = record {
  lookups = λ k. by_case k (int_eq n k) refl ∙ sym (at_sealed es n k);
  handles = is.handles ∙ sym (handles-updated n after_seal es);
}
  where
    at_n : at_handle later n ≡ option_map after_seal (at_handle es n)
    at_n = is.becomes ∙ ap (λ (b : Content). Some b) sealed ∙ sym (ap (option_map after_seal) is.was)

    by_case : (k : ℤ) (t : Bool) → int_eq n k ≡ t → at_handle later k ≡ cond t (option_map after_seal (at_handle es k)) (at_handle es k)
    by_case k true same = subst (λ (j : ℤ). at_handle later j ≡ option_map after_seal (at_handle es j)) (same_int n k same) at_n
    by_case k false apart = is.others k other
      where
        other : k ≢ n
        other e =
            let itself : int_eq n n ≡ true = int_eq-itself n in
            let differs : int_eq n n ≡ false = subst (λ (j : ℤ). int_eq n j ≡ false) e apart in
            let both = sym itself ∙ differs in cc

pub left_same : (es later : List (ℤ × Content)) (n : ℤ) → IsUpdatedAt n es later → content_in later n ≡ content_in es n → HasSameEntries later es
left_same es later n is same = record { lookups = same_lookups es later n is same; handles = is.handles }

pub same_itself : (es : List (ℤ × Content)) → HasSameEntries es es
same_itself es = record { lookups = λ k. refl; handles = refl }

pub same_then : (a b d : List (ℤ × Content)) → HasSameEntries a b → HasSameEntries b d → HasSameEntries a d
same_then a b d one two = record { lookups = λ k. one.lookups k ∙ two.lookups k; handles = one.handles ∙ two.handles }

same_sealed : (a b : List (ℤ × Content)) (n : ℤ) → HasSameEntries a b → HasSameEntries (with_sealed a n) (with_sealed b n)
same_sealed a b n is = record {
  lookups = λ k. at_sealed a n k ∙ ap (λ (o : Option Content). cond (int_eq n k) (option_map after_seal o) o) (is.lookups k) ∙ sym (at_sealed b n k);
  handles = handles-updated n after_seal a ∙ is.handles ∙ sym (handles-updated n after_seal b);
}

-- one more is closed
pub seals_more : (es mid later : List (ℤ × Content)) (handles : List ℤ) (i : ℕ) (n : ℤ) → i < length handles → n ≡ get_or handles i n
    → HasSameEntries mid (after_seals es (take i handles)) → HasSameEntries later (with_sealed mid n)
    → HasSameEntries later (after_seals es (take (i + 1) handles))
seals_more es mid later handles i n within is before now =
    subst (λ (l : List (ℤ × Content)). HasSameEntries later l)
    (sym (fold-append with_sealed es (take i handles) (n ∷ []))
    ∙ ap (after_seals es) (sym (take_more handles i n within ∙ ap (λ (k : ℤ). take i handles ++ k ∷ []) (sym is))))
    (same_then later (with_sealed mid n) (with_sealed (after_seals es (take i handles)) n) now (same_sealed mid (after_seals es (take i handles)) n before))

-- ---- what is known of each buffer
some_same : (a b : Content) → Some a ≡ Some b → a ≡ b
some_same a b e = cc

seal_kept : (edited : List ℤ) (n : ℤ) (b : Content) → IsTree b.undo → IsKeptBuffer edited n b → IsKeptBuffer edited n (after_seal b)
seal_kept edited n b tree is = record { edits = seal_kept_edits b tree is.edits; sealed = λ outside. sealed_none b }

pub same_kept : (edited : List ℤ) (es later : List (ℤ × Content)) → HasSameEntries later es → AreKeptBuffers edited es → AreKeptBuffers edited later
same_kept edited es later is kept k c there = kept k c (sym (is.lookups k) ∙ there)

pub sealed_kept : (edited : List ℤ) (es later : List (ℤ × Content)) (n : ℤ) → HasSameEntries later (with_sealed es n)
    → (is_some (at_handle es n) ≡ true → IsTree (content_in es n).undo) → AreKeptBuffers edited es → AreKeptBuffers edited later
sealed_kept edited es later n is tree kept k c there = by_case (int_eq n k) refl (at_handle es k) refl (sym (at_sealed es n k) ∙ sym (is.lookups k) ∙ there)
  where
    by_case : (t : Bool) → int_eq n k ≡ t → (o : Option Content) → at_handle es k ≡ o → cond t (option_map after_seal o) o ≡ Some c → IsKeptBuffer edited k c
    by_case true same None found found_c = cc
    by_case true same (Some b) found found_c =
        subst (λ (d : Content). IsKeptBuffer edited k d) (some_same (after_seal b) c found_c)
        (seal_kept edited k b (tree_of b (same_int n k same) found) (kept k b found))
      where
        tree_of : (d : Content) → n ≡ k → at_handle es k ≡ Some d → IsTree d.undo
        tree_of d e at =
            let here : at_handle es n ≡ Some d = ap (at_handle es) e ∙ at in
            let is_here : is_some (at_handle es n) ≡ true = ap (λ (p : Option Content). is_some p) here in
            let same_d : content_in es n ≡ d = ap (content_of n) here in
            subst (λ (x : Content). IsTree x.undo) same_d (tree is_here)
    by_case false apart o found found_c = kept k c (found ∙ found_c)

-- ---- all of them
map_none : (o : Option Content) → o ≡ option_map (λ (b : Content). b) o
map_none None = refl
map_none (Some b) = refl

at_seals : (hs : List ℤ) (es : List (ℤ × Content)) (k : ℤ)
    → at_handle (after_seals es hs) k ≡ option_map (λ (b : Content). cond (is_among k hs) (after_seal b) b) (at_handle es k)
at_seals [] es k = map_none (at_handle es k)
at_seals (h ∷ hs) es k =
    at_seals hs (with_sealed es h) k
    ∙ ap (option_map (λ (b : Content). cond (is_among k hs) (after_seal b) b)) (at_sealed es h k)
    ∙ step (int_eq h k) (is_among k hs) (at_handle es k)
  where
    step : (t u : Bool) (o : Option Content)
        → option_map (λ (b : Content). cond u (after_seal b) b) (cond t (option_map after_seal o) o) ≡ option_map (λ (b : Content). cond (t || u) (after_seal b) b) o
    step true true None = refl
    step true true (Some b) = ap (λ (d : Content). Some d) (sealed_once b)
    step true false None = refl
    step true false (Some b) = refl
    step false u o = refl

handles_seals : (hs : List ℤ) (es : List (ℤ × Content)) → handles_of (after_seals es hs) ≡ handles_of es
handles_seals [] es = refl
handles_seals (h ∷ hs) es = handles_seals hs (with_sealed es h) ∙ handles-updated h after_seal es

-- the model's are closed too
both_sealed : (o : Option Content) (p : Option ModelBuffer) → Both StandsFor o p → Both StandsFor (option_map after_seal o) (option_map with_seal p)
both_sealed None None both = tt
both_sealed None (Some m) both = absurd both
both_sealed (Some b) None both = absurd both
both_sealed (Some b) (Some m) both = seal_is_kept b m both

one_stands : (es : List (ℤ × Content)) (stage : Stage) (n : ℤ) (m : ModelEditor) → Stands (editor_of es stage) m
    → Stands (editor_of (with_sealed es n) stage) (with_buffer n with_seal m)
one_stands es stage n m stands = record {
  buffers = λ k.
      subst (λ (o : Option Content). Both StandsFor o (at_handle (updated_at n with_seal m.buffers) k)) (sym (at_sealed es n k))
      (subst (λ (p : Option ModelBuffer). Both StandsFor (cond (int_eq n k) (option_map after_seal (at_handle es k)) (at_handle es k)) p) (sym (at_updated n k with_seal m.buffers))
      (by_case (int_eq n k) (at_handle es k) (at_handle m.buffers k) (stands.buffers k)));
  handles = handles-updated n after_seal es ∙ stands.handles ∙ sym (handles-updated n with_seal m.buffers);
  stage = stands.stage;
}
  where
    by_case : (t : Bool) (o : Option Content) (p : Option ModelBuffer) → Both StandsFor o p
        → Both StandsFor (cond t (option_map after_seal o) o) (cond t (option_map with_seal p) p)
    by_case true o p both = both_sealed o p both
    by_case false o p both = both

all_stand : (hs : List ℤ) (es : List (ℤ × Content)) (stage : Stage) (m : ModelEditor) → Stands (editor_of es stage) m
    → Stands (editor_of (after_seals es hs) stage) (after_operations (map sealed_in hs) m)
all_stand [] es stage m stands = stands
all_stand (h ∷ hs) es stage m stands = all_stand hs (with_sealed es h) stage (with_buffer h with_seal m) (one_stands es stage h m stands)

among_handles : (es : List (ℤ × Content)) (k : ℤ) (b : Content) → at_handle es k ≡ Some b → is_among k (handles_of es) ≡ true
among_handles [] k b found = cc
among_handles (e ∷ es) k b found = by_case (λ rest. among_handles es k b rest) (int_eq e.0 k) found
  where
    by_case : (at_handle es k ≡ Some b → is_among k (handles_of es) ≡ true) → (t : Bool) → cond t (Some e.1) (at_handle es k) ≡ Some b
        → (t || is_among k (handles_of es)) ≡ true
    by_case rest true found_b = refl
    by_case rest false found_b = rest found_b

-- what was edited is all that was open
same_seals : (edited : List ℤ) (es : List (ℤ × Content)) → AreKeptBuffers edited es → (k : ℤ)
    → at_handle (after_seals es edited) k ≡ at_handle (after_seals es (handles_of es)) k
same_seals edited es kept k = at_seals edited es k ∙ by_cases (at_handle es k) refl ∙ sym (at_seals (handles_of es) es k)
  where
    by_cases : (o : Option Content) → at_handle es k ≡ o
        → option_map (λ (b : Content). cond (is_among k edited) (after_seal b) b) o ≡ option_map (λ (b : Content). cond (is_among k (handles_of es)) (after_seal b) b) o
    by_cases None found = refl
    by_cases (Some b) found =
        ap (λ (d : Content). Some d) (by_test (is_among k edited) refl ∙ sym (ap (λ (t : Bool). cond t (after_seal b) b) (among_handles es k b found)))
      where
        by_test : (t : Bool) → is_among k edited ≡ t → cond t (after_seal b) b ≡ after_seal b
        by_test true is = refl
        by_test false is = sym (sealed_itself b ((kept k b found).sealed is))

pub sealed_done : (edited : List ℤ) (bs later : List (ℤ × Content)) (stage : Stage) → AreKeptBuffers edited bs → HasSameEntries later (after_seals bs edited)
    → Does (map sealed_in (handles_of bs)) (editor_of bs stage) (editor_of later stage)
sealed_done edited bs later stage kept is m stands =
    let all = all_stand (handles_of bs) bs stage m stands in record {
      buffers = λ k. subst (λ (o : Option Content). Both StandsFor o (at_handle (after_operations (map sealed_in (handles_of bs)) m).buffers k))
          (sym (is.lookups k ∙ same_seals edited bs kept k)) (all.buffers k);
      handles = is.handles ∙ handles_seals edited bs ∙ sym (handles_seals (handles_of bs) bs) ∙ all.handles;
      stage = all.stage;
    }

-- ---- soundness
module _ (hs : List ℤ) (bs later : List (ℤ × Content)) (is : HasSameEntries later (after_seals bs hs)) where
  pub at_later : (k : ℤ) → at_handle later k ≡ option_map (λ (b : Content). cond (is_among k hs) (after_seal b) b) (at_handle bs k)
  at_later k = is.lookups k ∙ at_seals hs bs k

  pub handles_later : handles_of later ≡ handles_of bs
  handles_later = is.handles ∙ handles_seals hs bs

text_if : (t : Bool) (b : Content) → (cond t (after_seal b) b).text ≡ b.text
text_if true b = sealed_text b
text_if false b = refl

marks_if : (t : Bool) (b : Content) → (cond t (after_seal b) b).marks ≡ b.marks
marks_if true b = sealed_marks b
marks_if false b = refl

mapped_some : (f : Content → Content) (o : Option Content) (c : Content) → option_map f o ≡ Some c → (b : Content) × (o ≡ Some b) × (c ≡ f b)
mapped_some f None c e = cc
mapped_some f (Some b) c e = (b, refl, sym (some_same (f b) c e))

pub sealed_sound : (hs : List ℤ) (bs later : List (ℤ × Content)) (stage : Stage) → HasSameEntries later (after_seals bs hs)
    → IsSoundEditor (editor_of bs stage) → IsSoundEditor (editor_of later stage)
sealed_sound hs bs later stage is sound =
    let handles = handles_later hs bs later is in
    let rises : IsRisingFrom (pos 1) (handles_of later) = subst (IsRisingFrom (pos 1)) (sym handles) sound.rising in record {
      workspace = sound.workspace;
      rising = rises;
      below = subst (λ (l : List ℤ). All (λ k. k <ℤ stage.next_buffer) l) (sym handles) sound.below;
      next_buffer = sound.next_buffer;
      shown =
          all_by (λ (w : Window). ShowsBuffer (at_handle bs w.buffer) w) (λ (w : Window). ShowsBuffer (at_handle later w.buffer) w)
          (λ w shows. subst (λ (o : Option Content). ShowsBuffer o w) (sym (at_later hs bs later is w.buffer)) (shows_if (is_among w.buffer hs) (at_handle bs w.buffer) w shows))
          stage.workspace.windows sound.shown;
      painted =
          all_looked_up (λ (b : Content). All (IsOfGroups stage.groups) b.marks.marks) (pos 1) later rises
          (λ k c there. painted_if k c (mapped_some (λ (b : Content). cond (is_among k hs) (after_seal b) b) (at_handle bs k) c (sym (at_later hs bs later is k) ∙ there)));
      uis = sound.uis;
    }
  where
    shows_if : (t : Bool) (o : Option Content) (w : Window) → ShowsBuffer o w → ShowsBuffer (option_map (λ (b : Content). cond t (after_seal b) b) o) w
    shows_if t None w shows = absurd shows
    shows_if t (Some b) w shows = subst (λ (text : List (List ℕ)). ShowsText text w) (sym (text_if t b)) shows

    painted_if : (k : ℤ) (c : Content) → (b : Content) × (at_handle bs k ≡ Some b) × (c ≡ cond (is_among k hs) (after_seal b) b)
        → All (IsOfGroups stage.groups) c.marks.marks
    painted_if k c found =
        subst (λ (ms : List Mark). All (IsOfGroups stage.groups) ms)
        (sym (ap (λ (d : Content). d.marks.marks) found.2 ∙ ap (λ (g : Marks). g.marks) (marks_if (is_among k hs) found.0)))
        (looked_up (λ (b : Content). All (IsOfGroups stage.groups) b.marks.marks) bs k found.0 sound.painted found.1)

-- no change is open
pub none_open : (edited : List ℤ) (bs later : List (ℤ × Content)) → HasSameEntries later (after_seals bs edited) → AreKeptBuffers edited bs
    → (k : ℤ) (c : Content) → at_handle later k ≡ Some c → c.unsealed ≡ []
none_open edited bs later is kept k c there =
    from (mapped_some (λ (b : Content). cond (is_among k edited) (after_seal b) b) (at_handle bs k) c (sym (at_later edited bs later is k) ∙ there))
  where
    by_test : (b : Content) → at_handle bs k ≡ Some b → (t : Bool) → is_among k edited ≡ t → (cond t (after_seal b) b).unsealed ≡ []
    by_test b found true among = sealed_none b
    by_test b found false outside = (kept k b found).sealed outside

    from : (b : Content) × (at_handle bs k ≡ Some b) × (c ≡ cond (is_among k edited) (after_seal b) b) → c.unsealed ≡ []
    from found = ap (λ (d : Content). d.unsealed) found.2 ∙ by_test found.0 found.1 (is_among k edited) refl

pub sealed_all : (edited : List ℤ) (bs later : List (ℤ × Content)) (stage : Stage) → HasSameEntries later (after_seals bs edited)
    → AreKeptBuffers edited bs → IsSoundEditor (editor_of bs stage) → AllSealed (editor_of later stage)
sealed_all edited bs later stage is kept sound =
    all_looked_up (λ (b : Content). b.unsealed ≡ []) (pos 1) later (subst (IsRisingFrom (pos 1)) (sym (handles_later edited bs later is)) sound.rising)
    (none_open edited bs later is kept)

pub kept_none : (edited : List ℤ) (bs later : List (ℤ × Content)) → HasSameEntries later (after_seals bs edited) → AreKeptBuffers edited bs
    → AreKeptBuffers edited later → AreKeptBuffers [] later
kept_none edited bs later is before kept k c there =
    record { edits = (kept k c there).edits; sealed = λ outside. none_open edited bs later is before k c there }

pub same_at : (xs : List ℤ) (i : ℕ) (d e : ℤ) → i < length xs → get_or xs i d ≡ get_or xs i e
same_at [] i d e h = absurd (omega arith)
same_at (x ∷ xs) zero d e h = refl
same_at (x ∷ xs) (suc i) d e h = same_at xs i d e (omega arith)
