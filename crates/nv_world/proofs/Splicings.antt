-- The splices of a call, and those that are kept of the last entry.
use Rattle.std.proofs.Common.{◌≡◌, ℕ, ◌+◌, ◌<◌, ◌≤◌, List, [], ◌∷◌, ◌++◌, length, take, get_or, refl, sym, ap, ◌∙◌, subst, subst₂, append-nil, append_assoc, Some}
use Rattle.std.specs.Prelude.{flat_map}
use Rattle.std.proofs.lemmas.List.{take_more, take_all}
use Rattle.nv_model.specs.declared.parts.Limits.{Limits}
use Rattle.nv_model.specs.Editors.{ModelEditor}
use Rattle.nv_model.specs.Answers.{Fact as ModelFact}
use Rattle.nv_editor.specs.Facts.{fact_of, facts_of}
use Rattle.nv_editor.specs.declared.happened.Fact.{Fact}
use Rattle.nv_rpc.specs.Calls.{Call}
use Rattle.nv_history.specs.Worlds.{World, outcome_of_frame}
use Rattle.nv_history.specs.Runs.{run}
use Rattle.nv_core.specs.Contents.{plain_entries, plain_event}
use Rattle.nv_world.specs.Steps.{splices_by, splices_of_event, AreLastSplices}
use Rattle.nv_core.specs.declared.entry.Entry.{Entry}
use Rattle.nv_world.specs.declared.step.Moved.{Moved}
use Rattle.nv_world.specs.inside.Splicing.{splice_told, splices_told}
use Rattle.nv_world.proofs.CallsSplice.{frame_told}
use Rattle.nv_world.proofs.Entries.{one_world}

-- ---- facts one by one
told_push : (facts : List Fact) (fact : Fact) → splices_told (facts_of (facts ++ fact ∷ [])) ≡ splices_told (facts_of facts) ++ splice_told (fact_of fact)
told_push [] fact = append-nil (splice_told (fact_of fact))
told_push (f ∷ facts) fact =
    ap (λ (l : List Moved). splice_told (fact_of f) ++ l) (told_push facts fact)
    ∙ sym (append_assoc (splice_told (fact_of f)) (splices_told (facts_of facts)) (splice_told (fact_of fact)))

pub told_next : (facts : List Fact) (i : ℕ) (d : Fact) (old now later : List Moved) → i < length facts
    → now ≡ old ++ splices_told (facts_of (take i facts)) → later ≡ now ++ splice_told (fact_of (get_or facts i d))
    → later ≡ old ++ splices_told (facts_of (take (i + 1) facts))
told_next facts i d old now later within so_far one =
    one
    ∙ ap (λ (l : List Moved). l ++ splice_told (fact_of (get_or facts i d))) so_far
    ∙ append_assoc old (splices_told (facts_of (take i facts))) (splice_told (fact_of (get_or facts i d)))
    ∙ ap (λ (l : List Moved). old ++ l)
    (sym (ap (λ (l : List Fact). splices_told (facts_of l)) (take_more facts i d within) ∙ told_push (take i facts) (get_or facts i d)))

pub told_whole : (facts : List Fact) (i : ℕ) (old now : List Moved) → length facts ≤ i → now ≡ old ++ splices_told (facts_of (take i facts))
    → now ≡ old ++ splices_told (facts_of facts)
told_whole facts i old now past so_far = so_far ∙ ap (λ (l : List Fact). old ++ splices_told (facts_of l)) (take_all i facts past)

-- ---- a call
pub call_splices : (m : ModelEditor) (s : ℕ) (call : Call) (facts : List ModelFact) (old now : List Moved) → facts ≡ (outcome_of_frame m s call).facts
    → now ≡ old ++ splices_told facts → now ≡ old ++ splices_by (outcome_of_frame m s call).operations
call_splices m s call facts old now told is =
    is ∙ ap (λ (l : List ModelFact). old ++ splices_told l) told ∙ ap (λ (l : List Moved). old ++ l) (frame_told m s call)

-- ---- the last entry
not_empty : (xs : List Entry) (e : Entry) → xs ++ e ∷ [] ≡ [] → ⊥
not_empty [] e same = cc (same)
not_empty (x ∷ xs) e same = cc (same)

-- what two lists with one more entry each are
record SameEnds (xs ys : List Entry) (e f : Entry) : Type 0 where
  pub front : xs ≡ ys
  pub end : e ≡ f

abbrev one_in : Entry → List Entry → List Entry
one_in d [] = []
one_in d (x ∷ xs) = xs

same_ends : (xs ys : List Entry) (e f : Entry) → xs ++ e ∷ [] ≡ ys ++ f ∷ [] → SameEnds xs ys e f
same_ends [] [] e f same = record { front = refl; end = cc (same) }
same_ends [] (y ∷ ys) e f same = absurd (not_empty ys f (sym (ap (one_in e) same)))
same_ends (x ∷ xs) [] e f same = absurd (not_empty xs e (ap (one_in e) same))
same_ends (x ∷ xs) (y ∷ ys) e f same =
    let rest = same_ends xs ys e f (ap (one_in e) same) in
    let head : x ≡ y = cc (same) in
    record { front = ap (λ (z : Entry). z ∷ xs) head ∙ ap (λ (l : List Entry). y ∷ l) rest.front; end = rest.end }

pub last_pushed : (capacity : ℕ) (limits : Limits) (entries later : List Entry) (entry : Entry) (w : World) (splices : List Moved)
    → later ≡ entries ++ entry ∷ [] → run capacity limits (plain_entries entries) ≡ Some w → splices ≡ splices_of_event w (plain_event entry.event)
    → AreLastSplices capacity limits later splices
last_pushed capacity limits entries later entry w splices pushed runs are = record {
  none = λ empty. absurd (not_empty entries entry (sym pushed ∙ empty));
  last = λ before e v same runs_v.
      let ends = same_ends entries before entry e (sym pushed ∙ same) in
      let worlds : w ≡ v = one_world (run capacity limits (plain_entries before)) w v (ap (λ (l : List Entry). run capacity limits (plain_entries l)) (sym ends.front) ∙ runs) runs_v in
      are ∙ ap (λ (u : World). splices_of_event u (plain_event entry.event)) worlds ∙ ap (λ (x : Entry). splices_of_event v (plain_event x.event)) ends.end;
}

pub last_of_none : (capacity : ℕ) (limits : Limits) (entries : List Entry) (splices : List Moved) → entries ≡ [] → splices ≡ []
    → AreLastSplices capacity limits entries splices
last_of_none capacity limits entries splices none are = record {
  none = λ empty. are;
  last = λ before e v same runs. absurd (not_empty before e (sym same ∙ none));
}
