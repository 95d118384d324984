-- Lemmas on a buffer in which an edit is made, with the step that is kept of it.
use Rattle.std.proofs.Common.{◌≡◌, ℕ, ℤ, pos, ◌+ℤ◌, true, List, [], ◌∷◌, ◌++◌, filter, Result, Ok, Err, OnOk, OnErr, refl, sym, ap, subst, ◌∙◌}
use Rattle.std.specs.Result.{IsErrAnd}
use Rattle.nv_marks.specs.Marks.{Marks}
use Rattle.nv_marks.specs.declared.keeping.Kept.{Kept}
use Rattle.nv_undo.specs.Tree.{Undo}
use Rattle.nv_buffer.specs.Splices.{IsNarrowText}
use Rattle.nv_buffer.specs.Changes.{lines_after, Fits, text_at}
use Rattle.nv_buffer.specs.Content.{Content, after_edit, kept_by}
use Rattle.nv_buffer.specs.KeptMarks.{is_kept_in, kept_at, with_part}
use Rattle.nv_buffer.specs.Marks.{AreMarksIn, marks_after}
use Rattle.nv_buffer.specs.Steps.{edit_ahead, tree_ahead, edits_since, IsKept, IsBuffer, AllLeadBack}
use Rattle.nv_buffer.specs.declared.edit.ChangePart.{ChangePart}
use Rattle.nv_buffer.specs.declared.edit.Edit.{Edit}
use Rattle.nv_buffer.specs.declared.step.Step.{Step}
use Rattle.nv_buffer.proofs.Keeping.{edit_kept, text_of_buffer}
use Rattle.nv_buffer.proofs.LeadingBack.{edit_leads}
use Rattle.nv_buffer.proofs.Placing.{marks_stay}
use Rattle.nv_buffer.proofs.StepsAhead.{edits_ahead-push}

-- what is known of the buffer afterwards
pub record Made (text : List (List ℕ)) (tick : ℤ) (tree : Undo (List Step)) (steps : List Step) (marks : Marks) : Type 0 where
  pub narrow : IsNarrowText text
  pub buffer : IsBuffer text tick (tree_ahead tree) (edits_since tree steps)
  pub lead : AllLeadBack tree steps
  pub places : AreMarksIn text marks

-- the marks after an edit, with what was kept of them that has places of the text put back
abbrev pub marks_by_text : List (List ℕ) → List Kept → Marks → Edit → Marks
marks_by_text text kept marks edit = marks_after (filter (is_kept_in (lines_after text edit)) kept) marks edit

edit_made : (text : List (List ℕ)) (tick : ℤ) (tree : Undo (List Step)) (steps : List Step) (kept : List Kept) (marks : Marks) (step : Step)
    → IsBuffer text tick (tree_ahead tree) (edits_since tree steps) → AllLeadBack tree steps → AreMarksIn text marks
    → Fits text (edit_ahead text step) → IsKept text step
    → Made (lines_after text (edit_ahead text step)) (tick +ℤ pos 1) tree (steps ++ step ∷ []) (marks_by_text text kept marks (edit_ahead text step))
edit_made text tick tree steps kept marks step is lead are fits has = record {
  narrow = fits.narrow;
  buffer =
      subst (λ (es : List Edit). IsBuffer (lines_after text (edit_ahead text step)) (tick +ℤ pos 1) (tree_ahead tree) es)
      (sym (edits_ahead-push (text_at (tree_ahead tree) tree.current) text steps step is.now))
      (edit_kept text tick (tree_ahead tree) (edits_since tree steps) (edit_ahead text step) is fits);
  lead = edit_leads text tree steps step lead is.now has;
  places = marks_stay text (edit_ahead text step) kept marks (text_of_buffer text tick (tree_ahead tree) (edits_since tree steps) is) fits are;
}

-- the same of what stands in the buffer then
pub edit_stands : (inside now : List (List ℕ)) (tick later : ℤ) (tree : Undo (List Step)) (steps more : List Step) (kept_before : List Kept) (marks moved : Marks)
    (edit : Edit) (step : Step) → IsBuffer inside tick (tree_ahead tree) (edits_since tree steps) → AllLeadBack tree steps
    → AreMarksIn inside marks → Fits inside edit → edit_ahead inside step ≡ edit → IsKept inside step
    → now ≡ lines_after inside edit → later ≡ tick +ℤ pos 1 → more ≡ steps ++ step ∷ [] → moved ≡ marks_by_text inside kept_before marks edit
    → Made now later tree more moved
edit_stands inside now tick later tree steps more kept_before marks moved edit step is lead are fits same kept now_is later_is more_is moved_is =
    let here : Fits inside (edit_ahead inside step) = subst (λ (e : Edit). Fits inside e) (sym same) fits in
    let n : now ≡ lines_after inside (edit_ahead inside step) = now_is ∙ ap (lines_after inside) (sym same) in
    let m : moved ≡ marks_by_text inside kept_before marks (edit_ahead inside step) = moved_is ∙ ap (marks_by_text inside kept_before marks) (sym same) in
    rw (n, later_is, more_is, m) (edit_made inside tick tree steps kept_before marks step is lead are here kept)

-- the step behind those that were there
pub step_pushed : (old room now : List Step) (step : Step) → room ≡ old → now ≡ room ++ step ∷ [] → now ≡ old ++ step ∷ []
step_pushed old room now step room_is now_is = now_is ∙ ap (λ (ss : List Step). ss ++ step ∷ []) room_is

pub edits_pushed : (text : List (List ℕ)) (tick : ℤ) (tree : Undo (List Step)) (old now : List Step) (edit : Edit) (step : Step)
    → IsBuffer text tick (tree_ahead tree) (edits_since tree old) → edit_ahead text step ≡ edit → now ≡ old ++ step ∷ []
    → edits_since tree now ≡ edits_since tree old ++ edit ∷ []
edits_pushed text tick tree old now edit step is same now_is =
    ap (edits_since tree) now_is
    ∙ edits_ahead-push (text_at (tree_ahead tree) tree.current) text old step is.now
    ∙ ap (λ (e : Edit). edits_since tree old ++ e ∷ []) same

-- the buffer as it is seen then
pub edited_is : (before now : Content) (edit : Edit) (text : List (List ℕ)) (tick : ℤ) (marks : Marks) (kept : List ((ℕ × ℕ) × List Kept))
    (unsealed : List Edit) → before ≡ now → text ≡ lines_after before.text edit → tick ≡ before.tick +ℤ pos 1
    → marks ≡ marks_by_text before.text (kept_at before.kept edit.part) before.marks edit → kept ≡ kept_by before edit
    → unsealed ≡ before.unsealed ++ edit ∷ []
    → record before { text = text; tick = tick; modified = true; marks = marks; kept = kept; unsealed = unsealed } ≡ after_edit now edit
edited_is before now edit text tick marks kept unsealed same text_is tick_is marks_is kept_is unsealed_is =
    (λ i. record before { text = text_is i; tick = tick_is i; modified = true; marks = marks_is i; kept = kept_is i; unsealed = unsealed_is i })
    ∙ ap (λ (b : Content). after_edit b edit) same

-- the marks once what the step before kept of them is put back where it has places of the text
pub marks_carried : (now text : List (List ℕ)) (entries before : List ((ℕ × ℕ) × List Kept)) (marks later : Marks) (edit : Edit)
    → now ≡ lines_after text edit → entries ≡ before
    → later ≡ marks_after (filter (is_kept_in now) (kept_at entries edit.part)) marks edit
    → later ≡ marks_by_text text (kept_at before edit.part) marks edit
marks_carried now text entries before marks later edit now_is same later_is =
    later_is ∙ (λ i. marks_after (filter (is_kept_in (now_is i)) (kept_at (same i) edit.part)) marks edit)

-- and what is kept of them then
pub kept_carried : (part : ChangePart) (found kept : List Kept) (entries before after : List ((ℕ × ℕ) × List Kept)) → entries ≡ before
    → found ≡ kept → after ≡ with_part part found entries → after ≡ with_part part kept before
kept_carried part found kept entries before after same found_is after_is = after_is ∙ (λ i. with_part part (found_is i) (same i))

-- the buffer as it is seen where memory was wanting
pub nothing_made : (before now : Content) (text : List (List ℕ)) (kept : List ((ℕ × ℕ) × List Kept)) (unsealed : List Edit) → before ≡ now
    → text ≡ before.text → kept ≡ before.kept → unsealed ≡ before.unsealed
    → record before { text = text; kept = kept; unsealed = unsealed } ≡ now
nothing_made before now text kept unsealed same text_is kept_is unsealed_is =
    (λ i. record before { text = text_is i; kept = kept_is i; unsealed = unsealed_is i }) ∙ same

pub on_err : {T E P : Type 0} (r : Result T E) → P → OnErr r P
on_err (Ok x) p = tt
on_err (Err e) p = p

pub no_ok : {T E : Type 0} (Q : E → Type 0) (P : Type 0) (r : Result T E) → IsErrAnd r Q → OnOk r P
no_ok Q P (Ok x) h = absurd h
no_ok Q P (Err e) h = tt
