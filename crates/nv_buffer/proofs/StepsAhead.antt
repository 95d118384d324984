-- Lemmas on steps that are made one after another, and on what each has of the text.
use Rattle.std.proofs.Common.{◌≡◌, ℕ, zero, suc, ◌+◌, ◌-◌, ◌<◌, List, [], ◌∷◌, ◌++◌, length, take, drop, reverse, fold, slice_get, slice_range, Option, Some, None, IfSome, refl, sym, ap, subst, ◌∙◌, arith, length-append, append_assoc}
use Rattle.std.proofs.lemmas.List.{get_or_at, length-drop, length-take-le, reverse-append, take_at}
use Rattle.std.proofs.lemmas.Option.{none-some, same_Some, slice_get-get_or}
use Rattle.nv_buffer.specs.Splices.{IsBufferText}
use Rattle.nv_buffer.specs.Changes.{lines_after, inverse_edit, each_inverse, inverse_edits, Fits, AllFit}
use Rattle.nv_buffer.specs.Patches.{IsPatchOf, patch_back}
use Rattle.nv_buffer.specs.Steps.{kept_step, edit_ahead, edit_back, swap_back, IsKept, IsPutIn, edits_ahead, LeadBack}
use Rattle.nv_buffer.specs.declared.edit.Edit.{Edit}
use Rattle.nv_buffer.specs.declared.patch.Patch.{Patch}
use Rattle.nv_buffer.specs.declared.step.Step.{Step}
use Rattle.nv_buffer.specs.declared.step.Step.TheVariants.{Rows, Bytes}
use Rattle.nv_buffer.proofs.KeptTexts.{parted}
use Rattle.nv_buffer.proofs.Patching.{patch_undone, patch_back_is}
use Rattle.nv_buffer.proofs.WayBack.{AllFit-text, fits_text, fold-append, length-inverses, length-spliced, taken_back}

-- ---- one step
-- the step that is kept of an edit
pub step_kept : (text : List (List ℕ)) (edit : Edit) (found : Option Patch) (taken : List (List ℕ)) → IfSome found (IsPatchOf text edit)
    → taken ≡ slice_range text edit.first edit.last
    → (edit_ahead text (kept_step found edit taken) ≡ edit) × IsKept text (kept_step found edit taken)
step_kept text edit (Some patch) taken is taken_is = (is.same, is.stands)
step_kept text edit None taken is taken_is = (refl, taken_is)

-- what takes a step back is the inverse of its edit
pub step_back : (text : List (List ℕ)) (step : Step) → IsKept text step
    → edit_back (lines_after text (edit_ahead text step)) step ≡ inverse_edit text (edit_ahead text step)
step_back text (Rows swap) kept = λ i. record (swap_back swap) { lines = kept i }
step_back text (Bytes patch) kept = patch_undone text patch kept

pub step_made : (text : List (List ℕ)) (step : Step) → IsBufferText text → Fits text (edit_ahead text step) → IsKept text step
    → IsPutIn (lines_after text (edit_ahead text step)) step
step_made text (Rows swap) is fits kept =
    omega (arith, length-spliced text swap.ahead.lines swap.ahead.first swap.ahead.last fits.order fits.within)
step_made text (Bytes patch) is fits kept = patch_back_is text patch is kept

-- ---- steps
pub length-edits_ahead : (text : List (List ℕ)) (steps : List Step) → length (edits_ahead text steps) ≡ length steps
length-edits_ahead text [] = refl
length-edits_ahead text (step ∷ steps) = ap (λ n. suc n) (length-edits_ahead (lines_after text (edit_ahead text step)) steps)

pub edits_ahead-append : (text : List (List ℕ)) (steps more : List Step)
    → edits_ahead text (steps ++ more) ≡ edits_ahead text steps ++ edits_ahead (fold lines_after text (edits_ahead text steps)) more
edits_ahead-append text [] more = refl
edits_ahead-append text (step ∷ steps) more =
    ap (λ (es : List Edit). edit_ahead text step ∷ es) (edits_ahead-append (lines_after text (edit_ahead text step)) steps more)

-- one step more
pub edits_ahead-push : (text now : List (List ℕ)) (steps : List Step) (step : Step) → now ≡ fold lines_after text (edits_ahead text steps)
    → edits_ahead text (steps ++ step ∷ []) ≡ edits_ahead text steps ++ edit_ahead now step ∷ []
edits_ahead-push text now steps step is =
    edits_ahead-append text steps (step ∷ [])
    ∙ ap (λ (t : List (List ℕ)). edits_ahead text steps ++ edit_ahead t step ∷ []) (sym is)

pub LeadBack-push : (text now : List (List ℕ)) (steps : List Step) (step : Step) → LeadBack text steps
    → now ≡ fold lines_after text (edits_ahead text steps) → IsKept now step → LeadBack text (steps ++ step ∷ [])
LeadBack-push text now [] step lead is kept = (subst (λ (t : List (List ℕ)). IsKept t step) is kept, tt)
LeadBack-push text now (first ∷ steps) step lead is kept =
    (lead.0, LeadBack-push (lines_after text (edit_ahead text first)) now steps step lead.1 is kept)

-- the step behind others
LeadBack-there : (text : List (List ℕ)) (steps : List Step) (step : Step) (more : List Step) → LeadBack text (steps ++ step ∷ more)
    → IsKept (fold lines_after text (edits_ahead text steps)) step
LeadBack-there text [] step more lead = lead.0
LeadBack-there text (first ∷ steps) step more lead = LeadBack-there (lines_after text (edit_ahead text first)) steps step more lead.1

-- ---- the edit of a step, once those before it were made
pub ahead_next : (base text : List (List ℕ)) (steps : List Step) (place : ℕ) (step : Step) → LeadBack base steps → slice_get steps place ≡ Some step
    → text ≡ fold lines_after base (take place (edits_ahead base steps))
    → (slice_get (edits_ahead base steps) place ≡ Some (edit_ahead text step)) × IsKept text step
ahead_next base text [] place step lead here is = absurd (none-some step here)
ahead_next base text (first ∷ steps) zero step lead here is =
    let same : first ≡ step = same_Some first step here in (
      λ i. Some (edit_ahead (sym is i) (same i)),
      subst (λ (s : Step). IsKept text s) same (subst (λ (t : List (List ℕ)). IsKept t first) (sym is) lead.0),
    )
ahead_next base text (first ∷ steps) (suc place) step lead here is =
    ahead_next (lines_after base (edit_ahead base first)) text steps place step lead.1 here is

-- ---- the edit that takes a step back, once those behind it were taken back
each_inverse-append : (text : List (List ℕ)) (edits more : List Edit)
    → each_inverse text (edits ++ more) ≡ each_inverse text edits ++ each_inverse (fold lines_after text edits) more
each_inverse-append text [] more = refl
each_inverse-append text (edit ∷ edits) more =
    ap (λ (es : List Edit). inverse_edit text edit ∷ es) (each_inverse-append (lines_after text edit) edits more)

inverses-parted : (text : List (List ℕ)) (edits : List Edit) (edit : Edit) (more : List Edit)
    → (let now : List (List ℕ) = fold lines_after text edits in
    inverse_edits text (edits ++ edit ∷ more)
    ≡ inverse_edits (lines_after now edit) more ++ inverse_edit now edit ∷ inverse_edits text edits)
inverses-parted text edits edit more =
    let now : List (List ℕ) = fold lines_after text edits in
    let rest : List Edit = each_inverse (lines_after now edit) more in
    ap (λ (es : List Edit). reverse es) (each_inverse-append text edits (edit ∷ more))
    ∙ reverse-append (each_inverse text edits) (inverse_edit now edit ∷ rest)
    ∙ ap (λ (es : List Edit). es ++ inverse_edits text edits) (reverse-append (inverse_edit now edit ∷ []) rest)
    ∙ append_assoc (reverse rest) (inverse_edit now edit ∷ []) (inverse_edits text edits)

AllFit-parted : (text : List (List ℕ)) (edits more : List Edit) → AllFit text (edits ++ more)
    → AllFit text edits × AllFit (fold lines_after text edits) more
AllFit-parted text [] more fit = (tt, fit)
AllFit-parted text (edit ∷ edits) more fit =
    let rest = AllFit-parted (lines_after text edit) edits more fit.1 in ((fit.0, rest.0), rest.1)

slice_get_at : {X : Type 0} (front : List X) (x : X) (back : List X) (n : ℕ) → length front ≡ n → slice_get (front ++ x ∷ back) n ≡ Some x
slice_get_at {X} front x back n count =
    slice_get-get_or (front ++ x ∷ back) n x (omega (arith, length-append front (x ∷ back)))
    ∙ ap (λ (y : X). Some y) (get_or_at front x back x n count)

back_parted : (base text : List (List ℕ)) (before : List Step) (step : Step) (behind : List Step) (place : ℕ) → IsBufferText base
    → AllFit base (edits_ahead base (before ++ step ∷ behind)) → LeadBack base (before ++ step ∷ behind) → length behind ≡ place
    → (let edits : List Edit = edits_ahead base (before ++ step ∷ behind) in
    text ≡ fold lines_after (fold lines_after base edits) (take place (inverse_edits base edits))
    → (slice_get (inverse_edits base edits) place ≡ Some (edit_back text step)) × IsPutIn text step)
back_parted base text before step behind place base_is fit lead count is =
    let front : List Edit = edits_ahead base before in
    let now : List (List ℕ) = fold lines_after base front in
    let edit : Edit = edit_ahead now step in
    let after : List (List ℕ) = lines_after now edit in
    let rest : List Edit = edits_ahead after behind in
    let all : edits_ahead base (before ++ step ∷ behind) ≡ front ++ edit ∷ rest = edits_ahead-append base before (step ∷ behind) in
    let parts = AllFit-parted base front (edit ∷ rest) (subst (λ (es : List Edit). AllFit base es) all fit) in
    let now_is : IsBufferText now = AllFit-text base front base_is parts.0 in
    let after_is : IsBufferText after = fits_text now edit now_is parts.1.0 in
    let kept : IsKept now step = LeadBack-there base before step behind lead in
    let inverses : inverse_edits base (edits_ahead base (before ++ step ∷ behind))
    ≡ inverse_edits after rest ++ inverse_edit now edit ∷ inverse_edits base front =
    ap (λ (es : List Edit). inverse_edits base es) all ∙ inverses-parted base front edit rest in
    let gone : length (inverse_edits after rest) ≡ place = length-inverses after rest ∙ length-edits_ahead after behind ∙ count in
    let made : fold lines_after base (edits_ahead base (before ++ step ∷ behind)) ≡ fold lines_after after rest =
    ap (λ (es : List Edit). fold lines_after base es) all ∙ fold-append lines_after base front (edit ∷ rest) in
    let taken : take place (inverse_edits base (edits_ahead base (before ++ step ∷ behind))) ≡ inverse_edits after rest =
    ap (λ (es : List Edit). take place es) inverses
    ∙ take_at (inverse_edits after rest) (inverse_edit now edit ∷ inverse_edits base front) place gone in
    let text_is : text ≡ after = is ∙ (λ i. fold lines_after (made i) (taken i)) ∙ (taken_back after rest after_is parts.1.1).text_is in (
      ap (λ (es : List Edit). slice_get es place) inverses
          ∙ slice_get_at (inverse_edits after rest) (inverse_edit now edit) (inverse_edits base front) place gone
          ∙ ap (λ (e : Edit). Some e) (sym (step_back now step kept) ∙ ap (λ (t : List (List ℕ)). edit_back t step) (sym text_is)),
      subst (λ (t : List (List ℕ)). IsPutIn t step) (sym text_is) (step_made now step now_is parts.1.0 kept),
    )

pub back_next : (base text : List (List ℕ)) (steps : List Step) (place : ℕ) (step : Step) → IsBufferText base → AllFit base (edits_ahead base steps)
    → LeadBack base steps → place < length steps → slice_get steps (length steps - 1 - place) ≡ Some step
    → text ≡ fold lines_after (fold lines_after base (edits_ahead base steps)) (take place (inverse_edits base (edits_ahead base steps)))
    → (slice_get (inverse_edits base (edits_ahead base steps)) place ≡ Some (edit_back text step)) × IsPutIn text step
back_next base text steps place step base_is fit lead within here is =
    let at : ℕ = length steps - 1 - place in
    let before : List Step = take at steps in
    let behind : List Step = drop (suc at) steps in
    let parts : steps ≡ before ++ step ∷ behind = parted steps at step here in
    let count : length behind ≡ place = omega (arith, length-drop (suc at) steps) in
    let P : List Step → Type 0 = λ ss.
    AllFit base (edits_ahead base ss) → LeadBack base ss
    → text ≡ fold lines_after (fold lines_after base (edits_ahead base ss)) (take place (inverse_edits base (edits_ahead base ss)))
    → (slice_get (inverse_edits base (edits_ahead base ss)) place ≡ Some (edit_back text step)) × IsPutIn text step in
    let there : P (before ++ step ∷ behind) = λ f l t. back_parted base text before step behind place base_is f l count t in
    subst P (sym parts) there fit lead is
