-- Lemmas on edits that are taken back.
use Rattle.std.proofs.Common.{◌≡◌, ℕ, ◌+◌, ◌-◌, ◌<◌, ◌≤◌, Bool, true, false, not, List, [], ◌∷◌, ◌++◌, length, take, drop, fold, slice_range, All, refl, sym, ap, subst, suc, ◌∙◌, arith, length-append}
use Rattle.std.proofs.lemmas.List.{take_at, drop_at, drop-drop, length-take, length-take-le, length-drop, length-reverse, reverse-append}
use Rattle.std.proofs.lemmas.List.Edits.{split_between, length-between}
use Rattle.std.specs.List.{splice}
use Rattle.std.proofs.lemmas.List.Elements.{All-take, All-drop}
use Rattle.nv_places.specs.Flat.{flat, IsLine}
use Rattle.nv_places.specs.Places.{end_of, extent_of}
use Rattle.nv_lines.proofs.Splices.{All-splice}
use Rattle.nv_buffer.specs.declared.edit.ChangePart.{ChangePart}
use Rattle.nv_buffer.specs.Changes.{lines_after, turned_part, inverse_edit, each_inverse, inverse_edits, Replaces, Fits, AllFit}
use Rattle.nv_buffer.specs.Splices.{IsBufferText, IsNarrowText}
use Rattle.nv_buffer.specs.declared.edit.Edit.{Edit}

-- what stands before a splice, and from it on
pub splice-front : (text new : List (List ℕ)) (from to : ℕ) → from ≤ length text → take from (splice text from to new) ≡ take from text
splice-front text new from to within = take_at (take from text) (new ++ drop to text) from (length-take-le from text within)

pub splice-rest : (text new : List (List ℕ)) (from to : ℕ) → from ≤ length text → drop from (splice text from to new) ≡ new ++ drop to text
splice-rest text new from to within = drop_at (take from text) (new ++ drop to text) from (length-take-le from text within)

-- the lines that a splice puts
pub range-splice : (text new : List (List ℕ)) (from to : ℕ) → from ≤ length text
    → slice_range (splice text from to new) from (from + length new) ≡ new
range-splice text new from to within =
    let count : from + length new - from ≡ length new = omega arith in
    ap (λ (n : ℕ). take n (drop from (splice text from to new))) count
    ∙ ap (λ (ls : List (List ℕ)). take (length new) ls) (splice-rest text new from to within)
    ∙ take_at new (drop to text) (length new) refl

-- a splice with what stood there, in place of what was put
pub splice-back : (text new : List (List ℕ)) (from to : ℕ) → from ≤ to → to ≤ length text
    → splice (splice text from to new) from (from + length new) (slice_range text from to) ≡ text
splice-back text new from to order within =
    let start : from ≤ length text = omega arith in
    let rest : drop (from + length new) (splice text from to new) ≡ drop to text =
    sym (drop-drop (length new) from (splice text from to new))
    ∙ ap (λ (ls : List (List ℕ)). drop (length new) ls) (splice-rest text new from to start)
    ∙ drop_at new (drop to text) (length new) refl in
    ap (λ (ls : List (List ℕ)). ls ++ (slice_range text from to ++ drop (from + length new) (splice text from to new))) (splice-front text new from to start)
    ∙ ap (λ (ls : List (List ℕ)). take from text ++ (slice_range text from to ++ ls)) rest
    ∙ sym (split_between text from to order)

pub length-spliced : (text new : List (List ℕ)) (from to : ℕ) → from ≤ to → to ≤ length text
    → length (splice text from to new) ≡ from + (length new + (length text - to))
length-spliced text new from to order within =
    omega (
      arith,
      length-append (take from text) (new ++ drop to text),
      length-append new (drop to text),
      length-take from text,
      length-drop to text,
    )

-- a part that is turned twice is as it was
turned_twice : (p : ChangePart) → turned_part (turned_part p) ≡ p
turned_twice p = let same = not_not p.back in λ i. record p { back = same i }
  where
    not_not : (b : Bool) → not (not b) ≡ b
    not_not true = refl
    not_not false = refl

pub inverse-undoes : (text : List (List ℕ)) (edit : Edit) → Fits text edit → lines_after (lines_after text edit) (inverse_edit text edit) ≡ text
inverse-undoes text edit fits = splice-back text edit.lines edit.first edit.last fits.order fits.within

pub inverse-inverse : (text : List (List ℕ)) (edit : Edit) → Fits text edit → inverse_edit (lines_after text edit) (inverse_edit text edit) ≡ edit
inverse-inverse text edit fits =
    let count : length (slice_range text edit.first edit.last) ≡ edit.last - edit.first = length-between text edit.first edit.last fits.within in
    let end : edit.first + length (slice_range text edit.first edit.last) ≡ edit.last = omega (arith, fits.order) in
    let lines : slice_range (lines_after text edit) edit.first (edit.first + length edit.lines) ≡ edit.lines =
    range-splice text edit.lines edit.first edit.last (omega (arith, fits.order, fits.within)) in
    λ i. record edit { last = end i; lines = lines i; part = turned_twice edit.part i }

-- bytes that were replaced, seen from the other side
pub replaced-back : (before after : List ℕ) (at old new : ℕ) → Replaces before after at old new → Replaces after before at new old
replaced-back before after at old new is = record { removed = is.put; put = is.removed; front = sym is.front; back = sym is.back }

pub inverse-fits : (text : List (List ℕ)) (edit : Edit) → IsBufferText text → Fits text edit → Fits (lines_after text edit) (inverse_edit text edit)
inverse-fits text edit is fits =
    let same : text ≡ lines_after (lines_after text edit) (inverse_edit text edit) = sym (inverse-undoes text edit fits) in record {
      order = omega arith;
      within = omega (arith, length-spliced text edit.lines edit.first edit.last fits.order fits.within);
      left = subst (λ (t : List (List ℕ)). 0 < length t) same is.some;
      narrow = subst (λ (t : List (List ℕ)). IsNarrowText t) same is.narrow;
      lines = All-take IsLine (edit.last - edit.first) (drop edit.first text) (All-drop IsLine edit.first text is.lines);
      placed = record {
        start = fits.placed.start ∙ ap end_of (sym fits.bytes.front);
        removed = fits.placed.put;
        put = fits.placed.removed ∙ ap (λ (t : List (List ℕ)). extent_of (take edit.old (drop edit.at (flat t)))) same;
      };
      bytes =
          subst (λ (t : List (List ℕ)). Replaces (flat (lines_after text edit)) (flat t) edit.at edit.new edit.old) same
          (replaced-back (flat text) (flat (lines_after text edit)) edit.at edit.old edit.new fits.bytes);
    }

-- the text that an edit leaves
pub fits_text : (text : List (List ℕ)) (edit : Edit) → IsBufferText text → Fits text edit → IsBufferText (lines_after text edit)
fits_text text edit is fits = record {
  some = fits.left;
  narrow = fits.narrow;
  lines = All-splice IsLine text edit.lines edit.first edit.last is.lines fits.lines;
}

pub fold-append : {A B : Type 0} (f : B → A → B) (b : B) (xs ys : List A) → fold f b (xs ++ ys) ≡ fold f (fold f b xs) ys
fold-append f b [] ys = refl
fold-append f b (x ∷ xs) ys = fold-append f (f b x) xs ys

-- edits one after another
pub AllFit-append : (text : List (List ℕ)) (edits more : List Edit) → AllFit text edits → AllFit (fold lines_after text edits) more
    → AllFit text (edits ++ more)
AllFit-append text [] more fit then = then
AllFit-append text (edit ∷ edits) more fit then = (fit.0, AllFit-append (lines_after text edit) edits more fit.1 then)

pub AllFit-one : (text : List (List ℕ)) (edit : Edit) → Fits text edit → AllFit text (edit ∷ [])
AllFit-one text edit fits = (fits, tt)

pub AllFit-push : (text now : List (List ℕ)) (edits : List Edit) (edit : Edit) → AllFit text edits → now ≡ fold lines_after text edits
    → Fits now edit → AllFit text (edits ++ edit ∷ [])
AllFit-push text now edits edit fit is fits =
    AllFit-append text edits (edit ∷ []) fit (subst (λ (t : List (List ℕ)). Fits t edit) is fits, tt)

-- the text that edits leave
pub AllFit-text : (text : List (List ℕ)) (edits : List Edit) → IsBufferText text → AllFit text edits → IsBufferText (fold lines_after text edits)
AllFit-text text [] is fit = is
AllFit-text text (edit ∷ edits) is fit = AllFit-text (lines_after text edit) edits (fits_text text edit is fit.0) fit.1

inverses-cons : (text : List (List ℕ)) (edit : Edit) (edits : List Edit)
    → inverse_edits text (edit ∷ edits) ≡ inverse_edits (lines_after text edit) edits ++ inverse_edit text edit ∷ []
inverses-cons text edit edits = reverse-append (inverse_edit text edit ∷ []) (each_inverse (lines_after text edit) edits)

-- what edits did is taken back by their inverses, the last one's first
pub record TakenBack (text : List (List ℕ)) (edits : List Edit) : Type 0 where
  pub fit : AllFit (fold lines_after text edits) (inverse_edits text edits)
  pub text_is : fold lines_after (fold lines_after text edits) (inverse_edits text edits) ≡ text

taken_back_once : (text : List (List ℕ)) (edit : Edit) (edits : List Edit) → IsBufferText text → Fits text edit
    → TakenBack (lines_after text edit) edits → TakenBack text (edit ∷ edits)
taken_back_once text edit edits is fits rest =
    let now : List (List ℕ) = fold lines_after (lines_after text edit) edits in
    let back : List Edit = inverse_edits (lines_after text edit) edits in
    let cons : inverse_edits text (edit ∷ edits) ≡ back ++ inverse_edit text edit ∷ [] = inverses-cons text edit edits in record {
      fit =
          subst (λ (es : List Edit). AllFit now es) (sym cons)
          (AllFit-push now (lines_after text edit) back (inverse_edit text edit) rest.fit (sym rest.text_is) (inverse-fits text edit is fits));
      text_is =
          ap (λ (es : List Edit). fold lines_after now es) cons
          ∙ fold-append lines_after now back (inverse_edit text edit ∷ [])
          ∙ ap (λ (t : List (List ℕ)). lines_after t (inverse_edit text edit)) rest.text_is
          ∙ inverse-undoes text edit fits;
    }

pub taken_back : (text : List (List ℕ)) (edits : List Edit) → IsBufferText text → AllFit text edits → TakenBack text edits
taken_back text [] is fit = record { fit = tt; text_is = refl }
taken_back text (edit ∷ edits) is fit =
    taken_back_once text edit edits is fit.0 (taken_back (lines_after text edit) edits (fits_text text edit is fit.0) fit.1)

-- the inverses one more edit on
pub each_inverse-push : (text : List (List ℕ)) (edits : List Edit) (edit : Edit)
    → each_inverse text (edits ++ edit ∷ []) ≡ each_inverse text edits ++ inverse_edit (fold lines_after text edits) edit ∷ []
each_inverse-push text [] edit = refl
each_inverse-push text (first ∷ edits) edit =
    ap (λ (es : List Edit). inverse_edit text first ∷ es) (each_inverse-push (lines_after text first) edits edit)

pub length-each_inverse : (text : List (List ℕ)) (edits : List Edit) → length (each_inverse text edits) ≡ length edits
length-each_inverse text [] = refl
length-each_inverse text (edit ∷ edits) = ap (λ n. suc n) (length-each_inverse (lines_after text edit) edits)

pub length-inverses : (text : List (List ℕ)) (edits : List Edit) → length (inverse_edits text edits) ≡ length edits
length-inverses text edits = length-reverse (each_inverse text edits) ∙ length-each_inverse text edits
