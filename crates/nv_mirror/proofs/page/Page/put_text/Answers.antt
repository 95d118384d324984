use Rattle.std.proofs.Common.{◌≡◌, ℕ, ℤ, List, ◌++◌, length, Option, ap, ap₂, subst, ◌∙◌, rules, w64, to_z, of_z}
use Rattle.nv_places.specs.Flat.{flat}
use Rattle.nv_mirror.specs.Listings.{text_heading}
use Rattle.nv_mirror.specs.inside.Pages.{IsBuffered, GoesPartly}
use Rattle.nv_mirror.proofs.Outs.{last_all, last_part}
use Rattle.nv_mirror.proofs.page.Page.put_text.Goals as goal

-- a heading and lines, by what they are made of
made_of : (head found : List ℕ) (lines text : List (List ℕ)) → found ≡ head → lines ≡ text → found ++ flat lines ≡ head ++ flat text
made_of head found lines text e d = ap₂ (λ (a : List ℕ) (b : List (List ℕ)). a ++ flat b) e d

as_made : (a b : List ℕ) (x y : Option (List ℕ)) (w : List ℕ) → a ≡ b → IsBuffered a x y w → IsBuffered b x y w
as_made a b x y w e h = subst (λ (l : List ℕ). IsBuffered l x y w) e h

part_as_made : (a b : List ℕ) (x y : Option (List ℕ)) → a ≡ b → GoesPartly a x y → GoesPartly b x y
part_as_made a b x y e h = subst (λ (l : List ℕ). GoesPartly l x y) e h

pub returns-then-not-put_lines-clause-part : goal.returns-then-not-put_lines-clause-part
returns-then-not-put_lines-clause-part g c =
    let e : to_z w64 (of_z w64 c.args.tick) ≡ c.args.tick = search rules in
    let head = c.keep_heading.ensures ∙ ap₂ (λ (t : ℤ) (n : ℕ). text_heading t n) e c.len.ensures.value in
    part_as_made _ _ _ _ (made_of _ _ _ _ head c.as_slice.ensures.value) c.if-not-put_lines.ensures.part

pub returns-clause-all : goal.returns-clause-all
returns-clause-all g c =
    let e : to_z w64 (of_z w64 c.args.tick) ≡ c.args.tick = search rules in
    let head = c.keep_heading.ensures ∙ ap₂ (λ (t : ℤ) (n : ℕ). text_heading t n) e c.len.ensures.value in
    last_all c.put_out.result _ _ _ _ _ (as_made _ _ _ _ _ (made_of _ _ _ _ head c.as_slice.ensures.value) c.if-not-put_lines.ensures.all) c.put_out.ensures.all

pub returns-clause-part : goal.returns-clause-part
returns-clause-part g c =
    let e : to_z w64 (of_z w64 c.args.tick) ≡ c.args.tick = search rules in
    let head = c.keep_heading.ensures ∙ ap₂ (λ (t : ℤ) (n : ℕ). text_heading t n) e c.len.ensures.value in
    last_part c.put_out.result _ _ _ _ _ (as_made _ _ _ _ _ (made_of _ _ _ _ head c.as_slice.ensures.value) c.if-not-put_lines.ensures.all) c.put_out.ensures.part
