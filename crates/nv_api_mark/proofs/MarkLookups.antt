-- Marks found by their namespace and number.
use Rattle.std.proofs.Common.{◌≡◌, ◌∙◌, refl, sym, ap, subst, ℕ, ℤ, ◌<◌, ◌≤◌, ◌<ℤ◌, Bool, true, false, cond, List, [], ◌∷◌, Some, None, arith}
use Rattle.std.specs.Prelude.{pos, negsuc, find, All, IfSome, ◌==◌, ◌&&◌}
use Rattle.std.proofs.lemmas.Int.{ints}
use Rattle.std.proofs.lemmas.List.Elements.{All-head, All-tail}
use Rattle.nv_buffer.specs.Content.{Content}
use Rattle.nv_marks.specs.Marks.{Marks, greatest_id, is_named, mark_at}
use Rattle.nv_marks.specs.Sound.{IsSound}
use Rattle.nv_marks.specs.declared.extmark.Mark.{Mark}
use Rattle.nv_model.specs.Seen.{SeenBuffer}
use Rattle.nv_model.specs.Standing.{seen_buffer_now}
use Rattle.nv_api_mark.specs.MarkRows.{mark_numbered}

-- what holds of all holds of what is found
pub find_all : {X : Type 0} (p : X → Bool) (P : X → Type 0) (xs : List X) → All P xs → IfSome (find p xs) P
find_all p P [] all = tt
find_all p P (x ∷ xs) all = by_case (find_all p P xs (All-tail P x xs all)) (p x)
  where
    by_case : IfSome (find p xs) P → (b : Bool) → IfSome (cond b (Some x) (find p xs)) P
    by_case rest true = All-head P x xs all
    by_case rest false = rest

pub numbered_all : (P : Mark → Type 0) (b : SeenBuffer) (ns : ℕ) (number : ℤ) → All P b.marks → IfSome (mark_numbered b ns number) P
numbered_all P b ns (pos id) all = find_all (is_named ns id) P b.marks all
numbered_all P b ns (negsuc n) all = tt

-- no mark has an id above the greatest of its namespace
pub none_above : (marks : List Mark) (greatest : List (ℕ × ℕ)) (ns id : ℕ) → All (λ m. m.id ≤ greatest_id greatest m.ns) marks → greatest_id greatest ns < id
    → mark_at marks ns id ≡ None
none_above [] greatest ns id all above = refl
none_above (m ∷ ms) greatest ns id all above =
    by_case (none_above ms greatest ns id (All-tail (λ (k : Mark). k.id ≤ greatest_id greatest k.ns) m ms all) above) (m.ns == ns) refl (m.id == id) refl
  where
    by_case : mark_at ms ns id ≡ None → (a : Bool) → (m.ns == ns) ≡ a → (b : Bool) → (m.id == id) ≡ b → cond (a && b) (Some m) (mark_at ms ns id) ≡ None
    by_case rest true same true named =
        let head : m.id ≤ greatest_id greatest m.ns = All-head (λ (k : Mark). k.id ≤ greatest_id greatest k.ns) m ms all in
        let at : m.ns ≡ ns = grind arith in
        let of : m.id ≡ id = grind arith in
        let bound : m.id ≤ greatest_id greatest ns = subst (λ (n : ℕ). m.id ≤ greatest_id greatest n) at head in
        absurd (omega (arith, bound, of, above))
    by_case rest true same false named = rest
    by_case rest false same b named = rest

pub numbered_none : (b : Content) (k : Marks) (ns : ℕ) (number : ℤ) → k ≡ b.marks → IsSound k.marks k.greatest → greatest_id k.greatest ns ≤ 4294967295
    → pos 4294967295 <ℤ number → None ≡ mark_numbered (seen_buffer_now b) ns number
numbered_none b k ns (pos id) is sound within above =
    let more : 4294967295 < id = omega (arith, ints, above) in
    sym (ap (λ (m : Marks). mark_at m.marks ns id) (sym is) ∙ none_above k.marks k.greatest ns id sound.counted (omega (arith, within, more)))
numbered_none b k ns (negsuc n) is sound within above = refl
