-- All marks of a text start between its first place and the last of 32 bits.
use Rattle.std.proofs.Common.{◌≡◌, refl, ap, ◌∙◌, ℕ, Bool, true, cond, List, [], ◌∷◌, filter, All, arith}
use Rattle.std.proofs.lemmas.Bool.Decides.{nat_tests}
use Rattle.std.proofs.lemmas.List.Elements.{All-head, All-tail}
use Rattle.nv_places.specs.Places.{IsNarrow}
use Rattle.nv_places.specs.declared.place.Pos.{Pos}
use Rattle.nv_marks.specs.Order.{is_within, starts_within}
use Rattle.nv_marks.specs.declared.extmark.Mark.{Mark}
use Rattle.nv_buffer.specs.Marks.{IsMarkIn}
use Rattle.nv_buffer.specs.Splices.{IsNarrowText}
use Rattle.nv_buffer.proofs.Placing.{narrow_place}

abbrev pub first_place : Pos
first_place = record { row = 0; col = 0 }

abbrev pub last_place : Pos
last_place = record { row = 4294967295; col = 4294967295 }

narrow_within : (p : Pos) → IsNarrow p → is_within first_place last_place p ≡ true
narrow_within p narrow = let row = narrow.0 in let col = narrow.1 in grind (arith, nat_tests)

pub all_within : (lines : List (List ℕ)) (marks : List Mark) → IsNarrowText lines → All (IsMarkIn lines) marks
    → filter (starts_within first_place last_place) marks ≡ marks
all_within lines [] narrow are = refl
all_within lines (m ∷ ms) narrow are =
    let here : is_within first_place last_place m.start ≡ true =
    narrow_within m.start (narrow_place lines m.start narrow (All-head (IsMarkIn lines) m ms are).start) in
    let rest : List Mark = filter (starts_within first_place last_place) ms in
    ap (λ (b : Bool). cond b (m ∷ rest) rest) here
    ∙ ap (λ (l : List Mark). m ∷ l) (all_within lines ms narrow (All-tail (IsMarkIn lines) m ms are))
