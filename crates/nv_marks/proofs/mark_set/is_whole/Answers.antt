use Rattle.std.proofs.Common.{◌≡◌, ◌<◌, ◌≤◌, Bool, true, false, not, ◌&&◌, refl, true≢false, arith}
use Rattle.std.proofs.lemmas.Bool.Decides.{nat_tests}
use Rattle.nv_places.specs.declared.place.Pos.{Pos}
use Rattle.nv_places.specs.Places.{is_before}
use Rattle.nv_marks.specs.Order.{is_within}
use Rattle.nv_marks.proofs.mark_set.is_whole.Goals as goal

neither : (a b : Bool) → a ≡ false → b ≡ false → (not a && not b) ≡ true
neither false false _ _ = refl
neither true b is _ = absurd (true≢false is)
neither false true _ is = absurd (true≢false is)

not_before : (p q : Pos) → q.row ≤ p.row → q.col ≤ p.col → is_before p q ≡ false
not_before p q row col = grind (arith, nat_tests)

whole : (from to p : Pos) → from.row ≡ 0 → from.col ≡ 0 → to.row ≡ 4294967295 → to.col ≡ 4294967295 → p.row < 4294967296 → p.col < 4294967296
    → is_within from to p ≡ true
whole from to p from_row from_col to_row to_col row col =
    neither _ _ (not_before p from (omega arith) (omega arith)) (not_before to p (omega arith) (omega arith))

pub returns-then-to-eq4294967295 : goal.returns-then-to-eq4294967295
returns-then-to-eq4294967295 c = λ all p narrow.
    let at = c.if-to-eq4294967295.true in
    let col : c.args.to.col ≡ 4294967295 = grind (arith, nat_tests) in
    whole c.args.from c.args.to p at.0 at.1 at.2 col narrow.0 narrow.1

pub returns-else-to-eq4294967295 : goal.returns-else-to-eq4294967295
returns-else-to-eq4294967295 c = λ all p narrow. grind (arith, nat_tests)
