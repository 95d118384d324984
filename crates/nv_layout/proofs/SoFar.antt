-- What children are summed up to before a place.
use Rattle.std.proofs.Common.{◌≡◌, ℕ, ◌+◌, ◌≤◌, ◌<◌, List, [], length, drop, filter, ap, arith}
use Rattle.std.proofs.Math.ListN.{drop_of_length-le}
use Rattle.nv_layout.specs.Division.{Child, wishes, is_modest, need}
use Rattle.nv_layout.specs.Sizing.{child_at}
use Rattle.nv_layout.proofs.Divisions.{need_parts}
use Rattle.nv_layout.proofs.Children.{filter-most, need_at_modest, count_at_modest, need_past_modest, need_at_wish, need_past_wish, count_past_wish}

pub record SoFar (cs : List Child) (i wished shared sharers : ℕ) : Type 0 where
  pub wish_need : wished + need (filter wishes (drop i cs)) ≡ need (filter wishes cs)
  pub share_need : shared + need (filter is_modest (drop i cs)) ≡ need (filter is_modest cs)
  pub count : sharers + length (filter is_modest (drop i cs)) ≡ length (filter is_modest cs)

pub so_far_start : (cs : List Child) → SoFar cs 0 0 0 0
so_far_start cs = record { wish_need = omega arith; share_need = omega arith; count = omega arith }

module _ (cs : List Child) (i wished shared sharers least : ℕ) (h : i < length cs) (is : least ≡ (child_at cs i).least) where
  pub so_far_modest : (child_at cs i).wish ≡ 0 → SoFar cs i wished shared sharers → SoFar cs (i + 1) wished (shared + least) (sharers + 1)
  so_far_modest e s = record {
    wish_need = omega (arith, s.wish_need, need_past_modest cs i h e);
    share_need = omega (arith, s.share_need, need_at_modest cs i h e);
    count = omega (arith, s.count, count_at_modest cs i h e);
  }

  pub so_far_wish : 0 < (child_at cs i).wish → SoFar cs i wished shared sharers → SoFar cs (i + 1) (wished + least) shared sharers
  so_far_wish k s = record {
    wish_need = omega (arith, s.wish_need, need_at_wish cs i h k);
    share_need = omega (arith, s.share_need, need_past_wish cs i h k);
    count = omega (arith, s.count, count_past_wish cs i h k);
  }

pub so_far_most : (cs : List Child) (i wished shared sharers : ℕ) → SoFar cs i wished shared sharers → (wished + shared ≤ need cs) × (sharers ≤ length cs)
so_far_most cs i wished shared sharers s = (omega (arith, s.wish_need, s.share_need, need_parts cs), omega (arith, s.count, filter-most is_modest cs))

pub so_far_end : (cs : List Child) (i wished shared sharers : ℕ) → length cs ≤ i → SoFar cs i wished shared sharers → (wished ≡ need (filter wishes cs)) × (shared ≡ need (filter is_modest cs)) × (sharers ≡ length (filter is_modest cs))
so_far_end cs i wished shared sharers h s =
    let none : drop i cs ≡ [] = drop_of_length-le cs h in (
      omega (arith, s.wish_need, ap (λ ds. need (filter wishes ds)) none),
      omega (arith, s.share_need, ap (λ ds. need (filter is_modest ds)) none),
      omega (arith, s.count, ap (λ ds. length (filter is_modest ds)) none),
    )
