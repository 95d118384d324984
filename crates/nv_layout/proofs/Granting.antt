-- What wishes leave of a room, child by child.
use Rattle.std.proofs.Common.{◌≡◌, ℕ, ◌+◌, ◌-◌, ◌≤◌, ◌<◌, List, [], length, drop, filter, refl, ap, sym, ◌∙◌, arith}
use Rattle.std.proofs.Math.ListN.{drop_of_length-le}
use Rattle.nv_layout.specs.Division.{Child, wishes, is_modest, need, total, within, wishes_granted}
use Rattle.nv_layout.specs.Sizing.{child_at, room_left}
use Rattle.nv_layout.proofs.Children.{wishes_step, wishes_skip}

-- what is left after the wishes of children
abbrev left_by : ℕ → ℕ → List Child → ℕ
left_by others room cs = room - total (wishes_granted others room cs)

pub same_within : (a b c d e f : ℕ) → a ≡ b → c ≡ d → e ≡ f → within a c e ≡ within b d f
same_within a b c d e f g h k = cc

less : (room all least others : ℕ) → all ≡ least + others → room - (all - least) ≡ room - others
less room all least others e = ap (λ n. room - n) (omega arith)

minus_none : (room : ℕ) → room - 0 ≡ room
minus_none room = omega arith

minus_sum : (room n m : ℕ) → (room - n) - m ≡ room - (n + m)
minus_sum room n m = omega arith

pub record Granting (cs : List Child) (first i room all_need : ℕ) : Type 0 where
  pub enough : all_need ≤ room
  pub wished : all_need ≡ need (filter is_modest cs) + need (filter wishes (drop i cs))
  pub left : left_by (need (filter is_modest cs)) room (filter wishes (drop i cs)) ≡ room_left first cs

pub granting_start : (cs : List Child) (room other wish : ℕ) → other ≡ need (filter is_modest cs) → wish ≡ need (filter wishes cs) → other + wish ≤ room → Granting cs room 0 room (other + wish)
granting_start cs room other wish e f h = record { enough = h; wished = omega arith; left = refl }

module _ (cs : List Child) (first i room all_need : ℕ) (h : i < length cs) (g : Granting cs first i room all_need) where
  pub granting_skip : (child_at cs i).wish ≡ 0 → Granting cs first (i + 1) room all_need
  granting_skip e = record {
    enough = g.enough;
    wished = g.wished ∙ ap (λ ds. need (filter is_modest cs) + need ds) (wishes_skip cs i h e);
    left = ap (left_by (need (filter is_modest cs)) room) (sym (wishes_skip cs i h e)) ∙ g.left;
  }

  pub need_granted : (least : ℕ) → least ≡ (child_at cs i).least → 0 < (child_at cs i).wish → all_need ≡ least + (need (filter is_modest cs) + need (filter wishes (drop (i + 1) cs)))
  need_granted least e k = omega (arith, g.wished, ap need (wishes_step cs i h k))

  -- what the child is granted, where the others and those behind it need so much
  abbrev granted_size : ℕ → ℕ
  granted_size others = within (child_at cs i).least (room - others) (child_at cs i).wish

  same_size : (least wish size : ℕ) → least ≡ (child_at cs i).least → wish ≡ (child_at cs i).wish → 0 < wish → size ≡ within least (room - (all_need - least)) wish →
      all_need ≡ least + (need (filter is_modest cs) + need (filter wishes (drop (i + 1) cs))) → size ≡ granted_size (need (filter is_modest cs) + need (filter wishes (drop (i + 1) cs)))
  same_size least wish size e f k is now = is ∙ same_within least (child_at cs i).least (room - (all_need - least)) (room - (need (filter is_modest cs) + need (filter wishes (drop (i + 1) cs)))) wish (child_at cs i).wish e (less room all_need least (need (filter is_modest cs) + need (filter wishes (drop (i + 1) cs))) now) f

  pub granting_step : (least wish size : ℕ) → least ≡ (child_at cs i).least → wish ≡ (child_at cs i).wish → 0 < wish → size ≡ within least (room - (all_need - least)) wish → Granting cs first (i + 1) (room - size) (all_need - least)
  granting_step least wish size e f k is =
      let now : all_need ≡ least + (need (filter is_modest cs) + need (filter wishes (drop (i + 1) cs))) = need_granted least e (omega arith) in
      record {
        enough = omega (arith, g.enough);
        wished = omega arith;
        left = rw (same_size least wish size e f k is now) (minus_sum room (granted_size (need (filter is_modest cs) + need (filter wishes (drop (i + 1) cs)))) (total (wishes_granted (need (filter is_modest cs)) (room - granted_size (need (filter is_modest cs) + need (filter wishes (drop (i + 1) cs)))) (filter wishes (drop (i + 1) cs)))) ∙ sym (ap (left_by (need (filter is_modest cs)) room) (wishes_step cs i h (omega arith))) ∙ g.left);
      }

pub granting_end : (cs : List Child) (first i room all_need : ℕ) → length cs ≤ i → Granting cs first i room all_need → room ≡ room_left first cs
granting_end cs first i room all_need h g =
    let none : drop i cs ≡ [] = drop_of_length-le cs h in
    sym (minus_none room) ∙ sym (ap (λ ds. left_by (need (filter is_modest cs)) room (filter wishes ds)) none) ∙ g.left
