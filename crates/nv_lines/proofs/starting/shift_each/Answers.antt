use Rattle.std.proofs.Common.{◌≡◌, ◌∙◌, ◌<◌, ◌+◌, ◌-◌, ◌++◌, ap, sym, subst, ℕ, List, length, map, take, drop, get_or, set, arith}
use Rattle.std.proofs.lemmas.List.{get_or-append_right, get_or-drop, length-map, length-take-le, get_or_default}
use Rattle.std.proofs.lemmas.List.Elements.{All-get_or}
use Rattle.std.proofs.lemmas.List.Edits.{map_over_more}
use Rattle.nv_lines.specs.inside.Edits.{shifted_start, CanShift}
use Rattle.nv_lines.specs.declared.finding.Start.{Start}
use Rattle.nv_lines.proofs.starting.shift_each.Goals as goal

-- the element that a map in place comes to next is as it was
next_one : (f : Start → Start) (xs ys : List Start) (i : ℕ) (d : Start) → i < length xs → ys ≡ map f (take i xs) ++ drop i xs
    → get_or ys i d ≡ get_or xs i d
next_one f xs ys i d within is =
    let len : length (map f (take i xs)) ≡ i = length-map (take i xs) f ∙ length-take-le i xs (omega arith) in
    let here : i - i ≡ 0 = omega arith in
    let there : i + 0 ≡ i = omega arith in
    ap (λ (l : List Start). get_or l i d) is
    ∙ get_or-append_right (map f (take i xs)) (drop i xs) i i d len (omega arith)
    ∙ ap (λ (n : ℕ). get_or (drop i xs) n d) here
    ∙ get_or-drop i xs 0 d
    ∙ ap (λ (n : ℕ). get_or xs n d) there

one_more : (f : Start → Start) (xs ys : List Start) (i : ℕ) (d moved : Start) → i < length xs → i < length ys
    → ys ≡ map f (take i xs) ++ drop i xs → moved ≡ f (get_or ys i d)
    → set ys i moved ≡ map f (take (i + 1) xs) ++ drop (i + 1) xs
one_more f xs ys i d moved within room is goes =
    ap (λ (m : Start). set ys i m) goes
    ∙ map_over_more f xs ys i (get_or ys i d) within is (get_or_default ys i d (get_or ys i d) room)

pub shifted-requires : goal.shifted-requires
shifted-requires c =
    let fits : (d : Start) → CanShift c.args.by (get_or c.loop-start.starts c.loop-start.start-index d) =
    λ d. subst (CanShift c.args.by)
    (sym (next_one (shifted_start c.args.by) c.args.starts.now c.loop-start.starts c.loop-start.start-index d (omega arith) c.loop-start.invariant))
    (All-get_or (CanShift c.args.by) c.args.starts.now c.loop-start.start-index d (omega arith) c.requires) in
    fits _

pub loop-start-preserved : goal.loop-start-preserved
loop-start-preserved c =
    one_more (shifted_start c.args.by) c.args.starts.now c.loop-start.starts c.loop-start.start-index _ c.shifted.result
    (omega arith) (omega arith) c.loop-start.invariant c.shifted.ensures
