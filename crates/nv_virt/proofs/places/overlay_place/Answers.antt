use Rattle.std.proofs.Common.{◌≡◌, ◌<◌, ◌/◌, ◌%◌, ◌∙◌, ℕ, Bool, true, false, cond, not, IfOk, length, ap, sym, subst, nat_lt}
use Rattle.nv_linedraw.specs.LineCells.{cell_of_byte}
use Rattle.nv_virt.specs.Texts.{overlay_place, tail_of_line}
use Rattle.nv_virt.specs.inside.Capped.{IsPlaceNear}
use Rattle.nv_virt.proofs.PlaceLemmas.{comes_to}
use Rattle.nv_virt.proofs.places.overlay_place.Goals as goal

un_not : (b : Bool) (a : Bool) → a ≡ not b → b ≡ not a
un_not true a is = ap not (sym is)
un_not false a is = ap not (sym is)

pub returns-then-is_behind : goal.returns-then-is_behind
returns-then-is_behind c =
    let l = c.args.line.now in
    let cell = cell_of_byte l.width l.tabstop l.bytes.now c.args.byte in
    let tail = tail_of_line l.width l.tabstop l.bytes.now in
    let none : nat_lt c.args.byte (length l.bytes.now) ≡ false =
    un_not (nat_lt c.args.byte (length l.bytes.now)) c.is_behind.result c.is_behind.ensures ∙ ap not c.if-is_behind.true in
    subst (λ (g : ℕ × ℕ). IfOk c.tail_of.result (λ place. IsPlaceNear l.most l.width place g))
    (sym (ap (λ b. cond b (cell / l.width, cell % l.width) tail) none)) c.tail_of.ensures

pub returns : goal.returns
returns c =
    let l = c.args.line.now in
    let cell = cell_of_byte l.width l.tabstop l.bytes.now c.args.byte in
    let tail = tail_of_line l.width l.tabstop l.bytes.now in
    let some : nat_lt c.args.byte (length l.bytes.now) ≡ true =
    un_not (nat_lt c.args.byte (length l.bytes.now)) c.is_behind.result c.is_behind.ensures ∙ ap not c.if-is_behind.false in
    subst (λ (g : ℕ × ℕ). IsPlaceNear l.most l.width (c.in_ok-row.row, c.in_ok-row.col) g)
    (sym (ap (λ b. cond b (cell / l.width, cell % l.width) tail) some))
    (comes_to l.most l.width c.in_ok-row.row c.in_ok-row.col (cell / l.width) (cell % l.width) c.in_ok-row.ensures.row c.in_ok-row.ensures.col)
