use Rattle.std.proofs.Common.{◌≡◌, ℕ, suc, ◌+◌, ◌≤◌, Some, slice_get, length, subst, sym, ◌∙◌, arith}
use Rattle.nv_watch.proofs.Mirrored.{NoneTo, none_more, none_all, first_here, at_place}
use Rattle.nv_watch.proofs.followed.place_of.Goals as goal

pub returns-then-is_of : goal.returns-then-is_of
returns-then-is_of c =
    let there : slice_get c.args.all.now c.loop-place.place ≡ Some c.index-all-place.result = at_place c.args.all.now c.loop-place.place c.index-all-place.result (omega arith) c.index-all-place.is in
    first_here _ _ _ _ _ c.loop-place.invariant there (sym c.is_of.ensures ∙ c.if-is_of.true)

pub loop-place-preserved : goal.loop-place-preserved
loop-place-preserved c =
    let there : slice_get c.args.all.now c.loop-place.place ≡ Some c.index-all-place.result = at_place c.args.all.now c.loop-place.place c.index-all-place.result (omega arith) c.index-all-place.is in
    let next : suc c.loop-place.place ≡ c.loop-place.place + 1 = omega arith in
    subst (λ (p : ℕ). NoneTo c.args.all.now c.args.owner.session c.args.owner.buffer p) next
    (none_more _ _ _ _ _ c.loop-place.invariant there (sym c.is_of.ensures ∙ c.if-is_of.false))

pub returns : goal.returns
returns c =
    let all : length c.args.all.now ≤ c.loop-place.place = omega arith in
    none_all _ _ _ _ c.loop-place.invariant all
