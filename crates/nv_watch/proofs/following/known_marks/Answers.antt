use Rattle.std.proofs.Common.{rules, ◌≡◌, ◌-◌, ◌<◌, ◌≤◌, ℕ, suc, length, refl, subst, sym, arith, cond, Some, ℤ, to_z, of_z, w64}
use Rattle.std.specs.BTreeMap.{get, is_at}
use Rattle.std.proofs.lemmas.Bool.Decides.{nat_tests}
use Rattle.std.proofs.lemmas.List.{drop_all}
use Rattle.std.proofs.lemmas.Option.{slice_get_read}
use Rattle.nv_watch.specs.FollowedMarks.{Followed}
use Rattle.nv_watch.specs.inside.Known.{setting_order}
use Rattle.nv_watch.proofs.Handles.{rest_here}
use Rattle.nv_watch.proofs.KnownMarks.{AreKnownFrom, none_known, one_more_known}
use Rattle.nv_watch.proofs.following.known_marks.Goals as goal

pub loop-place-init : goal.loop-place-init
loop-place-init c =
    let marks = c.args.marks.now in
    (omega arith, none_known c.new-known.result marks (length marks) c.new-known.ensures.empty (drop_all (length marks) marks (omega arith)))

pub loop-place-preserved : goal.loop-place-preserved
loop-place-preserved c =
    let some : 0 < c.loop-place.place = grind (arith, nat_tests) in
    let inv = c.loop-place.invariant in
    let marks = c.args.marks.now in
    let place : ℕ = c.loop-place.place - 1 in
    let m : Followed = c.index-marks-place.result in
    let below : place < length marks = omega (arith, some, inv.0) in
    let is : c.loop-place.place ≡ suc place = omega (arith, some) in
    let held = c.mark.inside in
    let e : to_z w64 (of_z w64 held.buffer) ≡ held.buffer = search rules in
    let updates =
    subst (λ (n : ℤ). (q : ℤ × ℕ × ℕ × ℕ) → get setting_order c.insert.new.self q ≡ cond (is_at (setting_order (n, held.ns, held.id, held.set)) q) (Some place) (get setting_order c.loop-place.known q)) e
    c.in_ok-insert.ensures.updates.0 in (
      omega (arith, inv.0),
      one_more_known c.loop-place.known c.insert.new.self marks place m
          (slice_get_read marks (length marks) place m refl below c.index-marks-place.is)
          (rest_here marks place m below c.index-marks-place.is)
          (subst (λ (f : Followed). (q : ℤ × ℕ × ℕ × ℕ) → get setting_order c.insert.new.self q ≡ cond (is_at (setting_order (f.buffer, f.ns, f.id, f.set)) q) (Some place) (get setting_order c.loop-place.known q)) c.mark.view_is updates)
          (subst (AreKnownFrom c.loop-place.known marks) is inv.1),
    )
