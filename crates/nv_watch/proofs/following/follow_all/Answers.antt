use Rattle.std.proofs.Common.{rules, ◌≡◌, ◌∷◌, ◌++◌}
use Rattle.nv_model.specs.Standing.{seen_now}
use Rattle.nv_watch.specs.FollowedMarks.{follow_under}
use Rattle.nv_watch.proofs.Handles.{one_more}
use Rattle.nv_watch.proofs.following.follow_all.Goals as goal

pub loop-handle-preserved : goal.loop-handle-preserved
loop-handle-preserved c =
    let f = follow_under c.args.is_left_out c.args.marks.now (seen_now c.args.editor.now) in
    let left : c.loop-handle.handle-iterator ≡ c.in-Some.handle.now ∷ c.next.new.self = search rules in
    let more : c.follow_under.new.followed.items ≡ c.loop-handle.followed.items ++ f c.in-Some.handle.now = search rules in
    one_more f _ _ _ _ _ _ left more c.loop-handle.invariant
