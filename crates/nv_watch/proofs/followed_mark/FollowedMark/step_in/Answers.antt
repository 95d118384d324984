use Rattle.std.specs.Prelude.{option_map}
use Rattle.nv_watch.specs.FollowedMarks.{ends_kept, reach_of_moved}
use Rattle.nv_watch.proofs.FollowedSteps.{stepped}
use Rattle.nv_watch.proofs.followed_mark.FollowedMark.step_in.Goals as goal

pub returns : goal.returns
returns c =
    stepped c.args.self.now c.strike.new.self c.move_by.new.self c.put_back.new.self c.keep.new.self (reach_of_moved c.args.splice)
    c.part_of-part.result (option_map ends_kept c.kept_by-kept.result) (option_map ends_kept c.last_kept-before.result)
    (record {
      part_is = c.part_of-part.ensures;
      kept_is = c.kept_by-kept.ensures;
      before_is = c.last_kept-before.ensures;
      struck_is = c.strike.ensures;
      moved_is = c.in_ok-move_by.ensures;
      back_is = c.put_back.ensures;
      now_is = c.in_ok-keep.ensures;
    })
