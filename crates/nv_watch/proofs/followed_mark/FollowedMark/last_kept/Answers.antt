use Rattle.std.proofs.Common.{List, ap, map, ◌∙◌}
use Rattle.nv_model.specs.Buffers.{last_kept}
use Rattle.nv_watch.specs.FollowedMarks.{Followed, part_kept}
use Rattle.nv_watch.specs.declared.followed_mark.KeptPart.{KeptPart}
use Rattle.nv_watch.proofs.followed_mark.FollowedMark.last_kept.Goals as goal

pub returns : goal.returns
returns c =
    c.last_kept_in.ensures
    ∙ ap (λ (l : List KeptPart). last_kept c.args.part (map part_kept l)) c.as_slice.ensures.value
    ∙ ap (λ (m : Followed). last_kept c.args.part m.state.kept) c.self.view_is
