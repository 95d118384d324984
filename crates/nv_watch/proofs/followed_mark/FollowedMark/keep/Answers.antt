use Rattle.std.proofs.Common.{◌≡◌, refl, ap, sym, ◌∙◌, List, Option, Some, None}
use Rattle.std.specs.Prelude.{option_map}
use Rattle.nv_buffer.specs.declared.edit.ChangePart.{ChangePart}
use Rattle.nv_model.specs.Buffers.{KeptState, kept_with}
use Rattle.nv_watch.specs.FollowedMarks.{Followed, ends_kept}
use Rattle.nv_watch.specs.contracts.followed_mark.FollowedMark.{the_view}
use Rattle.nv_watch.specs.declared.followed_mark.KeptEnds.{KeptEnds}
use Rattle.nv_watch.proofs.FollowedSteps.{kept_fewer, kept_more, with_kept}
use Rattle.nv_watch.proofs.followed_mark.FollowedMark.keep.Goals as goal

pub returns-in_ok-push : goal.returns-in_ok-push
returns-in_ok-push c =
    let part = c.args.part in
    let ends = c.in-Some.ends in
    ap (with_kept (the_view c.self.inside))
    (kept_more part (record { part = part; ends = ends }) c.self.inside.kept.items c.leave_out.new.kept.items c.push.new.self.items refl c.leave_out.ensures c.in_ok-push.ensures.items)
    ∙ ap (λ (f : Followed). with_kept f (kept_with part (Some (ends_kept ends)) f.state.kept)) c.self.view_is
    ∙ ap (λ (o : Option KeptEnds). with_kept c.args.self.now (kept_with part (option_map ends_kept o) c.args.self.now.state.kept)) (sym c.in-Some.is)

pub returns-in_default : goal.returns-in_default
returns-in_default c =
    let part = c.args.part in
    ap (with_kept (the_view c.self.inside)) (kept_fewer part c.self.inside.kept.items c.leave_out.new.kept.items c.leave_out.ensures)
    ∙ ap (λ (f : Followed). with_kept f (kept_with part None f.state.kept)) c.self.view_is
    ∙ ap (λ (o : Option KeptEnds). with_kept c.args.self.now (kept_with part (option_map ends_kept o) c.args.self.now.state.kept)) (sym c.in_default.is)
