use Rattle.std.proofs.Common.{ℕ, List, ◌++◌, codes, ap, sym, ◌∙◌}
use Rattle.nv_mirror.specs.declared.followed.Followed.{Followed}
use Rattle.nv_run.specs.Statuses.{line_of_follow}
use Rattle.nv_run.specs.declared.mirroring.FollowEnd.TheVariants.{Connected}
use Rattle.nv_run.proofs.Lines.{tells_as}
use Rattle.nv_run.proofs.telling.tell_followed.Goals as goal

pub returns-in-Refused : goal.returns-in-Refused
returns-in-Refused g c =
    tells_as _ (line_of_follow (Connected c.args.followed.now)) _ _
    (ap (λ (l : List ℕ). codes "nvimd: refused: " ++ (l ++ codes "\n")) c.as_slice.ensures.bytes ∙ sym (ap (λ (f : Followed). line_of_follow (Connected f)) c.in-Refused.is))
    c.tell_refusal.ensures

pub returns-in-Unfit : goal.returns-in-Unfit
returns-in-Unfit g c = tells_as _ (line_of_follow (Connected c.args.followed.now)) _ _ (sym (ap (λ (f : Followed). line_of_follow (Connected f)) c.in-Unfit.is)) c.tell_misfit.ensures
