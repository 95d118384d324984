use Rattle.std.proofs.Common.{sym, subst}
use Rattle.nv_calls.specs.Reading.{EndsAt}
use Rattle.nv_calls.specs.Intakes.{IntakeState, IsLive, WantsMore}
use Rattle.nv_calls.proofs.Giving.{end_told}
use Rattle.nv_calls.proofs.intake.Intake.end.Goals as goal

pub returns-clause-unfinished : goal.returns-clause-unfinished
returns-clause-unfinished c =
    let live = subst IsLive (sym c.self.view_is) c.requires.live in
    let wants = subst WantsMore (sym c.self.view_is) c.requires.waits in
    (end_told c.self.inside.stream c.self.inside.number c.end.result c.end.ensures live wants).0

pub returns-clause-ends : goal.returns-clause-ends
returns-clause-ends c =
    let live = subst IsLive (sym c.self.view_is) c.requires.live in
    let wants = subst WantsMore (sym c.self.view_is) c.requires.waits in
    subst (λ (x : IntakeState). EndsAt x.number x.place x.held c.end.result) c.self.view_is
    (end_told c.self.inside.stream c.self.inside.number c.end.result c.end.ensures live wants).1
