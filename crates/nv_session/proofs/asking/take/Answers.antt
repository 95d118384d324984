use Rattle.std.proofs.Common.{◌≡◌, rules, refl, ap}
use Rattle.nv_core.specs.Outcomes.{effect_of_taken}
use Rattle.nv_core.specs.declared.calls.Taken.TheVariants.{Items}
use Rattle.nv_core.specs.declared.entry.Event.TheVariants.{Take}
use Rattle.nv_session.proofs.Taking.{takes_due}
use Rattle.nv_session.proofs.asking.take.Goals as goal

pub returns-in-Ok-Items-clause-takes : goal.returns-in-Ok-Items-clause-takes
returns-in-Ok-Items-clause-takes c =
    let is : c.in-Ok-Items.field-0 ≡ Items c.in-Ok-Items.batch = search rules in
    takes_due (effect_of_taken c.in-Ok-Items.field-0) c.in-Ok-Items.batch c.args.world.now c.take.new.self (record { caller = 0; event = Take 1 })
    refl (ap effect_of_taken is) c.in-Ok-Items.ensures.ok.1
