use Rattle.std.proofs.Common.{◌≡◌, None, sym, ap, ◌∙◌}
use Rattle.nv_history.specs.Events.{Event}
use Rattle.nv_history.specs.Worlds.{step, world_made}
use Rattle.nv_core.specs.Contents.{plain_event}
use Rattle.nv_world.specs.Worlds.{model_of}
use Rattle.nv_world.proofs.Entries.{some_of}
use Rattle.nv_book.specs.declared.player.Halt.TheVariants.{Refused}
use Rattle.nv_book.proofs.Results.{err_is, none_or_some}
use Rattle.nv_book.proofs.writing.play_entry.Goals as goal

pub unreachable-requires : goal.unreachable-requires
unreachable-requires c =
    let m = some_of (model_of c.args.player.now.world) c.requires.runs in
    let none = c.play.ensures.refused (err_is c.play.result c.in-Err-Refused.field-0 Refused c.in-Err-Refused.is c.in-Err-Refused.field-0-is) m.0 m.1 in
    none_or_some (world_made (step m.0 (plain_event c.args.entry.now.event))) (c.requires.enters m.0 m.1)
    (ap (λ (e : Event). world_made (step m.0 e)) (sym c.requires.event) ∙ none)
