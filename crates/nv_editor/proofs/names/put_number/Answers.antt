use Rattle.std.proofs.Common.{sym, ◌∙◌}
use Rattle.nv_editor.proofs.NamesKept.{number_put, where_ok}
use Rattle.nv_editor.proofs.names.put_number.Goals as goal

pub returns : goal.returns
returns c ok x =
    number_put c.args.counts.now c.insert.new.self c.in-Ok.key c.args.name.now c.args.number c.in-Ok.ensures.items
    (where_ok c.insert.result _ (sym c.is_ok.ensures.value ∙ ok) c.insert.ensures.entries) x
