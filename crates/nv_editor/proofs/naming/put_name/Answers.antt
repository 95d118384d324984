use Rattle.std.proofs.Common.{rules}
use Rattle.nv_editor.proofs.NameOrder.{name_put}
use Rattle.nv_editor.proofs.naming.put_name.Goals as goal

pub returns-clause-put : goal.returns-clause-put
returns-clause-put c =
    name_put c.args.ids.now c.insert.new.self c.in_ok-key.key c.args.name.now c.args.id c.args.names.now.items c.in_ok-insert.ensures.entries
    c.in_ok-key.ensures.items (search rules) c.requires.ids c.requires.fresh
