use Rattle.std.proofs.Common.{◌≡◌, ◌+◌, ◌++◌, ◌∷◌, [], length, ap, sym, ◌∙◌, rules}
use Rattle.nv_editor.specs.inside.Ids.{with_name}
use Rattle.nv_editor.proofs.NameOrder.{one_more}
use Rattle.nv_editor.proofs.naming.append.Goals as goal

pub returns-clause-ids : goal.returns-clause-ids
returns-clause-ids c =
    let names = c.args.names.now.items in
    let pushed : c.push_reserved.new.self.items ≡ names ++ c.args.name.now ∷ [] = search rules in
    let count : c.next_id-id.result ≡ length names + 1 = search rules in
    c.in_ok-put_name.ensures.put
    ∙ ap (with_name c.args.name.now c.next_id-id.result) c.requires.ids
    ∙ one_more names c.push_reserved.new.self.items c.args.name.now c.next_id-id.result pushed count c.requires.fresh
