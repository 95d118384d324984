use Rattle.std.proofs.Common.{rules, ◌∙◌, ◌≡◌}
use Rattle.std.specs.BTreeMap.{get_by}
use Rattle.std.specs.Cmp.Lexicographic.{slice_cmp}
use Rattle.std.specs.Ordering.{nat_cmp}
use Rattle.nv_editor.proofs.NameOrder.{id_found}
use Rattle.nv_editor.proofs.naming.id_in.Goals as goal

pub returns : goal.returns
returns c =
    let known : c.copied.result ≡ get_by (λ k. slice_cmp nat_cmp c.args.name.now k.items) c.args.ids.now = search rules in
    known ∙ id_found c.args.ids.now c.args.names.now.items c.args.name.now c.requires.some c.requires.ids
