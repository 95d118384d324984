use Rattle.std.proofs.Common.{◌≡◌, ◌≢◌, false, rules}
use Rattle.nv_hl.specs.Attributes.{empty_attr, same_attr}
use Rattle.nv_painter.proofs.SketchLemmas.{id_of_found}
use Rattle.nv_painter.proofs.ids.known_id.Goals as goal

pub returns : goal.returns
returns c =
    let other : same_attr c.args.attr.now empty_attr ≡ false = search rules in
    let some : c.id_among-id.result ≢ 0 = search rules in
    id_of_found c.args.attrs.now c.args.attr.now c.id_among-id.result other c.id_among-id.ensures some
