use Rattle.std.proofs.Common.{◌≡◌, Vec, length, rules}
use Rattle.nv_marks.specs.declared.extmark.Mark.{Mark}
use Rattle.nv_api_mark.specs.inside.Picking.{is_picked}
use Rattle.nv_api_mark.proofs.Picked.{all_taken}
use Rattle.nv_api_mark.proofs.listing.all_picked.Goals as goal

pub returns : goal.returns
returns c =
    let count : c.len.result ≡ length c.args.buffer.now.marks.marks = search rules in
    all_taken (λ (v : Vec Mark _). v.items) c.first_picked.result (is_picked c.args.picks) c.len.result c.args.buffer.now.marks.marks count c.first_picked.ensures
