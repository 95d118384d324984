use Rattle.std.proofs.Common.{◌≡◌, ◌++◌, filter, subst, take}
use Rattle.nv_marks.specs.Marks.{Marks}
use Rattle.nv_marks.specs.Queries.{is_selected}
use Rattle.nv_api_mark.proofs.Picked.{picked_are, query_of}
use Rattle.nv_api_mark.proofs.listing.first_picked.Goals as goal

pub returns : goal.returns
returns c =
    let picks = c.args.picks in
    picked_are picks c.args.wanted c.args.buffer.now.marks.marks c.new-found.result.items c.select.new.into.items c.requires.order
    c.new-found.ensures.items
    (subst (λ (k : Marks). c.select.new.into.items ≡ c.new-found.result.items ++ take c.args.wanted (filter (is_selected (query_of picks)) k.marks))
    c.marks.ensures.value c.in_ok-select.ensures.ok)
