use Rattle.std.proofs.Common.{◌≡◌, ◌++◌, rules}
use Rattle.nv_redraw.specs.inside.Parts.{place_spelling}
use Rattle.nv_redraw.proofs.PutLemmas.{line_put}
use Rattle.nv_redraw.proofs.spelling.put_line.Goals as goal

pub returns-clause-ok : goal.returns-clause-ok
returns-clause-ok c =
    let place : c.put_place.new.into.items ≡ c.args.into.now.items ++ place_spelling c.args.grid c.args.row c.args.col = search rules in
    line_put c.args.into.now.items c.put_place.new.into.items c.put_cells.new.into.items c.put_byte.new.into.items c.args.grid c.args.row c.args.col c.args.cells.now
    place c.in_ok-put_cells.ensures.ok c.in_ok-put_byte.ensures.ok
