use Rattle.nv_hl.proofs.CellLemmas.{sized-strip}
use Rattle.nv_hl.proofs.grid.Grid.lay.Goals as goal

pub invariant_of-self : goal.invariant_of-self
invariant_of-self c =
    sized-strip c.self.inside.width c.self.inside.height c.self.inside.rows.items c.lay_strip.new.rows.items c.args.row c.args.col
    c.args.cells.items c.self.invariant c.lay_strip.ensures
