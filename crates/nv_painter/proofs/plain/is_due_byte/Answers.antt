use Rattle.std.proofs.Common.{ℕ, not, [], ◌∷◌, get_or, ap, sym, ◌∙◌, None}
use Rattle.nv_linegrid.specs.Client.{shown_of}
use Rattle.nv_linegrid.specs.Rows.{shows_cell}
use Rattle.nv_painter.proofs.PlainLemmas.{plain_due}
use Rattle.nv_painter.proofs.plain.is_due_byte.Goals as goal

pub returns : goal.returns
returns c width lt =
    ap not (c.shows_byte.ensures ∙ ap (λ (b : ℕ). shows_cell (get_or c.args.row.now c.args.at None) (shown_of (b ∷ []) 0)) c.byte_at.ensures)
    ∙ sym (plain_due c.args.row.now width c.args.bytes.now c.args.at lt)
