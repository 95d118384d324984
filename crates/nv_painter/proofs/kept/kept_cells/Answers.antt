use Rattle.std.proofs.Common.{◌≡◌, ◌∙◌, None, Some, is_some, ap, sym}
use Rattle.std.specs.Map.{lookup}
use Rattle.std.specs.Option.{option_copied}
use Rattle.nv_painter.specs.Keys.{same_line_key}
use Rattle.nv_painter.specs.inside.Lent.{lent_content}
use Rattle.nv_painter.proofs.KeptLemmas.{found_cells, has_key}
use Rattle.nv_painter.proofs.kept.kept_cells.Goals as goal

pub returns-in-Some : goal.returns-in-Some
returns-in-Some c =
    let key = lent_content c.args.key in
    let es = c.args.cache.now.entries in
    let found : lookup (same_line_key key) es ≡ Some c.in-Some.row.now = sym c.peek.ensures ∙ ap option_copied c.in-Some.is in
    (has_key key es ∙ ap is_some found, c.cells.ensures ∙ found_cells key es c.in-Some.row.now c.requires.entries found)

pub returns-in-None : goal.returns-in-None
returns-in-None c =
    let key = lent_content c.args.key in
    let es = c.args.cache.now.entries in
    let none : lookup (same_line_key key) es ≡ None = sym c.peek.ensures ∙ ap option_copied c.in-None.is in
    has_key key es ∙ ap is_some none
