use Rattle.std.proofs.Common.{◌≡◌, ◌+◌, ◌-◌, min, length, take, rules}
use Rattle.nv_screen.specs.Cursor.{bytes_at}
use Rattle.nv_screen.proofs.CursorLemmas.{cursor_is}
use Rattle.nv_screen.proofs.cursor.cursor_in_pane.Goals as goal

pub returns : goal.returns
returns c =
    let p = c.args.pane.now in
    let n = c.args.cursor.now.row - p.top in
    let front : c.split_at.result.0.now ≡ take (min n (length p.lines.items)) p.lines.items = search rules in
    let bytes : c.bytes_at-bytes.result.now ≡ bytes_at p.lines.items n = search rules in
    let sum : c.min-row.result ≡ min (c.in_ok-above.above + c.in_ok-row.row) (p.rect.height - 1) = search rules in
    cursor_is p c.args.cursor.now c.in_ok-above.above c.in_ok-row.row c.in_ok-row.col c.min-row.result c.split_at.result.0.now
    c.bytes_at-bytes.result.now front bytes c.in_ok-above.ensures c.in_ok-row.ensures.row c.in_ok-row.ensures.col sum
