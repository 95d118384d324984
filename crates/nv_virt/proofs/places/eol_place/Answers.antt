use Rattle.std.proofs.Common.{◌≡◌, ◌+◌, min, arith, unwrap_or}
use Rattle.nv_virt.specs.Texts.{tail_of_line}
use Rattle.nv_virt.proofs.PlaceLemmas.{eol_comes}
use Rattle.nv_virt.proofs.places.eol_place.Goals as goal

pub returns : goal.returns
returns c = λ ends is.
    let l = c.args.line.now in
    let tail = tail_of_line l.width l.tabstop l.bytes.now in
    let behind : c.unwrap_or.result ≡ unwrap_or c.args.before c.in_ok-row.col = c.unwrap_or.ensures in
    eol_comes l.most l.width (c.in_ok-row.row, c.in_ok-row.col) tail c.args.before ends c.min.result is c.in_ok-row.ensures
    (omega (arith, c.min.ensures, c.saturating_add-col.ensures, behind))
