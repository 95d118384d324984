use Rattle.std.proofs.Common.{◌≡◌, ◌≤◌, ◌+◌, ◌-◌, ◌%◌, ◌∙◌, ap, sym, take, drop, get_or, rules}
use Rattle.nv_text.specs.declared.piece.Kind.TheVariants.{Tab}
use Rattle.nv_text.specs.declared.piece.Piece.{Piece}
use Rattle.nv_text.specs.Pieces.{pieces_of}
use Rattle.nv_linedraw.specs.inside.Placing.{cells_taken}
use Rattle.nv_linedraw.proofs.LayLemmas.{drop_at}
use Rattle.nv_linedraw.proofs.PlaceLemmas.{first_are_enough, found_later, sought, stands_at_first}
use Rattle.nv_linedraw.proofs.places.place_of_byte.Goals as goal

pub loop-piece-init : goal.loop-piece-init
loop-piece-init c =
    let ps = c.as_slice-piece-items.result.now in
    let is : ps ≡ take (c.args.byte + 1) (pieces_of c.args.line.now) = search rules in (
      0,
      stands_at_first c.args.width c.args.most c.requires.wide,
      c.requires.stop,
      first_are_enough c.args.width c.args.tabstop c.args.line.now c.args.byte ps c.requires.wide is,
    )

pub loop-piece-preserved : goal.loop-piece-preserved
loop-piece-preserved c =
    let at = c.loop-piece.invariant in
    let none : Piece = record { from = 0; to = 0; kind = Tab } in
    let ps = c.as_slice-piece-items.result.now in
    let k = c.loop-piece.piece-index in
    let p = get_or ps k none in
    let w = c.args.width in
    let t = c.args.tabstop in
    let stop = c.loop-piece.stop in
    let n = c.cells_taken-count.result in
    let behind : p.to ≤ c.args.byte = search rules in
    let count : n ≡ cells_taken w (t - stop) (at.0 % w) p.kind =
    c.cells_taken-count.ensures ∙ ap (λ col. cells_taken w (t - stop) col p.kind) at.1.col_is in
    let here = drop_at ps k none c.loop-piece-test.true in (
      at.0 + n,
      c.moved-place-in-loop-piece.ensures at.0 at.1,
      c.stop_after-stop.ensures.within,
      sym (found_later w t c.args.line.now c.args.byte stop at.0 c.stop_after-stop.result n p (drop (k + 1) ps) c.requires.wide behind count c.stop_after-stop.ensures.value)
          ∙ ap (sought w t c.args.line.now c.args.byte stop at.0) (sym here)
          ∙ at.3,
    )
