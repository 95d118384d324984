use Rattle.std.proofs.Common.{◌≡◌, ◌+◌, ◌-◌, ◌*◌, ◌%◌, ◌∙◌, [], ap, sym, take, drop, get_or, length, arith, rules}
use Rattle.std.proofs.Math.Nat.{zero-mod}
use Rattle.std.proofs.lemmas.List.{drop_all}
use Rattle.nv_text.specs.declared.piece.Kind.TheVariants.{Tab}
use Rattle.nv_text.specs.declared.piece.Piece.{Piece}
use Rattle.nv_text.specs.Pieces.{pieces_of}
use Rattle.nv_linedraw.specs.inside.Placing.{cells_taken}
use Rattle.nv_linedraw.proofs.EndLemmas.{end_row, end_col, length_of, length_step}
use Rattle.nv_linedraw.proofs.LayLemmas.{drop_at}
use Rattle.nv_linedraw.proofs.PlaceLemmas.{stands_at_first}
use Rattle.nv_linedraw.proofs.places.line_end.Goals as goal

pub loop-piece-init : goal.loop-piece-init
loop-piece-init c =
    let ps = c.as_slice-piece-items.result.now in (
      0,
      stands_at_first c.args.width c.args.most c.requires.wide,
      c.requires.stop,
      omega (arith, ap (λ col. length_of c.args.width c.args.tabstop c.args.line.now 0 col ps) (zero-mod c.args.width)),
    )

pub loop-piece-preserved : goal.loop-piece-preserved
loop-piece-preserved c =
    let at = c.loop-piece.invariant in
    let none : Piece = record { from = 0; to = 0; kind = Tab } in
    let ps = c.as_slice-piece-items.result.now in
    let k = c.loop-piece.piece-index in
    let p = get_or ps k none in
    let w = c.args.width in
    let t = c.args.tabstop in
    let stop = c.loop-piece.stop in
    let n = c.cells_taken-count.result in
    let count : n ≡ cells_taken w (t - stop) (at.0 % w) p.kind =
    c.cells_taken-count.ensures ∙ ap (λ col. cells_taken w (t - stop) col p.kind) at.1.col_is in
    let here = drop_at ps k none c.loop-piece-test.true in (
      at.0 + n,
      c.moved-place.ensures at.0 at.1,
      c.stop_after-stop.ensures.within,
      sym (length_step w t c.args.line.now stop at.0 c.stop_after-stop.result n p (drop (k + 1) ps) c.requires.wide count c.stop_after-stop.ensures.value)
          ∙ ap (λ qs. at.0 + length_of w t c.args.line.now stop (at.0 % w) qs) (sym here)
          ∙ at.3,
    )

pub returns-clause-row : goal.returns-clause-row
returns-clause-row c =
    let at = c.loop-piece.invariant in
    let ps = c.as_slice-piece-items.result.now in
    let k = c.loop-piece.piece-index in
    let w = c.args.width in
    let t = c.args.tabstop in
    let line = c.args.line.now in
    let is : ps ≡ take (c.args.most * w) (pieces_of line) = search rules in
    let none : drop k ps ≡ [] = drop_all k ps (omega (arith, c.loop-piece-test.false)) in
    let cell : at.0 ≡ length_of w t line 0 0 ps =
    omega (arith, ap (λ qs. length_of w t line c.loop-piece.stop (at.0 % w) qs) none, at.3) in
    end_row w t c.args.most c.loop-piece.place.row c.loop-piece.place.col line ps at.0 c.requires.wide c.requires.stop is at.1 cell

pub returns-clause-col : goal.returns-clause-col
returns-clause-col c = λ below.
    let at = c.loop-piece.invariant in
    let ps = c.as_slice-piece-items.result.now in
    let k = c.loop-piece.piece-index in
    let w = c.args.width in
    let t = c.args.tabstop in
    let line = c.args.line.now in
    let is : ps ≡ take (c.args.most * w) (pieces_of line) = search rules in
    let none : drop k ps ≡ [] = drop_all k ps (omega (arith, c.loop-piece-test.false)) in
    let cell : at.0 ≡ length_of w t line 0 0 ps =
    omega (arith, ap (λ qs. length_of w t line c.loop-piece.stop (at.0 % w) qs) none, at.3) in
    end_col w t c.args.most c.loop-piece.place.row c.loop-piece.place.col line ps at.0 c.requires.wide c.requires.stop is at.1 cell below
