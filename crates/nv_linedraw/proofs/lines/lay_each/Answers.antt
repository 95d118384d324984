use Rattle.std.proofs.Common.{◌≤◌, ◌+◌, get_or, length, drop, ap, arith}
use Rattle.std.proofs.lemmas.List.{length-append}
use Rattle.nv_text.specs.declared.piece.Kind.TheVariants.{Tab}
use Rattle.nv_text.specs.declared.piece.Piece.{Piece}
use Rattle.nv_linedraw.specs.LineCells.{cells_from_column, filler_of, piece_atoms}
use Rattle.nv_linedraw.specs.inside.DrawnCells.{drawn_atoms}
use Rattle.nv_linedraw.proofs.LayLemmas.{all_laid, drop_at, front_of, piece_step, piece_col, piece_stop, some_cells}
use Rattle.nv_linedraw.proofs.lines.lay_each.Goals as goal

pub returns-then-most-len-clause-laid : goal.returns-then-most-len-clause-laid
returns-then-most-len-clause-laid c =
    let none : Piece = record { from = 0; to = 0; kind = Tab } in
    let d = c.args.d.now in
    let ps = c.args.pieces.now in
    let k = c.loop-piece.piece-index in
    let enough : c.args.most ≤ length c.put_piece.new.self.cells.items = omega (arith, c.if-most-len.true, c.len.ensures, c.put_piece.new.self.cells.ok.0) in
    record {
      front = front_of c.put_piece.new.self.cells.items
          (cells_from_column d.width (filler_of d.looks.now) c.put_piece.new.self.col (drawn_atoms d c.in_ok-stop.stop (drop (k + 1) ps))) _
          (piece_step d.tabstop d.line.now d.spans.now d.looks.now.special d.width (filler_of d.looks.now) c.loop-piece.flow.col c.put_piece.new.self.col
          c.loop-piece.stop c.in_ok-stop.stop k ps (get_or ps k none) c.loop-piece.flow.cells.items c.put_piece.new.self.cells.items _
          (drop_at ps k none (omega (arith, c.loop-piece-test.true))) c.in_ok-stop.ensures.cells c.in_ok-stop.ensures.col c.in_ok-stop.ensures.stop
          c.loop-piece.invariant.cells);
      all = λ few. absurd (omega (arith, few, enough));
      col = λ few. absurd (omega (arith, few, enough));
      stop = λ few. absurd (omega (arith, few, enough));
      count = λ few. absurd (omega (arith, few, enough));
    }

pub loop-piece-preserved : goal.loop-piece-preserved
loop-piece-preserved c =
    let none : Piece = record { from = 0; to = 0; kind = Tab } in
    let d = c.args.d.now in
    let ps = c.args.pieces.now in
    let k = c.loop-piece.piece-index in
    let p = get_or ps k none in
    let here = drop_at ps k none (omega (arith, c.loop-piece-test.true)) in
    let atoms = piece_atoms d.tabstop c.loop-piece.stop d.line.now d.spans.now d.looks.now.special p in
    let xs = cells_from_column d.width (filler_of d.looks.now) c.loop-piece.flow.col atoms in
    record {
      cells = piece_step d.tabstop d.line.now d.spans.now d.looks.now.special d.width (filler_of d.looks.now) c.loop-piece.flow.col
          c.put_piece.new.self.col c.loop-piece.stop c.in_ok-stop.stop k ps p c.loop-piece.flow.cells.items c.put_piece.new.self.cells.items _
          here c.in_ok-stop.ensures.cells c.in_ok-stop.ensures.col c.in_ok-stop.ensures.stop c.loop-piece.invariant.cells;
      col = piece_col d.tabstop d.line.now d.spans.now d.looks.now.special d.width c.loop-piece.flow.col c.put_piece.new.self.col
          c.loop-piece.stop c.in_ok-stop.stop k _ ps p here c.in_ok-stop.ensures.col c.in_ok-stop.ensures.stop c.loop-piece.invariant.col;
      behind = piece_stop d.tabstop c.loop-piece.stop c.in_ok-stop.stop k _ ps p here c.in_ok-stop.ensures.stop c.loop-piece.invariant.behind;
      within = c.in_ok-stop.ensures.within;
      stop = c.in_ok-stop.ensures.stop_within;
      count = omega (
        arith,
        c.loop-piece.invariant.count,
        ap length c.in_ok-stop.ensures.cells,
        length-append c.loop-piece.flow.cells.items xs,
        some_cells d.tabstop c.loop-piece.stop d.line.now d.spans.now d.looks.now.special p d.width (filler_of d.looks.now) c.loop-piece.flow.col
            c.loop-piece.invariant.stop,
      );
    }

pub returns-clause-laid : goal.returns-clause-laid
returns-clause-laid c =
    let at = c.loop-piece.invariant in
    all_laid c.args.d.now c.args.most c.args.pieces.now c.loop-piece.piece-index _ _ (omega (arith, c.loop-piece-test.false)) at.cells at.col at.behind at.count
