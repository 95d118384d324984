use Rattle.std.proofs.Common.{◌≡◌, ◌+◌, ◌∷◌, ◌∙◌, drop, ap, sym, arith}
use Rattle.nv_linedraw.proofs.LayLemmas.{drop_at}
use Rattle.nv_screen.specs.Drawing.{with_rows}
use Rattle.nv_screen.specs.inside.Laying.{frame_rows, row_at}
use Rattle.nv_screen.proofs.LayLemmas.{laid_done}
use Rattle.nv_screen.proofs.TextLemmas.{no_room}
use Rattle.nv_screen.proofs.text.lay_text.Goals as goal

pub returns-then-room-eq0 : goal.returns-then-room-eq0
returns-then-room-eq0 g c =
    let at = c.loop-line in
    let f = c.args.frame.now in
    laid_done at.canvas _ (row_at f at.room) f.col _
    (ap (λ r. frame_rows f r (drop at.line-index c.args.lines.now)) c.if-room-eq0.true
    ∙ no_room f.width f.tabstop f.looks.now (drop at.line-index c.args.lines.now) c.requires.wide c.requires.stop)
    at.invariant.laid

pub loop-line-preserved : goal.loop-line-preserved
loop-line-preserved g c =
    let at = c.loop-line in
    let f = c.args.frame.now in
    let ls = c.args.lines.now in
    let rest = drop (at.line-index + 1) ls in
    let line = c.line-item.result in
    let split : drop at.line-index ls ≡ line ∷ rest = drop_at ls at.line-index line c.loop-line-test.true ∙ ap (λ l. l ∷ rest) (sym c.line-item.is) in
    record {
      laid = c.in_ok-room.ensures.laid (λ left. frame_rows f left rest) (no_room f.width f.tabstop f.looks.now rest c.requires.wide c.requires.stop)
          ∙ ap (λ ls. record at.canvas { rows = with_rows at.canvas.rows (row_at f at.room) f.col (frame_rows f at.room ls) }) (sym split) ∙ at.invariant.laid;
      room = omega (arith, c.in_ok-room.ensures.less, at.invariant.room);
    }
