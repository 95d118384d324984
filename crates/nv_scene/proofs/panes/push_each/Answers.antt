use Rattle.std.proofs.Common.{◌≡◌, ◌++◌, ◌∷◌, [], List, length, length-append, ap, sym, subst, arith}
use Rattle.nv_screen.specs.declared.scene.SceneLine.{SceneLine}
use Rattle.nv_model.specs.Standing.{seen_buffer_now}
use Rattle.nv_scene.specs.Panes.{AreLinesOf}
use Rattle.nv_scene.proofs.Pushed.{lines_push}
use Rattle.nv_scene.proofs.panes.push_each.Goals as goal

pub loop-row-init : goal.loop-row-init
loop-row-init c = record { count = omega arith; lines = λ start here are. are }

pub loop-row-preserved : goal.loop-row-preserved
loop-row-preserved c =
    let b = seen_buffer_now c.args.buffer.now in
    let at = c.loop-row in
    let pushed : c.push.new.self.items ≡ at.lines.items ++ c.in_ok-line.line ∷ [] = c.in_ok-push.ensures.items in
    record {
      count = omega (arith, ap (λ (ls : List SceneLine). length ls) pushed, length-append at.lines.items (c.in_ok-line.line ∷ []), at.invariant.count, at.auto.row);
      lines = λ start here are.
          subst (AreLinesOf c.args.groups.now b start) (sym pushed)
          (lines_push c.args.groups.now b start at.row at.lines.items c.in_ok-line.line (at.invariant.lines start here are)
          (omega (arith, here, at.invariant.count, at.auto.row)) c.in_ok-line.ensures);
    }

pub returns-clause-lines : goal.returns-clause-lines
returns-clause-lines c = c.loop-row.invariant.lines
