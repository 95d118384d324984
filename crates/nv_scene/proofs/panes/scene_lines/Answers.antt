use Rattle.std.proofs.Common.{◌≡◌, [], List, length, ap, sym, subst, arith}
use Rattle.nv_screen.specs.declared.scene.SceneLine.{SceneLine}
use Rattle.nv_model.specs.Standing.{seen_buffer_now}
use Rattle.nv_scene.specs.Panes.{AreLinesOf}
use Rattle.nv_scene.proofs.Painted.{laid_shown}
use Rattle.nv_scene.proofs.panes.scene_lines.Goals as goal

pub push_lines-requires-clause-shown : goal.push_lines-requires-clause-shown
push_lines-requires-clause-shown c = laid_shown c.args.first c.args.behind c.args.buffer.now.marks.marks c.args.marks.now c.requires.laid

pub returns-clause-count : goal.returns-clause-count
returns-clause-count c =
    let none : c.in_ok-lines.lines.items ≡ [] = c.in_ok-lines.ensures.items in
    omega (arith, ap (λ (ls : List SceneLine). length ls) none, c.in_ok-push_lines.ensures.count)

pub returns-clause-lines : goal.returns-clause-lines
returns-clause-lines c =
    let none : c.in_ok-lines.lines.items ≡ [] = c.in_ok-lines.ensures.items in
    c.in_ok-push_lines.ensures.lines c.args.first (omega (arith, ap (λ (ls : List SceneLine). length ls) none))
    (subst (AreLinesOf c.args.groups.now (seen_buffer_now c.args.buffer.now) c.args.first) (sym none) tt)
