use Rattle.std.proofs.Common.{◌∙◌, arith, map}
use Rattle.nv_linedraw.specs.LineCells.{rows_of_line}
use Rattle.nv_scene.proofs.SettledTop.{top_end, top_front, top_start, top_step, top_stop}
use Rattle.nv_scene.proofs.settling.settled_top.Goals as goal

pub returns-then-cursor-top : goal.returns-then-cursor-top
returns-then-cursor-top c =
    top_front c.args.area.height (map (rows_of_line c.args.area.width c.args.tabstop) c.args.text.now) c.args.cursor c.args.top (omega (arith, c.if-cursor-top.true))

pub loop-n-init : goal.loop-n-init
loop-n-init c = top_start (rows_of_line c.args.area.width c.args.tabstop) c.args.text.now c.args.cursor c.args.top c.args.area.height c.requires.within

pub returns-then-left-rows : goal.returns-then-left-rows
returns-then-left-rows c =
    c.min.ensures
    ∙ top_stop (rows_of_line c.args.area.width c.args.tabstop) c.args.text.now c.args.cursor c.args.top c.args.area.height c.requires.within
    c.loop-n.n c.loop-n.left c.in_ok-rows.rows (omega (arith, c.if-cursor-top.false)) (omega (arith, c.loop-n-test.true, c.loop-n.auto.n-end, c.if-cursor-top.false)) c.loop-n.invariant
    c.in_ok-rows.ensures (omega (arith, c.if-left-rows.true))

pub loop-n-preserved : goal.loop-n-preserved
loop-n-preserved c =
    top_step (rows_of_line c.args.area.width c.args.tabstop) c.args.text.now c.args.cursor c.args.top c.args.area.height c.requires.within
    c.loop-n.n c.loop-n.left c.in_ok-rows.rows (omega (arith, c.loop-n-test.true, c.loop-n.auto.n-end, c.if-cursor-top.false)) c.loop-n.invariant
    c.in_ok-rows.ensures (omega (arith, c.if-left-rows.false))

pub returns : goal.returns
returns c =
    top_end (rows_of_line c.args.area.width c.args.tabstop) c.args.text.now c.args.cursor c.args.top c.args.area.height c.requires.within
    c.loop-n.n c.loop-n.left (omega (arith, c.if-cursor-top.false)) (omega (arith, c.loop-n-test.false, c.loop-n.auto.n-end, c.if-cursor-top.false)) c.loop-n.invariant
