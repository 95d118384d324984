use Rattle.nv_world.proofs.Standings.{settled_already, settles_now, settled_then}
use Rattle.nv_world.proofs.showing.settle_if.Goals as goal

pub returns-then-not-any-clause-stands : goal.returns-then-not-any-clause-stands
returns-then-not-any-clause-stands c = λ m h settled.
    settled_already c.args.editor.now m (settled c.if-not-is_seen.true c.if-not-any.true) h

pub returns-clause-stands : goal.returns-clause-stands
returns-clause-stands c = λ m h settled.
    settles_now c.args.editor.now c.settle.new.editor m c.in_ok-settle.ensures c.known-2.ensures h

pub returns-clause-settled : goal.returns-clause-settled
returns-clause-settled c = λ m h settled.
    settled_then c.args.editor.now c.settle.new.editor m c.in_ok-settle.ensures c.known.ensures h
