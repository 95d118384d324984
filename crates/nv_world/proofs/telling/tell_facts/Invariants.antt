use Rattle.std.proofs.Common.{ℕ, List}
use Rattle.std.specs.Vec.Iter.{into_iter_items}
use Rattle.nv_editor.specs.Facts.{facts_of}
use Rattle.nv_history.specs.Sessions.{Session as ModelSession}
use Rattle.nv_world.specs.inside.Sessions.{AreSessions}
use Rattle.nv_world.proofs.Hearings.{Hears}
use Rattle.nv_world.proofs.telling.tell_facts.Given as goal

abbrev pub invariant-loop-fact : goal.invariant-loop-fact
invariant-loop-fact l =
    (capacity : ℕ) (ys : List ModelSession) → AreSessions capacity l.initial.subs l.initial.sessions ys
    → Hears capacity l.at l.caller l.subs l.sessions (facts_of (into_iter_items l.fact-iterator)) (facts_of l.fn.facts.items) ys
