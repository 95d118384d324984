use Rattle.std.proofs.Common.{◌≡◌, false, take}
use Rattle.nv_editor.specs.Facts.{facts_of}
use Rattle.nv_history.specs.Sessions.{has_quit}
use Rattle.nv_world.proofs.state.has_quit.Given as goal

abbrev pub invariant-loop-fact : goal.invariant-loop-fact
invariant-loop-fact l = has_quit (facts_of (take l.fact-index l.facts)) ≡ false
