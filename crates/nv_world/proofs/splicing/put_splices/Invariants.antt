use Rattle.std.proofs.Common.{◌≡◌, ◌++◌, take}
use Rattle.nv_editor.specs.Facts.{facts_of}
use Rattle.nv_world.specs.inside.Splicing.{splices_told}
use Rattle.nv_world.proofs.splicing.put_splices.Given as goal

abbrev pub invariant-loop-fact : goal.invariant-loop-fact
invariant-loop-fact l = l.splices.items ≡ l.initial.splices.items ++ splices_told (facts_of (take l.fact-index l.facts))
