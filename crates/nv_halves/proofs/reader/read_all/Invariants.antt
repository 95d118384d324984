use Rattle.std.proofs.Common.{◌≡◌, ℕ, ◌-◌, ◌^◌, ◌≤◌, List}
use Rattle.nv_io.specs.Streams.{Gave}
use Rattle.nv_calls.specs.Intakes.{IsLive, WantsMore, came}
use Rattle.nv_halves.specs.Passes.{plain_pass}
use Rattle.nv_halves.specs.inside.Intakes.{MakesCalls}
use Rattle.nv_halves.proofs.reader.read_all.Given as goal

abbrev pub invariant-pieces : goal.invariant-pieces
invariant-pieces g l = record {
  made : (bytes : List ℕ)
      × Gave (g.I.Source.words l.initial.input).taken (g.I.Source.words l.input).taken (g.I.Source.words l.initial.input).left (g.I.Source.words l.input).left bytes
      × MakesCalls bytes l.fn.intake l.intake (plain_pass l.fn.pass) (plain_pass l.pass) l.session;
  at_turn : l.pass.turn ≡ l.fn.pass.turn;
  live : IsLive l.intake;
  waits : WantsMore l.intake;
  later : (g.I.Source.words l.initial.input).faults ≤ (g.I.Source.words l.input).faults;
}

abbrev pub decreases-pieces : goal.decreases-pieces
decreases-pieces g l = 2 ^ 62 - came l.intake
