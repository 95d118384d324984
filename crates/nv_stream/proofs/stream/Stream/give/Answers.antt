use Rattle.std.proofs.Common.{◌≡◌, length, drop, ap, arith}
use Rattle.std.proofs.lemmas.List.{length-drop}
use Rattle.nv_stream.specs.State.{State}
use Rattle.nv_stream.proofs.Scans.{place_starts}
use Rattle.nv_stream.proofs.stream.Stream.give.Goals as goal

pub invariant_of-self : goal.invariant_of-self
invariant_of-self c =
    let inside = c.self.inside in
    let room = c.self.invariant.0 in
    let held : length (drop inside.given inside.bytes.items) ≡ length c.args.self.now.held = ap (λ (s : State). length s.held) c.self.view_is in
    let size = length-drop inside.given inside.bytes.items in
    let len = inside.bytes.ok.0 in
    let taken = c.requires in
    (room, omega (arith, held, size, len), omega (arith, held, size, len), place_starts _ _ _ c.restart.new.self room c.restart.ensures)
