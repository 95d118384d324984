use Rattle.std.proofs.Common.{◌≡◌, length, drop, ap, arith}
use Rattle.std.proofs.lemmas.List.{length-drop}
use Rattle.nv_core.specs.Ledgers.{Ledger}
use Rattle.nv_core.proofs.history.History.told.Goals as goal

pub returns-clause-count : goal.returns-clause-count
returns-clause-count c =
    let inside = c.self.inside in
    let kept : length (drop inside.blanks inside.entries.items) ≡ length c.args.self.now.entries = ap (λ (l : Ledger). length l.entries) c.self.view_is in
    let base : inside.base ≡ c.args.self.now.base = ap (λ (l : Ledger). l.base) c.self.view_is in
    let size = length-drop inside.blanks inside.entries.items in
    let len = inside.entries.ok.0 in
    omega (arith, kept, base, size, len)
