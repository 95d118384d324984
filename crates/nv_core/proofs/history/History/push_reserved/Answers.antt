use Rattle.std.proofs.Common.{◌≡◌, ◌≤◌, List, [], ◌∷◌, ◌++◌, length, drop, ap, ◌∙◌, arith}
use Rattle.std.proofs.lemmas.List.{drop-append-le, length-drop}
use Rattle.nv_core.specs.Ledgers.{Ledger}
use Rattle.nv_core.specs.declared.entry.Entry.{Entry}
use Rattle.nv_core.proofs.history.History.push_reserved.Goals as goal

pub invariant_of-self : goal.invariant_of-self
invariant_of-self c =
    let inside = c.self.inside in
    let kept : length (drop inside.blanks inside.entries.items) ≡ length c.args.self.now.entries = ap (λ (l : Ledger). length l.entries) c.self.view_is in
    let base : inside.base ≡ c.args.self.now.base = ap (λ (l : Ledger). l.base) c.self.view_is in
    let size = length-drop inside.blanks inside.entries.items in
    let len = inside.entries.ok.0 in
    (omega (arith, c.self.invariant.0, c.push_reserved.ensures.len), omega (arith, kept, base, size, len, c.requires.few, c.self.invariant.0, c.push_reserved.ensures.len))

pub returns-clause-entries : goal.returns-clause-entries
returns-clause-entries c =
    let inside = c.self.inside in
    let within : inside.blanks ≤ length inside.entries.items = omega (arith, c.self.invariant.0, inside.entries.ok.0) in
    ap (λ (l : List Entry). drop inside.blanks l) c.push_reserved.ensures.items
    ∙ drop-append-le inside.blanks inside.entries.items (c.args.entry ∷ []) within
    ∙ ap (λ (l : Ledger). l.entries ++ c.args.entry ∷ []) c.self.view_is
