use Rattle.std.proofs.Common.{◌≡◌, ◌∙◌, ℕ, List, Bor, length, map, ap, sym, rules, arith}
use Rattle.std.proofs.lemmas.List.{length-map}
use Rattle.std.proofs.lemmas.Simd.{map-map}
use Rattle.std.proofs.lemmas.Map.Iter.{iter_end}
use Rattle.std.specs.Map.Iter.{deref_pair}
use Rattle.nv_editor.specs.Namespaces.{named_namespaces}
use Rattle.nv_editor.proofs.NameOrder.{named-few}
use Rattle.nv_editor.proofs.naming.Namespaces.by_name.Goals as goal

abbrev lent : Bor (List ℕ) × ℕ → List ℕ × ℕ
lent e = (e.0.now, e.1)

pub returns-clause-entries : goal.returns-clause-entries
returns-clause-entries c =
    let all : map deref_pair c.loop-name.yielded ≡ c.self.inside.ids.entries = search (rules, iter_end) in
    c.loop-name.invariant
    ∙ sym (map-map _ deref_pair c.loop-name.yielded)
    ∙ ap (λ es. map (λ e. (e.0.items, e.1)) es) all
    ∙ c.self.invariant.0
    ∙ ap (named_namespaces 1) c.self.view_is

pub returns-clause-few : goal.returns-clause-few
returns-clause-few c =
    let all : map deref_pair c.loop-name.yielded ≡ c.self.inside.ids.entries = search (rules, iter_end) in
    let named : map lent c.loop-name.entries.items ≡ named_namespaces 1 c.self.inside.names.items =
    c.loop-name.invariant
    ∙ sym (map-map _ deref_pair c.loop-name.yielded)
    ∙ ap (λ es. map (λ e. (e.0.items, e.1)) es) all
    ∙ c.self.invariant.0 in
    omega (
      arith,
      length-map c.loop-name.entries.items lent,
      ap (length {A = List ℕ × ℕ}) named,
      named-few 1 c.self.inside.names.items,
      c.self.invariant.1,
    )
