use Rattle.std.proofs.Common.{◌≡◌, ℕ, List, map, Vec}
use Rattle.nv_editor.proofs.naming.Namespaces.by_name.Given as goal

abbrev pub invariant-loop-name : goal.invariant-loop-name
invariant-loop-name l =
    ◌≡◌ {A = List (List ℕ × ℕ)} (map (λ e. (e.0.now, e.1)) l.entries.items) (map (λ e. (e.0.now.items, e.1.now)) l.yielded)
