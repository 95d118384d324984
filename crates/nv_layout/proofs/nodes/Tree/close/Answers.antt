use Rattle.std.proofs.Common.{◌≡◌, ◌<◌, ◌∙◌, ap, refl, sym, subst, true, w64, length}
use Rattle.std.specs.Option.{option_map}
use Rattle.std.proofs.lemmas.Int.{to_z-of_z}
use mir.Val.{to_z, of_z}
use Rattle.nv_layout.specs.Content.{shape_of}
use Rattle.nv_layout.specs.Changes.{holds, close}
use Rattle.nv_layout.specs.Kept.{leaves_left}
use Rattle.nv_layout.specs.Least.{leaves_of}
use Rattle.nv_layout.proofs.Closing.{never, none_else, some_else, none_by_test, some_by_test}
use Rattle.nv_layout.proofs.nodes.Tree.close.Goals as goal

pub returns-in_default-clause-closed : goal.returns-in_default-clause-closed
returns-in_default-clause-closed c =
    let same : to_z w64 (of_z w64 c.args.window) ≡ c.args.window = to_z-of_z w64 c.args.window c.ranges.window in
    let held : holds c.args.window (shape_of c.args.self.now) ≡ true = subst (λ w. holds w (shape_of c.args.self.now) ≡ true) same (sym c.holds.ensures ∙ c.if-not-holds.false) in
    let left : option_map shape_of c.in_ok-tree.field-0 ≡ close c.args.window (shape_of c.args.self.now) = subst (λ w. option_map shape_of c.in_ok-tree.field-0 ≡ close w (shape_of c.args.self.now)) same c.in_ok-tree.ensures in
    (λ f. absurd (never f), λ h. absurd (none_else c.args.window (shape_of c.args.self.now) (option_map shape_of c.in_ok-tree.field-0) held left (ap (λ o. length (leaves_left (option_map shape_of o))) c.in_default.is) h.1))

pub returns-then-not-has_window-clause-closed : goal.returns-then-not-has_window-clause-closed
returns-then-not-has_window-clause-closed c =
    let same : to_z w64 (of_z w64 c.args.window) ≡ c.args.window = to_z-of_z w64 c.args.window c.ranges.window in
    let held : holds c.args.window (shape_of c.args.self.now) ≡ true = subst (λ w. holds w (shape_of c.args.self.now) ≡ true) same (sym c.holds.ensures ∙ c.if-not-holds.false) in
    let left : option_map shape_of c.in_ok-tree.field-0 ≡ close c.args.window (shape_of c.args.self.now) = subst (λ w. option_map shape_of c.in_ok-tree.field-0 ≡ close w (shape_of c.args.self.now)) same c.in_ok-tree.ensures in
    let none : length (leaves_left (option_map shape_of c.in_ok-tree.field-0)) ≡ 0 =
    ap (λ o. length (leaves_left (option_map shape_of o))) c.in-Some.is
    ∙ none_by_test (length (leaves_of (shape_of c.in-Some.tree))) c.has_window.result c.if-not-has_window.true c.has_window.ensures.1 in
    (λ f. absurd (never f), λ h. absurd (none_else c.args.window (shape_of c.args.self.now) (option_map shape_of c.in_ok-tree.field-0) held left none h.1))

pub returns-clause-closed : goal.returns-clause-closed
returns-clause-closed c =
    let same : to_z w64 (of_z w64 c.args.window) ≡ c.args.window = to_z-of_z w64 c.args.window c.ranges.window in
    let held : holds c.args.window (shape_of c.args.self.now) ≡ true = subst (λ w. holds w (shape_of c.args.self.now) ≡ true) same (sym c.holds.ensures ∙ c.if-not-holds.false) in
    let left : option_map shape_of c.in_ok-tree.field-0 ≡ close c.args.window (shape_of c.args.self.now) = subst (λ w. option_map shape_of c.in_ok-tree.field-0 ≡ close w (shape_of c.args.self.now)) same c.in_ok-tree.ensures in
    let some : 0 < length (leaves_left (option_map shape_of c.in_ok-tree.field-0)) =
    subst (λ o. 0 < length (leaves_left (option_map shape_of o))) (sym c.in-Some.is)
    (some_by_test (length (leaves_of (shape_of c.in-Some.tree))) c.has_window.result c.if-not-has_window.false c.has_window.ensures.0) in
    (λ _. (held, some_else c.args.window (shape_of c.args.self.now) (option_map shape_of c.in_ok-tree.field-0) held left some), λ _. refl)
