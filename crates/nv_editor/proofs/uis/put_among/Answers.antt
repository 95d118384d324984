use Rattle.std.proofs.Common.{◌≡◌, ◌∙◌, ◌==◌, ◌+◌, ◌++◌, ◌∷◌, List, take, drop, ap, sym, true, false, get_or, length, nat_lt, arith, rules, slice_index_or, subst, []}
use Rattle.std.proofs.lemmas.Bool.Decides.{nat_tests}
use Rattle.nv_model.specs.Stage.{ui_among}
use Rattle.nv_model.specs.declared.parts.Ui.{Ui}
use Rattle.nv_editor.proofs.UiLemmas.{IsBehind, passes, replaces, comes_before, comes_last}
use Rattle.nv_editor.proofs.uis.put_among.Goals as goal

pub returns-then-ui-session-clause-put : goal.returns-then-ui-session-clause-put
returns-then-ui-session-clause-put c =
    let same : (c.args.ui.session == c.index.result.now.session) ≡ true = grind (arith, nat_tests) in
    replaces c.args.ui c.index.result.now c.loop-place.uis.items c.loop-place.place (search rules) c.index.ensures same c.loop-place.invariant.1
    ∙ ap (ui_among c.args.ui) c.loop-place.invariant.0

pub returns-then-ui-session-2-clause-put : goal.returns-then-ui-session-2-clause-put
returns-then-ui-session-2-clause-put c =
    let us : List Ui = c.loop-place.uis.items in
    let other : (c.args.ui.session == c.index.result.now.session) ≡ false = grind (arith, nat_tests) in
    let before : nat_lt c.args.ui.session c.index.result.now.session ≡ true = grind (arith, nat_tests) in
    let put : c.insert.new.self.items ≡ take c.loop-place.place us ++ c.args.ui ∷ drop c.loop-place.place us = search rules in
    ◌∙◌ {A = List Ui} put
    (comes_before c.args.ui c.index.result.now us c.loop-place.place (search rules) c.index.ensures other before c.loop-place.invariant.1
    ∙ ap (ui_among c.args.ui) c.loop-place.invariant.0)

pub loop-place-preserved : goal.loop-place-preserved
loop-place-preserved c =
    let other : (c.args.ui.session == c.index.result.now.session) ≡ false = grind (arith, nat_tests) in
    let later : nat_lt c.args.ui.session c.index.result.now.session ≡ false = grind (arith, nat_tests) in
    (c.loop-place.invariant.0, passes c.args.ui c.index.result.now c.loop-place.uis.items c.loop-place.place (search rules) c.index.ensures other later c.loop-place.invariant.1)

pub returns-clause-put : goal.returns-clause-put
returns-clause-put c =
    let us : List Ui = c.loop-place.uis.items in
    let end : c.loop-place.place ≡ length us = omega (arith, ap length c.loop-place.invariant.0, c.len-place-end.ensures, c.loop-place-test.false, c.loop-place.auto.place-end) in
    let put : c.push.new.self.items ≡ us ++ c.args.ui ∷ [] = search rules in
    ◌∙◌ {A = List Ui} put
    (comes_last c.args.ui us (subst (IsBehind c.args.ui us) end c.loop-place.invariant.1)
    ∙ ap (ui_among c.args.ui) c.loop-place.invariant.0)
