use Rattle.std.proofs.Common.{◌≡◌, ◌<◌, ◌≤◌, ◌∙◌, List, length, subst, rules, arith, ⊎_elim}
use Rattle.std.proofs.lemmas.Bool.{cases_lt}
use Rattle.nv_screen.specs.declared.scene.Pane.{Pane}
use Rattle.nv_screen.specs.inside.Steadiness.{AllAgreeAt}
use Rattle.nv_screen.proofs.SteadyLemmas.{past_flags, rows_agree, true_false}
use Rattle.nv_screen.proofs.steady.steady_rows.Goals as goal

pub returns-clause-steady : goal.returns-clause-steady
returns-clause-steady c r flag =
    let a = c.args.before.now in let b = c.args.now.now in
    let f = c.have_same_frame.ensures c.if-not-have_same_frame.false in
    let done = c.in_ok-clear_panes.ensures in
    let count : length c.clear_panes.new.flags.items ≡ b.height = done.lowered.count ∙ search rules in
    let all : AllAgreeAt a.panes.items b.panes.items r =
    subst (λ (ps : List Pane). AllAgreeAt ps b.panes.items r) c.as_slice.ensures.value
    (subst (λ (qs : List Pane). AllAgreeAt c.as_slice.result.now qs r) c.as_slice-2.ensures.value (done.same r flag)) in
    ⊎_elim
    (λ (lt : r < b.height). rows_agree a b c.requires.before c.requires.now f r lt all)
    (λ (le : b.height ≤ r). absurd (true_false _ flag (past_flags c.clear_panes.new.flags.items r (omega (arith, le, count)))))
    (cases_lt r b.height)
