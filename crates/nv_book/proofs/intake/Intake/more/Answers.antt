use Rattle.std.proofs.Common.{List, ℕ, Bool, [], ◌++◌, append-nil, sym, subst, ap, ◌∙◌, ◌≡◌, arith}
use Rattle.std.specs.Prelude.{Ok}
use Rattle.nv_book.specs.inside.Intakes.{Fills, Intaking, NoValue, StopsBehind}
use Rattle.nv_book.proofs.Standing.{stops_cut, given_more}
use Rattle.nv_book.proofs.intake.Intake.more.Goals as goal

pub returns-clause-steps : goal.returns-clause-steps
returns-clause-steps g c =
    let f = c.in_ok-fill.ensures.fills in
    let left = (g.S.Source.words c.fill.new.source).left in
    let old = c.args.self.now in
    let none = subst (λ (b : Bool). Fills f.0 left (Ok b) old c.fill.new.self) c.if-branch.false f.2 in
    let place = c.start.ensures ∙ ap (λ (x : Intaking). x.stream.start) (c.self.view_is ∙ none.2) in (
      f.0,
      f.1,
      λ fed values h.
          subst (λ (n : ℕ). StopsBehind (fed ++ f.0) left values n NoValue) (sym place)
          (subst (λ (l : List ℕ). StopsBehind l left values old.stream.start NoValue) (sym (ap (λ (l : List ℕ). fed ++ l) none.0 ∙ append-nil fed))
          (stops_cut fed left values old.taken old.stream h c.requires none.1)),
    )

pub returns-then-branch-clause-steps : goal.returns-then-branch-clause-steps
returns-then-branch-clause-steps g c =
    let f = c.in_ok-fill.ensures.fills in
    let came = subst (λ (b : Bool). Fills f.0 (g.S.Source.words c.fill.new.source).left (Ok b) c.args.self.now c.fill.new.self) c.if-branch.true f.2 in
    (f.0, f.1, λ fed values h. given_more fed f.0 values c.args.self.now.taken c.fill.new.self.taken c.args.self.now.stream c.fill.new.self.stream h came.3 came.2 came.4)
