use Rattle.std.proofs.Common.{ℕ, List, Bool, [], ◌∷◌, ◌++◌, ◌≡◌, ◌∙◌, ap, sym, subst, append_assoc}
use Rattle.std.specs.Prelude.{Ok}
use Rattle.std.proofs.lemmas.Result.{err_from_is_err_and}
use Rattle.nv_book.specs.inside.Intakes.{AreAll}
use Rattle.nv_book.proofs.Standing.{gave_then}
use Rattle.nv_book.proofs.Ending.{told_count, told_early}
use Rattle.nv_book.proofs.parts.read_end.Goals as goal

pub returns-then-told-entries-clause-reads : goal.returns-then-told-entries-clause-reads
returns-then-told-entries-clause-reads g c =
    let m = c.malformed.ensures.tells in (
      m.0,
      m.1,
      λ fed values end h here.
          told_count fed m.0 (g.S.Source.words c.malformed.new.source).left values end c.args.place c.args.told c.args.entries c.args.intake.now c.malformed.result here h c.if-told-entries.true m.2,
    )

pub returns-then-branch-clause-reads : goal.returns-then-branch-clause-reads
returns-then-branch-clause-reads g c =
    let o = c.in_ok-is_over.ensures.over in (
      o.0,
      o.1,
      λ fed values end h here.
          let over = subst (λ (b : Bool). AreAll (fed ++ o.0) (g.S.Source.words c.is_over.new.source).left (values ++ end ∷ []) (Ok b) c.is_over.new.self) c.if-branch.true (o.2 fed (values ++ end ∷ []) h) in
          record { same = c.if-told-entries.false; read_out = over.0; place = c.is_over.new.self.stream.start; stand = over.1; small = over.2 },
    )

pub returns-clause-reads : goal.returns-clause-reads
returns-clause-reads g c =
    let o = c.in_ok-is_over.ensures.over in
    let m = c.malformed-2.ensures.tells in (
      o.0 ++ m.0,
      gave_then _ _ _ _ _ _ o.0 m.0 o.1 m.1,
      λ fed values end h here.
          let over = subst (λ (b : Bool). AreAll (fed ++ o.0) (g.S.Source.words c.is_over.new.source).left (values ++ end ∷ []) (Ok b) c.is_over.new.self) c.if-branch.false (o.2 fed (values ++ end ∷ []) h) in
          told_early fed o.0 m.0 (g.S.Source.words c.malformed-2.new.source).left values end c.place-behind.result c.args.told c.args.entries c.is_over.new.self c.malformed-2.result over.0 over.1 c.if-told-entries.false c.place-behind.ensures m.2,
    )
