use Rattle.std.proofs.Common.{◌≤◌, ◌∙◌, sym, subst, length, arith, is_ok, ℕ, Option}
use Rattle.std.specs.Prelude.{IfSome}
use Rattle.nv_marks.proofs.BandLemmas.{has_put, kept_by_put, longer_by_put}
use Rattle.nv_marks.proofs.bands.put_band.Goals as goal

pub insert-requires : goal.insert-requires
insert-requires c =
    let fits : c.in-Some.at ≤ length c.args.bands.now.items = subst (λ (o : Option ℕ). IfSome o (λ n. n ≤ length c.args.bands.now.items)) c.in-Some.is c.requires in
    omega (arith, fits, c.args.bands.now.ok.0)

pub returns-clause-some : goal.returns-clause-some
returns-clause-some c =
    longer_by_put (is_ok c.insert.result) c.args.bands.now.items c.insert.new.self.items c.in-Some.at c.args.band c.insert.ensures.items
    (subst (λ (o : Option ℕ). IfSome o (λ n. n ≤ length c.args.bands.now.items)) c.in-Some.is c.requires)

pub returns-clause-kept : goal.returns-clause-kept
returns-clause-kept c = kept_by_put (is_ok c.insert.result) c.args.bands.now.items c.insert.new.self.items c.in-Some.at c.args.band c.insert.ensures.items

pub returns-clause-own : goal.returns-clause-own
returns-clause-own c = λ yes.
    has_put (is_ok c.insert.result) c.args.bands.now.items c.insert.new.self.items c.in-Some.at c.args.band c.insert.ensures.items (sym c.is_ok.ensures.value ∙ yes)
