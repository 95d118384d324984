use Rattle.std.proofs.Common.{◌++◌, Option, sym, subst}
use Rattle.std.proofs.lemmas.Result.{err_from_is_err_and}
use Rattle.nv_value.specs.View.{content}
use Rattle.nv_book.specs.inside.Parts.{IsNoPart, IsPartIfAny, HasLightPart}
use Rattle.nv_book.specs.declared.parts.Part.{Part}
use Rattle.nv_book.proofs.Standing.{gave_then, stops_any, told_value, here}
use Rattle.nv_book.proofs.parts.read_part.Goals as goal

pub returns-in_err-value-clause-reads : goal.returns-in_err-value-clause-reads
returns-in_err-value-clause-reads g c =
    let v = c.in_err-value.ensures.takes in
    let p = err_from_is_err_and c.from_residual.result c.from_residual.ensures.1 in
    (v.0, v.1, λ fed values h. rw (p.1, p.2) (stops_any _ _ values IsNoPart _ (v.2 fed values h)))

pub returns-in-Some-clause-reads : goal.returns-in-Some-clause-reads
returns-in-Some-clause-reads g c =
    let v = c.in_ok-value.ensures.takes in (
      v.0,
      v.1,
      λ fed values h. record {
        t = content c.in_ok-value.value;
        given = v.2 fed values h;
        is = subst (λ (o : Option Part). IsPartIfAny (content c.in_ok-value.value) o) c.in-Some.is c.in_ok-part.ensures.part;
      },
    )

pub returns-in-None-clause-reads : goal.returns-in-None-clause-reads
returns-in-None-clause-reads g c =
    let v = c.in_ok-value.ensures.takes in
    let m = c.malformed.ensures.tells in (
      v.0 ++ m.0,
      gave_then _ _ _ _ _ _ v.0 m.0 v.1 m.1,
      λ fed values h.
          told_value fed v.0 m.0 _ values (content c.in_ok-value.value) c.place-place.result c.args.intake.now.stream.held c.value.new.self IsNoPart c.malformed.result
          (here fed values _ c.place-place.result c.args.intake.now.stream h c.place-place.ensures) (v.2 fed values h)
          (subst (λ (o : Option Part). IsPartIfAny (content c.in_ok-value.value) o) c.in-None.is c.in_ok-part.ensures.part) m.2,
    )
