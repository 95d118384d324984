use Rattle.std.proofs.Common.{[], sym, refl}
use Rattle.std.proofs.lemmas.Result.{err_from_is_err_and}
use Rattle.nv_stream.specs.State.{empty_state}
use Rattle.nv_book.specs.Books.{most_nested, most_value}
use Rattle.nv_book.proofs.Standing.{gave_none, given_by, given_fresh}
use Rattle.nv_book.proofs.Entering.{begun, no_first}
use Rattle.nv_book.proofs.replay.Replay.open.Goals as goal

pub returns-in_err-intake-clause-begins : goal.returns-in_err-intake-clause-begins
returns-in_err-intake-clause-begins g c =
    let e = err_from_is_err_and c.from_residual.result c.from_residual.ensures.1 in
    ([], gave_none _ _, rw (e.1, e.2) tt)

pub returns-in_err-outbox-clause-begins : goal.returns-in_err-outbox-clause-begins
returns-in_err-outbox-clause-begins g c =
    let r = c.in_err-outbox.ensures.reads in
    let e = err_from_is_err_and c.from_residual-in_err-outbox.result c.from_residual-in_err-outbox.ensures.1 in
    let x = c.in_ok-intake.intake in
    let fresh = given_by [] [] 0 x.taken (empty_state most_nested most_value) x.stream given_fresh (sym c.in_ok-intake.ensures.0) (sym c.in_ok-intake.ensures.1) in
    (r.0, r.1, rw (e.1, e.2) (no_first c.args.limits r.0 _ _ (r.2 [] [] fresh)))

pub returns-clause-begins : goal.returns-clause-begins
returns-clause-begins g c =
    let r = c.in_ok-outbox.ensures.reads in
    let x = c.in_ok-intake.intake in
    let fresh = given_by [] [] 0 x.taken (empty_state most_nested most_value) x.stream given_fresh (sym c.in_ok-intake.ensures.0) (sym c.in_ok-intake.ensures.1) in
    let f = r.2 [] [] fresh in
    (r.0, r.1, (refl, begun r.0 (record { outbox = c.in_ok-outbox.outbox; limits = c.args.limits }) c.read_first.new.intake c.in_ok-new.field-0 c.new-3.result.items f.t f.given f.is c.in_ok-new.ensures.world c.in_ok-new.ensures.nobody))
