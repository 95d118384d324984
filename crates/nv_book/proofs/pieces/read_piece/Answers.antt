use Rattle.std.proofs.Common.{Bool, true, false, Result, Ok, ◌≡◌, ◌++◌, ◌∙◌, ap, subst}
use Rattle.std.proofs.lemmas.Result.{err_from_is_err_and}
use Rattle.nv_value.specs.View.{content}
use Rattle.nv_book.specs.inside.Pieces.{IsNoPiece}
use Rattle.nv_book.proofs.Standing.{gave_then, stops_any, told_value, here}
use Rattle.nv_book.proofs.pieces.read_piece.Goals as goal

pub returns-in_err-value-clause-reads : goal.returns-in_err-value-clause-reads
returns-in_err-value-clause-reads g c =
    let v = c.in_err-value.ensures.takes in
    let p = err_from_is_err_and c.from_residual.result c.from_residual.ensures.1 in
    (v.0, v.1, λ fed values h. rw (p.1, p.2) (stops_any _ _ values (IsNoPiece c.args.is_last) _ (v.2 fed values h)))

pub returns-then-branch-clause-reads : goal.returns-then-branch-clause-reads
returns-then-branch-clause-reads g c =
    let v = c.in_ok-value.ensures.takes in (
      v.0,
      v.1,
      λ fed values h. record {
        t = content c.in_ok-value.value;
        given = v.2 fed values h;
        is_put = c.in_ok-put_piece.ensures.yes (ap (λ (b : Bool). Ok b) c.if-branch.true);
      },
    )

pub returns-clause-reads : goal.returns-clause-reads
returns-clause-reads g c =
    let v = c.in_ok-value.ensures.takes in
    let m = c.malformed.ensures.tells in (
      v.0 ++ m.0,
      gave_then _ _ _ _ _ _ v.0 m.0 v.1 m.1,
      λ fed values h.
          told_value fed v.0 m.0 _ values (content c.in_ok-value.value) c.place-place.result c.args.intake.now.stream.held c.value.new.self (IsNoPiece c.args.is_last) c.malformed.result
          (here fed values _ c.place-place.result c.args.intake.now.stream h c.place-place.ensures) (v.2 fed values h) (c.in_ok-put_piece.ensures.no (ap (λ (b : Bool). Ok b) c.if-branch.false)) m.2,
    )
