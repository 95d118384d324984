use Rattle.std.proofs.Common.{List, ℕ, ◌+◌, ◌++◌, ◌≡◌, refl, arith, map, sym, subst, append_assoc}
use Rattle.std.proofs.lemmas.Result.{err_from_is_err_and}
use Rattle.nv_value.specs.Content.{Tree, bin}
use Rattle.nv_book.specs.Books.{pieces_in}
use Rattle.nv_book.specs.Reading.{HasGiven}
use Rattle.nv_book.proofs.Standing.{gave_then, stops_for}
use Rattle.nv_book.proofs.Between.{IsCut, output_more, output_all, output_stops, output_for}
use Rattle.nv_book.proofs.pieces.read_output.Goals as goal

pub returns-in_err-read_piece-clause-reads : goal.returns-in_err-read_piece-clause-reads
returns-in_err-read_piece-clause-reads g c =
    let i = c.loop-done.invariant.read in
    let r = c.in_err-read_piece.ensures.reads in
    let p = err_from_is_err_and c.from_residual.result c.from_residual.ensures.1 in
    let done = c.loop-done.done in
    let out = c.loop-done.into.items in (
      i.0 ++ r.0,
      gave_then _ _ _ _ _ _ i.0 r.0 i.1 r.1,
      λ fed values h.
          let b = i.2 fed values h in
          rw (p.1, p.2)
          (output_stops (fed ++ (i.0 ++ r.0)) (g.S.Source.words c.read_piece.new.source).left values done c.args.count _ out c.in_err-read_piece.field-0.0 (omega arith) refl b.1
          (stops_for fed i.0 r.0 _ (values ++ map bin (pieces_in done out)) _ _ (r.2 (fed ++ i.0) (values ++ map bin (pieces_in done out)) b.0))),
    )

pub loop-done-preserved : goal.loop-done-preserved
loop-done-preserved g c =
    let i = c.loop-done.invariant.read in
    let r = c.in_ok-read_piece.ensures.reads in
    let done = c.loop-done.done in
    let out = c.loop-done.into.items in
    record {
      read = (
        i.0 ++ r.0,
        gave_then _ _ _ _ _ _ i.0 r.0 i.1 r.1,
        λ fed values h.
            let b = i.2 fed values h in
            output_for fed i.0 r.0 values (done + 1) c.args.count c.read_piece.new.into.items c.read_piece.new.intake
            (output_more ((fed ++ i.0) ++ r.0) values done c.args.count _ out c.read_piece.new.into.items c.read_piece.new.intake (omega arith) refl b.1
            (r.2 (fed ++ i.0) (values ++ map bin (pieces_in done out)) b.0)),
      );
      later = omega (arith, c.in_ok-read_piece.ensures.later, c.loop-done.invariant.later);
    }

pub returns-clause-reads : goal.returns-clause-reads
returns-clause-reads g c =
    let i = c.loop-done.invariant.read in
    let all : c.loop-done.done ≡ c.args.count = omega arith in (
      i.0,
      i.1,
      λ fed values h.
          let b = i.2 fed values h in
          let out = c.loop-done.into.items in
          output_all (fed ++ i.0) values c.args.count out c.loop-done.intake (subst (λ (k : ℕ). IsCut k c.args.count out) all b.1)
          (subst (λ (k : ℕ). HasGiven (fed ++ i.0) (values ++ map bin (pieces_in k out)) c.loop-done.intake.taken c.loop-done.intake.stream) all b.0),
    )
