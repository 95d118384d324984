use Rattle.std.proofs.Common.{◌≡◌, ◌++◌, pos, get_or, rules, sym, subst, List, ℕ}
use Rattle.nv_value.specs.Content.{integer}
use Rattle.nv_msgpack.specs.Shortest.{integer_spelling, BeginsAs}
use Rattle.nv_msgpack.proofs.Writing.{on_err}
use Rattle.nv_redraw.proofs.SpellingLemmas.{begins_more, value_written_at}
use Rattle.nv_redraw.proofs.spelling.put_integers.Goals as goal

pub returns-in_err-put_number-clause-err : goal.returns-in_err-put_number-clause-err
returns-in_err-put_number-clause-err c =
    on_err c.from_residual.result (subst (λ (l : List ℕ). BeginsAs c.args.into.now.items l) (sym c.in_err-put_number.ensures.err) c.loop-number.invariant.kept)

pub loop-number-preserved : goal.loop-number-preserved
loop-number-preserved c =
    let i = c.loop-number.number-index in
    let put : c.put_number.new.into.items ≡ c.loop-number.into.items ++ integer_spelling (get_or c.args.numbers.now i (pos 0)) = search rules in
    record {
      kept = begins_more c.args.into.now.items c.loop-number.into.items c.put_number.new.into.items _ c.loop-number.invariant.kept put;
      all = value_written_at integer c.loop-number.into.items c.put_number.new.into.items _ c.args.numbers.now i (pos 0) c.loop-number-test.true c.loop-number.invariant.all put;
    }
