use Rattle.std.proofs.Common.{◌≡◌, ◌<◌, ℕ, Bool, false, eqb, length, arith}
use Rattle.std.proofs.lemmas.Bool.Decides.{nat_tests}
use Rattle.nv_marks.proofs.BandLemmas.{passed_chunk}
use Rattle.nv_marks.proofs.list.is_passed.Goals as goal

some_left : (b : Bool) (n : ℕ) → b ≡ eqb n 0 → b ≡ false → 0 < n
some_left b n tells is = grind (arith, nat_tests)

pub returns : goal.returns
returns c = λ yes all known.
    let some : 0 < length c.args.kept.now = some_left c.is_empty.result (length c.args.kept.now) c.is_empty.ensures c.if-is_empty.false in
    passed_chunk all c.args.query.now c.args.bands.now c.args.base c.args.kept.now _ _ (c.is_above.ensures.before yes) (c.is_above.ensures.apart yes)
    (omega (arith, some)) c.requires known
