use Rattle.std.proofs.Common.{◌≡◌, ap, ◌∙◌, true, false, arith}
use Rattle.std.proofs.lemmas.Bool.Decides.{nat_tests}
use Rattle.nv_buffer.proofs.Between.{none_within}
use Rattle.nv_api_buf.specs.inside.Parts.{is_longer}
use Rattle.nv_api_buf.proofs.Long.{long-more, long-found, long-none, line-is}
use Rattle.nv_api_buf.proofs.replacement.any_too_long.Goals as goal

pub returns-in_default : goal.returns-in_default
returns-in_default c = absurd (none_within c.args.lines.now c.loop-place.place (omega arith) c.in_default.ensures)

pub returns-then-len-most : goal.returns-then-len-most
returns-then-len-most c =
    let this : is_longer c.args.most c.in-Some.line.now ≡ true = grind (arith, nat_tests) in
    long-found c.args.most c.args.lines.now c.loop-place.place (omega arith) (ap (is_longer c.args.most) (line-is c.args.lines.now c.loop-place.place c.in-Some.line.now c.in-Some.ensures) ∙ this)

pub loop-place-preserved : goal.loop-place-preserved
loop-place-preserved c =
    let this : is_longer c.args.most c.in-Some.line.now ≡ false = grind (arith, nat_tests) in
    long-more c.args.most c.args.lines.now c.loop-place.place (omega arith) c.loop-place.invariant
    (ap (is_longer c.args.most) (line-is c.args.lines.now c.loop-place.place c.in-Some.line.now c.in-Some.ensures) ∙ this)

pub returns : goal.returns
returns c = long-none c.args.most c.args.lines.now c.loop-place.place (omega arith) c.loop-place.invariant
