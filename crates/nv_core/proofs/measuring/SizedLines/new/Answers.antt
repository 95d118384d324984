use Rattle.std.proofs.Common.{◌<◌, ◌^◌, List, ℕ, arith, subst}
use Rattle.nv_value.specs.Content.{count}
use Rattle.nv_msgpack.specs.Shortest.{HaveSpellings}
use Rattle.nv_args.specs.Texts.{strings}
use Rattle.nv_core.proofs.Strings.{count-strings}
use Rattle.nv_core.proofs.measuring.SizedLines.new.Goals as goal

pub returns-clause-spelled : goal.returns-clause-spelled
returns-clause-spelled c =
    let counted = count-strings c.args.lines in
    let few : count (strings c.args.lines) < 2 ^ 32 = omega (arith, counted, c.len.ensures, c.in_ok-spelled_length.ensures.few) in
    (few, subst (λ (l : List (List ℕ)). HaveSpellings (strings l)) c.lists.ensures c.size_of_lists-size.ensures.spelled)
