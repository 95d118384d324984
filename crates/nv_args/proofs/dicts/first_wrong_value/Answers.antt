use Rattle.std.proofs.Common.{ℕ, List, Option, Bor, map, take, drop, ◌+◌, ◌-◌, length, sym, ap, ◌∙◌, arith}
use Rattle.std.proofs.lemmas.List.{take_rest}
use Rattle.std.specs.Prelude.{option_map}
use Rattle.nv_value.specs.declared.value.Pair.{Pair}
use Rattle.nv_args.specs.Faults.{invalid_value}
use Rattle.nv_value.specs.View.{pair_content}
use Rattle.nv_value.specs.declared.fault.ApiFault.{ApiFault}
use Rattle.nv_args.specs.Arguments.{last_pairs}
use Rattle.nv_args.specs.Naming.{wrong_value_of}
use Rattle.nv_args.specs.Maps.{or_else}
use Rattle.nv_args.specs.Rules.{key_of}
use Rattle.nv_args.proofs.DictLemmas.{wrong-from}
use Rattle.nv_args.proofs.dicts.first_wrong_value.Goals as goal

pub returns-in-Some : goal.returns-in-Some
returns-in-Some c =
    let naming = map (λ (n : Bor (List ℕ)). n.now) c.args.naming.now in
    let keys = map key_of c.args.rules.now in
    let next = c.loop-place.place + 1 in
    let behind = take (length c.args.pairs.now - next) (drop next c.args.pairs.now) in
    let rest = wrong_value_of naming keys (last_pairs (map pair_content behind)) in
    ap (λ (o : Option ApiFault). or_else o rest) c.in-Some.ensures
    ∙ sym (wrong-from naming keys c.args.pairs.now behind c.loop-place.place c.index-pairs-place.result _
    (omega arith) c.index-pairs-place.is (take_rest c.args.pairs.now next))
    ∙ c.loop-place.invariant

pub loop-place-preserved : goal.loop-place-preserved
loop-place-preserved c =
    let naming = map (λ (n : Bor (List ℕ)). n.now) c.args.naming.now in
    let keys = map key_of c.args.rules.now in
    let next = c.loop-place.place + 1 in
    let behind = take (length c.args.pairs.now - next) (drop next c.args.pairs.now) in
    let rest = wrong_value_of naming keys (last_pairs (map pair_content behind)) in
    ap (λ (ps : List Pair). wrong_value_of naming keys (last_pairs (map pair_content ps))) (sym (take_rest c.args.pairs.now next))
    ∙ ap (λ (o : Option ApiFault). or_else o rest)
    (ap (option_map (λ (name : Bor (List ℕ)). invalid_value name.now)) (sym c.in_default.is) ∙ c.fault_that_counts.ensures)
    ∙ sym (wrong-from naming keys c.args.pairs.now behind c.loop-place.place c.index-pairs-place.result _
    (omega arith) c.index-pairs-place.is (take_rest c.args.pairs.now next))
    ∙ c.loop-place.invariant
