use Rattle.std.proofs.Common.{◌≡◌, ◌+◌, length, map, refl, arith}
use Rattle.std.proofs.lemmas.List.{length-map}
use Rattle.nv_value.specs.View.{content}
use Rattle.nv_args.specs.Args.{typed_arguments}
use Rattle.nv_args.proofs.Refusing.{meets_refused}
use Rattle.nv_args.proofs.ReadLemmas.{read-refused, read-accepted}
use Rattle.nv_args.proofs.args.read.Goals as goal

pub returns-in-Some : goal.returns-in-Some
returns-in-Some c =
    let many : length (map content c.args.params.now) ≡ length c.args.signature.now.parameters.now = omega (arith, length-map c.args.params.now content) in
    meets_refused typed_arguments c.wrong_type.result _ _ c.wrong_type.ensures
    (read-refused c.args.signature.now (map content c.args.params.now) c.in-Some.place (c.in-Some.place + 1) _ c.type_name.result.now
    many c.in-Some.ensures.place c.in-Some.ensures.within refl c.type_name.ensures)

pub returns-in-None : goal.returns-in-None
returns-in-None c =
    let many : length (map content c.args.params.now) ≡ length c.args.signature.now.parameters.now = omega (arith, length-map c.args.params.now content) in
    read-accepted c.args.signature.now c.args.params many c.in-None.ensures.place
