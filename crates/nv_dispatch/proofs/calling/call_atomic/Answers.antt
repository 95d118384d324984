use Rattle.std.proofs.Common.{map, arith}
use Rattle.nv_value.specs.View.{content}
use Rattle.nv_args.specs.Args.{typed_arguments}
use Rattle.nv_args.specs.Methods.{signature_of}
use Rattle.nv_dispatch.proofs.CallValues.{weights-contents}
use Rattle.nv_dispatch.proofs.Light.{args_light}
use Rattle.nv_dispatch.proofs.calling.call_atomic.Goals as goal

pub call_read-requires : goal.call_read-requires
call_read-requires c = record {
  light = args_light (signature_of c.args.signature.now) (map content c.args.params.now) (typed_arguments c.in-Ok.args)
      (omega (arith, weights-contents c.args.params.now, c.requires.light)) c.in-Ok.ensures;
}
