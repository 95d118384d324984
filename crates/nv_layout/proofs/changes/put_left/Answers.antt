use Rattle.std.proofs.Common.{◌∙◌, ap, sym}
use Rattle.std.specs.Option.{option_map}
use Rattle.nv_layout.specs.Content.{no_shapes, shape_of, shapes_of}
use Rattle.nv_layout.specs.Changes.{append, put_left}
use Rattle.nv_layout.proofs.Rebuilt.{append-none}
use Rattle.nv_layout.proofs.changes.put_left.Goals as goal

pub returns-in-None : goal.returns-in-None
returns-in-None c = sym (ap (λ o. append (shapes_of c.args.all.now.items) (put_left c.args.axis (option_map shape_of o) no_shapes)) c.in-None.is ∙ append-none (shapes_of c.args.all.now.items))
