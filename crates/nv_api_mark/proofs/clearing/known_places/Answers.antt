use Rattle.std.proofs.Common.{All, subst}
use Rattle.nv_marks.specs.Marks.{Marks}
use Rattle.nv_buffer.specs.Marks.{IsMarkIn}
use Rattle.nv_api_mark.proofs.Picked.{starts_narrow}
use Rattle.nv_api_mark.proofs.clearing.known_places.Goals as goal

pub returns : goal.returns
returns c =
    starts_narrow c.args.buffer.now.text c.args.buffer.now.marks.marks c.known.ensures.text.narrow
    (subst (λ (k : Marks). All (IsMarkIn c.args.buffer.now.text) k.marks) c.marks.ensures.value c.marks.ensures.places)
