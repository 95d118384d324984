use Rattle.std.proofs.Common.{List, ℕ, ◌∷◌, [], ap, sym, subst, ◌∙◌}
use Rattle.nv_places.specs.Flat.{IsLine}
use Rattle.nv_api_buf.proofs.Between.{part-place, part-line, part-got}
use Rattle.nv_api_buf.proofs.text.part_line.Goals as goal

pub part-requires-clause-start : goal.part-requires-clause-start
part-requires-clause-start c = part-place c.args.text.now c.args.row c.in-Some.line.now c.args.start c.requires.start c.in-Some.ensures.bytes

pub part-requires-clause-stop : goal.part-requires-clause-stop
part-requires-clause-stop c = part-place c.args.text.now c.args.row c.in-Some.line.now c.args.stop c.requires.stop c.in-Some.ensures.bytes

pub from_bytes-requires : goal.from_bytes-requires
from_bytes-requires c =
    subst IsLine (sym (c.in_ok-bytes.ensures.bytes ∙ c.part.ensures))
    (part-line c.in-Some.line.now c.args.row c.args.start c.args.stop c.in-Some.ensures.line)

pub returns : goal.returns
returns c =
    c.one.ensures
    ∙ ap (λ (l : List ℕ). l ∷ [])
    (c.from_bytes.ensures ∙ c.in_ok-bytes.ensures.bytes ∙ c.part.ensures
    ∙ part-got c.args.text.now c.args.row c.in-Some.line.now c.args.start c.args.stop c.in-Some.ensures.bytes)
