use Rattle.std.proofs.Common.{◌∙◌, map, ap, sym, arith, Bool}
use Rattle.nv_rpc.specs.Outcomes.{triple_content}
use Rattle.nv_rpc.specs.declared.outcome.Triple.{Triple}
use Rattle.std.specs.Prelude.{List}
use Rattle.nv_model.specs.Answering.{array_of}
use Rattle.nv_api_mark.specs.Listing.{listed_mark}
use Rattle.nv_api_mark.proofs.Plain.{plain_told, plain_spelled}
use Rattle.nv_api_mark.proofs.listing.listed_marks.Goals as goal

pub returns-clause-told : goal.returns-clause-told
returns-clause-told c =
    let stage = c.args.editor.now.stage in
    let n = c.args.live.handle in
    let marks = c.args.marks.now in
    ap (λ (ts : List Triple). array_of (map triple_content ts)) c.in_ok-triples.ensures
    ∙ ap array_of (plain_told stage n marks)
    ∙ ap (λ (b : Bool). array_of (map (listed_mark stage n b) marks)) (sym c.if-details.false)

pub returns-clause-spelled : goal.returns-clause-spelled
returns-clause-spelled c =
    plain_spelled c.in_ok-triples.triples.items c.args.marks.now c.in_ok-triples.ensures (omega (arith, c.in_ok-spelled_length.ensures.few))
