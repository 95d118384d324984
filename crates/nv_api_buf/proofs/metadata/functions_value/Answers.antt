use Rattle.std.proofs.Common.{List, map, ap, sym, ◌∙◌}
use Rattle.nv_value.specs.Content.{Tree, list, trees_of}
use Rattle.nv_value.proofs.Contents.{content-List}
use Rattle.nv_args.specs.Methods.{signature_of}
use Rattle.nv_api_buf.specs.Metadata.{function}
use Rattle.nv_api_buf.proofs.Tables.{map_twice}
use Rattle.nv_api_buf.proofs.metadata.functions_value.Goals as goal

pub returns : goal.returns
returns c =
    content-List c.in_ok-items.items
    ∙ ap (λ (ts : List Tree). list (trees_of ts))
    (c.in_ok-items.ensures ∙ sym (map_twice function signature_of c.told_signatures.result.now) ∙ ap (map function) c.told_signatures.ensures)
