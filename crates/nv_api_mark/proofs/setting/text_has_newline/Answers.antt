use Rattle.std.proofs.Common.{◌∙◌, ap}
use Rattle.std.specs.List.{list_any}
use Rattle.nv_args.specs.Chunks.{GivenChunk}
use Rattle.nv_args.specs.Texts.{has_newline}
use Rattle.nv_api_mark.proofs.setting.text_has_newline.Goals as goal

pub returns : goal.returns
returns c = c.any_newline.ensures ∙ ap (list_any (λ (p : GivenChunk). has_newline p.0)) c.text_items.ensures
