use Rattle.std.proofs.Common.{◌∙◌, ap, Option, List, [], map}
use Rattle.std.specs.Prelude.{unwrap_or}
use Rattle.nv_value.specs.Content.{Tree}
use Rattle.nv_value.specs.View.{content, pair_content}
use Rattle.nv_value.proofs.Contents.{content-Pairs}
use Rattle.nv_args.proofs.Pairs.{pairs_in-map}
use Rattle.nv_args.proofs.args.pairs_in.Goals as goal

pub returns-in-Pairs : goal.returns-in-Pairs
returns-in-Pairs c =
    ap (map pair_content) c.as_slice.ensures.value
    ∙ ap (λ (o : Option (List (Tree × Tree))). unwrap_or o [])
    (pairs_in-map (content c.args.value.now) c.in-Pairs.fields.items (ap content c.in-Pairs.is ∙ content-Pairs c.in-Pairs.fields))
