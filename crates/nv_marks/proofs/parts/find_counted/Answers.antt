use Rattle.std.proofs.Common.{◌≡◌, ◌∙◌, ap, sym, arith, ℕ, Option, unwrap_or}
use Rattle.nv_marks.specs.Marks.{greatest_id}
use Rattle.nv_marks.specs.inside.Chunks.{spread_records}
use Rattle.nv_marks.specs.inside.Records.{marks_among}
use Rattle.nv_marks.proofs.SoundLemmas.{none_counted}
use Rattle.nv_marks.proofs.parts.find_counted.Goals as goal

pub returns-then-id-most : goal.returns-then-id-most
returns-then-id-most c =
    let most : unwrap_or c.copied.result 0 ≡ greatest_id c.args.greatest.now.entries c.args.ns =
    ap (λ (o : Option ℕ). unwrap_or o 0) (c.copied.ensures ∙ c.get.ensures.value) in
    sym (none_counted c.args.greatest.now.entries (marks_among (spread_records c.args.store.now.chunks.items)) c.args.ns c.args.id (omega (arith, most)) c.requires.counted)
