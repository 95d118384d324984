use Rattle.std.proofs.Common.{◌≡◌, ◌∙◌, ◌-◌, ap, arith, sym, length, set, slice_range, refl}
use Rattle.std.proofs.lemmas.List.{set-get_or}
use Rattle.std.specs.List.{splice}
use Rattle.nv_places.specs.Flat.{flat}
use Rattle.nv_lines.specs.declared.chunk.Chunk.{Chunk}
use Rattle.nv_lines.proofs.Anew.{anew_in_chunk, one_in_range, bytes_anew, rows_inside, region_rows, chunk_same, on_err}
use Rattle.nv_lines.proofs.editing.put_in_chunk.Goals as goal

pub replace-requires-clause-within : goal.replace-requires-clause-within
replace-requires-clause-within c =
    let first = c.args.region.first in
    let end = c.args.region.end in
    omega (
      arith,
      ap length (one_in_range c.args.chunks.now.items first end c.index_mut.result.now c.requires.stop c.requires.one c.index_mut.ensures.value),
      region_rows c.args.chunks.now.items first end c.requires.begin c.requires.stop (omega (arith, c.requires.one)),
      c.requires.behind,
    )

pub replace-requires-clause-small : goal.replace-requires-clause-small
replace-requires-clause-small c =
    let first = c.args.region.first in
    let end = c.args.region.end in
    omega (
      arith,
      ap (λ l. length (flat (splice l (c.args.from - first.row) (c.args.to - first.row) c.args.new)))
          (one_in_range c.args.chunks.now.items first end c.index_mut.result.now c.requires.stop c.requires.one c.index_mut.ensures.value),
      bytes_anew c.args.chunks.now.items first end c.args.from c.args.to c.args.new c.requires.begin c.requires.stop (omega (arith, c.requires.one))
          c.requires.before c.requires.order c.requires.behind,
      c.requires.small,
    )

pub returns-in_err-taken-clause-err : goal.returns-in_err-taken-clause-err
returns-in_err-taken-clause-err c =
    let same : c.replace.new.self ≡ c.index_mut.result.now =
    chunk_same c.replace.new.self c.index_mut.result.now c.in_err-taken.ensures.lines c.in_err-taken.ensures.same in
    on_err c.from_residual.result (
    ap (λ (d : Chunk). set c.args.chunks.now.items c.args.region.first.chunk d) (same ∙ c.index_mut.ensures.value)
    ∙ set-get_or c.args.chunks.now.items c.args.region.first.chunk c.index_mut.result.now)

pub returns-clause-ok : goal.returns-clause-ok
returns-clause-ok c =
    anew_in_chunk c.args.chunks.now.items (set c.args.chunks.now.items c.args.region.first.chunk c.replace.new.self) c.args.region.first
    c.args.region.end c.index_mut.result.now c.replace.new.self c.args.from c.args.to c.args.new c.requires.begin c.requires.stop c.requires.one
    c.requires.before c.requires.order c.requires.behind c.requires.kept c.requires.most c.index_mut.ensures.value refl c.in_ok-taken.ensures.ok
    c.in_ok-taken.ensures.bytes

pub returns-clause-taken : goal.returns-clause-taken
returns-clause-taken c =
    let first = c.args.region.first in
    let end = c.args.region.end in
    c.in_ok-taken.ensures.taken
    ∙ ap (λ l. slice_range l (c.args.from - first.row) (c.args.to - first.row))
    (sym (one_in_range c.args.chunks.now.items first end c.index_mut.result.now c.requires.stop c.requires.one c.index_mut.ensures.value))
    ∙ sym (rows_inside c.args.chunks.now.items first end c.args.from c.args.to c.requires.begin c.requires.stop (omega (arith, c.requires.one))
    c.requires.before c.requires.behind)
