use Rattle.std.proofs.Common.{◌≡◌, ◌-◌, List, length, slice_range, ap, subst, ◌∙◌}
use Rattle.std.specs.List.{splice}
use Rattle.nv_lines.specs.inside.Tables.{AreTakenOut}
use Rattle.nv_lines.specs.declared.chunk.Chunk.{Chunk}
use Rattle.nv_lines.proofs.Ranges.{length-slice_range}
use Rattle.nv_lines.proofs.TableLemmas.{all_taken, length-left, part_changed, splice_twice}
use Rattle.nv_lines.proofs.taking.exchange_chunks.Goals as goal

pub returns-clause-ok : goal.returns-clause-ok
returns-clause-ok c =
    let xs = c.args.chunks.now.items in
    let left = c.take_tables.new.chunks in
    let range = slice_range xs c.args.from c.args.to in
    let taken : AreTakenOut c.in_ok-tables.tables.items range left =
    subst (λ (cs : List Chunk). AreTakenOut c.in_ok-tables.tables.items (slice_range cs c.args.from c.args.to) left) c.deref_mut.ensures.value
    c.in_ok-tables.ensures.taken in
    let many : length left ≡ c.args.to - c.args.from =
    length-left range left c.in_ok-tables.tables.items taken ∙ length-slice_range xs c.args.from c.args.to c.requires.order c.requires.within in
    c.in-Ok.ensures.ok
    ∙ ap (λ (cs : List Chunk). splice cs c.args.from c.args.to c.args.new.items)
    (part_changed xs c.deref_mut.result.now left c.args.chunks.now.len c.args.from c.args.to c.deref_mut.ensures.value c.deref_mut.ensures.len c.requires.order c.requires.within many)
    ∙ splice_twice xs left c.args.new.items c.args.from c.args.to c.requires.order c.requires.within many

pub returns-clause-taken : goal.returns-clause-taken
returns-clause-taken c =
    let range = slice_range c.args.chunks.now.items c.args.from c.args.to in
    let left = c.take_tables.new.chunks in
    let taken : AreTakenOut c.in_ok-tables.tables.items range left =
    subst (λ (cs : List Chunk). AreTakenOut c.in_ok-tables.tables.items (slice_range cs c.args.from c.args.to) left) c.deref_mut.ensures.value
    c.in_ok-tables.ensures.taken in
    let all : length c.in_ok-tables.tables.items ≡ length range =
    subst (λ (cs : List Chunk). length c.in_ok-tables.tables.items ≡ length (slice_range cs c.args.from c.args.to)) c.deref_mut.ensures.value
    c.in_ok-tables.ensures.all in
    all_taken range left c.in_ok-tables.tables.items taken all
