use Rattle.std.proofs.Common.{◌≡◌, ◌+◌, ◌-◌, ℕ, List, All, ap, arith, sym, subst, refl, length}
use Rattle.std.specs.List.{splice}
use Rattle.nv_places.specs.Flat.{flat}
use Rattle.nv_lines.specs.Chunks.{chunk_lines, IsChunk}
use Rattle.nv_lines.specs.inside.Starts.{IsStart}
use Rattle.nv_lines.specs.inside.Edits.{IsRegion}
use Rattle.nv_lines.specs.declared.chunk.Chunk.{Chunk}
use Rattle.nv_lines.specs.declared.starting.Shift.{Shift}
use Rattle.nv_lines.proofs.Chunks.{length-flat-le}
use Rattle.nv_lines.proofs.Ranges.{length-splice}
use Rattle.nv_lines.proofs.Neighbours.{region_some}
use Rattle.nv_lines.proofs.Starts.{starts_order}
use Rattle.nv_lines.proofs.Shifts.{all_can_shift, all_shifted}
use Rattle.nv_lines.proofs.Tables.{IsEdit, text_edited, each_edited, full_edited, is_shift}
use Rattle.nv_lines.proofs.editing.put_rows.Goals as goal

pub region_of-region-requires-clause-some : goal.region_of-region-requires-clause-some
region_of-region-requires-clause-some c =
    omega (arith, ap (λ (l : List Chunk). length (chunk_lines l)) c.deref.ensures.value, c.requires.some)

pub region_of-region-requires-clause-room : goal.region_of-region-requires-clause-room
region_of-region-requires-clause-room c =
    let all = chunk_lines c.args.chunks.now.items in
    omega (
      arith,
      ap (λ (l : List Chunk). length (chunk_lines l)) c.deref.ensures.value,
      c.len.ensures.value,
      length-splice all c.args.new c.args.from c.args.to c.requires.order c.requires.within,
      length-flat-le (splice all c.args.from c.args.to c.args.new),
      c.requires.small,
    )

pub put-requires-clause-kept : goal.put-requires-clause-kept
put-requires-clause-kept c =
    let old = c.args.chunks.now.items in
    let first = c.region_of-region.result.first in
    let end = c.region_of-region.result.end in
    let region : IsRegion old first end c.args.from c.args.to (length c.args.new) =
    subst (λ (n : ℕ). IsRegion old first end c.args.from c.args.to n) c.len.ensures.value
    (subst (λ (cs : List Chunk). IsRegion cs first end c.args.from c.args.to c.len.result) c.deref.ensures.value c.region_of-region.ensures) in
    region_some old first end c.args.from c.args.to (length c.args.new) c.requires.table.each region c.requires.order c.requires.within
    c.requires.left

pub make_starts-requires-clause-each : goal.make_starts-requires-clause-each
make_starts-requires-clause-each c =
    let old = c.args.chunks.now.items in
    let first = c.region_of-region.result.first in
    let end = c.region_of-region.result.end in
    let region : IsRegion old first end c.args.from c.args.to (length c.args.new) =
    subst (λ (n : ℕ). IsRegion old first end c.args.from c.args.to n) c.len.ensures.value
    (subst (λ (cs : List Chunk). IsRegion cs first end c.args.from c.args.to c.len.result) c.deref.ensures.value c.region_of-region.ensures) in
    let new = c.put.new.chunks.items in
    let edit : IsEdit old new first end c.args.from c.args.to c.args.new =
    record {
      each = c.requires.table.each;
      full = c.requires.table.full;
      region = region;
      order = c.requires.order;
      within = c.requires.within;
      left = c.requires.left;
      anew = c.in_ok-taken.ensures.ok;
    } in
    subst (All IsChunk) (sym c.deref-then-len-count.ensures.value) (each_edited old new first end c.args.from c.args.to c.args.new edit)

pub make_starts-requires-clause-small : goal.make_starts-requires-clause-small
make_starts-requires-clause-small c =
    let old = c.args.chunks.now.items in
    let first = c.region_of-region.result.first in
    let end = c.region_of-region.result.end in
    let region : IsRegion old first end c.args.from c.args.to (length c.args.new) =
    subst (λ (n : ℕ). IsRegion old first end c.args.from c.args.to n) c.len.ensures.value
    (subst (λ (cs : List Chunk). IsRegion cs first end c.args.from c.args.to c.len.result) c.deref.ensures.value c.region_of-region.ensures) in
    let new = c.put.new.chunks.items in
    let edit : IsEdit old new first end c.args.from c.args.to c.args.new =
    record {
      each = c.requires.table.each;
      full = c.requires.table.full;
      region = region;
      order = c.requires.order;
      within = c.requires.within;
      left = c.requires.left;
      anew = c.in_ok-taken.ensures.ok;
    } in
    omega (
      arith,
      ap (λ (l : List Chunk). length (flat (chunk_lines l))) c.deref-then-len-count.ensures.value,
      ap (λ l. length (flat l)) (text_edited old new first end c.args.from c.args.to c.args.new edit),
      c.requires.small,
    )

pub returns-then-len-count-clause-ok : goal.returns-then-len-count-clause-ok
returns-then-len-count-clause-ok c =
    let old = c.args.chunks.now.items in
    let first = c.region_of-region.result.first in
    let end = c.region_of-region.result.end in
    let region : IsRegion old first end c.args.from c.args.to (length c.args.new) =
    subst (λ (n : ℕ). IsRegion old first end c.args.from c.args.to n) c.len.ensures.value
    (subst (λ (cs : List Chunk). IsRegion cs first end c.args.from c.args.to c.len.result) c.deref.ensures.value c.region_of-region.ensures) in
    let new = c.put.new.chunks.items in
    let edit : IsEdit old new first end c.args.from c.args.to c.args.new =
    record {
      each = c.requires.table.each;
      full = c.requires.table.full;
      region = region;
      order = c.requires.order;
      within = c.requires.within;
      left = c.requires.left;
      anew = c.in_ok-taken.ensures.ok;
    } in
    text_edited old new first end c.args.from c.args.to c.args.new edit

pub returns-then-len-count-clause-table : goal.returns-then-len-count-clause-table
returns-then-len-count-clause-table c =
    let old = c.args.chunks.now.items in
    let first = c.region_of-region.result.first in
    let end = c.region_of-region.result.end in
    let region : IsRegion old first end c.args.from c.args.to (length c.args.new) =
    subst (λ (n : ℕ). IsRegion old first end c.args.from c.args.to n) c.len.ensures.value
    (subst (λ (cs : List Chunk). IsRegion cs first end c.args.from c.args.to c.len.result) c.deref.ensures.value c.region_of-region.ensures) in
    let new = c.put.new.chunks.items in
    let edit : IsEdit old new first end c.args.from c.args.to c.args.new =
    record {
      each = c.requires.table.each;
      full = c.requires.table.full;
      region = region;
      order = c.requires.order;
      within = c.requires.within;
      left = c.requires.left;
      anew = c.in_ok-taken.ensures.ok;
    } in
    record {
      each = each_edited old new first end c.args.from c.args.to c.args.new edit;
      full = full_edited old new first end c.args.from c.args.to c.args.new edit;
      begins =
          subst (λ (l : List Chunk). All (IsStart l) c.make_starts.new.starts.items) c.deref-then-len-count.ensures.value c.make_starts.ensures;
    }

pub overflow_sub-by-2 : goal.overflow_sub-by-2
overflow_sub-by-2 c =
    let old = c.args.chunks.now.items in
    let first = c.region_of-region.result.first in
    let end = c.region_of-region.result.end in
    let region : IsRegion old first end c.args.from c.args.to (length c.args.new) =
    subst (λ (n : ℕ). IsRegion old first end c.args.from c.args.to n) c.len.ensures.value
    (subst (λ (cs : List Chunk). IsRegion cs first end c.args.from c.args.to c.len.result) c.deref.ensures.value c.region_of-region.ensures) in
    (starts_order old first end region.begin region.stop (omega (arith, region.some))).1

pub shift_starts-requires : goal.shift_starts-requires
shift_starts-requires c =
    let old = c.args.chunks.now.items in
    let first = c.region_of-region.result.first in
    let end = c.region_of-region.result.end in
    let region : IsRegion old first end c.args.from c.args.to (length c.args.new) =
    subst (λ (n : ℕ). IsRegion old first end c.args.from c.args.to n) c.len.ensures.value
    (subst (λ (cs : List Chunk). IsRegion cs first end c.args.from c.args.to c.len.result) c.deref.ensures.value c.region_of-region.ensures) in
    let new = c.put.new.chunks.items in
    let edit : IsEdit old new first end c.args.from c.args.to c.args.new =
    record {
      each = c.requires.table.each;
      full = c.requires.table.full;
      region = region;
      order = c.requires.order;
      within = c.requires.within;
      left = c.requires.left;
      anew = c.in_ok-taken.ensures.ok;
    } in
    let chunk = c.index-chunk.result.now in
    let one : first.chunk + 1 ≡ end.chunk = omega (arith, c.if-end-first-ne1.false, region.some) in
    let same : length new ≡ length old =
    omega (arith, c.if-len-count.false, c.len-2.ensures, c.len-count.ensures, c.put.new.chunks.ok.0, c.args.chunks.now.ok.0) in
    let by : Shift =
    record {
      chunk = first.chunk;
      rows_lost = end.row - first.row;
      rows_gained = c.len-3.result;
      bytes_lost = end.offset - first.offset;
      bytes_gained = chunk.bytes;
    } in
    let moves =
    is_shift old new first end c.args.from c.args.to c.args.new chunk by edit same one c.index-chunk.ensures refl refl c.len-3.ensures.value refl refl in
    all_can_shift old new first end chunk by c.args.starts.now.items moves
    (omega (arith, ap (λ l. length (flat l)) (text_edited old new first end c.args.from c.args.to c.args.new edit), c.requires.small)) c.requires.table.begins

pub returns-clause-ok : goal.returns-clause-ok
returns-clause-ok c =
    let old = c.args.chunks.now.items in
    let first = c.region_of-region.result.first in
    let end = c.region_of-region.result.end in
    let region : IsRegion old first end c.args.from c.args.to (length c.args.new) =
    subst (λ (n : ℕ). IsRegion old first end c.args.from c.args.to n) c.len.ensures.value
    (subst (λ (cs : List Chunk). IsRegion cs first end c.args.from c.args.to c.len.result) c.deref.ensures.value c.region_of-region.ensures) in
    let new = c.put.new.chunks.items in
    let edit : IsEdit old new first end c.args.from c.args.to c.args.new =
    record {
      each = c.requires.table.each;
      full = c.requires.table.full;
      region = region;
      order = c.requires.order;
      within = c.requires.within;
      left = c.requires.left;
      anew = c.in_ok-taken.ensures.ok;
    } in
    text_edited old new first end c.args.from c.args.to c.args.new edit

pub returns-clause-table : goal.returns-clause-table
returns-clause-table c =
    let old = c.args.chunks.now.items in
    let first = c.region_of-region.result.first in
    let end = c.region_of-region.result.end in
    let region : IsRegion old first end c.args.from c.args.to (length c.args.new) =
    subst (λ (n : ℕ). IsRegion old first end c.args.from c.args.to n) c.len.ensures.value
    (subst (λ (cs : List Chunk). IsRegion cs first end c.args.from c.args.to c.len.result) c.deref.ensures.value c.region_of-region.ensures) in
    let new = c.put.new.chunks.items in
    let edit : IsEdit old new first end c.args.from c.args.to c.args.new =
    record {
      each = c.requires.table.each;
      full = c.requires.table.full;
      region = region;
      order = c.requires.order;
      within = c.requires.within;
      left = c.requires.left;
      anew = c.in_ok-taken.ensures.ok;
    } in
    let chunk = c.index-chunk.result.now in
    let one : first.chunk + 1 ≡ end.chunk = omega (arith, c.if-end-first-ne1.false, region.some) in
    let same : length new ≡ length old =
    omega (arith, c.if-len-count.false, c.len-2.ensures, c.len-count.ensures, c.put.new.chunks.ok.0, c.args.chunks.now.ok.0) in
    let by : Shift =
    record {
      chunk = first.chunk;
      rows_lost = end.row - first.row;
      rows_gained = c.len-3.result;
      bytes_lost = end.offset - first.offset;
      bytes_gained = chunk.bytes;
    } in
    let moves =
    is_shift old new first end c.args.from c.args.to c.args.new chunk by edit same one c.index-chunk.ensures refl refl c.len-3.ensures.value refl refl in
    record {
      each = each_edited old new first end c.args.from c.args.to c.args.new edit;
      full = full_edited old new first end c.args.from c.args.to c.args.new edit;
      begins =
          subst (All (IsStart new)) (sym c.shift_starts.ensures) (all_shifted old new first end chunk by c.args.starts.now.items moves c.requires.table.begins);
    }
