-- Lemmas on the table of chunks after an edit.
use Rattle.std.proofs.Common.{◌≡◌, ℕ, ◌+◌, ◌-◌, ◌<◌, ◌≤◌, List, [], ◌∷◌, length, get_or, sym, ap, ◌∙◌, subst, arith, All, slice_range}
use Rattle.std.specs.List.{splice}
use Rattle.nv_lines.specs.Chunks.{chunk_lines, chunk_sizes, IsChunk, AreFull}
use Rattle.nv_lines.specs.inside.Edits.{rows_after, IsRegion, IsCutAnew}
use Rattle.nv_lines.specs.declared.chunk.Chunk.{Chunk}
use Rattle.nv_lines.specs.declared.finding.Start.{Start}
use Rattle.nv_lines.specs.declared.starting.Shift.{Shift}
use Rattle.nv_lines.proofs.Chunks.{chunk_is}
use Rattle.nv_lines.proofs.Neighbours.{region_full, region_some}
use Rattle.nv_lines.proofs.Anew.{rows_anew, text_anew, each_anew}
use Rattle.nv_lines.proofs.Shifts.{IsShift, one_made, the_one}

-- what is known of an edit once the chunks of its region were made anew
pub record IsEdit (old new : List Chunk) (first end : Start) (from to : ℕ) (lines : List (List ℕ)) : Type 0 where
  pub each : All IsChunk old
  pub full : AreFull (chunk_sizes old)
  pub region : IsRegion old first end from to (length lines)
  pub order : from ≤ to
  pub within : to ≤ length (chunk_lines old)
  pub left : to < from + length lines + length (chunk_lines old)
  pub anew : IsCutAnew old new first end from to lines

pub text_edited : (old new : List Chunk) (first end : Start) (from to : ℕ) (lines : List (List ℕ)) → IsEdit old new first end from to lines
    → chunk_lines new ≡ splice (chunk_lines old) from to lines
text_edited old new first end from to lines edit =
    let region = edit.region in
    text_anew old new first end from to lines region.begin region.stop (omega (arith, region.some)) region.before edit.order region.behind
    edit.anew

pub each_edited : (old new : List Chunk) (first end : Start) (from to : ℕ) (lines : List (List ℕ)) → IsEdit old new first end from to lines
    → All IsChunk new
each_edited old new first end from to lines edit = each_anew old new first end from to lines edit.each edit.anew

pub full_edited : (old new : List Chunk) (first end : Start) (from to : ℕ) (lines : List (List ℕ)) → IsEdit old new first end from to lines
    → AreFull (chunk_sizes new)
full_edited old new first end from to lines edit =
    let region = edit.region in
    let inner = splice (chunk_lines (slice_range old first.chunk end.chunk)) (from - first.row) (to - first.row) lines in
    let rows : length inner ≡ rows_after first end from to (length lines) =
    rows_anew old first end from to lines region.begin region.stop (omega (arith, region.some)) region.before edit.order region.behind in
    let some : 0 < rows_after first end from to (length lines) =
    region_some old first end from to (length lines) edit.each region edit.order edit.within edit.left in
    subst (λ (l : List Chunk). AreFull (chunk_sizes l)) (sym edit.anew.is)
    (region_full old edit.anew.chunks inner first end from to (length lines) edit.full region rows (omega arith) edit.anew.cut)

-- a region of one chunk that became one chunk
pub is_shift : (old new : List Chunk) (first end : Start) (from to : ℕ) (lines : List (List ℕ)) (c : Chunk) (by : Shift)
    → IsEdit old new first end from to lines → length new ≡ length old → first.chunk + 1 ≡ end.chunk → c ≡ get_or new first.chunk c
    → by.chunk ≡ first.chunk → by.rows_lost ≡ end.row - first.row → by.rows_gained ≡ length c.lines
    → by.bytes_lost ≡ end.offset - first.offset → by.bytes_gained ≡ c.bytes → IsShift old new first end c by
is_shift old new first end from to lines c by edit same one looked chunk rows_lost rows_gained bytes_lost bytes_gained =
    let region = edit.region in
    let anew = edit.anew in
    let count : length anew.chunks ≡ 1 =
    one_made old anew.chunks first.chunk end.chunk one region.stop.within (sym (ap length anew.is) ∙ same) in
    let only : anew.chunks ≡ c ∷ [] = the_one old anew.chunks new first.chunk end.chunk c count region.begin.within anew.is looked in
    let there : first.chunk < length new = omega (arith, region.stop.within) in
    record {
      begin = region.begin;
      stop = region.stop;
      one = one;
      is = anew.is ∙ ap (λ (made : List Chunk). splice old first.chunk end.chunk made) only;
      chunk = chunk;
      rows_lost = rows_lost;
      rows_gained = rows_gained;
      bytes_lost = bytes_lost;
      bytes_gained =
          bytes_gained ∙ (chunk_is new first.chunk c (each_edited old new first end from to lines edit) there looked).bytes;
    }
