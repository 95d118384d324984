-- What is told of a buffer's edits is what the model tells of its splices.
use Rattle.std.proofs.Common.{◌≡◌, ℕ, ◌+◌, ◌-◌, ◌≤◌, List, ◌++◌, length, take, drop, ap, sym, ◌∙◌, arith, All, false}
use Rattle.std.proofs.lemmas.Bool.Decides.{nat_tests}
use Rattle.std.proofs.Math.Seq.{take-add}
use Rattle.nv_places.specs.Flat.{flat, IsLine, lines_of, row_start}
use Rattle.nv_places.specs.Places.{place_of, offset_of, is_before}
use Rattle.nv_places.specs.declared.place.Pos.{Pos}
use Rattle.nv_places.proofs.FlatLemmas.{lines_of-flat}
use Rattle.nv_places.proofs.PlaceLemmas.{place-offset}
use Rattle.nv_places.proofs.MoveLemmas.{places_keep_order}
use Rattle.nv_lines.proofs.FlatLengths.{length-flat-append}
use Rattle.nv_buffer.specs.Content.{event_fold}
use Rattle.nv_buffer.specs.declared.buffer.Spliced.{Spliced}
use Rattle.nv_model.specs.Buffers.{text_of}
use Rattle.nv_model.specs.Keeping.{SpliceTellsText, RowsAreSpliced, TextIsSpliced}
use Rattle.nv_model.proofs.Splicing.{splice_is_kept}

pub splice_tells_text : SpliceTellsText
splice_tells_text b later s event m sp is =
    let kept = splice_is_kept b later s event m sp is in
    let before : lines_of (text_of m) ≡ b.text = ap lines_of (sym is.text) ∙ lines_of-flat b.text is.lines in
    (λ i. event_fold (before i) (sym kept.1 i))
    ∙ sym sp.edit.lines
    ∙ sym (lines_of-flat later.text sp.lines)
    ∙ ap lines_of kept.0.text

-- the start of a row is the place in it at column 0
row-place : (lines : List (List ℕ)) (row : ℕ) → All IsLine lines → row ≤ length lines → (place_of (flat lines) (row_start lines row)).row ≡ row
row-place lines row are low =
    let p : Pos = record { row = row; col = 0 } in
    let same : row_start lines row ≡ offset_of lines p = omega arith in
    ap (λ (n : ℕ). (place_of (flat lines) n).row) same
    ∙ ap (λ (q : Pos). q.row) (place-offset lines p are (record { row = low; col = omega arith })).1

starts_rise : (lines : List (List ℕ)) (from to : ℕ) → from ≤ to → row_start lines from ≤ row_start lines to
starts_rise lines from to order =
    let parts : take to lines ≡ take from lines ++ take (to - from) (drop from lines) =
    ap (λ (n : ℕ). take n lines) (omega arith) ∙ take-add from (to - from) lines in
    omega (arith, ap (λ (ls : List (List ℕ)). length (flat ls)) parts, length-flat-append (take from lines) (take (to - from) (drop from lines)))

pub rows_are_spliced : RowsAreSpliced
rows_are_spliced before later from to new event order within are later_are told edit =
    let at : event.edit.at ≡ row_start before.text from = ap (λ (e : Spliced). e.edit.at) told in
    let old : event.edit.old ≡ row_start before.text to - row_start before.text from = ap (λ (e : Spliced). e.edit.old) told in
    let rise : row_start before.text from ≤ row_start before.text to = starts_rise before.text from to order in
    let first : event.edit.first ≡ from = ap (λ (e : Spliced). e.edit.first) told in
    let last : event.edit.last ≡ to = ap (λ (e : Spliced). e.edit.last) told in
    record {
      edit = edit;
      from = at;
      until = omega arith;
      put = ap (λ (e : Spliced). e.edit.new) told;
      rows = ap (λ (e : Spliced). e.edit.rows) told;
      part = ap (λ (e : Spliced). e.edit.part) told;
      start = ap (λ (e : Spliced). e.edit.start) told;
      removed = ap (λ (e : Spliced). e.edit.removed) told;
      reach = ap (λ (e : Spliced). e.edit.put) told;
      tick = ap (λ (e : Spliced). e.tick) told;
      first = first ∙ sym (row-place before.text from are (omega arith));
      last = last ∙ sym (row-place before.text to are within) ∙ omega arith;
      order = omega arith;
      within = omega arith;
      lines = later_are;
    }

pub text_is_spliced : TextIsSpliced
text_is_spliced before later start stop new event start_in stop_in order are later_are told edit =
    let lines : List (List ℕ) = before.text in
    let at : event.edit.at ≡ offset_of before.text start = ap (λ (e : Spliced). e.edit.at) told in
    let old : event.edit.old ≡ offset_of before.text stop - offset_of before.text start = ap (λ (e : Spliced). e.edit.old) told in
    let from = place-offset before.text start are (record { row = omega (arith, start_in.row); col = start_in.col }) in
    let until = place-offset before.text stop are (record { row = omega (arith, stop_in.row); col = stop_in.col }) in
    let behind : is_before (place_of (flat before.text) (offset_of before.text stop)) (place_of (flat before.text) (offset_of before.text start)) ≡ false =
    (λ i. is_before (until.1 i) (from.1 i)) ∙ order in
    let test = sym (places_keep_order (flat before.text) (offset_of before.text stop) (offset_of before.text start) until.0 from.0) ∙ behind in
    let rise : offset_of before.text start ≤ offset_of before.text stop = grind (arith, nat_tests, test) in
    let rows : start.row ≤ stop.row = grind (arith, nat_tests) in
    let first : event.edit.first ≡ start.row = ap (λ (e : Spliced). e.edit.first) told in
    let last : event.edit.last ≡ stop.row + 1 = ap (λ (e : Spliced). e.edit.last) told in
    let here = stop_in.row in
    record {
      edit = edit;
      from = at;
      until = omega arith;
      put = ap (λ (e : Spliced). e.edit.new) told;
      rows = ap (λ (e : Spliced). e.edit.rows) told;
      part = ap (λ (e : Spliced). e.edit.part) told;
      start = ap (λ (e : Spliced). e.edit.start) told;
      removed = ap (λ (e : Spliced). e.edit.removed) told;
      reach = ap (λ (e : Spliced). e.edit.put) told;
      tick = ap (λ (e : Spliced). e.tick) told;
      first = first ∙ sym (ap (λ (q : Pos). q.row) from.1);
      last = last ∙ sym (ap (λ (q : Pos). q.row + 1) until.1);
      order = omega arith;
      within = omega arith;
      lines = later_are;
    }
