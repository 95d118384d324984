use Rattle.std.proofs.Common.{◌≡◌, ◌∙◌, ◌++◌, ◌∷◌, [], List, All, inr, ap, arith, subst, sym, length}
use Rattle.std.proofs.lemmas.List.{append-nil, nil_from_length}
use Rattle.std.specs.Vec.Iter.{into_iter_items}
use Rattle.nv_lines.specs.Chunks.{chunk_lines, chunk_sizes, IsChunk}
use Rattle.nv_lines.specs.inside.Edits.{IsCutIntoChunks}
use Rattle.nv_lines.specs.declared.chunk.Chunk.{Chunk}
use Rattle.nv_lines.proofs.Cuts.{cut_more, cut_two, each_more, sizes_more, flat_rest-small}
use Rattle.nv_lines.proofs.Parts.{length-gathered}
use Rattle.nv_lines.proofs.cutting.cut.Goals as goal

pub next_chunk-requires-clause-small : goal.next_chunk-requires-clause-small
next_chunk-requires-clause-small c =
    let at = c.cutting in
    omega (arith, flat_rest-small (chunk_lines at.made.items) (into_iter_items at.rest) c.args.lines.items at.invariant.text, c.requires.small)

pub cutting-preserved : goal.cutting-preserved
cutting-preserved c =
    let at = c.cutting in
    let is = c.in_ok-chunk.ensures in
    let chunk = c.in_ok-chunk.chunk in
    let put : c.push.new.self.items ≡ at.made.items ++ chunk ∷ [] = c.in_ok-push.ensures.items in record {
      text =
          ap (λ (l : List Chunk). chunk_lines l ++ into_iter_items c.next_chunk.new.rest) put
          ∙ cut_more at.made.items chunk (into_iter_items at.rest) (into_iter_items c.next_chunk.new.rest) c.args.lines.items at.invariant.text
          is.lines;
      left_is = omega (arith, is.left, at.invariant.left_is);
      count =
          omega (
            arith,
            is.size,
            at.invariant.count,
            length-gathered chunk.lines (into_iter_items c.next_chunk.new.rest) (into_iter_items at.rest) is.lines,
          );
      some = omega (arith, c.cutting-test.true);
      each = subst (All IsChunk) (sym put) (each_more at.made.items chunk at.invariant.each is.chunk);
      size = subst (λ (l : List Chunk). All (λ n. n ≡ 48) (chunk_sizes l)) (sym put) (sizes_more at.made.items chunk at.invariant.size is.size);
      over = inr (omega (arith, c.cutting-test.true));
    }

pub next_chunk-requires-2-clause-small : goal.next_chunk-requires-2-clause-small
next_chunk-requires-2-clause-small c =
    let at = c.cutting in
    omega (arith, flat_rest-small (chunk_lines at.made.items) (into_iter_items at.rest) c.args.lines.items at.invariant.text, c.requires.small)

pub next_chunk-requires-3-clause-small : goal.next_chunk-requires-3-clause-small
next_chunk-requires-3-clause-small c =
    let at = c.cutting in
    omega (
      arith,
      flat_rest-small (chunk_lines at.made.items) (into_iter_items at.rest) c.args.lines.items at.invariant.text,
      flat_rest-small c.in_ok-front.front.lines (into_iter_items c.next_chunk-2.new.rest) (into_iter_items at.rest) c.in_ok-front.ensures.lines,
      c.requires.small,
    )

pub returns : goal.returns
returns c =
    let at = c.cutting in
    let front = c.in_ok-front.front in
    let back = c.in_ok-back.back in
    let put : c.push-2.new.self.items ≡ at.made.items ++ front ∷ [] = c.in_ok-push-3.ensures.items in
    let all : c.push-3.new.self.items ≡ (at.made.items ++ front ∷ []) ++ back ∷ [] =
    c.in_ok-push-4.ensures.items ∙ ap (λ (l : List Chunk). l ++ back ∷ []) put in
    let one : chunk_lines (at.made.items ++ front ∷ []) ++ into_iter_items c.next_chunk-2.new.rest ≡ c.args.lines.items =
    cut_more at.made.items front (into_iter_items at.rest) (into_iter_items c.next_chunk-2.new.rest) c.args.lines.items at.invariant.text
    c.in_ok-front.ensures.lines in
    let two : chunk_lines ((at.made.items ++ front ∷ []) ++ back ∷ []) ++ into_iter_items c.next_chunk-3.new.rest ≡ c.args.lines.items =
    cut_more (at.made.items ++ front ∷ []) back (into_iter_items c.next_chunk-2.new.rest) (into_iter_items c.next_chunk-3.new.rest)
    c.args.lines.items one c.in_ok-back.ensures.lines in
    let none : length (into_iter_items c.next_chunk-3.new.rest) ≡ 0 =
    omega (
      arith,
      at.invariant.count,
      c.in_ok-front.ensures.size,
      c.in_ok-back.ensures.size,
      length-gathered front.lines (into_iter_items c.next_chunk-2.new.rest) (into_iter_items at.rest) c.in_ok-front.ensures.lines,
      length-gathered back.lines (into_iter_items c.next_chunk-3.new.rest) (into_iter_items c.next_chunk-2.new.rest) c.in_ok-back.ensures.lines,
    ) in
    let end : into_iter_items c.next_chunk-3.new.rest ≡ [] = nil_from_length (into_iter_items c.next_chunk-3.new.rest) none in
    let text : chunk_lines ((at.made.items ++ front ∷ []) ++ back ∷ []) ≡ c.args.lines.items =
    sym (append-nil (chunk_lines ((at.made.items ++ front ∷ []) ++ back ∷ [])))
    ∙ ap (λ l. chunk_lines ((at.made.items ++ front ∷ []) ++ back ∷ []) ++ l) (sym end)
    ∙ two in
    subst (IsCutIntoChunks c.args.lines.items) (sym all)
    (cut_two at.made.items front back c.args.lines.items at.invariant.each at.invariant.size c.in_ok-front.ensures.chunk c.in_ok-back.ensures.chunk
    (omega (arith, c.in_ok-front.ensures.size, c.if-left-le64.false))
    (omega (arith, c.in_ok-back.ensures.size, c.if-left-le64.false))
    (omega (arith, c.in_ok-front.ensures.size, c.in_ok-back.ensures.size, c.if-left-le64.false)) text)
