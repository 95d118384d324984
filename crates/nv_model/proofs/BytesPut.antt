-- The bytes and the lines that a splice puts.
use Rattle.std.proofs.Common.{◌≡◌, ℕ, ◌+◌, ◌-◌, ◌≤◌, List, [], ◌∷◌, ◌++◌, length, take, drop, fold, refl, ap, sym, ◌∙◌, length-append, arith, subst}
use Rattle.std.specs.List.{splice}
use Rattle.std.proofs.lemmas.List.{length-take, length-take-le, length-drop, take_at, drop_at, drop-drop}
use Rattle.nv_buffer.specs.Changes.{Replaces, lines_after}
use Rattle.nv_buffer.specs.declared.edit.Edit.{Edit}
use Rattle.nv_model.specs.Buffers.{Splice, text_after}
use Rattle.nv_model.specs.Standing.{splice_of, splices_of, IsEditOf, AreEditsOf}

-- one more edit
pub splices-push : (text : List (List ℕ)) (edits : List Edit) (edit : Edit)
    → splices_of text (edits ++ edit ∷ []) ≡ splices_of text edits ++ splice_of (fold lines_after text edits) edit ∷ []
splices-push text [] edit = refl
splices-push text (e ∷ edits) edit = ap (λ (ss : List Splice). splice_of text e ∷ ss) (splices-push (lines_after text e) edits edit)

pub edits-push : (base : List (List ℕ)) (edits : List Edit) (text : List (List ℕ)) (edit : Edit) → text ≡ fold lines_after base edits
    → AreEditsOf base edits → IsEditOf text edit → AreEditsOf base (edits ++ edit ∷ [])
edits-push base [] text edit is are one = (subst (λ (t : List (List ℕ)). IsEditOf t edit) is one, tt)
edits-push base (e ∷ edits) text edit is are one = (are.0, edits-push (lines_after base e) edits text edit is are.1 one)

-- a splice replaces its bytes
pub replaces_at : (text bytes : List ℕ) (at old new : ℕ) → at + old ≤ length text → new ≡ length bytes
    → Replaces text (splice text at (at + old) bytes) at old new
replaces_at text bytes at old new within is =
    let front : length (take at text) ≡ at = length-take-le at text (omega arith) in
    let rest : drop at (splice text at (at + old) bytes) ≡ bytes ++ drop (at + old) text =
    drop_at (take at text) (bytes ++ drop (at + old) text) at front in
    record {
      removed = within;
      put =
          omega (
            arith,
            length-append (take at text) (bytes ++ drop (at + old) text),
            length-append bytes (drop (at + old) text),
            length-take at text,
            length-drop (at + old) text,
          );
      front = take_at (take at text) (bytes ++ drop (at + old) text) at front;
      back =
          sym (drop-drop new at (splice text at (at + old) bytes))
          ∙ ap (drop new) rest
          ∙ drop_at bytes (drop (at + old) text) new (sym is);
    }

-- the bytes that a splice put, read from the text after it
pub bytes_put : (text : List ℕ) (s : Splice) → s.from ≤ length text → take (length s.bytes) (drop s.from (text_after text s)) ≡ s.bytes
bytes_put text s low =
    ap (take (length s.bytes)) (drop_at (take s.from text) (s.bytes ++ drop s.until text) s.from (length-take-le s.from text low))
    ∙ take_at s.bytes (drop s.until text) (length s.bytes) refl

-- the lines that a splice of lines put, read from the lines after it
pub lines_put : (lines new : List (List ℕ)) (from to : ℕ) → from ≤ to → to ≤ length lines
    → take (length (splice lines from to new) - (length lines - to) - from) (drop from (splice lines from to new)) ≡ new
lines_put lines new from to order within =
    let count : length (splice lines from to new) - (length lines - to) - from ≡ length new =
    omega (
      arith,
      length-append (take from lines) (new ++ drop to lines),
      length-append new (drop to lines),
      length-take from lines,
      length-drop to lines,
    ) in
    let rest : drop from (splice lines from to new) ≡ new ++ drop to lines =
    drop_at (take from lines) (new ++ drop to lines) from (length-take-le from lines (omega arith)) in
    ap (λ (n : ℕ). take n (drop from (splice lines from to new))) count
    ∙ ap (take (length new)) rest
    ∙ take_at new (drop to lines) (length new) refl
