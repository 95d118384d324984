-- Edits of rows as splices of the flat text, told and taken back alike.
use Rattle.std.proofs.Common.{◌≡◌, ℕ, ℤ, pos, ◌+◌, ◌-◌, ◌+ℤ◌, List, [], ◌∷◌, ◌++◌, length, take, drop, fold, refl, ap, sym, ◌∙◌, arith, All, Bool, cond, subst}
use Rattle.std.proofs.lemmas.Int.{ints}
use Rattle.std.proofs.lemmas.List.{length-take, length-drop, drop-drop, take-append-drop, reverse-append}
use Rattle.std.proofs.lemmas.List.Elements.{All-append, All-take, All-drop}
use Rattle.nv_places.specs.Flat.{flat, IsLine, lines_of}
use Rattle.nv_places.specs.Places.{place_of, end_of, extent_of, row_count}
use Rattle.nv_places.proofs.FlatLemmas.{lines_of-flat}
use Rattle.nv_places.proofs.PlaceLemmas.{row_count-append, row_count-flat}
use Rattle.nv_buffer.specs.Content.{event_at, events_from}
use Rattle.nv_buffer.specs.Changes.{turned_part, Replaces, each_inverse, lines_after, inverse_edit, inverse_edits}
use Rattle.nv_buffer.specs.declared.edit.Edit.{Edit}
use Rattle.nv_buffer.specs.declared.buffer.Spliced.{Spliced}
use Rattle.nv_buffer.proofs.WayBack.{splice-back, length-spliced}
use Rattle.nv_model.specs.Buffers.{Splice, text_after, inverse_splice, inverse_splices, splice_event, splice_events}
use Rattle.nv_model.specs.Standing.{splice_of, splices_of, IsWithin, AreWithin, IsEditOf, AreEditsOf}
use Rattle.nv_model.proofs.Telling.{fold-append}
use Rattle.nv_model.proofs.BytesPut.{splices-push, edits-push, lines_put}

-- ---- the flat text after an edit
pub flat-edit : (t : List (List ℕ)) (e : Edit) → IsEditOf t e → flat (lines_after t e) ≡ text_after (flat t) (splice_of t e)
flat-edit t e is =
    let after : List ℕ = flat (lines_after t e) in
    let back : drop e.new (drop e.at after) ≡ drop (e.at + e.old) (flat t) = drop-drop e.new e.at after ∙ is.bytes.back in
    sym (take-append-drop e.at after)
    ∙ ap (λ (bs : List ℕ). take e.at after ++ bs) (sym (take-append-drop e.new (drop e.at after)))
    ∙ ap (λ (bs : List ℕ). take e.at after ++ (take e.new (drop e.at after) ++ bs)) back
    ∙ ap (λ (bs : List ℕ). bs ++ (take e.new (drop e.at after) ++ drop (e.at + e.old) (flat t))) is.bytes.front

within-edit : (t : List (List ℕ)) (e : Edit) → IsEditOf t e → IsWithin (flat t) (splice_of t e)
within-edit t e is = record { order = omega arith; within = is.bytes.removed }

pub flat-edits : (t : List (List ℕ)) (es : List Edit) → AreEditsOf t es → flat (fold lines_after t es) ≡ fold text_after (flat t) (splices_of t es)
flat-edits t [] are = refl
flat-edits t (e ∷ es) are =
    flat-edits (lines_after t e) es are.1
    ∙ ap (λ (bs : List ℕ). fold text_after bs (splices_of (lines_after t e) es)) (flat-edit t e are.0)

pub within-edits : (t : List (List ℕ)) (es : List Edit) → AreEditsOf t es → AreWithin (flat t) (splices_of t es)
within-edits t [] are = tt
within-edits t (e ∷ es) are =
    (within-edit t e are.0, subst (λ (bs : List ℕ). AreWithin bs (splices_of (lines_after t e) es)) (flat-edit t e are.0) (within-edits (lines_after t e) es are.1))

pub lines-edit : (t : List (List ℕ)) (e : Edit) → All IsLine t → IsEditOf t e → All IsLine (lines_after t e)
lines-edit t e lines is =
    All-append IsLine (take e.first t) (e.lines ++ drop e.last t) (All-take IsLine e.first t lines)
    (All-append IsLine e.lines (drop e.last t) is.lines (All-drop IsLine e.last t lines))

pub lines-edits : (t : List (List ℕ)) (es : List Edit) → All IsLine t → AreEditsOf t es → All IsLine (fold lines_after t es)
lines-edits t [] lines are = lines
lines-edits t (e ∷ es) lines are = lines-edits (lines_after t e) es (lines-edit t e lines are.0) are.1

-- ---- what is told
told-edit : (t : List (List ℕ)) (e : Edit) (z : ℤ) (tick : ℕ) → z ≡ pos tick → All IsLine t → IsEditOf t e
    → event_at z e ≡ splice_event (flat t) tick (splice_of t e)
told-edit t e z tick z_is lines is =
    let before : t ≡ lines_of (flat t) = sym (lines_of-flat t lines) in
    let after : lines_after t e ≡ lines_of (text_after (flat t) (splice_of t e)) =
    sym (lines_of-flat (lines_after t e) (lines-edit t e lines is)) ∙ ap lines_of (flat-edit t e is) in
    let first = is.first in
    let last = is.last in
    let put = sym (lines_put t e.lines e.first e.last is.order is.within) ∙ read before after first last in
    let old : e.old ≡ e.at + e.old - e.at = omega arith in
    let new : e.new ≡ length (take e.new (drop e.at (flat (lines_after t e)))) =
    omega (arith, is.bytes.put, length-take e.new (drop e.at (flat (lines_after t e))), length-drop e.at (flat (lines_after t e))) in
    let start = is.placed.start in
    let removed = is.placed.removed ∙ ap (λ (n : ℕ). extent_of (take n (drop e.at (flat t)))) old in
    let reach = is.placed.put in
    λ i. record {
      tick = z_is i;
      edit = record {
        first = first i;
        last = last i;
        lines = put i;
        at = e.at;
        old = old i;
        new = new i;
        start = start i;
        removed = removed i;
        put = reach i;
        rows = e.rows;
        part = e.part;
      };
    }
  where
    read : {L M : List (List ℕ)} {first last : ℕ} → t ≡ L → lines_after t e ≡ M → e.first ≡ first → e.last ≡ last
        → take (length (lines_after t e) - (length t - e.last) - e.first) (drop e.first (lines_after t e))
        ≡ take (length M - (length L - last) - first) (drop first M)
    read before after first last = λ i. take (length (after i) - (length (before i) - last i) - first i) (drop (first i) (after i))

pub told-edits : (t : List (List ℕ)) (es : List Edit) (z : ℤ) (tick : ℕ) → z ≡ pos tick → All IsLine t → AreEditsOf t es
    → events_from z es ≡ splice_events (flat t) tick (splices_of t es)
told-edits t [] z tick z_is lines are = refl
told-edits t (e ∷ es) z tick z_is lines are =
    let next : z +ℤ pos 1 ≡ pos (tick + 1) = omega (arith, ints) in
    let rest = told-edits (lines_after t e) es (z +ℤ pos 1) (tick + 1) next (lines-edit t e lines are.0) are.1 in
    ap (λ (x : Spliced). x ∷ events_from (z +ℤ pos 1) es) (told-edit t e (z +ℤ pos 1) (tick + 1) next lines are.0)
    ∙ ap (λ (l : List Spliced). splice_event (flat t) (tick + 1) (splice_of t e) ∷ l)
    (rest ∙ ap (λ (bs : List ℕ). splice_events bs (tick + 1) (splices_of (lines_after t e) es)) (flat-edit t e are.0))

-- ---- the way back
back-edit : (t : List (List ℕ)) (e : Edit) → IsEditOf t e → lines_after (lines_after t e) (inverse_edit t e) ≡ t
back-edit t e is = splice-back t e.lines e.first e.last is.order is.within

-- rows behind the bytes are as many before as after
rows_behind : (t : List (List ℕ)) (e : Edit) → All IsLine t → IsEditOf t e
    → (place_of (flat (lines_after t e)) (e.at + e.new)).row + e.last ≡ e.first + length e.lines + (place_of (flat t) (e.at + e.old)).row
rows_behind t e lines is =
    let after : List ℕ = flat (lines_after t e) in
    let whole_before : row_count (flat t) ≡ row_count (take (e.at + e.old) (flat t)) + row_count (drop (e.at + e.old) (flat t)) =
    ap row_count (sym (take-append-drop (e.at + e.old) (flat t))) ∙ row_count-append (take (e.at + e.old) (flat t)) (drop (e.at + e.old) (flat t)) in
    let whole_after : row_count after ≡ row_count (take (e.at + e.new) after) + row_count (drop (e.at + e.new) after) =
    ap row_count (sym (take-append-drop (e.at + e.new) after)) ∙ row_count-append (take (e.at + e.new) after) (drop (e.at + e.new) after) in
    let rest : row_count (drop (e.at + e.new) after) ≡ row_count (drop (e.at + e.old) (flat t)) = ap row_count is.bytes.back in
    let count_before : row_count (flat t) ≡ length t = row_count-flat t lines in
    let count_after : row_count after ≡ length (lines_after t e) = row_count-flat (lines_after t e) (lines-edit t e lines is) in
    let count : length (lines_after t e) ≡ e.first + (length e.lines + (length t - e.last)) = length-spliced t e.lines e.first e.last is.order is.within in
    omega (arith, is.within)

pub inverse-splice : (t : List (List ℕ)) (e : Edit) → All IsLine t → IsEditOf t e
    → splice_of (lines_after t e) (inverse_edit t e) ≡ inverse_splice (flat t) (splice_of t e)
inverse-splice t e lines is =
    let bytes : take e.old (drop e.at (flat (lines_after (lines_after t e) (inverse_edit t e)))) ≡ take (e.at + e.old - e.at) (drop e.at (flat t)) =
    ap (λ (ls : List (List ℕ)). take e.old (drop e.at (flat ls))) (back-edit t e is)
    ∙ ap (λ (n : ℕ). take n (drop e.at (flat t))) (omega arith) in
    let until : e.at + e.new ≡ e.at + length (take e.new (drop e.at (flat (lines_after t e)))) =
    omega (arith, is.bytes.put, length-take e.new (drop e.at (flat (lines_after t e))), length-drop e.at (flat (lines_after t e))) in
    λ i. record { from = e.at; until = until i; bytes = bytes i; rows = e.rows; part = turned_part e.part }

-- the row behind, of the bytes and of an inverse
row_behind_told : (rows : Bool) (last row : ℕ) → last ≡ row + cond rows 0 1 → (behind after : ℕ) → after + last ≡ behind + row
    → behind ≡ after + cond rows 0 1
row_behind_told rows last row is behind after same = omega (arith, is, same)

pub inverse-edit : (t : List (List ℕ)) (e : Edit) → All IsLine t → IsEditOf t e → IsEditOf (lines_after t e) (inverse_edit t e)
inverse-edit t e lines is =
    let same : t ≡ lines_after (lines_after t e) (inverse_edit t e) = sym (back-edit t e is) in
    let front : take e.at (flat (lines_after t e)) ≡ take e.at (flat t) = is.bytes.front in
    record {
      order = omega arith;
      within = omega (arith, length-spliced t e.lines e.first e.last is.order is.within);
      lines = All-take IsLine (e.last - e.first) (drop e.first t) (All-drop IsLine e.first t lines);
      bytes =
          subst (λ (ls : List (List ℕ)). Replaces (flat (lines_after t e)) (flat ls) e.at e.new e.old) same
          (record { removed = is.bytes.put; put = is.bytes.removed; front = sym is.bytes.front; back = sym is.bytes.back });
      first = is.first ∙ sym (ap row_count front);
      last =
          row_behind_told e.rows e.last (place_of (flat t) (e.at + e.old)).row is.last (e.first + length e.lines)
          (place_of (flat (lines_after t e)) (e.at + e.new)).row (rows_behind t e lines is);
      placed = record {
        start = is.placed.start ∙ ap end_of (sym front);
        removed = is.placed.put;
        put = is.placed.removed ∙ ap (λ (ls : List (List ℕ)). extent_of (take e.old (drop e.at (flat ls)))) same;
      };
    }

inverses-cons : (t : List (List ℕ)) (e : Edit) (es : List Edit)
    → inverse_edits t (e ∷ es) ≡ inverse_edits (lines_after t e) es ++ inverse_edit t e ∷ []
inverses-cons t e es = reverse-append (inverse_edit t e ∷ []) (each_inverse (lines_after t e) es)

-- what takes edits back
pub record IsWayBack (t : List (List ℕ)) (es : List Edit) : Type 0 where
  pub edits : AreEditsOf (fold lines_after t es) (inverse_edits t es)
  pub text : fold lines_after (fold lines_after t es) (inverse_edits t es) ≡ t
  pub splices : splices_of (fold lines_after t es) (inverse_edits t es) ≡ inverse_splices (flat t) (splices_of t es)

way_back_once : (t : List (List ℕ)) (e : Edit) (es : List Edit) → All IsLine t → IsEditOf t e → IsWayBack (lines_after t e) es
    → IsWayBack t (e ∷ es)
way_back_once t e es lines is rest =
    let now : List (List ℕ) = fold lines_after (lines_after t e) es in
    let back : List Edit = inverse_edits (lines_after t e) es in
    let cons : inverse_edits t (e ∷ es) ≡ back ++ inverse_edit t e ∷ [] = inverses-cons t e es in record {
      edits =
          subst (λ (l : List Edit). AreEditsOf now l) (sym cons)
          (edits-push now back (lines_after t e) (inverse_edit t e) (sym rest.text) rest.edits (inverse-edit t e lines is));
      text =
          ap (λ (l : List Edit). fold lines_after now l) cons
          ∙ fold-append lines_after now back (inverse_edit t e ∷ [])
          ∙ ap (λ (u : List (List ℕ)). lines_after u (inverse_edit t e)) rest.text
          ∙ back-edit t e is;
      splices =
          ap (λ (l : List Edit). splices_of now l) cons
          ∙ splices-push now back (inverse_edit t e)
          ∙ ap (λ (ss : List Splice). ss ++ splice_of (fold lines_after now back) (inverse_edit t e) ∷ []) rest.splices
          ∙ ap (λ (u : List (List ℕ)). inverse_splices (flat (lines_after t e)) (splices_of (lines_after t e) es) ++ splice_of u (inverse_edit t e) ∷ []) rest.text
          ∙ ap (λ (s : Splice). inverse_splices (flat (lines_after t e)) (splices_of (lines_after t e) es) ++ s ∷ []) (inverse-splice t e lines is)
          ∙ ap (λ (bs : List ℕ). inverse_splices bs (splices_of (lines_after t e) es) ++ inverse_splice (flat t) (splice_of t e) ∷ []) (flat-edit t e is);
    }

pub way_back : (t : List (List ℕ)) (es : List Edit) → All IsLine t → AreEditsOf t es → IsWayBack t es
way_back t [] lines are = record { edits = tt; text = refl; splices = refl }
way_back t (e ∷ es) lines are =
    way_back_once t e es lines are.0 (way_back (lines_after t e) es (lines-edit t e lines are.0) are.1)
