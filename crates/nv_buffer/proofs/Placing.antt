-- Lemmas on where the bytes of an edit lie, and on marks that it moves.
use Rattle.std.proofs.Common.{◌≡◌, ℕ, zero, suc, ◌+◌, ◌-◌, ◌^◌, ◌<◌, ◌≤◌, List, [], ◌∷◌, ◌++◌, length, take, drop, map, filter, All, Bool, true, false, cond, ◌&&◌, nat_le, Option, Some, None, IfSome, Result, Ok, Err, OnOk, OnErr, not, option_map, unwrap_or, refl, sym, ap, subst, ◌∙◌, arith, inl, inr}
use Rattle.std.proofs.Math.Seq.{take-add}
use Rattle.std.proofs.lemmas.List.Elements.{All-filter}
use Rattle.std.proofs.lemmas.Bool.Decides.{nat_tests}
use Rattle.std.proofs.lemmas.List.{take-append-drop, drop-drop, take_at, drop_at, length-take-le}
use Rattle.std.proofs.lemmas.List.Elements.{All-head, All-tail, All-map, All-nil, All-cons}
use Rattle.std.proofs.lemmas.List.Sorted.{All-permutation}
use Rattle.std.specs.List.{splice}
use Rattle.std.specs.Option.{option_map_or}
use Rattle.nv_places.specs.Flat.{flat, IsLine, line_at}
use Rattle.nv_places.specs.Places.{place_of, end_of, extent_of, offset_of, further, IsPlaceIn, IsNarrow}
use Rattle.nv_places.specs.Moves.{moved_place}
use Rattle.nv_places.specs.declared.place.Pos.{Pos}
use Rattle.nv_places.specs.declared.place.Extent.{Extent}
use Rattle.nv_places.proofs.PlaceLemmas.{end_of-append, place-offset, offset-place}
use Rattle.nv_places.proofs.MoveLemmas.{moves_stay}
use Rattle.nv_lines.proofs.Splices.{All-splice}
use Rattle.nv_marks.specs.Keeping.{far_put_back, is_gone, is_of_kept, is_struck, marks_struck, put_back_by, put_back_mark, struck_mark}
use Rattle.nv_marks.specs.Marks.{Marks, is_named, numbered_mark, without}
use Rattle.nv_marks.specs.declared.keeping.Kept.{Kept}
use Rattle.nv_marks.specs.Order.{IsInOrder}
use Rattle.nv_marks.specs.Queries.{cleared_marks, is_cleared}
use Rattle.nv_marks.specs.Moves.{moved_mark, moved_far, MovesNarrowly}
use Rattle.nv_marks.specs.declared.extmark.Far.{Far}
use Rattle.nv_marks.specs.declared.extmark.Mark.{Mark}
use Rattle.nv_buffer.specs.Splices.{IsBufferText, IsNarrowLine, IsNarrowText}
use Rattle.nv_buffer.specs.Changes.{lines_after, Replaces, Fits}
use Rattle.nv_buffer.specs.KeptMarks.{is_kept_in, is_place_in}
use Rattle.nv_buffer.specs.Marks.{IsMarkIn, AreMarksIn, mark_after, marks_in_order, marks_after}
use Rattle.nv_buffer.specs.declared.edit.Edit.{Edit}
use Rattle.nv_buffer.proofs.MarkOrders.{in_order_is}
use Rattle.nv_buffer.proofs.Measures.{flat_small}

-- ---- places
-- the place so many bytes on
pub place-on : (text : List ℕ) (at n : ℕ) → place_of text (at + n) ≡ further (place_of text at) (extent_of (take n (drop at text)))
place-on text at n = ap end_of (take-add at n text) ∙ end_of-append (take at text) (take n (drop at text))

-- an extent is told by the two places that it lies between
rows_told : (p : Pos) (a b : Extent) → (further p a).row ≡ (further p b).row → (further p a).col ≡ (further p b).col → a.rows ≡ b.rows
rows_told p a b rows cols = grind (arith, nat_tests)

cols_told : (p : Pos) (a b : Extent) → (further p a).row ≡ (further p b).row → (further p a).col ≡ (further p b).col → a.cols ≡ b.cols
cols_told p a b rows cols = grind (arith, nat_tests)

pub extent_told : (p : Pos) (a b : Extent) → further p a ≡ further p b → a ≡ b
extent_told p a b same =
    let rows : (further p a).row ≡ (further p b).row = ap (λ (q : Pos). q.row) same in
    let cols : (further p a).col ≡ (further p b).col = ap (λ (q : Pos). q.col) same in
    let r : a.rows ≡ b.rows = rows_told p a b rows cols in
    let c : a.cols ≡ b.cols = cols_told p a b rows cols in
    λ i. let e : Extent = record { rows = r i; cols = c i } in e

-- the extent from a place of a text to another one
pub extent-between : (lines : List (List ℕ)) (p q : Pos) (e : Extent) → All IsLine lines → IsPlaceIn lines p → IsPlaceIn lines q
    → offset_of lines p ≤ offset_of lines q → further p e ≡ q
    → e ≡ extent_of (take (offset_of lines q - offset_of lines p) (drop (offset_of lines p) (flat lines)))
extent-between lines p q e are p_in q_in order reach =
    let n : ℕ = offset_of lines q - offset_of lines p in
    let more : List ℕ = take n (drop (offset_of lines p) (flat lines)) in
    let sum : offset_of lines p + n ≡ offset_of lines q = omega arith in
    let at_p : place_of (flat lines) (offset_of lines p) ≡ p = (place-offset lines p are p_in).1 in
    let at_q : place_of (flat lines) (offset_of lines q) ≡ q = (place-offset lines q are q_in).1 in
    let to : further p (extent_of more) ≡ q =
    ap (λ (r : Pos). further r (extent_of more)) (sym at_p)
    ∙ sym (place-on (flat lines) (offset_of lines p) n)
    ∙ ap (place_of (flat lines)) sum
    ∙ at_q in
    extent_told p e (extent_of more) (reach ∙ sym to)

-- a place of a narrow text is narrow
narrow_at : (lines : List (List ℕ)) (row : ℕ) → All IsNarrowLine lines → length (line_at lines row) < 2 ^ 32
narrow_at [] row are = omega arith
narrow_at (line ∷ lines) zero are = All-head IsNarrowLine line lines are
narrow_at (line ∷ lines) (suc row) are = narrow_at lines row (All-tail IsNarrowLine line lines are)

pub narrow_place : (lines : List (List ℕ)) (p : Pos) → IsNarrowText lines → IsPlaceIn lines p → IsNarrow p
narrow_place lines p narrow is = (omega (arith, narrow.count, is.row), omega (arith, narrow_at lines p.row narrow.columns, is.col))

-- ---- bytes
-- the bytes around those that are put stand as they stood
pub splice-replaced : (before after : List ℕ) (at old new : ℕ) → Replaces before after at old new
    → after ≡ splice before at (at + old) (take new (drop at after))
splice-replaced before after at old new is =
    let back : drop new (drop at after) ≡ drop (at + old) before = drop-drop new at after ∙ is.back in
    sym (take-append-drop at after)
    ∙ ap (λ (bs : List ℕ). take at after ++ bs) (sym (take-append-drop new (drop at after)))
    ∙ ap (λ (bs : List ℕ). take at after ++ (take new (drop at after) ++ bs)) back
    ∙ ap (λ (bs : List ℕ). bs ++ (take new (drop at after) ++ drop (at + old) before)) is.front

-- ---- an edit that fits
pub lines_stay : (text : List (List ℕ)) (edit : Edit) → All IsLine text → Fits text edit → All IsLine (lines_after text edit)
lines_stay text edit are fits = All-splice IsLine text edit.lines edit.first edit.last are fits.lines

-- what it takes and what it puts end at places of the text before and after it
pub record EndsNarrowly (edit : Edit) : Type 0 where
  pub old : IsNarrow (further edit.start edit.removed)
  pub new : IsNarrow (further edit.start edit.put)

pub ends_narrowly : (text : List (List ℕ)) (edit : Edit) → IsBufferText text → Fits text edit → EndsNarrowly edit
ends_narrowly text edit is fits =
    let after : List (List ℕ) = lines_after text edit in
    let after_are : All IsLine after = lines_stay text edit is.lines fits in
    let old_in : IsPlaceIn text (place_of (flat text) (edit.at + edit.old)) = (offset-place text (edit.at + edit.old) is.lines fits.bytes.removed).0 in
    let new_in : IsPlaceIn after (place_of (flat after) (edit.at + edit.new)) = (offset-place after (edit.at + edit.new) after_are fits.bytes.put).0 in
    let old_is : place_of (flat text) (edit.at + edit.old) ≡ further edit.start edit.removed =
    place-on (flat text) edit.at edit.old ∙ (λ i. further (sym fits.placed.start i) (sym fits.placed.removed i)) in
    let start : place_of (flat after) edit.at ≡ edit.start = ap end_of fits.bytes.front ∙ sym fits.placed.start in
    let new_is : place_of (flat after) (edit.at + edit.new) ≡ further edit.start edit.put =
    place-on (flat after) edit.at edit.new ∙ (λ i. further (start i) (sym fits.placed.put i)) in record {
      old = subst IsNarrow old_is (narrow_place text (place_of (flat text) (edit.at + edit.old)) is.narrow old_in);
      new = subst IsNarrow new_is (narrow_place after (place_of (flat after) (edit.at + edit.new)) fits.narrow new_in);
    }

-- a place of the text is moved to one of the text after it
pub place_moved : (text : List (List ℕ)) (edit : Edit) (right : Bool) (p : Pos) → IsBufferText text → Fits text edit → IsPlaceIn text p
    → IsPlaceIn (lines_after text edit) (moved_place right edit.start edit.removed edit.put p)
place_moved text edit right p is fits stands =
    let after : List (List ℕ) = lines_after text edit in
    let put : List ℕ = take edit.new (drop edit.at (flat after)) in
    let after_are : All IsLine after = lines_stay text edit is.lines fits in
    let moved =
    moves_stay text after put edit.at (edit.at + edit.old) right p is.lines after_are (omega arith) fits.bytes.removed
    (splice-replaced (flat text) (flat after) edit.at edit.old edit.new fits.bytes) stands in
    let count : edit.at + edit.old - edit.at ≡ edit.old = omega arith in
    let removed : extent_of (take (edit.at + edit.old - edit.at) (drop edit.at (flat text))) ≡ edit.removed =
    ap (λ (n : ℕ). extent_of (take n (drop edit.at (flat text)))) count ∙ sym fits.placed.removed in
    subst (λ (q : Pos). IsPlaceIn after q)
    (λ i. moved_place right (sym fits.placed.start i) (removed i) (sym fits.placed.put i) p) moved

-- ---- marks
far_moved : (text : List (List ℕ)) (edit : Edit) (stop : Option Far) → IsBufferText text → Fits text edit
    → IfSome stop (λ far. IsPlaceIn text far.pos)
    → IfSome (option_map (moved_far edit.start edit.removed edit.put) stop) (λ far. IsPlaceIn (lines_after text edit) far.pos)
far_moved text edit None is fits stands = tt
far_moved text edit (Some far) is fits stands = place_moved text edit far.right far.pos is fits stands

mark_moved : (text : List (List ℕ)) (edit : Edit) → IsBufferText text → Fits text edit → (mark : Mark) → IsMarkIn text mark
    → IsMarkIn (lines_after text edit) (moved_mark edit.start edit.removed edit.put mark)
mark_moved text edit is fits mark stands = record {
  start = place_moved text edit mark.right mark.start is fits stands.start;
  stop = far_moved text edit mark.stop is fits stands.stop;
}

far_narrowly : (text : List (List ℕ)) (edit : Edit) (stop : Option Far) → IsBufferText text → Fits text edit
    → IfSome stop (λ far. IsPlaceIn text far.pos)
    → IfSome stop (λ far. IsNarrow (moved_place far.right edit.start edit.removed edit.put far.pos))
far_narrowly text edit None is fits stands = tt
far_narrowly text edit (Some far) is fits stands =
    narrow_place (lines_after text edit) (moved_place far.right edit.start edit.removed edit.put far.pos) fits.narrow
    (place_moved text edit far.right far.pos is fits stands)

mark_narrowly : (text : List (List ℕ)) (edit : Edit) → IsBufferText text → Fits text edit → (mark : Mark) → IsMarkIn text mark
    → MovesNarrowly edit.start edit.removed edit.put mark
mark_narrowly text edit is fits mark stands = (
  narrow_place (lines_after text edit) (moved_place mark.right edit.start edit.removed edit.put mark.start) fits.narrow
      (place_moved text edit mark.right mark.start is fits stands.start),
  far_narrowly text edit mark.stop is fits stands.stop,
)

All-by : {X : Type 0} (P Q : X → Type 0) → ((x : X) → P x → Q x) → (xs : List X) → All P xs → All Q xs
All-by P Q f [] all = All-nil Q
All-by P Q f (x ∷ xs) all = All-cons Q x xs (f x (All-head P x xs all)) (All-by P Q f xs (All-tail P x xs all))

pub marks_narrowly : (text : List (List ℕ)) (edit : Edit) (marks : Marks) → IsBufferText text → Fits text edit → AreMarksIn text marks
    → All (MovesNarrowly edit.start edit.removed edit.put) marks.marks
marks_narrowly text edit marks is fits are =
    All-by (IsMarkIn text) (MovesNarrowly edit.start edit.removed edit.put) (mark_narrowly text edit is fits) marks.marks are

-- marks that are struck stand where they stood
mark_struck : (text : List (List ℕ)) (from to : Pos) (mark : Mark) → IsMarkIn text mark → IsMarkIn text (struck_mark from to mark)
mark_struck text from to mark stands = by_case (is_struck from to mark)
  where
    by_case : (b : Bool) → IsMarkIn text (cond b (record mark { hidden = true }) mark)
    by_case true = record { start = stands.start; stop = stands.stop }
    by_case false = stands

pub marks_struck_stay : (text : List (List ℕ)) (start : Pos) (old : Extent) (marks : List Mark) → All (IsMarkIn text) marks
    → All (IsMarkIn text) (marks_struck start old marks)
marks_struck_stay text start old marks are =
    let to : Pos = further start old in
    let left : List Mark = filter (λ m. not (is_gone start to m)) marks in
    All-map (IsMarkIn text) (struck_mark start to) left
    (All-by (IsMarkIn text) (λ m. IsMarkIn text (struck_mark start to m)) (mark_struck text start to) left
    (All-filter (λ m. not (is_gone start to m)) (IsMarkIn text) marks are))

-- and move as they moved
struck_narrowly : (start : Pos) (old new : Extent) (mark : Mark) → MovesNarrowly start old new mark
    → MovesNarrowly start old new (struck_mark start (further start old) mark)
struck_narrowly start old new mark narrow = by_case (is_struck start (further start old) mark)
  where
    by_case : (b : Bool) → MovesNarrowly start old new (cond b (record mark { hidden = true }) mark)
    by_case true = narrow
    by_case false = narrow

pub marks_struck_narrowly : (start : Pos) (old new : Extent) (marks : List Mark) → All (MovesNarrowly start old new) marks
    → All (MovesNarrowly start old new) (marks_struck start old marks)
marks_struck_narrowly start old new marks are =
    let to : Pos = further start old in
    let left : List Mark = filter (λ m. not (is_gone start to m)) marks in
    All-map (MovesNarrowly start old new) (struck_mark start to) left
    (All-by (MovesNarrowly start old new) (λ m. MovesNarrowly start old new (struck_mark start to m)) (struck_narrowly start old new) left
    (All-filter (λ m. not (is_gone start to m)) (MovesNarrowly start old new) marks are))

-- what is put back stands in the text
place_tested : (text : List (List ℕ)) (p : Pos) → is_place_in text p ≡ true → IsPlaceIn text p
place_tested text p e = record {
  row = row_of p.row (length text) p.col (length (line_at text p.row)) e;
  col = col_of p.row (length text) p.col (length (line_at text p.row)) e;
}
  where
    row_of : (a b c d : ℕ) → (nat_le a b && nat_le c d) ≡ true → a ≤ b
    row_of a b c d e = grind (arith, nat_tests)

    col_of : (a b c d : ℕ) → (nat_le a b && nat_le c d) ≡ true → c ≤ d
    col_of a b c d e = grind (arith, nat_tests)

both_true : (a b : Bool) → (a && b) ≡ true → (a ≡ true) × (b ≡ true)
both_true true b e = (refl, e)
both_true false b e = cc

place_or : (text : List (List ℕ)) (o : Option Pos) (p : Pos) → option_map_or (is_place_in text) o true ≡ true → IsPlaceIn text p
    → IsPlaceIn text (unwrap_or o p)
place_or text None p e stands = stands
place_or text (Some q) p e stands = place_tested text q e

stop_put_back : (text : List (List ℕ)) (k : Kept) (stop : Option Far) → option_map_or (is_place_in text) k.stop true ≡ true
    → IfSome stop (λ far. IsPlaceIn text far.pos) → IfSome (option_map (far_put_back k) stop) (λ far. IsPlaceIn text far.pos)
stop_put_back text k None e stands = tt
stop_put_back text k (Some far) e stands = place_or text k.stop far.pos e stands

mark_put_back : (text : List (List ℕ)) (k : Kept) (mark : Mark) → is_kept_in text k ≡ true → IsMarkIn text mark → IsMarkIn text (put_back_by k mark)
mark_put_back text k mark e stands = by_case (is_of_kept k mark)
  where
    by_case : (b : Bool)
        → IsMarkIn text (cond b (record mark { start = unwrap_or k.start mark.start; stop = option_map (far_put_back k) mark.stop; hidden = k.hidden }) mark)
    by_case false = stands
    by_case true =
        let both = both_true (option_map_or (is_place_in text) k.start true) (option_map_or (is_place_in text) k.stop true) e in record {
          start = place_or text k.start mark.start both.0 stands.start;
          stop = stop_put_back text k mark.stop both.1 stands.stop;
        }

-- those that passed
kept_pass : (p : Kept → Bool) (kept : List Kept) → All (λ (k : Kept). p k ≡ true) (filter p kept)
kept_pass p [] = All-nil (λ (k : Kept). p k ≡ true)
kept_pass p (k ∷ ks) = by_case (p k) refl (kept_pass p ks)
  where
    by_case : (b : Bool) → p k ≡ b → All (λ (x : Kept). p x ≡ true) (filter p ks)
        → All (λ (x : Kept). p x ≡ true) (cond b (k ∷ filter p ks) (filter p ks))
    by_case true e rest = All-cons (λ (x : Kept). p x ≡ true) k (filter p ks) e rest
    by_case false e rest = rest

all_put_back : (text : List (List ℕ)) (kept : List Kept) (mark : Mark) → All (λ (k : Kept). is_kept_in text k ≡ true) kept → IsMarkIn text mark
    → IsMarkIn text (put_back_mark kept mark)
all_put_back text [] mark pass stands = stands
all_put_back text (k ∷ ks) mark pass stands =
    all_put_back text ks (put_back_by k mark) (All-tail (λ (x : Kept). is_kept_in text x ≡ true) k ks pass)
    (mark_put_back text k mark (All-head (λ (x : Kept). is_kept_in text x ≡ true) k ks pass) stands)

-- the marks after an edit stand in the text after it
pub marks_stay : (text : List (List ℕ)) (edit : Edit) (kept : List Kept) (marks : Marks) → IsBufferText text → Fits text edit
    → AreMarksIn text marks → AreMarksIn (lines_after text edit) (marks_after (filter (is_kept_in (lines_after text edit)) kept) marks edit)
marks_stay text edit kept marks is fits are =
    let after : List (List ℕ) = lines_after text edit in
    let back : List Kept = filter (is_kept_in after) kept in
    let struck : List Mark = marks_struck edit.start edit.removed marks.marks in
    let moves : List Mark = map (mark_after back edit) struck in
    let each : (mark : Mark) → IsMarkIn text mark → IsMarkIn after (mark_after back edit mark) =
    λ mark stands. all_put_back after back (moved_mark edit.start edit.removed edit.put mark) (kept_pass (is_kept_in after) kept)
    (mark_moved text edit is fits mark stands) in
    let moved : All (IsMarkIn after) moves =
    All-map (IsMarkIn after) (mark_after back edit) struck
    (All-by (IsMarkIn text) (λ m. IsMarkIn after (mark_after back edit m)) each struck
    (marks_struck_stay text edit.start edit.removed marks.marks are)) in
    All-permutation (IsMarkIn after) moves (marks_in_order moves) (in_order_is moves).same_marks moved

-- ---- marks that are set and removed
pub others_stand : (text : List (List ℕ)) (ns id : ℕ) (marks : Marks) → AreMarksIn text marks
    → All (IsMarkIn text) (without ns id marks.marks)
others_stand text ns id marks are = All-filter (λ (m : Mark). not (is_named ns id m)) (IsMarkIn text) marks.marks are

pub set_places : {T E : Type 0} (result : Result T E) (inside text : List (List ℕ)) (mark : Mark) (before after : Marks) → inside ≡ text
    → IsMarkIn text mark → AreMarksIn inside before
    → OnOk result (IsInOrder (numbered_mark before.settings mark ∷ without mark.ns mark.id before.marks) after.marks)
    → OnErr result (after ≡ before) → AreMarksIn inside after
set_places (Ok value) inside text mark before after same stands are ok err =
    let kept : Mark = numbered_mark before.settings mark in
    let there : IsMarkIn inside mark = subst (λ (t : List (List ℕ)). IsMarkIn t mark) (sym same) stands in
    let here : IsMarkIn inside kept = record { start = there.start; stop = there.stop } in
    let others : All (IsMarkIn inside) (without mark.ns mark.id before.marks) = others_stand inside mark.ns mark.id before are in
    All-permutation (IsMarkIn inside) (kept ∷ without mark.ns mark.id before.marks) after.marks ok.same_marks
    (All-cons (IsMarkIn inside) kept (without mark.ns mark.id before.marks) here others)
set_places (Err e) inside text mark before after same stands are ok err = subst (AreMarksIn inside) (sym err) are

-- and those that are left where some are cleared
pub cleared_places : {T E : Type 0} (result : Result T E) (text : List (List ℕ)) (ns : Option ℕ) (from to : Pos) (before after : Marks)
    → AreMarksIn text before → OnOk result (after.marks ≡ cleared_marks ns from to before.marks) → OnErr result (after ≡ before)
    → AreMarksIn text after
cleared_places (Ok value) text ns from to before after are ok err =
    subst (λ (ms : List Mark). All (IsMarkIn text) ms) (sym ok)
    (All-filter (λ m. not (is_cleared ns from to m)) (IsMarkIn text) before.marks are)
cleared_places (Err e) text ns from to before after are ok err = subst (AreMarksIn text) (sym err) are

-- ---- what an edit that fits asks of the calls that make it
pub small_after : (inside text lines : List (List ℕ)) (edit : Edit) → inside ≡ text → lines ≡ edit.lines → Fits text edit
    → length (flat (splice inside edit.first edit.last lines)) < 2 ^ 64
small_after inside text lines edit same lines_is fits =
    let narrow : IsNarrowText (splice inside edit.first edit.last lines) =
    subst IsNarrowText (λ i. splice (sym same i) edit.first edit.last (sym lines_is i)) fits.narrow in
    flat_small (splice inside edit.first edit.last lines) narrow
