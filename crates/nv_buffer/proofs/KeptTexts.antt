-- Lemmas on the texts that a tree of changes keeps.
use Rattle.std.proofs.Common.{◌≡◌, ℕ, zero, suc, ◌+◌, ◌<◌, ◌≤◌, List, [], ◌∷◌, ◌++◌, length, take, drop, get_or, fold, Option, Some, None, option_map, unwrap_or, slice_get, refl, sym, ap, subst, ◌∙◌, arith}
use Rattle.std.proofs.Math.Seq.{drop-cons}
use Rattle.std.proofs.lemmas.List.{get_or_append_left, get_or_push, take-append-drop, length-take-le, length_push, get_or_past}
use Rattle.std.proofs.lemmas.Option.{slice_get_within, get_or_from_slice_get, none-some, same_Some}
use Rattle.nv_undo.specs.Tree.{Undo, IsTree, last, numbered, change_of, pushed}
use Rattle.nv_buffer.specs.Changes.{lines_after, first_text, with_text, text_at}
use Rattle.nv_undo.specs.Ways.{origin}
use Rattle.nv_buffer.specs.declared.edit.Edit.{Edit}
use Rattle.nv_buffer.proofs.WayBack.{fold-append}

abbrev Text : Type 0
Text = List (List ℕ)

-- the kept texts behind these, once changes are kept
abbrev kept : List Text → List (ℕ × List Edit) → List Text
kept texts changes = fold with_text texts changes

length-kept : (texts : List Text) (changes : List (ℕ × List Edit)) → length (kept texts changes) ≡ length texts + length changes
length-kept texts [] = omega arith
length-kept texts (change ∷ changes) =
    omega (arith, length-kept (with_text texts change) changes, length_push texts (fold lines_after (get_or texts change.0 first_text) change.1))

-- the texts that were kept stay
kept-stay : (texts : List Text) (changes : List (ℕ × List Edit)) (n : ℕ) → n < length texts
    → get_or (kept texts changes) n first_text ≡ get_or texts n first_text
kept-stay texts [] n h = refl
kept-stay texts (change ∷ changes) n h =
    let new : Text = fold lines_after (get_or texts change.0 first_text) change.1 in
    kept-stay (with_text texts change) changes n (omega (arith, length_push texts new))
    ∙ get_or_append_left texts (new ∷ []) first_text n h

-- the text of a change in the middle
kept-middle : (texts : List Text) (before after : List (ℕ × List Edit)) (parent n : ℕ) (edits : List Edit) → length texts + length before ≡ n
    → parent < n
    → get_or (kept texts (before ++ (parent, edits) ∷ after)) n first_text
    ≡ fold lines_after (get_or (kept texts (before ++ (parent, edits) ∷ after)) parent first_text) edits
kept-middle texts before after parent n edits place below =
    let change : ℕ × List Edit = (parent, edits) in
    let so_far : List Text = kept texts before in
    let count : length so_far ≡ n = length-kept texts before ∙ place in
    let new : Text = fold lines_after (get_or so_far parent first_text) edits in
    let all : kept texts (before ++ change ∷ after) ≡ kept (with_text so_far change) after = fold-append with_text texts before (change ∷ after) in
    ap (λ (ts : List Text). get_or ts n first_text) all
    ∙ kept-stay (with_text so_far change) after n (omega (arith, length_push so_far new))
    ∙ get_or_push so_far new first_text n count
    ∙ ap (λ (t : Text). fold lines_after t edits) (
    sym (
    ap (λ (ts : List Text). get_or ts parent first_text) all
    ∙ kept-stay so_far (change ∷ after) parent (omega arith)
    )
    )

-- a list, parted at a place
pub parted : {X : Type 0} (xs : List X) (place : ℕ) (x : X) → slice_get xs place ≡ Some x → xs ≡ take place xs ++ x ∷ drop (suc place) xs
parted xs place x here =
    let within : place < length xs = slice_get_within xs place x here in
    sym (take-append-drop place xs)
    ∙ ap (λ ys. take place xs ++ ys) (
    drop-cons xs place x within ∙ ap (λ y. y ∷ drop (suc place) xs) (get_or_from_slice_get xs place x x here)
    )

-- a change with its parent
pub numbered-of : {E : Type 0} (undo : Undo E) (n : ℕ) (change : E) → change_of undo n ≡ Some change → numbered undo n ≡ Some (origin undo n, change)
numbered-of {E} undo n change is = by_case (numbered undo n) is
  where
    by_case : (found : Option (ℕ × E)) → option_map (λ c. c.1) found ≡ Some change
        → found ≡ Some (unwrap_or (option_map (λ c. c.0) found) 0, change)
    by_case None is = absurd (none-some change is)
    by_case (Some c) is = ap (λ e. Some (c.0, e)) (same_Some c.1 change is)

-- 0 is the text at first
pub text_at-first : (undo : Undo (List Edit)) → text_at undo 0 ≡ first_text
unfolding text_at
text_at-first undo = kept-stay (first_text ∷ []) undo.changes 0 (omega arith)

-- the text of a change is its parent's with its edits
pub text_at-change : (undo : Undo (List Edit)) (n : ℕ) (edits : List Edit) → IsTree undo → change_of undo n ≡ Some edits
    → text_at undo n ≡ fold lines_after (text_at undo (origin undo n)) edits
unfolding text_at
text_at-change undo zero edits tree is = absurd (none-some edits is)
text_at-change undo (suc place) edits tree is =
    let parent : ℕ = origin undo (suc place) in
    let here : slice_get undo.changes place ≡ Some (parent, edits) = numbered-of undo (suc place) edits is in
    let below : parent < suc place = tree.below (suc place) parent (ap (λ o. option_map (λ c. c.0) o) here) in
    let parts : undo.changes ≡ take place undo.changes ++ (parent, edits) ∷ drop (suc place) undo.changes =
    parted undo.changes place (parent, edits) here in
    let within : place < length undo.changes = slice_get_within undo.changes place (parent, edits) here in
    let all =
    kept-middle (first_text ∷ []) (take place undo.changes) (drop (suc place) undo.changes) parent (suc place) edits
    (omega (arith, length-take-le place undo.changes (omega arith))) below in
    subst (λ (cs : List (ℕ × List Edit)).
    get_or (kept (first_text ∷ []) cs) (suc place) first_text ≡ fold lines_after (get_or (kept (first_text ∷ []) cs) parent first_text) edits)
    (sym parts) all

-- a change that is made leaves all texts, and its own is that of the current number with its edits
pub text_at-stays : (undo : Undo (List Edit)) (edits : List Edit) (n : ℕ) → n ≤ last undo → text_at (pushed edits undo) n ≡ text_at undo n
unfolding text_at
text_at-stays undo edits n within =
    let so_far : List Text = kept (first_text ∷ []) undo.changes in
    let new : Text = fold lines_after (get_or so_far undo.current first_text) edits in
    ap (λ (ts : List Text). get_or ts n first_text) (fold-append with_text (first_text ∷ []) undo.changes ((undo.current, edits) ∷ []))
    ∙ get_or_append_left so_far (new ∷ []) first_text n (omega (arith, length-kept (first_text ∷ []) undo.changes))

pub text_at-pushed : (undo : Undo (List Edit)) (edits : List Edit)
    → text_at (pushed edits undo) (suc (last undo)) ≡ fold lines_after (text_at undo undo.current) edits
unfolding text_at
text_at-pushed undo edits =
    let so_far : List Text = kept (first_text ∷ []) undo.changes in
    let new : Text = fold lines_after (get_or so_far undo.current first_text) edits in
    ap (λ (ts : List Text). get_or ts (suc (last undo)) first_text) (fold-append with_text (first_text ∷ []) undo.changes ((undo.current, edits) ∷ []))
    ∙ get_or_push so_far new first_text (suc (last undo)) (length-kept (first_text ∷ []) undo.changes ∙ omega arith)

-- past the last number
pub text_at-past : (undo : Undo (List Edit)) (n : ℕ) → last undo < n → text_at undo n ≡ first_text
unfolding text_at
text_at-past undo n past = get_or_past (kept (first_text ∷ []) undo.changes) n first_text (omega (arith, length-kept (first_text ∷ []) undo.changes))

-- only the changes count
pub text_at-same : (undo other : Undo (List Edit)) (n : ℕ) → undo.changes ≡ other.changes → text_at undo n ≡ text_at other n
unfolding text_at
text_at-same undo other n same = ap (λ (cs : List (ℕ × List Edit)). get_or (kept (first_text ∷ []) cs) n first_text) same
