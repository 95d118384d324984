-- How many edits a way in the tree of changes has.
use Rattle.std.proofs.Common.{◌≡◌, ℕ, zero, suc, ◌+◌, ◌-◌, ◌<◌, ◌≤◌, List, [], ◌∷◌, ◌++◌, length, take, map, get_or, flat_map, Option, Some, None, option_map, unwrap_or, slice_get, refl, sym, ap, subst, ◌∙◌, arith, length-append}
use Rattle.std.proofs.lemmas.List.{append-nil, take_more, take_all, get_or_past, length-set}
use Rattle.std.specs.Prelude.{slice_set, option_to_list}
use Rattle.std.proofs.lemmas.List.Concat.{flat_map-append}
use Rattle.std.proofs.lemmas.Option.{get_or_from_slice_get, slice_get_within}
use Rattle.nv_undo.specs.Tree.{Undo, IsTree, last, parent_of, child_of, pushed, path}
use Rattle.nv_undo.specs.declared.legs.Leg.{Leg}
use Rattle.nv_undo.specs.declared.legs.Leg.TheVariants.{Back, Ahead}
use Rattle.nv_undo.proofs.PathLemmas.{path_none, greater_back, greater_ahead, by_greater}
use Rattle.nv_undo.proofs.NumberLemmas.{parent_within, some_numbered, numbered-old, numbered-new, parent-old, parent-new, last-pushed, child_named}
use Rattle.nv_undo.proofs.StepLemmas.{push_tree}
use Rattle.nv_undo.proofs.ListLemmas.{get_or-push_zero}
use Rattle.nv_buffer.specs.Changes.{text_at, edits_of, leg_edits}
use Rattle.nv_undo.specs.Ways.{origin, leg_back}
use Rattle.nv_buffer.specs.Content.{Content, after_seal, after_seal_of, undo_edits, redo_edits, undo_to_edits}
use Rattle.nv_buffer.specs.declared.edit.Edit.{Edit}
use Rattle.nv_buffer.proofs.WayBack.{length-inverses}

-- the number of edits of the way between two numbers
abbrev pub way_count : Undo (List Edit) → ℕ → ℕ → ℕ
way_count undo from to = length (flat_map (leg_edits undo) (path undo from to))

pub way_none : (undo : Undo (List Edit)) (n : ℕ) → way_count undo n n ≡ 0
way_none undo n = ap (λ (legs : List Leg). length (flat_map (leg_edits undo) legs)) (path_none undo n)

-- a way from the greater of two numbers begins with its edits, and one to the greater ends with them
pub way_back : (undo : Undo (List Edit)) (n parent to : ℕ) → IsTree undo → parent_of undo n ≡ Some parent → to < n
    → way_count undo n to ≡ length (edits_of undo n) + way_count undo parent to
way_back undo n parent to tree is lower =
    ap (λ (legs : List Leg). length (flat_map (leg_edits undo) legs)) (greater_back undo n parent to tree is lower)
    ∙ length-append (leg_edits undo (Back n)) (flat_map (leg_edits undo) (path undo parent to))
    ∙ ap (λ (k : ℕ). k + way_count undo parent to) (length-inverses (text_at undo (origin undo n)) (edits_of undo n))

pub way_ahead : (undo : Undo (List Edit)) (from n parent : ℕ) → IsTree undo → parent_of undo n ≡ Some parent → from < n
    → way_count undo from n ≡ way_count undo from parent + length (edits_of undo n)
way_ahead undo from n parent tree is lower =
    ap (λ (legs : List Leg). length (flat_map (leg_edits undo) legs)) (greater_ahead undo from n parent tree is lower)
    ∙ ap length (flat_map-append (leg_edits undo) (path undo from parent) (Ahead n ∷ []))
    ∙ length-append (flat_map (leg_edits undo) (path undo from parent)) (edits_of undo n ++ [])
    ∙ ap (λ (es : List Edit). way_count undo from parent + length es) (append-nil (edits_of undo n))

-- how many edits the changes up to a number have
abbrev count_to : Undo (List Edit) → ℕ → ℕ
count_to undo n = length (flat_map (λ (c : ℕ × List Edit). c.1) (take n undo.changes))

count_mono : (changes : List (ℕ × List Edit)) (m n : ℕ) → m ≤ n
    → length (flat_map (λ (c : ℕ × List Edit). c.1) (take m changes)) ≤ length (flat_map (λ (c : ℕ × List Edit). c.1) (take n changes))
count_mono changes zero n h = omega arith
count_mono [] (suc m) n h = omega arith
count_mono (c ∷ changes) (suc m) zero h = absurd (omega arith)
count_mono (c ∷ changes) (suc m) (suc n) h =
    omega (
      arith,
      count_mono changes m n (omega arith),
      length-append c.1 (flat_map (λ (c : ℕ × List Edit). c.1) (take m changes)),
      length-append c.1 (flat_map (λ (c : ℕ × List Edit). c.1) (take n changes)),
    )

-- one change more
count_next : (changes : List (ℕ × List Edit)) (place : ℕ) (c : ℕ × List Edit) → slice_get changes place ≡ Some c
    → length (flat_map (λ (c : ℕ × List Edit). c.1) (take (place + 1) changes))
    ≡ length (flat_map (λ (c : ℕ × List Edit). c.1) (take place changes)) + length c.1
count_next changes place c here =
    let edits : (ℕ × List Edit) → List Edit = λ (c : ℕ × List Edit). c.1 in
    let more = take_more changes place c (slice_get_within changes place c here) in
    let that = get_or_from_slice_get changes place c c here in
    ap (λ (cs : List (ℕ × List Edit)). length (flat_map edits cs)) (more ∙ ap (λ (x : ℕ × List Edit). take place changes ++ x ∷ []) that)
    ∙ ap length (flat_map-append edits (take place changes) (c ∷ []))
    ∙ length-append (flat_map edits (take place changes)) (c.1 ++ [])
    ∙ ap (λ (es : List Edit). length (flat_map edits (take place changes)) + length es) (append-nil c.1)

count_at : (undo : Undo (List Edit)) (n m parent : ℕ) → parent_of undo n ≡ Some parent → m < n
    → count_to undo m + length (edits_of undo n) ≤ count_to undo n
count_at undo zero m parent is lower = absurd (omega arith)
count_at undo (suc place) m parent is lower =
    let within = parent_within undo (suc place) parent is in
    let found = some_numbered undo (suc place) within.0 within.1 in
    let edits : edits_of undo (suc place) ≡ found.0.1 =
    ap (λ (o : Option (ℕ × List Edit)). unwrap_or (option_map (λ c. c.1) o) []) found.1 in
    let next = count_next undo.changes place found.0 found.1 in
    let same : count_to undo (place + 1) ≡ count_to undo (suc place) = ap (count_to undo) (suc_is place) in
    omega (arith, count_mono undo.changes m place (omega arith), ap length edits)
  where
    suc_is : (n : ℕ) → n + 1 ≡ suc n
    suc_is n = omega arith

-- each change is on a way once at most
pub way_bounded : (undo : Undo (List Edit)) (from to : ℕ) → IsTree undo → from ≤ last undo → to ≤ last undo
    → way_count undo from to ≤ length (flat_map (λ (c : ℕ × List Edit). c.1) undo.changes)
way_bounded undo from to tree from_in to_in =
    let most : way_count undo from to ≤ count_to undo (last undo) =
    by_greater undo tree (λ a b. (m : ℕ) → a ≤ m → b ≤ m → way_count undo a b ≤ count_to undo m)
    (λ n m a b. omega (arith, way_none undo n))
    (λ n parent b is lower rest m n_in b_in.
    omega (
      arith,
      way_back undo n parent b tree is lower,
      rest (n_less n) (n_low n parent (tree.below n parent is)) (n_low n b lower),
      count_at undo n (n_less n) parent is (n_below n b lower),
      count_mono undo.changes n m n_in,
    ))
    (λ a n parent is lower rest m a_in n_in.
    omega (
      arith,
      way_ahead undo a n parent tree is lower,
      rest (n_less n) (n_low n a lower) (n_low n parent (tree.below n parent is)),
      count_at undo n (n_less n) parent is (n_below n a lower),
      count_mono undo.changes n m n_in,
    ))
    from to from_in to_in (last undo) from_in to_in in
    subst (λ (cs : List (ℕ × List Edit)). way_count undo from to ≤ length (flat_map (λ (c : ℕ × List Edit). c.1) cs)) (take_last undo.changes) most
  where
    n_less : ℕ → ℕ
    n_less n = n - 1

    n_low : (n k : ℕ) → k < n → k ≤ n - 1
    n_low n k h = omega arith

    n_below : (n k : ℕ) → k < n → n - 1 < n
    n_below n k h = omega arith

    take_last : (cs : List (ℕ × List Edit)) → take (length cs) cs ≡ cs
    take_last cs = take_all (length cs) cs (omega arith)

-- ---- what undo, redo and undo to a number cost
-- a change that was made now
pub pushed_edits : (undo : Undo (List Edit)) (edits : List Edit) → edits_of (pushed edits undo) (suc (last undo)) ≡ edits
pushed_edits undo edits = ap (λ (o : Option (ℕ × List Edit)). unwrap_or (option_map (λ c. c.1) o) []) (numbered-new edits undo)

back_count : (undo : Undo (List Edit)) (n : ℕ) → length (flat_map (leg_edits undo) (leg_back n)) ≡ length (edits_of undo n)
back_count undo zero = refl
back_count undo (suc n) =
    ap length (append-nil (leg_edits undo (Back (suc n)))) ∙ length-inverses (text_at undo (origin undo (suc n))) (edits_of undo (suc n))

-- a list without elements
none_left : (edits : List Edit) → length edits ≡ 0 → edits ≡ []
none_left [] is = refl
none_left (edit ∷ edits) is = absurd (omega arith)

sealed_same : (buffer : Content) → length buffer.unsealed ≡ 0 → after_seal buffer ≡ buffer
sealed_same buffer none = ap (after_seal_of buffer) (none_left buffer.unsealed none)

sealed_more : (buffer : Content) (edits : List Edit) → (length edits ≡ 0 → ⊥)
    → after_seal_of buffer edits ≡ record buffer { undo = pushed edits buffer.undo; unsealed = [] }
sealed_more buffer [] some = absurd (some refl)
sealed_more buffer (edit ∷ edits) some = refl

pub cost_back_sealed : (buffer : Content) → length buffer.unsealed ≡ 0
    → length (undo_edits buffer) ≡ length (edits_of buffer.undo buffer.undo.current)
cost_back_sealed buffer none =
    ap (λ (b : Content). length (flat_map (leg_edits b.undo) (leg_back b.undo.current))) (sealed_same buffer none)
    ∙ back_count buffer.undo buffer.undo.current

pub cost_back_open : (buffer : Content) → (length buffer.unsealed ≡ 0 → ⊥) → length (undo_edits buffer) ≡ length buffer.unsealed
cost_back_open buffer some =
    ap (λ (b : Content). length (flat_map (leg_edits b.undo) (leg_back b.undo.current))) (sealed_more buffer buffer.unsealed some)
    ∙ back_count (pushed buffer.unsealed buffer.undo) (suc (last buffer.undo))
    ∙ ap length (pushed_edits buffer.undo buffer.unsealed)

-- a change that was made now has no child
child_new : (change : List Edit) (undo : Undo (List Edit)) → IsTree undo → child_of (pushed change undo) (suc (last undo)) ≡ None
child_new change undo tree =
    let at : get_or (pushed change undo).entered (suc (last undo)) 0 ≡ 0 =
    get_or-push_zero (slice_set undo.entered undo.current (suc (last undo))) (suc (last undo))
    ∙ get_or_past (slice_set undo.entered undo.current (suc (last undo))) (suc (last undo)) 0
    (omega (arith, length-set undo.entered undo.current (suc (last undo)), tree.counted)) in
    ap child_named at

pub cost_ahead_open : (buffer : Content) → IsTree buffer.undo → (length buffer.unsealed ≡ 0 → ⊥) → length (redo_edits buffer) ≡ 0
cost_ahead_open buffer tree some =
    ap (λ (b : Content). length (flat_map (leg_edits b.undo) (map (λ n. Ahead n) (option_to_list (child_of b.undo b.undo.current)))))
    (sealed_more buffer buffer.unsealed some)
    ∙ ap (λ (o : Option ℕ). length (flat_map (leg_edits (pushed buffer.unsealed buffer.undo)) (map (λ n. Ahead n) (option_to_list o))))
    (child_new buffer.unsealed buffer.undo tree)

-- the parent of a change
pub origin_is : {E : Type 0} (undo : Undo E) (n : ℕ) → 0 < n → n ≤ last undo → parent_of undo n ≡ Some (origin undo n)
origin_is undo n some within =
    let c = some_numbered undo n some within in
    let parent : parent_of undo n ≡ Some c.0.0 = ap (option_map (λ x. x.0)) c.1 in
    parent ∙ ap (λ (k : ℕ). Some k) (sym (ap (λ (o : Option ℕ). unwrap_or o 0) parent))

-- one step of the two walks that meet at the nearest common ancestor
pub record WayStep (undo : Undo (List Edit)) (counted from to total next : ℕ) : Type 0 where
  pub within : next ≤ last undo
  pub fewer : counted ≤ total
  pub count : counted + way_count undo from to ≡ total

pub way_step_back : (undo : Undo (List Edit)) (count from to total len next : ℕ) → IsTree undo → from ≤ last undo → to < from
    → len ≡ length (edits_of undo from) → next ≡ origin undo from → count + way_count undo from to ≡ total
    → (next < from) × WayStep undo (count + len) next to total next
way_step_back undo count from to total len next tree within lower len_is next_is so_far =
    let parent : parent_of undo from ≡ Some (origin undo from) = origin_is undo from (omega arith) within in
    let below : origin undo from < from = tree.below from (origin undo from) parent in
    let way = way_back undo from (origin undo from) to tree parent lower in
    rw next_is (below, record { within = omega arith; fewer = omega arith; count = omega arith })

pub way_step_ahead : (undo : Undo (List Edit)) (count from to total len next : ℕ) → IsTree undo → to ≤ last undo → from < to
    → len ≡ length (edits_of undo to) → next ≡ origin undo to → count + way_count undo from to ≡ total
    → (next < to) × WayStep undo (count + len) from next total next
way_step_ahead undo count from to total len next tree within lower len_is next_is so_far =
    let parent : parent_of undo to ≡ Some (origin undo to) = origin_is undo to (omega arith) within in
    let below : origin undo to < to = tree.below to (origin undo to) parent in
    let way = way_ahead undo from to (origin undo to) tree parent lower in
    rw next_is (below, record { within = omega arith; fewer = omega arith; count = omega arith })

-- ---- undo to a number, where there are edits that are not yet a change
open_cost : (buffer : Content) (n : ℕ) → (length buffer.unsealed ≡ 0 → ⊥)
    → length (undo_to_edits n buffer) ≡ way_count (pushed buffer.unsealed buffer.undo) (suc (last buffer.undo)) n
open_cost buffer n some =
    ap (λ (b : Content). length (flat_map (leg_edits b.undo) (path b.undo b.undo.current n))) (sealed_more buffer buffer.unsealed some)

open_last : (buffer : Content) → (length buffer.unsealed ≡ 0 → ⊥) → last (after_seal buffer).undo ≡ suc (last buffer.undo)
open_last buffer some =
    ap (λ (b : Content). last b.undo) (sealed_more buffer buffer.unsealed some) ∙ last-pushed buffer.unsealed buffer.undo

pub cost_to_itself : (buffer : Content) (n : ℕ) → (length buffer.unsealed ≡ 0 → ⊥) → n ≤ last (after_seal buffer).undo → last buffer.undo < n
    → length (undo_to_edits n buffer) ≡ 0
cost_to_itself buffer n some within above =
    let same : n ≡ suc (last buffer.undo) = omega (arith, open_last buffer some) in
    open_cost buffer n some
    ∙ ap (way_count (pushed buffer.unsealed buffer.undo) (suc (last buffer.undo))) same
    ∙ way_none (pushed buffer.unsealed buffer.undo) (suc (last buffer.undo))

-- a change that is made leaves the ways between the others
edits_stay : (undo : Undo (List Edit)) (edits : List Edit) (n : ℕ) → n ≤ last undo → edits_of (pushed edits undo) n ≡ edits_of undo n
edits_stay undo edits n within =
    ap (λ (o : Option (ℕ × List Edit)). unwrap_or (option_map (λ c. c.1) o) []) (numbered-old edits undo n within)

way_stays : (undo : Undo (List Edit)) (edits : List Edit) (from to : ℕ) → IsTree undo → from ≤ last undo → to ≤ last undo
    → way_count (pushed edits undo) from to ≡ way_count undo from to
way_stays undo edits from to tree from_in to_in =
    let all : IsTree (pushed edits undo) = push_tree edits undo tree in
    by_greater undo tree (λ a b. way_count (pushed edits undo) a b ≡ way_count undo a b)
    (λ n. way_none (pushed edits undo) n ∙ sym (way_none undo n))
    (λ n parent b is lower rest.
    let within = (parent_within undo n parent is).1 in
    way_back (pushed edits undo) n parent b all (parent-old edits undo n within ∙ is) lower
    ∙ (λ i. length (edits_stay undo edits n within i) + rest i)
    ∙ sym (way_back undo n parent b tree is lower))
    (λ a n parent is lower rest.
    let within = (parent_within undo n parent is).1 in
    way_ahead (pushed edits undo) a n parent all (parent-old edits undo n within ∙ is) lower
    ∙ (λ i. rest i + length (edits_stay undo edits n within i))
    ∙ sym (way_ahead undo a n parent tree is lower))
    from to from_in to_in

pub cost_to_open : (buffer : Content) (n : ℕ) → IsTree buffer.undo → (length buffer.unsealed ≡ 0 → ⊥) → n ≤ last buffer.undo
    → length (undo_to_edits n buffer) ≡ length buffer.unsealed + way_count buffer.undo buffer.undo.current n
cost_to_open buffer n tree some within =
    open_cost buffer n some
    ∙ way_back (pushed buffer.unsealed buffer.undo) (suc (last buffer.undo)) buffer.undo.current n (push_tree buffer.unsealed buffer.undo tree)
    (parent-new buffer.unsealed buffer.undo) (omega arith)
    ∙ (λ i. length (pushed_edits buffer.undo buffer.unsealed i) + way_stays buffer.undo buffer.unsealed buffer.undo.current n tree tree.within within i)
