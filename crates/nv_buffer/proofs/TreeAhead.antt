-- Lemmas on the tree of edits, where steps are kept.
use Rattle.std.proofs.Common.{◌≡◌, ℕ, zero, suc, ◌+◌, ◌<◌, ◌≤◌, true, List, [], ◌∷◌, ◌++◌, length, map, fold, reverse, slice_get, Option, Some, None, IfSome, option_map, unwrap_or, refl, sym, ap, subst, ◌∙◌, arith, append_assoc, length-append}
use Rattle.std.proofs.lemmas.List.{append-nil, length_push, length-take-le, map_push}
use Rattle.std.proofs.lemmas.Option.{none-some, slice_get-map, slice_get_within}
use Rattle.std.specs.Prelude.{slice_set, take, drop}
use Rattle.std.specs.Option.{option_map_or}
use Rattle.nv_undo.specs.Tree.{Undo, tree_of, no_changes, IsTree, last, numbered, parent_of, change_of, ancestors_within, ancestors, those_outside, path, pushed, tree_after_leg}
use Rattle.nv_undo.specs.declared.legs.Leg.{Leg}
use Rattle.nv_undo.specs.declared.legs.Leg.TheVariants.{Back, Ahead}
use Rattle.nv_undo.specs.Ways.{origin, IsNext}
use Rattle.nv_undo.proofs.NumberLemmas.{numbered-old, numbered-new}
use Rattle.nv_buffer.specs.Changes.{text_at, edits_of}
use Rattle.nv_buffer.specs.Content.{Content, after_seal, after_seal_of}
use Rattle.nv_buffer.specs.Steps.{edits_ahead, with_change, changes_ahead, tree_ahead, edits_since}
use Rattle.nv_buffer.specs.declared.edit.Edit.{Edit}
use Rattle.nv_buffer.specs.declared.step.Step.{Step}
use Rattle.nv_buffer.proofs.KeptTexts.{numbered-of, parted, text_at-same, text_at-stays}
use Rattle.nv_buffer.proofs.StepsAhead.{length-edits_ahead}
use Rattle.nv_buffer.proofs.WayBack.{fold-append}

abbrev Kept : Type 0
Kept = List (ℕ × List Step)

abbrev Made : Type 0
Made = List (ℕ × List Edit)

-- the text of a number, where these are the changes
abbrev text_of : Made → ℕ → List (List ℕ)
text_of made n = text_at (tree_of made 0 []) n

-- ---- changes that are made one after another
-- what stays of a change, whatever the text is
kept_map : {X : Type 0} (f : ℕ × List Edit → X) (g : ℕ × List Step → X)
    → ((text : List (List ℕ)) (c : ℕ × List Step) → f (c.0, edits_ahead text c.1) ≡ g c)
    → (made : Made) (changes : Kept) → map f (fold with_change made changes) ≡ map f made ++ map g changes
kept_map {X} f g same made [] = sym (append-nil (map f made))
kept_map {X} f g same made (c ∷ changes) =
    kept_map f g same (with_change made c) changes
    ∙ ap (λ (xs : List X). xs ++ map g changes) (map_push f made (c.0, edits_ahead (text_of made c.0) c.1))
    ∙ append_assoc (map f made) (f (c.0, edits_ahead (text_of made c.0) c.1) ∷ []) (map g changes)
    ∙ ap (λ (x : X). map f made ++ x ∷ map g changes) (same (text_of made c.0) c)

length-kept : (made : Made) (changes : Kept) → length (fold with_change made changes) ≡ length made + length changes
length-kept made [] = omega arith
length-kept made (c ∷ changes) =
    omega (arith, length-kept (with_change made c) changes, length_push made (c.0, edits_ahead (text_of made c.0) c.1))

none_more : (n : ℕ) → 0 + n ≡ n
none_more n = omega arith

-- what was made stays
kept-stays : (made : Made) (changes : Kept) (place : ℕ) → place < length made
    → slice_get (fold with_change made changes) place ≡ slice_get made place
kept-stays made [] place within = refl
kept-stays made (c ∷ changes) place within =
    let edits : List Edit = edits_ahead (text_of made c.0) c.1 in
    kept-stays (with_change made c) changes place (omega (arith, length_push made (c.0, edits)))
    ∙ numbered-old edits (tree_of made c.0 []) (suc place) (omega arith)

text-stays : (made : Made) (changes : Kept) (n : ℕ) → n ≤ length made → text_of (fold with_change made changes) n ≡ text_of made n
text-stays made [] n within = refl
text-stays made (c ∷ changes) n within =
    let edits : List Edit = edits_ahead (text_of made c.0) c.1 in
    text-stays (with_change made c) changes n (omega (arith, length_push made (c.0, edits)))
    ∙ text_at-same (tree_of (with_change made c) 0 []) (pushed edits (tree_of made c.0 [])) n refl
    ∙ text_at-stays (tree_of made c.0 []) edits n within
    ∙ text_at-same (tree_of made c.0 []) (tree_of made 0 []) n refl

-- a change in the middle
kept_middle : (before : Kept) (parent : ℕ) (steps : List Step) (behind : Kept) → parent ≤ length before
    → (let all : Made = fold with_change [] (before ++ (parent, steps) ∷ behind) in
    slice_get all (length before) ≡ Some (parent, edits_ahead (text_of all parent) steps))
kept_middle before parent steps behind below =
    let made : Made = fold with_change [] before in
    let count : length made ≡ length before = length-kept [] before ∙ none_more (length before) in
    let edits : List Edit = edits_ahead (text_of made parent) steps in
    let next : Made = made ++ (parent, edits) ∷ [] in
    let all : fold with_change [] (before ++ (parent, steps) ∷ behind) ≡ fold with_change next behind =
    fold-append with_change [] before ((parent, steps) ∷ behind) in
    let text : text_of made parent ≡ text_of (fold with_change [] (before ++ (parent, steps) ∷ behind)) parent =
    sym (
    ap (λ (m : Made). text_of m parent) all
    ∙ text-stays made ((parent, steps) ∷ behind) parent (omega arith)
    ) in
    ap (λ (m : Made). slice_get m (length before)) all
    ∙ kept-stays next behind (length before) (omega (arith, length_push made (parent, edits)))
    ∙ ap (λ (n : ℕ). slice_get next n) (sym count)
    ∙ numbered-new edits (tree_of made parent [])
    ∙ ap (λ (t : List (List ℕ)). Some (parent, edits_ahead t steps)) text

-- ---- the changes of a tree
pub none_ahead : changes_ahead [] ≡ []
unfolding changes_ahead
none_ahead = refl

pub no_changes-ahead : tree_ahead no_changes ≡ no_changes
no_changes-ahead = ap (λ (m : Made). tree_of m 0 (0 ∷ [])) none_ahead

length-changes : (changes : Kept) → length (changes_ahead changes) ≡ length changes
unfolding changes_ahead
length-changes changes = length-kept [] changes ∙ none_more (length changes)

parents-changes : (changes : Kept) → map (λ (c : ℕ × List Edit). c.0) (changes_ahead changes) ≡ map (λ (c : ℕ × List Step). c.0) changes
unfolding changes_ahead
parents-changes changes = kept_map (λ (c : ℕ × List Edit). c.0) (λ (c : ℕ × List Step). c.0) (λ text c. refl) [] changes

counts-changes : (changes : Kept)
    → map (λ (c : ℕ × List Edit). length c.1) (changes_ahead changes) ≡ map (λ (c : ℕ × List Step). length c.1) changes
unfolding changes_ahead
counts-changes changes =
    kept_map (λ (c : ℕ × List Edit). length c.1) (λ (c : ℕ × List Step). length c.1) (λ text c. length-edits_ahead text c.1) [] changes

changes-push : (changes : Kept) (parent : ℕ) (steps : List Step)
    → changes_ahead (changes ++ (parent, steps) ∷ [])
    ≡ changes_ahead changes ++ (parent, edits_ahead (text_of (changes_ahead changes) parent) steps) ∷ []
unfolding changes_ahead
changes-push changes parent steps = fold-append with_change [] changes ((parent, steps) ∷ [])

changes-middle : (before : Kept) (parent : ℕ) (steps : List Step) (behind : Kept) → parent ≤ length before
    → (let all : Made = changes_ahead (before ++ (parent, steps) ∷ behind) in
    slice_get all (length before) ≡ Some (parent, edits_ahead (text_of all parent) steps))
unfolding changes_ahead
changes-middle before parent steps behind below = kept_middle before parent steps behind below

change-there : (changes : Kept) (place parent : ℕ) (steps : List Step) → slice_get changes place ≡ Some (parent, steps) → parent ≤ place
    → slice_get (changes_ahead changes) place ≡ Some (parent, edits_ahead (text_of (changes_ahead changes) parent) steps)
change-there changes place parent steps here below =
    let within : place < length changes = slice_get_within changes place (parent, steps) here in
    let before : Kept = take place changes in
    let behind : Kept = drop (suc place) changes in
    let count : length before ≡ place = length-take-le place changes (omega arith) in
    let parts : changes ≡ before ++ (parent, steps) ∷ behind = parted changes place (parent, steps) here in
    let there = changes-middle before parent steps behind (omega arith) in
    let all : changes_ahead changes ≡ changes_ahead (before ++ (parent, steps) ∷ behind) = ap changes_ahead parts in
    (λ i. slice_get (all i) (sym count i))
    ∙ there
    ∙ ap (λ (m : Made). Some (parent, edits_ahead (text_of m parent) steps)) (sym all)

-- ---- the tree
pub last-ahead : (tree : Undo (List Step)) → last (tree_ahead tree) ≡ last tree
last-ahead tree = length-changes tree.changes

pub parent-ahead : (tree : Undo (List Step)) (n : ℕ) → parent_of (tree_ahead tree) n ≡ parent_of tree n
parent-ahead tree zero = refl
parent-ahead tree (suc place) =
    sym (slice_get-map (λ (c : ℕ × List Edit). c.0) (changes_ahead tree.changes) place)
    ∙ ap (λ (ns : List ℕ). slice_get ns place) (parents-changes tree.changes)
    ∙ slice_get-map (λ (c : ℕ × List Step). c.0) tree.changes place

pub origin-ahead : (tree : Undo (List Step)) (n : ℕ) → origin (tree_ahead tree) n ≡ origin tree n
origin-ahead tree n = ap (λ (o : Option ℕ). unwrap_or o 0) (parent-ahead tree n)

pub changed-ahead : (tree : Undo (List Step)) (n : ℕ) (steps : List Step) → IsTree tree → change_of tree n ≡ Some steps
    → change_of (tree_ahead tree) n ≡ Some (edits_ahead (text_at (tree_ahead tree) (origin tree n)) steps)
changed-ahead tree zero steps tree_is is = absurd (none-some steps is)
changed-ahead tree (suc place) steps tree_is is =
    let parent : ℕ = origin tree (suc place) in
    let here : numbered tree (suc place) ≡ Some (parent, steps) = numbered-of tree (suc place) steps is in
    let below : parent < suc place = tree_is.below (suc place) parent (ap (λ (o : Option (ℕ × List Step)). option_map (λ c. c.0) o) here) in
    ap (λ (o : Option (ℕ × List Edit)). option_map (λ c. c.1) o) (change-there tree.changes place parent steps here (omega arith))
    ∙ ap (λ (t : List (List ℕ)). Some (edits_ahead t steps)) (text_at-same (tree_of (changes_ahead tree.changes) 0 []) (tree_ahead tree) parent refl)

pub edits-ahead : (tree : Undo (List Step)) (n : ℕ) (steps : List Step) → IsTree tree → change_of tree n ≡ Some steps
    → edits_of (tree_ahead tree) n ≡ edits_ahead (text_at (tree_ahead tree) (origin tree n)) steps
edits-ahead tree n steps tree_is is = ap (λ (o : Option (List Edit)). unwrap_or o []) (changed-ahead tree n steps tree_is is)

-- how many edits a change has
pub count-ahead : (tree : Undo (List Step)) (n : ℕ) → length (edits_of (tree_ahead tree) n) ≡ length (unwrap_or (change_of tree n) [])
count-ahead tree zero = refl
count-ahead tree (suc place) =
    edits_len (slice_get (changes_ahead tree.changes) place)
    ∙ ap (λ (o : Option ℕ). unwrap_or o 0) (
    sym (slice_get-map (λ (c : ℕ × List Edit). length c.1) (changes_ahead tree.changes) place)
    ∙ ap (λ (ns : List ℕ). slice_get ns place) (counts-changes tree.changes)
    ∙ slice_get-map (λ (c : ℕ × List Step). length c.1) tree.changes place
    )
    ∙ sym (steps_len (slice_get tree.changes place))
  where
    edits_len : (o : Option (ℕ × List Edit)) → length (unwrap_or (option_map (λ c. c.1) o) []) ≡ unwrap_or (option_map (λ c. length c.1) o) 0
    edits_len None = refl
    edits_len (Some c) = refl

    steps_len : (o : Option (ℕ × List Step)) → length (unwrap_or (option_map (λ c. c.1) o) []) ≡ unwrap_or (option_map (λ c. length c.1) o) 0
    steps_len None = refl
    steps_len (Some c) = refl

pub tree-ahead : (tree : Undo (List Step)) → IsTree tree → IsTree (tree_ahead tree)
tree-ahead tree is = record {
  counted = is.counted ∙ ap (λ n. suc n) (sym (last-ahead tree));
  within = subst (λ (n : ℕ). tree.current ≤ n) (sym (last-ahead tree)) is.within;
  below = λ k n found. is.below k n (sym (parent-ahead tree k) ∙ found);
  child = λ n k found. parent-ahead tree k ∙ is.child n k found;
  some_child = λ n k found. is.some_child n k (sym (parent-ahead tree k) ∙ found);
}

pub tree-behind : (tree : Undo (List Step)) → IsTree (tree_ahead tree) → IsTree tree
tree-behind tree is = record {
  counted = is.counted ∙ ap (λ n. suc n) (last-ahead tree);
  within = subst (λ (n : ℕ). tree.current ≤ n) (last-ahead tree) is.within;
  below = λ k n found. is.below k n (parent-ahead tree k ∙ found);
  child = λ n k found. sym (parent-ahead tree k) ∙ is.child n k found;
  some_child = λ n k found. is.some_child n k (parent-ahead tree k ∙ found);
}

pub pushed-ahead : (steps : List Step) (tree : Undo (List Step))
    → tree_ahead (pushed steps tree) ≡ pushed (edits_since tree steps) (tree_ahead tree)
pushed-ahead steps tree =
    let count : last (tree_ahead tree) ≡ last tree = last-ahead tree in
    let text : text_of (changes_ahead tree.changes) tree.current ≡ text_at (tree_ahead tree) tree.current =
    text_at-same (tree_of (changes_ahead tree.changes) 0 []) (tree_ahead tree) tree.current refl in
    let changes : changes_ahead (tree.changes ++ (tree.current, steps) ∷ [])
    ≡ changes_ahead tree.changes ++ (tree.current, edits_since tree steps) ∷ [] =
    changes-push tree.changes tree.current steps
    ∙ ap (λ (t : List (List ℕ)). changes_ahead tree.changes ++ (tree.current, edits_ahead t steps) ∷ []) text in
    λ i.
    tree_of (changes i) (suc (sym count i))
    (slice_set tree.entered tree.current (suc (sym count i)) ++ 0 ∷ [])

pub gone-ahead : (leg : Leg) (tree : Undo (List Step)) → tree_ahead (tree_after_leg leg tree) ≡ tree_after_leg leg (tree_ahead tree)
gone-ahead (Back n) tree =
    ap (λ (o : Option ℕ). tree_of (changes_ahead tree.changes) (unwrap_or o tree.current) tree.entered) (sym (parent-ahead tree tree.current))
gone-ahead (Ahead n) tree =
    ap (λ (o : Option ℕ). tree_of (changes_ahead tree.changes) n (slice_set tree.entered (unwrap_or o 0) n)) (sym (parent-ahead tree n))

-- a child of the number that the text is at
pub child_seen : (child : Option ℕ) (tree : Undo (List Step)) → IfSome child (λ n. parent_of tree n ≡ Some tree.current)
    → IfSome child (λ n. parent_of (tree_ahead tree) n ≡ Some tree.current)
child_seen None tree is = is
child_seen (Some n) tree is = parent-ahead tree n ∙ is

-- ways are the same where edits alone are seen
within-ahead : (steps : ℕ) (tree : Undo (List Step)) (n : ℕ) → ancestors_within steps (tree_ahead tree) n ≡ ancestors_within steps tree n
within-ahead zero tree n = refl
within-ahead (suc steps) tree n =
    ap (λ (o : Option ℕ). n ∷ option_map_or (ancestors_within steps (tree_ahead tree)) o []) (parent-ahead tree n)
    ∙ by_case (ancestors_within steps (tree_ahead tree)) (ancestors_within steps tree) (λ p. within-ahead steps tree p) (parent_of tree n)
  where
    by_case : (A B : ℕ → List ℕ) → ((p : ℕ) → A p ≡ B p) → (o : Option ℕ) → n ∷ option_map_or A o [] ≡ n ∷ option_map_or B o []
    by_case A B same None = refl
    by_case A B same (Some p) = ap (λ (ns : List ℕ). n ∷ ns) (same p)

pub path-ahead : (tree : Undo (List Step)) (from to : ℕ) → path (tree_ahead tree) from to ≡ path tree from to
path-ahead tree from to =
    let a : ancestors (tree_ahead tree) from ≡ ancestors tree from = within-ahead from tree from in
    let b : ancestors (tree_ahead tree) to ≡ ancestors tree to = within-ahead to tree to in
    λ i. map (λ n. Back n) (those_outside (b i) (a i)) ++ map (λ n. Ahead n) (reverse (those_outside (a i) (b i)))

-- a leg that can be gone there can be gone here
pub next-behind : (tree : Undo (List Step)) (leg : Leg) → IsNext (tree_ahead tree) leg → IsNext tree leg
next-behind tree (Back n) next = next
next-behind tree (Ahead n) next = sym (parent-ahead tree n) ∙ next

-- a buffer as it is seen once a leg is gone in its tree
pub arrived_seen : (before now : Content) (tree moved : Undo (List Step)) (unsealed : List Step) (leg : Leg) → before ≡ now
    → before.undo ≡ tree_ahead tree → moved ≡ tree_after_leg leg tree → unsealed ≡ []
    → record before { modified = true; undo = tree_ahead moved; unsealed = edits_since moved unsealed }
    ≡ record now { modified = true; undo = tree_after_leg leg now.undo; unsealed = [] }
arrived_seen before now tree moved unsealed leg same undo_is moved_is none =
    let undo : tree_ahead moved ≡ tree_after_leg leg before.undo =
    ap tree_ahead moved_is ∙ gone-ahead leg tree ∙ ap (λ (u : Undo (List Edit)). tree_after_leg leg u) (sym undo_is) in
    (λ i. record before { modified = true; undo = undo i; unsealed = edits_since moved (none i) })
    ∙ ap (λ (b : Content). record b { modified = true; undo = tree_after_leg leg b.undo; unsealed = [] }) same

-- a buffer as it is seen once its open change is closed
pub sealed_seen : (before now : Content) (tree moved : Undo (List Step)) (steps left : List Step) → before ≡ now → before.undo ≡ tree_ahead tree
    → before.unsealed ≡ edits_since tree steps → (steps ≡ [] → ⊥) → moved ≡ pushed steps tree → left ≡ []
    → record before { undo = tree_ahead moved; unsealed = edits_since moved left } ≡ after_seal now
sealed_seen before now tree moved [] left same undo_is unsealed_is some moved_is none = absurd (some refl)
sealed_seen before now tree moved (step ∷ steps) left same undo_is unsealed_is some moved_is none =
    let undo : tree_ahead moved ≡ pushed (edits_since tree (step ∷ steps)) before.undo =
    ap tree_ahead moved_is
    ∙ pushed-ahead (step ∷ steps) tree
    ∙ ap (λ (u : Undo (List Edit)). pushed (edits_since tree (step ∷ steps)) u) (sym undo_is) in
    (λ i. record before { undo = undo i; unsealed = edits_since moved (none i) })
    ∙ ap (λ (es : List Edit). after_seal_of before es) (sym unsealed_is)
    ∙ ap (λ (b : Content). after_seal b) same

-- and where none is open
pub sealed_none : (buffer : Content) → buffer.unsealed ≡ [] → buffer ≡ after_seal buffer
sealed_none buffer none = sym (ap (λ (es : List Edit). after_seal_of buffer es) none)
