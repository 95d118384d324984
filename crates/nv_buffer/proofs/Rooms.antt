-- Lemmas on entries that are empty and on those that have something.
use Rattle.std.proofs.Common.{◌≡◌, ℕ, suc, ◌<◌, eqb, Bool, true, false, true≢false, cond, not, List, [], ◌∷◌, length, filter, map, Option, Some, None, is_some, unwrap_or, option_map, Vec, refl, sym, ap, subst, ◌∙◌, arith}
use Rattle.std.specs.List.{AllByRecursion}
use Rattle.std.specs.List.Sorted.{IsStrictlySortedBy}
use Rattle.std.specs.Map.{keys_of, lookup, remove_entry}
use Rattle.std.specs.BTreeMap.{insert_entry, is_at}
use Rattle.std.specs.Ordering.{is_eq, match_ordering}
use Rattle.std.specs.declared.cmp.Ordering.{Ordering}
use Rattle.std.specs.declared.cmp.Ordering.TheVariants.{Less, Equal, Greater}
use Rattle.std.proofs.lemmas.Bool.Decides.{nat_tests}
use Rattle.std.proofs.lemmas.Grind.{common_steps}
use Rattle.nv_marks.specs.declared.keeping.Kept.{Kept}
use Rattle.nv_buffer.specs.KeptMarks.{part_order, with_part}
use Rattle.nv_buffer.specs.Rooms.{held_entry, is_filled, kept_entries}
use Rattle.nv_buffer.specs.declared.edit.ChangePart.{ChangePart}

abbrev Entry : Type 0
Entry = (ℕ × ℕ) × List Kept

-- ---- the order of parts
less_less : (a b c : ℕ × ℕ) → part_order a b ≡ Less → part_order b c ≡ Less → part_order a c ≡ Less
less_less a b c first second = numbers a.0 a.1 b.0 b.1 c.0 c.1 first second
  where
    numbers : (a i b j c k : ℕ) → part_order (a, i) (b, j) ≡ Less → part_order (b, j) (c, k) ≡ Less → part_order (a, i) (c, k) ≡ Less
    numbers a i b j c k first second = grind (arith, common_steps, nat_tests)

same_part : (a b : ℕ × ℕ) → part_order a b ≡ Equal → a ≡ b
same_part a b is =
    let first : a.0 ≡ b.0 = firsts a.0 a.1 b.0 b.1 is in
    let second : a.1 ≡ b.1 = seconds a.0 a.1 b.0 b.1 is in λ i. (first i, second i)
  where
    firsts : (a i b j : ℕ) → part_order (a, i) (b, j) ≡ Equal → a ≡ b
    firsts a i b j is = grind (arith, common_steps, nat_tests)

    seconds : (a i b j : ℕ) → part_order (a, i) (b, j) ≡ Equal → i ≡ j
    seconds a i b j is = grind (arith, common_steps, nat_tests)

-- a part lies before those of all entries
abbrev IsBelow : ℕ × ℕ → List Entry → Type 0
IsBelow key es = AllByRecursion (λ k. part_order key k ≡ Less) (keys_of es)

below_more : (a b : ℕ × ℕ) (es : List Entry) → part_order a b ≡ Less → IsBelow b es → IsBelow a es
below_more a b [] less below = tt
below_more a b (e ∷ es) less below = (less_less a b e.0 less below.0, below_more a b es less below.1)

-- ---- entries that are empty are left out
pub room_left_out : (entries : List Entry) (key : ℕ × ℕ) → lookup (is_at (part_order key)) entries ≡ None
    → kept_entries (insert_entry part_order entries key []) ≡ kept_entries entries
room_left_out [] key none = refl
room_left_out (e ∷ es) key none = by_case (part_order key e.0) (room_left_out es key) none
  where
    by_case : (o : Ordering)
        → (lookup (is_at (part_order key)) es ≡ None → kept_entries (insert_entry part_order es key []) ≡ kept_entries es)
        → cond (is_eq o) (Some e.1) (lookup (is_at (part_order key)) es) ≡ None
        → kept_entries (match_ordering o ((key, []) ∷ e ∷ es) ((e.0, []) ∷ es) (e ∷ insert_entry part_order es key [])) ≡ kept_entries (e ∷ es)
    by_case Less rest none = refl
    by_case Equal rest none = absurd (let no : Some e.1 ≡ None = none in cc)
    by_case Greater rest none = ap (λ (l : List Entry). cond (is_filled e) (e ∷ l) l) (rest none)

put_first : (es : List Entry) (key : ℕ × ℕ) (ks : List Kept) → IsBelow key es → insert_entry part_order (kept_entries es) key ks ≡ (key, ks) ∷ kept_entries es
put_first [] key ks below = refl
put_first (e ∷ es) key ks below = by_case (is_filled e) (put_first es key ks below.1)
  where
    by_case : (b : Bool) → insert_entry part_order (kept_entries es) key ks ≡ (key, ks) ∷ kept_entries es
        → insert_entry part_order (cond b (e ∷ kept_entries es) (kept_entries es)) key ks ≡ (key, ks) ∷ cond b (e ∷ kept_entries es) (kept_entries es)
    by_case true rest =
        ap (λ (o : Ordering). match_ordering o ((key, ks) ∷ e ∷ kept_entries es) ((e.0, ks) ∷ kept_entries es)
        (e ∷ insert_entry part_order (kept_entries es) key ks)) below.0
    by_case false rest = rest

-- an entry put among those that have something, the first of which may be there
abbrev put_at : Entry → List Entry → ℕ × ℕ → List Kept → Bool → Ordering → List Entry
put_at e es key all b o =
    cond b (match_ordering o ((key, all) ∷ e ∷ kept_entries es) ((e.0, all) ∷ kept_entries es) (e ∷ insert_entry part_order (kept_entries es) key all))
    (insert_entry part_order (kept_entries es) key all)

-- an entry that has something is filled
some_filled : (key : ℕ × ℕ) (k : Kept) (ks : List Kept) → is_filled (key, k ∷ ks) ≡ true
some_filled key k ks = numbers (length ks)
  where
    numbers : (n : ℕ) → not (eqb (suc n) 0) ≡ true
    numbers n = grind (arith, nat_tests)

filled_first : (key : ℕ × ℕ) (k : Kept) (ks : List Kept) (es : List Entry) → kept_entries ((key, k ∷ ks) ∷ es) ≡ (key, k ∷ ks) ∷ kept_entries es
filled_first key k ks es = ap (λ (b : Bool). cond b ((key, k ∷ ks) ∷ kept_entries es) (kept_entries es)) (some_filled key k ks)

pub filled_put : (es : List Entry) (key : ℕ × ℕ) (k : Kept) (ks : List Kept) → IsStrictlySortedBy part_order (keys_of es)
    → kept_entries (insert_entry part_order es key (k ∷ ks)) ≡ insert_entry part_order (kept_entries es) key (k ∷ ks)
unfolding IsStrictlySortedBy
filled_put [] key k ks sorted = filled_first key k ks []
filled_put (e ∷ es) key k ks sorted = by_case (part_order key e.0) refl (filled_put es key k ks sorted.1)
  where
    -- into the entries that have something
    into : (o : Ordering) → part_order key e.0 ≡ o → insert_entry part_order (kept_entries (e ∷ es)) key (k ∷ ks) ≡ put_at e es key (k ∷ ks) (is_filled e) o
    into o is = by_filled (is_filled e) ∙ ap (put_at e es key (k ∷ ks) (is_filled e)) is
      where
        by_filled : (b : Bool) → insert_entry part_order (cond b (e ∷ kept_entries es) (kept_entries es)) key (k ∷ ks) ≡ put_at e es key (k ∷ ks) b (part_order key e.0)
        by_filled true = refl
        by_filled false = refl

    by_case : (o : Ordering) → part_order key e.0 ≡ o
        → kept_entries (insert_entry part_order es key (k ∷ ks)) ≡ insert_entry part_order (kept_entries es) key (k ∷ ks)
        → kept_entries (match_ordering o ((key, (k ∷ ks)) ∷ e ∷ es) ((e.0, (k ∷ ks)) ∷ es) (e ∷ insert_entry part_order es key (k ∷ ks)))
        ≡ insert_entry part_order (kept_entries (e ∷ es)) key (k ∷ ks)
    by_case Less is rest = filled_first key k ks (e ∷ es) ∙ sym (put_first (e ∷ es) key (k ∷ ks) (is, below_more key e.0 es is sorted.0))
    by_case Equal is rest =
        let same : key ≡ e.0 = same_part key e.0 is in
        let last : put_at e es key (k ∷ ks) (is_filled e) Equal ≡ (e.0, (k ∷ ks)) ∷ kept_entries es = by_filled (is_filled e) same in
        filled_first e.0 k ks es ∙ sym (into Equal is ∙ last)
      where
        by_filled : (b : Bool) → key ≡ e.0 → put_at e es key (k ∷ ks) b Equal ≡ (e.0, (k ∷ ks)) ∷ kept_entries es
        by_filled true same = refl
        by_filled false same =
            ap (λ (p : ℕ × ℕ). insert_entry part_order (kept_entries es) p (k ∷ ks)) same ∙ put_first es e.0 (k ∷ ks) sorted.0
    by_case Greater is rest =
        ap (λ (l : List Entry). cond (is_filled e) (e ∷ l) l) rest
        ∙ by_filled (is_filled e) ∙ sym (into Greater is)
      where
        by_filled : (b : Bool)
            → cond b (e ∷ insert_entry part_order (kept_entries es) key (k ∷ ks)) (insert_entry part_order (kept_entries es) key (k ∷ ks)) ≡ put_at e es key (k ∷ ks) b Greater
        by_filled true = refl
        by_filled false = refl

-- ---- what isn't there isn't found, and not removed
not_at : (key : ℕ × ℕ) (e : Entry) → part_order key e.0 ≡ Less → is_at (part_order key) e.0 ≡ false
not_at key e less = ap is_eq less

none_found : (es : List Entry) (key : ℕ × ℕ) → IsBelow key es → lookup (is_at (part_order key)) (kept_entries es) ≡ None
none_found [] key below = refl
none_found (e ∷ es) key below = by_case (is_filled e) (none_found es key below.1)
  where
    by_case : (b : Bool) → lookup (is_at (part_order key)) (kept_entries es) ≡ None
        → lookup (is_at (part_order key)) (cond b (e ∷ kept_entries es) (kept_entries es)) ≡ None
    by_case true rest =
        ap (λ (t : Bool). cond t (Some e.1) (lookup (is_at (part_order key)) (kept_entries es))) (not_at key e below.0) ∙ rest
    by_case false rest = rest

none_left_out : (es : List Entry) (key : ℕ × ℕ) → IsBelow key es → filter (λ e. not (is_at (part_order key) e.0)) es ≡ es
none_left_out [] key below = refl
none_left_out (e ∷ es) key below =
    ap (λ (t : Bool). cond (not t) (e ∷ filter (λ e. not (is_at (part_order key) e.0)) es) (filter (λ e. not (is_at (part_order key) e.0)) es)) (not_at key e below.0)
    ∙ ap (λ (l : List Entry). e ∷ l) (none_left_out es key below.1)

at_part : (key : ℕ × ℕ) (e : Entry) → is_at (part_order key) e.0 ≡ true → key ≡ e.0
at_part key e is = same_part key e.0 (by_case (part_order key e.0) is)
  where
    by_case : (o : Ordering) → is_eq o ≡ true → o ≡ Equal
    by_case Less is = cc
    by_case Equal is = refl
    by_case Greater is = cc

below_same : (key : ℕ × ℕ) (e : Entry) (es : List Entry) → key ≡ e.0 → IsBelow e.0 es → IsBelow key es
below_same key e es same below = subst (λ (k : ℕ × ℕ). IsBelow k es) (sym same) below

-- removing one leaves out all of its part, since there is one at most
removed_left_out : (es : List Entry) (key : ℕ × ℕ) → IsStrictlySortedBy part_order (keys_of es)
    → remove_entry (is_at (part_order key)) es ≡ filter (λ e. not (is_at (part_order key) e.0)) es
unfolding IsStrictlySortedBy
removed_left_out [] key sorted = refl
removed_left_out (e ∷ es) key sorted = by_case (is_at (part_order key) e.0) refl (removed_left_out es key sorted.1)
  where
    by_case : (t : Bool) → is_at (part_order key) e.0 ≡ t
        → remove_entry (is_at (part_order key)) es ≡ filter (λ e. not (is_at (part_order key) e.0)) es
        → cond t es (e ∷ remove_entry (is_at (part_order key)) es)
        ≡ cond (not t) (e ∷ filter (λ e. not (is_at (part_order key) e.0)) es) (filter (λ e. not (is_at (part_order key) e.0)) es)
    by_case true is rest = sym (none_left_out es key (below_same key e es (at_part key e is) sorted.0))
    by_case false is rest = ap (λ (l : List Entry). e ∷ l) rest

filters-swap : (p q : Entry → Bool) (es : List Entry) → filter p (filter q es) ≡ filter q (filter p es)
filters-swap p q [] = refl
filters-swap p q (e ∷ es) = by_case (filters-swap p q es) (p e) refl (q e) refl
  where
    by_case : filter p (filter q es) ≡ filter q (filter p es) → (a : Bool) → p e ≡ a → (b : Bool) → q e ≡ b
        → filter p (cond b (e ∷ filter q es) (filter q es)) ≡ filter q (cond a (e ∷ filter p es) (filter p es))
    by_case rest true by_p true by_q = rw (by_p, by_q) (ap (λ (l : List Entry). e ∷ l) rest)
    by_case rest true by_p false by_q = rw by_q rest
    by_case rest false by_p true by_q = rw by_p rest
    by_case rest false by_p false by_q = rest

pub filled_removed : (es : List Entry) (key : ℕ × ℕ) → IsStrictlySortedBy part_order (keys_of es)
    → kept_entries (remove_entry (is_at (part_order key)) es) ≡ filter (λ e. not (is_at (part_order key) e.0)) (kept_entries es)
filled_removed es key sorted =
    ap kept_entries (removed_left_out es key sorted) ∙ filters-swap is_filled (λ e. not (is_at (part_order key) e.0)) es

nothing_in : (ks : List Kept) → not (eqb (length ks) 0) ≡ false → ks ≡ []
nothing_in [] is = refl
nothing_in (k ∷ ks) is = absurd (true≢false (sym (numbers (length ks)) ∙ is))
  where
    numbers : (n : ℕ) → not (eqb (suc n) 0) ≡ true
    numbers n = grind (arith, nat_tests)

pub filled_found : (es : List Entry) (key : ℕ × ℕ) → IsStrictlySortedBy part_order (keys_of es)
    → unwrap_or (lookup (is_at (part_order key)) es) [] ≡ unwrap_or (lookup (is_at (part_order key)) (kept_entries es)) []
unfolding IsStrictlySortedBy
filled_found [] key sorted = refl
filled_found (e ∷ es) key sorted = by_case (is_at (part_order key) e.0) refl (filled_found es key sorted.1)
  where
    by_case : (t : Bool) → is_at (part_order key) e.0 ≡ t
        → unwrap_or (lookup (is_at (part_order key)) es) [] ≡ unwrap_or (lookup (is_at (part_order key)) (kept_entries es)) []
        → unwrap_or (cond t (Some e.1) (lookup (is_at (part_order key)) es)) []
        ≡ unwrap_or (lookup (is_at (part_order key)) (cond (is_filled e) (e ∷ kept_entries es) (kept_entries es))) []
    by_case true is rest = by_filled (is_filled e) refl
      where
        by_filled : (b : Bool) → is_filled e ≡ b
            → e.1 ≡ unwrap_or (lookup (is_at (part_order key)) (cond b (e ∷ kept_entries es) (kept_entries es))) []
        by_filled true full = sym (ap (λ (t : Bool). unwrap_or (cond t (Some e.1) (lookup (is_at (part_order key)) (kept_entries es))) []) is)
        by_filled false empty =
            nothing_in e.1 empty
            ∙ sym (ap (λ (o : Option (List Kept)). unwrap_or o []) (none_found es key (below_same key e es (at_part key e is) sorted.0)))
    by_case false is rest = by_filled (is_filled e)
      where
        by_filled : (b : Bool)
            → unwrap_or (lookup (is_at (part_order key)) es) []
            ≡ unwrap_or (lookup (is_at (part_order key)) (cond b (e ∷ kept_entries es) (kept_entries es))) []
        by_filled true =
            rest
            ∙ sym (ap (λ (t : Bool). unwrap_or (cond t (Some e.1) (lookup (is_at (part_order key)) (kept_entries es))) []) is)
        by_filled false = rest

-- ---- entries of vectors, as they are seen
pub keys_held : {A : Type 0} (es : List ((ℕ × ℕ) × Vec Kept A)) → keys_of (map held_entry es) ≡ keys_of es
keys_held [] = refl
keys_held (e ∷ es) = ap (λ (ks : List (ℕ × ℕ)). e.0 ∷ ks) (keys_held es)

pub put_held : {A : Type 0} (es : List ((ℕ × ℕ) × Vec Kept A)) (key : ℕ × ℕ) (v : Vec Kept A)
    → map held_entry (insert_entry part_order es key v) ≡ insert_entry part_order (map held_entry es) key v.items
put_held [] key v = refl
put_held (e ∷ es) key v = by_case (part_order key e.0) (put_held es key v)
  where
    by_case : (o : Ordering) → map held_entry (insert_entry part_order es key v) ≡ insert_entry part_order (map held_entry es) key v.items
        → map held_entry (match_ordering o ((key, v) ∷ e ∷ es) ((e.0, v) ∷ es) (e ∷ insert_entry part_order es key v))
        ≡ match_ordering o ((key, v.items) ∷ held_entry e ∷ map held_entry es) ((e.0, v.items) ∷ map held_entry es)
        (held_entry e ∷ insert_entry part_order (map held_entry es) key v.items)
    by_case Less rest = refl
    by_case Equal rest = refl
    by_case Greater rest = ap (λ (l : List Entry). held_entry e ∷ l) rest

pub removed_held : {A : Type 0} (es : List ((ℕ × ℕ) × Vec Kept A)) (key : ℕ × ℕ)
    → map held_entry (remove_entry (is_at (part_order key)) es) ≡ remove_entry (is_at (part_order key)) (map held_entry es)
removed_held [] key = refl
removed_held (e ∷ es) key = by_case (is_at (part_order key) e.0) (removed_held es key)
  where
    by_case : (t : Bool) → map held_entry (remove_entry (is_at (part_order key)) es) ≡ remove_entry (is_at (part_order key)) (map held_entry es)
        → map held_entry (cond t es (e ∷ remove_entry (is_at (part_order key)) es))
        ≡ cond t (map held_entry es) (held_entry e ∷ remove_entry (is_at (part_order key)) (map held_entry es))
    by_case true rest = refl
    by_case false rest = ap (λ (l : List Entry). held_entry e ∷ l) rest

pub found_held : {A : Type 0} (es : List ((ℕ × ℕ) × Vec Kept A)) (key : ℕ × ℕ)
    → option_map (λ v. v.items) (lookup (is_at (part_order key)) es) ≡ lookup (is_at (part_order key)) (map held_entry es)
found_held [] key = refl
found_held (e ∷ es) key = by_case (is_at (part_order key) e.0) (found_held es key)
  where
    by_case : (t : Bool) → option_map (λ v. v.items) (lookup (is_at (part_order key)) es) ≡ lookup (is_at (part_order key)) (map held_entry es)
        → option_map (λ v. v.items) (cond t (Some e.1) (lookup (is_at (part_order key)) es))
        ≡ cond t (Some e.1.items) (lookup (is_at (part_order key)) (map held_entry es))
    by_case true rest = refl
    by_case false rest = rest

-- what is put in the place of what was there
pub put_filled : (es : List Entry) (part : ChangePart) (ks : List Kept) → 0 < length ks → IsStrictlySortedBy part_order (keys_of es)
    → kept_entries (insert_entry part_order es (part.change, part.part) ks) ≡ with_part part ks (kept_entries es)
put_filled es part [] some sorted = absurd (omega arith)
put_filled es part (k ∷ ks) some sorted = filled_put es (part.change, part.part) k ks sorted

-- ---- where there are no entries
pub nothing_kept : {A : Type 0} (es : List ((ℕ × ℕ) × Vec Kept A)) (part : ChangePart) → length es ≡ 0
    → [] ≡ unwrap_or (lookup (is_at (part_order (part.change, part.part))) (kept_entries (map held_entry es))) []
nothing_kept [] part none = refl
nothing_kept (e ∷ es) part none = absurd (omega (arith, none))

pub nothing_left : {A : Type 0} (es : List ((ℕ × ℕ) × Vec Kept A)) (part : ChangePart) → length es ≡ 0
    → kept_entries (map held_entry es) ≡ with_part part [] (kept_entries (map held_entry es))
nothing_left [] part none = refl
nothing_left (e ∷ es) part none = absurd (omega (arith, none))

-- ---- what calls do with the entries
module _ {A : Type 0} (es : List ((ℕ × ℕ) × Vec Kept A)) (key : ℕ × ℕ) where
  pub there_held : is_some (lookup (is_at (part_order key)) (map held_entry es)) ≡ is_some (lookup (is_at (part_order key)) es)
  there_held = ap is_some (sym (found_held es key)) ∙ by_case (lookup (is_at (part_order key)) es)
    where
      by_case : (o : Option (Vec Kept A)) → is_some (option_map (λ v. v.items) o) ≡ is_some o
      by_case None = refl
      by_case (Some v) = refl

  pub room_made : (fs : List ((ℕ × ℕ) × Vec Kept A)) (v : Vec Kept A) → v.items ≡ []
      → is_some (lookup (is_at (part_order key)) es) ≡ false → fs ≡ insert_entry part_order es key v
      → kept_entries (map held_entry fs) ≡ kept_entries (map held_entry es)
  room_made fs v empty none are =
      ap (λ (l : List ((ℕ × ℕ) × Vec Kept A)). kept_entries (map held_entry l)) are
      ∙ ap kept_entries (put_held es key v)
      ∙ ap (λ (ks : List Kept). kept_entries (insert_entry part_order (map held_entry es) key ks)) empty
      ∙ room_left_out (map held_entry es) key (nothing_there (lookup (is_at (part_order key)) (map held_entry es)) (there_held ∙ none))
    where
      nothing_there : (o : Option (List Kept)) → is_some o ≡ false → o ≡ None
      nothing_there None is = refl
      nothing_there (Some ks) is = cc

  pub was_held : (o : Option (Vec Kept A)) (v : Vec Kept A) → o ≡ lookup (is_at (part_order key)) es → v.items ≡ []
      → IsStrictlySortedBy part_order (keys_of es)
      → (unwrap_or o v).items ≡ unwrap_or (lookup (is_at (part_order key)) (kept_entries (map held_entry es))) []
  was_held o v is empty sorted =
      by_case o
      ∙ ap (λ (q : Option (Vec Kept A)). unwrap_or (option_map (λ w. w.items) q) []) is
      ∙ ap (λ (q : Option (List Kept)). unwrap_or q []) (found_held es key)
      ∙ filled_found (map held_entry es) key (subst (IsStrictlySortedBy part_order) (sym (keys_held es)) sorted)
    where
      by_case : (q : Option (Vec Kept A)) → (unwrap_or q v).items ≡ unwrap_or (option_map (λ w. w.items) q) []
      by_case None = empty
      by_case (Some w) = refl

  pub left_held : (fs : List ((ℕ × ℕ) × Vec Kept A)) → fs ≡ remove_entry (is_at (part_order key)) es
      → IsStrictlySortedBy part_order (keys_of es)
      → kept_entries (map held_entry fs) ≡ filter (λ e. not (is_at (part_order key) e.0)) (kept_entries (map held_entry es))
  left_held fs are sorted =
      ap (λ (l : List ((ℕ × ℕ) × Vec Kept A)). kept_entries (map held_entry l)) are
      ∙ ap kept_entries (removed_held es key)
      ∙ filled_removed (map held_entry es) key (subst (IsStrictlySortedBy part_order) (sym (keys_held es)) sorted)

  pub put_there : (fs : List ((ℕ × ℕ) × Vec Kept A)) (part : ChangePart) (v : Vec Kept A) → (part.change, part.part) ≡ key
      → 0 < length v.items → fs ≡ insert_entry part_order es key v → IsStrictlySortedBy part_order (keys_of es)
      → kept_entries (map held_entry fs) ≡ with_part part v.items (kept_entries (map held_entry es))
  put_there fs part v is some are sorted =
      ap (λ (l : List ((ℕ × ℕ) × Vec Kept A)). kept_entries (map held_entry l)) are
      ∙ ap kept_entries (put_held es key v)
      ∙ ap (λ (k : ℕ × ℕ). kept_entries (insert_entry part_order (map held_entry es) k v.items)) (sym is)
      ∙ put_filled (map held_entry es) part v.items some (subst (IsStrictlySortedBy part_order) (sym (keys_held es)) sorted)
