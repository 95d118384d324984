-- The list of kept keys, and what is kept under them.
use Rattle.std.proofs.Common.{◌≡◌, ◌≤◌, ◌<◌, ◌-◌, ◌/◌, min, ℕ, zero, suc, Bool, true, false, cond, ◌||◌, nat_le, List, [], ◌∷◌, get_or, length, take, Some, None, refl, sym, ap, subst, ◌∙◌, arith, is_some}
use Rattle.std.proofs.lemmas.Bool.{false≢true}
use Rattle.std.proofs.lemmas.Bool.Decides.{nat_tests}
use Rattle.std.proofs.lemmas.List.{length-take, take_all}
use Rattle.std.proofs.lemmas.Option.{get_or_from_slice_get}
use Rattle.std.specs.List.{AllByRecursion, list_any, slice_get}
use Rattle.std.specs.Map.{keys_of, lookup, lookup_entry, remove_entry}
use Rattle.std.specs.Option.{option_map_or, unwrap_or}
use Rattle.lru.specs.LruCache.{LruCache, lru_cache, promoted, put_entries}
use Rattle.nv_hl.specs.declared.cell.Cell.{Cell}
use Rattle.nv_linedraw.specs.declared.looks.Looks.{Looks}
use Rattle.nv_screen.specs.declared.scene.Pane.{Pane}
use Rattle.nv_screen.specs.declared.scene.SceneLine.{SceneLine}
use Rattle.nv_screen.specs.Drawing.{pane_cells}
use Rattle.nv_screen.specs.Sound.{IsDrawable}
use Rattle.nv_screen.proofs.TextLemmas.{rows_counted}
use Rattle.nv_painter.specs.Keys.{LineKey, cells_of_key, key_in_front, keys_with_line, keys_without, most_cells, most_keys, same_line_key}
use Rattle.nv_painter.specs.Pictures.{rows_in_pane}
use Rattle.nv_painter.specs.inside.Kept.{AreKept, IsAbsent, IsEntry, IsThere}
use Rattle.nv_painter.specs.inside.SameKeys.{key_is}

abbrev Entry : Type 0
Entry = LineKey × List Cell

-- ---- a key that is there

record Found (key : LineKey) (es : List Entry) : Type 0 where
  entry : Entry
  is : lookup_entry (same_line_key key) es ≡ Some entry
  value : lookup (same_line_key key) es ≡ Some entry.1
  key_is : entry.0 ≡ key
  keys : keys_of (remove_entry (same_line_key key) es) ≡ keys_without key (keys_of es)
  count : suc (length (remove_entry (same_line_key key) es)) ≡ length es
  holds : AllByRecursion IsEntry es → IsEntry entry
  others : AllByRecursion IsEntry es → AllByRecursion IsEntry (remove_entry (same_line_key key) es)

found : (key : LineKey) (es : List Entry) → is_some (lookup (same_line_key key) es) ≡ true → Found key es
found key [] h = absurd (false≢true h)
found key (e ∷ es) h = by (same_line_key key e.0) refl h (found key es)
  where
    by : (b : Bool) → same_line_key key e.0 ≡ b → is_some (cond b (Some e.1) (lookup (same_line_key key) es)) ≡ true
        → (is_some (lookup (same_line_key key) es) ≡ true → Found key es) → Found key (e ∷ es)
    by true t k more = record {
      entry = e;
      is = ap (λ b. cond b (Some e) (lookup_entry (same_line_key key) es)) t;
      value = ap (λ b. cond b (Some e.1) (lookup (same_line_key key) es)) t;
      key_is = sym (key_is key e.0 t);
      keys = ap (λ b. keys_of (cond b es (e ∷ remove_entry (same_line_key key) es))) t
          ∙ sym (ap (λ b. cond b (keys_of es) (e.0 ∷ keys_without key (keys_of es))) t);
      count = ap (λ b. suc (length (cond b es (e ∷ remove_entry (same_line_key key) es)))) t;
      holds = λ all. all.0;
      others = λ all. subst (λ b. AllByRecursion IsEntry (cond b es (e ∷ remove_entry (same_line_key key) es))) (sym t) all.1;
    }
    by false t k more =
        let f = more k in record {
          entry = f.entry;
          is = ap (λ b. cond b (Some e) (lookup_entry (same_line_key key) es)) t ∙ f.is;
          value = ap (λ b. cond b (Some e.1) (lookup (same_line_key key) es)) t ∙ f.value;
          key_is = f.key_is;
          keys = ap (λ b. keys_of (cond b es (e ∷ remove_entry (same_line_key key) es))) t
              ∙ ap (λ ks. e.0 ∷ ks) f.keys
              ∙ sym (ap (λ b. cond b (keys_of es) (e.0 ∷ keys_without key (keys_of es))) t);
          count = ap (λ b. suc (length (cond b es (e ∷ remove_entry (same_line_key key) es)))) t ∙ ap suc f.count;
          holds = λ all. f.holds all.1;
          others = λ all.
              subst (λ b. AllByRecursion IsEntry (cond b es (e ∷ remove_entry (same_line_key key) es))) (sym t) (all.0, f.others all.1);
        }

length-keys_of : (es : List Entry) → length (keys_of es) ≡ length es
length-keys_of [] = refl
length-keys_of (e ∷ es) = ap suc (length-keys_of es)

-- ---- looking a key up

pub has_key : (key : LineKey) (es : List Entry) → list_any (same_line_key key) (keys_of es) ≡ is_some (lookup (same_line_key key) es)
has_key key [] = refl
has_key key (e ∷ es) = by (same_line_key key e.0) (has_key key es)
  where
    by : (b : Bool) → list_any (same_line_key key) (keys_of es) ≡ is_some (lookup (same_line_key key) es)
        → (b || (list_any (same_line_key key) (keys_of es))) ≡ is_some (cond b (Some e.1) (lookup (same_line_key key) es))
    by true more = refl
    by false more = more

-- what is there after a key was found: it stands first
pub record Promoted (key : LineKey) (c d : LruCache LineKey (List Cell)) : Type 0 where
  pub keys : keys_of d.entries ≡ keys_with_line key (keys_of c.entries)
  pub kept : AreKept d
  pub cells : List Cell
  pub rest : List Entry
  pub first : d.entries ≡ (key, cells) ∷ rest
  pub cells_are : cells ≡ cells_of_key key

pub promoting : (key : LineKey) (c d : LruCache LineKey (List Cell)) → AreKept c
    → IsThere key c → d ≡ lru_cache (promoted (same_line_key key) c.entries) c.cap → Promoted key c d
promoting key c d kept there is =
    let es = c.entries in
    let f = found key es (sym (has_key key es) ∙ there) in
    let rest = remove_entry (same_line_key key) es in
    let entries : d.entries ≡ f.entry ∷ rest =
    ap (λ x. x.entries) is ∙ ap (λ o. option_map_or (λ e. e ∷ rest) o es) f.is in
    let holds = f.holds kept.entries in
    let first : f.entry ∷ rest ≡ (key, f.entry.1) ∷ rest = ap (λ k. (k, f.entry.1) ∷ rest) f.key_is in
    let few : nat_le (length (cells_of_key key)) most_cells ≡ true =
    (let small : length (cells_of_key key) ≤ most_cells =
    omega (arith, holds.count, ap length holds.cells, ap (λ k. length (cells_of_key k)) f.key_is) in grind (arith, nat_tests)) in
    let count : length (key ∷ keys_without key (keys_of es)) ≤ most_keys =
    omega (arith, kept.count, f.count, length-keys_of rest, ap length f.keys) in record {
      keys = ap keys_of entries ∙ (λ i. f.key_is i ∷ f.keys i)
          ∙ sym (take_all most_keys (key ∷ keys_without key (keys_of es)) count)
          ∙ sym (ap (λ b. cond b (key_in_front key (keys_of es)) (keys_of es)) few);
      kept = record {
        entries = subst (AllByRecursion IsEntry) (sym entries) (holds, f.others kept.entries);
        count = omega (arith, ap length entries, f.count, kept.count);
        cap = ap (λ x. x.cap) is ∙ kept.cap;
      };
      cells = f.entry.1;
      rest = rest;
      first = entries ∙ first;
      cells_are = holds.cells ∙ ap cells_of_key f.key_is;
    }

-- ---- a key that isn't there

keys_as_before : (key : LineKey) (es : List Entry) → is_some (lookup (same_line_key key) es) ≡ false
    → (keys_without key (keys_of es) ≡ keys_of es) × (lookup_entry (same_line_key key) es ≡ None)
keys_as_before key [] h = (refl, refl)
keys_as_before key (e ∷ es) h = by (same_line_key key e.0) refl h (keys_as_before key es)
  where
    by : (b : Bool) → same_line_key key e.0 ≡ b → is_some (cond b (Some e.1) (lookup (same_line_key key) es)) ≡ false
        → (is_some (lookup (same_line_key key) es) ≡ false → (keys_without key (keys_of es) ≡ keys_of es) × (lookup_entry (same_line_key key) es ≡ None))
        → (keys_without key (keys_of (e ∷ es)) ≡ keys_of (e ∷ es)) × (lookup_entry (same_line_key key) (e ∷ es) ≡ None)
    by true t k more = absurd (false≢true (sym k))
    by false t k more =
        let m = more k in (
          ap (λ b. cond b (keys_of es) (e.0 ∷ keys_without key (keys_of es))) t ∙ ap (λ ks. e.0 ∷ ks) m.0,
          ap (λ b. cond b (Some e) (lookup_entry (same_line_key key) es)) t ∙ m.1,
        )

keys_of-take : (n : ℕ) (es : List Entry) → keys_of (take n es) ≡ take n (keys_of es)
keys_of-take zero es = refl
keys_of-take (suc n) [] = refl
keys_of-take (suc n) (e ∷ es) = ap (λ ks. e.0 ∷ ks) (keys_of-take n es)

all_front : (n : ℕ) (es : List Entry) → AllByRecursion IsEntry es → AllByRecursion IsEntry (take n es)
all_front zero es all = tt
all_front (suc n) [] all = tt
all_front (suc n) (e ∷ es) all = (all.0, all_front n es all.1)

length-front : (n : ℕ) (es : List Entry) → length (take n es) ≤ n
length-front zero es = omega arith
length-front (suc n) [] = omega arith
length-front (suc n) (e ∷ es) = omega (arith, length-front n es)

-- what was used last then
pub first_cells_are : (key : LineKey) (c d : LruCache LineKey (List Cell)) (e : Entry) → Promoted key c d → slice_get d.entries 0 ≡ Some e
    → e.1 ≡ cells_of_key key
first_cells_are key c d e m is =
    ap (λ (p : Entry). p.1) (sym (get_or_from_slice_get d.entries 0 e e is) ∙ ap (λ (es : List Entry). get_or es 0 e) m.first) ∙ m.cells_are

pub there_is_first : (key : LineKey) (c d : LruCache LineKey (List Cell)) → Promoted key c d → slice_get d.entries 0 ≡ None → ⊥
there_is_first key c d m none =
    false≢true (sym (ap is_some none) ∙ ap (λ (es : List Entry). is_some (slice_get es 0)) m.first)

-- where there is none, all stays as it is
pub not_promoted : (key : LineKey) (c d : LruCache LineKey (List Cell)) → is_some (lookup (same_line_key key) c.entries) ≡ false
    → d ≡ lru_cache (promoted (same_line_key key) c.entries) c.cap → d ≡ c
not_promoted key c d absent is =
    is ∙ ap (λ o. lru_cache (option_map_or (λ e. e ∷ remove_entry (same_line_key key) c.entries) o c.entries) c.cap) (keys_as_before key c.entries absent).1

-- what is there after a key was put with its cells
pub record Put (key : LineKey) (c d : LruCache LineKey (List Cell)) : Type 0 where
  pub keys : keys_of d.entries ≡ keys_with_line key (keys_of c.entries)
  pub kept : AreKept d

pub putting : (key : LineKey) (cells : List Cell) (c d : LruCache LineKey (List Cell)) → AreKept c
    → IsAbsent key c → cells ≡ cells_of_key key → length cells ≤ most_cells
    → d ≡ lru_cache (put_entries same_line_key c key cells) c.cap → Put key c d
putting key cells c d kept absent cells_are small is =
    let es = c.entries in
    let none = keys_as_before key es (sym (has_key key es) ∙ absent) in
    let entries : d.entries ≡ (key, cells) ∷ take (c.cap - 1) es =
    ap (λ x. x.entries) is
    ∙ ap (λ o. option_map_or (λ e. (e.0, cells) ∷ remove_entry (same_line_key key) es) o ((key, cells) ∷ take (c.cap - 1) es)) none.1 in
    let few : nat_le (length (cells_of_key key)) most_cells ≡ true =
    (let le : length (cells_of_key key) ≤ most_cells = omega (arith, small, ap length cells_are) in grind (arith, nat_tests)) in
    let front : d.entries ≡ (key, cells) ∷ take 1023 es = entries ∙ ap (λ n. (key, cells) ∷ take (n - 1) es) kept.cap in record {
      keys = ap keys_of front ∙ ap (λ ks. key ∷ ks) (keys_of-take 1023 es ∙ ap (take 1023) (sym none.0))
          ∙ sym (ap (λ b. cond b (key_in_front key (keys_of es)) (keys_of es)) few);
      kept = record {
        entries = subst (AllByRecursion IsEntry) (sym front) (record { cells = cells_are; count = small }, all_front 1023 es kept.entries);
        count = omega (arith, ap length front, length-front 1023 es);
        cap = ap (λ x. x.cap) is ∙ kept.cap;
      };
    }

-- the rows of a line by its cells
pub rows_by_cells : (p : Pane) (looks : Looks) (line : SceneLine) (count : ℕ) → IsDrawable p → count ≡ length (pane_cells p looks line)
    → min p.rect.height (count / p.rect.width) ≡ rows_in_pane p line
rows_by_cells p looks line count d is =
    ap (λ n. min p.rect.height (n / p.rect.width)) is
    ∙ ap (min p.rect.height) (rows_counted p.rect.width p.tabstop looks line d.0 d.1)

-- more cells than may be kept are among those of the line
pub many_cells : (cells all : List Cell) → cells ≡ take 2001 all → most_cells < length cells → most_cells < length all
many_cells cells all is many = omega (arith, ap length is, length-take 2001 all, many)

-- a line with too many cells leaves the keys
pub too_many : (key : LineKey) (keys : List LineKey) → most_cells < length (cells_of_key key) → keys ≡ keys_with_line key keys
too_many key keys many =
    let no : nat_le (length (cells_of_key key)) most_cells ≡ false = grind (arith, nat_tests) in
    sym (ap (λ b. cond b (key_in_front key keys) keys) no)

pub found_cells : (key : LineKey) (es : List Entry) (cells : List Cell) → AllByRecursion IsEntry es
    → lookup (same_line_key key) es ≡ Some cells → cells ≡ cells_of_key key
found_cells key es cells all is =
    let f = found key es (ap is_some is) in
    let same : f.entry.1 ≡ cells = ap (λ o. unwrap_or o cells) (sym f.value ∙ is) in
    sym same ∙ (f.holds all).cells ∙ ap cells_of_key f.key_is
