-- Tabpages in their order, as they are kept and without capacities.
use Rattle.std.proofs.Common.{◌≡◌, ℕ, zero, suc, ℤ, ◌+◌, ◌-◌, ◌<◌, Bool, true, false, not, cond, List, [], ◌∷◌, length, map, get_or, drop, take, Option, Some, None, refl, ap, sym, ◌∙◌, arith}
use Rattle.std.specs.Prelude.{pos, find, position, option_map, min, unwrap_or, if◌then◌else◌, insert}
use Rattle.std.specs.Ordering.{int_eq}
use Rattle.std.specs.List.{position_or_len}
use Rattle.std.proofs.lemmas.List.{get_or-map, length-map}
use Rattle.std.proofs.lemmas.List.Quantifiers.{position-Some}
use Rattle.nv_windows.specs.Workspace.{Page, page_of}
use Rattle.nv_windows.specs.Operations.{handle_at, place_among, put_behind, neighbour, last_or}
use Rattle.nv_windows.specs.Pages.{pages_of}
use Rattle.nv_windows.specs.declared.window.Tabpage.{Tabpage}
use Rattle.nv_windows.proofs.Lists.{find-map, find_by_position, find_nowhere, position-map, take_while_until, place_or_len, prefix_most, last_taken}

pub page_found : (p : Page → Bool) (ts : List Tabpage) (i : ℕ) (d : Tabpage) → position (λ t. p (page_of t)) ts ≡ Some i → find p (pages_of ts) ≡ Some (page_of (get_or ts i d))
page_found p ts i d e = find-map p page_of ts ∙ ap (option_map page_of) (find_by_position (λ t. p (page_of t)) ts i d e)

pub page_missing : (p : Page → Bool) (ts : List Tabpage) → position (λ t. p (page_of t)) ts ≡ None → find p (pages_of ts) ≡ None
page_missing p ts e = find-map p page_of ts ∙ ap (option_map page_of) (find_nowhere (λ t. p (page_of t)) ts e)

pub handle_there : (ts : List Tabpage) (place m : ℕ) (t : Tabpage) → m ≡ min place (length ts - 1) → m < length ts → t ≡ get_or ts m t
    → t.handle ≡ handle_at place (pages_of ts)
handle_there ts place m t m_is h is =
    ap (λ (u : Tabpage). u.handle) is
    ∙ sym (get_or-map (λ (p : Page). p.handle) (pages_of ts) m (page_of t) (pos 0) (omega (arith, length-map ts page_of)) ∙ ap (λ (p : Page). p.handle) (get_or-map page_of ts m t (page_of t) h))
    ∙ ap (λ n. get_or (map (λ (p : Page). p.handle) (pages_of ts)) n (pos 0)) (m_is ∙ ap (λ n. min place (n - 1)) (sym (length-map ts page_of)))

pub stands_before : (ts : List Tabpage) (n : ℤ) (o : Option ℕ) → o ≡ position (λ (t : Tabpage). int_eq t.handle n) ts
    → unwrap_or o (length ts) ≡ place_among n (pages_of ts)
stands_before ts n o e =
    ap (unwrap_or o) (sym (length-map ts page_of))
    ∙ place_or_len (λ (p : Page). int_eq p.handle n) (pages_of ts) o (e ∙ sym (position-map (λ (p : Page). int_eq p.handle n) page_of ts))
    ∙ sym (take_while_until (λ (p : Page). int_eq p.handle n) (pages_of ts))

-- a tabpage put behind another
behind_there : (n : ℤ) (new : Page) (ps : List Page) (i : ℕ) (d : Page) → i < length ps → int_eq (get_or ps i d).handle n ≡ true
    → ((k : ℕ) → k < i → int_eq (get_or ps k d).handle n ≡ false) → put_behind n new ps ≡ insert ps (suc i) new
behind_there n new [] i d h e before = absurd (omega arith)
behind_there n new (p ∷ ps) zero d h e before = rw e refl
behind_there n new (p ∷ ps) (suc i) d h e before =
    let other : int_eq p.handle n ≡ false = before 0 (omega arith) in
    rw other (ap (λ l. p ∷ l) (behind_there n new ps i d (omega arith) e (λ k lt. before (suc k) (omega arith))))

behind_all : (n : ℤ) (new : Page) (ps : List Page) → find (λ (p : Page). int_eq p.handle n) ps ≡ None → put_behind n new ps ≡ insert ps (length ps) new
behind_all n new [] e = refl
behind_all n new (p ∷ ps) e = by_case (behind_all n new ps) (int_eq p.handle n) e
  where
    by_case : (find (λ (q : Page). int_eq q.handle n) ps ≡ None → put_behind n new ps ≡ insert ps (length ps) new) → (b : Bool)
        → cond b (Some p) (find (λ (q : Page). int_eq q.handle n) ps) ≡ None
        → (if b then p ∷ new ∷ ps else p ∷ put_behind n new ps) ≡ insert (p ∷ ps) (suc (length ps)) new
    by_case rest true e = cc
    by_case rest false e = ap (λ l. p ∷ l) (rest e)

map_inserted : (ts : List Tabpage) (i : ℕ) (new : Tabpage) → pages_of (insert ts i new) ≡ insert (pages_of ts) i (page_of new)
map_inserted ts zero new = refl
map_inserted [] (suc i) new = refl
map_inserted (t ∷ ts) (suc i) new = ap (λ l. page_of t ∷ l) (map_inserted ts i new)

pub put_there : (ts : List Tabpage) (n : ℤ) (i : ℕ) (new : Tabpage) → position (λ (t : Tabpage). int_eq t.handle n) ts ≡ Some i
    → pages_of (insert ts (i + 1) new) ≡ put_behind n (page_of new) (pages_of ts)
put_there ts n i new e =
    let first = position-Some (λ (p : Page). int_eq p.handle n) (pages_of ts) i (page_of new) (position-map (λ (p : Page). int_eq p.handle n) page_of ts ∙ e) in
    let more : i + 1 ≡ suc i = omega arith in
    ap (λ k. pages_of (insert ts k new)) more ∙ map_inserted ts (suc i) new ∙ sym (behind_there n (page_of new) (pages_of ts) i (page_of new) first.0 first.1 first.2)

pub put_last : (ts : List Tabpage) (n : ℤ) (new : Tabpage) → position (λ (t : Tabpage). int_eq t.handle n) ts ≡ None
    → pages_of (insert ts (length ts) new) ≡ put_behind n (page_of new) (pages_of ts)
put_last ts n new e =
    map_inserted ts (length ts) new ∙ ap (λ k. insert (pages_of ts) k (page_of new)) (sym (length-map ts page_of))
    ∙ sym (behind_all n (page_of new) (pages_of ts) (page_missing (λ (p : Page). int_eq p.handle n) ts e))

-- the handle in front
pub in_front : (ks : List ℤ) (w : ℤ) (o : Option ℕ) (n : ℕ) (d : ℤ) → o ≡ position (λ k. int_eq k w) ks
    → n ≡ unwrap_or o (length ks) → 0 < n → get_or ks (n - 1) d ≡ neighbour w ks
in_front ks w o n d e n_is h =
    let is : n ≡ position_or_len (λ k. int_eq k w) ks = n_is ∙ place_or_len (λ k. int_eq k w) ks o e in
    let more : suc (n - 1) ≡ n = omega arith in
    sym (last_taken (get_or (drop 1 ks) 0 w) ks (n - 1) d (omega (arith, is, prefix_most (λ k. not (int_eq k w)) ks))) ∙ ap (λ k. last_or (get_or (drop 1 ks) 0 w) (take k ks)) (more ∙ is)
