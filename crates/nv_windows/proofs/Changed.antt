-- What one tabpage changed, put in, or taken out makes of all.
use Rattle.std.proofs.Common.{◌≡◌, ℕ, ℤ, ◌+◌, ◌<◌, ◌≤◌, Bool, true, false, not, cond, ◌&&◌, ◌||◌, List, [], ◌∷◌, ◌++◌, length, map, All, Some, refl, ap, sym, ◌∙◌, subst, arith}
use Rattle.std.specs.Prelude.{flat_map, if◌then◌else◌, filter, find, pos, ◌+ℤ◌, ◌<ℤ◌, ◌≤ℤ◌}
use Rattle.std.specs.Ordering.{int_eq}
use Rattle.std.proofs.lemmas.Bool.Decides.{Decides-int_eq}
use Rattle.std.proofs.lemmas.Int.{ints}
use Rattle.std.proofs.lemmas.List.Elements.{All-cons, All-head, All-tail}
use Rattle.nv_layout.specs.Changes.{holds}
use Rattle.nv_windows.specs.Workspace.{Page}
use Rattle.nv_windows.specs.Rooms.{windows_in}
use Rattle.nv_windows.specs.Operations.{page_with, put_behind, is_in, other_tabpages}
use Rattle.nv_windows.specs.Sound.{times_among, IsRisingFrom}
use Rattle.nv_windows.proofs.Counting.{once, times-append, held_some, held_none}

abbrev pub homes : ℤ → List Page → ℕ
homes n ts = times_among n (flat_map windows_in ts)

pub homes_more : (n : ℤ) (t : Page) (ts : List Page) → homes n (t ∷ ts) ≡ times_among n (windows_in t) + homes n ts
homes_more n t ts = times-append n (windows_in t) (flat_map windows_in ts)

-- a window that is in none
pub unheld : (w : ℤ) (f : Page → Page) (ts : List Page) → homes w ts ≡ 0 → map (page_with w f) ts ≡ ts
unheld w f [] e = refl
unheld w f (t ∷ ts) e = by_case (unheld w f ts (omega (arith, homes_more w t ts))) (holds w t.tree) refl
  where
    by_case : map (page_with w f) ts ≡ ts → (b : Bool) → holds w t.tree ≡ b → (if b then f t else t) ∷ map (page_with w f) ts ≡ t ∷ ts
    by_case rest true is = absurd (omega (arith, homes_more w t ts, held_some w t.tree is))
    by_case rest false is = ap (λ l. t ∷ l) rest

-- how often a window is in tabpages of which the one that holds another window is changed
pub homes_changed : (w n : ℤ) (f : Page → Page) (ts : List Page) (plus minus : ℕ) → homes w ts ≡ 1
    → ((t : Page) → holds w t.tree ≡ true → times_among n (windows_in (f t)) + minus ≡ times_among n (windows_in t) + plus)
    → homes n (map (page_with w f) ts) + minus ≡ homes n ts + plus
homes_changed w n f [] plus minus e h = absurd (omega arith)
homes_changed w n f (t ∷ ts) plus minus e h = by_case (λ k. homes_changed w n f ts plus minus k h) (holds w t.tree) refl
  where
    by_case : (homes w ts ≡ 1 → homes n (map (page_with w f) ts) + minus ≡ homes n ts + plus) → (b : Bool) → holds w t.tree ≡ b
        → homes n ((if b then f t else t) ∷ map (page_with w f) ts) + minus ≡ homes n (t ∷ ts) + plus
    by_case rest true is =
        let none : homes w ts ≡ 0 = omega (arith, homes_more w t ts, held_some w t.tree is) in
        let same : homes n (map (page_with w f) ts) ≡ homes n ts = ap (homes n) (unheld w f ts none) in
        omega (arith, homes_more n (f t) (map (page_with w f) ts), homes_more n t ts, h t is, same)
    by_case rest false is =
        let more : homes w ts ≡ 1 = omega (arith, homes_more w t ts, held_none w t.tree is) in
        omega (arith, homes_more n t (map (page_with w f) ts), homes_more n t ts, rest more)

-- what holds of all, where it holds of the changed one
pub All-changed : (P : Page → Type 0) (w : ℤ) (f : Page → Page) (ts : List Page) → ((t : Page) → P t → find (λ u. holds w u.tree) ts ≡ Some t → holds w t.tree ≡ true → P (f t))
    → homes w ts ≡ 1 → All P ts → All P (map (page_with w f) ts)
All-changed P w f [] h e all = absurd (omega arith)
All-changed P w f (t ∷ ts) h e all = by_case (λ k g. All-changed P w f ts g k (All-tail P t ts all)) (holds w t.tree) refl h
  where
    by_case : (homes w ts ≡ 1 → ((u : Page) → P u → find (λ v. holds w v.tree) ts ≡ Some u → holds w u.tree ≡ true → P (f u)) → All P (map (page_with w f) ts)) → (b : Bool) → holds w t.tree ≡ b
        → ((u : Page) → P u → cond b (Some t) (find (λ v. holds w v.tree) ts) ≡ Some u → holds w u.tree ≡ true → P (f u))
        → All P ((if b then f t else t) ∷ map (page_with w f) ts)
    by_case rest true is g =
        let none : homes w ts ≡ 0 = omega (arith, homes_more w t ts, held_some w t.tree is) in
        All-cons P (f t) (map (page_with w f) ts) (g t (All-head P t ts all) refl is) (subst (All P) (sym (unheld w f ts none)) (All-tail P t ts all))
    by_case rest false is g =
        let more : homes w ts ≡ 1 = omega (arith, homes_more w t ts, held_none w t.tree is) in
        All-cons P t (map (page_with w f) ts) (All-head P t ts all) (rest more g)

-- the one that holds a window
pub held_there : (w : ℤ) (ts : List Page) → 0 < homes w ts → (t : Page) × (find (λ u. holds w u.tree) ts ≡ Some t) × (holds w t.tree ≡ true)
held_there w [] h = absurd (omega arith)
held_there w (t ∷ ts) h = by_case (held_there w ts) (holds w t.tree) refl
  where
    by_case : (0 < homes w ts → (u : Page) × (find (λ v. holds w v.tree) ts ≡ Some u) × (holds w u.tree ≡ true)) → (b : Bool) → holds w t.tree ≡ b
        → (u : Page) × (cond b (Some t) (find (λ v. holds w v.tree) ts) ≡ Some u) × (holds w u.tree ≡ true)
    by_case rest true is = (t, refl, is)
    by_case rest false is = rest (omega (arith, homes_more w t ts, held_none w t.tree is))

pub found_passes : {X : Type 0} (p : X → Bool) (P : X → Type 0) (xs : List X) (x : X) → find p xs ≡ Some x → All P xs → P x × (p x ≡ true)
found_passes p P [] x e all = absurd cc
found_passes p P (y ∷ xs) x e all = by_case (λ k. found_passes p P xs x k (All-tail P y xs all)) (p y) refl e
  where
    by_case : (find p xs ≡ Some x → P x × (p x ≡ true)) → (b : Bool) → p y ≡ b → cond b (Some y) (find p xs) ≡ Some x → P x × (p x ≡ true)
    by_case rest true is e = let same : y ≡ x = cc in (subst P same (All-head P y xs all), subst (λ z. p z ≡ true) same is)
    by_case rest false is e = rest e

-- one put behind another, or behind all
pub behind_homes : (n k : ℤ) (new : Page) (ts : List Page) → homes n (put_behind k new ts) ≡ homes n ts + times_among n (windows_in new)
behind_homes n k new [] = omega (arith, homes_more n new [])
behind_homes n k new (t ∷ ts) = by_case (behind_homes n k new ts) (int_eq t.handle k)
  where
    by_case : homes n (put_behind k new ts) ≡ homes n ts + times_among n (windows_in new) → (b : Bool)
        → homes n (if b then t ∷ new ∷ ts else t ∷ put_behind k new ts) ≡ homes n (t ∷ ts) + times_among n (windows_in new)
    by_case rest true = omega (arith, homes_more n t (new ∷ ts), homes_more n new ts, homes_more n t ts)
    by_case rest false = omega (arith, homes_more n t (put_behind k new ts), homes_more n t ts, rest)

abbrev pub tab_handles : List Page → List ℤ
tab_handles ts = map (λ t. t.handle) ts

pub behind_handles : (n k : ℤ) (new : Page) (ts : List Page) → times_among n (tab_handles (put_behind k new ts)) ≡ times_among n (tab_handles ts) + once n new.handle
behind_handles n k new [] = omega arith
behind_handles n k new (t ∷ ts) = by_case (behind_handles n k new ts) (int_eq t.handle k)
  where
    by_case : times_among n (tab_handles (put_behind k new ts)) ≡ times_among n (tab_handles ts) + once n new.handle → (b : Bool)
        → times_among n (tab_handles (if b then t ∷ new ∷ ts else t ∷ put_behind k new ts)) ≡ times_among n (tab_handles (t ∷ ts)) + once n new.handle
    by_case rest true = omega arith
    by_case rest false = omega (arith, rest)

pub All-behind : (P : Page → Type 0) (k : ℤ) (new : Page) (ts : List Page) → P new → All P ts → All P (put_behind k new ts)
All-behind P k new [] h all = All-cons P new [] h all
All-behind P k new (t ∷ ts) h all = by_case (All-behind P k new ts h (All-tail P t ts all)) (int_eq t.handle k)
  where
    by_case : All P (put_behind k new ts) → (b : Bool) → All P (if b then t ∷ new ∷ ts else t ∷ put_behind k new ts)
    by_case rest true = All-cons P t (new ∷ ts) (All-head P t ts all) (All-cons P new ts h (All-tail P t ts all))
    by_case rest false = All-cons P t (put_behind k new ts) (All-head P t ts all) rest

-- handles that stay as they are
pub same_handles : (w : ℤ) (f : Page → Page) → ((t : Page) → (f t).handle ≡ t.handle) → (ts : List Page) → tab_handles (map (page_with w f) ts) ≡ tab_handles ts
same_handles w f keeps [] = refl
same_handles w f keeps (t ∷ ts) = by_case (same_handles w f keeps ts) (holds w t.tree)
  where
    by_case : tab_handles (map (page_with w f) ts) ≡ tab_handles ts → (b : Bool) → (if b then f t else t).handle ∷ tab_handles (map (page_with w f) ts) ≡ t.handle ∷ tab_handles ts
    by_case rest true = ap (λ k. k ∷ tab_handles (map (page_with w f) ts)) (keeps t) ∙ ap (λ l. t.handle ∷ l) rest
    by_case rest false = ap (λ l. t.handle ∷ l) rest

-- one taken out
same_either : (m : ℕ) (b : Bool) → m ≡ (if b then m else m)
same_either m true = refl
same_either m false = refl

abbrev one_where : Bool → ℕ
one_where b = if b then 1 else 0

module _ {X : Type 0} (h : X → ℤ) (g : ℤ → Bool) where
  pub times_without : (n : ℤ) (xs : List X) → times_among n (map h (filter (λ x. not (g (h x))) xs)) ≡ (if g n then 0 else times_among n (map h xs))
  times_without n [] = same_either 0 (g n)
  times_without n (x ∷ xs) = by_case (times_without n xs) (g n) refl (g (h x)) refl (int_eq (h x) n) refl
    where
      by_case : times_among n (map h (filter (λ y. not (g (h y))) xs)) ≡ (if g n then 0 else times_among n (map h xs))
          → (a : Bool) → g n ≡ a → (b : Bool) → g (h x) ≡ b → (c : Bool) → int_eq (h x) n ≡ c
          → times_among n (map h (cond (not b) (x ∷ filter (λ y. not (g (h y))) xs) (filter (λ y. not (g (h y))) xs))) ≡ (if a then 0 else (if c then 1 else 0) + times_among n (map h xs))
      by_case rest true is true is2 c is3 = rest ∙ ap (λ b. if b then 0 else times_among n (map h xs)) is
      by_case rest true is false is2 true is3 =
          let same : h x ≡ n = (Decides-int_eq (h x) n).0 is3 in
          let never : true ≡ false = sym is ∙ ap g (sym same) ∙ is2 in absurd (cc)
      by_case rest true is false is2 false is3 =
          let now : (if g n then 0 else times_among n (map h xs)) ≡ 0 = ap (λ b. if b then 0 else times_among n (map h xs)) is in
          let none : (if int_eq (h x) n then 1 else 0) ≡ 0 = ap one_where is3 in
          omega (arith, rest, now, none)
      by_case rest false is true is2 true is3 =
          let same : h x ≡ n = (Decides-int_eq (h x) n).0 is3 in
          let never : true ≡ false = sym is2 ∙ ap g same ∙ is in absurd (cc)
      by_case rest false is true is2 false is3 =
          let now : (if g n then 0 else times_among n (map h xs)) ≡ times_among n (map h xs) = ap (λ b. if b then 0 else times_among n (map h xs)) is in
          omega (arith, rest, now)
      by_case rest false is false is2 c is3 =
          let now : (if g n then 0 else times_among n (map h xs)) ≡ times_among n (map h xs) = ap (λ b. if b then 0 else times_among n (map h xs)) is in
          let same : (if int_eq (h x) n then 1 else 0) ≡ (if c then 1 else 0) = ap one_where is3 in
          omega (arith, rest, now, same)

-- the windows of the tabpages of a handle, and of the others
pub homes_parts : (n k : ℤ) (ts : List Page) → homes k ts ≡ homes k (filter (λ t. int_eq t.handle n) ts) + homes k (other_tabpages n ts)
homes_parts n k [] = refl
homes_parts n k (t ∷ ts) = by_case (homes_parts n k ts) (int_eq t.handle n)
  where
    by_case : homes k ts ≡ homes k (filter (λ u. int_eq u.handle n) ts) + homes k (other_tabpages n ts) → (b : Bool)
        → homes k (t ∷ ts) ≡ homes k (cond b (t ∷ filter (λ u. int_eq u.handle n) ts) (filter (λ u. int_eq u.handle n) ts)) + homes k (cond (not b) (t ∷ other_tabpages n ts) (other_tabpages n ts))
    by_case rest true = omega (arith, homes_more k t ts, homes_more k t (filter (λ u. int_eq u.handle n) ts), rest)
    by_case rest false = omega (arith, homes_more k t ts, homes_more k t (other_tabpages n ts), rest)

pub in_some : (n k : ℤ) (ts : List Page) → is_in ts n k ≡ true → 0 < homes k (filter (λ t. int_eq t.handle n) ts)
in_some n k [] e = cc
in_some n k (t ∷ ts) e = by_case (in_some n k ts) (int_eq t.handle n) (holds k t.tree) refl e
  where
    by_case : (is_in ts n k ≡ true → 0 < homes k (filter (λ u. int_eq u.handle n) ts)) → (b c : Bool) → holds k t.tree ≡ c → ((b && c) || is_in ts n k) ≡ true
        → 0 < homes k (cond b (t ∷ filter (λ u. int_eq u.handle n) ts) (filter (λ u. int_eq u.handle n) ts))
    by_case rest true true is e = omega (arith, homes_more k t (filter (λ u. int_eq u.handle n) ts), held_some k t.tree is)
    by_case rest true false is e = omega (arith, homes_more k t (filter (λ u. int_eq u.handle n) ts), rest e)
    by_case rest false c is e = rest e

pub in_none : (n k : ℤ) (ts : List Page) → is_in ts n k ≡ false → homes k (filter (λ t. int_eq t.handle n) ts) ≡ 0
in_none n k [] e = refl
in_none n k (t ∷ ts) e = by_case (in_none n k ts) (int_eq t.handle n) (holds k t.tree) refl e
  where
    by_case : (is_in ts n k ≡ false → homes k (filter (λ u. int_eq u.handle n) ts) ≡ 0) → (b c : Bool) → holds k t.tree ≡ c → ((b && c) || is_in ts n k) ≡ false
        → homes k (cond b (t ∷ filter (λ u. int_eq u.handle n) ts) (filter (λ u. int_eq u.handle n) ts)) ≡ 0
    by_case rest true true is e = cc
    by_case rest true false is e = omega (arith, homes_more k t (filter (λ u. int_eq u.handle n) ts), held_none k t.tree is, rest e)
    by_case rest false c is e = rest e

pub length_others : (n : ℤ) (ts : List Page) → length (other_tabpages n ts) + times_among n (tab_handles ts) ≡ length ts
length_others n [] = refl
length_others n (t ∷ ts) = by_case (length_others n ts) (int_eq t.handle n)
  where
    by_case : length (other_tabpages n ts) + times_among n (tab_handles ts) ≡ length ts → (b : Bool)
        → length (cond (not b) (t ∷ other_tabpages n ts) (other_tabpages n ts)) + ((if b then 1 else 0) + times_among n (tab_handles ts)) ≡ length (t ∷ ts)
    by_case rest true = omega (arith, rest)
    by_case rest false = omega (arith, rest)

-- handles that rise
pub rising_push : (b : ℤ) (ks : List ℤ) (next : ℤ) → IsRisingFrom b ks → b ≤ℤ next → All (λ k. k <ℤ next) ks → IsRisingFrom b (ks ++ next ∷ [])
rising_push b [] next r h below = (h, tt)
rising_push b (k ∷ ks) next r h below =
    (r.0, rising_push (k +ℤ pos 1) ks next r.1 (omega (arith, ints, All-head (λ j. j <ℤ next) k ks below)) (All-tail (λ j. j <ℤ next) k ks below))

pub rising_lower : (a b : ℤ) (ks : List ℤ) → a ≤ℤ b → IsRisingFrom b ks → IsRisingFrom a ks
rising_lower a b [] h r = tt
rising_lower a b (k ∷ ks) h r = (omega (arith, ints, h, r.0), r.1)

pub rising_filter : {X : Type 0} (h : X → ℤ) (p : X → Bool) (b : ℤ) (xs : List X) → IsRisingFrom b (map h xs) → IsRisingFrom b (map h (filter p xs))
rising_filter h p b [] r = tt
rising_filter h p b (x ∷ xs) r = by_case (rising_filter h p (h x +ℤ pos 1) xs r.1) (p x)
  where
    by_case : IsRisingFrom (h x +ℤ pos 1) (map h (filter p xs)) → (c : Bool) → IsRisingFrom b (map h (cond c (x ∷ filter p xs) (filter p xs)))
    by_case rest true = (r.0, rest)
    by_case rest false = rising_lower b (h x +ℤ pos 1) (map h (filter p xs)) (omega (arith, ints, r.0)) rest

above_none : (b n : ℤ) (ks : List ℤ) → n <ℤ b → IsRisingFrom b ks → times_among n ks ≡ 0
above_none b n [] h r = refl
above_none b n (k ∷ ks) h r =
    let differs : int_eq k n ≡ false = other k n (omega (arith, ints, h, r.0)) in
    omega (arith, ap one_where differs, above_none (k +ℤ pos 1) n ks (omega (arith, ints, h, r.0)) r.1)
  where
    other : (i j : ℤ) → j <ℤ i → int_eq i j ≡ false
    other i j lt = grind (arith, ints)

pub rising_once : (b n : ℤ) (ks : List ℤ) → IsRisingFrom b ks → times_among n ks ≤ 1
rising_once b n [] r = omega arith
rising_once b n (k ∷ ks) r = by_case (rising_once (k +ℤ pos 1) n ks r.1) (int_eq k n) refl
  where
    by_case : times_among n ks ≤ 1 → (c : Bool) → int_eq k n ≡ c → (if c then 1 else 0) + times_among n ks ≤ 1
    by_case rest true is =
        let same : k ≡ n = (Decides-int_eq k n).0 is in
        omega (arith, above_none (k +ℤ pos 1) n ks (subst (λ j. j <ℤ (k +ℤ pos 1)) same (omega (arith, ints))) r.1)
    by_case rest false is = omega (arith, rest)

pub below_none : (next : ℤ) (ks : List ℤ) → All (λ k. k <ℤ next) ks → times_among next ks ≡ 0
below_none next [] h = refl
below_none next (k ∷ ks) h =
    let differs : int_eq k next ≡ false = other k next (All-head (λ j. j <ℤ next) k ks h) in
    omega (arith, ap one_where differs, below_none next ks (All-tail (λ j. j <ℤ next) k ks h))
  where
    other : (i j : ℤ) → i <ℤ j → int_eq i j ≡ false
    other i j lt = grind (arith, ints)
