-- Closing windows and tabpages, making a tabpage, and another size keep what windows and tabpages keep to.
use Rattle.std.proofs.Common.{◌≡◌, ℕ, suc, ℤ, ◌+◌, ◌<◌, ◌≤◌, Bool, true, false, not, cond, List, [], ◌∷◌, length, map, take, All, Option, Some, None, refl, ap, sym, ◌∙◌, subst, arith}
use Rattle.std.specs.Prelude.{pos, ◌≤ℤ◌, ◌<ℤ◌, find, if◌then◌else◌, take_while, ◌==◌}
use Rattle.std.specs.List.{prefix_len}
use Rattle.std.specs.Ordering.{int_eq}
use Rattle.std.proofs.lemmas.Bool.Decides.{nat_tests, Decides-int_eq}
use Rattle.std.proofs.lemmas.Int.{ints}
use Rattle.std.proofs.lemmas.List.{length-map}
use Rattle.std.proofs.lemmas.List.Elements.{All-cons, All-head, All-tail}
use Rattle.nv_layout.specs.Content.{Shape}
use Rattle.nv_layout.specs.Changes.{holds, close}
use Rattle.nv_layout.specs.Least.{leaves_of}
use Rattle.nv_layout.specs.Tiling.{windows}
use Rattle.nv_layout.specs.declared.nodes.Axis.TheVariants.{Across, Down}
use Rattle.nv_layout.specs.declared.nodes.Leaf.{Leaf}
use Rattle.nv_layout.proofs.Asking.{close_asks_for_no_more}
use Rattle.nv_layout.proofs.GroupRules.{changes_keep_form}
use Rattle.nv_layout.proofs.Closing.{closed_count}
use Rattle.nv_windows.specs.Workspace.{Page, Workspace, handles_of_windows, tabpage_of}
use Rattle.nv_windows.specs.Rooms.{windows_in, has_one_window}
use Rattle.nv_windows.specs.Operations.{page_left, page_without, neighbour, last_or, other_windows, without_window}
use Rattle.nv_windows.specs.Sound.{IsSoundWorkspace, IsSoundPage, times_among}
use Rattle.nv_windows.specs.declared.window.Window.{Window}
use Rattle.nv_windows.proofs.Counting.{once, held_none, held_some, held_by_times, close_times}
use Rattle.nv_windows.proofs.Changed.{homes, homes_more, unheld, All-changed, same_handles, times_without, rising_filter}
use Rattle.nv_windows.proofs.Soundness.{home_most, found_some}

-- ---- the neighbour of a window that isn't the only one
abbrev one_where : Bool → ℕ
one_where b = if b then 1 else 0

-- the last of those before a window is one of them, or what was before
last_in : (w other : ℤ) (ks : List ℤ) → once w other ≡ 0 → (once w (last_or other (take_while (λ k. not (int_eq k w)) ks)) ≡ 0)
    × (0 < once (last_or other (take_while (λ k. not (int_eq k w)) ks)) other + times_among (last_or other (take_while (λ k. not (int_eq k w)) ks)) ks)
last_in w other [] e = (e, omega (arith, one_self other))
  where
    one_self : (n : ℤ) → once n n ≡ 1
    one_self n = ap one_where ((Decides-int_eq n n).1 refl)
last_in w other (k ∷ ks) e = by_case (last_in w k ks) (int_eq k w) refl
  where
    one_self : (n : ℤ) → once n n ≡ 1
    one_self n = ap one_where ((Decides-int_eq n n).1 refl)

    first_of : Bool → List ℤ
    first_of b = take (cond (not b) (1 + prefix_len (λ j. not (int_eq j w)) ks) 0) (k ∷ ks)

    by_case : (once w k ≡ 0 → (once w (last_or k (take_while (λ j. not (int_eq j w)) ks)) ≡ 0) × (0 < once (last_or k (take_while (λ j. not (int_eq j w)) ks)) k + times_among (last_or k (take_while (λ j. not (int_eq j w)) ks)) ks))
        → (b : Bool) → int_eq k w ≡ b
        → (once w (last_or other (first_of b)) ≡ 0) × (0 < once (last_or other (first_of b)) other + times_among (last_or other (first_of b)) (k ∷ ks))
    by_case rest true is = (e, omega (arith, one_self other))
    by_case rest false is =
        let more : 1 + prefix_len (λ j. not (int_eq j w)) ks ≡ suc (prefix_len (λ j. not (int_eq j w)) ks) = omega arith in
        let now : last_or other (first_of false) ≡ last_or k (take_while (λ j. not (int_eq j w)) ks) = ap (λ n. last_or other (take n (k ∷ ks))) more in
        let r = rest (ap one_where is) in (
          subst (λ n. once w n ≡ 0) (sym now) r.0,
          subst (λ n. 0 < once n other + times_among n (k ∷ ks)) (sym now) (omega (arith, r.1)),
        )

-- a neighbour is another window, and one of them
neighbour_in : (w : ℤ) (ks : List ℤ) → times_among w ks ≡ 1 → 1 < length ks → (once (neighbour w ks) w ≡ 0) × (0 < times_among (neighbour w ks) ks)
neighbour_in w [] e h = absurd (omega arith)
neighbour_in w (k ∷ []) e h = absurd (omega arith)
neighbour_in w (k ∷ (j ∷ ks)) e h = by_case (int_eq k w) refl
  where
    one_self : (n : ℤ) → once n n ≡ 1
    one_self n = ap one_where ((Decides-int_eq n n).1 refl)

    turned : (m n : ℤ) → int_eq m n ≡ false → int_eq n m ≡ false
    turned m n f = grind (arith, ints)

    first_of : Bool → List ℤ
    first_of b = take (cond (not b) (1 + prefix_len (λ i. not (int_eq i w)) (j ∷ ks)) 0) (k ∷ (j ∷ ks))

    none_of : (b : Bool) → one_where b ≡ 0 → b ≡ false
    none_of true f = absurd (omega (arith, f))
    none_of false f = refl

    by_case : (b : Bool) → int_eq k w ≡ b → (once (last_or j (first_of b)) w ≡ 0) × (0 < times_among (last_or j (first_of b)) (k ∷ (j ∷ ks)))
    by_case true is =
        let here : once w k ≡ 1 = ap one_where is in
        let other : int_eq j w ≡ false = none_of (int_eq j w) (omega (arith, e, here)) in
        (ap one_where (turned j w other), omega (arith, one_self j))
    by_case false is =
        let more : 1 + prefix_len (λ i. not (int_eq i w)) (j ∷ ks) ≡ suc (prefix_len (λ i. not (int_eq i w)) (j ∷ ks)) = omega arith in
        let now : last_or j (first_of false) ≡ last_or k (take_while (λ i. not (int_eq i w)) (j ∷ ks)) = ap (λ n. last_or j (take n (k ∷ (j ∷ ks)))) more in
        let r = last_in w k (j ∷ ks) (ap one_where is) in
        let apart : int_eq (last_or k (take_while (λ i. not (int_eq i w)) (j ∷ ks))) w ≡ false = none_of (int_eq (last_or k (take_while (λ i. not (int_eq i w)) (j ∷ ks))) w) r.0 in (
          subst (λ n. once n w ≡ 0) (sym now) (ap one_where (turned (last_or k (take_while (λ i. not (int_eq i w)) (j ∷ ks))) w apart)),
          subst (λ n. 0 < times_among n (k ∷ (j ∷ ks))) (sym now) (omega (arith, r.1, turn k (last_or k (take_while (λ i. not (int_eq i w)) (j ∷ ks))))),
        )
      where
        turn : (m n : ℤ) → once m n ≡ once n m
        turn m n = both (int_eq n m) (int_eq m n) refl refl
          where
            both : (a b : Bool) → int_eq n m ≡ a → int_eq m n ≡ b → one_where a ≡ one_where b
            both true true f g = refl
            both false false f g = refl
            both true false f g = absurd (let h : int_eq m n ≡ true = (Decides-int_eq m n).1 (sym ((Decides-int_eq n m).0 f)) in cc)
            both false true f g = absurd (let h : int_eq n m ≡ true = (Decides-int_eq n m).1 (sym ((Decides-int_eq m n).0 g)) in cc)

-- ---- a window closed
many_is : (t : Page) (w : ℤ) → holds w t.tree ≡ true → has_one_window t ≡ false → 1 < length (windows_in t)
many_is t w held many = more (length (windows_in t)) many (some (windows_in t) (held_some w t.tree held))
  where
    some : (ks : List ℤ) → 0 < times_among w ks → 0 < length ks
    some [] h = absurd (omega arith)
    some (k ∷ ks) h = omega arith

    more : (n : ℕ) → (n == 1) ≡ false → 0 < n → 1 < n
    more n e h = grind (arith, nat_tests)

left_some : (w : ℤ) (t : Shape) (o : Option Shape) → holds w t ≡ true → o ≡ close w t → 1 < length (leaves_of t) → (u : Shape) × (o ≡ Some u)
left_some w t None held e h = absurd (omega (arith, closed_count w t None held e, h))
left_some w t (Some u) held e h = (u, refl)

closed_tree : (t : Page) (w : ℤ) → holds w t.tree ≡ true → has_one_window t ≡ false → (u : Shape) × (close w t.tree ≡ Some u)
closed_tree t w held many =
    left_some w t.tree (close w t.tree) held refl (omega (arith, many_is t w held many, length-map (leaves_of t.tree) (λ (l : Leaf). l.window)))

closed_page : (width height : ℕ) (w : ℤ) (t : Page) → times_among w (windows_in t) ≡ 1 → has_one_window t ≡ false → holds w t.tree ≡ true
    → IsSoundPage width height t → IsSoundPage width height (page_without w t)
closed_page width height w t once_there many held p =
    let c = closed_tree t w held many in
    subst (λ o. IsSoundPage width height (page_left w t o)) (sym c.1) (record {
      filled = changes_keep_form.close_none_empty w t.tree c.0 c.1 p.filled;
      roomy = record {
        wide = omega (arith, close_asks_for_no_more w t.tree c.0 Across c.1, p.roomy.wide);
        high = omega (arith, close_asks_for_no_more w t.tree c.0 Down c.1, p.roomy.high);
      };
      current = held_by_times (if int_eq t.current w then neighbour w (windows_in t) else t.current) c.0 (by_case c.0 c.1 (int_eq t.current w) refl);
    })
  where
    by_case : (u : Shape) → close w t.tree ≡ Some u → (b : Bool) → int_eq t.current w ≡ b
        → 0 < times_among (if b then neighbour w (windows_in t) else t.current) (windows (leaves_of u))
    by_case u e true is =
        let n = neighbour_in w (windows_in t) once_there (many_is t w held many) in
        omega (arith, close_times w (neighbour w (windows_in t)) t.tree u held e, n.0, n.1)
    by_case u e false is =
        let apart : once t.current w ≡ 0 = ap one_where (turned t.current w is) in
        omega (arith, close_times w t.current t.tree u held e, held_some t.current t.tree p.current, apart)
      where
        turned : (m n : ℤ) → int_eq m n ≡ false → int_eq n m ≡ false
        turned m n f = grind (arith, ints)

page_times : (w n : ℤ) (t : Page) → holds w t.tree ≡ true → has_one_window t ≡ false → times_among n (windows_in (page_without w t)) + once n w ≡ times_among n (windows_in t)
page_times w n t held many =
    let c = closed_tree t w held many in
    ap (λ o. times_among n (windows_in (page_left w t o)) + once n w) c.1 ∙ close_times w n t.tree c.0 held c.1

left_handle : (w : ℤ) (t : Page) (o : Option Shape) → (page_left w t o).handle ≡ t.handle
left_handle w t None = refl
left_handle w t (Some u) = refl

same_some : (t u : Page) → Some t ≡ Some u → t ≡ u
same_some t u e = cc

one_home : (w : ℤ) (ts : List Page) (t : Page) → find (λ u. holds w u.tree) ts ≡ Some t → homes w ts ≡ 1 → times_among w (windows_in t) ≡ 1
one_home w [] t e h = cc
one_home w (u ∷ ts) t e h = by_case (one_home w ts t) (holds w u.tree) refl e
  where
    by_case : (find (λ v. holds w v.tree) ts ≡ Some t → homes w ts ≡ 1 → times_among w (windows_in t) ≡ 1) → (b : Bool) → holds w u.tree ≡ b
        → cond b (Some u) (find (λ v. holds w v.tree) ts) ≡ Some t → times_among w (windows_in t) ≡ 1
    by_case rest true is e =
        subst (λ (v : Page). times_among w (windows_in v) ≡ 1) (same_some u t e) (omega (arith, homes_more w u ts, h, held_some w u.tree is))
    by_case rest false is e = rest e (omega (arith, homes_more w u ts, h, held_none w u.tree is))

-- only one of the tabpages is changed
homes_one : (w n : ℤ) (f : Page → Page) (ts : List Page) (t : Page) (minus : ℕ) → find (λ u. holds w u.tree) ts ≡ Some t → homes w ts ≡ 1
    → times_among n (windows_in (f t)) + minus ≡ times_among n (windows_in t)
    → homes n (map (λ u. if holds w u.tree then f u else u) ts) + minus ≡ homes n ts
homes_one w n f [] t minus e h g = cc
homes_one w n f (u ∷ ts) t minus e h g = by_case (λ k l. homes_one w n f ts t minus k l g) (holds w u.tree) refl e
  where
    by_case : (find (λ v. holds w v.tree) ts ≡ Some t → homes w ts ≡ 1 → homes n (map (λ v. if holds w v.tree then f v else v) ts) + minus ≡ homes n ts) → (b : Bool) → holds w u.tree ≡ b
        → cond b (Some u) (find (λ v. holds w v.tree) ts) ≡ Some t
        → homes n ((if b then f u else u) ∷ map (λ v. if holds w v.tree then f v else v) ts) + minus ≡ homes n (u ∷ ts)
    by_case rest true is e =
        let none : homes w ts ≡ 0 = omega (arith, homes_more w u ts, held_some w u.tree is, h) in
        let same : homes n (map (λ v. if holds w v.tree then f v else v) ts) ≡ homes n ts = ap (homes n) (unheld w f ts none) in
        let here : times_among n (windows_in (f u)) + minus ≡ times_among n (windows_in u) = subst (λ (v : Page). times_among n (windows_in (f v)) + minus ≡ times_among n (windows_in v)) (sym (same_some u t e)) g in
        omega (arith, homes_more n (f u) (map (λ v. if holds w v.tree then f v else v) ts), homes_more n u ts, here, same)
    by_case rest false is e =
        let more : homes w ts ≡ 1 = omega (arith, homes_more w u ts, held_none w u.tree is, h) in
        omega (arith, homes_more n u (map (λ v. if holds w v.tree then f v else v) ts), homes_more n u ts, rest e more)

pub without_window_sound : (ws : Workspace) (w : ℤ) (t : Page) → tabpage_of ws w ≡ Some t → has_one_window t ≡ false → IsSoundWorkspace ws → IsSoundWorkspace (without_window w ws)
without_window_sound ws w t found many sound =
    let home : homes w ws.tabpages ≡ 1 = omega (arith, home_most ws w sound, found_some w ws.tabpages t found) in
    let held : holds w t.tree ≡ true = held_by_times w t.tree (omega (arith, one_home w ws.tabpages t found home)) in
    let handles = same_handles w (page_without w) (λ u. left_handle w u (close w u.tree)) ws.tabpages in
    record {
      rising = rising_filter (λ (v : Window). v.handle) (λ (v : Window). not (int_eq v.handle w)) (pos 1000) ws.windows sound.rising;
      below = below_filter ws.next_window w ws.windows sound.below;
      homes = λ n.
          counted n (homes_one w n (page_without w) ws.tabpages t (once n w) found home (page_times w n t held many))
          (times_without (λ (v : Window). v.handle) (λ k. int_eq k w) n ws.windows) home;
      pages = All-changed (IsSoundPage ws.width ws.height) w (page_without w) ws.tabpages
          (λ u p there h. subst (λ (v : Page). IsSoundPage ws.width ws.height v → IsSoundPage ws.width ws.height (page_without w v)) (same_some t u (sym found ∙ there))
          (closed_page ws.width ws.height w t (one_home w ws.tabpages t found home) many held) p)
          home sound.pages;
      apart = λ n. subst (λ ks. times_among n ks ≤ 1) (sym handles) (sound.apart n);
      tabpages = subst (All (λ n. (pos 1 ≤ℤ n) × (n <ℤ ws.next_tabpage))) (sym handles) sound.tabpages;
      current = ap (times_among ws.tabpage) handles ∙ sound.current;
      width = sound.width;
      height = sound.height;
      next_window = sound.next_window;
      next_tabpage = sound.next_tabpage;
    }
  where
    below_filter : (next n : ℤ) (vs : List Window) → All (λ k. k <ℤ next) (handles_of_windows vs) → All (λ k. k <ℤ next) (handles_of_windows (other_windows n vs))
    below_filter next n [] h = h
    below_filter next n (v ∷ vs) h = by_case (below_filter next n vs (All-tail (λ k. k <ℤ next) v.handle (handles_of_windows vs) h)) (int_eq v.handle n)
      where
        by_case : All (λ k. k <ℤ next) (handles_of_windows (other_windows n vs)) → (b : Bool) → All (λ k. k <ℤ next) (handles_of_windows (cond (not b) (v ∷ other_windows n vs) (other_windows n vs)))
        by_case rest true = rest
        by_case rest false = All-cons (λ k. k <ℤ next) v.handle (handles_of_windows (other_windows n vs)) (All-head (λ k. k <ℤ next) v.handle (handles_of_windows vs) h) rest

    counted : (n : ℤ) → homes n (map (λ u. if holds w u.tree then page_without w u else u) ws.tabpages) + once n w ≡ homes n ws.tabpages
        → times_among n (handles_of_windows (other_windows w ws.windows)) ≡ (if int_eq n w then 0 else times_among n (handles_of_windows ws.windows))
        → homes w ws.tabpages ≡ 1
        → homes n (map (λ u. if holds w u.tree then page_without w u else u) ws.tabpages) ≡ times_among n (handles_of_windows (other_windows w ws.windows))
    counted n was now home = by_case (int_eq n w) refl
      where
        turned : (i j : ℤ) → int_eq i j ≡ false → int_eq j i ≡ false
        turned i j f = grind (arith, ints)

        by_case : (b : Bool) → int_eq n w ≡ b → homes n (map (λ u. if holds w u.tree then page_without w u else u) ws.tabpages) ≡ times_among n (handles_of_windows (other_windows w ws.windows))
        by_case true is =
            let same : n ≡ w = (Decides-int_eq n w).0 is in
            let once_there : once n w ≡ 1 = ap one_where ((Decides-int_eq w n).1 (sym same)) in
            let all : homes n ws.tabpages ≡ 1 = ap (λ k. homes k ws.tabpages) same ∙ home in
            let none : times_among n (handles_of_windows (other_windows w ws.windows)) ≡ 0 = now ∙ ap (λ b. if b then 0 else times_among n (handles_of_windows ws.windows)) is in
            omega (arith, was, once_there, all, none)
        by_case false is =
            let none_there : once n w ≡ 0 = ap one_where (turned n w is) in
            let rest : times_among n (handles_of_windows (other_windows w ws.windows)) ≡ times_among n (handles_of_windows ws.windows) = now ∙ ap (λ b. if b then 0 else times_among n (handles_of_windows ws.windows)) is in
            omega (arith, was, none_there, rest, sound.homes n)
