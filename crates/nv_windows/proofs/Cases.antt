-- What opening and closing come to, case by case.
use Rattle.std.proofs.Common.{◌≡◌, ℕ, ℤ, ◌<◌, ◌≤◌, Bool, true, false, ◌&&◌, List, length, [], ◌∷◌, Option, Some, None, refl, ap, sym, ◌∙◌, arith}
use Rattle.std.specs.Prelude.{position, if◌then◌else◌, ◌==◌}
use Rattle.std.specs.Option.{option_map_or}
use Rattle.std.proofs.lemmas.Bool.Decides.{nat_tests}
use Rattle.std.proofs.lemmas.List.{length-map}
use Rattle.nv_layout.specs.Content.{Shape}
use Rattle.nv_layout.specs.Changes.{holds, split}
use Rattle.nv_layout.specs.Least.{leaves_of}
use Rattle.nv_layout.specs.declared.nodes.Leaf.{Leaf}
use Rattle.nv_layout.specs.declared.nodes.Side.{Side}
use Rattle.nv_windows.specs.Workspace.{Page, Workspace, tabpage_of}
use Rattle.nv_windows.specs.Rooms.{windows_in, has_one_window, has_room, has_room_beside, has_window_left, next_leaf}
use Rattle.nv_windows.specs.Operations.{is_only_window, has_one_tabpage, after_close, closed_in, without_window, without_tabpage, page_without, opening, after_opening, entered_where, with_window, tree_opened}
use Rattle.nv_windows.specs.Kept.{page_at, with_next_window, with_tree_at, without_window_at}
use Rattle.nv_windows.specs.Sound.{IsSoundWorkspace, times_among}
use Rattle.nv_windows.specs.declared.window.Opened.TheVariants.{Window as OpenedWindow, NoId, NoRoom}
use Rattle.nv_windows.proofs.Counting.{held_some}
use Rattle.nv_windows.proofs.Held.{changed_home}
use Rattle.nv_windows.proofs.PartsAt.{none_page}

both_false : (a b : Bool) → b ≡ false → (a && b) ≡ false
both_false true b e = e
both_false false b e = refl

abbrev only : Workspace → ℤ → Option Page → Bool
only ws w o = option_map_or (λ t. has_one_tabpage ws && has_one_window t) o true

module _ (ws : Workspace) (w : ℤ) where
  pub close_missing : tabpage_of ws w ≡ None → (is_only_window ws w ≡ true) × (after_close w ws ≡ ws)
  close_missing e =
      let is : is_only_window ws w ≡ true = ap (only ws w) e in
      (is, ap (λ b. if b then ws else option_map_or (closed_in w ws) (tabpage_of ws w) ws) is)

  module _ (t : Page) (e : tabpage_of ws w ≡ Some t) where
    pub close_many : has_one_window t ≡ false → (is_only_window ws w ≡ false) × (after_close w ws ≡ without_window w ws)
    close_many many =
        let is : is_only_window ws w ≡ false = ap (only ws w) e ∙ both_false (has_one_tabpage ws) (has_one_window t) many in
        (is, ap (λ b. if b then ws else option_map_or (closed_in w ws) (tabpage_of ws w) ws) is ∙ ap (λ o. option_map_or (closed_in w ws) o ws) e ∙ ap (λ b. if b then without_tabpage t.handle ws else without_window w ws) many)

    pub close_last : has_one_window t ≡ true → has_one_tabpage ws ≡ true → (is_only_window ws w ≡ true) × (after_close w ws ≡ ws)
    close_last one last =
        let is : is_only_window ws w ≡ true = ap (only ws w) e ∙ ap (λ b. b && has_one_window t) last ∙ one in
        (is, ap (λ b. if b then ws else option_map_or (closed_in w ws) (tabpage_of ws w) ws) is)

    pub close_tab : has_one_window t ≡ true → has_one_tabpage ws ≡ false → (is_only_window ws w ≡ false) × (after_close w ws ≡ without_tabpage t.handle ws)
    close_tab one more =
        let is : is_only_window ws w ≡ false = ap (only ws w) e ∙ ap (λ b. b && has_one_window t) more in
        (is, ap (λ b. if b then ws else option_map_or (closed_in w ws) (tabpage_of ws w) ws) is ∙ ap (λ o. option_map_or (closed_in w ws) o ws) e ∙ ap (λ b. if b then without_tabpage t.handle ws else without_window w ws) one)

isnt_one : (n : ℕ) → 1 < n → (n == 1) ≡ false
isnt_one n h = grind (arith, nat_tests)

is_one : (n : ℕ) → n ≡ 1 → (n == 1) ≡ true
is_one n h = grind (arith, nat_tests)

is_not : (n : ℕ) → (n ≡ 1 → ⊥) → (n == 1) ≡ false
is_not n h = grind (arith, nat_tests)

pub many_windows : (t : Page) → 1 < length (leaves_of t.tree) → has_one_window t ≡ false
many_windows t h = isnt_one (length (windows_in t)) (omega (arith, h, length-map (leaves_of t.tree) (λ (l : Leaf). l.window)))

some_times : (n : ℤ) (ks : List ℤ) → 0 < times_among n ks → 0 < length ks
some_times n [] h = absurd (omega arith)
some_times n (k ∷ ks) h = omega arith

pub one_window : (w : ℤ) (t : Page) → holds w t.tree ≡ true → length (leaves_of t.tree) ≤ 1 → has_one_window t ≡ true
one_window w t held h =
    is_one (length (windows_in t)) (omega (arith, h, length-map (leaves_of t.tree) (λ (l : Leaf). l.window), some_times w (windows_in t) (held_some w t.tree held)))

pub one_tabpage : (ws : Workspace) (n : ℕ) → length ws.tabpages ≡ n → n ≡ 1 → has_one_tabpage ws ≡ true
one_tabpage ws n e h = is_one (length ws.tabpages) (e ∙ h)

pub more_tabpages : (ws : Workspace) (n : ℕ) → length ws.tabpages ≡ n → (n ≡ 1 → ⊥) → has_one_tabpage ws ≡ false
more_tabpages ws n e h = is_not (length ws.tabpages) (λ k. h (sym e ∙ k))

pub closed_whole : (ws : Workspace) (w : ℤ) (home : ℕ) → IsSoundWorkspace ws → position (λ (t : Page). holds w t.tree) ws.tabpages ≡ Some home
    → without_window_at w home ws ≡ without_window w ws
closed_whole ws w home sound e = λ i. record (without_window w ws) { tabpages = changed_home ws w (page_without w) home none_page sound e i }

pub opened_whole : (ws : Workspace) (beside : ℤ) (side : Side) (buffer : ℤ) (width height : ℕ) (home : ℕ) (tree : Shape) → IsSoundWorkspace ws
    → position (λ (t : Page). holds beside t.tree) ws.tabpages ≡ Some home → tree ≡ tree_opened ws beside side width height (page_at ws home).tree
    → with_next_window buffer (with_tree_at ws home tree) ≡ with_window beside side buffer width height ws
opened_whole ws beside side buffer width height home tree sound e is =
    ap (λ t. with_next_window buffer (with_tree_at ws home t)) is
    ∙ (λ i. record (with_window beside side buffer width height ws) {
      tabpages = changed_home ws beside (λ (t : Page). record t { tree = tree_opened ws beside side width height t.tree }) home none_page sound e i;
    })

module _ (ws : Workspace) (beside : ℤ) (side : Side) where
  abbrev pub room_of : (o : Option Page) → Bool
  room_of o = option_map_or (λ t. has_room ws (split side beside (next_leaf ws) t.tree)) o false

  pub no_room : (b : Bool) → has_window_left ws ≡ true → has_room_beside ws beside side ≡ false → NoRoom ≡ opening ws beside side
  no_room b left none =
      sym (ap (λ c. if c then (if has_room_beside ws beside side then OpenedWindow ws.next_window else NoRoom) else NoId) left ∙ ap (λ c. if c then OpenedWindow ws.next_window else NoRoom) none)

  pub some_room : has_window_left ws ≡ true → has_room_beside ws beside side ≡ true → OpenedWindow ws.next_window ≡ opening ws beside side
  some_room left room =
      sym (ap (λ c. if c then (if has_room_beside ws beside side then OpenedWindow ws.next_window else NoRoom) else NoId) left ∙ ap (λ c. if c then OpenedWindow ws.next_window else NoRoom) room)

  module _ (buffer : ℤ) (width height : ℕ) (enter : Bool) where
    pub not_opened : has_room_beside ws beside side ≡ false → ws ≡ after_opening beside side buffer width height enter ws
    not_opened none =
        sym (ap (λ c. if c then entered_where enter ws.next_window (with_window beside side buffer width height ws) else ws) (both_false (has_window_left ws) (has_room_beside ws beside side) none))

    pub is_opened : has_window_left ws ≡ true → has_room_beside ws beside side ≡ true
        → entered_where enter ws.next_window (with_window beside side buffer width height ws) ≡ after_opening beside side buffer width height enter ws
    is_opened left room =
        sym (ap (λ c. if c then entered_where enter ws.next_window (with_window beside side buffer width height ws) else ws) (ap (λ c. c && has_room_beside ws beside side) left ∙ room))
