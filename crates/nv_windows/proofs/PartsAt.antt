-- What is known of the tabpage at a place.
use Rattle.std.proofs.Common.{◌≡◌, ℕ, ℤ, ◌<◌, Bool, true, List, length, get_or, Option, Some, None, ap, sym, ◌∙◌, subst, arith, All}
use Rattle.std.specs.Prelude.{pos, position, option_map, option_and_then, Result, Ok, Err, IfOk, OnErr}
use Rattle.std.specs.List.{list_all}
use Rattle.std.proofs.lemmas.List.{get_or-map, length-map, get_or_default}
use Rattle.std.proofs.lemmas.List.Elements.{All-get_or}
use Rattle.std.proofs.lemmas.List.Quantifiers.{position-Some}
use Rattle.nv_layout.specs.Content.{Shape, shape_of}
use Rattle.nv_layout.specs.Changes.{holds, split}
use Rattle.nv_layout.specs.Least.{IsMeasurable}
use Rattle.nv_layout.specs.Places.{rects, rect_among}
use Rattle.nv_layout.specs.declared.nodes.Axis.TheVariants.{Across, Down}
use Rattle.nv_layout.specs.declared.nodes.Leaf.{Leaf}
use Rattle.nv_layout.specs.declared.nodes.Rect.{Rect}
use Rattle.nv_layout.specs.declared.nodes.Side.{Side}
use Rattle.nv_layout.proofs.Asking.{split_asks_for_two}
use Rattle.nv_windows.specs.Workspace.{Page, Workspace, page_of, tabpage_of, plain_leaf}
use Rattle.nv_windows.specs.Rooms.{windows_area, text_area, rect_in, without_status, fits_screen, all_fit}
use Rattle.nv_windows.specs.Pages.{pages_of}
use Rattle.nv_windows.specs.Kept.{page_at}
use Rattle.nv_windows.specs.Sound.{IsSoundWorkspace, IsSoundPage}
use Rattle.nv_windows.specs.declared.window.Tabpage.{Tabpage}
use Rattle.nv_windows.proofs.Lists.{all-map, position-map, find_by_position, find_nowhere}

abbrev pub none_page : Page
none_page = record { handle = pos 0; tree = plain_leaf (pos 0); current = pos 0 }

pub page_there : (ts : List Tabpage) (i : ℕ) (t : Tabpage) → i < length ts → t ≡ get_or ts i t → get_or (pages_of ts) i none_page ≡ page_of t
page_there ts i t h is = get_or-map page_of ts i t none_page h ∙ ap page_of (sym is)

pub sound_at : (ws : Workspace) (i : ℕ) → IsSoundWorkspace ws → i < length ws.tabpages → IsSoundPage ws.width ws.height (page_at ws i)
sound_at ws i sound h = All-get_or (IsSoundPage ws.width ws.height) ws.tabpages i none_page h sound.pages

-- the window's tabpage, by its place
module _ (ws : Workspace) (w : ℤ) where
  pub home_found : (i : ℕ) → position (λ (t : Page). holds w t.tree) ws.tabpages ≡ Some i → tabpage_of ws w ≡ Some (page_at ws i)
  home_found i e = find_by_position (λ (t : Page). holds w t.tree) ws.tabpages i none_page e

  pub home_holds : (i : ℕ) → position (λ (t : Page). holds w t.tree) ws.tabpages ≡ Some i → holds w (page_at ws i).tree ≡ true
  home_holds i e = (position-Some (λ (t : Page). holds w t.tree) ws.tabpages i none_page e).1

  pub home_missing : position (λ (t : Page). holds w t.tree) ws.tabpages ≡ None → tabpage_of ws w ≡ None
  home_missing e = find_nowhere (λ (t : Page). holds w t.tree) ws.tabpages e

  pub area_missing : tabpage_of ws w ≡ None → text_area ws w ≡ None
  area_missing e = ap (λ o. option_map without_status (option_and_then (rect_in ws w) o)) e

  pub area_there : (i : ℕ) (t : Page) (o : Option Rect) → tabpage_of ws w ≡ Some t → o ≡ rect_among w (rects t.tree (windows_area ws)) → text_area ws w ≡ option_map without_status o
  area_there i t o e is = ap (λ p. option_map without_status (option_and_then (rect_in ws w) p)) e ∙ ap (option_map without_status) (sym is)

-- from places among what is kept
pub place_in_pages : (p : Page → Bool) (ts : List Tabpage) (o : Option ℕ) → o ≡ position (λ t. p (page_of t)) ts → position p (pages_of ts) ≡ o
place_in_pages p ts o e = position-map p page_of ts ∙ sym e

-- a tree in which a window is opened can be measured
pub opened_small : (ws : Workspace) (i : ℕ) (side : Side) (w : ℤ) (new : Leaf) (t : Shape) → IsSoundWorkspace ws → i < length ws.tabpages
    → t ≡ split side w new (page_at ws i).tree → IsMeasurable t
opened_small ws i side w new t sound h e =
    let page = sound_at ws i sound h in
    subst IsMeasurable (sym e) (
      omega (arith, split_asks_for_two side w new (page_at ws i).tree Across, page.roomy.wide, sound.width),
      omega (arith, split_asks_for_two side w new (page_at ws i).tree Down, page.roomy.high, sound.height),
    )

pub sound_small : (ws : Workspace) (i : ℕ) → IsSoundWorkspace ws → i < length ws.tabpages → IsMeasurable (page_at ws i).tree
sound_small ws i sound h = let page = sound_at ws i sound h in (omega (arith, page.roomy.wide, sound.width), omega (arith, page.roomy.high, sound.height))

-- the window's tabpage, from where it was looked for
pub home_is : (ts items : List Tabpage) (w v : ℤ) (o : Option ℕ) → ts ≡ items → v ≡ w → o ≡ position (λ (t : Tabpage). holds v (shape_of t.tree)) ts
    → position (λ (p : Page). holds w p.tree) (pages_of items) ≡ o
home_is ts items w v o same is e =
    place_in_pages (λ (p : Page). holds w p.tree) items o (e ∙ (λ i. position (λ (t : Tabpage). holds (is i) (shape_of t.tree)) (same i)))

pub fit_is : (width height : ℕ) (ts items : List Tabpage) (ws : Workspace) (b : Bool) → ts ≡ items → ws.tabpages ≡ pages_of items
    → b ≡ list_all (λ (t : Tabpage). fits_screen width height (shape_of t.tree)) ts → b ≡ all_fit width height ws
fit_is width height ts items ws b same is e =
    e ∙ ap (list_all (λ (t : Tabpage). fits_screen width height (shape_of t.tree))) same ∙ sym (all-map (λ (p : Page). fits_screen width height p.tree) page_of items)
    ∙ ap (list_all (λ (p : Page). fits_screen width height p.tree)) (sym is)

pub page_is : (ws : Workspace) (ts : List Tabpage) (i : ℕ) (t : Tabpage) → ws.tabpages ≡ pages_of ts → i < length ts → t ≡ get_or ts i t → page_at ws i ≡ page_of t
page_is ws ts i t same h is = ap (λ (ps : List Page). get_or ps i none_page) same ∙ page_there ts i t h is

pub same_there : (ts : List Tabpage) (i : ℕ) (t u : Tabpage) → i < length ts → t ≡ get_or ts i t → u ≡ get_or ts i u → t ≡ u
same_there ts i t u h is it = is ∙ get_or_default ts i t u h ∙ sym it

pub on_err : {A E : Type 0} (r : Result A E) (P : Type 0) → P → OnErr r P
on_err (Ok a) P p = tt
on_err (Err e) P p = p

pub all_small : (ts : List Tabpage) (ws : Workspace) → IsSoundWorkspace ws → ws.tabpages ≡ pages_of ts → All (λ (t : Tabpage). IsMeasurable (shape_of t.tree)) ts
all_small ts ws sound same k d h =
    subst (λ (p : Page). IsMeasurable p.tree) (page_is ws ts k (get_or ts k d) same h (get_or_default ts k d (get_or ts k d) h))
    (sound_small ws k sound (omega (arith, ap length same, length-map ts page_of)))

pub if_ok : {A E : Type 0} (r : Result A E) (P Q : A → Type 0) → ((a : A) → P a → Q a) → IfOk r P → IfOk r Q
if_ok (Ok a) P Q f h = f a h
if_ok (Err e) P Q f h = tt
