-- The cells of a window.
use Rattle.std.proofs.Common.{◌≡◌, ℤ, ◌≤◌, Bool, true, false, cond, List, [], ◌∷◌, All, Option, Some, None, refl, subst, arith}
use Rattle.std.specs.Prelude.{find, option_map, option_and_then}
use Rattle.std.specs.Ordering.{int_eq}
use Rattle.std.proofs.lemmas.List.Elements.{All-head, All-tail}
use Rattle.nv_layout.specs.Places.{rects, rect_among}
use Rattle.nv_layout.specs.Tiling.{LiesIn, areas}
use Rattle.nv_layout.specs.declared.nodes.Placed.{Placed}
use Rattle.nv_layout.specs.declared.nodes.Rect.{Rect}
use Rattle.nv_layout.proofs.Apart.{rects_have_least_size, rects_lie_in_area}
use Rattle.nv_windows.specs.Rooms.{rect_in, text_area, windows_area, without_status}
use Rattle.nv_windows.specs.Sound.{IsSoundPage, IsSoundWorkspace}
use Rattle.nv_windows.specs.Workspace.{Page, Workspace, tabpage_of}
use Rattle.nv_scene.specs.inside.Settled.{IsTextArea}

-- what holds of each holds of one that is found
pub all_found : {X : Type 0} (P : X → Type 0) (p : X → Bool) (xs : List X) (x : X) → All P xs → find p xs ≡ Some x → P x
all_found P p [] x all e = cc
all_found P p (y ∷ ys) x all e = by (p y) e (λ f. all_found P p ys x (All-tail P y ys all) f)
  where
    by : (t : Bool) → cond t (Some y) (find p ys) ≡ Some x → (find p ys ≡ Some x → P x) → P x
    by true f rest = let same : y ≡ x = cc in subst P same (All-head P y ys all)
    by false f rest = rest f

rect_sound : (w : ℤ) (ps : List Placed) (r area : Rect) → All (λ (q : Rect). (1 ≤ q.width) × (2 ≤ q.height)) (areas ps) → All (LiesIn area) (areas ps)
    → rect_among w ps ≡ Some r → (1 ≤ r.width) × (2 ≤ r.height) × LiesIn area r
rect_sound w [] r area least inside e = cc
rect_sound w (p ∷ ps) r area least inside e =
    by (int_eq p.window w) e (λ f. rect_sound w ps r area (All-tail Least p.rect (areas ps) least) (All-tail (LiesIn area) p.rect (areas ps) inside) f)
  where
    Least : Rect → Type 0
    Least q = (1 ≤ q.width) × (2 ≤ q.height)

    by : (t : Bool) → option_map (λ (q : Placed). q.rect) (cond t (Some p) (find (λ q. int_eq q.window w) ps)) ≡ Some r
        → (rect_among w ps ≡ Some r → (1 ≤ r.width) × (2 ≤ r.height) × LiesIn area r) → (1 ≤ r.width) × (2 ≤ r.height) × LiesIn area r
    by true f rest =
        let same : p.rect ≡ r = cc in
        let here = All-head Least p.rect (areas ps) least in
        subst (λ (q : Rect). (1 ≤ q.width) × (2 ≤ q.height) × LiesIn area q) same (here.0, here.1, All-head (LiesIn area) p.rect (areas ps) inside)
    by false f rest = rest f

-- on a page
page_area : (ws : Workspace) (w : ℤ) (t : Page) (r : Rect) → IsSoundWorkspace ws → IsSoundPage ws.width ws.height t → rect_in ws w t ≡ Some r
    → IsTextArea (without_status r)
page_area ws w t r sound page e =
    let is = rect_sound w (rects t.tree (windows_area ws)) r (windows_area ws)
    (rects_have_least_size t.tree (windows_area ws) page.filled page.roomy) (rects_lie_in_area t.tree (windows_area ws) page.filled page.roomy) e in record {
      wide = omega (arith, is.0);
      high = omega (arith, is.1);
      low = omega (arith, is.2.bottom, sound.height);
      rows = omega (arith, is.2.bottom, sound.height);
      cols = omega (arith, is.2.right, sound.width);
    }

pub area_sound : (ws : Workspace) (w : ℤ) (area : Rect) → IsSoundWorkspace ws → text_area ws w ≡ Some area → IsTextArea area
area_sound ws w area sound e = on_page (tabpage_of ws w) refl e
  where
    by_rect : (t : Page) → tabpage_of ws w ≡ Some t → (o : Option Rect) → rect_in ws w t ≡ o → option_map without_status o ≡ Some area → IsTextArea area
    by_rect t found None there f = cc
    by_rect t found (Some r) there f =
        let same : without_status r ≡ area = cc in
        subst IsTextArea same (page_area ws w t r sound (all_found (IsSoundPage ws.width ws.height) _ ws.tabpages t sound.pages found) there)

    on_page : (o : Option Page) → tabpage_of ws w ≡ o → option_map without_status (option_and_then (rect_in ws w) o) ≡ Some area → IsTextArea area
    on_page None found f = cc
    on_page (Some t) found f = by_rect t found (rect_in ws w t) refl f
