-- A window alone on a screen is a sound scene.
use Rattle.std.proofs.Common.{◌≡◌, ◌≤◌, ◌<◌, ◌+◌, ◌*◌, ℕ, pos, leb, ltb, Bool, true, false, cond, ◌&&◌, [], ◌∷◌, ◌++◌, length, map, MatchOption, Some, None, ap, sym, subst, ◌∙◌, arith}
use Rattle.std.proofs.lemmas.Bool.Decides.{Decides-int_eq}
use Rattle.std.proofs.lemmas.Map.Keys.{IsDistinct-cons}
use Rattle.std.specs.List.{AllByRecursion, IsDistinct}
use Rattle.std.specs.Ordering.{int_eq}
use Rattle.nv_layout.specs.declared.nodes.Rect.{Rect}
use Rattle.nv_layout.specs.Tiling.{LiesIn, times_in}
use Rattle.nv_screen.specs.declared.scene.Pane.{Pane}
use Rattle.nv_screen.specs.declared.scene.Scene.{Scene}
use Rattle.nv_screen.specs.Sound.{HasCursor, IsSoundPane, IsSoundPatch, IsSoundScene, IsSoundSpot, pane_area, scene_areas, whole_screen}
use Rattle.nv_painter.specs.inside.Lone.{IsLonePane}

once_at_most : (row col : ℕ) (r : Rect) → times_in row col (r ∷ []) ≤ 1
once_at_most row col r =
    by (leb r.row row && ltb row (r.row + r.height)) (leb r.col col && ltb col (r.col + r.width))
  where
    by : (a b : Bool) → cond a 1 0 * cond b 1 0 + 0 ≤ 1
    by true true = omega arith
    by true false = omega arith
    by false true = omega arith
    by false false = omega arith

no_windows : IsDistinct int_eq []
unfolding IsDistinct
no_windows = tt

pub lone_is_sound : (s : Scene) (p : Pane) → IsLonePane s.width s.height p → s.panes.items ≡ p ∷ [] → s.separators.items ≡ []
    → s.patches.items ≡ [] → s.cursor.window ≡ pos 1000 → s.cursor.byte ≡ 0 → p.top ≤ s.cursor.row
    → s.cursor.row < p.top + length p.lines.items → IsSoundScene s
lone_is_sound s p lone panes_is separators_is patches_is window_is byte_is first last =
    let areas : scene_areas s ≡ pane_area p ∷ [] = λ i. map pane_area (panes_is i) ++ separators_is i in
    let same : int_eq p.window s.cursor.window ≡ true = (Decides-int_eq p.window s.cursor.window).1 (lone.window ∙ sym window_is) in
    let spot : IsSoundSpot p s.cursor = record { first = first; last = last; byte = omega (arith, byte_is) } in
    record {
      wide = lone.wide;
      high = omega (arith, lone.high);
      panes = subst (AllByRecursion IsSoundPane) (sym panes_is) (
        record {
          wide = omega (arith, lone.wide, lone.width_is);
          high = omega (arith, lone.high, lone.height_is);
          stop = lone.stop;
          count = lone.count;
          rows = lone.rows;
        },
        tt,
      );
      separators = subst (AllByRecursion (λ (r : Rect). (r.width ≡ 1) × (0 < r.height))) (sym separators_is) tt;
      inside = subst (AllByRecursion (LiesIn (whole_screen s))) (sym areas) (
        record {
          top = omega (arith, lone.row);
          bottom = omega (arith, lone.row, lone.height_is);
          left = omega (arith, lone.col);
          right = omega (arith, lone.col, lone.width_is);
        },
        tt,
      );
      apart = λ row col. subst (λ rs. times_in row col rs ≤ 1) (sym areas) (once_at_most row col (pane_area p));
      windows = subst (IsDistinct int_eq) (sym (ap (map (λ (q : Pane). q.window)) panes_is)) (IsDistinct-cons int_eq p.window [] tt no_windows);
      cursor = subst (λ ps. HasCursor ps s.cursor) (sym panes_is)
          (subst (λ b. MatchOption (cond b (Some p) None) ⊥ (λ q. IsSoundSpot q s.cursor)) (sym same) spot);
      patches = subst (AllByRecursion (IsSoundPatch s.width s.height)) (sym patches_is) tt;
    }
