use Rattle.std.proofs.Common.{◌≡◌, ◌<◌, ◌^◌, ◌∙◌, ℕ, [], All, ap, arith, false, get_or, length, rules, subst, sym, true}
use Rattle.std.proofs.lemmas.List.{length-map}
use Rattle.nv_linegrid.specs.Batch.{is_size}
use Rattle.nv_linegrid.specs.Scrolls.{rows_after_shifts, shifts_between}
use Rattle.nv_linegrid.specs.Told.{AreSized}
use Rattle.nv_screen.specs.Drawing.{drawn_rows}
use Rattle.nv_screen.proofs.WholeScreens.{screens_are_whole}
use Rattle.nv_painter.specs.Pictures.{picture_of, views_of}
use Rattle.nv_painter.specs.inside.Lent.{AreLent, lent_cells, lent_rows, placed_cells, placed_rows}
use Rattle.nv_painter.specs.inside.Moving.{EndsInReach, StayBut, StaysIn}
use Rattle.nv_painter.proofs.DueLemmas.{lent_are_short, same_width, shifts_keep_sized}
use Rattle.nv_painter.proofs.LastLemmas.{all_are_shown, all_drawn, known_are_shown}
use Rattle.nv_painter.proofs.LentLemmas.{lent_of_placed}
use Rattle.nv_painter.proofs.PictureLemmas.{sound_is_shown, views_end_in_reach}
use Rattle.nv_painter.proofs.sketch.sketch_after.Goals as goal

pub shifts_to-requires : goal.shifts_to-requires
shifts_to-requires c =
    let s = c.args.scene.now in
    let wide : s.width < 2 ^ 32 = search (rules, arith) in
    let high : s.height < 2 ^ 32 = search (rules, arith) in
    subst (All EndsInReach) (sym c.requires.views)
    (views_end_in_reach s.width s.height (views_of s.panes.items) wide high (sound_is_shown s c.requires.sound).views)

pub returns : goal.returns
returns c =
    let s = c.args.scene.now in
    let t = c.args.told.now in
    let screen = drawn_rows s in
    let whole = screens_are_whole s in
    let cleared = c.clear_moved.new.flags.items in
    let flags = c.flag_moved.new.flags.items in
    let shifts = c.in_ok-shifts.shifts.items in
    let drawn = c.in_ok-drawn.drawn.items in
    let placed : AreLent (placed_rows drawn) screen = c.in_ok-drawn.ensures.lent in
    let lent : AreLent (lent_rows drawn) screen = lent_of_placed drawn screen c.in_ok-drawn.ensures.lines placed in
    let size : is_size t.size s.width s.height ≡ true = search rules in
    let sized : AreSized s.width s.height t.rows = search rules in
    let wide : s.width < 2 ^ 32 = search (rules, arith) in
    let moved : shifts ≡ shifts_between t.views (views_of s.panes.items) =
    c.in_ok-shifts.ensures ∙ ap (shifts_between t.views) c.requires.views in
    let count : length (placed_rows drawn) ≡ length screen =
    length-map drawn placed_cells ∙ c.in_ok-drawn.ensures.count ∙ sym whole.high in
    let same : length (lent_rows drawn) ≡ length (placed_rows drawn) =
    length-map drawn lent_cells ∙ sym (length-map drawn placed_cells) in
    let there : (k : ℕ) → k < length drawn → get_or flags k false ≡ false → 0 < length (get_or (lent_rows drawn) k []) = search rules in
    let steady : (k : ℕ) → get_or cleared k false ≡ true → (get_or c.in_ok-flags.flags.items k false ≡ true) × StaysIn shifts k = search rules in
    let stay : StayBut shifts c.in_ok-known.known.items (drawn_rows c.args.last.now) (lent_rows drawn) = search rules in
    record {
      size = size;
      moves = moved;
      sketch = record {
        high = sym (same ∙ count);
        drawn_is = all_drawn flags (lent_rows drawn) screen (same ∙ count)
            (λ k lt e. lent k (there k (omega (arith, lt, length-map drawn lent_cells)) e));
        shown = all_are_shown t (picture_of c.args.last.now) shifts s.width s.height cleared flags (placed_rows drawn) screen c.requires.last.same
            sized (count ∙ whole.high) placed (search rules)
            (λ k e. (c.in_ok-flags.ensures.steady k (steady k e).0, (steady k e).1));
        wide = same_width s.width s.height (rows_after_shifts shifts t.rows) screen (shifts_keep_sized s.width s.height shifts t.rows sized)
            whole.high whole.wide;
      };
      places = known_are_shown t (picture_of c.args.last.now) shifts c.in_ok-known.known.items (lent_rows drawn) c.requires.last.same
          stay;
      short = lent_are_short s.width (lent_rows drawn) screen wide lent whole.wide;
    }
