use Rattle.std.proofs.Common.{◌∙◌, ℕ, Bool, List, Option, Some, ap, arith, false, length, rules, subst, sym}
use Rattle.std.proofs.lemmas.List.{length-map}
use Rattle.nv_linegrid.specs.Scrolls.{Shift, rows_after_shifts}
use Rattle.nv_linegrid.specs.Told.{Told}
use Rattle.nv_screen.proofs.WholeScreens.{screens_are_whole}
use Rattle.nv_painter.specs.Pictures.{picture_of}
use Rattle.nv_painter.specs.declared.lent.LentRow.{LentRow}
use Rattle.nv_linegrid.specs.Client.{ShownRows}
use Rattle.nv_painter.specs.inside.Due.{AreKnown}
use Rattle.nv_painter.specs.inside.Last.{IsSketchOf}
use Rattle.nv_painter.specs.inside.Lent.{lent_cells, lent_rows}
use Rattle.nv_painter.specs.inside.Screens.{IsToldNext, TellsScreen}
use Rattle.nv_painter.specs.inside.Sketch.{IsSketch}
use Rattle.nv_painter.proofs.DueLemmas.{shifts_keep_sized, size_known}
use Rattle.nv_painter.proofs.LastLemmas.{sketch_told}
use Rattle.nv_painter.proofs.ToldLemmas.{next_is_whole}
use Rattle.nv_painter.proofs.told.told_of_sketch.Goals as goal

pub push_screen-requires-clause-high : goal.push_screen-requires-clause-high
push_screen-requires-clause-high c =
    let t : Told = record {
      size = c.old.inside.size;
      rows = c.old.inside.rows.items;
      attrs = c.old.inside.attrs.items;
      colours = c.old.inside.colours;
      cursor = c.old.inside.cursor;
      views = c.old.inside.views.items;
    } in
    let s = c.args.scene.now in
    let k = c.args.sketch.now in
    let is = subst (λ o. IsSketchOf o k.shifts.items k.flags.items k.known.items (lent_rows k.drawn.items) s) (sym c.old.view_is) c.requires.sketch in
    let sized = shifts_keep_sized s.width s.height c.as_slice-shifts.result.now t.rows
    (c.old.invariant (s.width, s.height) (size_known t.size s.width s.height is.size)) in
    omega (
      arith,
      ap length c.in_ok-rows.ensures,
      sized.high,
      (screens_are_whole s).high,
      is.sketch.high,
      length-map k.drawn.items lent_cells,
      ap length c.as_slice-3.ensures.value,
    )

pub push_screen-requires-clause-known : goal.push_screen-requires-clause-known
push_screen-requires-clause-known c =
    let t : Told = record {
      size = c.old.inside.size;
      rows = c.old.inside.rows.items;
      attrs = c.old.inside.attrs.items;
      colours = c.old.inside.colours;
      cursor = c.old.inside.cursor;
      views = c.old.inside.views.items;
    } in
    let s = c.args.scene.now in
    let k = c.args.sketch.now in
    let is = subst (λ o. IsSketchOf o k.shifts.items k.flags.items k.known.items (lent_rows k.drawn.items) s) (sym c.old.view_is) c.requires.sketch in
    let rows_are = c.in_ok-rows.ensures ∙ ap (λ m. rows_after_shifts m t.rows) c.as_slice-shifts.ensures.value in
    subst (λ (q : (List (Option (ℕ × ℕ)) × List LentRow) × ShownRows). AreKnown q.0.0 t.attrs (lent_rows q.0.1) q.1)
    (λ i. ((sym c.as_slice-2.ensures.value i, sym c.as_slice-3.ensures.value i), sym rows_are i)) is.places

pub invariant_of-told : goal.invariant_of-told
invariant_of-told c =
    let t : Told = record {
      size = c.old.inside.size;
      rows = c.old.inside.rows.items;
      attrs = c.old.inside.attrs.items;
      colours = c.old.inside.colours;
      cursor = c.old.inside.cursor;
      views = c.old.inside.views.items;
    } in
    let s = c.args.scene.now in
    let k = c.args.sketch.now in
    let drawn = lent_rows k.drawn.items in
    let is = subst (λ o. IsSketchOf o k.shifts.items k.flags.items k.known.items drawn s) (sym c.old.view_is) c.requires.sketch in
    let w = picture_of s in
    let rows_are = c.in_ok-rows.ensures ∙ ap (λ m. rows_after_shifts m t.rows) c.as_slice-shifts.ensures.value in
    let tells = subst (λ (m : List Shift). TellsScreen false m w.screen.rows t.attrs c.push_screen.new.attrs.items c.in_ok-rows.rows.items
    c.push_screen.new.rows.items c.push_colours.new.events.items c.push_screen.new.events.items) c.as_slice-shifts.ensures.value
    (c.in_ok-push_screen.ensures w.screen.rows
    (subst (λ (q : List Bool × List LentRow). IsSketch q.0 (lent_rows q.1) t.attrs c.in_ok-rows.rows.items w.screen.rows)
    (λ i. (sym c.as_slice.ensures.value i, sym c.as_slice-3.ensures.value i))
    (subst (λ l. IsSketch k.flags.items drawn t.attrs l w.screen.rows) (sym rows_are) is.sketch))) in
    let next = sketch_told t s k.shifts.items k.flags.items k.known.items drawn c.push_screen.new.attrs.items c.in_ok-rows.rows.items c.push_screen.new.rows.items
    c.args.cursor c.args.views.items
    c.push_colours.new.events.items c.push_screen.new.events.items c.push_end.new.events.items c.old.invariant c.requires.drawn is rows_are
    c.requires.cursor c.requires.views (search rules) tells (search rules) in
    next_is_whole t w _ _ c.old.invariant c.requires.drawn next

pub returns : goal.returns
returns c =
    let t : Told = record {
      size = c.old.inside.size;
      rows = c.old.inside.rows.items;
      attrs = c.old.inside.attrs.items;
      colours = c.old.inside.colours;
      cursor = c.old.inside.cursor;
      views = c.old.inside.views.items;
    } in
    let s = c.args.scene.now in
    let k = c.args.sketch.now in
    let drawn = lent_rows k.drawn.items in
    let is = subst (λ o. IsSketchOf o k.shifts.items k.flags.items k.known.items drawn s) (sym c.old.view_is) c.requires.sketch in
    let w = picture_of s in
    let rows_are = c.in_ok-rows.ensures ∙ ap (λ m. rows_after_shifts m t.rows) c.as_slice-shifts.ensures.value in
    let tells = subst (λ (m : List Shift). TellsScreen false m w.screen.rows t.attrs c.push_screen.new.attrs.items c.in_ok-rows.rows.items
    c.push_screen.new.rows.items c.push_colours.new.events.items c.push_screen.new.events.items) c.as_slice-shifts.ensures.value
    (c.in_ok-push_screen.ensures w.screen.rows
    (subst (λ (q : List Bool × List LentRow). IsSketch q.0 (lent_rows q.1) t.attrs c.in_ok-rows.rows.items w.screen.rows)
    (λ i. (sym c.as_slice.ensures.value i, sym c.as_slice-3.ensures.value i))
    (subst (λ l. IsSketch k.flags.items drawn t.attrs l w.screen.rows) (sym rows_are) is.sketch))) in
    let next = sketch_told t s k.shifts.items k.flags.items k.known.items drawn c.push_screen.new.attrs.items c.in_ok-rows.rows.items c.push_screen.new.rows.items
    c.args.cursor c.args.views.items
    c.push_colours.new.events.items c.push_screen.new.events.items c.push_end.new.events.items c.old.invariant c.requires.drawn is rows_are
    c.requires.cursor c.requires.views (search rules) tells (search rules) in
    subst (λ o. IsToldNext o w c.push_end.new.events.items (record {
      size = Some (s.width, s.height);
      rows = c.push_screen.new.rows.items;
      attrs = c.push_screen.new.attrs.items;
      colours = Some s.colours;
      cursor = Some c.args.cursor;
      views = c.args.views.items;
    }))
    c.old.view_is next
