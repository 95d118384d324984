use Rattle.std.proofs.Common.{◌≡◌, ◌∙◌, ◌++◌, [], None, Some, ap, cond, get_or, length, not, pos, rules, subst, sym}
use Rattle.std.proofs.lemmas.List.{length-map}
use Rattle.nv_linegrid.specs.declared.event.Redraw.TheVariants.{DefaultColors, Resize}
use Rattle.nv_linegrid.specs.Batch.{event_if, is_resized, same_colours}
use Rattle.nv_linegrid.specs.Client.{ShownRows}
use Rattle.nv_linegrid.specs.Scrolls.{rows_after_shifts}
use Rattle.nv_linegrid.specs.Told.{IsDrawn, Told, Wanted}
use Rattle.nv_painter.specs.inside.Lent.{lent_cells, lent_rows}
use Rattle.nv_painter.specs.inside.Moving.{moves, rows_to_move}
use Rattle.nv_painter.specs.inside.Screens.{IsToldNext}
use Rattle.nv_painter.proofs.DueLemmas.{rows_are_sized, same_width, whole_sketch}
use Rattle.nv_painter.proofs.ToldLemmas.{next_is_whole, rows_are_high, told_by}
use Rattle.nv_painter.proofs.told.told_screen.Goals as goal

pub push_screen-requires-clause-high : goal.push_screen-requires-clause-high
push_screen-requires-clause-high c =
    let t : Told = record {
      size = c.old.inside.size;
      rows = c.old.inside.rows.items;
      attrs = c.old.inside.attrs.items;
      colours = c.old.inside.colours;
      cursor = c.old.inside.cursor;
      views = c.old.inside.views.items;
    } in
    let w : Wanted = record { screen = c.args.screen.now; colours = c.args.colours; cursor = c.args.cursor; views = c.args.views.items } in
    let whole : IsDrawn w = c.requires in
    let r = not c.is_size-is_resized.result in
    let r_is : r ≡ is_resized t w = search rules in
    let shifts = c.as_slice-shifts.result.now in
    let rows = c.in_ok-rows.rows.items in
    let moved : shifts ≡ moves r t.views w.views = search rules in
    let rows_are : rows ≡ rows_after_shifts shifts (rows_to_move r t.rows w.screen) = search rules in
    let all_are = rows_are ∙ ap (λ m. rows_after_shifts m (rows_to_move r t.rows w.screen)) moved in
    let lent : lent_rows c.as_slice-3.result.now ≡ w.screen.rows = search rules in
    ap length all_are ∙ rows_are_high r t w r_is c.old.invariant whole ∙ sym (ap length lent)
    ∙ length-map c.as_slice-3.result.now lent_cells

pub invariant_of-told : goal.invariant_of-told
invariant_of-told c =
    let t : Told = record {
      size = c.old.inside.size;
      rows = c.old.inside.rows.items;
      attrs = c.old.inside.attrs.items;
      colours = c.old.inside.colours;
      cursor = c.old.inside.cursor;
      views = c.old.inside.views.items;
    } in
    let w : Wanted = record { screen = c.args.screen.now; colours = c.args.colours; cursor = c.args.cursor; views = c.args.views.items } in
    let whole : IsDrawn w = c.requires in
    let r = not c.is_size-is_resized.result in
    let r_is : r ≡ is_resized t w = search rules in
    let shifts = c.as_slice-shifts.result.now in
    let rows = c.in_ok-rows.rows.items in
    let moved : shifts ≡ moves r t.views w.views = search rules in
    let rows_are : rows ≡ rows_after_shifts shifts (rows_to_move r t.rows w.screen) = search rules in
    let all_are = rows_are ∙ ap (λ m. rows_after_shifts m (rows_to_move r t.rows w.screen)) moved in
    let drawn = lent_rows c.as_slice-3.result.now in
    let lent : drawn ≡ w.screen.rows = search rules in
    let sized = rows_are_sized r t w r_is c.old.invariant in
    let sketch = whole_sketch t.attrs drawn w.screen.rows rows lent
    (λ k. ap (λ (l : ShownRows). length (get_or l k [])) all_are
    ∙ same_width w.screen.width w.screen.height _ w.screen.rows sized whole.sized.high whole.sized.wide k) in
    let first : c.push_if.new.events.items ≡ event_if r (Resize (pos 1) w.screen.width w.screen.height) = search rules in
    let second : c.push_colours.new.events.items
    ≡ c.push_if.new.events.items ++ event_if (not (same_colours t.colours w.colours)) (DefaultColors w.colours) = search rules in
    let place : c.cursor_before-place.result ≡ cond r None t.cursor = search rules in
    let size : Some (c.width-width.result, c.height-height.result) ≡ Some (w.screen.width, w.screen.height) =
    λ i. Some (c.width-width.ensures i, c.height-height.ensures i) in
    let next = told_by t w r (Some (c.width-width.result, c.height-height.result)) shifts c.push_screen.new.attrs.items rows c.push_screen.new.rows.items c.cursor_before-place.result
    c.push_if.new.events.items c.push_colours.new.events.items c.push_screen.new.events.items c.push_end.new.events.items
    c.old.invariant whole r_is size moved rows_are place first second (c.in_ok-push_screen.ensures w.screen.rows sketch) c.in_ok-push_end.ensures in
    next_is_whole t w c.push_end.new.events.items (record {
      size = Some (c.width-width.result, c.height-height.result);
      rows = c.push_screen.new.rows.items;
      attrs = c.push_screen.new.attrs.items;
      colours = Some w.colours;
      cursor = Some w.cursor;
      views = w.views;
    })
    c.old.invariant whole next

pub returns : goal.returns
returns c =
    let t : Told = record {
      size = c.old.inside.size;
      rows = c.old.inside.rows.items;
      attrs = c.old.inside.attrs.items;
      colours = c.old.inside.colours;
      cursor = c.old.inside.cursor;
      views = c.old.inside.views.items;
    } in
    let w : Wanted = record { screen = c.args.screen.now; colours = c.args.colours; cursor = c.args.cursor; views = c.args.views.items } in
    let whole : IsDrawn w = c.requires in
    let r = not c.is_size-is_resized.result in
    let r_is : r ≡ is_resized t w = search rules in
    let shifts = c.as_slice-shifts.result.now in
    let rows = c.in_ok-rows.rows.items in
    let moved : shifts ≡ moves r t.views w.views = search rules in
    let rows_are : rows ≡ rows_after_shifts shifts (rows_to_move r t.rows w.screen) = search rules in
    let all_are = rows_are ∙ ap (λ m. rows_after_shifts m (rows_to_move r t.rows w.screen)) moved in
    let drawn = lent_rows c.as_slice-3.result.now in
    let lent : drawn ≡ w.screen.rows = search rules in
    let sized = rows_are_sized r t w r_is c.old.invariant in
    let sketch = whole_sketch t.attrs drawn w.screen.rows rows lent
    (λ k. ap (λ (l : ShownRows). length (get_or l k [])) all_are
    ∙ same_width w.screen.width w.screen.height _ w.screen.rows sized whole.sized.high whole.sized.wide k) in
    let first : c.push_if.new.events.items ≡ event_if r (Resize (pos 1) w.screen.width w.screen.height) = search rules in
    let second : c.push_colours.new.events.items
    ≡ c.push_if.new.events.items ++ event_if (not (same_colours t.colours w.colours)) (DefaultColors w.colours) = search rules in
    let place : c.cursor_before-place.result ≡ cond r None t.cursor = search rules in
    let size : Some (c.width-width.result, c.height-height.result) ≡ Some (w.screen.width, w.screen.height) =
    λ i. Some (c.width-width.ensures i, c.height-height.ensures i) in
    let next = told_by t w r (Some (c.width-width.result, c.height-height.result)) shifts c.push_screen.new.attrs.items rows c.push_screen.new.rows.items c.cursor_before-place.result
    c.push_if.new.events.items c.push_colours.new.events.items c.push_screen.new.events.items c.push_end.new.events.items
    c.old.invariant whole r_is size moved rows_are place first second (c.in_ok-push_screen.ensures w.screen.rows sketch) c.in_ok-push_end.ensures in
    subst (λ (q : Told). IsToldNext q w c.push_end.new.events.items (record {
      size = Some (c.width-width.result, c.height-height.result);
      rows = c.push_screen.new.rows.items;
      attrs = c.push_screen.new.attrs.items;
      colours = Some w.colours;
      cursor = Some w.cursor;
      views = w.views;
    }))
    c.old.view_is next
