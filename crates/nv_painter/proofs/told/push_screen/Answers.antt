use Rattle.std.proofs.Common.{◌≡◌, ◌∙◌, ◌++◌, ℕ, suc, pos, List, Option, ap, drop, length, map, rules, subst, sym}
use Rattle.nv_hl.specs.declared.attribute.Attr.{Attr}
use Rattle.nv_linegrid.specs.declared.event.Redraw.{Redraw}
use Rattle.nv_linegrid.specs.declared.event.Redraw.TheVariants.{Clear}
use Rattle.nv_linegrid.specs.Batch.{attrs_defined, event_if}
use Rattle.nv_linegrid.specs.Client.{ShownRows}
use Rattle.nv_linegrid.specs.Rows.{lines_of_rows}
use Rattle.nv_linegrid.specs.Scrolls.{scroll_of}
use Rattle.nv_linegrid.specs.Told.{known_rows, shown_rows, with_attrs_of_rows}
use Rattle.nv_linegrid.proofs.TableLemmas.{Grows, rows_grow}
use Rattle.nv_painter.specs.inside.Due.{AreDue, AreKnown}
use Rattle.nv_painter.specs.inside.Lent.{lent_rows}
use Rattle.nv_painter.specs.inside.Sketch.{IsSketch}
use Rattle.nv_painter.proofs.DueLemmas.{due_grows}
use Rattle.nv_painter.proofs.told.push_screen.Goals as goal

pub dues_of-requires-clause-known : goal.dues_of-requires-clause-known
dues_of-requires-clause-known c =
    subst (λ (q : List Attr × ShownRows). AreKnown c.args.sketch.known.now q.0 (lent_rows c.args.sketch.drawn.now) q.1)
    (λ i. (sym c.as_slice.ensures.value i, sym c.as_slice-2.ensures.value i)) c.requires.known

pub returns : goal.returns
returns c screen sketch =
    let drawn = lent_rows c.args.sketch.drawn.now in
    let flags = c.args.sketch.flags.now in
    let old = c.args.attrs.now.items in
    let rows = c.args.rows.now.items in
    let attrs = c.add_attrs_of_rows.new.attrs.items in
    let dues = c.in_ok-dues.dues.items in
    let shifts = c.args.sketch.shifts.now in
    let seen : IsSketch flags drawn c.as_slice.result.now c.as_slice-2.result.now screen =
    subst (λ (q : List Attr × ShownRows). IsSketch flags drawn q.0 q.1 screen) (λ i. (sym c.as_slice.ensures.value i, sym c.as_slice-2.ensures.value i)) sketch in
    let due : AreDue dues drawn old rows screen =
    subst (λ (q : List Attr × ShownRows). AreDue dues drawn q.0 q.1 screen) (λ i. (c.as_slice.ensures.value i, c.as_slice-2.ensures.value i))
    (c.in_ok-dues.ensures screen seen) in
    let attrs_are : attrs ≡ with_attrs_of_rows old screen =
    c.in_ok-add_attrs_of_rows.ensures rows screen (subst (λ (l : List (Option (ℕ × ℕ))). AreDue l drawn old rows screen) (sym c.as_slice-3.ensures.value) due) in
    let grown : AreDue dues drawn attrs rows screen = due_grows dues drawn old attrs rows screen (subst (Grows old) (sym attrs_are) (rows_grow old screen)) due in
    let all : AreDue c.as_slice-6.result.now drawn c.as_slice-5.result.now rows screen =
    subst (λ (q : List (Option (ℕ × ℕ)) × List Attr). AreDue q.0 drawn q.1 rows screen) (λ i. (sym c.as_slice-6.ensures.value i, sym c.as_slice-5.ensures.value i)) grown in
    let e0 = c.args.events.now.items in
    let e3 = e0 ++ attrs_defined (suc (length old)) (drop (length old) attrs) in
    let e4 = e3 ++ event_if c.args.is_resized (Clear (pos 1)) in
    let count : c.len-count.result ≡ length old = search rules in
    let s3 : c.push_attrs.new.events.items ≡ e3 =
    c.in_ok-push_attrs.ensures
    ∙ (λ i. e0 ++ attrs_defined (suc (count i)) (drop (count i) (c.as_slice-4.ensures.value i))) in
    let s4 : c.push_if.new.events.items ≡ e4 =
    c.in_ok-push_if.ensures ∙ ap (λ (l : List Redraw). l ++ event_if c.args.is_resized (Clear (pos 1))) s3 in
    let s5 : c.push_scrolls.new.events.items ≡ e4 ++ map scroll_of shifts =
    c.in_ok-push_scrolls.ensures ∙ ap (λ (l : List Redraw). l ++ map scroll_of shifts) s4 in
    record {
      attrs_are = attrs_are;
      rows_are = c.in_ok-push_rows.ensures.rows screen all ∙ ap (λ l. known_rows (shown_rows l screen)) c.as_slice-5.ensures.value;
      events_are = c.in_ok-push_rows.ensures.events screen all
          ∙ (λ i. s5 i ++ lines_of_rows 0 rows (shown_rows (c.as_slice-5.ensures.value i) screen));
    }
