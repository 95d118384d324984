-- An edit of a buffer, with the windows that show it.
use Rattle.std.proofs.Common.{◌≡◌, ◌≢◌, ℕ, ℤ, ◌+◌, ◌-◌, ◌<◌, ◌≤◌, Bool, true, false, cond, List, [], ◌∷◌, length, min, All, Option, Some, None, refl, sym, ap, subst, ◌∙◌, arith}
use Rattle.std.specs.Prelude.{IfSome}
use Rattle.std.specs.Ordering.{int_eq}
use Rattle.std.proofs.lemmas.Bool.Decides.{nat_tests}
use Rattle.std.proofs.lemmas.List.Elements.{All-map}
use Rattle.nv_places.specs.Flat.{line_at}
use Rattle.nv_places.specs.Places.{IsPlaceIn, IsNarrow}
use Rattle.nv_places.specs.Moves.{moved_place}
use Rattle.nv_places.specs.declared.place.Pos.{Pos}
use Rattle.nv_marks.specs.Marks.{Marks}
use Rattle.nv_marks.specs.declared.extmark.Paint.{Paint}
use Rattle.nv_hl.specs.Groups.{NamedGroup, HasGroup}
use Rattle.nv_buffer.specs.Changes.{Fits, lines_after}
use Rattle.nv_buffer.specs.Content.{Content, marks_by, kept_put_back}
use Rattle.nv_buffer.proofs.MarkOrders.{paint_after}
use Rattle.nv_buffer.specs.Splices.{IsBufferText, IsNarrowText}
use Rattle.nv_buffer.specs.declared.edit.Edit.{Edit}
use Rattle.nv_buffer.specs.declared.buffer.Spliced.{Spliced}
use Rattle.nv_buffer.proofs.Placing.{EndsNarrowly, ends_narrowly, place_moved, narrow_place}
use Rattle.nv_windows.specs.Sound.{IsSoundWorkspace}
use Rattle.nv_windows.specs.Views.{MovesNarrowlyIn, view_after, row_begin}
use Rattle.nv_windows.specs.declared.window.Window.{Window}
use Rattle.nv_windows.proofs.SoundLaws.{views_sound}
use Rattle.nv_model.specs.Buffers.{Splice}
use Rattle.nv_model.specs.Editors.{at_handle}
use Rattle.nv_model.specs.Stage.{Stage, view_in_line}
use Rattle.nv_model.proofs.Lookups.{same_int, int_eq-itself}
use Rattle.nv_model.proofs.Splicing.{edit_is}
use Rattle.nv_editor.specs.Sound.{IsSoundEditor, ShowsBuffer, ShowsText, IsOfGroups}
use Rattle.nv_editor.specs.inside.Splicing.{IsMade}
use Rattle.nv_editor.specs.inside.Table.{IsUpdatedAt, content_in}
use Rattle.nv_editor.specs.inside.Views.{move_by, view_carried, with_views}
use Rattle.nv_editor.proofs.StageKept.{editor_of}
use Rattle.nv_editor.proofs.Updating.{all_by, looked_up, sound_updated, painted_there}

-- an edit that fits was made
pub record IsEdited (b c : Content) (edit : Edit) : Type 0 where
  pub fits : Fits b.text edit
  pub before : IsBufferText b.text
  pub text : c.text ≡ lines_after b.text edit
  pub marks : c.marks ≡ marks_by b edit

pub made_is_edited : (b c : Content) (s : Splice) (event : Spliced) → IsMade b c s event → IsEdited b c event.edit
made_is_edited b c s event made =
    let is = edit_is b c s event made.spliced in
    let later : IsBufferText (lines_after b.text event.edit) = subst IsBufferText made.spliced.edit.lines made.later in record {
      fits = record {
        order = is.order;
        within = is.within;
        left = later.some;
        narrow = later.narrow;
        lines = is.lines;
        bytes = is.bytes;
        placed = is.placed;
      };
      before = made.text;
      text = made.spliced.edit.lines;
      marks = made.spliced.edit.marks;
    }

-- what a window shows of it before are places of the text
cursor_place : (lines : List (List ℕ)) (w : Window) → ShowsText lines w → IsPlaceIn lines w.cursor
cursor_place lines w shows = record { row = omega (arith, shows.cursor.row); col = omega (arith, shows.cursor.col) }

top_place : (lines : List (List ℕ)) (w : Window) → ShowsText lines w → IsPlaceIn lines (row_begin w.top)
top_place lines w shows = record { row = omega (arith, shows.top); col = omega arith }

pub narrowly : (b c : Content) (edit : Edit) → IsEdited b c edit → EndsNarrowly edit
narrowly b c edit is = ends_narrowly b.text edit is.before is.fits

moved_narrow : (b c : Content) (edit : Edit) (p : Pos) → IsEdited b c edit → IsPlaceIn b.text p
    → IsNarrow (moved_place false edit.start edit.removed edit.put p)
moved_narrow b c edit p is in_text =
    narrow_place (lines_after b.text edit) (moved_place false edit.start edit.removed edit.put p) is.fits.narrow
    (place_moved b.text edit false p is.before is.fits in_text)

shown_text : (bs : List (ℤ × Content)) (n : ℤ) (b : Content) (w : Window) → at_handle bs n ≡ Some b → int_eq w.buffer n ≡ true
    → ShowsBuffer (at_handle bs w.buffer) w → ShowsText b.text w
shown_text bs n b w there is shows =
    subst (λ (o : Option Content). ShowsBuffer o w) there (subst (λ (k : ℤ). ShowsBuffer (at_handle bs k) w) (same_int w.buffer n is) shows)

pub moves_narrowly : (bs later : List (ℤ × Content)) (stage : Stage) (n : ℤ) (edit : Edit) → IsSoundEditor (editor_of bs stage)
    → IsUpdatedAt n bs later → IsEdited (content_in bs n) (content_in later n) edit
    → All (MovesNarrowlyIn n (move_by edit (content_in later n).text)) stage.workspace.windows
moves_narrowly bs later stage n edit sound is edited =
    all_by (λ (w : Window). ShowsBuffer (at_handle bs w.buffer) w) (MovesNarrowlyIn n (move_by edit (content_in later n).text))
    (λ w shows. record {
      cursor = λ here. moved_narrow (content_in bs n) (content_in later n) edit w.cursor edited
          (cursor_place (content_in bs n).text w (shown_text bs n (content_in bs n) w is.was here shows));
      top = λ here. moved_narrow (content_in bs n) (content_in later n) edit (row_begin w.top) edited
          (top_place (content_in bs n).text w (shown_text bs n (content_in bs n) w is.was here shows));
    })
    stage.workspace.windows sound.shown

-- a window stands in the text afterwards
row_kept : (n row : ℕ) → 0 < n → min row (n - 1) < n
row_kept n row some = grind (arith, nat_tests)

col_kept : (col most : ℕ) → min col most ≤ most
col_kept col most = grind (arith, nat_tests)

view_stands : (lines : List (List ℕ)) (edit : Edit) (w : Window) → 0 < length lines
    → ShowsText lines (view_in_line lines (view_after (move_by edit lines) w))
view_stands lines edit w some = record {
  cursor = record {
    row = row_kept (length lines) (moved_place false edit.start edit.removed edit.put w.cursor).row some;
    col = col_kept _ _;
  };
  top = row_kept (length lines) (moved_place false edit.start edit.removed edit.put (row_begin w.top)).row some;
}

-- it shows the buffer that it showed
view_shows : (bs later : List (ℤ × Content)) (n : ℤ) (edit : Edit) → IsUpdatedAt n bs later → 0 < length (content_in later n).text → (w : Window)
    → ShowsBuffer (at_handle bs w.buffer) w
    → ShowsBuffer (at_handle later (view_carried n edit (content_in later n).text w).buffer) (view_carried n edit (content_in later n).text w)
view_shows bs later n edit is some w shows = by_case (int_eq w.buffer n) refl
  where
    by_case : (t : Bool) → int_eq w.buffer n ≡ t
        → ShowsBuffer (at_handle later (cond t (view_in_line (content_in later n).text (view_after (move_by edit (content_in later n).text) w)) w).buffer) (cond t (view_in_line (content_in later n).text (view_after (move_by edit (content_in later n).text) w)) w)
    by_case true here =
        let stands : ShowsBuffer (at_handle later n) (view_in_line (content_in later n).text (view_after (move_by edit (content_in later n).text) w)) =
        subst (λ (o : Option Content). ShowsBuffer o (view_in_line (content_in later n).text (view_after (move_by edit (content_in later n).text) w))) (sym is.becomes)
        (view_stands (content_in later n).text edit w some) in
        subst (λ (k : ℤ). ShowsBuffer (at_handle later k) (view_in_line (content_in later n).text (view_after (move_by edit (content_in later n).text) w)))
        (sym (same_int w.buffer n here)) stands
    by_case false elsewhere =
        subst (λ (o : Option Content). ShowsBuffer o w) (sym (is.others w.buffer other)) shows
      where
        other : w.buffer ≢ n
        other e =
            let itself : int_eq n n ≡ true = int_eq-itself n in
            let apart : int_eq n n ≡ false = subst (λ (k : ℤ). int_eq k n ≡ false) e elsewhere in
            let both = sym itself ∙ apart in cc

keeps_handle : (t : Bool) (v w : Window) → v.handle ≡ w.handle → (cond t v w).handle ≡ w.handle
keeps_handle true v w e = e
keeps_handle false v w e = refl

-- marks keep their groups
marks_paint : (groups : List NamedGroup) (edit : Edit) (b : Content) → All (IsOfGroups groups) b.marks.marks → All (IsOfGroups groups) (marks_by b edit).marks
marks_paint groups edit b all = paint_after (λ o. IfSome o (λ p. HasGroup groups p.group)) (kept_put_back b edit) b.marks edit all

-- the editor stays sound
pub edited_sound : (bs later : List (ℤ × Content)) (stage : Stage) (n : ℤ) (edit : Edit) → IsSoundEditor (editor_of bs stage)
    → IsUpdatedAt n bs later → IsEdited (content_in bs n) (content_in later n) edit
    → IsSoundEditor (editor_of later (record stage { workspace = with_views n edit (content_in later n).text stage.workspace }))
edited_sound bs later stage n edit sound is edited =
    let lines : List (List ℕ) = (content_in later n).text in
    let some : 0 < length lines = subst (λ (t : List (List ℕ)). 0 < length t) (sym edited.text) edited.fits.left in
    sound_updated bs later stage (record stage { workspace = with_views n edit lines stage.workspace }) n sound is
    (views_sound stage.workspace (view_carried n edit lines)
    (λ v. keeps_handle (int_eq v.buffer n) (view_in_line lines (view_after (move_by edit lines) v)) v refl) sound.workspace)
    refl refl
    (All-map (λ (w : Window). ShowsBuffer (at_handle later w.buffer) w) (view_carried n edit lines) stage.workspace.windows
    (all_by (λ (w : Window). ShowsBuffer (at_handle bs w.buffer) w)
    (λ (w : Window). ShowsBuffer (at_handle later (view_carried n edit lines w).buffer) (view_carried n edit lines w))
    (view_shows bs later n edit is some) stage.workspace.windows sound.shown))
    (subst (λ (k : Marks). All (IsOfGroups stage.groups) k.marks) (sym edited.marks)
    (marks_paint stage.groups edit (content_in bs n) (painted_there bs later stage n sound is)))
    sound.uis
