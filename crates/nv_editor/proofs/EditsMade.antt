-- An editor after an edit of one buffer stays sound.
use Rattle.std.proofs.Common.{◌≡◌, ◌≢◌, ℕ, suc, ℤ, pos, ◌+◌, ◌-◌, ◌+ℤ◌, ◌^◌, ◌<◌, ◌≤◌, List, [], ◌∷◌, ◌++◌, length, map, fold, flat_map, min, refl, ap, sym, ◌∙◌, arith, Bool, true, false, cond, subst, Option, Some, None, All, slice_get, length-append}
use Rattle.std.specs.Prelude.{IfSome, option_map}
use Rattle.std.specs.Ordering.{int_eq}
use Rattle.std.proofs.lemmas.List.Elements.{All-map}
use Rattle.nv_places.specs.Flat.{IsLine, line_at}
use Rattle.nv_places.specs.Places.{IsPlaceIn}
use Rattle.nv_places.specs.Moves.{moved_place}
use Rattle.nv_places.specs.declared.place.Pos.{Pos}
use Rattle.nv_hl.specs.Groups.{NamedGroup, HasGroup}
use Rattle.nv_undo.specs.Tree.{Undo, IsTree, numbered, change_of, tree_after_leg}
use Rattle.nv_undo.specs.declared.legs.Leg.{Leg}
use Rattle.nv_buffer.specs.Content.{Content, after_edit, after_seal, after_seal_of, marks_by, kept_put_back}
use Rattle.nv_buffer.specs.Changes.{Fits, lines_after, text_at}
use Rattle.nv_buffer.proofs.MarkOrders.{paint_after}
use Rattle.nv_buffer.specs.Splices.{IsBufferText}
use Rattle.nv_buffer.specs.Steps.{IsBuffer, kept_count}
use Rattle.nv_buffer.specs.declared.edit.Edit.{Edit}
use Rattle.nv_buffer.proofs.Placing.{narrow_place, place_moved}
use Rattle.nv_windows.specs.Sound.{IsSoundWorkspace}
use Rattle.nv_windows.specs.Views.{MovesNarrowlyIn, view_after, place_after, row_begin}
use Rattle.nv_windows.specs.declared.window.Window.{Window}
use Rattle.nv_windows.proofs.SoundLaws.{views_sound}
use Rattle.nv_model.specs.Editors.{at_handle}
use Rattle.nv_model.specs.Stage.{Stage, view_in_line}
use Rattle.nv_model.specs.Standing.{IsEditOf, AreEditsOf, IsChangeOf}
use Rattle.nv_model.proofs.BytesPut.{edits-push}
use Rattle.nv_model.proofs.Lookups.{same_int, int_eq-itself}
use Rattle.nv_editor.specs.Sound.{IsSoundEditor, ShowsText, ShowsBuffer, IsOfGroups}
use Rattle.nv_editor.specs.inside.Kept.{AreKeptEdits}
use Rattle.nv_editor.specs.inside.Table.{IsUpdatedAt, content_in, is_among, IsKeptBuffer, AreKeptBuffers}
use Rattle.nv_editor.specs.inside.Views.{move_by, view_carried, with_views}
use Rattle.nv_editor.proofs.KeptEdits.{seal_kept_edits, gone_kept_edits}
use Rattle.nv_editor.proofs.StageKept.{editor_of}
use Rattle.nv_editor.proofs.Updating.{all_by, sound_updated, option_sound, kept_updated, painted_there}
use Rattle.nv_editor.proofs.WindowsKept.{AreShown}

-- the groups of marks that an edit moves
pub painted_after : (groups : List NamedGroup) (b : Content) (edit : Edit) → All (IsOfGroups groups) b.marks.marks
    → All (IsOfGroups groups) (marks_by b edit).marks
painted_after groups b edit are = paint_after (λ o. IfSome o (λ p. HasGroup groups p.group)) (kept_put_back b edit) b.marks edit are

-- ---- windows
view_shows : (lines : List (List ℕ)) (edit : Edit) (w : Window) → 0 < length lines
    → ShowsText lines (view_in_line lines (view_after (move_by edit lines) w))
view_shows lines edit w some = record { cursor = record { row = omega arith; col = omega arith }; top = omega arith }

window_shown : (bs later : List (ℤ × Content)) (n : ℤ) (edit : Edit) (lines : List (List ℕ)) → IsUpdatedAt n bs later
    → (content_in later n).text ≡ lines → 0 < length lines → (w : Window) → ShowsBuffer (at_handle bs w.buffer) w
    → ShowsBuffer (at_handle later (view_carried n edit lines w).buffer) (view_carried n edit lines w)
window_shown bs later n edit lines is text some w shows = by (int_eq w.buffer n) refl
  where
    by : (t : Bool) → int_eq w.buffer n ≡ t
        → ShowsBuffer (at_handle later (cond t (view_in_line lines (view_after (move_by edit lines) w)) w).buffer)
        (cond t (view_in_line lines (view_after (move_by edit lines) w)) w)
    by true same =
        let v : Window = view_in_line lines (view_after (move_by edit lines) w) in
        let now : ShowsText (content_in later n).text v = subst (λ (t : List (List ℕ)). ShowsText t v) (sym text) (view_shows lines edit w some) in
        let there : at_handle later w.buffer ≡ Some (content_in later n) = ap (at_handle later) (same_int w.buffer n same) ∙ is.becomes in
        subst (λ (o : Option Content). ShowsBuffer o v) (sym there) now
    by false apart =
        subst (λ (o : Option Content). ShowsBuffer o w) (sym (is.others w.buffer (λ (e : w.buffer ≡ n). differ e))) shows
      where
        differ : w.buffer ≡ n → ⊥
        differ e = let here : int_eq n n ≡ false = subst (λ (k : ℤ). int_eq k n ≡ false) e apart in let itself = int_eq-itself n in cc

pub shown_after : (bs later : List (ℤ × Content)) (n : ℤ) (edit : Edit) (lines : List (List ℕ)) (ws : List Window) → IsUpdatedAt n bs later
    → (content_in later n).text ≡ lines → 0 < length lines → AreShown bs ws → AreShown later (map (view_carried n edit lines) ws)
shown_after bs later n edit lines ws is text some are =
    All-map (λ (w : Window). ShowsBuffer (at_handle later w.buffer) w) (view_carried n edit lines) ws
    (all_by (λ (w : Window). ShowsBuffer (at_handle bs w.buffer) w)
    (λ (w : Window). ShowsBuffer (at_handle later (view_carried n edit lines w).buffer) (view_carried n edit lines w))
    (window_shown bs later n edit lines is text some) ws are)

-- their places stay numbers of 32 bits
window_narrowly : (bs : List (ℤ × Content)) (n : ℤ) (b : Content) (edit : Edit) → at_handle bs n ≡ Some b → IsBufferText b.text → Fits b.text edit
    → (w : Window) → ShowsBuffer (at_handle bs w.buffer) w → MovesNarrowlyIn n (move_by edit (lines_after b.text edit)) w
window_narrowly bs n b edit there is fits w shows = record {
  cursor = λ same.
      let s = shows_here same in
      narrow_place (lines_after b.text edit) (moved_place false edit.start edit.removed edit.put w.cursor) fits.narrow
      (place_moved b.text edit false w.cursor is fits (record { row = omega (arith, s.cursor.row); col = omega (arith, s.cursor.col) }));
  top = λ same.
      let s = shows_here same in
      narrow_place (lines_after b.text edit) (moved_place false edit.start edit.removed edit.put (row_begin w.top)) fits.narrow
      (place_moved b.text edit false (row_begin w.top) is fits (record { row = omega (arith, s.top); col = omega arith }));
}
  where
    shows_here : int_eq w.buffer n ≡ true → ShowsText b.text w
    shows_here same =
        subst (λ (o : Option Content). ShowsBuffer o w) there
        (subst (λ (k : ℤ). ShowsBuffer (at_handle bs k) w) (same_int w.buffer n same) shows)

pub views_narrowly : (bs : List (ℤ × Content)) (n : ℤ) (b : Content) (edit : Edit) (ws : List Window) → at_handle bs n ≡ Some b
    → IsBufferText b.text → Fits b.text edit → AreShown bs ws → All (MovesNarrowlyIn n (move_by edit (lines_after b.text edit))) ws
views_narrowly bs n b edit ws there is fits are =
    all_by (λ (w : Window). ShowsBuffer (at_handle bs w.buffer) w) (MovesNarrowlyIn n (move_by edit (lines_after b.text edit)))
    (window_narrowly bs n b edit there is fits) ws are

-- ---- the editor
carried_handle : (n : ℤ) (edit : Edit) (lines : List (List ℕ)) (w : Window) → (view_carried n edit lines w).handle ≡ w.handle
carried_handle n edit lines w = by (int_eq w.buffer n)
  where
    by : (t : Bool) → (cond t (view_in_line lines (view_after (move_by edit lines) w)) w).handle ≡ w.handle
    by true = refl
    by false = refl

pub edit_sound : (bs later : List (ℤ × Content)) (stage new : Stage) (n : ℤ) (edit : Edit) → IsSoundEditor (editor_of bs stage) → IsUpdatedAt n bs later
    → content_in later n ≡ after_edit (content_in bs n) edit → Fits (content_in bs n).text edit
    → new ≡ record stage { workspace = with_views n edit (lines_after (content_in bs n).text edit) stage.workspace }
    → IsSoundEditor (editor_of later new)
edit_sound bs later stage new n edit sound is made fits put =
    let lines : List (List ℕ) = lines_after (content_in bs n).text edit in
    let next : IsSoundEditor (editor_of later (record stage { workspace = with_views n edit (lines_after (content_in bs n).text edit) stage.workspace })) =
    sound_updated bs later stage (record stage { workspace = with_views n edit (lines_after (content_in bs n).text edit) stage.workspace }) n sound is
    (views_sound stage.workspace (view_carried n edit (lines_after (content_in bs n).text edit)) (carried_handle n edit (lines_after (content_in bs n).text edit)) sound.workspace)
    refl refl
    (shown_after bs later n edit (lines_after (content_in bs n).text edit) stage.workspace.windows is (ap (λ (c : Content). c.text) made) fits.left sound.shown)
    (subst (λ (c : Content). All (IsOfGroups stage.groups) c.marks.marks) (sym made)
    (painted_after stage.groups (content_in bs n) edit (painted_there bs later stage n sound is))) sound.uis in
    subst (λ (s : Stage). IsSoundEditor (editor_of later s)) (sym put) next

-- where the buffer stayed
pub stayed_sound : (bs later : List (ℤ × Content)) (stage : Stage) (n : ℤ) → IsSoundEditor (editor_of bs stage) → IsUpdatedAt n bs later
    → content_in later n ≡ content_in bs n → IsSoundEditor (editor_of later stage)
stayed_sound bs later stage n sound is same =
    option_sound bs later stage n sound is (ap (λ (c : Content). c.text) same) (ap (λ (c : Content). c.marks) same)

-- ---- what is known of each buffer
pub stayed_kept : (edited more : List ℤ) (bs later : List (ℤ × Content)) (n : ℤ) → AreKeptBuffers edited bs → IsUpdatedAt n bs later
    → ((k : ℤ) → is_among k more ≡ false → is_among k edited ≡ false) → content_in later n ≡ content_in bs n → AreKeptBuffers more later
stayed_kept edited more bs later n kept is grows same =
    let was = kept n (content_in bs n) is.was in
    kept_updated edited more bs later n kept is
    (subst (λ (c : Content). IsKeptBuffer more n c) (sym same) (record { edits = was.edits; sealed = λ outside. was.sealed (grows n outside) })) grows

pub grown_kept : (edited more : List ℤ) (bs : List (ℤ × Content)) → AreKeptBuffers edited bs
    → ((k : ℤ) → is_among k more ≡ false → is_among k edited ≡ false) → AreKeptBuffers more bs
grown_kept edited more bs kept grows = λ n b there.
    let was = kept n b there in record { edits = was.edits; sealed = λ outside. was.sealed (grows n outside) }

pub edit_kept : (edited more : List ℤ) (bs later : List (ℤ × Content)) (n : ℤ) (edit : Edit) → AreKeptBuffers edited bs → IsUpdatedAt n bs later
    → content_in later n ≡ after_edit (content_in bs n) edit → IsEditOf (content_in bs n).text edit
    → (content_in bs n).text ≡ fold lines_after (text_at (content_in bs n).undo (content_in bs n).undo.current) (content_in bs n).unsealed
    → is_among n more ≡ true → ((k : ℤ) → is_among k more ≡ false → is_among k edited ≡ false) → AreKeptBuffers more later
edit_kept edited more bs later n edit kept is made of_text now noted grows =
    let was = kept n (content_in bs n) is.was in
    let base : List (List ℕ) = text_at (content_in bs n).undo (content_in bs n).undo.current in
    let next : IsKeptBuffer more n (after_edit (content_in bs n) edit) = record {
      edits = record {
        changes = was.edits.changes;
        edits = edits-push (text_at (content_in bs n).undo (content_in bs n).undo.current) (content_in bs n).unsealed (content_in bs n).text edit now was.edits.edits of_text;
      };
      sealed = λ outside. absurd (both noted outside);
    } in
    kept_updated edited more bs later n kept is (subst (λ (c : Content). IsKeptBuffer more n c) (sym made) next) grows
  where
    both : is_among n more ≡ true → is_among n more ≡ false → ⊥
    both noted apart = cc

-- ---- the open change closed
sealed_text : (b : Content) → (after_seal b).text ≡ b.text
sealed_text b = by b.unsealed
  where
    by : (es : List Edit) → (after_seal_of b es).text ≡ b.text
    by [] = refl
    by (e ∷ es) = refl

sealed_marks : (b : Content) → (after_seal b).marks ≡ b.marks
sealed_marks b = by b.unsealed
  where
    by : (es : List Edit) → (after_seal_of b es).marks ≡ b.marks
    by [] = refl
    by (e ∷ es) = refl

pub seal_sound : (bs later : List (ℤ × Content)) (stage : Stage) (n : ℤ) → IsSoundEditor (editor_of bs stage) → IsUpdatedAt n bs later
    → content_in later n ≡ after_seal (content_in bs n) → IsSoundEditor (editor_of later stage)
seal_sound bs later stage n sound is made =
    option_sound bs later stage n sound is (ap (λ (c : Content). c.text) made ∙ sealed_text (content_in bs n))
    (ap (λ (c : Content). c.marks) made ∙ sealed_marks (content_in bs n))

pub seal_kept : (edited : List ℤ) (bs later : List (ℤ × Content)) (n : ℤ) → AreKeptBuffers edited bs → IsUpdatedAt n bs later
    → content_in later n ≡ after_seal (content_in bs n) → (content_in later n).unsealed ≡ [] → IsTree (content_in bs n).undo
    → AreKeptBuffers edited later
seal_kept edited bs later n kept is made closed tree =
    kept_updated edited edited bs later n kept is (record {
      edits = subst (λ (c : Content). AreKeptEdits c) (sym made) (seal_kept_edits (content_in bs n) tree (kept n (content_in bs n) is.was).edits);
      sealed = λ outside. closed;
    }) (λ k outside. outside)

-- ---- a leg gone in the tree
pub arrived_sound : (bs later : List (ℤ × Content)) (stage : Stage) (n : ℤ) (leg : Leg) → IsSoundEditor (editor_of bs stage) → IsUpdatedAt n bs later
    → content_in later n ≡ record (content_in bs n) { modified = true; undo = tree_after_leg leg (content_in bs n).undo; unsealed = [] }
    → IsSoundEditor (editor_of later stage)
arrived_sound bs later stage n leg sound is made =
    option_sound bs later stage n sound is (ap (λ (c : Content). c.text) made) (ap (λ (c : Content). c.marks) made)

pub arrived_kept : (edited : List ℤ) (bs later : List (ℤ × Content)) (n : ℤ) (leg : Leg) → AreKeptBuffers edited bs → IsUpdatedAt n bs later
    → content_in later n ≡ record (content_in bs n) { modified = true; undo = tree_after_leg leg (content_in bs n).undo; unsealed = [] }
    → AreKeptBuffers edited later
arrived_kept edited bs later n leg kept is made =
    kept_updated edited edited bs later n kept is (record {
      edits =
          gone_kept_edits (content_in bs n) (content_in later n) leg (ap (λ (c : Content). c.undo) made) (ap (λ (c : Content). c.unsealed) made)
          (kept n (content_in bs n) is.was).edits;
      sealed = λ outside. ap (λ (c : Content). c.unsealed) made;
    }) (λ k outside. outside)

-- ---- how many changes there are
each_some : (cs : List (ℕ × List Edit)) → ((i : ℕ) (c : ℕ × List Edit) → slice_get cs i ≡ Some c → 0 < length c.1)
    → length cs ≤ length (flat_map (λ (c : ℕ × List Edit). c.1) cs)
each_some [] each = omega arith
each_some (c ∷ cs) each =
    omega (
      arith,
      each 0 c refl,
      each_some cs (λ i d there. each (suc i) d there),
      length-append c.1 (flat_map (λ (d : ℕ × List Edit). d.1) cs),
    )

pub few_changes : (b : Content) → AreKeptEdits b → kept_count b.undo b.unsealed < 2 ^ 63 → length b.undo.changes < 2 ^ 63
few_changes b kept small =
    omega (
      arith,
      small,
      each_some b.undo.changes
          (λ i c there. (kept.changes (suc i) c.1 (ap (option_map (λ (d : ℕ × List Edit). d.1)) there)).some),
    )
