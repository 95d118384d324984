-- What an editor does where text is put.
use Rattle.std.proofs.Common.{◌≡◌, ◌≢◌, ℕ, ℤ, pos, negsuc, ◌+◌, ◌≤◌, ◌+ℤ◌, Bool, true, false, cond, ◌||◌, List, [], ◌∷◌, ◌++◌, length, map, All, Option, Some, None, refl, sym, ap, subst, ◌∙◌, arith, append-nil}
use Rattle.std.specs.Prelude.{◌≤ℤ◌, nat_abs, if◌then◌else◌}
use Rattle.std.specs.List.{list_any}
use Rattle.std.specs.Ordering.{int_eq}
use Rattle.std.proofs.lemmas.Int.{ints}
use Rattle.std.proofs.lemmas.List.Folds.{list_any-append}
use Rattle.nv_value.specs.Content.{nil}
use Rattle.nv_places.specs.Flat.{flat, lines_of}
use Rattle.nv_places.proofs.FlatLemmas.{lines_of-flat}
use Rattle.nv_marks.specs.Marks.{Marks}
use Rattle.nv_buffer.specs.Content.{Content, event_at}
use Rattle.nv_buffer.specs.declared.edit.Edit.{Edit}
use Rattle.nv_buffer.specs.declared.buffer.Spliced.{Spliced}
use Rattle.nv_windows.specs.Views.{Move, view_after}
use Rattle.nv_windows.specs.Workspace.{Workspace}
use Rattle.nv_windows.specs.declared.window.Window.{Window}
use Rattle.nv_model.specs.Answers.{Fact, edited, replied, edits}
use Rattle.nv_model.specs.Answering.{splice_answer, event_of_splice, reply_of}
use Rattle.nv_model.specs.Buffers.{Splice, is_empty_splice, text_after, splice_event}
use Rattle.nv_model.specs.Editors.{ModelEditor, at_handle, handles_of}
use Rattle.nv_model.specs.Keeping.{IsBufferUpdated}
use Rattle.nv_model.specs.Operations.{spliced}
use Rattle.nv_model.specs.Stage.{Stage, stage_with_views, move_of, view_in_line}
use Rattle.nv_model.specs.Standing.{PresentEditor, Stands, StandsFor, Both, seen_buffer_now, splice_of}
use Rattle.nv_model.proofs.Changing.{editor_splice_is_kept}
use Rattle.nv_model.proofs.Edits.{told-edits}
use Rattle.nv_model.proofs.Lookups.{int_eq-itself}
use Rattle.nv_model.proofs.Splicing.{flat_is, splice_is, edit_is}
use Rattle.nv_editor.specs.Doing.{Does, Replies}
use Rattle.nv_editor.specs.Sound.{IsSoundEditor}
use Rattle.nv_editor.specs.inside.Kept.{AreKeptEdits}
use Rattle.nv_editor.specs.inside.Splicing.{IsMade, IsLeft}
use Rattle.nv_editor.specs.inside.Table.{IsUpdatedAt, content_in, is_among, IsKeptBuffer, AreKeptBuffers}
use Rattle.nv_editor.specs.inside.Views.{move_by, view_carried, with_views}
use Rattle.nv_editor.proofs.KeptEdits.{splice_kept_edits}
use Rattle.nv_editor.proofs.StageKept.{editor_of}
use Rattle.nv_editor.proofs.Updating.{either_handle, option_sound, kept_updated}

-- ---- the handles of buffers that may have an open change
or_false : (a b : Bool) → (a || b) ≡ false → a ≡ false
or_false true b is = is
or_false false b is = refl

or_true : (a : Bool) → (a || true) ≡ true
or_true true = refl
or_true false = refl

pub among_less : (k : ℤ) (touched more : List ℤ) (n : ℤ) → more ≡ touched ++ n ∷ [] → is_among k more ≡ false → is_among k touched ≡ false
among_less k touched more n is outside =
    or_false (is_among k touched) (is_among k (n ∷ []))
    (sym (list_any-append (λ (j : ℤ). int_eq j k) touched (n ∷ [])) ∙ ap (is_among k) (sym is) ∙ outside)

pub among_last : (touched more : List ℤ) (n : ℤ) → more ≡ touched ++ n ∷ [] → is_among n more ≡ true
among_last touched more n is =
    ap (is_among n) is ∙ list_any-append (λ (j : ℤ). int_eq j n) touched (n ∷ [])
    ∙ ap (λ (t : Bool). is_among n touched || t) last_is
    ∙ or_true (is_among n touched)
  where
    last_is : is_among n (n ∷ []) ≡ true
    last_is = ap (λ (t : Bool). t || false) (int_eq-itself n)

not_both : (t : Bool) → t ≡ true → t ≡ false → ⊥
not_both t is isnt = let both = sym is ∙ isnt in cc

pub more_kept : (touched more : List ℤ) (bs : List (ℤ × Content)) (n : ℤ) → more ≡ touched ++ n ∷ [] → AreKeptBuffers touched bs → AreKeptBuffers more bs
more_kept touched more bs n is kept k b there =
    record { edits = (kept k b there).edits; sealed = λ outside. (kept k b there).sealed (among_less k touched more n is outside) }

-- ---- where nothing was put
pub left_sound : (bs later : List (ℤ × Content)) (stage : Stage) (n : ℤ) → IsSoundEditor (editor_of bs stage) → IsUpdatedAt n bs later
    → content_in later n ≡ content_in bs n → IsSoundEditor (editor_of later stage)
left_sound bs later stage n sound is same =
    option_sound bs later stage n sound is (ap (λ (b : Content). b.text) same) (ap (λ (b : Content). b.marks) same)

pub left_kept : (touched more : List ℤ) (bs later : List (ℤ × Content)) (n : ℤ) → more ≡ touched ++ n ∷ [] → AreKeptBuffers touched bs
    → IsUpdatedAt n bs later → content_in later n ≡ content_in bs n → AreKeptBuffers more later
left_kept touched more bs later n pushed kept is same =
    kept_updated touched more bs later n kept is
    (subst (λ (b : Content). IsKeptBuffer more n b) (sym same) (more_kept touched more bs n pushed kept n (content_in bs n) is.was))
    (λ k outside. among_less k touched more n pushed outside)

pub same_lookups : (bs later : List (ℤ × Content)) (n : ℤ) → IsUpdatedAt n bs later → content_in later n ≡ content_in bs n → (k : ℤ)
    → at_handle later k ≡ at_handle bs k
same_lookups bs later n is same k =
    either_handle (at_handle later k ≡ at_handle bs k) k n
    (λ e. subst (λ (j : ℤ). at_handle later j ≡ at_handle bs j) (sym e) (is.becomes ∙ ap (λ (b : Content). Some b) same ∙ sym is.was))
    (λ other. is.others k other)

left_stands : (bs later : List (ℤ × Content)) (stage : Stage) (n : ℤ) (m : ModelEditor) → IsUpdatedAt n bs later
    → content_in later n ≡ content_in bs n → Stands (editor_of bs stage) m → Stands (editor_of later stage) m
left_stands bs later stage n m is same stands = record {
  buffers = λ k. subst (λ (o : Option Content). Both StandsFor o (at_handle m.buffers k)) (sym (same_lookups bs later n is same k)) (stands.buffers k);
  handles = is.handles ∙ stands.handles;
  stage = stands.stage;
}

pub left_replies : (bs later : List (ℤ × Content)) (stage : Stage) (n : ℤ) (s : Splice) (told : List Fact) → IsUpdatedAt n bs later
    → IsLeft (content_in bs n) (content_in later n) s
    → Replies (splice_answer n (seen_buffer_now (content_in bs n)) s) nil (editor_of bs stage) (editor_of later stage) told told
left_replies bs later stage n s told is left =
    subst (λ (t : Bool). Replies (if t then reply_of nil else replied nil (spliced n s ∷ []) (edited n (event_of_splice (seen_buffer_now (content_in bs n)) s) ∷ [])) nil (editor_of bs stage) (editor_of later stage) told told)
    (sym left.none) (refl, λ m stands. left_stands bs later stage n m is left.same stands, sym (append-nil told))

-- ---- where a splice was made
pub made_kept : (touched more : List ℤ) (bs later : List (ℤ × Content)) (n : ℤ) (s : Splice) (event : Spliced) → more ≡ touched ++ n ∷ []
    → AreKeptBuffers touched bs → IsUpdatedAt n bs later → IsMade (content_in bs n) (content_in later n) s event → AreKeptBuffers more later
made_kept touched more bs later n s event pushed kept is made =
    kept_updated touched more bs later n kept is
    (record {
      edits =
          splice_kept_edits (content_in bs n) (content_in later n) s event made.spliced made.before.now (kept n (content_in bs n) is.was).edits;
      sealed = λ outside. absurd (not_both (is_among n more) (among_last touched more n pushed) outside);
    })
    (λ k outside. among_less k touched more n pushed outside)

natural_is : (z : ℤ) (k : ℕ) → pos k ≤ℤ z → z ≡ pos (nat_abs z)
natural_is (pos n) k h = refl
natural_is (negsuc n) k h = absurd (omega (arith, ints))

head_same : (x y : Spliced) → x ∷ [] ≡ y ∷ [] → x ≡ y
head_same x y e = cc

-- it is told as the model tells it
pub made_told : (b c : Content) (s : Splice) (event : Spliced) → IsMade b c s event → event ≡ event_of_splice (seen_buffer_now b) s
made_told b c s event made =
    let tick = made.spliced.tick in
    let at : event ≡ event_at (b.tick +ℤ pos 1) event.edit = λ i. record { tick = tick i; edit = event.edit } in
    let one : event_at (b.tick +ℤ pos 1) event.edit ≡ splice_event (flat b.text) (nat_abs b.tick + 1) (splice_of b.text event.edit) =
    head_same _ _ (told-edits b.text (event.edit ∷ []) b.tick (nat_abs b.tick) (natural_is b.tick _ made.before.counted) made.text.lines (edit_is b c s event made.spliced, tt)) in
    at ∙ one ∙ ap (splice_event (flat b.text) (nat_abs b.tick + 1)) (splice_is b c s event made.spliced)

-- the windows move as those of the model
made_views : (b c : Content) (n : ℤ) (s : Splice) (event : Spliced) (stage : Stage) → IsMade b c s event
    → record stage { workspace = with_views n event.edit c.text stage.workspace } ≡ stage_with_views n (flat b.text) (s ∷ []) stage
made_views b c n s event stage made =
    let lines : c.text ≡ lines_of (text_after (flat b.text) s) = sym (lines_of-flat c.text made.later.lines) ∙ ap lines_of (flat_is b c s event made.spliced) in
    let start = made.spliced.start in
    let removed = made.spliced.removed in
    let reach = made.spliced.reach in
    let count : length c.text ≡ length (lines_of (text_after (flat b.text) s)) = ap length lines in
    let move : move_by event.edit c.text ≡ move_of (flat b.text) s = λ i. record { start = start i; old = removed i; new = reach i; count = count i } in
    let views : map (view_carried n event.edit c.text) stage.workspace.windows ≡ map (λ (w : Window). if int_eq w.buffer n then view_in_line (lines_of (text_after (flat b.text) s)) (view_after (move_of (flat b.text) s) w) else w) stage.workspace.windows =
    λ i. map (λ (w : Window). if int_eq w.buffer n then view_in_line (lines i) (view_after (move i) w) else w) stage.workspace.windows in
    ap (λ (ws : List Window). record stage { workspace = record stage.workspace { windows = ws } }) views

pub made_replies : (bs later : List (ℤ × Content)) (stage new : Stage) (n : ℤ) (s : Splice) (event : Spliced) (told now : List Fact) → IsUpdatedAt n bs later
    → IsMade (content_in bs n) (content_in later n) s event
    → new ≡ record stage { workspace = with_views n event.edit (content_in later n).text stage.workspace } → now ≡ told ++ edited n event ∷ []
    → Replies (splice_answer n (seen_buffer_now (content_in bs n)) s) nil (editor_of bs stage) (editor_of later new) told now
made_replies bs later stage new n s event told now is made put tells =
    subst (λ (t : Bool). Replies (if t then reply_of nil else replied nil (spliced n s ∷ []) (edited n (event_of_splice (seen_buffer_now (content_in bs n)) s) ∷ [])) nil (editor_of bs stage) (editor_of later new) told now)
    (sym made.some) (
      refl,
      λ m stands. editor_splice_is_kept (editor_of bs stage) (editor_of later new) n (content_in bs n) (content_in later n) s event m
          (record { was = is.was; becomes = is.becomes; others = is.others; handles = is.handles }) made.spliced
          (put ∙ made_views (content_in bs n) (content_in later n) n s event stage made) stands,
      tells ∙ ap (λ (e : Spliced). told ++ edited n e ∷ []) (made_told (content_in bs n) (content_in later n) s event made),
    )
