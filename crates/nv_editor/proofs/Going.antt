-- How far an editor has gone a leg, and a way, in the tree of a buffer.
use Rattle.std.proofs.Common.{◌≡◌, ◌≢◌, ℕ, ℤ, pos, ◌+◌, ◌+ℤ◌, ◌<◌, ◌≤◌, ◌≤ℤ◌, ◌<ℤ◌, List, [], ◌∷◌, ◌++◌, length, map, drop, fold, flat_map, refl, ap, sym, ◌∙◌, arith, true, subst, Option, Some, None, All, slice_get, append_assoc}
use Rattle.std.specs.Prelude.{is_some}
use Rattle.std.proofs.lemmas.List.{append-nil, drop_more, drop_all, map-append}
use Rattle.std.proofs.lemmas.Option.{get_or_from_slice_get, slice_get_within}
use Rattle.nv_undo.specs.Tree.{Undo, tree_after_leg}
use Rattle.nv_undo.specs.Ways.{Leads, IsNext}
use Rattle.nv_undo.specs.declared.legs.Leg.{Leg}
use Rattle.nv_buffer.specs.Changes.{Fits, leg_edits, lines_after, text_at}
use Rattle.nv_buffer.specs.Content.{Content, IsAlong, after_edit, after_leg, event_at, events_from}
use Rattle.nv_buffer.specs.declared.edit.Edit.{Edit}
use Rattle.nv_buffer.specs.declared.buffer.Spliced.{Spliced}
use Rattle.nv_buffer.proofs.Going.{IsSealed, Going, going_first, going_along, going_fits, going_tick, going_on, going_last, gone_text, gone_state, Walking, walking_first, walking_next, walking_tick, walking_on, walking_last, way_edits-same}
use Rattle.nv_buffer.proofs.Keeping.{gone_changes}
use Rattle.nv_model.specs.Answers.{Fact, edited}
use Rattle.nv_model.specs.Editors.{at_handle, handles_of}
use Rattle.nv_model.specs.Stage.{Stage}
use Rattle.nv_model.specs.Standing.{PresentEditor, IsEditOf, AreEditsOf}
use Rattle.nv_windows.specs.declared.window.Window.{Window}
use Rattle.nv_editor.specs.Sound.{content_at, content_of, is_live_buffer}
use Rattle.nv_editor.specs.inside.Kept.{AreKeptEdits}
use Rattle.nv_editor.specs.inside.Table.{IsUpdatedAt, content_in}
use Rattle.nv_editor.specs.inside.Walks.{views_through, stage_through, IsEditMade, IsArrived, IsLegMade, IsWayMade}
use Rattle.nv_editor.proofs.KeptEdits.{leg_kept_edits}
use Rattle.nv_editor.proofs.Ways.{leg_of, through-append}

-- ---- one buffer updated
pub updated_none : (n : ℤ) (e : PresentEditor) → is_live_buffer e n ≡ true → IsUpdatedAt n e.buffers e.buffers
updated_none n e live =
    let here : at_handle e.buffers n ≡ Some (content_in e.buffers n) = by (at_handle e.buffers n) live in
    record { was = here; becomes = here; others = λ k other. refl; handles = refl }
  where
    by : (o : Option Content) → is_some o ≡ true → o ≡ Some (content_of n o)
    by None none = absurd (cc)
    by (Some b) there = refl

pub updated_then : (n : ℤ) (a b c : PresentEditor) → IsUpdatedAt n a.buffers b.buffers → IsUpdatedAt n b.buffers c.buffers → IsUpdatedAt n a.buffers c.buffers
updated_then n a b c p q =
    record { was = p.was; becomes = q.becomes; others = λ k other. q.others k other ∙ p.others k other; handles = q.handles ∙ p.handles }

pub updated_live : (n : ℤ) (a b : PresentEditor) → IsUpdatedAt n a.buffers b.buffers → is_live_buffer b n ≡ true
updated_live n a b is = ap (λ (o : Option Content). is_some o) is.becomes

-- a stage with other windows
abbrev with_shown : List Window → Stage → Stage
with_shown windows stage = record stage { workspace = record stage.workspace { windows = windows } }

shown_then : (first now next : Stage) (windows : List Window) → now ≡ with_shown now.workspace.windows first → next ≡ with_shown windows now
    → next ≡ with_shown next.workspace.windows first
shown_then first now next windows was is =
    is
    ∙ ap (λ (s : Stage). with_shown windows s) was
    ∙ ap (λ (ws : List Window). with_shown ws first) (sym (ap (λ (s : Stage). s.workspace.windows) is))

left_behind : {X : Type 0} (xs : List X) (place : ℕ) (x : X) → slice_get xs place ≡ Some x → drop place xs ≡ x ∷ drop (place + 1) xs
left_behind xs place x here =
    let within : place < length xs = slice_get_within xs place x here in
    drop_more xs place x within ∙ ap (λ y. y ∷ drop (place + 1) xs) (get_or_from_slice_get xs place x x here)

-- facts of further events
more_facts : (n : ℤ) (before facts : List Fact) (events more : List Spliced) → facts ≡ before ++ map (edited n) events
    → facts ++ map (edited n) more ≡ before ++ map (edited n) (events ++ more)
more_facts n before facts events more told =
    ap (λ (fs : List Fact). fs ++ map (edited n) more) told
    ∙ append_assoc before (map (edited n) events) (map (edited n) more)
    ∙ ap (λ (fs : List Fact). before ++ fs) (sym (map-append (edited n) events more))

-- ---- a leg
pub record Making (n : ℤ) (leg : Leg) (first now : PresentEditor) (before facts : List Fact) (place : ℕ) : Type 0 where
  pub events : List Spliced
  pub going : Going (content_at first n) [] (leg_edits (content_at first n).undo leg) (content_at now n) events place
  pub told : facts ≡ before ++ map (edited n) events
  pub updated : IsUpdatedAt n first.buffers now.buffers
  pub stage : now.stage ≡ with_shown now.stage.workspace.windows first.stage
  pub views :
      views_through n (content_at now n).text (drop place (leg_edits (content_at first n).undo leg)) now.stage.workspace.windows
      ≡ views_through n (content_at first n).text (leg_edits (content_at first n).undo leg) first.stage.workspace.windows
  pub edits : AreEditsOf (content_at now n).text (drop place (leg_edits (content_at first n).undo leg))

pub making_first : (n : ℤ) (leg : Leg) (e : PresentEditor) (facts : List Fact) → is_live_buffer e n ≡ true → IsSealed (content_at e n)
    → AreKeptEdits (content_at e n) → IsNext (content_at e n).undo leg → Making n leg e e facts facts 0
making_first n leg e facts live sealed kept next =
    let here = leg_of (content_at e n) leg sealed kept next in
    record {
      events = [];
      going = going_first (content_at e n) [] leg sealed next;
      told = sym (append-nil facts);
      updated = updated_none n e live;
      stage = refl;
      views = refl;
      edits = here.edits;
    }

module _ (n : ℤ) (leg : Leg) (first now : PresentEditor) (before facts : List Fact) (place : ℕ) (is : Making n leg first now before facts place) where
  pub making_fits : (edit : Edit) → slice_get (leg_edits (content_at first n).undo leg) place ≡ Some edit → Fits (content_at now n).text edit
  making_fits edit here = going_fits (content_at first n) (content_at now n) [] is.events (leg_edits (content_at first n).undo leg) place edit is.going here

  pub making_edit : (edit : Edit) → slice_get (leg_edits (content_at first n).undo leg) place ≡ Some edit → IsEditOf (content_at now n).text edit
  making_edit edit here =
      (subst (λ (es : List Edit). AreEditsOf (content_at now n).text es) (left_behind (leg_edits (content_at first n).undo leg) place edit here) is.edits).0

  pub making_along : IsSealed (content_at first n) → IsNext (content_at first n).undo leg → IsAlong (content_at now n) leg place
  making_along sealed next = going_along (content_at first n) (content_at now n) [] is.events leg place sealed next is.going

  pub making_tick : (edit : Edit) (most : ℤ) → slice_get (leg_edits (content_at first n).undo leg) place ≡ Some edit
      → ((content_at first n).tick +ℤ pos (length (leg_edits (content_at first n).undo leg))) ≤ℤ most → (content_at now n).tick <ℤ most
  making_tick edit most here within =
      going_tick (content_at first n) (content_at now n) [] is.events (leg_edits (content_at first n).undo leg) place edit most is.going here within

  pub making_on : (next : PresentEditor) (more : List Fact) (edit : Edit) → slice_get (leg_edits (content_at first n).undo leg) place ≡ Some edit
      → IsEditMade n edit now next → more ≡ facts ++ edited n (event_at ((content_at now n).tick +ℤ pos 1) edit) ∷ []
      → Making n leg first next before more (place + 1)
  making_on next more edit here made more_is =
      let es : List Edit = leg_edits (content_at first n).undo leg in
      let event : Spliced = event_at ((content_at now n).tick +ℤ pos 1) edit in
      let left : drop place es ≡ edit ∷ drop (place + 1) es = left_behind es place edit here in
      let text : (content_at next n).text ≡ lines_after (content_at now n).text edit = ap (λ (b : Content). b.text) made.buffer in
      let shown : next.stage.workspace.windows ≡ views_through n (content_at now n).text (edit ∷ []) now.stage.workspace.windows =
      ap (λ (s : Stage). s.workspace.windows) made.stage in
      let are = subst (λ (l : List Edit). AreEditsOf (content_at now n).text l) left is.edits in
      record {
        events = is.events ++ event ∷ [];
        going =
            going_on (content_at first n) (content_at now n) (content_at next n) [] is.events (is.events ++ event ∷ []) es place edit event is.going here
            made.buffer refl refl;
        told = more_is ∙ more_facts n before facts is.events (event ∷ []) is.told;
        updated = updated_then n first now next is.updated made.updated;
        stage = shown_then first.stage now.stage next.stage (views_through n (content_at now n).text (edit ∷ []) now.stage.workspace.windows) is.stage made.stage;
        views =
            (λ i. views_through n (text i) (drop (place + 1) es) (shown i))
            ∙ sym (ap (λ (l : List Edit). views_through n (content_at now n).text l now.stage.workspace.windows) left)
            ∙ is.views;
        edits = subst (λ (t : List (List ℕ)). AreEditsOf t (drop (place + 1) es)) (sym text) are.1;
      }

  -- all edits were made
  module _ (sealed : IsSealed (content_at first n)) (next_leg : IsNext (content_at first n).undo leg)
      (end : length (leg_edits (content_at first n).undo leg) ≤ place) where
    pub made_next : IsNext (content_at now n).undo leg
    made_next = subst (λ (u : Undo (List Edit)). IsNext u leg) (sym is.going.undo) next_leg

    pub made_text : (content_at now n).text ≡ text_at (content_at now n).undo (tree_after_leg leg (content_at now n).undo).current
    made_text =
        gone_text (content_at first n) (content_at now n) [] is.events leg sealed next_leg
        (going_last (content_at first n) (content_at now n) [] is.events (leg_edits (content_at first n).undo leg) place is.going end)

    pub made_leg : (later : PresentEditor) → IsArrived n leg now later → IsLegMade n leg first later
    made_leg later arrived =
        let es : List Edit = leg_edits (content_at first n).undo leg in
        let none : drop place es ≡ [] = drop_all place es end in
        let all = going_last (content_at first n) (content_at now n) [] is.events es place is.going end in
        let shown : now.stage.workspace.windows ≡ views_through n (content_at first n).text es first.stage.workspace.windows =
        sym (ap (λ (l : List Edit). views_through n (content_at now n).text l now.stage.workspace.windows) none) ∙ is.views in
        record {
          updated = updated_then n first now later is.updated arrived.updated;
          buffer = gone_state (content_at first n) (content_at now n) (content_at later n) [] is.events leg sealed next_leg all arrived.buffer;
          stage = arrived.stage ∙ is.stage ∙ ap (λ (ws : List Window). with_shown ws first.stage) shown;
        }

    pub made_facts : facts ≡ before ++ map (edited n) (events_from (content_at first n).tick (leg_edits (content_at first n).undo leg))
    made_facts =
        let all = going_last (content_at first n) (content_at now n) [] is.events (leg_edits (content_at first n).undo leg) place is.going end in
        is.told ∙ ap (λ (l : List Spliced). before ++ map (edited n) l) all.told

-- ---- a way
pub record Passing (n : ℤ) (legs : List Leg) (first now : PresentEditor) (before facts : List Fact) (place : ℕ) : Type 0 where
  pub events : List Spliced
  pub walking : Walking (content_at first n) legs (content_at now n) events place
  pub told : facts ≡ before ++ map (edited n) events
  pub updated : IsUpdatedAt n first.buffers now.buffers
  pub stage : now.stage ≡ with_shown now.stage.workspace.windows first.stage
  pub views :
      views_through n (content_at now n).text (flat_map (leg_edits (content_at now n).undo) (drop place legs)) now.stage.workspace.windows
      ≡ views_through n (content_at first n).text (flat_map (leg_edits (content_at first n).undo) legs) first.stage.workspace.windows
  pub kept : AreKeptEdits (content_at now n)

pub passing_first : (n : ℤ) (legs : List Leg) (e : PresentEditor) (facts : List Fact) → is_live_buffer e n ≡ true → IsSealed (content_at e n)
    → AreKeptEdits (content_at e n) → ((to : ℕ) × Leads (content_at e n).undo (content_at e n).undo.current legs to)
    → Passing n legs e e facts facts 0
passing_first n legs e facts live sealed kept way = record {
  events = [];
  walking = walking_first (content_at e n) legs [] refl sealed way;
  told = sym (append-nil facts);
  updated = updated_none n e live;
  stage = refl;
  views = refl;
  kept = kept;
}

module _ (n : ℤ) (legs : List Leg) (first now : PresentEditor) (before facts : List Fact) (place : ℕ)
    (is : Passing n legs first now before facts place) where
  pub passing_next : (leg : Leg) → slice_get legs place ≡ Some leg → IsNext (content_at now n).undo leg
  passing_next leg here = walking_next (content_at first n) (content_at now n) legs is.events place leg is.walking here

  pub passing_tick : (leg : Leg) (most : ℤ) → slice_get legs place ≡ Some leg
      → ((content_at first n).tick +ℤ pos (length (flat_map (leg_edits (content_at first n).undo) legs))) ≤ℤ most
      → ((content_at now n).tick +ℤ pos (length (leg_edits (content_at now n).undo leg))) ≤ℤ most
  passing_tick leg most here within = walking_tick (content_at first n) (content_at now n) legs is.events place leg most is.walking here within

  pub passing_on : (next : PresentEditor) (more : List Fact) (leg : Leg) → slice_get legs place ≡ Some leg → IsLegMade n leg now next
      → more ≡ facts ++ map (edited n) (events_from (content_at now n).tick (leg_edits (content_at now n).undo leg))
      → Passing n legs first next before more (place + 1)
  passing_on next more leg here made more_is =
      let b : Content = content_at now n in
      let rest : List Leg = drop (place + 1) legs in
      let es : List Edit = leg_edits (content_at now n).undo leg in
      let events : List Spliced = events_from (content_at now n).tick es in
      let the_next = passing_next leg here in
      let the_leg = leg_of (content_at now n) leg is.walking.sealed is.kept the_next in
      let left : drop place legs ≡ leg ∷ rest = left_behind legs place leg here in
      let same : flat_map (leg_edits (content_at next n).undo) rest ≡ flat_map (leg_edits (content_at now n).undo) rest =
      ap (λ (c : Content). flat_map (leg_edits c.undo) rest) made.buffer
      ∙ way_edits-same (after_leg (content_at now n) leg).undo (content_at now n).undo rest (gone_changes leg (content_at now n).undo) in
      let text : (content_at next n).text ≡ fold lines_after (content_at now n).text es = ap (λ (c : Content). c.text) made.buffer ∙ sym the_leg.text in
      let shown : next.stage.workspace.windows ≡ views_through n (content_at now n).text es now.stage.workspace.windows =
      ap (λ (s : Stage). s.workspace.windows) made.stage in
      record {
        events = is.events ++ events;
        walking =
            walking_on (content_at first n) (content_at now n) (content_at next n) legs is.events (is.events ++ events) place leg is.walking here made.buffer
            refl;
        told = more_is ∙ more_facts n before facts is.events events is.told;
        updated = updated_then n first now next is.updated made.updated;
        stage = shown_then first.stage now.stage next.stage (views_through n (content_at now n).text es now.stage.workspace.windows) is.stage made.stage;
        views =
            (λ i. views_through n (text i) (same i) (shown i))
            ∙ sym (through-append n (content_at now n).text es (flat_map (leg_edits (content_at now n).undo) rest) now.stage.workspace.windows)
            ∙ sym (ap (λ (ls : List Leg). views_through n (content_at now n).text (flat_map (leg_edits (content_at now n).undo) ls) now.stage.workspace.windows) left)
            ∙ is.views;
        kept = subst (λ (c : Content). AreKeptEdits c) (sym made.buffer) (leg_kept_edits (content_at now n) leg is.walking.sealed.1 is.kept);
      }

  pub passed : length legs ≤ place → IsWayMade n legs first now
  passed end =
      let none : drop place legs ≡ [] = drop_all place legs end in
      let all = walking_last (content_at first n) (content_at now n) legs is.events place is.walking end in
      let shown : now.stage.workspace.windows
      ≡ views_through n (content_at first n).text (flat_map (leg_edits (content_at first n).undo) legs) first.stage.workspace.windows =
      sym (ap (λ (ls : List Leg). views_through n (content_at now n).text (flat_map (leg_edits (content_at now n).undo) ls) now.stage.workspace.windows) none) ∙ is.views in
      record { updated = is.updated; buffer = all.gone; stage = is.stage ∙ ap (λ (ws : List Window). with_shown ws first.stage) shown }

  pub passed_facts : length legs ≤ place
      → facts ≡ before ++ map (edited n) (events_from (content_at first n).tick (flat_map (leg_edits (content_at first n).undo) legs))
  passed_facts end =
      let all = walking_last (content_at first n) (content_at now n) legs is.events place is.walking end in
      is.told ∙ ap (λ (l : List Spliced). before ++ map (edited n) l) all.told
