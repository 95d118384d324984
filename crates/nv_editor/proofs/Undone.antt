-- What an undo command comes to, in the words of the model.
use Rattle.std.proofs.Common.{◌≡◌, ℕ, zero, suc, ℤ, pos, negsuc, ◌+◌, ◌+ℤ◌, ◌<◌, ◌≤◌, ◌≤ℤ◌, List, [], ◌∷◌, ◌++◌, length, map, fold, flat_map, refl, ap, sym, ◌∙◌, arith, subst, nat_abs, All, Option, Some, None}
use Rattle.std.specs.Prelude.{option_to_list}
use Rattle.std.proofs.lemmas.Int.{ints}
use Rattle.nv_value.specs.Content.{nil}
use Rattle.nv_places.specs.Flat.{flat, IsLine}
use Rattle.nv_undo.specs.Tree.{Undo, last, child_of}
use Rattle.nv_undo.specs.Ways.{Leads, leg_back, undo_legs, redo_legs, legs_to}
use Rattle.nv_undo.specs.declared.legs.Leg.{Leg}
use Rattle.nv_undo.specs.declared.legs.Leg.TheVariants.{Back, Ahead}
use Rattle.nv_buffer.specs.Changes.{first_text, leg_edits}
use Rattle.nv_buffer.specs.Content.{Content, after_leg, after_seal, after_seal_of, events_from}
use Rattle.nv_buffer.specs.Steps.{IsBuffer}
use Rattle.nv_buffer.specs.declared.edit.Edit.{Edit}
use Rattle.nv_buffer.specs.declared.buffer.Spliced.{Spliced}
use Rattle.nv_buffer.proofs.Going.{IsSealed}
use Rattle.nv_model.specs.Answers.{Fact, edited, replied, edits, leg_operations, undo_operations, undo_splices}
use Rattle.nv_model.specs.Buffers.{Kept, splice_events, with_seal}
use Rattle.nv_model.specs.Editors.{ModelEditor}
use Rattle.nv_model.specs.Operations.{Operation, after_operations, with_buffer}
use Rattle.nv_model.specs.Undoing.{leg_splices}
use Rattle.nv_model.specs.Seen.{sealed_undo}
use Rattle.nv_model.specs.Stage.{Stage}
use Rattle.nv_model.specs.Standing.{PresentEditor, Stands, StandsFor, kept_undo, seen_buffer_now}
use Rattle.nv_model.proofs.Changing.{buffer_update_is_kept}
use Rattle.nv_model.proofs.Sealing.{seal_is_kept}
use Rattle.nv_editor.specs.Doing.{Does, Replies}
use Rattle.nv_editor.specs.Sound.{content_at}
use Rattle.nv_editor.specs.inside.Kept.{AreKeptEdits}
use Rattle.nv_editor.specs.inside.Walks.{IsSealedIn, IsWayMade, IsWayGone}
use Rattle.nv_editor.proofs.Runs.{run_stands}
use Rattle.nv_editor.proofs.SealedTrees.{sealed_is, cost_is, last_is, undo_legs_are, redo_legs_are, legs_to_are}
use Rattle.nv_editor.proofs.Ways.{way_of, way_told}

natural_tick : (k : ℕ) (z : ℤ) → pos k ≤ℤ z → z ≡ pos (nat_abs z)
natural_tick k (pos n) h = refl
natural_tick k (negsuc n) h = absurd (omega (arith, ints, h))

-- a way was gone
pub way_gone : (n : ℤ) (legs : List Leg) (before after : PresentEditor) (told now : List Fact) (to : ℕ) → IsSealed (content_at before n)
    → AreKeptEdits (content_at before n) → All IsLine (content_at before n).text
    → Leads (content_at before n).undo (content_at before n).undo.current legs to → IsWayMade n legs before after
    → now ≡ told ++ map (edited n) (events_from (content_at before n).tick (flat_map (leg_edits (content_at before n).undo) legs))
    → IsWayGone n legs before after told now
way_gone n legs before after told now to sealed kept lines way made facts = record {
  done = λ m stands.
      run_stands legs before after n (content_at before n) (content_at after n) to m
      (record { was = made.updated.was; becomes = made.updated.becomes; others = made.updated.others; handles = made.updated.handles })
      made.buffer sealed kept way made.stage stands;
  facts =
      facts
      ∙ ap (λ (events : List Spliced). told ++ map (edited n) events)
      (way_told (content_at before n) legs (nat_abs (content_at before n).tick) (natural_tick _ (content_at before n).tick sealed.0.counted) lines
      (way_of legs (content_at before n) to sealed kept way));
}

sealed_text : (b : Content) → (after_seal b).text ≡ b.text
sealed_text b = by b.unsealed
  where
    by : (es : List Edit) → (after_seal_of b es).text ≡ b.text
    by [] = refl
    by (e ∷ es) = refl

pub sealed_tick : (b : Content) → (after_seal b).tick ≡ b.tick
sealed_tick b = by b.unsealed
  where
    by : (es : List Edit) → (after_seal_of b es).tick ≡ b.tick
    by [] = refl
    by (e ∷ es) = refl

-- the open change was closed, and a way gone
pub undo_replies : (n : ℤ) (old mid new : PresentEditor) (told now : List Fact) (slice legs : List Leg)
    → IsBuffer (content_at old n).text (content_at old n).tick (content_at old n).undo (content_at old n).unsealed
    → IsSealedIn n old mid → IsWayGone n slice mid new told now → slice ≡ legs
    → Replies
    (replied nil (undo_operations n (seen_buffer_now (content_at old n)) legs)
    (edits n (seen_buffer_now (content_at old n)) (undo_splices (seen_buffer_now (content_at old n)) legs)))
    nil old new told now
undo_replies n old mid new told now slice legs is sealed gone same =
    let b : Content = content_at old n in
    let tree : kept_undo (content_at mid n).undo ≡ sealed_undo (seen_buffer_now b) =
    ap (λ (c : Content). kept_undo c.undo) sealed.buffer ∙ sealed_is b is.tree is.now in
    let text : (content_at mid n).text ≡ b.text = ap (λ (c : Content). c.text) sealed.buffer ∙ sealed_text b in
    let tick : (content_at mid n).tick ≡ b.tick = ap (λ (c : Content). c.tick) sealed.buffer ∙ sealed_tick b in (
      refl,
      (λ m stands.
          let closed : Stands mid (with_buffer n with_seal m) =
          buffer_update_is_kept old mid n (content_at old n) (content_at mid n) with_seal m
          (record { was = sealed.updated.was; becomes = sealed.updated.becomes; others = sealed.updated.others; handles = sealed.updated.handles })
          sealed.stage
          (λ x h. subst (λ (c : Content). StandsFor c (with_seal x)) (sym sealed.buffer) (seal_is_kept (content_at old n) x h)) stands in
          subst (λ (os : List Operation). Stands new (after_operations os (with_buffer n with_seal m)))
          (λ i. flat_map (leg_operations n (flat first_text) (tree i)) (same i))
          (gone.done (with_buffer n with_seal m) closed)),
      gone.facts
          ∙ (λ i. told ++ map (edited n) (splice_events (flat (text i)) (nat_abs (tick i)) (flat_map (leg_splices (flat first_text) (tree i)) (same i)))),
    )

-- ---- the legs of undo and redo
pub back_none : (u : Undo (List Edit)) (slice : List Leg) → slice ≡ [] → 0 ≡ u.current → slice ≡ undo_legs u
back_none u slice is first = is ∙ ap leg_back first

pub back_one : (u : Undo (List Edit)) (slice : List Leg) (k : ℕ) → slice ≡ Back k ∷ [] → k ≡ u.current → 0 < k → slice ≡ undo_legs u
back_one u slice k is current some = is ∙ by k some ∙ ap leg_back current
  where
    by : (k : ℕ) → 0 < k → Back k ∷ [] ≡ leg_back k
    by zero some = absurd (omega arith)
    by (suc k) some = refl

pub ahead_none : (u : Undo (List Edit)) (slice : List Leg) → slice ≡ [] → None ≡ child_of u u.current → slice ≡ redo_legs u
ahead_none u slice is none = is ∙ ap (λ (o : Option ℕ). map (λ n. Ahead n) (option_to_list o)) none

pub ahead_one : (u : Undo (List Edit)) (slice : List Leg) (k : ℕ) → slice ≡ Ahead k ∷ [] → Some k ≡ child_of u u.current → slice ≡ redo_legs u
ahead_one u slice k is some = is ∙ ap (λ (o : Option ℕ). map (λ n. Ahead n) (option_to_list o)) some

-- ---- from the tree once the open change is closed
module _ (n : ℤ) (old mid : PresentEditor)
    (is : IsBuffer (content_at old n).text (content_at old n).tick (content_at old n).undo (content_at old n).unsealed) (sealed : IsSealedIn n old mid) where
  pub undo_slice : (slice : List Leg) → slice ≡ undo_legs (content_at mid n).undo → slice ≡ undo_legs (sealed_undo (seen_buffer_now (content_at old n)))
  undo_slice slice same =
      same ∙ ap (λ (c : Content). undo_legs c.undo) sealed.buffer ∙ undo_legs_are (content_at old n) is.tree is.now

  pub redo_slice : (slice : List Leg) → slice ≡ redo_legs (content_at mid n).undo → slice ≡ redo_legs (sealed_undo (seen_buffer_now (content_at old n)))
  redo_slice slice same =
      same ∙ ap (λ (c : Content). redo_legs c.undo) sealed.buffer ∙ redo_legs_are (content_at old n) is.tree is.now

  pub to_slice : (number : ℕ) (slice : List Leg) → slice ≡ legs_to number (content_at mid n).undo
      → slice ≡ legs_to number (sealed_undo (seen_buffer_now (content_at old n)))
  to_slice number slice same =
      same ∙ ap (λ (c : Content). legs_to number c.undo) sealed.buffer ∙ legs_to_are (content_at old n) is.tree is.now number

  pub within_sealed : (number : ℕ) → number ≤ last (sealed_undo (seen_buffer_now (content_at old n))) → number ≤ last (content_at mid n).undo
  within_sealed number within =
      omega (arith, within, ap (λ (c : Content). last c.undo) sealed.buffer, last_is (content_at old n) is.tree is.now)

  pub undo_tick : (slice legs : List Leg) (most : ℤ) → slice ≡ legs
      → ((content_at old n).tick +ℤ pos (length (undo_splices (seen_buffer_now (content_at old n)) legs))) ≤ℤ most
      → ((content_at mid n).tick +ℤ pos (length (flat_map (leg_edits (content_at mid n).undo) slice))) ≤ℤ most
  undo_tick slice legs most same within =
      let count : length (flat_map (leg_edits (content_at mid n).undo) slice) ≡ length (undo_splices (seen_buffer_now (content_at old n)) legs) =
      (λ i. length (flat_map (leg_edits (sealed.buffer i).undo) (same i))) ∙ cost_is (content_at old n) is.tree is.now legs in
      let tick : (content_at mid n).tick ≡ (content_at old n).tick = ap (λ (c : Content). c.tick) sealed.buffer ∙ sealed_tick (content_at old n) in
      subst (λ (k : ℕ). ((content_at mid n).tick +ℤ pos k) ≤ℤ most) (sym count)
      (subst (λ (z : ℤ). (z +ℤ pos (length (undo_splices (seen_buffer_now (content_at old n)) legs))) ≤ℤ most) (sym tick) within)
