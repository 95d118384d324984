-- inside: what the windows that show a buffer show after edits of its text, and what a leg and a
-- way in its tree of changes do to an editor as it is kept.
use Rattle.std.specs.Prelude.{◌≡◌, ℕ, ℤ, true, nat_abs, List, [], ◌∷◌, ◌++◌, map, fold, flat_map}
use Rattle.nv_undo.specs.Tree.{tree_after_leg}
use Rattle.nv_undo.specs.declared.legs.Leg.{Leg}
use Rattle.nv_places.specs.Flat.{flat}
use Rattle.nv_buffer.specs.Changes.{first_text, lines_after, leg_edits}
use Rattle.nv_buffer.specs.Content.{after_edit, after_leg, after_seal}
use Rattle.nv_buffer.specs.declared.edit.Edit.{Edit}
use Rattle.nv_model.specs.Stage.{Stage, in_workspace}
use Rattle.nv_model.specs.Answers.{Fact, edited, leg_operations}
use Rattle.nv_model.specs.Buffers.{splice_events}
use Rattle.nv_model.specs.Undoing.{leg_splices}
use Rattle.nv_model.specs.Standing.{PresentEditor, kept_undo}
use Rattle.nv_editor.specs.Doing.{Does}
use Rattle.nv_windows.specs.declared.window.Window.{Window}
use Rattle.nv_editor.specs.Sound.{content_at}
use Rattle.nv_editor.specs.inside.Table.{IsUpdatedAt}
use Rattle.nv_editor.specs.inside.Views.{view_carried}

-- the windows after edits of a buffer's text, made one after another
abbrev pub views_through : ℤ → List (List ℕ) → List Edit → List Window → List Window
views_through n text [] windows = windows
views_through n text (edit ∷ edits) windows =
    views_through n (lines_after text edit) edits
    (map (view_carried n edit (lines_after text edit)) windows)

-- the stage with the views of a buffer moved by edits
abbrev pub stage_through : ℤ → List (List ℕ) → List Edit → Stage → Stage
stage_through n text edits stage =
    in_workspace (λ ws. record ws { windows = views_through n text edits ws.windows }) stage

-- an edit was made of the text of a buffer
pub record IsEditMade (n : ℤ) (edit : Edit) (before after : PresentEditor) : Type 0 where
  pub updated : IsUpdatedAt n before.buffers after.buffers
  pub buffer : content_at after n ≡ after_edit (content_at before n) edit
  pub stage :
      after.stage ≡ stage_through n (content_at before n).text (edit ∷ []) before.stage

-- a leg was gone in the tree of a buffer
pub record IsLegMade (n : ℤ) (leg : Leg) (before after : PresentEditor) : Type 0 where
  pub updated : IsUpdatedAt n before.buffers after.buffers
  pub buffer : content_at after n ≡ after_leg (content_at before n) leg
  pub stage :
      after.stage
      ≡ stage_through n (content_at before n).text (leg_edits (content_at before n).undo leg)
      before.stage

-- a way was gone in the tree of a buffer
pub record IsWayMade (n : ℤ) (legs : List Leg) (before after : PresentEditor) : Type 0 where
  pub updated : IsUpdatedAt n before.buffers after.buffers
  pub buffer : content_at after n ≡ fold after_leg (content_at before n) legs
  pub stage :
      after.stage
      ≡ stage_through n (content_at before n).text
      (flat_map (leg_edits (content_at before n).undo) legs)
      before.stage

-- the open change of a buffer was closed
pub record IsSealedIn (n : ℤ) (before after : PresentEditor) : Type 0 where
  pub updated : IsUpdatedAt n before.buffers after.buffers
  pub buffer : content_at after n ≡ after_seal (content_at before n)
  pub stage : after.stage ≡ before.stage

-- a leg was gone in the tree alone, its edits having been made
pub record IsArrived (n : ℤ) (leg : Leg) (before after : PresentEditor) : Type 0 where
  pub updated : IsUpdatedAt n before.buffers after.buffers
  pub buffer :
      content_at after n
      ≡ record (content_at before n) {
        modified = true;
        undo = tree_after_leg leg (content_at before n).undo;
        unsealed = [];
      }
  pub stage : after.stage ≡ before.stage

-- a way was gone in the tree of a buffer whose changes are all closed: the editor goes on standing
-- for the model, and what happened is told as the model tells it
pub record IsWayGone (n : ℤ) (legs : List Leg) (before after : PresentEditor)
    (told now : List Fact) : Type 0 where
  pub done :
      Does
      (flat_map (leg_operations n (flat first_text) (kept_undo (content_at before n).undo)) legs)
      before after
  pub facts :
      now
      ≡ told
      ++ map (edited n)
      (splice_events (flat (content_at before n).text) (nat_abs (content_at before n).tick)
      (flat_map
      (leg_splices (flat first_text) (kept_undo (content_at before n).undo))
      legs))
