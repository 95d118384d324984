-- The model editor: buffers under handles, and all else.
use Rattle.std.specs.Prelude.{ℤ, pos, true, List, [], ◌∷◌, map, Option, if◌then◌else◌}
use Rattle.std.specs.Map.{lookup}
use Rattle.std.specs.Ordering.{int_eq}
use Rattle.nv_model.specs.Buffers.{ModelBuffer, fresh_buffer}
use Rattle.nv_model.specs.Stage.{Stage, fresh_stage}
use Rattle.nv_model.specs.declared.parts.Limits.{Limits}

-- an editor: its live buffers by rising handles, the deleted ones, whose splices are kept, and all
-- else
pub record ModelEditor : Type 0 where
  pub buffers : List (ℤ × ModelBuffer)
  pub deleted : List (ℤ × ModelBuffer)
  pub stage : Stage

-- what stands under a handle
abbrev pub at_handle : {A : Type 0} → List (ℤ × A) → ℤ → Option A
at_handle entries n = lookup (λ k. int_eq k n) entries

-- the entries, updated where they stand under this handle
abbrev pub updated_at : {A : Type 0} → ℤ → (A → A) → List (ℤ × A) → List (ℤ × A)
updated_at n update entries = map (λ e. if int_eq e.0 n then (e.0, update e.1) else e) entries

-- the handles, in the entries' order
abbrev pub handles_of : {A : Type 0} → List (ℤ × A) → List ℤ
handles_of entries = map (λ e. e.0) entries

-- a fresh editor has buffer 1 with one empty line (own rule)
abbrev pub fresh_editor : Limits → ModelEditor
fresh_editor limits = record {
  buffers = (pos 1, fresh_buffer true) ∷ [];
  deleted = [];
  stage = fresh_stage limits;
}
