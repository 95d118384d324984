-- inside: how the buffers of an editor are kept. Only private contracts cite this.
use Rattle.std.specs.Prelude.{◌≡◌, ◌≢◌, ℤ, Bool, false, List, [], Some}
use Rattle.std.specs.List.{list_any}
use Rattle.std.specs.Ordering.{int_eq}
use Rattle.nv_buffer.specs.Content.{Content}
use Rattle.nv_model.specs.Editors.{at_handle, handles_of}
use Rattle.nv_editor.specs.Sound.{content_of}
use Rattle.nv_editor.specs.inside.Kept.{AreKeptEdits}

-- the buffer under one handle is another one, and nothing else is
pub record IsEntryUpdated (before later : List (ℤ × Content)) (n : ℤ) (b c : Content) : Type 0 where
  pub was : at_handle before n ≡ Some b
  pub becomes : at_handle later n ≡ Some c
  pub others : (k : ℤ) → k ≢ n → at_handle later k ≡ at_handle before k
  pub handles : handles_of later ≡ handles_of before

-- the buffer under a handle, and a fresh one where none is
abbrev pub content_in : List (ℤ × Content) → ℤ → Content
content_in entries n = content_of n (at_handle entries n)

-- only the buffer under this handle is another one
abbrev pub IsUpdatedAt : ℤ → List (ℤ × Content) → List (ℤ × Content) → Type 0
IsUpdatedAt n before later =
    IsEntryUpdated before later n (content_in before n) (content_in later n)

-- a handle is among others
abbrev pub is_among : ℤ → List ℤ → Bool
is_among n handles = list_any (λ k. int_eq k n) handles

-- a buffer, where these are the handles of those that may have an open change
pub record IsKeptBuffer (edited : List ℤ) (n : ℤ) (b : Content) : Type 0 where
  pub edits : AreKeptEdits b
  pub sealed : is_among n edited ≡ false → b.unsealed ≡ []

-- so is each of some buffers
abbrev pub AreKeptBuffers : List ℤ → List (ℤ × Content) → Type 0
AreKeptBuffers edited entries =
    (n : ℤ) (b : Content) → at_handle entries n ≡ Some b → IsKeptBuffer edited n b
