-- Lists and numbers that are told or not told.
use Rattle.std.specs.Prelude.{◌≡◌, ℕ, ◌+◌, ◌<◌, List, [], ◌∷◌, ◌++◌, option_map, ⊤}
use Rattle.std.specs.declared.option.Option.{Option}
use Rattle.std.specs.declared.option.Option.TheVariants.{Some, None}
use Rattle.std.specs.Io.KnownBytes.{IsAtEnd}

module _ {A : Type 0} where
  -- the items that are told, with more behind them
  abbrev pub append_items : Option (List A) → List A → Option (List A)
  append_items known more = option_map (λ items. items ++ more) known

  -- the items that are told, with others in front of them
  abbrev pub prepend_items : List A → Option (List A) → Option (List A)
  prepend_items front known = option_map (λ items. front ++ items) known

  -- there is no item, where they are told
  abbrev pub IsNoItem : Option (List A) → Type 0
  IsNoItem None = ⊤
  IsNoItem (Some items) = items ≡ []

  -- the number that are out, where it is told: one more where one was given
  abbrev pub out_after : Option A → Option ℕ → Option ℕ
  out_after None known = known
  out_after (Some item) known = option_map (λ n. n + 1) known

  -- a fact of each item of a list
  abbrev pub ForEachItem : (A → Type 0) → List A → Type 0
  ForEachItem P [] = ⊤
  ForEachItem P (item ∷ items) = P item × ForEachItem P items

-- something is out, where the number that are out is told
abbrev pub IsOut : Option ℕ → Type 0
IsOut None = ⊤
IsOut (Some n) = 0 < n

-- nothing is out, where the number that are out is told
abbrev pub IsNoneOut : Option ℕ → Type 0
IsNoneOut None = ⊤
IsNoneOut (Some n) = n ≡ 0

-- a source or a sink that was just opened: nothing was taken, where that is told, and no fault is
-- counted
abbrev pub IsUnused : Option (List ℕ) → ℕ → Type 0
IsUnused taken faults = IsAtEnd taken × (faults ≡ 0)

-- a source that was just opened: besides, no read of it was made, where that is told
abbrev pub IsUnread : Option (List ℕ) → Option (List (List ℕ)) → ℕ → Type 0
IsUnread taken reads faults = IsUnused taken faults × IsNoItem reads
