-- How many bytes of strings values hold.
use Rattle.std.specs.Prelude.{ℕ, ◌+◌, ◌^◌, ◌<◌, length}
use Rattle.nv_value.specs.Content.{Tree, Trees, text, bin, list, pairs, no_more, one}

abbrev mutual
  -- how many bytes of strings are in a value
  pub weight : Tree → ℕ
  weight (text bytes) = length bytes
  weight (bin bytes) = length bytes
  weight (list ts) = weights ts
  weight (pairs ts) = weights ts
  weight _ = 0

  -- how many bytes of strings are in values
  pub weights : Trees → ℕ
  weights no_more = 0
  weights (one t ts) = weight t + weights ts

-- Values so light that a fault can tell any string in them: together their strings have fewer than
-- 2^31 bytes (own rule; a message has far fewer).
abbrev pub AreLight : Trees → Type 0
AreLight ts = weights ts < 2 ^ 31
