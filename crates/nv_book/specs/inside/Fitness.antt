-- inside: which values can be told, as tests that compute.
use Rattle.std.specs.Prelude.{ℕ, ◌-◌, ◌*◌, ◌^◌, ◌==◌, nat_lt, nat_le, Bool, true, ◌&&◌, ◌||◌, length}
use Rattle.nv_value.specs.Content.{Tree, Trees, nil, truth, integer, big, text, bin, list, pairs, ext, opaque, no_more, one, count}

-- a string that MessagePack can tell
abbrev pub is_short : ℕ → Bool
is_short n = nat_lt n (2 ^ 32)

abbrev mutual
  -- a value can be told with at most so many lists and maps one in another
  pub is_tellable : ℕ → Tree → Bool
  is_tellable d nil = true
  is_tellable d (truth b) = true
  is_tellable d (integer z) = true
  is_tellable d (big n) = nat_le (2 ^ 63) n
  is_tellable d (text bytes) = is_short (length bytes)
  is_tellable d (bin bytes) = is_short (length bytes)
  is_tellable d (list ts) = nat_lt 0 d && (nat_lt (count ts) (2 ^ 32) && are_tellable (d - 1) ts)
  is_tellable d (pairs ts) =
      nat_lt 0 d && (nat_lt (count ts) (2 * 2 ^ 32) && are_tellable (d - 1) ts)
  is_tellable d (ext kind bytes) = is_short (length bytes)
  is_tellable d (opaque bytes) = (length bytes == 4) || (length bytes == 8)

  -- and so can each of these
  pub are_tellable : ℕ → Trees → Bool
  are_tellable d no_more = true
  are_tellable d (one t ts) = is_tellable d t && are_tellable d ts
