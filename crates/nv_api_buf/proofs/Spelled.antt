-- Lines of a narrow text can be spelled as strings.
use Rattle.std.proofs.Common.{◌≡◌, ℕ, suc, ◌-◌, ◌^◌, ◌<◌, List, [], ◌∷◌, length, drop, refl, ap, All, arith}
use Rattle.std.proofs.lemmas.List.{length-take, length-drop}
use Rattle.std.proofs.lemmas.List.Elements.{All-head, All-tail, All-take, All-drop}
use Rattle.std.specs.List.{slice_range}
use Rattle.nv_value.specs.Content.{count, list}
use Rattle.nv_msgpack.specs.Shortest.{HasSpelling, HaveSpellings}
use Rattle.nv_buffer.specs.Splices.{IsNarrowLine, IsNarrowText}
use Rattle.nv_args.specs.Texts.{strings}

-- how many strings there are
pub count-strings : (lines : List (List ℕ)) → count (strings lines) ≡ length lines
count-strings [] = refl
count-strings (line ∷ lines) = ap suc (count-strings lines)

-- narrow lines can be spelled as strings
pub strings-spelled : (lines : List (List ℕ)) → All IsNarrowLine lines → HaveSpellings (strings lines)
strings-spelled [] narrow = tt
strings-spelled (line ∷ lines) narrow =
    (All-head IsNarrowLine line lines narrow, strings-spelled lines (All-tail IsNarrowLine line lines narrow))

-- few narrow lines can be spelled as a list of strings
pub list-spelled : (lines : List (List ℕ)) → length lines < 2 ^ 32 → All IsNarrowLine lines → HasSpelling (list (strings lines))
list-spelled lines few narrow = (omega (arith, count-strings lines), strings-spelled lines narrow)

-- the lines of a range of a narrow text can be spelled as a list of strings
pub range-spelled : (lines : List (List ℕ)) (from to : ℕ) → IsNarrowText lines → HasSpelling (list (strings (slice_range lines from to)))
range-spelled lines from to narrow =
    list-spelled (slice_range lines from to)
    (omega (arith, length-take (to - from) (drop from lines), length-drop from lines, narrow.count))
    (All-take IsNarrowLine (to - from) (drop from lines) (All-drop IsNarrowLine from lines narrow.columns))
