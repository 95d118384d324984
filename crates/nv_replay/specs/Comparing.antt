-- The outputs of a book beside those that its history gives (own rule).
use Rattle.std.specs.Prelude.{ℕ, suc, List, [], ◌∷◌, bytes_eq, Option, Some, None, if◌then◌else◌}
use Rattle.nv_book.specs.Books.{Recorded}

-- the number of the first entry whose two outputs differ, counted from this one on
abbrev pub first_difference : ℕ → List Recorded → List Recorded → Option ℕ
first_difference at [] played = None
first_difference at (r ∷ rs) [] = None
first_difference at (r ∷ rs) (p ∷ ps) =
    if bytes_eq r.output p.output then first_difference (suc at) rs ps else Some at
