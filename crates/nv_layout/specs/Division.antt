-- How the width of a Row, or the height of a Column, is divided among its children (own rule).
use Rattle.std.specs.Prelude.{ℕ, ◌+◌, ◌-◌, min, max, Bool, not, nat_lt, List, [], ◌∷◌, length, suc, filter, if◌then◌else◌}
use Rattle.std.specs.Int.{div_ceil}
use Rattle.std.specs.List.{list_all}

-- a child along the side that is divided: its least size, and the size that it wishes for, 0 for
-- none
pub record Child : Type 0 where
  pub least : ℕ
  pub wish : ℕ

-- whether a child wishes, and whether it doesn't
abbrev pub wishes : Child → Bool
wishes c = nat_lt 0 c.wish

abbrev pub is_modest : Child → Bool
is_modest c = not (wishes c)

-- where all wish, the last one's wish isn't counted
abbrev pub without_last_wish : List Child → List Child
without_last_wish [] = []
without_last_wish (c ∷ []) = record c { wish = 0 } ∷ []
without_last_wish (c ∷ (d ∷ cs)) = c ∷ without_last_wish (d ∷ cs)

abbrev pub counted_children_where : Bool → List Child → List Child
counted_children_where all_wish cs = if all_wish then without_last_wish cs else cs

abbrev pub counted_children : List Child → List Child
counted_children cs = counted_children_where (list_all wishes cs) cs

-- what children need at least, all together
abbrev pub need : List Child → ℕ
need [] = 0
need (c ∷ cs) = c.least + need cs

-- sizes together
abbrev pub total : List ℕ → ℕ
total [] = 0
total (n ∷ ns) = n + total ns

-- a size, but at least the first number and at most the second
abbrev pub within : ℕ → ℕ → ℕ → ℕ
within low high size = max low (min high size)

-- Children with a wish get it, in order, but at most what leaves every child not yet sized its
-- least size: those that follow, and those without a wish, which need so much.
abbrev pub wishes_granted : ℕ → ℕ → List Child → List ℕ
wishes_granted others room [] = []
wishes_granted others room (c ∷ cs) =
    let size = within c.least (room - (others + need cs)) c.wish in
    size ∷ wishes_granted others (room - size) cs

-- Children without a wish share the rest, in order: each gets an even part of what is left, rounded
-- up, within the same bounds. So the last one gets all that is left.
abbrev pub even_shares : ℕ → List Child → List ℕ
even_shares room [] = []
even_shares room (c ∷ cs) =
    let size = within c.least (room - need cs) (div_ceil room (suc (length cs))) in
    size ∷ even_shares (room - size) cs

-- the first of some sizes, and those behind it
abbrev pub first : List ℕ → ℕ
first [] = 0
first (n ∷ ns) = n

abbrev pub behind : List ℕ → List ℕ
behind [] = []
behind (n ∷ ns) = ns

-- the sizes of children in their order, from those of the ones with a wish and those of the others
abbrev pub sizes_in_order : List Child → List ℕ → List ℕ → List ℕ
sizes_in_order [] granted shared = []
sizes_in_order (c ∷ cs) granted shared =
    if wishes c
    then (first granted ∷ sizes_in_order cs (behind granted) shared)
    else (first shared ∷ sizes_in_order cs granted (behind shared))

-- the sizes of children of which all wishes count: first those with a wish are sized, then the
-- others
abbrev pub sizes : ℕ → List Child → List ℕ
sizes room cs =
    let granted = wishes_granted (need (filter is_modest cs)) room (filter wishes cs) in
    sizes_in_order cs granted (even_shares (room - total granted) (filter is_modest cs))

-- the sizes of children that share so much room
unfoldable pub division : ℕ → List Child → List ℕ
division room cs = sizes room (counted_children cs)
