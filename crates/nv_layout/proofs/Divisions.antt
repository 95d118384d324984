-- A division gives all of the room, and each child its least size.
use Rattle.std.proofs.Common.{◌≡◌, ℕ, suc, ◌+◌, ◌-◌, ◌≤◌, Bool, true, false, not, ◌&&◌, List, [], ◌∷◌, length, filter, if◌then◌else◌, refl, ap, arith}
use Rattle.std.specs.Int.{div_ceil}
use Rattle.std.specs.List.{list_all}
use Rattle.nv_layout.specs.Division.{Child, wishes, is_modest, without_last_wish, counted_children, need, total, within, wishes_granted, even_shares, first, behind, sizes_in_order, sizes, division}
use Rattle.nv_layout.specs.Shares.{Suffices, DivisionIsWhole}

-- a size within bounds lies between them
within_low : (low high n : ℕ) → low ≤ within low high n
within_low low high n = omega arith

within_high : (low high n : ℕ) → low ≤ high → within low high n ≤ high
within_high low high n h = omega arith

granted_suffice : (others : ℕ) (cs : List Child) (room : ℕ) → Suffices cs (wishes_granted others room cs)
granted_suffice others [] room = tt
granted_suffice others (c ∷ cs) room = (within_low c.least (room - (others + need cs)) c.wish, granted_suffice others cs (room - within c.least (room - (others + need cs)) c.wish))

shared_suffice : (cs : List Child) (room : ℕ) → Suffices cs (even_shares room cs)
shared_suffice [] room = tt
shared_suffice (c ∷ cs) room =
    let size : ℕ = within c.least (room - need cs) (div_ceil room (suc (length cs))) in
    (within_low c.least (room - need cs) (div_ceil room (suc (length cs))), shared_suffice cs (room - size))

-- wishes leave what the others need
step_left : (others room size inner n : ℕ) → size ≤ room → inner + others ≤ room - size → n ≡ size + inner → n + others ≤ room
step_left others room size inner n h k e = omega arith

pub granted_leave : (others : ℕ) (cs : List Child) (room : ℕ) → others + need cs ≤ room → total (wishes_granted others room cs) + others ≤ room
granted_leave others [] room h = omega arith
granted_leave others (c ∷ cs) room h =
    let size : ℕ = within c.least (room - (others + need cs)) c.wish in
    let high : size ≤ room - (others + need cs) = within_high c.least (room - (others + need cs)) c.wish (omega arith) in
    step_left others room size (total (wishes_granted others (room - size) cs)) _ (omega arith) (granted_leave others cs (room - size) (omega arith)) refl

-- one child gets all
div_ceil-one : (n : ℕ) → div_ceil n 1 ≡ n
div_ceil-one n = omega arith

step_all : (room size inner n : ℕ) → size ≤ room → inner ≡ room - size → n ≡ size + inner → n ≡ room
step_all room size inner n h k e = omega arith

last_all : (least room : ℕ) → least ≤ room → within least (room - 0) (div_ceil room 1) ≡ room
last_all least room h = rw (div_ceil-one room) (omega arith)

shared_all : (c : Child) (cs : List Child) (room : ℕ) → need (c ∷ cs) ≤ room → total (even_shares room (c ∷ cs)) ≡ room
shared_all c [] room h = step_all room room 0 (total (even_shares room (c ∷ []))) (omega arith) (omega arith) (ap (λ n. n + 0) (last_all c.least room (omega arith)))
shared_all c (d ∷ cs) room h =
    let size : ℕ = within c.least (room - need (d ∷ cs)) (div_ceil room (suc (length (d ∷ cs)))) in
    let high : size ≤ room - need (d ∷ cs) = within_high c.least (room - need (d ∷ cs)) (div_ceil room (suc (length (d ∷ cs)))) (omega arith) in
    step_all room size (total (even_shares (room - size) (d ∷ cs))) _ (omega arith) (shared_all d cs (room - size) (omega arith)) refl

-- the sizes in their order
pub suffices_first : (c : Child) (cs : List Child) (ns : List ℕ) → Suffices (c ∷ cs) ns → c.least ≤ first ns
suffices_first c cs [] h = absurd h
suffices_first c cs (n ∷ ns) h = h.0

pub suffices_behind : (c : Child) (cs : List Child) (ns : List ℕ) → Suffices (c ∷ cs) ns → Suffices cs (behind ns)
suffices_behind c cs [] h = absurd h
suffices_behind c cs (n ∷ ns) h = h.1

module _ (c : Child) (cs : List Child) (granted shared : List ℕ) where
  in_order_suffices_more : (b : Bool) → ((g s : List ℕ) → Suffices (filter wishes cs) g → Suffices (filter is_modest cs) s → Suffices cs (sizes_in_order cs g s)) → Suffices (if b then (c ∷ filter wishes cs) else filter wishes cs) granted → Suffices (if not b then (c ∷ filter is_modest cs) else filter is_modest cs) shared → Suffices (c ∷ cs) (if b then (first granted ∷ sizes_in_order cs (behind granted) shared) else (first shared ∷ sizes_in_order cs granted (behind shared)))
  in_order_suffices_more true inner h k = (suffices_first c (filter wishes cs) granted h, inner (behind granted) shared (suffices_behind c (filter wishes cs) granted h) k)
  in_order_suffices_more false inner h k = (suffices_first c (filter is_modest cs) shared k, inner granted (behind shared) h (suffices_behind c (filter is_modest cs) shared k))

in_order_suffices : (cs : List Child) (granted shared : List ℕ) → Suffices (filter wishes cs) granted → Suffices (filter is_modest cs) shared → Suffices cs (sizes_in_order cs granted shared)
in_order_suffices [] granted shared h k = tt
in_order_suffices (c ∷ cs) granted shared h k = in_order_suffices_more c cs granted shared (wishes c) (in_order_suffices cs) h k

-- the sizes in their order are as many and as much
pub suffices_total : (c : Child) (cs : List Child) (ns : List ℕ) → Suffices (c ∷ cs) ns → total ns ≡ first ns + total (behind ns)
suffices_total c cs [] h = absurd h
suffices_total c cs (n ∷ ns) h = refl

pub none_suffice : (ns : List ℕ) → Suffices [] ns → total ns ≡ 0
none_suffice [] h = refl
none_suffice (n ∷ ns) h = absurd h

module _ (c : Child) (cs : List Child) (granted shared : List ℕ) where
  in_order_total_more : (b : Bool) → ((g s : List ℕ) → Suffices (filter wishes cs) g → Suffices (filter is_modest cs) s → total (sizes_in_order cs g s) ≡ total g + total s) → Suffices (if b then (c ∷ filter wishes cs) else filter wishes cs) granted → Suffices (if not b then (c ∷ filter is_modest cs) else filter is_modest cs) shared → total (if b then (first granted ∷ sizes_in_order cs (behind granted) shared) else (first shared ∷ sizes_in_order cs granted (behind shared))) ≡ total granted + total shared
  in_order_total_more true inner h k = omega (arith, suffices_total c (filter wishes cs) granted h, inner (behind granted) shared (suffices_behind c (filter wishes cs) granted h) k)
  in_order_total_more false inner h k = omega (arith, suffices_total c (filter is_modest cs) shared k, inner granted (behind shared) h (suffices_behind c (filter is_modest cs) shared k))

in_order_total : (cs : List Child) (granted shared : List ℕ) → Suffices (filter wishes cs) granted → Suffices (filter is_modest cs) shared → total (sizes_in_order cs granted shared) ≡ total granted + total shared
in_order_total [] granted shared h k = omega (arith, none_suffice granted h, none_suffice shared k)
in_order_total (c ∷ cs) granted shared h k = in_order_total_more c cs granted shared (wishes c) (in_order_total cs) h k

-- the children with a wish and the others need what all need
need_parts_more : (c : Child) (cs : List Child) (b : Bool) → need (filter wishes cs) + need (filter is_modest cs) ≡ need cs → need (if b then (c ∷ filter wishes cs) else filter wishes cs) + need (if not b then (c ∷ filter is_modest cs) else filter is_modest cs) ≡ c.least + need cs
need_parts_more c cs true e = omega arith
need_parts_more c cs false e = omega arith

pub need_parts : (cs : List Child) → need (filter wishes cs) + need (filter is_modest cs) ≡ need cs
need_parts [] = refl
need_parts (c ∷ cs) = need_parts_more c cs (wishes c) (need_parts cs)

-- children with one without a wish share all of the room
shared_whole : (cs : List Child) (room : ℕ) → 1 ≤ length cs → need cs ≤ room → total (even_shares room cs) ≡ room
shared_whole [] room h k = absurd (omega arith)
shared_whole (c ∷ cs) room h k = shared_all c cs room k

sizes_suffice : (room : ℕ) (cs : List Child) → Suffices cs (sizes room cs)
sizes_suffice room cs = in_order_suffices cs _ _ (granted_suffice (need (filter is_modest cs)) (filter wishes cs) room) (shared_suffice (filter is_modest cs) (room - total (wishes_granted (need (filter is_modest cs)) room (filter wishes cs))))

sizes_whole : (room : ℕ) (cs : List Child) → 1 ≤ length (filter is_modest cs) → need cs ≤ room → total (sizes room cs) ≡ room
sizes_whole room cs some h =
    let granted : List ℕ = wishes_granted (need (filter is_modest cs)) room (filter wishes cs) in
    let left : total granted + need (filter is_modest cs) ≤ room = granted_leave (need (filter is_modest cs)) (filter wishes cs) room (omega (arith, need_parts cs)) in
    let shared : total (even_shares (room - total granted) (filter is_modest cs)) ≡ room - total granted = shared_whole (filter is_modest cs) (room - total granted) some (omega arith) in
    omega (arith, in_order_total cs granted (even_shares (room - total granted) (filter is_modest cs)) (granted_suffice (need (filter is_modest cs)) (filter wishes cs) room) (shared_suffice (filter is_modest cs) (room - total granted)))

-- where not all wish, one is without a wish
some_modest_more : (c : Child) (cs : List Child) (b : Bool) → (list_all wishes cs ≡ false → 1 ≤ length (filter is_modest cs)) → (b && list_all wishes cs) ≡ false → 1 ≤ length (if not b then (c ∷ filter is_modest cs) else filter is_modest cs)
some_modest_more c cs true inner h = inner h
some_modest_more c cs false inner h = omega arith

some_modest : (cs : List Child) → list_all wishes cs ≡ false → 1 ≤ length (filter is_modest cs)
some_modest [] h = cc
some_modest (c ∷ cs) h = some_modest_more c cs (wishes c) (some_modest cs) h

modest_behind : (c : Child) (cs : List Child) (b : Bool) → 1 ≤ length (filter is_modest cs) → 1 ≤ length (if not b then (c ∷ filter is_modest cs) else filter is_modest cs)
modest_behind c cs true h = h
modest_behind c cs false h = omega arith

last_modest : (c : Child) (cs : List Child) → 1 ≤ length (filter is_modest (without_last_wish (c ∷ cs)))
last_modest c [] = omega arith
last_modest c (d ∷ cs) = modest_behind c (without_last_wish (d ∷ cs)) (wishes c) (last_modest d cs)

counted_modest_more : (c : Child) (cs : List Child) (b : Bool) → list_all wishes (c ∷ cs) ≡ b → 1 ≤ length (filter is_modest (if b then without_last_wish (c ∷ cs) else (c ∷ cs)))
counted_modest_more c cs true e = last_modest c cs
counted_modest_more c cs false e = some_modest (c ∷ cs) e

pub counted_modest : (cs : List Child) → 1 ≤ length cs → 1 ≤ length (filter is_modest (counted_children cs))
counted_modest [] h = absurd (omega arith)
counted_modest (c ∷ cs) h = counted_modest_more c cs (list_all wishes (c ∷ cs)) refl

-- a wish that isn't counted changes no need
need-without_last_wish : (cs : List Child) → need (without_last_wish cs) ≡ need cs
need-without_last_wish [] = refl
need-without_last_wish (c ∷ []) = refl
need-without_last_wish (c ∷ (d ∷ cs)) = ap (λ n. c.least + n) (need-without_last_wish (d ∷ cs))

pub need-counted_more : (cs : List Child) (b : Bool) → need (if b then without_last_wish cs else cs) ≡ need cs
need-counted_more cs true = need-without_last_wish cs
need-counted_more cs false = refl

suffices_without_last_wish : (cs : List Child) (ns : List ℕ) → Suffices (without_last_wish cs) ns → Suffices cs ns
suffices_without_last_wish [] ns h = h
suffices_without_last_wish (c ∷ []) [] h = h
suffices_without_last_wish (c ∷ []) (n ∷ ns) h = h
suffices_without_last_wish (c ∷ (d ∷ cs)) [] h = h
suffices_without_last_wish (c ∷ (d ∷ cs)) (n ∷ ns) h = (h.0, suffices_without_last_wish (d ∷ cs) ns h.1)

suffices_counted_more : (cs : List Child) (ns : List ℕ) (b : Bool) → Suffices (if b then without_last_wish cs else cs) ns → Suffices cs ns
suffices_counted_more cs ns true h = suffices_without_last_wish cs ns h
suffices_counted_more cs ns false h = h

pub division_is_whole : DivisionIsWhole
unfolding division
division_is_whole room cs some h = (
  sizes_whole room (counted_children cs) (counted_modest cs some) (rw (need-counted_more cs (list_all wishes cs)) h),
  suffices_counted_more cs (sizes room (counted_children cs)) (list_all wishes cs) (sizes_suffice room (counted_children cs)),
)
