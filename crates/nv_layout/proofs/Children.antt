-- Children by their places, and the ones behind a place.
use Rattle.std.proofs.Common.{◌≡◌, ◌≢◌, ℕ, zero, suc, ◌+◌, ◌≤◌, ◌<◌, Bool, true, false, not, List, [], ◌∷◌, length, drop, get_or, filter, if◌then◌else◌, refl, ap, sym, ◌∙◌, arith, add-one, drop-cons}
use Rattle.std.proofs.lemmas.Bool.Decides.{nat_tests}
use Rattle.nv_layout.specs.Content.{shape_of, shapes_of}
use Rattle.nv_layout.specs.Division.{Child, wishes, is_modest, without_last_wish, counted_children_where, need}
use Rattle.nv_layout.specs.Least.{least, wish, child, child_list}
use Rattle.nv_layout.specs.Sizing.{child_at}
use Rattle.nv_layout.specs.declared.nodes.Axis.{Axis}
use Rattle.nv_layout.specs.declared.nodes.Tree.{Tree}
use Rattle.nv_layout.proofs.Divisions.{need_parts, need-counted_more}

pub length-shapes_of : (a : Axis) (ts : List Tree) → length (child_list a (shapes_of ts)) ≡ length ts
length-shapes_of a [] = refl
length-shapes_of a (t ∷ ts) = omega (arith, length-shapes_of a ts)

pub child_at-shapes_of : (a : Axis) (ts : List Tree) (i : ℕ) (d : Tree) → i < length ts → child_at (child_list a (shapes_of ts)) i ≡ child a (shape_of (get_or ts i d))
child_at-shapes_of a [] i d h = absurd (omega arith)
child_at-shapes_of a (t ∷ ts) zero d h = refl
child_at-shapes_of a (t ∷ ts) (suc i) d h = child_at-shapes_of a ts i d (omega arith)

-- the last wish, where it isn't counted
pub length-without_last_wish : (cs : List Child) → length (without_last_wish cs) ≡ length cs
length-without_last_wish [] = refl
length-without_last_wish (c ∷ []) = refl
length-without_last_wish (c ∷ (d ∷ cs)) = omega (arith, length-without_last_wish (d ∷ cs))

last_wish : (cs : List Child) (i : ℕ) → i + 1 ≡ length cs → (child_at (without_last_wish cs) i).wish ≡ 0
last_wish [] i e = absurd (omega arith)
last_wish (c ∷ []) zero e = refl
last_wish (c ∷ []) (suc i) e = absurd (omega arith)
last_wish (c ∷ (d ∷ cs)) zero e = absurd (omega arith)
last_wish (c ∷ (d ∷ cs)) (suc i) e = last_wish (d ∷ cs) i (omega arith)

other_wish : (cs : List Child) (i : ℕ) → i + 1 < length cs → child_at (without_last_wish cs) i ≡ child_at cs i
other_wish [] i h = absurd (omega arith)
other_wish (c ∷ []) i h = absurd (omega arith)
other_wish (c ∷ (d ∷ cs)) zero h = refl
other_wish (c ∷ (d ∷ cs)) (suc i) h = other_wish (d ∷ cs) i (omega arith)

same_least : (cs : List Child) (i : ℕ) → (child_at (without_last_wish cs) i).least ≡ (child_at cs i).least
same_least [] i = refl
same_least (c ∷ []) zero = refl
same_least (c ∷ []) (suc i) = refl
same_least (c ∷ (d ∷ cs)) zero = refl
same_least (c ∷ (d ∷ cs)) (suc i) = same_least (d ∷ cs) i

pub length-counted_children : (all : Bool) (cs : List Child) → length (counted_children_where all cs) ≡ length cs
length-counted_children true cs = length-without_last_wish cs
length-counted_children false cs = refl

pub counted_last : (all : Bool) (cs : List Child) (i : ℕ) → all ≡ true → i + 1 ≡ length cs → (child_at (counted_children_where all cs) i).wish ≡ 0
counted_last true cs i e f = last_wish cs i f
counted_last false cs i e f = cc

pub counted_before : (all : Bool) (cs : List Child) (i : ℕ) → i + 1 < length cs → child_at (counted_children_where all cs) i ≡ child_at cs i
counted_before true cs i h = other_wish cs i h
counted_before false cs i h = refl

pub counted_all : (all : Bool) (cs : List Child) (i : ℕ) → all ≡ false → child_at (counted_children_where all cs) i ≡ child_at cs i
counted_all true cs i e = cc
counted_all false cs i e = refl

pub least-counted_children : (all : Bool) (cs : List Child) (i : ℕ) → (child_at (counted_children_where all cs) i).least ≡ (child_at cs i).least
least-counted_children true cs i = same_least cs i
least-counted_children false cs i = refl

-- the children from one on
pub drop-child : (cs : List Child) (i : ℕ) → i < length cs → drop i cs ≡ child_at cs i ∷ drop (i + 1) cs
drop-child cs i h = rw (add-one, drop-cons cs i (record { least = 0; wish = 0 }))

is_wishing : (c : Child) → 0 < c.wish → wishes c ≡ true
is_wishing c h = grind (arith, nat_tests)

isnt_wishing : (c : Child) → c.wish ≡ 0 → wishes c ≡ false
isnt_wishing c e = grind (arith, nat_tests)

pub wishes_step : (cs : List Child) (i : ℕ) → i < length cs → 0 < (child_at cs i).wish → filter wishes (drop i cs) ≡ child_at cs i ∷ filter wishes (drop (i + 1) cs)
wishes_step cs i h k = ap (filter wishes) (drop-child cs i h) ∙ ap (λ b. if b then (child_at cs i ∷ filter wishes (drop (i + 1) cs)) else filter wishes (drop (i + 1) cs)) (is_wishing (child_at cs i) k)

pub wishes_skip : (cs : List Child) (i : ℕ) → i < length cs → (child_at cs i).wish ≡ 0 → filter wishes (drop i cs) ≡ filter wishes (drop (i + 1) cs)
wishes_skip cs i h k = ap (filter wishes) (drop-child cs i h) ∙ ap (λ b. if b then (child_at cs i ∷ filter wishes (drop (i + 1) cs)) else filter wishes (drop (i + 1) cs)) (isnt_wishing (child_at cs i) k)

pub modest_step : (cs : List Child) (i : ℕ) → i < length cs → (child_at cs i).wish ≡ 0 → filter is_modest (drop i cs) ≡ child_at cs i ∷ filter is_modest (drop (i + 1) cs)
modest_step cs i h k = ap (filter is_modest) (drop-child cs i h) ∙ ap (λ b. if not b then (child_at cs i ∷ filter is_modest (drop (i + 1) cs)) else filter is_modest (drop (i + 1) cs)) (isnt_wishing (child_at cs i) k)

pub modest_skip : (cs : List Child) (i : ℕ) → i < length cs → 0 < (child_at cs i).wish → filter is_modest (drop i cs) ≡ filter is_modest (drop (i + 1) cs)
modest_skip cs i h k = ap (filter is_modest) (drop-child cs i h) ∙ ap (λ b. if not b then (child_at cs i ∷ filter is_modest (drop (i + 1) cs)) else filter is_modest (drop (i + 1) cs)) (is_wishing (child_at cs i) k)

-- a child of a list of trees, as it counts
module _ (a : Axis) (ts : List Tree) (all : Bool) (i : ℕ) (t : Tree) (h : i < length ts) (is : t ≡ get_or ts i t) where
  pub child_within : i < length (counted_children_where all (child_list a (shapes_of ts)))
  child_within = omega (arith, length-counted_children all (child_list a (shapes_of ts)), length-shapes_of a ts)

  child_is : child_at (child_list a (shapes_of ts)) i ≡ child a (shape_of t)
  child_is = child_at-shapes_of a ts i t h ∙ ap (λ u. child a (shape_of u)) (sym is)

  pub least_of_child : least a (shape_of t) ≡ (child_at (counted_children_where all (child_list a (shapes_of ts))) i).least
  least_of_child = sym (least-counted_children all (child_list a (shapes_of ts)) i ∙ ap (λ c. c.least) child_is)

  pub wish_of_any : all ≡ false → wish a (shape_of t) ≡ (child_at (counted_children_where all (child_list a (shapes_of ts))) i).wish
  wish_of_any e = sym (ap (λ c. c.wish) (counted_all all (child_list a (shapes_of ts)) i e ∙ child_is))

  pub wish_of_earlier : i + 1 ≢ length ts → wish a (shape_of t) ≡ (child_at (counted_children_where all (child_list a (shapes_of ts))) i).wish
  wish_of_earlier k =
      let before : i + 1 < length (child_list a (shapes_of ts)) = omega (arith, length-shapes_of a ts) in
      sym (ap (λ c. c.wish) (counted_before all (child_list a (shapes_of ts)) i before ∙ child_is))

pub wish_of_last : (a : Axis) (ts : List Tree) (all : Bool) (i : ℕ) → all ≡ true → i + 1 ≡ length ts → 0 ≡ (child_at (counted_children_where all (child_list a (shapes_of ts))) i).wish
wish_of_last a ts all i e f = sym (counted_last all (child_list a (shapes_of ts)) i e (f ∙ sym (length-shapes_of a ts)))

-- what the children from one on need
module _ (cs : List Child) (i : ℕ) (h : i < length cs) where
  pub need_at_modest : (child_at cs i).wish ≡ 0 → need (filter is_modest (drop i cs)) ≡ (child_at cs i).least + need (filter is_modest (drop (i + 1) cs))
  need_at_modest e = ap need (modest_step cs i h e)

  pub count_at_modest : (child_at cs i).wish ≡ 0 → length (filter is_modest (drop i cs)) ≡ 1 + length (filter is_modest (drop (i + 1) cs))
  count_at_modest e = ap length (modest_step cs i h e) ∙ (omega arith)

  pub need_past_modest : (child_at cs i).wish ≡ 0 → need (filter wishes (drop i cs)) ≡ need (filter wishes (drop (i + 1) cs))
  need_past_modest e = ap need (wishes_skip cs i h e)

  pub need_at_wish : 0 < (child_at cs i).wish → need (filter wishes (drop i cs)) ≡ (child_at cs i).least + need (filter wishes (drop (i + 1) cs))
  need_at_wish k = ap need (wishes_step cs i h k)

  pub need_past_wish : 0 < (child_at cs i).wish → need (filter is_modest (drop i cs)) ≡ need (filter is_modest (drop (i + 1) cs))
  need_past_wish k = ap need (modest_skip cs i h k)

  pub count_past_wish : 0 < (child_at cs i).wish → length (filter is_modest (drop i cs)) ≡ length (filter is_modest (drop (i + 1) cs))
  count_past_wish k = ap length (modest_skip cs i h k)

pub need-counted_children_where : (all : Bool) (cs : List Child) → need (counted_children_where all cs) ≡ need cs
need-counted_children_where all cs = need-counted_more cs all

pub filter-most : (p : Child → Bool) (cs : List Child) → length (filter p cs) ≤ length cs
filter-most p [] = omega arith
filter-most p (c ∷ cs) = filter-most_more (p c) (filter p cs) (length cs) c (filter-most p cs)
  where
    filter-most_more : (b : Bool) (ds : List Child) (n : ℕ) (c : Child) → length ds ≤ n → length (if b then (c ∷ ds) else ds) ≤ suc n
    filter-most_more true ds n c h = omega arith
    filter-most_more false ds n c h = omega arith

pub least_in_need : (cs : List Child) (i : ℕ) → i < length cs → (child_at cs i).least ≤ need cs
least_in_need [] i h = absurd (omega arith)
least_in_need (c ∷ cs) zero h = omega arith
least_in_need (c ∷ cs) (suc i) h = omega (arith, least_in_need cs i (omega arith))

-- a child's least size is a part of what all need, which is at most the room
module _ (a : Axis) (ts : List Tree) (all : Bool) (i : ℕ) (t : Tree) (h : i < length ts) (is : t ≡ get_or ts i t) where
  pub least_within : least a (shape_of t) ≤ need (child_list a (shapes_of ts))
  least_within = omega (
    arith,
    least_of_child a ts all i t h is,
    least_in_need (counted_children_where all (child_list a (shapes_of ts))) i (child_within a ts all i t h is),
    need-counted_children_where all (child_list a (shapes_of ts)),
  )

pub needs_in_all : (all : Bool) (cs : List Child) → (need (filter wishes (counted_children_where all cs)) + need (filter is_modest (counted_children_where all cs)) ≡ need cs) × (length (filter is_modest (counted_children_where all cs)) ≤ length cs)
needs_in_all all cs = (need_parts (counted_children_where all cs) ∙ need-counted_children_where all cs, omega (arith, filter-most is_modest (counted_children_where all cs), length-counted_children all cs))

-- and by its place among the children
pub least_there : (a : Axis) (ts : List Tree) (i : ℕ) (t : Tree) → i < length ts → t ≡ get_or ts i t → (child_at (child_list a (shapes_of ts)) i).least ≡ least a (shape_of t)
least_there a ts i t h is = ap (λ c. c.least) (child_at-shapes_of a ts i t h ∙ ap (λ u. child a (shape_of u)) (sym is))
