-- The path to a window, child by child.
use Rattle.std.proofs.Common.{◌≡◌, ℕ, zero, suc, ℤ, ◌+◌, ◌<◌, Bool, true, false, ◌||◌, if◌then◌else◌, List, [], ◌∷◌, ◌++◌, append_assoc, append-nil, length, take, drop, get_or, refl, ap, sym, ◌∙◌, subst, arith}
use Rattle.std.proofs.Math.Seq.{take-append_seam}
use Rattle.std.proofs.lemmas.List.{get_or_default}
use Rattle.nv_layout.specs.Content.{Shapes, no_shapes, more_shapes, shape_of, shapes_of}
use Rattle.nv_layout.specs.Changes.{holds, holds_among}
use Rattle.nv_layout.specs.inside.Paths.{path_of, path_among, LeadsTo}
use Rattle.nv_layout.specs.declared.nodes.Tree.{Tree}
use Rattle.nv_layout.proofs.LeafOrder.{or_false}

-- no path leads to what isn't there
path_missing : (w : ℤ) (i : ℕ) (ts : Shapes) → holds_among w ts ≡ false → path_among w i ts ≡ []
path_missing w i no_shapes e = refl
path_missing w i (more_shapes t ts) e =
    ap (λ b. if b then (i ∷ path_of w t) else path_among w (suc i) ts) (or_false (holds w t) (holds_among w ts) e).0
    ∙ path_missing w (suc i) ts (or_false (holds w t) (holds_among w ts) e).1

none_more : (k : ℕ) → k ≡ k + 0
none_more k = omega arith

one_further : (k i : ℕ) → suc k + i ≡ k + suc i
one_further k i = omega arith

-- the first child that holds the window
path_first : (w : ℤ) (k : ℕ) (ts : List Tree) (i : ℕ) (t : Tree) → i < length ts → t ≡ get_or ts i t → holds_among w (shapes_of (take i ts)) ≡ false → holds w (shape_of t) ≡ true
    → path_among w k (shapes_of ts) ≡ (k + i) ∷ path_of w (shape_of t)
path_first w k [] i t h is before here = absurd (omega arith)
path_first w k (u ∷ us) zero t h is before here =
    ap (λ b. if b then (k ∷ path_of w (shape_of u)) else path_among w (suc k) (shapes_of us)) (ap (λ v. holds w (shape_of v)) (sym is) ∙ here)
    ∙ ap (λ v. k ∷ path_of w (shape_of v)) (sym is)
    ∙ ap (λ n. n ∷ path_of w (shape_of t)) (none_more k)
path_first w k (u ∷ us) (suc i) t h is before here =
    let apart = or_false (holds w (shape_of u)) (holds_among w (shapes_of (take i us))) before in
    ap (λ b. if b then (k ∷ path_of w (shape_of u)) else path_among w (suc k) (shapes_of us)) apart.0
    ∙ path_first w (suc k) us i t (omega arith) is apart.1 here
    ∙ ap (λ n. n ∷ path_of w (shape_of t)) (one_further k i)

from_none : (i : ℕ) → 0 + i ≡ i
from_none i = omega arith

path_top : (w : ℤ) (ts : List Tree) (i : ℕ) (t : Tree) → i < length ts → t ≡ get_or ts i t → holds_among w (shapes_of (take i ts)) ≡ false → holds w (shape_of t) ≡ true
    → path_among w 0 (shapes_of ts) ≡ i ∷ path_of w (shape_of t)
path_top w ts i t h is before here = path_first w 0 ts i t h is before here ∙ ap (λ n. n ∷ path_of w (shape_of t)) (from_none i)

pub path_found : (w : ℤ) (ts : List Tree) (i : ℕ) (t : Tree) (before now after : List ℕ) → i < length ts → t ≡ get_or ts i t → holds_among w (shapes_of (take i ts)) ≡ false → holds w (shape_of t) ≡ true
    → now ≡ before ++ i ∷ [] → after ≡ now ++ path_of w (shape_of t) → after ≡ before ++ path_among w 0 (shapes_of ts)
path_found w ts i t before now after h is none here now_is after_is =
    after_is ∙ ap (λ l. l ++ path_of w (shape_of t)) now_is ∙ append_assoc before (i ∷ []) (path_of w (shape_of t))
    ∙ ap (λ l. before ++ l) (sym (path_top w ts i t h is none here))

pub path_nowhere : (w : ℤ) (ts : List Tree) (before now : List ℕ) → holds_among w (shapes_of ts) ≡ false → now ≡ before → now ≡ before ++ path_among w 0 (shapes_of ts)
path_nowhere w ts before now none is = is ∙ sym (append-nil before) ∙ ap (λ l. before ++ l) (sym (path_missing w 0 (shapes_of ts) none))

-- a place that led to nothing is taken away
pub cut_back : (old now after cut more : List ℕ) (n p : ℕ) → n ≡ length old → now ≡ old ++ p ∷ [] → after ≡ now ++ more → cut ≡ take n after → cut ≡ old
cut_back old now after cut more n p n_is now_is after_is cut_is =
    cut_is ∙ ap (take n) (after_is ∙ ap (λ l. l ++ more) now_is ∙ append_assoc old (p ∷ []) more)
    ∙ ap (λ m. take m (old ++ (p ∷ more))) n_is ∙ take-append_seam old (p ∷ more)

-- a child that holds it
pub held_among : (w : ℤ) (ts : List Tree) (i : ℕ) (t : Tree) → i < length ts → t ≡ get_or ts i t → holds w (shape_of t) ≡ true → holds_among w (shapes_of ts) ≡ true
held_among w [] i t h is here = absurd (omega arith)
held_among w (u ∷ us) zero t h is here = ap (λ b. b || holds_among w (shapes_of us)) (ap (λ v. holds w (shape_of v)) (sym is) ∙ here)
held_among w (u ∷ us) (suc i) t h is here = ap (λ b. holds w (shape_of u) || b) (held_among w us i t (omega arith) is here) ∙ or_true (holds w (shape_of u))
  where
    or_true : (a : Bool) → (a || true) ≡ true
    or_true true = refl
    or_true false = refl

-- where a path leads
first_holding : (w : ℤ) (ts : List Tree) → holds_among w (shapes_of ts) ≡ true
    → (i : ℕ) × (i < length ts) × (holds_among w (shapes_of (take i ts)) ≡ false) × ((d : Tree) → holds w (shape_of (get_or ts i d)) ≡ true)
first_holding w [] e = cc
first_holding w (t ∷ ts) e = by_case (first_holding w ts) (holds w (shape_of t)) refl
  where
    by_case : (holds_among w (shapes_of ts) ≡ true → (i : ℕ) × (i < length ts) × (holds_among w (shapes_of (take i ts)) ≡ false) × ((d : Tree) → holds w (shape_of (get_or ts i d)) ≡ true))
        → (b : Bool) → holds w (shape_of t) ≡ b
        → (i : ℕ) × (i < length (t ∷ ts)) × (holds_among w (shapes_of (take i (t ∷ ts))) ≡ false) × ((d : Tree) → holds w (shape_of (get_or (t ∷ ts) i d)) ≡ true)
    by_case rest true is = (0, omega arith, refl, λ d. is)
    by_case rest false is =
        let r = rest (sym (ap (λ b. b || holds_among w (shapes_of ts)) is) ∙ e) in
        (suc r.0, omega (arith, r.1), ap (λ b. b || holds_among w (shapes_of (take r.0 ts))) is ∙ r.2, r.3)

pub path_some : (w : ℤ) (ts : List Tree) (path : List ℕ) → holds_among w (shapes_of ts) ≡ true → path ≡ path_among w 0 (shapes_of ts) → 0 < length path
path_some w [] path held is = cc
path_some w (u ∷ us) path held is =
    let r = first_holding w (u ∷ us) held in
    let t : Tree = get_or (u ∷ us) r.0 u in
    let t_is : t ≡ get_or (u ∷ us) r.0 t = get_or_default (u ∷ us) r.0 u t r.1 in
    omega (arith, ap length (is ∙ path_top w (u ∷ us) r.0 t r.1 t_is r.2 (r.3 u)))

pub leads_to : (w : ℤ) (ts : List Tree) (path : List ℕ) (place : ℕ) (further : List ℕ) → holds_among w (shapes_of ts) ≡ true → path ≡ path_among w 0 (shapes_of ts)
    → place ≡ get_or path 0 place → further ≡ drop 1 path → LeadsTo w ts place further
leads_to w [] path place further held is first on = cc
leads_to w (u ∷ us) path place further held is first on =
    let r = first_holding w (u ∷ us) held in
    let t : Tree = get_or (u ∷ us) r.0 u in
    let t_is : t ≡ get_or (u ∷ us) r.0 t = get_or_default (u ∷ us) r.0 u t r.1 in
    let all : path ≡ r.0 ∷ path_of w (shape_of t) = is ∙ path_top w (u ∷ us) r.0 t r.1 t_is r.2 (r.3 u) in
    let place_is : place ≡ r.0 = first ∙ ap (λ l. get_or l 0 place) all in
    subst (λ n. LeadsTo w (u ∷ us) n further) (sym place_is) (record {
      within = r.1;
      before = r.2;
      here = r.3;
      on = λ d. on ∙ ap (drop 1) all ∙ ap (λ v. path_of w (shape_of v)) (get_or_default (u ∷ us) r.0 u d r.1);
    })
