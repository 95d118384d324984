-- The least sizes of the parts of a tree are found child by child.
use Rattle.std.proofs.Common.{◌≡◌, ℕ, zero, suc, ◌+◌, ◌-◌, ◌≤◌, ◌<◌, ◌^◌, max, List, [], ◌∷◌, ◌++◌, append_assoc, append-nil, length, length-append, drop, get_or, set, refl, ap, sym, ◌∙◌, arith}
use Rattle.nv_layout.specs.Content.{Shape, group, shape_of, shapes_of, no_shapes, more_shapes}
use Rattle.nv_layout.specs.Least.{along_or_across, least, least_sum, least_max, gap, IsMeasurable}
use Rattle.nv_layout.specs.inside.Measured.{other, leasts, leasts_below, leasts_below_all, zeros}
use Rattle.nv_layout.specs.declared.nodes.Axis.{Axis}
use Rattle.nv_layout.specs.declared.nodes.Axis.TheVariants.{Across, Down}
use Rattle.nv_layout.specs.declared.nodes.Tree.{Tree}
use Rattle.nv_layout.proofs.Contents.{shapes_of-at, shapes_of-end}

pub along_is : (a : Axis) (t : Shape) → along_or_across Across a (least Across t) (least Down t) ≡ least a t
along_is Across t = refl
along_is Down t = refl

pub across_is : (a : Axis) (t : Shape) → along_or_across Down a (least Across t) (least Down t) ≡ least (other a) t
across_is Across t = refl
across_is Down t = refl

measurable : (a : Axis) (t : Shape) → least a t < 2 ^ 32 → least (other a) t < 2 ^ 32 → IsMeasurable t
measurable Across t h k = (h, k)
measurable Down t h k = (k, h)

set_past : (xs ys : List ℕ) (k n v : ℕ) → k ≡ length xs + n → set (xs ++ ys) k v ≡ xs ++ set ys n v
set_past [] ys k n v e = ap (λ m. set ys m v) (omega arith)
set_past (x ∷ xs) ys zero n v e = absurd (omega arith)
set_past (x ∷ xs) ys (suc k) n v e = ap (λ l. x ∷ l) (set_past xs ys k n v (omega arith))

set_front : (xs ys : List ℕ) (k v : ℕ) → k < length xs → set (xs ++ ys) k v ≡ set xs k v ++ ys
set_front [] ys k v h = absurd (omega arith)
set_front (x ∷ xs) ys zero v h = refl
set_front (x ∷ xs) ys (suc k) v h = ap (λ l. x ∷ l) (set_front xs ys k v (omega arith))

-- a number in the place of a zero
put_there : (front done zs below : List ℕ) (k v : ℕ) → k ≡ length front + length done
    → set (front ++ ((done ++ (0 ∷ zs)) ++ below)) k v ≡ front ++ (((done ++ (v ∷ [])) ++ zs) ++ below)
put_there front done zs below k v e =
    set_past front ((done ++ (0 ∷ zs)) ++ below) k (length done) v e
    ∙ ap (λ l. front ++ l) (set_front (done ++ (0 ∷ zs)) below (length done) v (omega (arith, length-append done (0 ∷ zs)))
    ∙ ap (λ l. l ++ below) (set_past done (0 ∷ zs) (length done) 0 v (omega arith) ∙ sym (append_assoc done (v ∷ []) zs)))

-- children of a group, of which the first ones are measured
pub record Measuring (a : Axis) (ts : List Tree) (i start along across : ℕ) (front into : List ℕ) : Type 0 where
  pub sum : along + least_sum a (shapes_of (drop i ts)) ≡ least_sum a (shapes_of ts)
  pub most : max across (least_max (other a) (shapes_of (drop i ts))) ≡ least_max (other a) (shapes_of ts)
  pub done : List ℕ
  pub below : List ℕ
  pub into_is : into ≡ front ++ ((done ++ zeros (length ts - i)) ++ below)
  pub start_is : start ≡ length front
  pub so_many : length done ≡ i
  pub done_is : done ++ leasts a (shapes_of (drop i ts)) ≡ leasts a (shapes_of ts)
  pub below_is : below ++ leasts_below_all (shapes_of (drop i ts)) ≡ leasts_below_all (shapes_of ts)

pub measuring_start : (a : Axis) (ts : List Tree) (start : ℕ) (front into : List ℕ) → start ≡ length front → into ≡ front ++ zeros (length ts) → Measuring a ts 0 start 0 0 front into
measuring_start a ts start front into e f = record {
  sum = omega arith;
  most = omega arith;
  done = [];
  below = [];
  into_is = f ∙ ap (λ l. front ++ l) (sym (append-nil (zeros (length ts)))) ∙ ap (λ n. front ++ (zeros n ++ [])) (omega arith);
  start_is = e;
  so_many = refl;
  done_is = refl;
  below_is = refl;
}

one_zero : (n k : ℕ) → k < n → zeros (n - k) ≡ 0 ∷ zeros (n - (k + 1))
one_zero n k h = let e : n - k ≡ suc (n - (k + 1)) = omega arith in ap zeros e

no_zero : (n k : ℕ) → n ≤ k → zeros (n - k) ≡ []
no_zero n k h = let e : n - k ≡ 0 = omega arith in ap zeros e

pub zeros_more : (into now : List ℕ) (n k : ℕ) (all : List ℕ) → k < n → now ≡ into ++ 0 ∷ [] → into ++ zeros (n - k) ≡ all → now ++ zeros (n - (k + 1)) ≡ all
zeros_more into now n k all h is e =
    ap (λ l. l ++ zeros (n - (k + 1))) is ∙ append_assoc into (0 ∷ []) (zeros (n - (k + 1))) ∙ ap (λ l. into ++ l) (sym (one_zero n k h)) ∙ e

pub zeros_all : (into : List ℕ) (n k : ℕ) (all : List ℕ) → n ≤ k → into ++ zeros (n - k) ≡ all → into ≡ all
zeros_all into n k all h e = sym (append-nil into) ∙ ap (λ l. into ++ l) (sym (no_zero n k h)) ∙ e

length-zeros : (n : ℕ) → length (zeros n) ≡ n
length-zeros zero = refl
length-zeros (suc n) = omega (arith, length-zeros n)

module _ (a : Axis) (ts : List Tree) (i start along across : ℕ) (front into : List ℕ) (t : Tree) (h : i < length ts) (is : t ≡ get_or ts i t) (m : Measuring a ts i start along across front into) where
  here : shapes_of (drop i ts) ≡ more_shapes (shape_of t) (shapes_of (drop (i + 1) ts))
  here = shapes_of-at ts i t h ∙ ap (λ u. more_shapes (shape_of u) (shapes_of (drop (i + 1) ts))) (sym is)

  sum_here : along + (least a (shape_of t) + (gap a (shapes_of (drop (i + 1) ts)) + least_sum a (shapes_of (drop (i + 1) ts)))) ≡ least_sum a (shapes_of ts)
  sum_here = sym (ap (λ ss. along + least_sum a ss) here) ∙ m.sum

  most_here : max across (max (least (other a) (shape_of t)) (least_max (other a) (shapes_of (drop (i + 1) ts)))) ≡ least_max (other a) (shapes_of ts)
  most_here = sym (ap (λ ss. max across (least_max (other a) ss)) here) ∙ m.most

  pub child_measurable : least_sum a (shapes_of ts) < 2 ^ 32 → least_max (other a) (shapes_of ts) < 2 ^ 32 → IsMeasurable (shape_of t)
  child_measurable k l = measurable a (shape_of t) (omega (arith, sum_here)) (omega (arith, most_here))

  pub place_within : start + i < length into
  place_within = omega (
    arith,
    ap length m.into_is,
    length-append front ((m.done ++ zeros (length ts - i)) ++ m.below),
    length-append (m.done ++ zeros (length ts - i)) m.below,
    length-append m.done (zeros (length ts - i)),
    length-zeros (length ts - i),
    m.start_is,
    m.so_many,
  )

  pub measuring_step : (into' into'' : List ℕ) (low wide g most : ℕ) → into' ≡ into ++ leasts_below (shape_of t) → into'' ≡ set into' (start + i) low
      → low ≡ least a (shape_of t) → wide ≡ least (other a) (shape_of t) → g ≡ gap a (shapes_of (drop (i + 1) ts))
      → most ≡ max wide across → Measuring a ts (i + 1) start (along + (low + g)) most front into''
  measuring_step into' into'' low wide g most put now low_is wide_is gap_is most_is =
      let one_less : zeros (length ts - i) ≡ 0 ∷ zeros (length ts - (i + 1)) = one_zero (length ts) i h in
      let was : into' ≡ front ++ ((m.done ++ (0 ∷ zeros (length ts - (i + 1)))) ++ (m.below ++ leasts_below (shape_of t))) =
      put ∙ ap (λ l. l ++ leasts_below (shape_of t)) (m.into_is ∙ ap (λ l. front ++ ((m.done ++ l) ++ m.below)) one_less)
      ∙ append_assoc front ((m.done ++ (0 ∷ zeros (length ts - (i + 1)))) ++ m.below) (leasts_below (shape_of t))
      ∙ ap (λ l. front ++ l) (append_assoc (m.done ++ (0 ∷ zeros (length ts - (i + 1)))) m.below (leasts_below (shape_of t))) in
      record {
        sum = omega (arith, sum_here, low_is, gap_is);
        most = omega (arith, most_here, wide_is, most_is);
        done = m.done ++ (low ∷ []);
        below = m.below ++ leasts_below (shape_of t);
        into_is = now ∙ ap (λ l. set l (start + i) low) was
            ∙ put_there front m.done (zeros (length ts - (i + 1))) (m.below ++ leasts_below (shape_of t)) (start + i) low (omega (arith, m.start_is, m.so_many));
        start_is = m.start_is;
        so_many = omega (arith, length-append m.done (low ∷ []), m.so_many);
        done_is =
            append_assoc m.done (low ∷ []) (leasts a (shapes_of (drop (i + 1) ts)))
            ∙ ap (λ n. m.done ++ (n ∷ leasts a (shapes_of (drop (i + 1) ts)))) low_is
            ∙ sym (ap (λ ss. m.done ++ leasts a ss) here) ∙ m.done_is;
        below_is =
            append_assoc m.below (leasts_below (shape_of t)) (leasts_below_all (shapes_of (drop (i + 1) ts)))
            ∙ sym (ap (λ ss. m.below ++ leasts_below_all ss) here) ∙ m.below_is;
      }

pub measuring_end : (a : Axis) (ts : List Tree) (i start along across : ℕ) (front into : List ℕ) → length ts ≤ i → Measuring a ts i start along across front into
    → (along ≡ least_sum a (shapes_of ts)) × (across ≡ least_max (other a) (shapes_of ts)) × (into ≡ front ++ leasts_below (group a (shapes_of ts)))
measuring_end a ts i start along across front into h m =
    let none : shapes_of (drop i ts) ≡ no_shapes = shapes_of-end ts i h in
    let done : m.done ≡ leasts a (shapes_of ts) = sym (append-nil m.done) ∙ sym (ap (λ ss. m.done ++ leasts a ss) none) ∙ m.done_is in
    let below : m.below ≡ leasts_below_all (shapes_of ts) = sym (append-nil m.below) ∙ sym (ap (λ ss. m.below ++ leasts_below_all ss) none) ∙ m.below_is in
    let no_more : zeros (length ts - i) ≡ [] = no_zero (length ts) i h in (
      omega (arith, ap (λ ss. along + least_sum a ss) none, m.sum),
      omega (arith, ap (λ ss. max across (least_max (other a) ss)) none, m.most),
      m.into_is ∙ ap (λ l. front ++ ((m.done ++ l) ++ m.below)) no_more ∙ ap (λ l. front ++ (l ++ m.below)) (append-nil m.done ∙ done)
          ∙ ap (λ l. front ++ (leasts a (shapes_of ts) ++ l)) below,
    )
