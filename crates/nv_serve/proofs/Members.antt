-- Members of lists, and lists that are parted in two ways.
use Rattle.std.proofs.Common.{◌≡◌, ◌⊎◌, inl, inr, ⊎_elim, ℕ, zero, suc, Bool, true, false, cond, List, [], ◌∷◌, ◌++◌, length, filter, flat_map, slice_get, Some, refl, ap, sym, ◌∙◌, arith, append_assoc}
use Rattle.std.proofs.lemmas.Option.{none-some, same_Some}

module _ {A : Type 0} where
  -- x is one of these
  abbrev pub In : A → List A → Type 0
  In x [] = ⊥
  In x (y ∷ ys) = (y ≡ x) ⊎ In x ys

  pub in_middle : (xs ys : List A) (e : A) → In e (xs ++ e ∷ ys)
  in_middle [] ys e = inl refl
  in_middle (x ∷ xs) ys e = inr (in_middle xs ys e)

  pub in_cases : (e : A) (xs ys : List A) → In e (xs ++ ys) → In e xs ⊎ In e ys
  in_cases e [] ys h = inr h
  in_cases e (x ∷ xs) ys (inl h) = inl (inl h)
  in_cases e (x ∷ xs) ys (inr h) = ⊎_elim (λ l. inl (inr l)) (λ r. inr r) (in_cases e xs ys h)

  pub in_left : (e : A) (xs ys : List A) → In e xs → In e (xs ++ ys)
  in_left e [] ys h = absurd h
  in_left e (x ∷ xs) ys (inl h) = inl h
  in_left e (x ∷ xs) ys (inr h) = inr (in_left e xs ys h)

  pub in_right : (e : A) (xs ys : List A) → In e ys → In e (xs ++ ys)
  in_right e [] ys h = h
  in_right e (x ∷ xs) ys h = inr (in_right e xs ys h)

  -- where a member stands
  pub record Stands (e : A) (xs : List A) : Type 0 where
    pub front : List A
    pub behind : List A
    pub parts : xs ≡ front ++ e ∷ behind

  pub stands : (e : A) (xs : List A) → In e xs → Stands e xs
  stands e [] h = absurd h
  stands e (x ∷ xs) (inl h) = record { front = []; behind = xs; parts = ap (λ (y : A). y ∷ xs) h }
  stands e (x ∷ xs) (inr h) =
      let s = stands e xs h in record { front = x ∷ s.front; behind = s.behind; parts = ap (λ (l : List A). x ∷ l) s.parts }

  in_cond : (p : Bool) (e x : A) (ys : List A) → p ≡ true → x ≡ e → In e (cond p (x ∷ ys) ys)
  in_cond true e x ys t h = inl h
  in_cond false e x ys t h = absurd (cc (t))

  in_later : (p : Bool) (e x : A) (ys : List A) → In e ys → In e (cond p (x ∷ ys) ys)
  in_later true e x ys h = inr h
  in_later false e x ys h = h

  -- a member that passes a test is one of those that do
  pub in_filter : (p : A → Bool) (e : A) (xs : List A) → p e ≡ true → In e xs → In e (filter p xs)
  in_filter p e [] t h = absurd h
  in_filter p e (x ∷ xs) t (inl h) = in_cond (p x) e x (filter p xs) (ap p h ∙ t) h
  in_filter p e (x ∷ xs) t (inr h) = in_later (p x) e x (filter p xs) (in_filter p e xs t h)

  -- a place of a list
  pub record Place (k : ℕ) (x : A) (xs : List A) : Type 0 where
    pub front : List A
    pub behind : List A
    pub parts : xs ≡ front ++ x ∷ behind
    pub length_is : length front ≡ k

  pub place : (k : ℕ) (x : A) (xs : List A) → slice_get xs k ≡ Some x → Place k x xs
  place k x [] h = absurd (none-some x h)
  place zero x (y ∷ xs) h = record { front = []; behind = xs; parts = ap (λ (z : A). z ∷ xs) (same_Some y x h); length_is = refl }
  place (suc k) x (y ∷ xs) h =
      let p = place k x xs h in
      record { front = y ∷ p.front; behind = p.behind; parts = ap (λ (l : List A). y ∷ l) p.parts; length_is = ap suc p.length_is }

  at_length : (front behind : List A) (x : A) → slice_get (front ++ x ∷ behind) (length front) ≡ Some x
  at_length [] behind x = refl
  at_length (y ∷ front) behind x = at_length front behind x

  pub at_place : (xs front behind : List A) (x : A) → xs ≡ front ++ x ∷ behind → slice_get xs (length front) ≡ Some x
  at_place xs front behind x h = ap (λ (l : List A). slice_get l (length front)) h ∙ at_length front behind x

-- ---- lists that are parted at two elements that a test counts

module _ {A : Type 0} (p : A → Bool) where
  counted_front : (x : A) (xs ys : List A) → p x ≡ true → length (filter p (x ∷ xs)) ≡ suc (length (filter p xs))
  counted_front x xs ys t = ap (λ (b : Bool). length (cond b (x ∷ filter p xs) (filter p xs))) t

  same_count : (b : Bool) (x : A) (xs ys : List A) → length (cond b (x ∷ xs) xs) ≡ length (cond b (x ∷ ys) ys) → length xs ≡ length ys
  same_count true x xs ys h = omega (arith, h)
  same_count false x xs ys h = h

  -- where as many were counted before the one as before the other, it is one place
  pub same_place : (xs ys bs ds : List A) (e f : A) → xs ++ e ∷ bs ≡ ys ++ f ∷ ds → p e ≡ true → p f ≡ true → length (filter p xs) ≡ length (filter p ys) → xs ≡ ys
  same_place [] [] bs ds e f h te tf n = refl
  same_place [] (y ∷ ys) bs ds e f h te tf n =
      let here : y ≡ e = cc (h) in
      let k = counted_front y ys ys (ap p here ∙ te) in absurd (omega (arith, n, k))
  same_place (x ∷ xs) [] bs ds e f h te tf n =
      let here : x ≡ f = cc (h) in
      let k = counted_front x xs xs (ap p here ∙ tf) in absurd (omega (arith, n, k))
  same_place (x ∷ xs) (y ∷ ys) bs ds e f h te tf n =
      let here : x ≡ y = cc (h) in
      let rest : xs ++ e ∷ bs ≡ ys ++ f ∷ ds = cc (h) in
      let m : length (filter p (x ∷ xs)) ≡ length (filter p (x ∷ ys)) = n ∙ ap (λ (z : A). length (filter p (z ∷ ys))) (sym here) in
      let later : xs ≡ ys = same_place xs ys bs ds e f rest te tf (same_count (p x) x (filter p xs) (filter p ys) m) in
      cc (here, later)

-- the elements behind two fronts that are the same
pub same_behind : {A : Type 0} (xs bs ds : List A) (e f : A) → xs ++ e ∷ bs ≡ xs ++ f ∷ ds → (e ≡ f) × (bs ≡ ds)
same_behind [] bs ds e f h = (cc (h), cc (h))
same_behind (x ∷ xs) bs ds e f h = same_behind xs bs ds e f (cc (h))

-- ---- what elements give, one after another

module _ {A B : Type 0} (f : A → List B) where
  pub flat-append : (xs ys : List A) → flat_map f (xs ++ ys) ≡ flat_map f xs ++ flat_map f ys
  flat-append [] ys = refl
  flat-append (x ∷ xs) ys = ap (λ (l : List B). f x ++ l) (flat-append xs ys) ∙ sym (append_assoc (f x) (flat_map f xs) (flat_map f ys))

  pub flat_none : (xs : List A) → ((e : A) → In e xs → f e ≡ []) → flat_map f xs ≡ []
  flat_none [] h = refl
  flat_none (x ∷ xs) h = ap (λ (l : List B). l ++ flat_map f xs) (h x (inl refl)) ∙ flat_none xs (λ e i. h e (inr i))

  one_only : (b : Bool) (x : A) (ys : List A) → (b ≡ false → f x ≡ []) → f x ++ flat_map f ys ≡ flat_map f (cond b (x ∷ ys) ys)
  one_only true x ys h = refl
  one_only false x ys h = ap (λ (l : List B). l ++ flat_map f ys) (h refl)

  -- only those that pass a test give any
  pub only : (p : A → Bool) (xs : List A) → ((e : A) → In e xs → p e ≡ false → f e ≡ []) → flat_map f xs ≡ flat_map f (filter p xs)
  only p [] h = refl
  only p (x ∷ xs) h =
      ap (λ (l : List B). f x ++ l) (only p xs (λ e i t. h e (inr i) t)) ∙ one_only (p x) x (filter p xs) (λ t. h x (inl refl) t)

module _ {A : Type 0} (p : A → Bool) where
  abbrev pub if_passes : A → List A
  if_passes x = cond (p x) (x ∷ []) []

  one_passes : (b : Bool) (x : A) (ys : List A) → cond b (x ∷ ys) ys ≡ cond b (x ∷ []) [] ++ ys
  one_passes true x ys = refl
  one_passes false x ys = refl

  pub filter_is_flat : (xs : List A) → filter p xs ≡ flat_map if_passes xs
  filter_is_flat [] = refl
  filter_is_flat (x ∷ xs) = one_passes (p x) x (filter p xs) ∙ ap (λ (l : List A). if_passes x ++ l) (filter_is_flat xs)
