-- How many buffers have each name, as buffers change.
use Rattle.std.proofs.Common.{◌≡◌, ℕ, ℤ, pos, ◌+◌, ◌≤◌, ◌==◌, ◌+ℤ◌, Bool, true, false, cond, not, ◌&&◌, ◌||◌, List, [], ◌∷◌, ◌++◌, length, Option, Some, None, refl, sym, ap, subst, ◌∙◌, arith, Vec, Ordering, true≢false, is_some}
use Rattle.std.specs.Prelude.{◌≤ℤ◌, bytes_eq, unwrap_or, Result, Ok, Err, is_ok, IfOk, IfSome, OnErr, OnOk, nat_lt}
use Rattle.std.specs.BTreeMap.{BTreeMap, insert_entry, get_by}
use Rattle.std.specs.Cmp.Lexicographic.{slice_cmp, bytes_decides}
use Rattle.std.specs.List.{list_any}
use Rattle.std.specs.Map.{lookup, remove_entry}
use Rattle.std.specs.Ordering.{int_eq, nat_cmp, is_eq, match_ordering}
use Rattle.std.specs.declared.cmp.Ordering.TheVariants.{Less, Equal, Greater}
use Rattle.std.specs.declared.alloc.AllocError.{AllocError}
use Rattle.std.proofs.lemmas.Bool.Decides.{nat_tests}
use Rattle.std.proofs.lemmas.Int.{ints}
use Rattle.std.proofs.lemmas.Map.Text.{is_eq-slice_cmp}
use Rattle.nv_buffer.specs.Content.{Content, IsEdit, after_seal, after_seal_of}
use Rattle.nv_buffer.specs.declared.buffer.Spliced.{Spliced}
use Rattle.nv_buffer.specs.declared.edit.Edit.{Edit}
use Rattle.nv_windows.specs.Sound.{IsRisingFrom}
use Rattle.nv_model.specs.Deleting.{other_handles}
use Rattle.nv_model.specs.Editors.{at_handle, handles_of}
use Rattle.nv_model.proofs.Lookups.{same_int, int_eq-itself}
use Rattle.nv_editor.specs.inside.Named.{AreNameCounts, is_of_name, is_other_named, number_under, number_named, one_if, with_one_of, own_number}
use Rattle.nv_editor.specs.Sound.{content_of}
use Rattle.nv_editor.proofs.Putting.{IsPut, put_at}
use Rattle.nv_editor.proofs.TakingOut.{but_at}

abbrev Rises : ℤ → List (ℤ × Content) → Type 0
Rises low es = IsRisingFrom low (handles_of es)

-- ---- the buffers
numbers_set : (n : ℤ) (c b : Content) (es : List (ℤ × Content)) → at_handle es n ≡ Some b → c.name ≡ b.name → (name : List ℕ)
    → number_named (put_at n c es) name ≡ number_named es name
numbers_set n c b [] found same name = refl
numbers_set n c b (e ∷ es) found same name = by_case (int_eq e.0 n) found (λ here. numbers_set n c b es here same name)
  where
    by_case : (t : Bool) → cond t (Some e.1) (at_handle es n) ≡ Some b
        → (at_handle es n ≡ Some b → number_named (put_at n c es) name ≡ number_named es name)
        → number_named (cond t ((e.0, c) ∷ es) (e ∷ put_at n c es)) name ≡ one_if name e.1.name + number_named es name
    by_case true here rest =
        ap (λ (other : List ℕ). one_if name other + number_named es name)
        (same ∙ sym (ap (λ (o : Option Content). (content_of n o).name) here))
    by_case false here rest = ap (λ (m : ℕ). one_if name e.1.name + m) (rest here)

swapped : (a b n : ℕ) → a + (b + n) ≡ b + (a + n)
swapped a b n = omega arith

-- a buffer and the others
numbers_but : (n : ℤ) (b : Content) (es : List (ℤ × Content)) → at_handle es n ≡ Some b → (name : List ℕ)
    → number_named es name ≡ one_if name b.name + number_named (but_at n es) name
numbers_but n b [] found name = absurd (true≢false (sym (ap (λ (o : Option Content). is_some o) found)))
numbers_but n b (e ∷ es) found name = by_case (int_eq e.0 n) found (λ here. numbers_but n b es here name)
  where
    by_case : (t : Bool) → cond t (Some e.1) (at_handle es n) ≡ Some b
        → (at_handle es n ≡ Some b → number_named es name ≡ one_if name b.name + number_named (but_at n es) name)
        → one_if name e.1.name + number_named es name ≡ one_if name b.name + number_named (cond t es (e ∷ but_at n es)) name
    by_case true here rest =
        ap (λ (o : Option Content). one_if name (content_of n o).name + number_named es name) here
    by_case false here rest =
        ap (λ (m : ℕ). one_if name e.1.name + m) (rest here)
        ∙ swapped (one_if name e.1.name) (one_if name b.name) (number_named (but_at n es) name)

numbers_put : (n : ℤ) (c b : Content) (es : List (ℤ × Content)) → at_handle es n ≡ Some b → (name : List ℕ)
    → number_named (put_at n c es) name ≡ one_if name c.name + number_named (but_at n es) name
numbers_put n c b [] found name = absurd (true≢false (sym (ap (λ (o : Option Content). is_some o) found)))
numbers_put n c b (e ∷ es) found name = by_case (int_eq e.0 n) found (λ here. numbers_put n c b es here name)
  where
    by_case : (t : Bool) → cond t (Some e.1) (at_handle es n) ≡ Some b
        → (at_handle es n ≡ Some b → number_named (put_at n c es) name ≡ one_if name c.name + number_named (but_at n es) name)
        → number_named (cond t ((e.0, c) ∷ es) (e ∷ put_at n c es)) name
        ≡ one_if name c.name + number_named (cond t es (e ∷ but_at n es)) name
    by_case true here rest = refl
    by_case false here rest =
        ap (λ (m : ℕ). one_if name e.1.name + m) (rest here)
        ∙ swapped (one_if name e.1.name) (one_if name c.name) (number_named (but_at n es) name)

numbers_push : (es : List (ℤ × Content)) (n : ℤ) (c : Content) (name : List ℕ)
    → number_named (es ++ (n, c) ∷ []) name ≡ number_named es name + one_if name c.name
numbers_push [] n c name = omega arith
numbers_push (e ∷ es) n c name =
    ap (λ (m : ℕ). one_if name e.1.name + m) (numbers_push es n c name)
    ∙ more (one_if name e.1.name) (number_named es name) (one_if name c.name)
  where
    more : (a b d : ℕ) → a + (b + d) ≡ a + b + d
    more a b d = omega arith

unnamed : (name : List ℕ) → (length name == 0) ≡ false → one_if name [] ≡ 0
unnamed [] some = absurd (true≢false some)
unnamed (x ∷ xs) some = refl

number_if : (t : Bool) (n : ℕ) (o : Option ℕ) → unwrap_or (cond t (Some n) o) 0 ≡ cond t n (unwrap_or o 0)
number_if true n o = refl
number_if false n o = refl

-- ---- a map of numbers
module _ {A : Type 0} where
  pub numbers_by : (m : Option (BTreeMap (Vec ℕ A) ℕ)) (f g : List ℕ → ℕ) → ((name : List ℕ) → (length name == 0) ≡ false → f name ≡ g name)
      → AreNameCounts m f → AreNameCounts m g
  numbers_by None f g same are = tt
  numbers_by (Some counts) f g same are = λ name some. are name some ∙ same name some

  pub numbers_stay : (m : Option (BTreeMap (Vec ℕ A) ℕ)) (es later : List (ℤ × Content)) (n : ℤ) (b c : Content) → IsPut es later n b c → c.name ≡ b.name
      → AreNameCounts m (number_named es) → AreNameCounts m (number_named later)
  numbers_stay m es later n b c is same are =
      subst (λ (l : List (ℤ × Content)). AreNameCounts m (number_named l)) (sym is.put)
      (numbers_by m (number_named es) (number_named (put_at n c es)) (λ name some. sym (numbers_set n c b es is.was same name)) are)

  pub numbers_pushed : (m : Option (BTreeMap (Vec ℕ A) ℕ)) (es later : List (ℤ × Content)) (n : ℤ) (c : Content) → later ≡ es ++ (n, c) ∷ [] → c.name ≡ []
      → AreNameCounts m (number_named es) → AreNameCounts m (number_named later)
  numbers_pushed m es later n c is none are =
      subst (λ (l : List (ℤ × Content)). AreNameCounts m (number_named l)) (sym is)
      (numbers_by m (number_named es) (number_named (es ++ (n, c) ∷ []))
      (λ name some. sym (numbers_push es n c name ∙ ap (λ (other : List ℕ). number_named es name + one_if name other) none ∙ ap (λ (k : ℕ). number_named es name + k) (unnamed name some) ∙ omega arith))
      are)

  -- the numbers before a buffer is taken out, seen as one more than those of the others
  pub numbers_before : (m : Option (BTreeMap (Vec ℕ A) ℕ)) (es : List (ℤ × Content)) (n : ℤ) (b : Content) → at_handle es n ≡ Some b
      → AreNameCounts m (number_named es) → AreNameCounts m (with_one_of b.name (number_named (but_at n es)))
  numbers_before m es n b found are =
      numbers_by m (number_named es) (with_one_of b.name (number_named (but_at n es))) (λ name some. numbers_but n b es found name) are

  pub numbers_after : (m : Option (BTreeMap (Vec ℕ A) ℕ)) (es later : List (ℤ × Content)) (n : ℤ) (b c : Content) → IsPut es later n b c
      → AreNameCounts m (with_one_of c.name (number_named (but_at n es))) → AreNameCounts m (number_named later)
  numbers_after m es later n b c is are =
      subst (λ (l : List (ℤ × Content)). AreNameCounts m (number_named l)) (sym is.put)
      (numbers_by m (with_one_of c.name (number_named (but_at n es))) (number_named (put_at n c es)) (λ name some. sym (numbers_put n c b es is.was name)) are)

  -- look-ups by names
  abbrev value_of : List (Vec ℕ A × ℕ) → List ℕ → Option ℕ
  value_of es name = lookup (λ (k : Vec ℕ A). is_eq (slice_cmp nat_cmp name k.items)) es

  abbrev by_items : Vec ℕ A → Vec ℕ A → Ordering
  by_items a b = slice_cmp nat_cmp a.items b.items

  same_items : (a b : Vec ℕ A) → by_items a b ≡ Equal → (name : List ℕ) → bytes_eq name a.items ≡ bytes_eq name b.items
  same_items a b e name =
      ap (bytes_eq name) ((bytes_decides a.items b.items).0 (sym (is_eq-slice_cmp a.items b.items) ∙ ap is_eq e))

  put_value : (es : List (Vec ℕ A × ℕ)) (k : Vec ℕ A) (n : ℕ) (name : List ℕ)
      → value_of (insert_entry by_items es k n) name ≡ cond (bytes_eq name k.items) (Some n) (value_of es name)
  put_value [] k n name = ap (λ (t : Bool). cond t (Some n) None) (is_eq-slice_cmp name k.items)
  put_value (e ∷ es) k n name = by_order (by_items k e.0) refl (put_value es k n name)
    where
      by_order : (o : Ordering) → by_items k e.0 ≡ o
          → value_of (insert_entry by_items es k n) name ≡ cond (bytes_eq name k.items) (Some n) (value_of es name)
          → value_of (match_ordering o ((k, n) ∷ e ∷ es) ((e.0, n) ∷ es) (e ∷ insert_entry by_items es k n)) name
          ≡ cond (bytes_eq name k.items) (Some n) (cond (is_eq (slice_cmp nat_cmp name e.0.items)) (Some e.1) (value_of es name))
      by_order Less is rest = ap (λ (t : Bool). cond t (Some n) (value_of (e ∷ es) name)) (is_eq-slice_cmp name k.items)
      by_order Equal is rest =
          ap (λ (t : Bool). cond t (Some n) (value_of es name)) (is_eq-slice_cmp name e.0.items ∙ sym (same_items k e.0 is name))
          ∙ twice (bytes_eq name k.items) (is_eq (slice_cmp nat_cmp name e.0.items)) (is_eq-slice_cmp name e.0.items ∙ sym (same_items k e.0 is name))
        where
          twice : (t u : Bool) → u ≡ t → cond t (Some n) (value_of es name) ≡ cond t (Some n) (cond u (Some e.1) (value_of es name))
          twice true u same = refl
          twice false u same = ap (λ (b : Bool). cond b (Some e.1) (value_of es name)) (sym same)
      by_order Greater is rest =
          ap (λ (o : Option ℕ). cond (is_eq (slice_cmp nat_cmp name e.0.items)) (Some e.1) o) rest
          ∙ apart (is_eq (slice_cmp nat_cmp name e.0.items)) (bytes_eq name k.items) refl refl
        where
          apart : (t u : Bool) → is_eq (slice_cmp nat_cmp name e.0.items) ≡ t → bytes_eq name k.items ≡ u
              → cond t (Some e.1) (cond u (Some n) (value_of es name)) ≡ cond u (Some n) (cond t (Some e.1) (value_of es name))
          apart false u t_is u_is = refl
          apart true false t_is u_is = refl
          apart true true t_is u_is =
              let one : name ≡ k.items = (bytes_decides name k.items).0 u_is in
              let other : name ≡ e.0.items = (bytes_decides name e.0.items).0 (sym (is_eq-slice_cmp name e.0.items) ∙ t_is) in
              let same : is_eq (by_items k e.0) ≡ true =
              is_eq-slice_cmp k.items e.0.items ∙ (bytes_decides k.items e.0.items).1 (sym one ∙ other) in
              absurd (true≢false (sym same ∙ ap is_eq is))

  taken_value : (es : List (Vec ℕ A × ℕ)) (name other : List ℕ) → bytes_eq other name ≡ false
      → value_of (remove_entry (λ (k : Vec ℕ A). is_eq (slice_cmp nat_cmp name k.items)) es) other ≡ value_of es other
  taken_value [] name other apart = refl
  taken_value (e ∷ es) name other apart = by_case (is_eq (slice_cmp nat_cmp name e.0.items)) refl (taken_value es name other apart)
    where
      by_case : (t : Bool) → is_eq (slice_cmp nat_cmp name e.0.items) ≡ t
          → value_of (remove_entry (λ (k : Vec ℕ A). is_eq (slice_cmp nat_cmp name k.items)) es) other ≡ value_of es other
          → value_of (cond t es (e ∷ remove_entry (λ (k : Vec ℕ A). is_eq (slice_cmp nat_cmp name k.items)) es)) other
          ≡ value_of (e ∷ es) other
      by_case true is rest =
          let same : name ≡ e.0.items = (bytes_decides name e.0.items).0 (sym (is_eq-slice_cmp name e.0.items) ∙ is) in
          sym (ap (λ (t : Bool). cond t (Some e.1) (value_of es other)) (is_eq-slice_cmp other e.0.items ∙ ap (bytes_eq other) (sym same) ∙ apart))
      by_case false is rest = ap (λ (o : Option ℕ). cond (is_eq (slice_cmp nat_cmp other e.0.items)) (Some e.1) o) rest

  pub number_put : (old new : BTreeMap (Vec ℕ A) ℕ) (k : Vec ℕ A) (name : List ℕ) (n : ℕ) → k.items ≡ name
      → new.entries ≡ insert_entry by_items old.entries k n → (x : List ℕ)
      → number_under new x ≡ cond (bytes_eq x name) n (number_under old x)
  number_put old new k name n key is x =
      ap (λ (es : List (Vec ℕ A × ℕ)). unwrap_or (value_of es x) 0) is
      ∙ ap (λ (o : Option ℕ). unwrap_or o 0) (put_value old.entries k n x)
      ∙ number_if (bytes_eq x k.items) n (value_of old.entries x)
      ∙ ap (λ (l : List ℕ). cond (bytes_eq x l) n (number_under old x)) key

  pub number_taken : (old new : BTreeMap (Vec ℕ A) ℕ) (name : List ℕ)
      → new.entries ≡ remove_entry (λ (k : Vec ℕ A). is_eq (slice_cmp nat_cmp name k.items)) old.entries
      → get_by (λ (k : Vec ℕ A). slice_cmp nat_cmp name k.items) new ≡ None → (x : List ℕ)
      → number_under new x ≡ cond (bytes_eq x name) 0 (number_under old x)
  number_taken old new name is none x = by_case (bytes_eq x name) refl
    where
      by_case : (t : Bool) → bytes_eq x name ≡ t → number_under new x ≡ cond t 0 (number_under old x)
      by_case true same =
          subst (λ (l : List ℕ). number_under new l ≡ 0) (sym ((bytes_decides x name).0 same)) (ap (λ (o : Option ℕ). unwrap_or o 0) none)
      by_case false apart =
          ap (λ (es : List (Vec ℕ A × ℕ)). unwrap_or (value_of es x) 0) is
          ∙ ap (λ (o : Option ℕ). unwrap_or o 0) (taken_value old.entries name x apart)

-- ---- where a call went well
pub where_ok : {T E : Type 0} (r : Result T E) (P : Type 0) → is_ok r ≡ true → OnOk r P → P
where_ok (Ok x) P is p = p
where_ok (Err e) P is p = absurd (true≢false (sym is))

-- ---- names that stay
pub edit_name : (bytes : List ℕ) (r : Result (Option Spliced) AllocError) (b c : Content)
    → IfOk r (λ (s : Option Spliced). s ≡ None → c ≡ b) → IfOk r (λ (s : Option Spliced). IfSome s (IsEdit b c bytes)) → OnErr r (c ≡ b) → c.name ≡ b.name
edit_name bytes (Ok None) b c none edit err = ap (λ (x : Content). x.name) (none refl)
edit_name bytes (Ok (Some event)) b c none edit err = ap (λ (x : Content). x.name) edit.kept
edit_name bytes (Err e) b c none edit err = ap (λ (x : Content). x.name) err

pub seal_name : (b c : Content) → c ≡ after_seal b → c.name ≡ b.name
seal_name b c is = ap (λ (x : Content). x.name) is ∙ by_cases b.unsealed
  where
    by_cases : (edits : List Edit) → (after_seal_of b edits).name ≡ b.name
    by_cases [] = refl
    by_cases (edit ∷ edits) = refl

-- ---- whether another buffer has a name
apart_above : (a n : ℤ) → (n +ℤ pos 1) ≤ℤ a → int_eq a n ≡ false
apart_above a n h = grind (arith, ints)

above_too : (a low n : ℤ) → low ≤ℤ a → (n +ℤ pos 1) ≤ℤ low → (n +ℤ pos 1) ≤ℤ a
above_too a low n h i = omega (arith, ints)

above_next : (a low n : ℤ) → low ≤ℤ a → (n +ℤ pos 1) ≤ℤ low → (n +ℤ pos 1) ≤ℤ (a +ℤ pos 1)
above_next a low n h i = omega (arith, ints)

at_itself : (a : ℤ) → (a +ℤ pos 1) ≤ℤ (a +ℤ pos 1)
at_itself a = omega (arith, ints)

flipped : (x y : List ℕ) → bytes_eq y x ≡ bytes_eq x y
flipped x y = by_case (bytes_eq x y) (bytes_eq y x) refl refl
  where
    by_case : (t u : Bool) → bytes_eq x y ≡ t → bytes_eq y x ≡ u → u ≡ t
    by_case true true t_is u_is = refl
    by_case false false t_is u_is = refl
    by_case true false t_is u_is = sym u_is ∙ (bytes_decides y x).1 (sym ((bytes_decides x y).0 t_is))
    by_case false true t_is u_is = sym ((bytes_decides x y).1 (sym ((bytes_decides y x).0 u_is))) ∙ t_is

one_is : (x y : List ℕ) → one_if x y ≡ cond (bytes_eq y x) 1 0
one_is x y = ap (λ (t : Bool). cond t 1 0) (sym (flipped x y))

some_more : (m : ℕ) → nat_lt 0 (1 + m) ≡ true
some_more m = grind (arith, nat_tests)

none_more : (m : ℕ) → 0 + m ≡ m
none_more m = omega arith

or_more : (t : Bool) (m : ℕ) → (t || nat_lt 0 m) ≡ nat_lt 0 (cond t 1 0 + m)
or_more true m = sym (some_more m)
or_more false m = ap (λ (k : ℕ). nat_lt 0 k) (sym (none_more m))

-- all buffers above a handle are others
any_above : (low n : ℤ) (name : List ℕ) (es : List (ℤ × Content)) → Rises low es → (n +ℤ pos 1) ≤ℤ low
    → list_any (is_other_named n name) es ≡ nat_lt 0 (number_named es name)
any_above low n name [] r h = sym (grind (arith, nat_tests))
any_above low n name (e ∷ es) r h =
    ap (λ (t : Bool). (not t && bytes_eq e.1.name name) || list_any (is_other_named n name) es) (apart_above e.0 n (above_too e.0 low n r.0 h))
    ∙ ap (λ (u : Bool). bytes_eq e.1.name name || u) (any_above (e.0 +ℤ pos 1) n name es r.1 (above_next e.0 low n r.0 h))
    ∙ or_more (bytes_eq e.1.name name) (number_named es name)
    ∙ ap (λ (k : ℕ). nat_lt 0 (k + number_named es name)) (sym (one_is name e.1.name))

own_within : (n : ℤ) (name : List ℕ) (es : List (ℤ × Content)) → own_number name (at_handle es n) ≤ number_named es name
own_within n name [] = omega arith
own_within n name (e ∷ es) = by_case (int_eq e.0 n) (own_within n name es)
  where
    front : own_number name (Some e.1) ≤ one_if name e.1.name + number_named es name
    front = subst (λ (k : ℕ). own_number name (Some e.1) ≤ k + number_named es name) (sym (one_is name e.1.name)) (omega arith)

    behind : own_number name (at_handle es n) ≤ number_named es name
        → own_number name (at_handle es n) ≤ one_if name e.1.name + number_named es name
    behind h = omega arith

    by_case : (t : Bool) → own_number name (at_handle es n) ≤ number_named es name
        → own_number name (cond t (Some e.1) (at_handle es n)) ≤ one_if name e.1.name + number_named es name
    by_case true h = front
    by_case false h = behind h

less_more : (a m : ℕ) → a ≤ m → nat_lt a (1 + m) ≡ true
less_more a m h = grind (arith, nat_tests)

equal_more : (t : Bool) (m : ℕ) → nat_lt 0 m ≡ nat_lt (cond t 1 0) (cond t 1 0 + m)
equal_more true m = grind (arith, nat_tests)
equal_more false m = ap (λ (k : ℕ). nat_lt 0 k) (sym (none_more m))

-- another buffer has a name exactly where more buffers have it than that one
any_other_is : (low n : ℤ) (name : List ℕ) (es : List (ℤ × Content)) → Rises low es
    → list_any (is_other_named n name) es ≡ nat_lt (own_number name (at_handle es n)) (number_named es name)
any_other_is low n name [] r = sym (grind (arith, nat_tests))
any_other_is low n name (e ∷ es) r = by_case (int_eq e.0 n) refl (any_other_is (e.0 +ℤ pos 1) n name es r.1)
  where
    m : ℕ
    m = number_named es name

    t : Bool
    t = bytes_eq e.1.name name

    more : (u : Bool) (o : ℕ) → o ≤ m → list_any (is_other_named n name) es ≡ nat_lt o m → (u || list_any (is_other_named n name) es) ≡ nat_lt o (cond u 1 0 + m)
    more true o h rest = sym (less_more o m h)
    more false o h rest = rest ∙ ap (λ (k : ℕ). nat_lt o k) (sym (none_more m))

    by_case : (s : Bool) → int_eq e.0 n ≡ s → list_any (is_other_named n name) es ≡ nat_lt (own_number name (at_handle es n)) m
        → ((not s && t) || list_any (is_other_named n name) es) ≡ nat_lt (own_number name (cond s (Some e.1) (at_handle es n))) (one_if name e.1.name + m)
    by_case true is rest =
        any_above (e.0 +ℤ pos 1) n name es r.1 (subst (λ (k : ℤ). (k +ℤ pos 1) ≤ℤ (e.0 +ℤ pos 1)) (same_int e.0 n is) (at_itself e.0))
        ∙ equal_more t m
        ∙ ap (λ (k : ℕ). nat_lt (cond t 1 0) (k + m)) (sym (one_is name e.1.name))
    by_case false is rest =
        more t (own_number name (at_handle es n)) (own_within n name es) rest
        ∙ ap (λ (k : ℕ). nat_lt (own_number name (at_handle es n)) (k + m)) (sym (one_is name e.1.name))

-- ---- the same by handles
others_any : (P : ℤ → Bool) (h : ℤ) (ks : List ℤ) → list_any P (other_handles h ks) ≡ list_any (λ k. not (int_eq k h) && P k) ks
others_any P h [] = refl
others_any P h (k ∷ ks) = by_case (int_eq k h) (others_any P h ks)
  where
    by_case : (b : Bool) → list_any P (other_handles h ks) ≡ list_any (λ j. not (int_eq j h) && P j) ks
        → list_any P (cond b (other_handles h ks) (k ∷ other_handles h ks)) ≡ (not b && P k) || list_any (λ j. not (int_eq j h) && P j) ks
    by_case true more = more
    by_case false more = ap (λ (t : Bool). P k || t) more

-- what entries have under their handles is found among all
abbrev AreAt : List (ℤ × Content) → List (ℤ × Content) → Type 0
AreAt all [] = Unit {0}
AreAt all (e ∷ es) = (at_handle all e.0 ≡ Some e.1) × AreAt all es

below_above : (a b low : ℤ) → (a +ℤ pos 1) ≤ℤ low → low ≤ℤ b → int_eq a b ≡ false
below_above a b low h i = grind (arith, ints)

below_next : (a b low : ℤ) → (a +ℤ pos 1) ≤ℤ low → low ≤ℤ b → (a +ℤ pos 1) ≤ℤ (b +ℤ pos 1)
below_next a b low h i = omega (arith, ints)

still_at : (low : ℤ) (first : ℤ × Content) (all es : List (ℤ × Content)) → Rises low es → (first.0 +ℤ pos 1) ≤ℤ low
    → AreAt all es → AreAt (first ∷ all) es
still_at low first all [] r h are = tt
still_at low first all (e ∷ es) r h are = (
  ap (λ (t : Bool). cond t (Some first.1) (at_handle all e.0)) (below_above first.0 e.0 low h r.0) ∙ are.0,
  still_at (e.0 +ℤ pos 1) first all es r.1 (below_next first.0 e.0 low h r.0) are.1,
)

all_at : (low : ℤ) (es : List (ℤ × Content)) → Rises low es → AreAt es es
all_at low [] r = tt
all_at low (e ∷ es) r = (
  ap (λ (t : Bool). cond t (Some e.1) (at_handle es e.0)) (int_eq-itself e.0),
  still_at (e.0 +ℤ pos 1) e es es r.1 (at_itself e.0) (all_at (e.0 +ℤ pos 1) es r.1),
)

each_at : (n : ℤ) (name : List ℕ) (all es : List (ℤ × Content)) → AreAt all es
    → list_any (λ k. not (int_eq k n) && is_of_name name (at_handle all k)) (handles_of es) ≡ list_any (is_other_named n name) es
each_at n name all [] are = refl
each_at n name all (e ∷ es) are =
    ap (λ (o : Option Content). (not (int_eq e.0 n) && is_of_name name o) || list_any (λ k. not (int_eq k n) && is_of_name name (at_handle all k)) (handles_of es)) are.0
    ∙ ap (λ (t : Bool). is_other_named n name e || t) (each_at n name all es are.1)

pub others_named : (n : ℤ) (name : List ℕ) (es : List (ℤ × Content)) → Rises (pos 1) es
    → list_any (is_other_named n name) es ≡ list_any (λ k. is_of_name name (at_handle es k)) (other_handles n (handles_of es))
others_named n name es r =
    sym (others_any (λ k. is_of_name name (at_handle es k)) n (handles_of es) ∙ each_at n name es es (all_at (pos 1) es r))

-- so where the numbers of buffers are known
pub more_is : (n : ℤ) (name : List ℕ) (es : List (ℤ × Content)) (number : ℕ) (own : Bool) → Rises (pos 1) es → number ≡ number_named es name
    → own ≡ is_of_name name (at_handle es n) → nat_lt (cond own 1 0) number ≡ list_any (is_other_named n name) es
more_is n name es number own r is same =
    ap (λ (k : ℕ). nat_lt (cond own 1 0) k) is
    ∙ ap (λ (t : Bool). nat_lt (cond t 1 0) (number_named es name)) same
    ∙ sym (any_other_is (pos 1) n name es r)
