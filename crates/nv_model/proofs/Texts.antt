-- After operations one after another a buffer has all splices that they make in it.
use Rattle.std.proofs.Common.{◌≡◌, ℕ, ℤ, ◌≤ℤ◌, ◌<ℤ◌, List, [], ◌∷◌, ◌++◌, length, fold, refl, ap, sym, ◌∙◌, append_assoc, length-append, arith, All, Bool, true, false, cond, Option, Some, None, subst}
use Rattle.std.specs.Prelude.{option_map, filter}
use Rattle.std.specs.Option.{option_or}
use Rattle.std.specs.Ordering.{int_eq}
use Rattle.std.proofs.lemmas.Int.{ints}
use Rattle.std.proofs.lemmas.List.Elements.{All-head, All-tail}
use Rattle.std.proofs.lemmas.Option.{none-some, same_Some}
use Rattle.nv_model.specs.Buffers.{Splice, ModelBuffer, text_after, text_of, fresh_buffer}
use Rattle.nv_model.specs.Editors.{ModelEditor, at_handle, updated_at}
use Rattle.nv_model.specs.Operations.{Operation, spliced, spliced_back, stepped, sealed_in, mark_set, mark_removed, name_put, modifiable_put, modified_put, listed_put, tabstop_put, buffer_made, buffer_dropped, ui_put, uis_dropped, after_operation, after_operations}
use Rattle.nv_model.specs.Laws.{splices_in, splices_among, IsGrown, OfBuffer, HasAll, OperationsMakeTexts, DeletedAreKept, IsNumbered}
use Rattle.nv_model.proofs.Lookups.{at_updated, at_append, at_dropped, same_int}
use Rattle.nv_model.proofs.Growing.{operations_add_splices, stays}
use Rattle.nv_model.proofs.Numbering.{stays_below, splice_alike, uis_alike}
use Rattle.nv_model.proofs.Telling.{fold-append}

-- what is there has a handle below the next
there_below : (next n : ℤ) (es : List (ℤ × ModelBuffer)) (b : ModelBuffer) → All (λ (e : ℤ × ModelBuffer). e.0 <ℤ next) es
    → at_handle es n ≡ Some b → n <ℤ next
there_below next n [] b low is = absurd (none-some b is)
there_below next n (e ∷ es) b low is = by_case (there_below next n es b (All-tail (λ (d : ℤ × ModelBuffer). d.0 <ℤ next) e es low)) (int_eq e.0 n) refl is
  where
    by_case : (at_handle es n ≡ Some b → n <ℤ next) → (t : Bool) → int_eq e.0 n ≡ t → cond t (Some e.1) (at_handle es n) ≡ Some b → n <ℤ next
    by_case rest true same is = subst (λ (k : ℤ). k <ℤ next) (same_int e.0 n same) (All-head (λ (d : ℤ × ModelBuffer). d.0 <ℤ next) e es low)
    by_case rest false same is = rest is

-- the next handle never falls
next_grows : (c : Operation) (m : ModelEditor) → m.stage.next_buffer ≤ℤ (after_operation c m).stage.next_buffer
next_grows (buffer_made listed) m = omega (arith, ints)
next_grows (spliced k s) m = let e = (splice_alike k s (at_handle m.buffers k) m.stage).buffer in subst (λ (n : ℤ). m.stage.next_buffer ≤ℤ n) (sym e) (omega (arith, ints))
next_grows (spliced_back k s) m = let e = (splice_alike k s (at_handle m.buffers k) m.stage).buffer in subst (λ (n : ℤ). m.stage.next_buffer ≤ℤ n) (sym e) (omega (arith, ints))
next_grows (ui_put ui) m = let e = (uis_alike _ m.stage).buffer in subst (λ (n : ℤ). m.stage.next_buffer ≤ℤ n) (sym e) (omega (arith, ints))
next_grows (uis_dropped sessions) m = let e = (uis_alike _ m.stage).buffer in subst (λ (n : ℤ). m.stage.next_buffer ≤ℤ n) (sym e) (omega (arith, ints))
next_grows _ m = omega (arith, ints)

-- what is not there, and has a handle below the next, doesn't come back
none_updated : (k n : ℤ) (f : ModelBuffer → ModelBuffer) (es : List (ℤ × ModelBuffer)) → at_handle es n ≡ None
    → at_handle (updated_at k f es) n ≡ None
none_updated k n f es none =
    at_updated k n f es ∙ ap (λ (o : Option ModelBuffer). cond (int_eq k n) (option_map f o) o) none ∙ either_none (int_eq k n)
  where
    either_none : (t : Bool) → cond t (option_map f None) None ≡ None
    either_none true = refl
    either_none false = refl

gone_once : (c : Operation) (m : ModelEditor) (n : ℤ) → n <ℤ m.stage.next_buffer → at_handle m.buffers n ≡ None
    → at_handle (after_operation c m).buffers n ≡ None
gone_once (spliced k s) m n low none = none_updated k n _ m.buffers none
gone_once (spliced_back k s) m n low none = none_updated k n _ m.buffers none
gone_once (stepped k leg) m n low none = none_updated k n _ m.buffers none
gone_once (sealed_in k) m n low none = none_updated k n _ m.buffers none
gone_once (mark_set k mark) m n low none = none_updated k n _ m.buffers none
gone_once (mark_removed k ns id) m n low none = none_updated k n _ m.buffers none
gone_once (name_put k name) m n low none = none_updated k n _ m.buffers none
gone_once (modifiable_put k on) m n low none = none_updated k n _ m.buffers none
gone_once (modified_put k on) m n low none = none_updated k n _ m.buffers none
gone_once (listed_put k on) m n low none = none_updated k n _ m.buffers none
gone_once (tabstop_put k cells) m n low none = none_updated k n _ m.buffers none
gone_once (buffer_made listed) m n low none =
    let new : List (ℤ × ModelBuffer) = (m.stage.next_buffer, fresh_buffer listed) ∷ [] in
    let apart : int_eq m.stage.next_buffer n ≡ false = grind (arith, ints) in
    at_append n m.buffers new ∙ ap (λ (o : Option ModelBuffer). option_or o (at_handle new n)) none ∙ rw apart refl
gone_once (buffer_dropped k) m n low none =
    at_dropped k n m.buffers ∙ ap (λ (o : Option ModelBuffer). cond (int_eq k n) None o) none ∙ either_none (int_eq k n)
  where
    either_none : (t : Bool) → ◌≡◌ {A = Option ModelBuffer} (cond t None None) None
    either_none true = refl
    either_none false = refl
gone_once _ m n low none = none

stays_gone : (cs : List Operation) (m : ModelEditor) (n : ℤ) → n <ℤ m.stage.next_buffer → at_handle m.buffers n ≡ None
    → at_handle (after_operations cs m).buffers n ≡ None
stays_gone [] m n low none = none
stays_gone (c ∷ cs) m n low none =
    let grows = next_grows c m in
    stays_gone cs (after_operation c m) n (omega (arith, ints)) (gone_once c m n low none)

grown_again : (b c d : ModelBuffer) (ss ts : List Splice) → IsGrown b ss c → IsGrown c ts d → IsGrown b (ss ++ ts) d
grown_again b c d ss ts first second = record {
  first = second.first ∙ first.first;
  splices = second.splices ∙ ap (λ (l : List Splice). l ++ ts) first.splices ∙ append_assoc b.splices ss ts;
}

all_grow : (cs : List Operation) (m : ModelEditor) (n : ℤ) → IsNumbered m → OfBuffer (λ b d. IsGrown b (splices_among n cs) d) n m (after_operations cs m)
all_grow [] m n is b d was now = subst (λ (x : ModelBuffer). IsGrown b [] x) (same_Some b d (sym was ∙ now)) (stays b)
all_grow (c ∷ cs) m n is b d was now =
    by_case (all_grow cs (after_operation c m) n (stays_below c m is)) (at_handle (after_operation c m).buffers n) refl
  where
    by_case : OfBuffer (λ x y. IsGrown x (splices_among n cs) y) n (after_operation c m) (after_operations cs (after_operation c m))
        → (o : Option ModelBuffer) → at_handle (after_operation c m).buffers n ≡ o → IsGrown b (splices_in n c ++ splices_among n cs) d
    by_case rest None none =
        let low : n <ℤ m.stage.next_buffer = there_below m.stage.next_buffer n m.buffers b is.buffers was in
        let grows = next_grows c m in
        absurd (none-some d (sym (stays_gone cs (after_operation c m) n (omega (arith, ints)) none) ∙ now))
    by_case rest (Some x) there =
        grown_again b x d (splices_in n c) (splices_among n cs) (operations_add_splices c m n b x was there) (rest x d there now)

has_all : (b d : ModelBuffer) (ss : List Splice) → IsGrown b ss d → HasAll b ss d
unfolding text_of
has_all b d ss is = record {
  grown = is;
  text =
      ap (λ (t : List ℕ). fold text_after t d.splices) is.first
      ∙ ap (λ (l : List Splice). fold text_after b.first l) is.splices
      ∙ fold-append text_after b.first b.splices ss;
  tick = omega (arith, ap length is.splices, length-append b.splices ss);
}

pub operations_make_texts : OperationsMakeTexts
operations_make_texts cs m n is b d was now = has_all b d (splices_among n cs) (all_grow cs m n is b d was now)

-- ---- deleted buffers
-- those of one handle alone
at_same : (n : ℤ) (es : List (ℤ × ModelBuffer)) → at_handle (filter (λ (e : ℤ × ModelBuffer). int_eq e.0 n) es) n ≡ at_handle es n
at_same n [] = refl
at_same n (e ∷ es) = by_case (at_same n es) (int_eq e.0 n) refl
  where
    by_case : at_handle (filter (λ (d : ℤ × ModelBuffer). int_eq d.0 n) es) n ≡ at_handle es n → (t : Bool) → int_eq e.0 n ≡ t
        → at_handle (cond t (e ∷ filter (λ (d : ℤ × ModelBuffer). int_eq d.0 n) es) (filter (λ (d : ℤ × ModelBuffer). int_eq d.0 n) es)) n
        ≡ cond t (Some e.1) (at_handle es n)
    by_case rest true same = rw same refl
    by_case rest false same = rest

deleted_once : (c : Operation) (m : ModelEditor) (n : ℤ) (b : ModelBuffer) → at_handle m.deleted n ≡ Some b → at_handle (after_operation c m).deleted n ≡ Some b
deleted_once (buffer_dropped k) m n b is =
    at_append n m.deleted _ ∙ ap (λ (o : Option ModelBuffer). option_or o (at_handle (filter (λ (e : ℤ × ModelBuffer). int_eq e.0 k) m.buffers) n)) is
deleted_once _ m n b is = is

deleted_stay : (cs : List Operation) (m : ModelEditor) (n : ℤ) (b : ModelBuffer) → at_handle m.deleted n ≡ Some b
    → at_handle (after_operations cs m).deleted n ≡ Some b
deleted_stay [] m n b is = is
deleted_stay (c ∷ cs) m n b is = deleted_stay cs (after_operation c m) n b (deleted_once c m n b is)

pub deleted_are_kept : DeletedAreKept
deleted_are_kept = (
  λ m n b none is.
      at_append n m.deleted (filter (λ (e : ℤ × ModelBuffer). int_eq e.0 n) m.buffers)
      ∙ ap (λ (o : Option ModelBuffer). option_or o (at_handle (filter (λ (e : ℤ × ModelBuffer). int_eq e.0 n) m.buffers) n)) none
      ∙ at_same n m.buffers
      ∙ is,
  deleted_stay,
)
