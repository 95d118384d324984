-- Buffers made at the end, and taken out.
use Rattle.std.proofs.Common.{◌≡◌, ◌≢◌, ℤ, Bool, true, false, cond, not, List, [], ◌∷◌, ◌++◌, Option, Some, None, refl, sym, ap, ◌∙◌, arith, is_some, true≢false, to_z, of_z, w64}
use Rattle.std.specs.Prelude.{◌<ℤ◌, All, filter, int_lt, slice_get}
use Rattle.std.specs.BTreeMap.{insert_entry}
use Rattle.std.specs.Map.{lookup, remove_entry}
use Rattle.std.specs.Ordering.{int_eq, int_cmp, match_ordering}
use Rattle.std.specs.declared.cmp.Ordering.{Ordering}
use Rattle.std.specs.declared.cmp.Ordering.TheVariants.{Less, Equal, Greater}
use Rattle.std.proofs.lemmas.Int.{ints}
use Rattle.std.proofs.lemmas.List.Elements.{All-head, All-tail}
use Rattle.nv_buffer.specs.Content.{Content}
use Rattle.nv_model.specs.Deleting.{other_handles}
use Rattle.nv_model.specs.Editors.{at_handle, handles_of}
use Rattle.nv_model.proofs.Lookups.{int_eq-flip}
use Rattle.nv_editor.specs.inside.Replacing.{IsTakenOut}
use Rattle.nv_editor.proofs.Putting.{other_handle, looked_up_by}

-- ---- a buffer behind all others
greater : (n k : ℤ) → k <ℤ n → int_cmp n k ≡ Greater
greater n k h =
    let least : int_lt n k ≡ false = grind (arith, ints) in
    let above : int_lt k n ≡ true = grind (arith, ints) in
    ap (λ (t : Bool). cond t Less (cond (int_lt k n) Greater Equal)) least
    ∙ ap (λ (t : Bool). cond t Greater Equal) above

insert_behind : (es : List (ℤ × Content)) (n : ℤ) (b : Content) → All (λ (k : ℤ). k <ℤ n) (handles_of es)
    → insert_entry int_cmp es n b ≡ es ++ (n, b) ∷ []
insert_behind [] n b above = refl
insert_behind (e ∷ es) n b above =
    ap (λ (o : Ordering). match_ordering o ((n, b) ∷ e ∷ es) ((e.0, b) ∷ es) (e ∷ insert_entry int_cmp es n b))
    (greater n e.0 (All-head (λ (k : ℤ). k <ℤ n) e.0 (handles_of es) above))
    ∙ ap (λ (l : List (ℤ × Content)). e ∷ l) (insert_behind es n b (All-tail (λ (k : ℤ). k <ℤ n) e.0 (handles_of es) above))

pub inserted : (map es later : List (ℤ × Content)) (n : ℤ) (b : Content) → map ≡ es → to_z w64 (of_z w64 n) ≡ n
    → All (λ (k : ℤ). k <ℤ n) (handles_of es) → later ≡ insert_entry int_cmp map (to_z w64 (of_z w64 n)) b
    → later ≡ es ++ (n, b) ∷ []
inserted map es later n b view same above is =
    is
    ∙ ap (λ (l : List (ℤ × Content)). insert_entry int_cmp l (to_z w64 (of_z w64 n)) b) view
    ∙ ap (λ (k : ℤ). insert_entry int_cmp es k b) same
    ∙ insert_behind es n b above

-- ---- a buffer taken out
-- the entries but that of a handle
abbrev pub but_at : ℤ → List (ℤ × Content) → List (ℤ × Content)
but_at n es = remove_entry (λ (k : ℤ). int_eq k n) es

abbrev others : ℤ → List ℤ → List ℤ
others n ks = filter (λ (k : ℤ). not (int_eq k n)) ks

all_others : (n : ℤ) (es : List (ℤ × Content)) → at_handle es n ≡ None → others n (handles_of es) ≡ handles_of es
all_others n [] none = refl
all_others n (e ∷ es) none = by_case (int_eq e.0 n) none (all_others n es)
  where
    by_case : (t : Bool) → cond t (Some e.1) (at_handle es n) ≡ None
        → (at_handle es n ≡ None → others n (handles_of es) ≡ handles_of es)
        → cond (not t) (e.0 ∷ others n (handles_of es)) (others n (handles_of es)) ≡ e.0 ∷ handles_of es
    by_case true found rest = absurd (true≢false (ap (λ (o : Option Content). is_some o) found))
    by_case false found rest = ap (λ (l : List ℤ). e.0 ∷ l) (rest found)

but_handles : (n : ℤ) (es : List (ℤ × Content)) → at_handle (but_at n es) n ≡ None → handles_of (but_at n es) ≡ others n (handles_of es)
but_handles n [] none = refl
but_handles n (e ∷ es) none = by_case (int_eq e.0 n) refl none (but_handles n es)
  where
    by_case : (t : Bool) → int_eq e.0 n ≡ t → at_handle (cond t es (e ∷ but_at n es)) n ≡ None
        → (at_handle (but_at n es) n ≡ None → handles_of (but_at n es) ≡ others n (handles_of es))
        → handles_of (cond t es (e ∷ but_at n es)) ≡ cond (not t) (e.0 ∷ others n (handles_of es)) (others n (handles_of es))
    by_case true is left rest = sym (all_others n es left)
    by_case false is left rest =
        ap (λ (l : List ℤ). e.0 ∷ l) (rest (sym (ap (λ (u : Bool). cond u (Some e.1) (at_handle (but_at n es) n)) is) ∙ left))

but_others : (n : ℤ) (es : List (ℤ × Content)) (k : ℤ) → k ≢ n → at_handle (but_at n es) k ≡ at_handle es k
but_others n [] k other = refl
but_others n (e ∷ es) k other = by_case (int_eq e.0 n) refl (but_others n es k other)
  where
    by_case : (t : Bool) → int_eq e.0 n ≡ t → at_handle (but_at n es) k ≡ at_handle es k
        → at_handle (cond t es (e ∷ but_at n es)) k ≡ cond (int_eq e.0 k) (Some e.1) (at_handle es k)
    by_case true is rest = sym (ap (λ (u : Bool). cond u (Some e.1) (at_handle es k)) (other_handle e.0 n k is other))
    by_case false is rest = ap (λ (o : Option Content). cond (int_eq e.0 k) (Some e.1) o) rest

-- what is left in a map that had these entries
pub removed_here : (map es later : List (ℤ × Content)) (n : ℤ) → map ≡ es → to_z w64 (of_z w64 n) ≡ n
    → later ≡ remove_entry (int_eq (to_z w64 (of_z w64 n))) map → later ≡ but_at n es
removed_here map es later n view same is =
    is
    ∙ (λ i. remove_entry (λ (j : ℤ). int_eq-flip (to_z w64 (of_z w64 n)) j i) map)
    ∙ ap (λ (m : ℤ). but_at m map) same
    ∙ ap (but_at n) view

pub taken_out : (map es later : List (ℤ × Content)) (n : ℤ) → map ≡ es → to_z w64 (of_z w64 n) ≡ n
    → lookup (int_eq (to_z w64 (of_z w64 n))) later ≡ None
    → later ≡ remove_entry (int_eq (to_z w64 (of_z w64 n))) map → IsTakenOut es later n
taken_out map es later n view same none is =
    let left : later ≡ but_at n es = removed_here map es later n view same is in
    let gone : at_handle later n ≡ None = looked_up_by later later n None refl same (sym none) in
    record {
      none = gone;
      others = λ j other. ap (λ (l : List (ℤ × Content)). at_handle l j) left ∙ but_others n es j other;
      handles = ap handles_of left ∙ but_handles n es (ap (λ (l : List (ℤ × Content)). at_handle l n) (sym left) ∙ gone);
    }

-- ---- the least handle but one
abbrev pub least_of_others : ℤ → List ℤ → Option ℤ
least_of_others h ks = slice_get (other_handles h ks) 0
