-- Closing the open change of a buffer keeps what stands for it.
use Rattle.std.proofs.Common.{◌≡◌, ℕ, suc, ◌+◌, ◌<◌, ◌≤◌, List, [], ◌∷◌, ◌++◌, length, refl, ap, sym, ◌∙◌, arith, All, subst, Option, Some, inl, inr}
use Rattle.std.specs.Prelude.{slice_set, option_map, unwrap_or}
use Rattle.std.proofs.lemmas.Bool.{cases_eq}
use Rattle.std.proofs.lemmas.List.Elements.{All-head, All-tail}
use Rattle.std.proofs.lemmas.Option.{same_Some, slice_get-get_or}
use Rattle.nv_places.specs.Flat.{flat}
use Rattle.nv_undo.specs.Tree.{Undo, tree_of, IsTree, last, numbered, change_of, pushed}
use Rattle.nv_undo.proofs.NumberLemmas.{numbered-old, numbered-new, within_numbered, last-pushed}
use Rattle.nv_undo.proofs.StepLemmas.{push_tree}
use Rattle.nv_buffer.specs.Content.{Content, after_seal_of}
use Rattle.nv_buffer.specs.Changes.{text_at}
use Rattle.nv_undo.specs.Ways.{origin}
use Rattle.nv_buffer.specs.declared.edit.Edit.{Edit}
use Rattle.nv_buffer.proofs.KeptTexts.{numbered-of, text_at-stays, text_at-pushed}
use Rattle.nv_model.specs.Buffers.{Splice, Kept, ModelBuffer, text_of, kept_text, closed_with, with_seal}
use Rattle.nv_model.specs.Standing.{splices_of, kept_change, kept_changes, kept_undo, AreNumbered, LeadTo, IsChangeOf, StandsFor}
use Rattle.nv_model.specs.Keeping.{SealIsKept}
use Rattle.nv_model.proofs.PartsSealed.{number_made, numbers_stay, parts_sealed}

-- ---- the trees
pub length-kept : (undo : Undo (List Edit)) (n : ℕ) (changes : List (ℕ × List Edit)) → length (kept_changes undo n changes) ≡ length changes
length-kept undo n [] = refl
length-kept undo n (c ∷ cs) = ap (λ k. suc k) (length-kept undo (suc n) cs)

pub kept-push : (undo : Undo (List Edit)) (n : ℕ) (changes : List (ℕ × List Edit)) (c : ℕ × List Edit)
    → kept_changes undo n (changes ++ c ∷ []) ≡ kept_changes undo n changes ++ kept_change undo (n + length changes) c ∷ []
kept-push undo n [] c = ap (λ (k : ℕ). kept_change undo k c ∷ []) (omega arith)
kept-push undo n (d ∷ ds) c =
    ap (λ (l : List (ℕ × Kept)). kept_change undo n d ∷ l)
    (kept-push undo (suc n) ds c
    ∙ ap (λ (k : ℕ). kept_changes undo (suc n) ds ++ kept_change undo k c ∷ []) (omega arith))

-- a change that is made leaves the others
pub kept-stay : (undo : Undo (List Edit)) (edits : List Edit) (n : ℕ) (changes : List (ℕ × List Edit)) → n + length changes ≤ suc (last undo)
    → All (λ (c : ℕ × List Edit). c.0 ≤ last undo) changes
    → kept_changes (pushed edits undo) n changes ≡ kept_changes undo n changes
kept-stay undo edits n [] low parents = refl
kept-stay undo edits n (c ∷ cs) low parents =
    let parent = text_at-stays undo edits c.0 (All-head (λ (d : ℕ × List Edit). d.0 ≤ last undo) c cs parents) in
    let own = text_at-stays undo edits n (omega arith) in
    let rest = kept-stay undo edits (suc n) cs (omega arith) (All-tail (λ (d : ℕ × List Edit). d.0 ≤ last undo) c cs parents) in
    λ i. (c.0, record { splices = splices_of (parent i) c.1; text = flat (own i) }) ∷ rest i

-- the parents are among the numbers
pub parents_low : (undo : Undo (List Edit)) → IsTree undo → All (λ (c : ℕ × List Edit). c.0 ≤ last undo) undo.changes
parents_low undo tree i d low =
    let here : numbered undo (suc i) ≡ Some _ = slice_get-get_or undo.changes i d low in
    let below = tree.below (suc i) _ (ap (option_map (λ (c : ℕ × List Edit). c.0)) here) in
    omega arith

-- ---- changes
-- each change goes on leading from its parent's text to its own once one more is made
changes_lead : (k : Kept) (first : List ℕ) (undo : Undo Kept) → IsTree undo
    → ((n : ℕ) (c : ℕ × Kept) → numbered undo n ≡ Some c → LeadTo (kept_text first undo c.0) c.1.splices c.1.text)
    → LeadTo (kept_text first undo undo.current) k.splices k.text
    → (n : ℕ) (c : ℕ × Kept) → numbered (pushed k undo) n ≡ Some c → LeadTo (kept_text first (pushed k undo) c.0) c.1.splices c.1.text
changes_lead k first undo tree lead since n c here = elim (cases_eq n (suc (last undo))) [
  | inl same ↦ (
      let there : (undo.current, k) ≡ c = same_Some (undo.current, k) c (sym (numbered-new k undo) ∙ ap (numbered (pushed k undo)) (sym same) ∙ here) in
      subst (λ (d : ℕ × Kept). LeadTo (kept_text first (pushed k undo) d.0) d.1.splices d.1.text) there
      (subst (λ (t : List ℕ). LeadTo t k.splices k.text) (sym (numbers_stay k first undo undo.current tree.within)) since)
      )
  | inr other ↦ (
      let low : n ≤ last undo = omega (arith, (within_numbered (pushed k undo) n c here).1, last-pushed k undo) in
      let there : numbered undo n ≡ Some c = sym (numbered-old k undo n low) ∙ here in
      let below : c.0 < n = tree.below n c.0 (ap (option_map (λ (d : ℕ × Kept). d.0)) there) in
      subst (λ (t : List ℕ). LeadTo t c.1.splices c.1.text) (sym (numbers_stay k first undo c.0 (omega arith))) (lead n c there)
      )
]

-- so does each change of what is kept
pub edits_stay : (undo : Undo (List Edit)) (edits : List Edit) → IsTree undo
    → ((n : ℕ) (es : List Edit) → change_of undo n ≡ Some es → IsChangeOf (text_at undo (origin undo n)) es)
    → IsChangeOf (text_at undo undo.current) edits
    → (n : ℕ) (es : List Edit) → change_of (pushed edits undo) n ≡ Some es → IsChangeOf (text_at (pushed edits undo) (origin (pushed edits undo) n)) es
edits_stay undo edits tree are since n es here =
    let at : numbered (pushed edits undo) n ≡ Some (origin (pushed edits undo) n, es) = numbered-of (pushed edits undo) n es here in
    elim (cases_eq n (suc (last undo))) [
      | inl same ↦ (
          let there : (undo.current, edits) ≡ (origin (pushed edits undo) n, es) =
          same_Some (undo.current, edits) (origin (pushed edits undo) n, es) (sym (numbered-new edits undo) ∙ ap (numbered (pushed edits undo)) (sym same) ∙ at) in
          subst (λ (d : ℕ × List Edit). IsChangeOf (text_at (pushed edits undo) d.0) d.1) there
          (subst (λ (t : List (List ℕ)). IsChangeOf t edits) (sym (text_at-stays undo edits undo.current tree.within)) since)
          )
      | inr other ↦ (
          let low : n ≤ last undo = omega (arith, (within_numbered (pushed edits undo) n (origin (pushed edits undo) n, es) at).1, last-pushed edits undo) in
          let there : numbered undo n ≡ Some (origin (pushed edits undo) n, es) = sym (numbered-old edits undo n low) ∙ at in
          let change : change_of undo n ≡ Some es = ap (option_map (λ (d : ℕ × List Edit). d.1)) there in
          let below : origin (pushed edits undo) n < n = tree.below n (origin (pushed edits undo) n) (ap (option_map (λ (d : ℕ × List Edit). d.0)) there) in
          let parent : origin undo n ≡ origin (pushed edits undo) n = ap (λ (o : Option (ℕ × List Edit)). unwrap_or (option_map (λ d. d.0) o) 0) there in
          subst (λ (t : List (List ℕ)). IsChangeOf t es)
          (ap (text_at undo) parent ∙ sym (text_at-stays undo edits (origin (pushed edits undo) n) (omega arith)))
          (are n es change)
          )
    ]

-- and the edits of each change stay numbered
numbered_stay : (undo : Undo (List Edit)) (edits : List Edit) → ((n : ℕ) (es : List Edit) → change_of undo n ≡ Some es → AreNumbered n 0 es)
    → AreNumbered (suc (last undo)) 0 edits → (n : ℕ) (es : List Edit) → change_of (pushed edits undo) n ≡ Some es → AreNumbered n 0 es
numbered_stay undo edits are since n es here =
    let at : numbered (pushed edits undo) n ≡ Some (origin (pushed edits undo) n, es) = numbered-of (pushed edits undo) n es here in
    elim (cases_eq n (suc (last undo))) [
      | inl same ↦ (
          let there : (undo.current, edits) ≡ (origin (pushed edits undo) n, es) =
          same_Some (undo.current, edits) (origin (pushed edits undo) n, es) (sym (numbered-new edits undo) ∙ ap (numbered (pushed edits undo)) (sym same) ∙ at) in
          subst (λ (k : ℕ). AreNumbered k 0 es) (sym same)
          (subst (λ (d : ℕ × List Edit). AreNumbered (suc (last undo)) 0 d.1) there since)
          )
      | inr other ↦ (
          let low : n ≤ last undo = omega (arith, (within_numbered (pushed edits undo) n (origin (pushed edits undo) n, es) at).1, last-pushed edits undo) in
          let there : numbered undo n ≡ Some (origin (pushed edits undo) n, es) = sym (numbered-old edits undo n low) ∙ at in
          are n es (ap (option_map (λ (d : ℕ × List Edit). d.1)) there)
          )
    ]

-- ---- one more change
module _ (b : Content) (m : ModelBuffer) (is : StandsFor b m) where
  new_change : (k : Kept) → k ≡ record { splices = m.unsealed; text = text_of m }
      → kept_change (pushed b.unsealed b.undo) (1 + last b.undo) (b.undo.current, b.unsealed)
      ≡ (b.undo.current, k)
  new_change k k_is =
      let base = text_at-stays b.undo b.unsealed b.undo.current is.tree.within in
      let splices = ap (λ (t : List (List ℕ)). splices_of t b.unsealed) base ∙ is.unsealed in
      let next : 1 + last b.undo ≡ suc (last b.undo) = omega arith in
      let text =
      ap (λ (n : ℕ). flat (text_at (pushed b.unsealed b.undo) n)) next
      ∙ ap flat (text_at-pushed b.undo b.unsealed ∙ sym is.since)
      ∙ is.text in
      (λ i. (b.undo.current, record { splices = splices i; text = text i })) ∙ ap (λ (x : Kept). (b.undo.current, x)) (sym k_is)

  trees_agree : (k : Kept) → k ≡ record { splices = m.unsealed; text = text_of m }
      → kept_undo (pushed b.unsealed b.undo) ≡ pushed k m.undo
  trees_agree k k_is =
      let whole : Undo (List Edit) = pushed b.unsealed b.undo in
      let change : ℕ × List Edit = (b.undo.current, b.unsealed) in
      let all =
      kept-push whole 1 b.undo.changes change
      ∙ ap (λ (l : List (ℕ × Kept)). l ++ kept_change whole (1 + last b.undo) change ∷ [])
      (kept-stay b.undo b.unsealed 1 b.undo.changes (omega arith) (parents_low b.undo is.tree))
      ∙ ap (λ (c : ℕ × Kept). kept_changes b.undo 1 b.undo.changes ++ c ∷ []) (new_change k k_is) in
      let count : suc (last b.undo) ≡ suc (last (kept_undo b.undo)) =
      ap (λ n. suc n) (sym (length-kept b.undo 1 b.undo.changes)) in
      joined all count ∙ ap (pushed k) is.undo
    where
      joined : {l : List (ℕ × Kept)} {n o : ℕ}
          → kept_changes (pushed b.unsealed b.undo) 1 (b.undo.changes ++ (b.undo.current, b.unsealed) ∷ []) ≡ l
          → n ≡ o
          → tree_of (kept_changes (pushed b.unsealed b.undo) 1 (b.undo.changes ++ (b.undo.current, b.unsealed) ∷ [])) n (slice_set b.undo.entered b.undo.current n ++ 0 ∷ [])
          ≡ tree_of l o (slice_set b.undo.entered b.undo.current o ++ 0 ∷ [])
      joined all count = λ i. tree_of (all i) (count i) (slice_set b.undo.entered b.undo.current (count i) ++ 0 ∷ [])

  push_stands : (k : Kept) → k ≡ record { splices = m.unsealed; text = text_of m } → 0 < length b.unsealed
      → StandsFor (record b { undo = pushed b.unsealed b.undo; unsealed = [] })
      (record m { undo = pushed k m.undo; unsealed = [] })
  unfolding text_of
  push_stands k k_is some = record {
    first = is.first;
    text = is.text;
    lines = is.lines;
    tick = is.tick;
    marks = is.marks;
    settings = is.settings;
    kept = λ part. record { each = (is.kept part).each; made = (is.kept part).made };
    greatest = is.greatest;
    tree = push_tree b.unsealed b.undo is.tree;
    undo = trees_agree k k_is;
    unsealed = refl;
    since = is.since ∙ sym (text_at-pushed b.undo b.unsealed);
    edits = tt;
    parts = tt;
    numbered = numbered_stay b.undo b.unsealed is.numbered is.parts;
    changes = edits_stay b.undo b.unsealed is.tree is.changes (record { some = some; edits = is.edits });
    name = is.name;
    modifiable = is.modifiable;
    modified = is.modified;
    listed = is.listed;
    tabstop = is.tabstop;
    valid = record {
      splices = is.valid.splices;
      tree = push_tree k m.undo is.valid.tree;
      changes = changes_lead k m.first m.undo is.valid.tree is.valid.changes leads;
      since = record { within = tt; makes = number_made k m.first m.undo ∙ ap (λ (x : Kept). x.text) k_is };
      named = is.valid.named;
      marks = is.valid.marks;
      settings = is.valid.settings;
      parts = parts_sealed k m k_is is.valid.tree is.valid.parts;
    };
  }
    where
      leads : LeadTo (kept_text m.first m.undo m.undo.current) k.splices k.text
      leads = subst (λ (x : Kept). LeadTo (kept_text m.first m.undo m.undo.current) x.splices x.text) (sym k_is) is.valid.since

-- where nothing is open, nothing changes
none_open : (b : Content) (m : ModelBuffer) → StandsFor b m → m.unsealed ≡ [] → StandsFor b (with_seal m)
none_open b m is none = subst (λ (x : ModelBuffer). StandsFor b x) same is
  where
    undo : m.undo ≡ closed_with m.unsealed (text_of m) m.undo
    undo = sym (ap (λ (ss : List Splice). closed_with ss (text_of m) m.undo) none)

    same : m ≡ with_seal m
    same = λ i. record m { undo = undo i; unsealed = none i }

closed_some : (ss rest : List Splice) (s : Splice) (text : List ℕ) (undo : Undo Kept) → ss ≡ s ∷ rest
    → pushed (record { splices = ss; text = text }) undo ≡ closed_with ss text undo
closed_some ss rest s text undo is =
    subst (λ (l : List Splice). pushed (record { splices = l; text = text }) undo ≡ closed_with l text undo) (sym is) refl

pub seal_is_kept : SealIsKept
seal_is_kept b m is = by_case b.unsealed refl
  where
    by_case : (es : List Edit) → b.unsealed ≡ es → StandsFor (after_seal_of b es) (with_seal m)
    by_case [] none =
        none_open b m is (sym is.unsealed ∙ ap (splices_of (text_at b.undo b.undo.current)) none)
    by_case (e ∷ es) some =
        let open_now : m.unsealed ≡ splices_of (text_at b.undo b.undo.current) (e ∷ es) =
        sym is.unsealed ∙ ap (splices_of (text_at b.undo b.undo.current)) some in
        let trees = closed_some m.unsealed _ _ (text_of m) m.undo open_now in
        let stands = push_stands b m is (record { splices = m.unsealed; text = text_of m }) refl (subst (λ (l : List Edit). 0 < length l) (sym some) (omega arith)) in
        subst (λ (u : Undo Kept). StandsFor (after_seal_of b (e ∷ es)) (record m { undo = u; unsealed = [] })) trees
        (subst (λ (l : List Edit).
        StandsFor (record b { undo = pushed l b.undo; unsealed = [] })
        (record m { undo = pushed (record { splices = m.unsealed; text = text_of m }) m.undo; unsealed = [] }))
        some stands)
