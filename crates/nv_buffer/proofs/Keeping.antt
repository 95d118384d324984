-- What holds of each buffer, kept by an edit, by closing a change, and by a leg in the tree.
use Rattle.std.proofs.Common.{◌≡◌, ℕ, ℤ, pos, zero, suc, ◌+◌, ◌+ℤ◌, ◌<◌, ◌≤◌, ◌≤ℤ◌, List, [], ◌∷◌, ◌++◌, length, flat_map, fold, Option, Some, option_map, unwrap_or, ◌⊎◌, inl, inr, refl, sym, ap, subst, ◌∙◌, arith, rules, length-append}
use Rattle.std.proofs.lemmas.Bool.{cases_order, cases_eq}
use Rattle.std.proofs.lemmas.Int.{ints}
use Rattle.std.proofs.lemmas.List.{append-nil, length_push}
use Rattle.std.proofs.lemmas.List.Concat.{flat_map-append}
use Rattle.std.proofs.lemmas.List.Elements.{All-cons}
use Rattle.std.proofs.lemmas.Option.{none-some, same_Some}
use Rattle.nv_undo.specs.Tree.{Undo, IsTree, no_changes, last, numbered, change_of, pushed, tree_after_leg}
use Rattle.nv_undo.specs.declared.legs.Leg.{Leg}
use Rattle.nv_undo.specs.declared.legs.Leg.TheVariants.{Back, Ahead}
use Rattle.nv_undo.proofs.NumberLemmas.{numbered-old, numbered-new, within_numbered, last-pushed, numbered_same}
use Rattle.nv_undo.proofs.StepLemmas.{stays_tree, push_tree, back_tree, child_tree}
use Rattle.nv_buffer.specs.Splices.{IsBufferText, IsNarrowLine}
use Rattle.nv_places.specs.Flat.{IsLine}
use Rattle.nv_buffer.specs.Changes.{lines_after, first_text, Fits, AllFit, text_at}
use Rattle.nv_buffer.specs.Steps.{kept_count, IsBuffer}
use Rattle.nv_undo.specs.Ways.{origin, IsNext}
use Rattle.nv_buffer.specs.declared.edit.Edit.{Edit}
use Rattle.nv_buffer.proofs.WayBack.{AllFit-push, AllFit-text, fold-append}
use Rattle.nv_buffer.proofs.KeptTexts.{numbered-of, text_at-first, text_at-stays, text_at-pushed, text_at-past, text_at-same}

pub first_is_text : IsBufferText first_text
first_is_text = record {
  some = omega arith;
  narrow = record { count = omega arith; columns = All-cons IsNarrowLine [] [] (omega arith) (search rules) };
  lines = All-cons IsLine [] [] (search rules) (search rules);
}

-- the text of a buffer
pub text_of_buffer : (text : List (List ℕ)) (tick : ℤ) (undo : Undo (List Edit)) (unsealed : List Edit) → IsBuffer text tick undo unsealed
    → IsBufferText text
text_of_buffer text tick undo unsealed is =
    subst IsBufferText (sym is.now) (AllFit-text (text_at undo undo.current) unsealed (is.texts undo.current) is.since)

-- ---- a new buffer
pub new_buffer : IsBuffer first_text (pos 2) no_changes []
new_buffer = record {
  tree = stays_tree.first;
  texts = λ n. subst IsBufferText (sym (first_everywhere n)) first_is_text;
  changes = λ n edits is. absurd (none_there n edits is);
  since = tt;
  now = sym (text_at-first no_changes);
  counted = omega (arith, ints);
}
  where
    first_everywhere : (n : ℕ) → text_at no_changes n ≡ first_text
    first_everywhere zero = text_at-first no_changes
    first_everywhere (suc n) = text_at-past no_changes (suc n) (omega arith)

    none_there : (n : ℕ) (edits : List Edit) → change_of no_changes n ≡ Some edits → ⊥
    none_there zero edits is = none-some edits is
    none_there (suc n) edits is = none-some edits is

-- ---- an edit
pub edit_kept : (text : List (List ℕ)) (tick : ℤ) (undo : Undo (List Edit)) (unsealed : List Edit) (edit : Edit)
    → IsBuffer text tick undo unsealed → Fits text edit → IsBuffer (lines_after text edit) (tick +ℤ pos 1) undo (unsealed ++ edit ∷ [])
edit_kept text tick undo unsealed edit is fits = record {
  tree = is.tree;
  texts = is.texts;
  changes = is.changes;
  since = AllFit-push (text_at undo undo.current) text unsealed edit is.since is.now fits;
  now =
      ap (λ (t : List (List ℕ)). lines_after t edit) is.now
      ∙ sym (fold-append lines_after (text_at undo undo.current) unsealed (edit ∷ []));
  counted =
      let count : kept_count undo (unsealed ++ edit ∷ []) ≡ kept_count undo unsealed + 1 = omega (arith, length_push unsealed edit) in
      let before : pos (2 + kept_count undo unsealed) ≤ℤ tick = is.counted in
      rw count (omega (arith, ints));
}

-- ---- closing a change
-- what stands at a number once a change is made
pub pushed_cases : {E : Type 0} (undo : Undo E) (change found : E) (n : ℕ) → change_of (pushed change undo) n ≡ Some found
    → ((n ≤ last undo) × (change_of undo n ≡ Some found) × (origin (pushed change undo) n ≡ origin undo n))
    ⊎ ((n ≡ suc (last undo)) × (change ≡ found) × (origin (pushed change undo) n ≡ undo.current))
pushed_cases {E} undo change found n is =
    let at : numbered (pushed change undo) n ≡ Some (origin (pushed change undo) n, found) = numbered-of (pushed change undo) n found is in
    let within = within_numbered (pushed change undo) n (origin (pushed change undo) n, found) at in
    elim (cases_eq n (suc (last undo))) [
      | inl new ↦ (
          let there : numbered (pushed change undo) n ≡ Some (undo.current, change) =
          ap (numbered (pushed change undo)) new ∙ numbered-new change undo in
          inr (
            new,
            same_Some change found (sym (ap (option_map (λ c. c.1)) there) ∙ is),
            ap (λ (o : Option (ℕ × E)). unwrap_or (option_map (λ c. c.0) o) 0) there,
          )
          )
      | inr old ↦ (
          let low : n ≤ last undo = omega (arith, within.1, last-pushed change undo) in
          let there : numbered (pushed change undo) n ≡ numbered undo n = numbered-old change undo n low in
          inl (
            low,
            sym (ap (option_map (λ c. c.1)) there) ∙ is,
            ap (λ (o : Option (ℕ × E)). unwrap_or (option_map (λ c. c.0) o) 0) there,
          )
          )
    ]

-- the origin of a change lies below it
pub origin_below : {E : Type 0} (undo : Undo E) (n : ℕ) (change : E) → IsTree undo → change_of undo n ≡ Some change → origin undo n < n
origin_below undo n change tree is = tree.below n (origin undo n) (ap (option_map (λ c. c.0)) (numbered-of undo n change is))

pub seal_kept : (text : List (List ℕ)) (tick : ℤ) (undo : Undo (List Edit)) (unsealed : List Edit) → IsBuffer text tick undo unsealed
    → IsBuffer text tick (pushed unsealed undo) []
seal_kept text tick undo unsealed is = record {
  tree = push_tree unsealed undo is.tree;
  texts = λ n. elim (cases_order n (suc (last undo))) [
    | inl same ↦ subst IsBufferText (sym (ap (text_at (pushed unsealed undo)) same ∙ text_at-pushed undo unsealed)) now
    | inr (inl below) ↦ subst IsBufferText (sym (text_at-stays undo unsealed n (omega arith))) (is.texts n)
    | inr (inr above) ↦
        subst IsBufferText (sym (text_at-past (pushed unsealed undo) n (omega (arith, last-pushed unsealed undo)))) first_is_text
  ];
  changes = λ n edits found. elim (pushed_cases undo unsealed edits n found) [
    | inl old ↦ (
        let below : origin undo n < n = origin_below undo n edits is.tree old.1 in
        let same : text_at (pushed unsealed undo) (origin (pushed unsealed undo) n) ≡ text_at undo (origin undo n) =
        ap (text_at (pushed unsealed undo)) old.2 ∙ text_at-stays undo unsealed (origin undo n) (omega (arith, old.0)) in
        subst (λ (t : List (List ℕ)). AllFit t edits) (sym same) (is.changes n edits old.1)
        )
    | inr new ↦ (
        let same : text_at (pushed unsealed undo) (origin (pushed unsealed undo) n) ≡ text_at undo undo.current =
        ap (text_at (pushed unsealed undo)) new.2 ∙ text_at-stays undo unsealed undo.current is.tree.within in
        subst (λ (es : List Edit). AllFit (text_at (pushed unsealed undo) (origin (pushed unsealed undo) n)) es) new.1
        (subst (λ (t : List (List ℕ)). AllFit t unsealed) (sym same) is.since)
        )
  ];
  since = tt;
  now = is.now ∙ sym (text_at-pushed undo unsealed);
  counted = rw count is.counted;
}
  where
    now : IsBufferText (fold lines_after (text_at undo undo.current) unsealed)
    now = AllFit-text (text_at undo undo.current) unsealed (is.texts undo.current) is.since

    count : kept_count (pushed unsealed undo) [] ≡ kept_count undo unsealed
    count =
        omega (
          arith,
          ap length (flat_map-append (λ (c : ℕ × List Edit). c.1) undo.changes ((undo.current, unsealed) ∷ [])),
          length-append (flat_map (λ (c : ℕ × List Edit). c.1) undo.changes) (unsealed ++ []),
          ap length (append-nil unsealed),
        )

-- ---- a leg in the tree
pub gone_changes : {E : Type 0} (leg : Leg) (undo : Undo E) → (tree_after_leg leg undo).changes ≡ undo.changes
gone_changes (Back n) undo = refl
gone_changes (Ahead n) undo = refl

pub gone_tree : {E : Type 0} (leg : Leg) (undo : Undo E) → IsTree undo → IsNext undo leg → IsTree (tree_after_leg leg undo)
gone_tree (Back n) undo tree next = back_tree undo tree
gone_tree (Ahead n) undo tree next = child_tree n undo tree next

pub leg_kept : (before text : List (List ℕ)) (tick : ℤ) (undo : Undo (List Edit)) (unsealed : List Edit) (leg : Leg)
    → IsBuffer before tick undo unsealed → IsNext undo leg → text ≡ text_at undo (tree_after_leg leg undo).current
    → IsBuffer text tick (tree_after_leg leg undo) []
leg_kept before text tick undo unsealed leg is next arrived = record {
  tree = gone_tree leg undo is.tree next;
  texts = λ n. subst IsBufferText (sym (same n)) (is.texts n);
  changes = λ n edits found.
      let number : numbered (tree_after_leg leg undo) n ≡ numbered undo n = numbered_same (tree_after_leg leg undo) undo (gone_changes leg undo) n in
      let there : change_of undo n ≡ Some edits = sym (ap (option_map (λ c. c.1)) number) ∙ found in
      let from : origin (tree_after_leg leg undo) n ≡ origin undo n =
      ap (λ (o : Option (ℕ × List Edit)). unwrap_or (option_map (λ c. c.0) o) 0) number in
      subst (λ (t : List (List ℕ)). AllFit t edits) (sym (same (origin (tree_after_leg leg undo) n) ∙ ap (text_at undo) from))
      (is.changes n edits there);
  since = tt;
  now = arrived ∙ sym (same (tree_after_leg leg undo).current);
  counted =
      let changes : length (flat_map (λ (c : ℕ × List Edit). c.1) (tree_after_leg leg undo).changes) ≡ length (flat_map (λ (c : ℕ × List Edit). c.1) undo.changes) =
      ap (λ (cs : List (ℕ × List Edit)). length (flat_map (λ (c : ℕ × List Edit). c.1) cs)) (gone_changes leg undo) in
      let before : pos (2 + kept_count undo unsealed) ≤ℤ tick = is.counted in
      omega (arith, ints);
}
  where
    same : (n : ℕ) → text_at (tree_after_leg leg undo) n ≡ text_at undo n
    same n = text_at-same (tree_after_leg leg undo) undo n (gone_changes leg undo)
