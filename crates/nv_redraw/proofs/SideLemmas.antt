-- Values side by side: those of other lengths differ, and the next ones are compared first.
use Rattle.std.proofs.Common.{ℕ, suc, ◌+◌, ◌<◌, ◌≡◌, Bool, true, false, ◌&&◌, List, [], ◌∷◌, length, drop, get_or, refl, sym, ap, ◌∙◌}
use Rattle.std.proofs.lemmas.List.{drop_more}
use Rattle.nv_value.specs.Content.{Trees, one}
use Rattle.nv_value.specs.View.{content, contents, pair_contents}
use Rattle.nv_value.specs.declared.value.Value.{Value}
use Rattle.nv_value.specs.declared.value.Pair.{Pair}
use Rattle.nv_value.proofs.Contents.{pair_contents_is}
use Rattle.nv_redraw.specs.inside.SameTrees.{same_tree, same_trees}

and_false : (b c : Bool) → false ≡ c → false ≡ (b && c)
and_false true c h = h
and_false false c h = refl

and_assoc : (a b c : Bool) → (a && (b && c)) ≡ ((a && b) && c)
and_assoc true b c = refl
and_assoc false b c = refl

pub lengths_differ : (vs ws : List Value) → (length vs ≡ length ws → ⊥) → false ≡ same_trees (contents vs) (contents ws)
lengths_differ [] [] h = absurd (h refl)
lengths_differ [] (w ∷ ws) h = refl
lengths_differ (v ∷ vs) [] h = refl
lengths_differ (v ∷ vs) (w ∷ ws) h = and_false (same_tree (content v) (content w)) (same_trees (contents vs) (contents ws)) (lengths_differ vs ws (λ e. h (ap (λ (n : ℕ). suc n) e)))

-- two pairs and what stands behind them
pub pairs_next : (p q : Pair) (ps qs : List Pair) → same_trees (pair_contents (p ∷ ps)) (pair_contents (q ∷ qs))
    ≡ ((same_tree (content p.key) (content q.key) && same_tree (content p.value) (content q.value)) && same_trees (pair_contents ps) (pair_contents qs))
pairs_next p q ps qs =
    ap (λ (t : Trees). same_trees t (pair_contents (q ∷ qs))) (pair_contents_is p ps)
    ∙ ap (λ (t : Trees). same_trees (one (content p.key) (one (content p.value) (pair_contents ps))) t) (pair_contents_is q qs)
    ∙ and_assoc (same_tree (content p.key) (content q.key)) (same_tree (content p.value) (content q.value)) (same_trees (pair_contents ps) (pair_contents qs))

pub pair_lengths_differ : (ps qs : List Pair) → (length ps ≡ length qs → ⊥) → false ≡ same_trees (pair_contents ps) (pair_contents qs)
pair_lengths_differ [] [] h = absurd (h refl)
pair_lengths_differ [] (q ∷ qs) h = refl
pair_lengths_differ (p ∷ ps) [] h = refl
pair_lengths_differ (p ∷ ps) (q ∷ qs) h =
    and_false (same_tree (content p.key) (content q.key) && same_tree (content p.value) (content q.value)) (same_trees (pair_contents ps) (pair_contents qs)) (pair_lengths_differ ps qs (λ e. h (ap (λ (n : ℕ). suc n) e)))
    ∙ sym (pairs_next p q ps qs)

-- the pairs at a place, and those behind them
pub pairs_at : (ps qs : List Pair) (i : ℕ) (p q : Pair) → i < length ps → i < length qs → p ≡ get_or ps i p → q ≡ get_or qs i q
    → same_trees (pair_contents (drop i ps)) (pair_contents (drop i qs))
    ≡ ((same_tree (content p.key) (content q.key) && same_tree (content p.value) (content q.value)) && same_trees (pair_contents (drop (i + 1) ps)) (pair_contents (drop (i + 1) qs)))
pairs_at ps qs i p q l m is it =
    ap (λ (r : List Pair). same_trees (pair_contents r) (pair_contents (drop i qs))) (drop_more ps i p l ∙ ap (λ (x : Pair). x ∷ drop (i + 1) ps) (sym is))
    ∙ ap (λ (r : List Pair). same_trees (pair_contents (p ∷ drop (i + 1) ps)) (pair_contents r)) (drop_more qs i q m ∙ ap (λ (x : Pair). x ∷ drop (i + 1) qs) (sym it))
    ∙ pairs_next p q (drop (i + 1) ps) (drop (i + 1) qs)
