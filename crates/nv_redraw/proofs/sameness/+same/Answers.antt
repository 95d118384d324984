-- Values of other lengths differ; a pair is its key and its value.
use Rattle.std.proofs.Common.{◌≡◌, ◌+◌, ℕ, Bool, true, false, ◌&&◌, drop, get_or, sym, ap, subst, ◌∙◌, arith, rules}
use Rattle.nv_value.specs.View.{pair_contents}
use Rattle.nv_redraw.specs.inside.SameTrees.{same_trees}
use Rattle.nv_redraw.proofs.SideLemmas.{lengths_differ, pair_lengths_differ, pairs_at}
use Rattle.nv_redraw.proofs.sameness.+same.Goals as goal

pub same_items-returns-then-len : goal.same_items-returns-then-len
same_items-returns-then-len t c =
    lengths_differ c.args.items.now.items c.args.others.now.items (λ e. omega (arith, e, c.if-len.true, c.len.ensures, c.len-2.ensures))

pub same_fields-returns-then-len : goal.same_fields-returns-then-len
same_fields-returns-then-len t c =
    pair_lengths_differ c.args.fields.now.items c.args.others.now.items (λ e. omega (arith, e, c.if-len.true, c.len.ensures, c.len-2.ensures))

pub same_fields-returns-then-not-same_pair : goal.same_fields-returns-then-not-same_pair
same_fields-returns-then-not-same_pair t c =
    let ps = c.deref-pair-items.result.now in
    let qs = c.args.others.now.items in
    let i = c.loop-pair.pair-index in
    let q = c.index.result.now in
    let rest = same_trees (pair_contents (drop (i + 1) ps)) (pair_contents (drop (i + 1) qs)) in
    let is : q ≡ get_or qs i q = subst (λ (n : ℕ). q ≡ get_or qs n q) c.loop-pair.invariant.at c.index.ensures in
    let here = pairs_at ps qs i c.pair-item.result q (omega arith) (omega arith) c.pair-item.is is in
    let no : c.same_pair.result ≡ false = search rules in
    ap (λ (b : Bool). b && rest) (sym no ∙ c.same_pair.ensures) ∙ sym here ∙ c.loop-pair.invariant.all

pub same_fields-loop-pair-preserved : goal.same_fields-loop-pair-preserved
same_fields-loop-pair-preserved t c =
    let ps = c.deref-pair-items.result.now in
    let qs = c.args.others.now.items in
    let i = c.loop-pair.pair-index in
    let q = c.index.result.now in
    let rest = same_trees (pair_contents (drop (i + 1) ps)) (pair_contents (drop (i + 1) qs)) in
    let is : q ≡ get_or qs i q = subst (λ (n : ℕ). q ≡ get_or qs n q) c.loop-pair.invariant.at c.index.ensures in
    let here = pairs_at ps qs i c.pair-item.result q (omega arith) (omega arith) c.pair-item.is is in
    let yes : c.same_pair.result ≡ true = search rules in
    record {
      at = omega (arith, c.loop-pair.invariant.at);
      all = ap (λ (b : Bool). b && rest) (sym yes ∙ c.same_pair.ensures) ∙ sym here ∙ c.loop-pair.invariant.all;
      long = c.loop-pair.invariant.long;
    }
