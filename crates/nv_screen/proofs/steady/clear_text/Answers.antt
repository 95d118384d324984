use Rattle.std.proofs.Common.{◌≡◌, ◌<◌, ◌∙◌, ◌∷◌, ◌+◌, ◌-◌, List, sym, ap, subst, drop, length, arith}
use Rattle.std.proofs.lemmas.List.{drop_more}
use Rattle.nv_screen.specs.declared.scene.SceneLine.{SceneLine}
use Rattle.nv_screen.specs.inside.Steadiness.{ShowsSame}
use Rattle.nv_screen.proofs.SteadyLemmas.{lowered_more}
use Rattle.nv_screen.proofs.steady.clear_text.Goals as goal

pub loop-k-preserved : goal.loop-k-preserved
loop-k-preserved c =
    let p = c.args.new.now in
    let w = p.rect.width in let t = p.tabstop in
    let olds = c.as_slice-olds.result.now in let news = c.as_slice-news.result.now in
    let k = c.loop-k.k in
    let room = c.loop-k.room in
    let old = c.index-olds-k.result in let new = c.index-news-k.result in
    let low_old : k < length olds = omega (arith, c.loop-k-test.true, c.min-count.ensures) in
    let low_new : k < length news = omega (arith, c.loop-k-test.true, c.min-count.ensures) in
    let split_old : drop k olds ≡ old ∷ drop (k + 1) olds = drop_more olds k old low_old ∙ ap (λ l. l ∷ drop (k + 1) olds) (sym c.index-olds-k.is) in
    let split_new : drop k news ≡ new ∷ drop (k + 1) news = drop_more news k new low_new ∙ ap (λ l. l ∷ drop (k + 1) news) (sym c.index-news-k.is) in
    let step = c.in_ok-room.ensures in
    let at = p.rect.row + (p.rect.height - room) in
    record {
      lowered = lowered_more _ _ _ c.loop-k.invariant.lowered step.lowered;
      room = omega (arith, step.less, c.loop-k.invariant.room);
      same = λ r flag rest. c.loop-k.invariant.same r (step.lowered.lowered r flag)
          (subst (λ (xs : List SceneLine). ShowsSame w t at room xs (drop k news) r) (sym split_old)
          (subst (λ (ys : List SceneLine). ShowsSame w t at room (old ∷ drop (k + 1) olds) ys r) (sym split_new)
          (step.same r flag (drop (k + 1) olds) (drop (k + 1) news) rest)));
    }
