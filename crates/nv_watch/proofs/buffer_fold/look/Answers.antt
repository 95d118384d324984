use Rattle.std.proofs.Common.{List, map, refl, sym, subst, ◌∙◌}
use Rattle.nv_rpc.specs.MessageView.{sent_of}
use Rattle.nv_model.specs.Standing.{seen_now}
use Rattle.nv_world.specs.declared.step.Moved.{Moved}
use Rattle.nv_watch.specs.inside.Sharing.{AreSplicedIf, texts_seen, touched}
use Rattle.nv_watch.proofs.Looking.{not_compared, was_compared}
use Rattle.nv_watch.proofs.buffer_fold.look.Goals as goal

pub returns-then-not-is_compared : goal.returns-then-not-is_compared
returns-then-not-is_compared c =
    let old = c.args.followed.now in
    let left =
    subst (λ (ss : List Moved). AreSplicedIf (texts_seen (seen_now c.args.editor.now) old.buffer) (touched old.buffer ss) old.ends c.ends_spliced-followed.result)
    c.as_slice.ensures.value c.ends_spliced-followed.ensures in
    not_compared (seen_now c.args.editor.now) c.args.step.now (map sent_of c.args.messages.now) old _ _ refl refl refl left
    (sym c.is_compared.ensures ∙ c.if-not-is_compared.true) refl

pub returns : goal.returns
returns c =
    let old = c.args.followed.now in
    let left =
    subst (λ (ss : List Moved). AreSplicedIf (texts_seen (seen_now c.args.editor.now) old.buffer) (touched old.buffer ss) old.ends c.ends_spliced-followed.result)
    c.as_slice.ensures.value c.ends_spliced-followed.ensures in
    was_compared (seen_now c.args.editor.now) c.args.step.now (map sent_of c.args.messages.now) old _ _ _ c.holds_other.ensures refl refl refl left
    (sym c.is_compared.ensures ∙ c.if-not-is_compared.false)
