use Rattle.std.proofs.Common.{rules, ◌≡◌, sym, ◌∙◌, Some}
use Rattle.nv_core.specs.Contents.{sent_of_shared}
use Rattle.nv_world.proofs.Putting.{put_more}
use Rattle.nv_world.proofs.session.put.Goals as goal

pub returns : goal.returns
returns c = λ capacity y following is.
    let there : c.args.session.now.outbox ≡ Some c.in-Some.outbox = search rules in
    put_more capacity c.args.at c.saturating_add-session.result c.size_of_message-size.result c.args.session.now y
    c.in-Some.outbox c.was_put.new.outbox (sent_of_shared c.args.message) following is
    (sym c.is_some.ensures ∙ c.if-is_some.false) there (sym c.if-not-was_put.false ∙ c.was_put.ensures.full)
    (c.was_put.ensures.put c.if-not-was_put.false) c.was_put.ensures.capacity c.requires.sendable
    c.size_of_message-size.ensures c.saturating_add-session.ensures
