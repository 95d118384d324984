use Rattle.std.proofs.Common.{◌≡◌, ◌∙◌, ◌+◌, ◌++◌, ℕ, ap, length}
use Rattle.nv_msgpack.proofs.Writing.{begins_as, on_err}
use Rattle.nv_msgpack.specs.Shortest.{list_head}
use Rattle.nv_redraw.proofs.PutLemmas.{then_put, entry_put}
use Rattle.nv_redraw.proofs.spelling.put_entry.Goals as goal

pub returns-clause-ok : goal.returns-clause-ok
returns-clause-ok c =
    let head : c.put_list_head.new.into.items ≡ c.args.into.now.items ++ list_head (length c.args.events.now + 1) =
    c.in_ok-put_list_head.ensures.ok ∙ ap (λ (n : ℕ). c.args.into.now.items ++ list_head (n + 1)) c.in_ok-few.ensures.value in
    entry_put c.args.into.now.items c.put_list_head.new.into.items c.put_text.new.into.items c.put_events.new.into.items c.args.name.now c.args.events.now
    head c.in_ok-put_text.ensures.ok c.in_ok-put_events.ensures.ok

pub returns-in_err-put_events-clause-err : goal.returns-in_err-put_events-clause-err
returns-in_err-put_events-clause-err c =
    let x0 = c.args.into.now.items in let x1 = c.put_list_head.new.into.items in let x2 = c.put_text.new.into.items in
    on_err c.from_residual-in_err-put_events.result
    (begins_as x0 x2 c.put_events.new.into.items _ (then_put x0 x1 x2 _ _ c.in_ok-put_list_head.ensures.ok c.in_ok-put_text.ensures.ok) c.in_err-put_events.ensures.err)
