use Rattle.nv_redraw.proofs.PutLemmas.{batch_put}
use Rattle.nv_redraw.proofs.spelling.put_batch.Goals as goal

pub returns-clause-ok : goal.returns-clause-ok
returns-clause-ok c =
    batch_put c.args.into.now.items c.put_front.new.into.items c.put_list_head.new.into.items c.put_entries.new.into.items c.args.events.now c.count_entries.result
    c.count_entries.ensures c.in_ok-put_front.ensures.ok c.in_ok-put_list_head.ensures.ok c.in_ok-put_entries.ensures.ok
