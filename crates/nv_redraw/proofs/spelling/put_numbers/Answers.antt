use Rattle.nv_value.specs.Content.{integer}
use Rattle.nv_redraw.proofs.PutLemmas.{list_put}
use Rattle.nv_redraw.proofs.spelling.put_numbers.Goals as goal

pub returns-clause-ok : goal.returns-clause-ok
returns-clause-ok c =
    list_put integer c.args.into.now.items c.put_list_head.new.into.items c.put_integers.new.into.items c.args.numbers.now
    c.in_ok-put_list_head.ensures.ok c.in_ok-put_integers.ensures.ok
