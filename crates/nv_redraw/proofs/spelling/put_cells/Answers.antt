use Rattle.nv_redraw.specs.Values.{run_tree}
use Rattle.nv_redraw.proofs.PutLemmas.{list_put}
use Rattle.nv_redraw.proofs.spelling.put_cells.Goals as goal

pub returns-clause-ok : goal.returns-clause-ok
returns-clause-ok c =
    list_put run_tree c.args.into.now.items c.put_list_head.new.into.items c.put_runs.new.into.items c.args.cells.now
    c.in_ok-put_list_head.ensures.ok c.in_ok-put_runs.ensures.ok
