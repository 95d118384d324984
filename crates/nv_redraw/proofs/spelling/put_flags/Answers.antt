use Rattle.nv_redraw.specs.inside.Parts.{upper_flags, lower_flags}
use Rattle.nv_redraw.proofs.PutLemmas.{fields_put}
use Rattle.nv_redraw.proofs.spelling.put_flags.Goals as goal

pub returns-clause-ok : goal.returns-clause-ok
returns-clause-ok c =
    fields_put c.args.into.now.items c.put_upper_flags.new.into.items c.put_lower_flags.new.into.items (upper_flags c.args.attr.now) (lower_flags c.args.attr.now)
    c.in_ok-put_upper_flags.ensures.ok c.in_ok-put_lower_flags.ensures.ok
