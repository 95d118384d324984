use Rattle.std.proofs.Common.{◌∷◌, []}
use Rattle.std.specs.Prelude.{codes}
use Rattle.nv_redraw.specs.Values.{flag_tree}
use Rattle.nv_redraw.proofs.PutLemmas.{field_put, last_put}
use Rattle.nv_redraw.proofs.spelling.put_lower_flags.Goals as goal

pub returns-clause-ok : goal.returns-clause-ok
returns-clause-ok c =
    let a = c.args.attr.now in
    let x0 = c.args.into.now.items in let x1 = c.put_flag.new.into.items in let x2 = c.put_flag-2.new.into.items in let x3 = c.put_flag-3.new.into.items in
    field_put x0 x1 x3 (codes "underline") (flag_tree a.underline) ((codes "undercurl", flag_tree a.undercurl) ∷ (codes "strikethrough", flag_tree a.strikethrough) ∷ []) c.in_ok-put_flag.ensures.ok
    (field_put x1 x2 x3 (codes "undercurl") (flag_tree a.undercurl) ((codes "strikethrough", flag_tree a.strikethrough) ∷ []) c.in_ok-put_flag-2.ensures.ok
    (last_put x2 x3 (codes "strikethrough") (flag_tree a.strikethrough) c.in_ok-put_flag-3.ensures.ok))
