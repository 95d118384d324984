use Rattle.std.proofs.Common.{◌∷◌, []}
use Rattle.std.specs.Prelude.{codes}
use Rattle.nv_redraw.specs.Values.{colour_tree}
use Rattle.nv_redraw.proofs.PutLemmas.{field_put, last_put}
use Rattle.nv_redraw.proofs.spelling.put_rgb_colours.Goals as goal

pub returns-clause-ok : goal.returns-clause-ok
returns-clause-ok c =
    let a = c.args.attr.now in
    let x0 = c.args.into.now.items in let x1 = c.put_colour.new.into.items in let x2 = c.put_colour-2.new.into.items in let x3 = c.put_colour-3.new.into.items in
    field_put x0 x1 x3 (codes "foreground") (colour_tree a.fg) ((codes "background", colour_tree a.bg) ∷ (codes "special", colour_tree a.sp) ∷ []) c.in_ok-put_colour.ensures.ok
    (field_put x1 x2 x3 (codes "background") (colour_tree a.bg) ((codes "special", colour_tree a.sp) ∷ []) c.in_ok-put_colour-2.ensures.ok
    (last_put x2 x3 (codes "special") (colour_tree a.sp) c.in_ok-put_colour-3.ensures.ok))
