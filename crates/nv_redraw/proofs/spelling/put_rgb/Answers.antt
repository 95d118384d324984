use Rattle.nv_msgpack.proofs.Writing.{begins_as, on_err}
use Rattle.nv_redraw.specs.Values.{rgb_fields, flag_fields}
use Rattle.nv_redraw.specs.inside.Parts.{rgb_colours}
use Rattle.nv_redraw.proofs.PutLemmas.{then_put, map_put, fields_put}
use Rattle.nv_redraw.proofs.spelling.put_rgb.Goals as goal

pub returns-clause-ok : goal.returns-clause-ok
returns-clause-ok c =
    let a = c.args.attr.now in
    map_put c.args.into.now.items c.put_map_head.new.into.items c.put_flags.new.into.items (rgb_fields a) c.count_rgb.result c.count_rgb.ensures.count
    c.in_ok-put_map_head.ensures.ok
    (fields_put c.put_map_head.new.into.items c.put_rgb_colours.new.into.items c.put_flags.new.into.items (rgb_colours a) (flag_fields a)
    c.in_ok-put_rgb_colours.ensures.ok c.in_ok-put_flags.ensures.ok)

pub returns-in_err-put_flags-clause-err : goal.returns-in_err-put_flags-clause-err
returns-in_err-put_flags-clause-err c =
    let x0 = c.args.into.now.items in let x1 = c.put_map_head.new.into.items in let x2 = c.put_rgb_colours.new.into.items in
    on_err c.from_residual-in_err-put_flags.result
    (begins_as x0 x2 c.put_flags.new.into.items _ (then_put x0 x1 x2 _ _ c.in_ok-put_map_head.ensures.ok c.in_ok-put_rgb_colours.ensures.ok) c.in_err-put_flags.ensures.err)
