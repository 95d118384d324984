use Rattle.std.proofs.Common.{◌≡◌, ◌∷◌, [], ◌++◌, rules}
use Rattle.std.specs.Prelude.{codes}
use Rattle.nv_value.specs.Content.{in_turn}
use Rattle.nv_msgpack.specs.Shortest.{all_shortest}
use Rattle.nv_redraw.specs.Values.{colour_tree, pair_if_there}
use Rattle.nv_redraw.proofs.PutLemmas.{field_put, last_put}
use Rattle.nv_redraw.proofs.spelling.put_cterm_colours.Goals as goal

pub returns-clause-ok : goal.returns-clause-ok
returns-clause-ok c =
    let a = c.args.attr.now in
    let x0 = c.args.into.now.items in let x1 = c.put_colour.new.into.items in let x2 = c.put_colour-2.new.into.items in
    let fg : x1 ≡ x0 ++ all_shortest (in_turn (pair_if_there (codes "foreground") (colour_tree a.ctermfg))) = search rules in
    let bg : x2 ≡ x1 ++ all_shortest (in_turn (pair_if_there (codes "background") (colour_tree a.ctermbg))) = search rules in
    field_put x0 x1 x2 (codes "foreground") (colour_tree a.ctermfg) ((codes "background", colour_tree a.ctermbg) ∷ []) fg
    (last_put x1 x2 (codes "background") (colour_tree a.ctermbg) bg)
