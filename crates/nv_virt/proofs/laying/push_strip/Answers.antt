use Rattle.std.proofs.Common.{◌≡◌, ◌<◌, ◌+◌, ◌-◌, ◌++◌, ◌∷◌, ◌∙◌, [], Bool, true, false, cond, length, map, ap, sym, arith, rules}
use Rattle.std.proofs.lemmas.Bool.Decides.{nat_tests}
use Rattle.std.proofs.lemmas.List.{map-append}
use Rattle.nv_screen.specs.Drawing.{cells_up_to}
use Rattle.nv_virt.specs.Texts.{Strip, is_inside, strip_of}
use Rattle.nv_virt.proofs.LayLemmas.{not_put}
use Rattle.nv_virt.proofs.laying.push_strip.Goals as goal

pub on_screen-row-requires-clause-row : goal.on_screen-row-requires-clause-row
on_screen-row-requires-clause-row c =
    let yes : is_inside c.args.pane.now c.args.above c.args.place (length c.args.cells.items) ≡ true =
    sym c.is_inside.ensures ∙ c.if-not-is_inside.false in
    grind (arith, nat_tests, yes)

pub on_screen-row-requires-clause-col : goal.on_screen-row-requires-clause-col
on_screen-row-requires-clause-col c =
    let yes : is_inside c.args.pane.now c.args.above c.args.place (length c.args.cells.items) ≡ true =
    sym c.is_inside.ensures ∙ c.if-not-is_inside.false in
    grind (arith, nat_tests, yes)

pub returns-then-not-is_inside : goal.returns-then-not-is_inside
returns-then-not-is_inside c =
    let inside = is_inside c.args.pane.now c.args.above c.args.place (length c.args.cells.items) in
    let no : inside ≡ false = sym c.is_inside.ensures ∙ c.if-not-is_inside.true in
    not_put inside (map strip_of c.args.into.now.items) _ no

pub returns : goal.returns
returns c =
    let p = c.args.pane.now in
    let place = c.args.place in
    let olds = c.args.into.now.items in
    let w = p.rect.width in
    let inside = is_inside p c.args.above place (length c.args.cells.items) in
    let yes : inside ≡ true = sym c.is_inside.ensures ∙ c.if-not-is_inside.false in
    let left : c.saturating_sub-left.result ≡ w - place.1 = search rules in
    let cut : c.cut_cells.new.cells.items ≡ cells_up_to (w - place.1) c.args.cells.items =
    c.cut_cells.ensures ∙ ap (λ n. cells_up_to n c.args.cells.items) left in
    let strip : Strip = record { row = p.rect.row + (c.args.above + place.0); col = p.rect.col + place.1; cells = cells_up_to (w - place.1) c.args.cells.items } in
    ap (map strip_of) c.in_ok-push.ensures.items
    ∙ map-append strip_of olds (_ ∷ [])
    ∙ (λ i. map strip_of olds ++ record { row = c.on_screen-row.ensures.row i; col = c.on_screen-row.ensures.col i; cells = cut i } ∷ [])
    ∙ ap (λ (b : Bool). map strip_of olds ++ cond b (strip ∷ []) []) (sym yes)
