use Rattle.std.proofs.Common.{◌≡◌, ◌++◌, ◌∷◌, ◌+◌, ◌∙◌, ℕ, IfSome, List, Option, [], ap, arith, get_or, length, length-append, rules, subst, sym}
use Rattle.std.proofs.lemmas.List.{length-map, get_or_default}
use Rattle.nv_hl.specs.declared.cell.Cell.{Cell}
use Rattle.nv_linegrid.specs.Client.{Shown}
use Rattle.nv_painter.specs.inside.Due.{IsDue, ShowsBut}
use Rattle.nv_painter.specs.inside.Lent.{lent_cells, lent_rows}
use Rattle.nv_painter.specs.inside.Sketch.{ShowsCells}
use Rattle.nv_painter.proofs.DueLemmas.{dues_more, lent_at}
use Rattle.nv_painter.proofs.ids.dues_of.Goals as goal

pub due_of-due-requires : goal.due_of-due-requires
due_of-due-requires c =
    let k = c.loop-k.k in
    let drawn = c.args.drawn.now in
    let rows = c.args.rows.now in
    let cells_are = lent_at drawn c.index-drawn-k.result k c.loop-k-test.true in
    let row_is : c.cells-row.result.now ≡ get_or rows k [] =
    c.cells-row.ensures ∙ c.index-rows-k.is ∙ get_or_default rows k c.index-rows-k.result [] (omega (arith, c.requires.count, c.loop-k-test.true)) in
    subst (λ (q : (Option (ℕ × ℕ) × List Cell) × List (Option Shown)). IfSome q.0.0 (λ d. ShowsBut c.args.attrs.now q.0.1 q.1 d.0 d.1))
    (λ i. ((sym c.due_at.ensures i, sym cells_are i), sym row_is i)) (c.requires.known k)

pub loop-k-preserved : goal.loop-k-preserved
loop-k-preserved c =
    let at = c.loop-k in
    let k = at.k in
    let drawn = c.args.drawn.now in
    let attrs = c.args.attrs.now in
    let rows = c.args.rows.now in
    let due = c.due_of-due.result in
    let lent = get_or drawn k c.index-drawn-k.result in
    let put : c.push.new.self.items ≡ at.dues.items ++ due ∷ [] = search rules in
    let cells_are = lent_at drawn c.index-drawn-k.result k c.loop-k-test.true in
    let row_is : c.cells-row.result.now ≡ get_or rows k [] =
    c.cells-row.ensures ∙ c.index-rows-k.is ∙ get_or_default rows k c.index-rows-k.result [] (omega (arith, c.requires.count, c.loop-k-test.true)) in
    record {
      count = ap length put ∙ length-append at.dues.items (due ∷ []) ∙ ap (λ n. n + 1) at.invariant.count;
      due = λ screen s. dues_more at.dues.items c.push.new.self.items due (lent_rows drawn) attrs rows screen k at.invariant.count put
          (subst (λ (q : List Cell × List (Option Shown)). IsDue due attrs q.0 (get_or screen k []) q.1) (λ i. (cells_are i, row_is i))
          (c.due_of-due.ensures (get_or screen k []) (λ e. cells_are ∙ s.drawn_is k (sym c.has_flag.ensures ∙ e))
          (λ e. subst (ShowsCells attrs (get_or screen k [])) (sym row_is) (s.shown k (sym c.has_flag.ensures ∙ e)))
          (ap length row_is ∙ s.wide k)))
          (at.invariant.due screen s);
    }

pub returns : goal.returns
returns c screen s =
    let at = c.loop-k in
    record {
      high = s.high;
      each = λ k lt. at.invariant.due screen s k (omega (arith, lt, length-map c.args.drawn.now lent_cells, c.loop-k-test.false));
    }
