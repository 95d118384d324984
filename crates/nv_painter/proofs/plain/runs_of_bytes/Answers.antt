use Rattle.std.proofs.Common.{◌≡◌, ◌≤◌, ◌++◌, ◌∙◌, List, append-nil, ap, arith, drop, None, sym, take}
use Rattle.nv_linegrid.specs.declared.event.Run.{Run}
use Rattle.nv_linegrid.specs.Rows.{runs_of}
use Rattle.nv_painter.specs.inside.Plain.{plain_shown}
use Rattle.nv_painter.specs.inside.Telling.{runs_with}
use Rattle.nv_painter.proofs.PlainLemmas.{front_end, front_part}
use Rattle.nv_painter.proofs.RunLemmas.{runs_begin}
use Rattle.nv_painter.proofs.plain.runs_of_bytes.Goals as goal

pub loop-k-init : goal.loop-k-init
loop-k-init c = record {
  runs = λ width le.
      let cells = drop c.args.first (take c.args.end (plain_shown width c.args.bytes.now)) in
      ap (λ (rs : List Run). rs ++ runs_with None 1 cells) c.in_ok-runs.ensures.items ∙ sym (runs_begin cells);
  count = omega arith;
}

pub loop-k-preserved : goal.loop-k-preserved
loop-k-preserved c = record {
  runs = λ width le. c.in_ok-next.ensures.runs width le ∙ c.loop-k.invariant.runs width le;
  count = omega (arith, c.in_ok-next.ensures.count);
}

pub returns : goal.returns
returns c width le =
    let at = c.loop-k in
    let bytes = c.args.bytes.now in
    let past : c.args.end ≤ at.k = omega (arith, c.loop-k-test.false) in
    c.from_vec.ensures
    ∙ sym (append-nil at.runs.items)
    ∙ ap (λ l. at.runs.items ++ runs_with at.last at.count l) (sym (front_end width bytes c.args.end at.k past))
    ∙ at.invariant.runs width le
    ∙ ap runs_of (front_part width bytes c.args.first c.args.end c.requires.order)
