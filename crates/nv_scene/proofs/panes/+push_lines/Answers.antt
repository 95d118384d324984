use Rattle.std.proofs.Common.{◌≡◌, ◌∙◌, ℕ, List, filter, All, sym, subst, arith}
use Rattle.std.proofs.lemmas.List.Elements.{All-filter}
use Rattle.nv_marks.specs.declared.extmark.Mark.{Mark}
use Rattle.nv_editor.specs.Sound.{IsOfGroups}
use Rattle.nv_scene.specs.inside.Painting.{ShowOnRows, may_show_on}
use Rattle.nv_scene.proofs.Painted.{shown_in_part}
use Rattle.nv_scene.proofs.panes.+push_lines.Goals as goal

pub row_between-middle-requires : goal.row_between-middle-requires
row_between-middle-requires t c = c.are_few.ensures c.if-are_few.false

pub push_lines-requires : goal.push_lines-requires
push_lines-requires t c =
    let middle : ℕ = c.row_between-middle.result in
    let marks : List Mark = c.args.marks.now in
    let all : List Mark = c.args.buffer.now.marks.marks in
    let after = c.row_between-middle.ensures.after in
    let before = c.row_between-middle.ensures.before in
    let front : c.as_slice.result.now ≡ filter (may_show_on c.args.first middle) marks = c.as_slice.ensures.value ∙ c.in_ok-front.ensures in (
      omega (arith, after, before),
      (
        omega (arith, after),
        (
          omega (arith, before, c.requires.within),
          (
            subst (All (IsOfGroups c.args.groups.now)) (sym front)
                (All-filter (may_show_on c.args.first middle) (IsOfGroups c.args.groups.now) marks c.requires.groups),
            subst (ShowOnRows c.args.first middle all) (sym front)
                (shown_in_part c.args.first c.args.behind c.args.first middle all marks (omega arith) (omega (arith, before)) c.requires.shown),
          ),
        ),
      ),
    )

pub push_lines-requires-2 : goal.push_lines-requires-2
push_lines-requires-2 t c =
    let middle : ℕ = c.row_between-middle.result in
    let marks : List Mark = c.args.marks.now in
    let all : List Mark = c.args.buffer.now.marks.marks in
    let after = c.row_between-middle.ensures.after in
    let before = c.row_between-middle.ensures.before in
    let back : c.as_slice-2.result.now ≡ filter (may_show_on middle c.args.behind) marks = c.as_slice-2.ensures.value ∙ c.in_ok-back.ensures in (
      omega (arith, after, before),
      (
        omega (arith, before),
        (
          c.requires.within,
          (
            subst (All (IsOfGroups c.args.groups.now)) (sym back)
                (All-filter (may_show_on middle c.args.behind) (IsOfGroups c.args.groups.now) marks c.requires.groups),
            subst (ShowOnRows middle c.args.behind all) (sym back)
                (shown_in_part c.args.first c.args.behind middle c.args.behind all marks (omega (arith, after)) (omega arith) c.requires.shown),
          ),
        ),
      ),
    )

pub returns-clause-count : goal.returns-clause-count
returns-clause-count t c =
    omega (
      arith,
      c.in_ok-push_lines.ensures.count,
      c.in_ok-push_lines-2.ensures.count,
      c.row_between-middle.ensures.after,
      c.row_between-middle.ensures.before,
    )

pub returns-clause-lines : goal.returns-clause-lines
returns-clause-lines t c =
    λ start here are.
    c.in_ok-push_lines-2.ensures.lines start (omega (arith, here, c.in_ok-push_lines.ensures.count, c.row_between-middle.ensures.after))
    (c.in_ok-push_lines.ensures.lines start here are)
