use Rattle.std.proofs.Common.{◌++◌, length, ap, ◌∙◌, arith, length-append}
use Rattle.nv_lines.specs.Excerpts.{list_lines}
use Rattle.nv_lines.proofs.ListLines.{list_lines-push}
use Rattle.nv_lines.proofs.excerpt.Excerpt.push.Goals as goal

pub returns-clause-ok : goal.returns-clause-ok
returns-clause-ok c =
    ap list_lines c.in_ok-push.ensures.items ∙ list_lines-push c.self.inside.lists.items c.args.list ∙ ap (λ l. l ++ c.args.list) c.self.view_is

pub invariant_of-self-2 : goal.invariant_of-self-2
invariant_of-self-2 c =
    let before = c.self.inside.lists.items in
    omega (
      arith,
      c.self.invariant,
      ap length (ap list_lines c.in_ok-push.ensures.items ∙ list_lines-push before c.args.list),
      length-append (list_lines before) c.args.list,
    )
