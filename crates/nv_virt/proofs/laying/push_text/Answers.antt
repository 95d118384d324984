use Rattle.std.proofs.Common.{◌≡◌, ◌∙◌, None, Some, arith, map, rules, sym}
use Rattle.nv_virt.specs.Texts.{laid_text, line_on, strip_of}
use Rattle.nv_virt.proofs.LayLemmas.{none_shown, some_shown}
use Rattle.nv_virt.proofs.laying.push_text.Goals as goal

pub bounds-tops-n : goal.bounds-tops-n
bounds-tops-n c = omega (arith, c.in-Some.ensures.within, c.requires.tops.count)

pub push_on-requires-clause-line : goal.push_on-requires-clause-line
push_on-requires-clause-line c = c.in-Some.ensures.within

pub push_on-requires-clause-ends : goal.push_on-requires-clause-ends
push_on-requires-clause-ends c = omega (arith, c.in-Some.ensures.within, c.requires.ends)

pub push_on-requires-clause-above : goal.push_on-requires-clause-above
push_on-requires-clause-above c = c.requires.tops.each c.in-Some.n c.in-Some.ensures.within

pub returns-in_default-clause-laid : goal.returns-in_default-clause-laid
returns-in_default-clause-laid c = λ wanted rest capped.
    let p = c.args.pane.now in
    let none : line_on p c.args.text.now.row ≡ None = sym c.line_on.ensures.line ∙ c.in_default.is in (
      wanted,
      capped,
      none_shown p (line_on p c.args.text.now.row) (laid_text c.args.groups.now c.args.text.now) wanted rest (map strip_of c.args.into.now.items) none,
    )

pub returns-clause-laid : goal.returns-clause-laid
returns-clause-laid c = λ wanted rest capped.
    let p = c.args.pane.now in
    let n = c.in-Some.n in
    let some : line_on p c.args.text.now.row ≡ Some n = sym c.line_on.ensures.line ∙ c.in-Some.is in
    let laid = c.in_ok-push_on.ensures.laid wanted capped in (
      _,
      laid.0,
      some_shown p (line_on p c.args.text.now.row) n (laid_text c.args.groups.now c.args.text.now) wanted rest (map strip_of c.args.into.now.items) _ some laid.1,
    )
