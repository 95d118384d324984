use Rattle.std.proofs.Common.{◌≡◌, ℕ, List, ◌++◌, ap, sym, ◌∙◌}
use Rattle.std.specs.Prelude.{codes}
use Rattle.nv_run.specs.Statuses.{line_of}
use Rattle.nv_run.proofs.Lines.{tells_as}
use Rattle.nv_run.proofs.telling.tell_end.Goals as goal

pub returns-in-Malformed : goal.returns-in-Malformed
returns-in-Malformed g c =
    let word = c.word_of-place.result.0.now in
    let line : codes "nvimd: malformed input: " ++ (word ++ (codes " at " ++ (c.format-place.result.now ++ codes "\n"))) ≡ line_of c.args.ended =
    ap (λ (d : List ℕ). codes "nvimd: malformed input: " ++ (word ++ (codes " at " ++ (d ++ codes "\n")))) c.format-place.ensures.text
    ∙ sym c.word_of-place.ensures ∙ sym (ap line_of c.in-Malformed.is) in
    tells_as _ (line_of c.args.ended) _ _ line c.tell-in-Malformed.ensures

pub returns-in-Overflowed : goal.returns-in-Overflowed
returns-in-Overflowed g c =
    let line : codes "nvimd: outbox overflow at entry " ++ (c.format-entry.result.now ++ codes "\n") ≡ line_of c.args.ended =
    ap (λ (d : List ℕ). codes "nvimd: outbox overflow at entry " ++ (d ++ codes "\n")) c.format-entry.ensures.text ∙ sym (ap line_of c.in-Overflowed.is) in
    tells_as _ (line_of c.args.ended) _ _ line c.tell-in-Overflowed.ensures
