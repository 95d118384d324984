use Rattle.std.proofs.Common.{ℕ, List, [], ◌∷◌, ◌++◌, map, ap, arith, ◌∙◌}
use Rattle.std.proofs.lemmas.List.{map-append, take_all}
use Rattle.nv_value.specs.Content.{text}
use Rattle.nv_value.specs.View.{content}
use Rattle.nv_rpc.proofs.Puts.{one_string_added}
use Rattle.nv_rpc.proofs.outcome.add_strings.Goals as goal

pub loop-line-preserved : goal.loop-line-preserved
loop-line-preserved c =
    let value = c.in_ok-string_value.field-0 in
    let old = c.loop-line.strings.items in
    one_string_added c.args.lines.now c.loop-line.line-index c.line-item.result (map content c.args.strings.now.items) (map content old)
    (map content c.push.new.self.items) (content value) (omega arith) c.line-item.is c.loop-line.invariant c.in_ok-string_value.ensures
    (ap (map content) c.in_ok-push.ensures.items ∙ map-append content old (value ∷ []))

pub returns : goal.returns
returns c =
    c.loop-line.invariant
    ∙ ap (λ (l : List (List ℕ)). map content c.args.strings.now.items ++ map text l) (take_all c.loop-line.line-index c.args.lines.now (omega arith))
