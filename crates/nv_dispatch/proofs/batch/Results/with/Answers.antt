use Rattle.std.proofs.Common.{◌≡◌, ◌++◌, ◌∷◌, [], List, map, length, length-append, ap, sym, subst, arith}
use Rattle.nv_value.specs.Content.{trees_of}
use Rattle.nv_rpc.specs.Outcomes.{call_result_content}
use Rattle.nv_rpc.specs.declared.outcome.CallResult.{CallResult}
use Rattle.nv_msgpack.specs.Shortest.{HasSpelling, HaveSpellings}
use Rattle.nv_dispatch.proofs.CallValues.{spelled_more}
use Rattle.nv_dispatch.proofs.batch.Results.with.Goals as goal

pub returns-after-self-clause-listed : goal.returns-after-self-clause-listed
returns-after-self-clause-listed c =
    let before = c.args.self.values.items in
    let value = c.in_ok-value-in-Ok.value in
    let more : c.push.new.self.items ≡ before ++ value ∷ [] = c.in_ok-push-in-Ok.ensures.items in
    let few = rw c.in-Ok.is at c.requires.few in
    record {
      few = omega (arith, ap (length {A = CallResult}) more, length-append before (value ∷ []), few);
      spelled = subst (λ (vs : List CallResult). HaveSpellings (trees_of (map call_result_content vs))) (sym more)
          (spelled_more before value c.requires.listed.spelled
          (subst HasSpelling (sym c.in_ok-value-in-Ok.ensures) (rw c.in-Ok.is at c.requires.sendable)));
      fault = c.requires.listed.fault;
      number = c.requires.listed.number;
    }
