use Rattle.std.proofs.Common.{map, subst, sym, arith}
use Rattle.std.proofs.lemmas.List.{length-map}
use Rattle.nv_msgpack.specs.Shortest.{HasSpelling}
use Rattle.nv_rpc.specs.Outcomes.{atomic_content, call_result_content}
use Rattle.nv_rpc.specs.declared.outcome.AtomicResults.{AtomicResults}
use Rattle.nv_dispatch.proofs.CallValues.{count-trees}
use Rattle.nv_dispatch.proofs.batch.Results.into_outcome.Goals as goal

pub returns-clause-spelled : goal.returns-clause-spelled
returns-clause-spelled c =
    let values = c.args.self.values.items in
    subst (λ (results : AtomicResults). HasSpelling (atomic_content results)) (sym c.in_ok-new.ensures.ok) (
      omega arith,
      (
        (omega (arith, count-trees (map call_result_content values), length-map values call_result_content, c.requires.few), c.requires.spelled),
        (c.in_ok-stop.ensures.spelled, tt),
      ),
    )
