use Rattle.std.proofs.Common.{arith, rules}
use Rattle.nv_redraw.proofs.CandidateParts.{run_of_few, run_of_two, run_of_many}
use Rattle.nv_redraw.proofs.reading.run_of.Goals as goal

pub returns-then-items-lt2 : goal.returns-then-items-lt2
returns-then-items-lt2 c = let few = run_of_few c.args.items.now (omega arith) in search (rules, few)

pub returns-then-items-eq2 : goal.returns-then-items-eq2
returns-then-items-eq2 c = let two = run_of_two c.args.items.now (omega arith) in search (rules, two)

pub returns-else-items-eq2 : goal.returns-else-items-eq2
returns-else-items-eq2 c = let many = run_of_many c.args.items.now (omega arith) in search (rules, many)
