use Rattle.nv_value.specs.View.{pair_content}
use Rattle.nv_api_mark.proofs.Putting.{one-more}
use Rattle.nv_api_mark.proofs.values.put.Goals as goal

pub returns : goal.returns
returns c = λ rest. one-more pair_content c.args.fields.now.items c.push.new.self.items c.in_ok-entry.entry _ rest c.in_ok-push.ensures.items c.in_ok-entry.ensures
