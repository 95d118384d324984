use Rattle.nv_model.proofs.Splicing.{splice_is_kept}
use Rattle.nv_model.proofs.Sealing.{seal_is_kept}
use Rattle.nv_model.proofs.Legs.{leg_is_kept}
use Rattle.nv_model.proofs.Marking.{mark_is_kept, unmark_is_kept, clear_is_kept}
use Rattle.nv_model.proofs.Options.{options_are_kept, fresh_is_kept}
use Rattle.nv_model.proofs.laws.buffer_laws.Goals as goal

pub returns : goal.returns
returns c = record {
  splice = splice_is_kept;
  seal = seal_is_kept;
  leg = leg_is_kept;
  mark = mark_is_kept;
  unmark = unmark_is_kept;
  clear = clear_is_kept;
  options = options_are_kept;
  fresh = fresh_is_kept;
}
