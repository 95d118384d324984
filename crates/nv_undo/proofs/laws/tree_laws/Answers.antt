use Rattle.nv_undo.proofs.StepLemmas.{stays_tree, child_is_there, push_stands, entering_stands, undone_and_redone}
use Rattle.nv_undo.proofs.laws.tree_laws.Goals as goal

pub returns : goal.returns
returns g c = record {
  stays = stays_tree;
  child = child_is_there;
  push = push_stands;
  entering = entering_stands;
  undone = undone_and_redone;
}
