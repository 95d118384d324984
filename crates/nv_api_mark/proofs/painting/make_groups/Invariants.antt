-- Of all parts the groups of a front are there, and what was done and is to be done for the others is
-- what was to be done.
use Rattle.std.proofs.Common.{◌≡◌, ◌++◌, List, map}
use Rattle.nv_value.specs.View.{content}
use Rattle.nv_editor.specs.Doing.{Does}
use Rattle.nv_model.specs.Operations.{Operation}
use Rattle.nv_api_mark.specs.Groups.{groups_of_names, names_operations}
use Rattle.nv_api_mark.specs.inside.Marking.{names_among}
use Rattle.nv_api_mark.proofs.Wanted.{names_from}
use Rattle.nv_api_mark.proofs.painting.make_groups.Given as goal

abbrev pub invariant-loop-item : goal.invariant-loop-item
invariant-loop-item l = record {
  groups : groups_of_names l.editor.stage.groups (names_from l.items l.item-index)
      ≡ groups_of_names l.fn.editor.stage.groups (names_among (map content l.items));
  stage : l.editor.stage ≡ record l.fn.editor.stage { groups = l.editor.stage.groups };
  buffers : l.editor.buffers ≡ l.fn.editor.buffers;
  done : (os : List Operation) × Does os l.fn.editor l.editor
      × (os ++ names_operations l.editor.stage.groups (names_from l.items l.item-index)
      ≡ names_operations l.fn.editor.stage.groups (names_among (map content l.items)));
}
