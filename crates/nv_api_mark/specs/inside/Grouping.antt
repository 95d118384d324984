-- inside: how a group is put, step by step.
use Rattle.std.specs.Prelude.{ℕ, List, [], ◌∷◌, ◌++◌, Option, Some, None}
use Rattle.nv_value.specs.Content.{Tree, nil}
use Rattle.nv_hl.specs.Groups.{NamedGroup}
use Rattle.nv_hl.specs.declared.linking.Group.{Group}
use Rattle.nv_hl.specs.declared.linking.Group.TheVariants.{Plain, Link}
use Rattle.nv_model.specs.Answers.{Answer, replied}
use Rattle.nv_model.specs.Operations.{group_put}
use Rattle.nv_model.specs.Stage.{Stage}
use Rattle.nv_api_mark.specs.Groups.{groups_with, id_among}
use Rattle.nv_api_mark.specs.GroupRows.{groups_operations}
use Rattle.nv_api_mark.specs.Highlights.{attr_in}

-- what is put of a group, among groups with its name: a link, or an attribute
abbrev pub group_to_put : List NamedGroup → List (Tree × Tree) → Option (List ℕ) → Group
group_to_put groups pairs None = Plain (attr_in pairs)
group_to_put groups pairs (Some link) = Link (id_among groups link)

-- a group is put, with those that are made for it
abbrev pub putting_answer : Stage → List ℕ → List (Tree × Tree) → Option (List ℕ) → Answer
putting_answer stage name pairs link =
    replied nil (groups_operations stage.groups name link
    ++ group_put (id_among stage.groups name)
    (group_to_put (groups_with stage.groups name) pairs link)
    ∷ []) []
