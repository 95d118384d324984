-- What is seen of the editor of a world.
use Rattle.std.specs.Prelude.{Option, None, option_map, if◌then◌else◌}
use Rattle.nv_model.specs.Seen.{Seen, seen_of}
use Rattle.nv_world.specs.Worlds.{WorldRecord, model_of}

-- what is seen of the editor that the history of a world makes; of a world that want of memory has
-- spent nothing is known
unfoldable pub editor_seen : WorldRecord → Option Seen
editor_seen world =
    if world.spent then None else option_map (λ w. seen_of w.editor) (model_of world)
