-- A worked example: one session edits a buffer that another one follows.
use Rattle.std.specs.Prelude.{◌≡◌, ℕ, pos, List, [], ◌∷◌, codes}
use Rattle.nv_dispatch.specs.Runs.{usual_limits}
use Rattle.nv_dispatch.specs.Worked.{str, set_all_lines}
use Rattle.nv_history.specs.Events.{open_session, request_of, take_of, Entry}
use Rattle.nv_history.specs.Examples.{asked_as, history_by_one}
use Rattle.nv_history.specs.Runs.{out, all_messages}
use Rattle.nv_history.specs.Worlds.{World}
use Rattle.nv_mirror.specs.Listings.{listing}
use Rattle.nv_mirror_laws.specs.Laws.{attach_call, IsSentTo}

-- Session 2 follows buffer 1, of which session 1 replaces all lines.
abbrev pub followed_story : List Entry
followed_story =
    history_by_one (open_session ∷ open_session ∷ request_of 2 (attach_call (pos 1)) ∷ take_of 2
    ∷ request_of 1 (asked_as 1 (set_all_lines (str "a" ∷ str "b" ∷ []))) ∷ take_of 2 ∷ [])

-- What it is sent is what the laws speak of, and lists the text before and after the edit.
unfoldable pub StoryIsFollowed : Type 0
StoryIsFollowed =
    (w : World) × (sent : List ℕ) × IsSentTo 4096 usual_limits followed_story 2 1 w sent
    × (listing (pos 1) (all_messages (out 4096 usual_limits 2 followed_story))
    ≡ codes "tick 2 lines 1\n\ntick 3 lines 2\na\nb\n")
