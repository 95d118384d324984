-- When a mark stands elsewhere than the splices since it was set left it (help:
-- api-extended-marks).
use Rattle.std.specs.Prelude.{◌≡◌, ◌==◌, ◌&&◌, not, Bool, true, false, List, [], fold, length, map, Option, Some, None, if◌then◌else◌}
use Rattle.std.specs.List.{list_any}
use Rattle.nv_model.specs.Seen.{Seen}
use Rattle.nv_watch.specs.FollowedMarks.{Followed, follow_all, is_elsewhere, followed_after}
use Rattle.nv_watch.specs.SeenWorlds.{editor_seen}
use Rattle.nv_watch.specs.Verdicts.{Sight}

-- what is known of marks: those that are followed, where the last splices left them, and the editor
-- after the last step
pub record SeenMarks : Type 0 where
  pub marks : List Followed
  pub editor : Option Seen

-- the marks of an editor, if it is known, as they go on being followed
abbrev pub marks_found : Bool → List Followed → Option Seen → List Followed
marks_found is_left_out known None = []
marks_found is_left_out known (Some seen) = follow_all is_left_out known seen

-- the marks before the next step: one that was set since is followed from where it stands
abbrev pub marks_before : SeenMarks → List Followed
marks_before s = marks_found false s.marks s.editor

-- where the splices of a step leave them
abbrev pub marks_stepped : SeenMarks → Sight → List Followed
marks_stepped s x = map (followed_after x.step.splices.items) (marks_before s)

-- those that are followed after it: one that was set beside its splices is left out
abbrev pub marks_followed : SeenMarks → Sight → List Followed
marks_followed s x =
    if length x.step.splices.items == 0 then s.marks
    else marks_found true (marks_stepped s x) (editor_seen x.world)

abbrev pub known_after : SeenMarks → Sight → SeenMarks
known_after s x = record { marks = marks_followed s x; editor = editor_seen x.world }

-- what is known of marks after steps
abbrev pub marks_seen : List Sight → SeenMarks
marks_seen seen = fold known_after (record { marks = []; editor = None }) seen

-- whether one of these marks stands elsewhere in this editor than splices left it, or is shown
-- otherwise
abbrev pub any_elsewhere : List Followed → Option Seen → Bool
any_elsewhere marks None = false
any_elsewhere marks (Some editor) = list_any (is_elsewhere editor) marks

-- after a step with splices a mark that was there before it stands elsewhere than the splices since
-- it was set left it, or is shown otherwise; nothing is asked of one that isn't there any more, was
-- set anew, or was set beside splices
abbrev pub IsMarkMisplaced : List Sight → Sight → Type 0
IsMarkMisplaced before x =
    (not (length x.step.splices.items == 0)
    && any_elsewhere (marks_stepped (marks_seen before) x) (editor_seen x.world))
    ≡ true
