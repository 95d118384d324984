-- What a check of marks keeps.
use Rattle.std.specs.Prelude.{◌≡◌, true, false, List}
use Rattle.nv_watch.specs.declared.mark_check.MarkCheck.{MarkCheck}
use Rattle.nv_watch.specs.declared.verdict.Verdict.{Verdict}
use Rattle.nv_watch.specs.FollowedMarks.{Followed}
use Rattle.nv_watch.specs.MarkRule.{IsMarkMisplaced, marks_before, marks_seen}
use Rattle.nv_watch.specs.Verdicts.{Sight, IsVerdict}

-- these marks, those before the next step, and this verdict are those of what was seen
pub record HasCheckedIn (marks before : List Followed) (said : Verdict) (seen : List Sight)
    : Type 0 where
  pub marks_are : marks ≡ (marks_seen seen).marks
  pub before_are : before ≡ marks_before (marks_seen seen)
  pub verdict : IsVerdict IsMarkMisplaced seen said

-- a check has seen these
abbrev pub HasChecked : MarkCheck → List Sight → Type 0
HasChecked c seen =
    (c.is_behind ≡ false) × HasCheckedIn c.marks.items c.before.items c.verdict seen

-- these marks and this verdict are those of what was seen, and those before the next step are still
-- to be looked at
pub record IsBehindIn (marks : List Followed) (said : Verdict) (seen : List Sight)
    : Type 0 where
  pub marks_are : marks ≡ (marks_seen seen).marks
  pub verdict : IsVerdict IsMarkMisplaced seen said

-- a check has seen these, and has still to look at the marks after them
abbrev pub IsCheckBehind : MarkCheck → List Sight → Type 0
IsCheckBehind c seen = (c.is_behind ≡ true) × IsBehindIn c.marks.items c.verdict seen
