-- What a check of marks keeps grows with what is seen.
use Rattle.std.proofs.Common.{◌≡◌, refl, ap, sym, ◌∙◌, subst, Bool, true, false, cond, true≢false, List, [], ◌∷◌, ◌++◌, length, map, fold, Option, None, Some, option_and_then}
use Rattle.std.specs.Prelude.{◌&&◌, ◌==◌, not}
use Rattle.std.proofs.lemmas.List.Sums.{fold-append}
use Rattle.nv_model.specs.Seen.{Seen}
use Rattle.nv_world.specs.Worlds.{WorldRecord}
use Rattle.nv_world.specs.declared.step.Moved.{Moved}
use Rattle.nv_watch.specs.FollowedMarks.{Followed, followed_after}
use Rattle.nv_watch.specs.MarkRule.{IsMarkMisplaced, SeenMarks, any_elsewhere, known_after, marks_before, marks_found, marks_seen}
use Rattle.nv_watch.specs.SeenWorlds.{editor_seen}
use Rattle.nv_watch.specs.Verdicts.{FollowsQuietly, IsLastWorld, Sight, last_sight, latest, verdict_with}
use Rattle.nv_watch.specs.declared.verdict.Verdict.{Verdict}
use Rattle.nv_watch.specs.declared.verdict.Verdict.TheVariants.{Yes}
use Rattle.nv_watch.specs.inside.Checked.{HasCheckedIn, IsBehindIn}
use Rattle.nv_watch.proofs.Verdicts.{verdict_grows, none_broken}

pub none_checked : (marks before : List Followed) → marks ≡ [] → before ≡ [] → HasCheckedIn marks before Yes []
none_checked marks before none none_before =
    record { marks_are = none; before_are = none_before; verdict = none_broken IsMarkMisplaced }

-- what is known of marks after one more step
known_with : (seen : List Sight) (x : Sight) → marks_seen (seen ++ x ∷ []) ≡ known_after (marks_seen seen) x
known_with seen x = fold-append known_after (record { marks = []; editor = None }) seen (x ∷ [])

-- whether the rule is broken, by what was kept before a step
abbrev pub breaks_before : List Followed → Sight → Bool
breaks_before before x =
    not (length x.step.splices.items == 0)
    && any_elsewhere (map (followed_after x.step.splices.items) before) (editor_seen x.world)

abbrev pub marks_past : List Followed → List Followed → Sight → List Followed
marks_past marks before x =
    cond (length x.step.splices.items == 0) marks
    (marks_found true (map (followed_after x.step.splices.items) before) (editor_seen x.world))

-- one more step: the marks, and the verdict
pub checked_more : (marks before later : List Followed) (v : Verdict) (seen : List Sight) (x : Sight) (broken : Bool)
    → broken ≡ breaks_before before x → later ≡ marks_past marks before x
    → HasCheckedIn marks before v seen → IsBehindIn later (verdict_with v x.step.at broken) (seen ++ x ∷ [])
checked_more marks before later v seen x broken broken_is later_is old =
    let is : broken ≡ breaks_before (marks_before (marks_seen seen)) x =
    broken_is ∙ ap (λ (ms : List Followed). breaks_before ms x) old.before_are in
    record {
      marks_are =
          later_is
          ∙ ap (λ (ms : List Followed). marks_past ms before x) old.marks_are
          ∙ ap (λ (ms : List Followed). marks_past (marks_seen seen).marks ms x) old.before_are
          ∙ ap (λ (s : SeenMarks). s.marks) (sym (known_with seen x));
      verdict =
          verdict_grows IsMarkMisplaced seen x v broken (λ e. sym is ∙ e) (λ e h. true≢false (sym h ∙ sym is ∙ e)) old.verdict;
    }

-- one that splices nothing, where the marks before it are still to be looked at
not_broken : (seen : List Sight) (x : Sight) → x.step.splices.items ≡ [] → IsMarkMisplaced seen x → ⊥
not_broken seen x quiet broken =
    true≢false (sym broken ∙ ap (λ (l : List Moved). not (length l == 0) && any_elsewhere (map (followed_after l) (marks_before (marks_seen seen))) (editor_seen x.world)) quiet)

pub passed_quietly : (marks before later : List Followed) (v : Verdict) (seen : List Sight) (x : Sight) (broken : Bool)
    → broken ≡ breaks_before before x → later ≡ marks_past marks before x
    → IsBehindIn marks v seen → FollowsQuietly seen x → IsBehindIn later (verdict_with v x.step.at broken) (seen ++ x ∷ [])
passed_quietly marks before later v seen x broken broken_is later_is old next =
    let none : broken ≡ false =
    broken_is ∙ ap (λ (l : List Moved). not (length l == 0) && any_elsewhere (map (followed_after l) before) (editor_seen x.world)) next.quiet in
    let past : (ms bs : List Followed) → marks_past ms bs x ≡ ms =
    λ ms bs. ap (λ (l : List Moved). cond (length l == 0) ms (marks_found true (map (followed_after l) bs) (editor_seen x.world))) next.quiet in
    record {
      marks_are =
          later_is ∙ past marks before ∙ old.marks_are
          ∙ sym (past (marks_seen seen).marks (marks_before (marks_seen seen)))
          ∙ ap (λ (s : SeenMarks). s.marks) (sym (known_with seen x));
      verdict =
          verdict_grows IsMarkMisplaced seen x v broken (λ e. absurd (true≢false (sym e ∙ none))) (λ e h. not_broken seen x next.quiet h) old.verdict;
    }

-- the editor that is known is that after the last step
editor_of_last : (s : SeenMarks) (last : Option Sight) (seen : List Sight) → s.editor ≡ option_and_then (λ (x : Sight). editor_seen x.world) last
    → (fold known_after s seen).editor ≡ option_and_then (λ (x : Sight). editor_seen x.world) (fold latest last seen)
editor_of_last s last [] same = same
editor_of_last s last (x ∷ xs) same = editor_of_last (known_after s x) (Some x) xs refl

pub editor_is_last : (seen : List Sight) (k : WorldRecord) → IsLastWorld seen k → (marks_seen seen).editor ≡ editor_seen k
editor_is_last seen k here =
    editor_of_last (record { marks = []; editor = None }) None seen refl
    ∙ ap (λ (o : Option Sight). option_and_then (λ (x : Sight). editor_seen x.world) o) here.last_is
    ∙ ap editor_seen here.world_is

pub caught_up : (marks before : List Followed) (v : Verdict) (seen : List Sight) (k : WorldRecord)
    → before ≡ marks_found false marks (editor_seen k) → IsBehindIn marks v seen → (marks_seen seen).editor ≡ editor_seen k
    → HasCheckedIn marks before v seen
caught_up marks before v seen k before_is old last = record {
  marks_are = old.marks_are;
  before_are =
      before_is
      ∙ ap (λ (o : Option Seen). marks_found false marks o) (sym last)
      ∙ ap (λ (ms : List Followed). marks_found false ms (marks_seen seen).editor) old.marks_are;
  verdict = old.verdict;
}

-- after a step that is shown the editor that is known is that of its world
pub editor_with : (seen : List Sight) (x : Sight) → (marks_seen (seen ++ x ∷ [])).editor ≡ editor_seen x.world
editor_with seen x = ap (λ (s : SeenMarks). s.editor) (known_with seen x)

-- where nothing was put off all stays
pub stays_checked : (marks before later left : List Followed) (is_behind : Bool) (v : Verdict) (seen : List Sight)
    → later ≡ cond is_behind left before → is_behind ≡ false → HasCheckedIn marks before v seen → HasCheckedIn marks later v seen
stays_checked marks before later left is_behind v seen later_is known old = record {
  marks_are = old.marks_are;
  before_are = later_is ∙ ap (λ (b : Bool). cond b left before) known ∙ old.before_are;
  verdict = old.verdict;
}
