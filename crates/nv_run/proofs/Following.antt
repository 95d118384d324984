-- The laws of histories, of the one that was kept.
use Rattle.std.proofs.Common.{◌≡◌, ℕ, zero, suc, ℤ, List, [], ◌∷◌, ◌++◌, Option, Some, None, refl, sym, ap, ◌∙◌, subst, append_assoc}
use Rattle.nv_rpc.specs.Messages.{Sent}
use Rattle.nv_model.specs.Editors.{ModelEditor}
use Rattle.nv_history.specs.Events.{Entry}
use Rattle.nv_history.specs.Sessions.{Session}
use Rattle.nv_history.specs.Worlds.{World, fresh_world, session_of}
use Rattle.nv_history.specs.Runs.{out_from, all_messages, waiting_in}
use Rattle.nv_history.specs.Laws.{FoldsToMoment, FoldsToText}
use Rattle.nv_history.specs.MarkPlaces.{EachMarkStands}
use Rattle.nv_history.specs.UiLaws.{FoldsToScreen}
use Rattle.nv_history.proofs.GoingOn.{PlaceGoesOn}
use Rattle.nv_history.proofs.GoingRuns.{run_goes}
use Rattle.nv_core.specs.declared.start.Start.{Start}
use Rattle.nv_session.specs.Sending.{world_after}
use Rattle.nv_run.specs.Following.{IsFolded, HasMarksInPlace, IsShown, messages_taken_by}

-- nothing was sent
nothing_folded : (m : ModelEditor) (n : ℤ) (front back : List Sent) → [] ≡ front ++ back → FoldsToMoment m n front
nothing_folded m n [] back e = record { fits = refl; moment = λ tick h. cc }
nothing_folded m n (message ∷ front) back e = cc

-- a world begins without sessions
nobody_first : (start : Start) (s : ℕ) → session_of (fresh_world start.outbox start.limits) s ≡ None
nobody_first start zero = refl
nobody_first start (suc place) = refl

-- and nothing is sent to a session that never was
nothing_sent : (start : Start) (s : ℕ) (kept : List Entry) (w : World) → world_after start kept ≡ Some w → session_of w s ≡ None → messages_taken_by s start kept ≡ []
nothing_sent start s kept w runs nobody =
    let first = fresh_world start.outbox start.limits in
    let sent = all_messages (out_from first s kept) in
    let goes : PlaceGoesOn (session_of first s) (session_of w s) sent = run_goes s first w kept runs in
    subst (λ (o : Option Session). PlaceGoesOn None o sent) nobody
    (subst (λ (o : Option Session). PlaceGoesOn o (session_of w s) sent) (nobody_first start s) goes)

folded : FoldsToText → (start : Start) (kept : List Entry) (s : ℕ) (w : World) (o : Option Session) → session_of w s ≡ o → (n : ℤ) (front back : List Sent) → world_after start kept ≡ Some w
    → messages_taken_by s start kept ≡ front ++ back → FoldsToMoment w.editor n front
unfolding FoldsToText
folded law start kept s w None there n front back runs e =
    nothing_folded w.editor n front back (sym (nothing_sent start s kept w runs there) ∙ e)
folded law start kept s w (Some x) there n front back runs e =
    let waits = waiting_in s (world_after start kept) in
    law start.outbox start.limits kept w s x n front (back ++ waits) runs there
    (ap (λ (l : List Sent). l ++ waits) e ∙ append_assoc front back waits)

pub kept_folded : FoldsToText → (start : Start) (kept : List Entry) → IsFolded start kept
kept_folded law start kept s w n front back runs e = folded law start kept s w (session_of w s) refl n front back runs e

pub marks_in_place : EachMarkStands → (start : Start) (kept : List Entry) → HasMarksInPlace start kept
unfolding EachMarkStands
marks_in_place law start kept front back entry w v n b whole runs enters there = law start.outbox start.limits front w v entry.event n b runs enters there

pub shown : FoldsToScreen → (start : Start) (kept : List Entry) → IsShown start kept
unfolding FoldsToScreen
shown law start kept s w front back last m bytes events later runs taken is spoken =
    law start.outbox start.limits kept w s front back last m bytes events later runs taken is spoken
