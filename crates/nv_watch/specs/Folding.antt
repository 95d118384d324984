-- When what a session was sent doesn't lead to what the buffers are (help: api-buffer-updates).
use Rattle.std.specs.Prelude.{◌≡◌, ◌⊎◌, ℕ, ◌==◌, ℤ, ◌&&◌, ◌||◌, Bool, true, false, List, [], ◌∷◌, ◌++◌, fold, Some, if◌then◌else◌}
use Rattle.std.specs.List.{list_any}
use Rattle.std.specs.Ordering.{int_eq}
use Rattle.nv_rpc.specs.Messages.{Sent}
use Rattle.nv_model.specs.Seen.{Seen}
use Rattle.nv_subs.specs.Mirrors.{absent}
use Rattle.nv_world.specs.declared.step.Step.{Step}
use Rattle.nv_watch.specs.Folds.{Mirrors, mirrors_behind, do_fit, tells_lines, holds_other}
use Rattle.nv_watch.specs.SeenWorlds.{editor_seen}
use Rattle.nv_watch.specs.SentParts.{is_whole_sent, messages_sent}
use Rattle.nv_watch.specs.Verdicts.{Sight}

-- the mirrors of a session once one more was seen, and once all of these were
abbrev pub mirrors_with : ℕ → Mirrors → Sight → Mirrors
mirrors_with s mirrors x =
    if x.step.session == s then mirrors_behind mirrors (messages_sent x.step.sent) else mirrors

abbrev pub mirrors_seen : List Sight → ℕ → Mirrors
mirrors_seen seen s = fold (mirrors_with s) (λ n. absent) seen

-- whether a step that sent these messages changes a session's mirror of a buffer, or the buffer: it
-- told that session lines of it, or spliced it
abbrev pub is_compared : Step → List Sent → ℕ → ℤ → Bool
is_compared step messages s n =
    (step.session == s && list_any (tells_lines n) messages)
    || list_any (λ splice. int_eq splice.buffer n) step.splices.items

-- a session then holds other lines of a buffer than this has at the same changedtick
pub record HoldsOtherLines (x : Sight) (mirrors : ℕ → Mirrors) : Type 0 where
  pub session : ℕ
  pub buffer : ℤ
  pub editor : Seen
  pub is_editor : editor_seen x.world ≡ Some editor
  pub compared : is_compared x.step (messages_sent x.step.sent) session buffer ≡ true
  pub other : holds_other (mirrors session buffer) (editor.buffer buffer) ≡ true

-- what the session of a step is sent isn't whole messages and redraw notifications, or has a
-- message that doesn't fit what the session was sent before, or a session holds other lines than
-- the buffer has at that changedtick
abbrev pub IsFoldedWrong : List Sight → Sight → Type 0
IsFoldedWrong before x =
    (is_whole_sent x.step.sent ≡ false)
    ⊎ ((do_fit (mirrors_seen before x.step.session) (messages_sent x.step.sent) ≡ false)
    ⊎ HoldsOtherLines x (mirrors_seen (before ++ x ∷ [])))
