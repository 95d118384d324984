-- What is sent of batches, when one more was taken.
use Rattle.std.proofs.Common.{◌≡◌, ℕ, List, [], ◌∷◌, ◌++◌, Option, Some, None, refl, sym, ap, ◌∙◌, subst, append_assoc}
use Rattle.std.proofs.lemmas.List.{append-nil}
use Rattle.nv_rpc.specs.Messages.{Sent}
use Rattle.nv_screen.specs.declared.scene.Scene.{Scene}
use Rattle.nv_linegrid.specs.declared.event.Redraw.{Redraw}
use Rattle.nv_linegrid.specs.Told.{Told, nothing_told}
use Rattle.nv_history.specs.Events.{Entry}
use Rattle.nv_history.specs.Runs.{TakenBatch}
use Rattle.nv_history.specs.Spoken.{events_of, told_with, ShowsIfGiven, AreSpoken, AreBytesOf}
use Rattle.nv_core.specs.declared.start.Start.{Start}
use Rattle.nv_session.specs.Sending.{batches_taken, AreBytesTaken}
use Rattle.nv_speech.specs.Flows.{bytes_said}
use Rattle.nv_session.specs.inside.Alone.{IsSent}

-- batches, and one more behind them
spoken_one : (start told : Told) (batches : List TakenBatch) (bytes : List ℕ) (events : List Redraw) (given : TakenBatch) (scene : Option Scene) → AreSpoken start batches bytes events told → ShowsIfGiven given.editor scene
    → AreSpoken start (batches ++ given ∷ []) (bytes ++ bytes_said told given.messages scene) (events ++ events_of told scene) (told_with told scene)
spoken_one start told [] bytes events given scene h shows =
    let first = bytes_said start given.messages scene in
    record {
      between = told_with start scene;
      first_bytes = first;
      other_bytes = [];
      first_events = events_of start scene;
      other_events = [];
      first = record { scene = scene; shows = shows; bytes_are = refl; events_are = refl; later_is = refl };
      rest = (refl, refl, ap (λ (t : Told). told_with t scene) h.2);
      bytes_are = ap (λ (l : List ℕ). l ++ bytes_said told given.messages scene) h.0
          ∙ ap (λ (t : Told). bytes_said t given.messages scene) h.2 ∙ sym (append-nil first);
      events_are = ap (λ (l : List Redraw). l ++ events_of told scene) h.1
          ∙ ap (λ (t : Told). events_of t scene) h.2 ∙ sym (append-nil (events_of start scene));
    }
spoken_one start told (b ∷ batches) bytes events given scene h shows =
    let more = bytes_said told given.messages scene in
    record {
      between = h.between;
      first_bytes = h.first_bytes;
      other_bytes = h.other_bytes ++ more;
      first_events = h.first_events;
      other_events = h.other_events ++ events_of told scene;
      first = h.first;
      rest = spoken_one h.between told batches h.other_bytes h.other_events given scene h.rest shows;
      bytes_are = ap (λ (l : List ℕ). l ++ more) h.bytes_are ∙ append_assoc h.first_bytes h.other_bytes more;
      events_are = ap (λ (l : List Redraw). l ++ events_of told scene) h.events_are
          ∙ append_assoc h.first_events h.other_events (events_of told scene);
    }

-- a batch more was taken
pub sent_more : (start : Start) (h k : List Entry) (given : TakenBatch) (scene : Option Scene) → batches_taken start k ≡ batches_taken start h ++ given ∷ [] → ShowsIfGiven given.editor scene
    → (told : Told) (bytes : List ℕ) → IsSent start h told bytes → IsSent start k (told_with told scene) (bytes ++ bytes_said told given.messages scene)
sent_more start h k given scene taken shows told bytes s = (
  s.0 ++ events_of told scene,
  subst
      (λ (bs : List TakenBatch).
      AreSpoken nothing_told bs (bytes ++ bytes_said told given.messages scene) (s.0 ++ events_of told scene) (told_with told scene))
      (sym taken) (spoken_one nothing_told told (batches_taken start h) bytes s.0 given scene s.1 shows),
)

-- nothing more was taken
pub sent_same : (start : Start) (h k : List Entry) (messages : List Sent) (scene : Option Scene) → messages ≡ [] → scene ≡ None → batches_taken start k ≡ batches_taken start h
    → (told : Told) (bytes : List ℕ) → IsSent start h told bytes → IsSent start k (told_with told scene) (bytes ++ bytes_said told messages scene)
sent_same start h k [] None e f taken told bytes s = (
  s.0,
  subst (λ (l : List ℕ). AreSpoken nothing_told (batches_taken start k) l s.0 told) (sym (append-nil bytes))
      (subst (λ (bs : List TakenBatch). AreSpoken nothing_told bs bytes s.0 told) (sym taken) s.1),
)
sent_same start h k [] (Some scene) e f taken told bytes s = cc
sent_same start h k (message ∷ messages) scene e f taken told bytes s = cc

-- what was sent, whatever the client was told by it
pub sent_bytes : (start : Start) (h : List Entry) (told : Told) (bytes : List ℕ) → IsSent start h told bytes → AreBytesTaken start h bytes
sent_bytes start h told bytes s = (s.0, told, s.1)

-- the same batches were taken
pub sent_alike : (start : Start) (h k : List Entry) (bytes : List ℕ) → batches_taken start k ≡ batches_taken start h → AreBytesTaken start h bytes → AreBytesTaken start k bytes
sent_alike start h k bytes taken s = subst (λ (bs : List TakenBatch). AreBytesOf bs bytes) (sym taken) s

-- with nothing behind it
pub sent_nil : (start : Start) (h : List Entry) (bytes : List ℕ) → AreBytesTaken start h bytes → AreBytesTaken start h (bytes ++ [])
sent_nil start h bytes s = subst (λ (l : List ℕ). AreBytesTaken start h l) (sym (append-nil bytes)) s
