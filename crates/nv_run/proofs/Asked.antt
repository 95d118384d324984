-- Words that were refused, and the words of commands.
use Rattle.std.proofs.Common.{◌≡◌, ◌⊎◌, ℕ, List, [], ◌∷◌, Option, Some, None, refl, sym, ap, subst, codes, inl, inr}
use Rattle.clap.proofs.OnLiterals.{clap_on_literals}
use Rattle.nv_io.specs.Streams.{Tells}
use Rattle.nv_io.specs.declared.lanes.Ended.TheVariants as ended
use Rattle.nv_io.proofs.StreamLemmas.{each_none}
use Rattle.nv_core.specs.Contents.{plain_entries}
use Rattle.nv_watch.specs.Verdicts.{Sight}
use Rattle.nv_watch.specs.declared.verdict.Verdict.{Verdict}
use Rattle.nv_replay.specs.declared.ending.ReplayEnd.TheVariants as replay
use Rattle.nv_replay.specs.declared.ending.WriteEnd.TheVariants as write
use Rattle.nv_session.proofs.Leaving.{ends_before}
use Rattle.nv_words.specs.Commands.{AreWords, PlainCommand, command_asked, embeds, serves, replays, generates, follows_buffer, shows}
use Rattle.nv_words.specs.declared.command.Refusal.{Refusal}
use Rattle.nv_words.specs.declared.command.Refusal.TheVariants.{BadWords, NoMemory}
use Rattle.nv_run.specs.Commands.{usual_start}
use Rattle.nv_run.specs.Runs.{CommandEnds, Devices, DevicesWords, EmbedEnds}
use Rattle.nv_run.specs.Statuses.{line_of}
use Rattle.nv_run.specs.declared.mirroring.FollowEnd.TheVariants as follow
use Rattle.nv_run.specs.declared.serving.ServerEnd.TheVariants as server
use Rattle.nv_run.proofs.Books.{if_book}
use Rattle.nv_run.proofs.Replays.{book_unwritten}
use Rattle.nv_run.proofs.Servers.{none_began}

-- what isn't refused for bad words is refused for want of memory
pub is_memory : (refusal : Refusal) → (refusal ≡ BadWords → ⊥) → refusal ≡ NoMemory
is_memory NoMemory other = refl
is_memory BadWords other = absurd (other refl)

-- the status of a refusal
pub either_refusal : (refusal : Refusal) (status : ℕ) → (refusal ≡ NoMemory → status ≡ 1) → (refusal ≡ BadWords → status ≡ 2) → (status ≡ 1) ⊎ (status ≡ 2)
either_refusal NoMemory status memory bad = inl (memory refl)
either_refusal BadWords status memory bad = inr (bad refl)

module _ {I S E F P D From To L LI LS DI DS : Type 0} (t : DevicesWords I S E F P D From To L LI LS DI DS) (status : ℕ) (old new : Devices I S E F P D) (count : ℕ) (Say : List Sight → List Verdict → Type 0) where
  -- what was done by a command was done by its equal
  pub command_as : (other asked : Option PlainCommand) → other ≡ asked → CommandEnds t status old new count Say asked → CommandEnds t status old new count Say other
  command_as other asked e h = subst (λ (o : Option PlainCommand). CommandEnds t status old new count Say o) (sym e) h

  pub embed_asked : (asked : Option PlainCommand) (outbox : ℕ) → asked ≡ Some (embeds outbox) → CommandEnds t status old new count Say asked → EmbedEnds t status old new outbox
  embed_asked asked outbox e h = subst (λ (o : Option PlainCommand). CommandEnds t status old new count Say o) e h

module _ {I S E F P D From To L LI LS DI DS : Type 0} (t : DevicesWords I S E F P D From To L LI LS DI DS) (status : ℕ) (old : Devices I S E F P D) (errors : E) (count : ℕ) (Say : List Sight → List Verdict → Type 0) where
  -- memory was wanting before a command was begun, whichever it was
  pub none_done : (asked : Option PlainCommand) → status ≡ 1 → Tells (line_of ended.NoMemory) (t.errors old.errors) (t.errors errors) → old.kept.entries ≡ [] → CommandEnds t status old (record old { errors = errors }) count Say asked
  none_done None one line none = tt
  none_done (Some (embeds outbox)) one line none = record {
    ended = ended.NoMemory;
    status_is = one;
    line = line;
    pieces = [];
    gave = each_none (t.input old.input);
    ends = ends_before (usual_start outbox) (t.input old.input).left (t.output old.output).taken old.kept.entries none;
    read = λ e. cc (e);
    write = λ e. cc (e);
    others = (refl, refl, refl);
  }
  none_done (Some (serves address sessions outbox book)) one line none = record {
    ended = server.NoMemory;
    status_is = one;
    line = line;
    lanes = none_began t.lanes (usual_start outbox) sessions old.kept.entries _ _ _ none refl;
    book_is = if_book book _ _ (refl, (λ e. cc (e))) (inr (record { why = inl refl; same = refl; none = ap plain_entries none }));
    sources = refl;
    lent = refl;
    others = (refl, refl, refl);
  }
  none_done (Some (replays name check)) one line none = record {
    ended = replay.NoMemory;
    status_is = one;
    line = line;
    file = inr (record { why = inl refl; same = refl; none = (refl, refl) });
    write = λ e. cc (e);
    sinks = refl;
    others = (refl, refl, refl);
  }
  none_done (Some (generates number)) one line none = record {
    ended = write.NoMemory;
    status_is = one;
    line = line;
    ends = book_unwritten (usual_start 4096) _ (t.output old.output).taken;
    write = λ e. cc (e);
    kept = refl;
    others = (refl, refl, refl, refl);
  }
  none_done (Some (follows_buffer address buffer)) one line none = record {
    ended = follow.NoMemory;
    status_is = one;
    line = line;
    leaves = (refl, refl);
    write = λ e. cc (e);
    kept = refl;
    others = (refl, refl, refl);
  }
  none_done (Some (shows notice)) one line none = record {
    ended = write.NoMemory;
    status_is = one;
    line = line;
    text = refl;
    write = λ e. cc (e);
    kept = refl;
    others = (refl, refl, refl, refl);
  }

pub embed_is_taken : AreWords (codes "embed" ∷ [])
unfolding clap_on_literals
embed_is_taken = inl refl

pub embed_is_asked : command_asked (codes "embed" ∷ []) ≡ Some (embeds 4096)
unfolding clap_on_literals
embed_is_asked = refl
