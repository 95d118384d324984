-- A file that is lent for a while, and histories without entries.
use Rattle.std.proofs.Common.{◌≡◌, ℕ, ◌+◌, List, [], Option, Some, None, refl, sym, ◌∙◌, subst, ap, arith, rules}
use Rattle.std.specs.Prelude.{IfSome, IsSome, option_map}
use Rattle.nv_io.specs.Known.{IsOut, out_after}
use Rattle.nv_history.specs.Events.{Entry}
use Rattle.nv_core.specs.declared.entry.Entry as world
use Rattle.nv_core.specs.declared.start.Start.{Start}
use Rattle.nv_core.specs.Contents.{plain_entries}
use Rattle.nv_session.specs.Sending.{world_after}
use Rattle.nv_words.specs.Commands.{PlainCommand, embeds, serves, replays, generates, follows_buffer, shows}
use Rattle.nv_run.specs.Commands.{RunsAs, usual_start}
use Rattle.nv_run.specs.Serving.{IfBook}
use Rattle.nv_run.proofs.Servers.{lent_back}

-- where one was given, one is out
pub out_one : (first now : Option ℕ) → now ≡ option_map (λ n. n + 1) first → IsOut now
out_one None now e = subst IsOut (sym e) tt
out_one (Some n) now e = subst IsOut (sym e) (omega arith)

pub given_out : {A : Type 0} (given : Option A) (item : A) (first now : Option ℕ) → given ≡ Some item → now ≡ out_after given first → IsOut now
given_out {A} given item first now is e = out_one first now (e ∙ ap (λ (o : Option A). out_after o first) is)

-- and where it went back, as many are out as before
pub one_lent : (first now last : Option ℕ) → now ≡ option_map (λ n. n + 1) first → now ≡ option_map (λ n. n + 1) last → last ≡ first
one_lent first now last e f = lent_back first now last 1 e f

-- what holds where no book was asked for, and where one was
pub if_book : (book : Option (List ℕ)) (A B : Type 0) → A → B → IfBook book A B
if_book None A B a b = a
if_book (Some name) A B a b = b

-- nothing was kept
nothing_runs : (start : Start) → IsSome (world_after start [])
nothing_runs start = search rules

pub kept_runs : (outbox : ℕ) (kept : List Entry) → kept ≡ [] → IsSome (world_after (usual_start outbox) kept)
kept_runs outbox kept e = subst (λ (l : List Entry). IsSome (world_after (usual_start outbox) l)) (sym e) (nothing_runs (usual_start outbox))

runs_as : (asked : Option PlainCommand) (kept : List Entry) → kept ≡ [] → RunsAs asked kept
runs_as None kept e = kept_runs 4096 kept e
runs_as (Some (embeds outbox)) kept e = kept_runs outbox kept e
runs_as (Some (serves address sessions outbox book)) kept e = kept_runs outbox kept e
runs_as (Some (replays name check)) kept e = (4096, kept_runs 4096 kept e)
runs_as (Some (generates number)) kept e = kept_runs 4096 kept e
runs_as (Some (follows_buffer address buffer)) kept e = kept_runs 4096 kept e
runs_as (Some (shows notice)) kept e = kept_runs 4096 kept e

pub none_runs : (asked : Option PlainCommand) (kept : List world.Entry) → kept ≡ [] → RunsAs asked (plain_entries kept)
none_runs asked kept none = runs_as asked (plain_entries kept) (ap plain_entries none)

-- a file may be asked for by the name that a server's book has
pub may_book : {A : Type 0} (text : A → List ℕ) (book : Option A) (may : List ℕ → Type 0) → ((name : List ℕ) → option_map text book ≡ Some name → may name) → IfSome book (λ name. may (text name))
may_book text None may each = tt
may_book text (Some name) may each = each (text name) refl
