-- What is sent in the worked example, and what it lists.
use Rattle.std.proofs.Common.{◌≡◌, ℕ, pos, List, [], ◌∷◌, ◌++◌, append-nil, refl, sym, ap, subst, ◌∙◌, lit<, arith, true, Option, Some, None}
use Rattle.std.specs.Fmt.{digits}
use Rattle.std.specs.List.{AllByRecursion}
use Rattle.std.specs.Prelude.{is_some, codes}
use Rattle.std.proofs.lemmas.Option.{none-some}
use Rattle.nv_value.specs.Content.{truth}
use Rattle.nv_rpc.specs.Messages.{reply}
use Rattle.nv_model.specs.Buffers.{text_of, state_behind, marks_of}
use Rattle.nv_model.specs.Editors.{ModelEditor}
use Rattle.nv_dispatch.specs.Calls.{row_of}
use Rattle.nv_dispatch.specs.Runs.{usual_limits}
use Rattle.nv_linegrid.specs.Told.{Told, nothing_told}
use Rattle.nv_history.specs.Examples.{told_lines, told_all_lines}
use Rattle.nv_history.specs.Runs.{TakenBatch, run, out, all_messages}
use Rattle.nv_history.specs.Spoken.{bytes_of_messages, ShowsIfGiven, AreSpoken, AreBytesOf}
use Rattle.nv_history.specs.Worlds.{World}
use Rattle.nv_mirror.specs.Listings.{listing}
use Rattle.nv_mirror_laws.specs.Laws.{AreTyped}
use Rattle.nv_mirror_laws.specs.Worked.{followed_story, StoryIsFollowed}
use Rattle.nv_mirror_laws.proofs.Bounds.{IsBare}

-- the bytes of batches without an editor
abbrev batch_bytes : List TakenBatch → List ℕ
batch_bytes [] = []
batch_bytes (b ∷ bs) = bytes_of_messages b.messages ++ batch_bytes bs

shows_none : (m : Option ModelEditor) → m ≡ None → ShowsIfGiven m None
shows_none None e = tt
shows_none (Some m) e = absurd (none-some m (sym e))

bare_spoken : (told : Told) (bs : List TakenBatch) → AllByRecursion IsBare bs → AreSpoken told bs (batch_bytes bs) [] told
bare_spoken told [] bare = (refl, refl, refl)
bare_spoken told (b ∷ bs) bare = record {
  between = told;
  first_bytes = bytes_of_messages b.messages;
  other_bytes = batch_bytes bs;
  first_events = [];
  other_events = [];
  first = record {
    scene = None;
    shows = shows_none b.editor bare.0;
    bytes_are = sym (append-nil (bytes_of_messages b.messages));
    events_are = refl;
    later_is = refl;
  };
  rest = bare_spoken told bs bare.1;
  bytes_are = refl;
  events_are = refl;
}

-- the story
abbrev first_batch : TakenBatch
first_batch = record { messages = told_all_lines 2 ([] ∷ []) ∷ reply 1 None (truth true) ∷ []; editor = None }

abbrev second_batch : TakenBatch
second_batch = record { messages = told_lines 3 0 1 (codes "a" ∷ codes "b" ∷ []) ∷ []; editor = None }

runs : is_some (run 4096 usual_limits followed_story) ≡ true
unfolding text_of state_behind marks_of row_of
runs = refl

gives : out 4096 usual_limits 2 followed_story ≡ first_batch ∷ second_batch ∷ []
unfolding text_of state_behind marks_of row_of
gives = refl

some_world : (o : Option World) → is_some o ≡ true → (w : World) × (o ≡ Some w)
some_world None e = cc
some_world (Some w) e = (w, refl)

-- its limits
typed : AreTyped usual_limits
typed = record { lines = lit< tt; line_bytes = lit< tt; ticks = record { sfits = omega arith } }

bare : AllByRecursion IsBare (first_batch ∷ second_batch ∷ [])
bare = (refl, (refl, tt))

lists : listing (pos 1) (all_messages (first_batch ∷ second_batch ∷ [])) ≡ codes "tick 2 lines 1\n\ntick 3 lines 2\na\nb\n"
unfolding digits
lists = refl

pub story_is_followed : StoryIsFollowed
unfolding StoryIsFollowed
story_is_followed =
    let world = some_world (run 4096 usual_limits followed_story) runs in
    let batches : List TakenBatch = first_batch ∷ second_batch ∷ [] in (
      world.0,
      batch_bytes batches,
      record {
        runs = world.1;
        some = omega arith;
        most = omega arith;
        only = refl;
        typed = typed;
        bytes = subst (λ (bs : List TakenBatch). AreBytesOf bs (batch_bytes batches)) (sym gives) ([], nothing_told, bare_spoken nothing_told batches bare);
      },
      ap (λ (bs : List TakenBatch). listing (pos 1) (all_messages bs)) gives ∙ lists,
    )
