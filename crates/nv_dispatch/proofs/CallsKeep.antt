-- Each call keeps a sound model editor, and its facts tell what becomes of the buffers.
use Rattle.std.proofs.Common.{◌≡◌, refl, sym, subst, ℕ, ℤ, Bool, List, [], ◌∷◌, ◌++◌, map, Some}
use Rattle.std.specs.Prelude.{IfSome}
use Rattle.nv_args.specs.Table.{Signature, method_named}
use Rattle.nv_model.specs.Editors.{ModelEditor, handles_of}
use Rattle.nv_model.specs.Seen.{seen_of}
use Rattle.nv_model.specs.Operations.{Operation, sealed_in, after_operations}
use Rattle.nv_model.specs.Answers.{Answer, Fact, refused, replied}
use Rattle.nv_model.specs.Rows.{Row}
use Rattle.nv_model.proofs.Gone.{all-append}
use Rattle.nv_dispatch.specs.Calls.{row_of, seal_operations}
use Rattle.nv_dispatch.specs.Laws.{SoundnessIsKept, FactsTellPasts}
use Rattle.nv_dispatch.specs.Telling.{past_at, IsSoundModel}
use Rattle.nv_dispatch.proofs.ByCalls.{OfAnswer, OfRow, HoldsByCalls, call_holds}
use Rattle.nv_dispatch.proofs.Pasts.{tell-append}
use Rattle.nv_dispatch.proofs.Kept.{KeepsPasts, AllLeaveTexts, all_leave_keeps, fresh_editor_sound}
use Rattle.nv_dispatch.proofs.Fitting.{TellsAll}
use Rattle.nv_dispatch.proofs.RowsKeep.{AnswerTells, RowKeeps, rows_keep}
use Rattle.nv_dispatch.proofs.RowsMake.{if_some}

-- facts one after another
tells_same : (m : ModelEditor) → IsSoundModel m → TellsAll m m []
tells_same m sound = record { sound = sound; tell = λ n. refl }

tells_then : (m between later : ModelEditor) (fs gs : List Fact) → TellsAll m between fs → TellsAll between later gs → TellsAll m later (fs ++ gs)
tells_then m between later fs gs first next_tells = record {
  sound = next_tells.sound;
  tell = λ n. tell-append n fs gs (past_at m n) (past_at between n) (past_at later n) (first.tell n) (next_tells.tell n);
}

-- operations one after another, and what they tell
tells_both : (m : ModelEditor) (cs ds : List Operation) (fs gs : List Fact) → TellsAll m (after_operations cs m) fs
    → TellsAll (after_operations cs m) (after_operations ds (after_operations cs m)) gs → TellsAll m (after_operations (cs ++ ds) m) (fs ++ gs)
tells_both m cs ds fs gs first next_tells =
    subst (λ (e : ModelEditor). TellsAll m e (fs ++ gs)) (sym (all-append cs ds m))
    (tells_then m (after_operations cs m) (after_operations ds (after_operations cs m)) fs gs first next_tells)

abbrev Tells : ModelEditor → List Operation → List Fact → Bool → Type 0
Tells m operations facts is_seen = TellsAll m (after_operations operations m) facts

answer_tells : (m : ModelEditor) (is_seen : Bool) (a : Answer) → AnswerTells m a → OfAnswer Tells m is_seen a
unfolding AnswerTells
answer_tells m is_seen (refused f) tells = tt
answer_tells m is_seen (replied t cs fs) tells = tells

row_tells : (is_seen : Bool) (row : Row) → RowKeeps row → OfRow IsSoundModel Tells is_seen row
row_tells is_seen row keeps m sound session args = answer_tells m is_seen (row (seen_of m) session args) (keeps m sound session args)

rows_tell : (name : List ℕ) (s : Signature) → method_named name ≡ Some s → IfSome (row_of s.method) (OfRow IsSoundModel Tells s.is_seen)
rows_tell name s is = if_some RowKeeps (OfRow IsSoundModel Tells s.is_seen) (row_tells s.is_seen) (row_of s.method) (rows_keep s.method)

seals_leave : (handles : List ℤ) → AllLeaveTexts (map sealed_in handles)
seals_leave [] = tt
seals_leave (n ∷ ns) = (tt, seals_leave ns)

seals_tell : (m : ModelEditor) → IsSoundModel m → TellsAll m (after_operations (seal_operations m) m) []
seals_tell m sound =
    let keeps : KeepsPasts m (after_operations (seal_operations m) m) = all_leave_keeps (seal_operations m) (seals_leave (handles_of m.buffers)) m sound in
    record { sound = keeps.sound; tell = keeps.past }

calls_tell : HoldsByCalls IsSoundModel Tells
calls_tell = record {
  none = λ m is_seen sound. tells_same m sound;
  both = λ m cs ds fs gs a b sound first more. tells_both m cs ds fs gs first (more first.sound);
  rows = rows_tell;
  seals = seals_tell;
}

pub soundness_is_kept : SoundnessIsKept
unfolding SoundnessIsKept
soundness_is_kept = (fresh_editor_sound, λ m session name given sound. (call_holds IsSoundModel Tells calls_tell m sound session name given).sound)

pub facts_tell_pasts : FactsTellPasts
unfolding FactsTellPasts
facts_tell_pasts m session name given n sound = (call_holds IsSoundModel Tells calls_tell m sound session name given).tell n
