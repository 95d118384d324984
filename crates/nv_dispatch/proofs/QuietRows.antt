-- The rows that leave all texts and changes, and whose calls tell nothing.
use Rattle.std.proofs.Common.{◌≡◌, refl, subst, ℕ, Bool, true, false, ◌&&◌, List, [], ◌∷◌}
use Rattle.std.specs.List.{AllByRecursion, list_all}
use Rattle.std.proofs.lemmas.Bool.{false≢true}
use Rattle.nv_value.specs.Content.{Tree}
use Rattle.nv_args.specs.Reading.{Arg}
use Rattle.nv_model.specs.Seen.{Seen}
use Rattle.nv_model.specs.Operations.{Operation, spliced, spliced_back, stepped, buffer_made, buffer_dropped}
use Rattle.nv_model.specs.Answers.{Answer, refused, replied}
use Rattle.nv_model.specs.Rows.{Row}
use Rattle.nv_model.specs.Kinds.{OperationKind, splices, undoes_changes, makes_buffers, drops_buffers, FactKind, Effects, IsKindAmong, MakesOnly, HasEffects, kind_of_operation, kind_of_fact}
use Rattle.nv_model.proofs.Making.{by_kinds, none_told}
use Rattle.nv_dispatch.proofs.Kept.{LeavesTexts, AllLeaveTexts}

-- an answer that leaves all texts and changes, and tells nothing
unfoldable pub IsQuiet : Answer → Type 0
IsQuiet (refused fault) = Unit {0}
IsQuiet (replied t operations facts) = AllLeaveTexts operations × (facts ≡ [])

abbrev pub QuietRow : Row → Type 0
QuietRow row = (s : Seen) (session : ℕ) (args : List Arg) → IsQuiet (row s session args)

pub quiet_done : (t : Tree) (operations : List Operation) → AllLeaveTexts operations → IsQuiet (replied t operations [])
unfolding IsQuiet
quiet_done t operations leave = (leave, refl)

-- ---- by kinds
abbrev pub leaves_texts : OperationKind → Bool
leaves_texts splices = false
leaves_texts undoes_changes = false
leaves_texts makes_buffers = false
leaves_texts drops_buffers = false
leaves_texts _ = true

pub leave_texts : (c : Operation) → leaves_texts (kind_of_operation c) ≡ true → LeavesTexts c
leave_texts (spliced n s) e = absurd (false≢true e)
leave_texts (spliced_back n s) e = absurd (false≢true e)
leave_texts (stepped n leg) e = absurd (false≢true e)
leave_texts (buffer_made listed) e = absurd (false≢true e)
leave_texts (buffer_dropped n) e = absurd (false≢true e)
leave_texts c e = tt

abbrev tells_nothing : List FactKind → Bool
tells_nothing [] = true
tells_nothing (f ∷ fs) = false

abbrev pub is_quiet : Effects → Bool
is_quiet e = list_all leaves_texts e.makes && tells_nothing e.tells

quiet_answer : (e : Effects) (leave : Bool) (tells : List FactKind) (a : Answer) → list_all leaves_texts e.makes ≡ leave → e.tells ≡ tells → (leave && tells_nothing tells) ≡ true
    → MakesOnly e a → IsQuiet a
unfolding MakesOnly IsQuiet
quiet_answer e leave tells (refused f) all none quiet h = tt
quiet_answer e true [] (replied t operations facts) all none quiet h = (
  by_kinds kind_of_operation leaves_texts LeavesTexts leave_texts e.makes all operations h.0,
  none_told facts (subst (λ (ks : List FactKind). AllByRecursion (λ f. IsKindAmong (kind_of_fact f) ks) facts) none h.1),
)
quiet_answer e true (k ∷ ks) (replied t operations facts) all none quiet h = absurd (false≢true quiet)
quiet_answer e false tells (replied t operations facts) all none quiet h = absurd (false≢true quiet)

pub quiet_row : (e : Effects) (row : Row) → is_quiet e ≡ true → HasEffects e row → QuietRow row
quiet_row e row quiet h s session args =
    quiet_answer e (list_all leaves_texts e.makes) e.tells (row s session args) refl refl quiet (h s session args)
