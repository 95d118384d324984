-- A call that isn't seen changes nothing that is shown.
use Rattle.std.proofs.Common.{◌≡◌, refl, sym, subst, ℕ, ℤ, Bool, true, false, List, [], ◌∷◌, ◌++◌, map, Option, Some, None}
use Rattle.std.specs.Prelude.{◌||◌, IfSome}
use Rattle.nv_args.specs.Arguments.{tree_list}
use Rattle.nv_args.specs.Table.{Signature, method_named}
use Rattle.nv_model.specs.Editors.{ModelEditor, handles_of}
use Rattle.nv_model.specs.Seen.{seen_of}
use Rattle.nv_model.specs.Operations.{Operation, sealed_in, after_operation, after_operations}
use Rattle.nv_model.specs.Answers.{Answer, Fact, refused, replied}
use Rattle.nv_model.specs.Rows.{Row}
use Rattle.nv_model.proofs.Gone.{all-append}
use Rattle.nv_dispatch.specs.Calls.{editor_after, row_of}
use Rattle.nv_dispatch.proofs.ByCalls.{OfAnswer, OfRow, HoldsByCalls, call_holds}
use Rattle.nv_dispatch.proofs.RowsMake.{if_some}
use Rattle.nv_rpc.specs.Calls.{Call, request, notice}
use Rattle.nv_history.specs.Worlds.{outcome_of_frame}
use Rattle.nv_history.proofs.UisStand.{AreStanding}
use Rattle.nv_history.proofs.LooksOn.{LooksOn, looks_same, looks_then, looks_sealed}
use Rattle.nv_history.proofs.CalmRows.{IsCalm, CalmRow, rows_calm, unseen_calm}

-- operations one after another
looks_both : (m : ModelEditor) (cs ds : List Operation) → LooksOn m (after_operations cs m) → LooksOn (after_operations cs m) (after_operations ds (after_operations cs m))
    → LooksOn m (after_operations (cs ++ ds) m)
looks_both m cs ds first more =
    subst (λ (e : ModelEditor). LooksOn m e) (sym (all-append cs ds m))
    (looks_then m (after_operations cs m) (after_operations ds (after_operations cs m)) first more)

abbrev Stands : ModelEditor → Type 0
Stands m = AreStanding m.stage

abbrev LooksUnseen : ModelEditor → List Operation → List Fact → Bool → Type 0
LooksUnseen m operations facts is_seen = is_seen ≡ false → LooksOn m (after_operations operations m)

-- a row that is calm, where its method isn't seen
answer_looks : (m : ModelEditor) (is_seen : Bool) (a : Answer) → IsCalm m a → OfAnswer LooksUnseen m is_seen a
unfolding IsCalm
answer_looks m is_seen (refused f) h = tt
answer_looks m is_seen (replied t cs fs) h = λ unseen. h

row_looks : (is_seen : Bool) (row : Row) → CalmRow row → OfRow Stands LooksUnseen is_seen row
row_looks is_seen row h m stands session args = answer_looks m is_seen (row (seen_of m) session args) (h m stands session args)

-- nothing is said of one that is seen
seen_answer : (m : ModelEditor) (a : Answer) → OfAnswer LooksUnseen m true a
seen_answer m (refused f) = tt
seen_answer m (replied t cs fs) = λ unseen. absurd (let e : true ≡ false = unseen in cc)

seen_row : (row : Option Row) → IfSome row (OfRow Stands LooksUnseen true)
seen_row None = tt
seen_row (Some row) = λ m stands session args. seen_answer m (row (seen_of m) session args)

rows_look : (name : List ℕ) (s : Signature) → method_named name ≡ Some s → IfSome (row_of s.method) (OfRow Stands LooksUnseen s.is_seen)
rows_look name s is = by s.is_seen refl
  where
    by : (b : Bool) → s.is_seen ≡ b → IfSome (row_of s.method) (OfRow Stands LooksUnseen b)
    by true e = seen_row (row_of s.method)
    by false e = if_some CalmRow (OfRow Stands LooksUnseen false) (row_looks false) (row_of s.method) (rows_calm s.method (unseen_calm name s is e))

neither : (a b : Bool) → (a || b) ≡ false → (a ≡ false) × (b ≡ false)
neither true b e = absurd (let c : true ≡ false = e in cc)
neither false b e = (refl, e)

both_look : (m : ModelEditor) (cs ds : List Operation) (a b : Bool) → (a ≡ false → LooksOn m (after_operations cs m))
    → (AreStanding (after_operations cs m).stage → b ≡ false → LooksOn (after_operations cs m) (after_operations ds (after_operations cs m)))
    → (a || b) ≡ false → LooksOn m (after_operations (cs ++ ds) m)
both_look m cs ds a b first more e =
    let parts = neither a b e in
    let looks = first parts.0 in
    looks_both m cs ds looks (more looks.stands parts.1)

seals_look : (handles : List ℤ) (m : ModelEditor) → AreStanding m.stage → LooksOn m (after_operations (map sealed_in handles) m)
seals_look [] m stands = looks_same m stands
seals_look (n ∷ ns) m stands =
    let first = looks_sealed m n stands in
    looks_then m (after_operation (sealed_in n) m) (after_operations (map sealed_in ns) (after_operation (sealed_in n) m)) first
    (seals_look ns (after_operation (sealed_in n) m) first.stands)

calls_look : HoldsByCalls Stands LooksUnseen
calls_look = record {
  none = λ m is_seen stands unseen. looks_same m stands;
  both = λ m cs ds fs gs a b stands first more. both_look m cs ds a b first more;
  rows = rows_look;
  seals = λ m stands unseen. seals_look (handles_of m.buffers) m stands;
}

-- a call of a session
pub frame_calm : (m : ModelEditor) → AreStanding m.stage → (s : ℕ) (call : Call) → (outcome_of_frame m s call).is_seen ≡ false → LooksOn m (editor_after m (outcome_of_frame m s call))
frame_calm m stands s (request msgid name args) = call_holds Stands LooksUnseen calls_look m stands s name (tree_list args)
frame_calm m stands s (notice name args) = call_holds Stands LooksUnseen calls_look m stands s name (tree_list args)
