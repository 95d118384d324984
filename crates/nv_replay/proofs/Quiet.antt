-- Calls of most methods splice no text, and neither does an entry that is no call.
use Rattle.std.proofs.Common.{◌≡◌, refl, ap, sym, ◌∙◌, subst, ℕ, ℤ, Bool, true, false, cond, true≢false, List, [], ◌∷◌, ◌++◌, map, Option, Some, None, Result, Ok, Err}
use Rattle.std.specs.Prelude.{◌||◌, bytes_eq, codes, IfSome}
use Rattle.std.specs.List.{list_all}
use Rattle.nv_value.specs.Content.{Tree}
use Rattle.nv_value.specs.declared.fault.ApiFault.{ApiFault}
use Rattle.nv_rpc.specs.Calls.{request, notice}
use Rattle.nv_args.specs.Arguments.{tree_list}
use Rattle.nv_args.specs.Reading.{Arg}
use Rattle.nv_args.specs.Table.{Signature, method_named, other_names, table}
use Rattle.nv_args.proofs.NameLookup.{named_passes, named_same}
use Rattle.nv_model.specs.Answers.{Answer, refused, replied}
use Rattle.nv_model.specs.Editors.{ModelEditor, handles_of}
use Rattle.nv_model.specs.Kinds.{Effects, MakesOnly, HasEffects, kind_of_operation}
use Rattle.nv_model.specs.Operations.{Operation, sealed_in, spliced, spliced_back}
use Rattle.nv_model.specs.Rows.{Row}
use Rattle.nv_model.specs.Seen.{Seen, seen_of}
use Rattle.nv_model.proofs.Making.{by_kinds}
use Rattle.nv_dispatch.specs.Calls.{CallOutcome, answer_by_row, answer_to_args, arguments_for, atomic_name, editor_after, nvim_call_atomic, outcome_before_seal, outcome_of_answer, outcome_of_call, outcome_of_found, outcome_of_name, outcome_with_seal, row_of}
use Rattle.nv_dispatch.specs.Effects.{RowsHaveEffects, effects_of}
use Rattle.nv_dispatch.proofs.Kept.{AllLeaveTexts, LeavesTexts, all_leave-append}
use Rattle.nv_dispatch.proofs.QuietRows.{leave_texts, leaves_texts}
use Rattle.nv_dispatch.proofs.RowsMake.{rows_make}
use Rattle.nv_history.specs.Events.{Event, open_session, request_of, take_of, close_of}
use Rattle.nv_history.specs.Worlds.{World}
use Rattle.nv_world.specs.Steps.{splice_by, splices_by, splices_of_event}
use Rattle.nv_world.specs.declared.step.Moved.{Moved}
use Rattle.nv_replay.specs.inside.Quiet.{is_of_buffers, is_of_texts, may_splice, may_splice_by}

-- ---- operations that leave texts make no splice
no_splice : (c : Operation) → LeavesTexts c → splice_by c ≡ []
no_splice (spliced n s) leaves = absurd leaves
no_splice (spliced_back n s) leaves = absurd leaves
no_splice c leaves = refl

no_splices : (cs : List Operation) → AllLeaveTexts cs → splices_by cs ≡ []
no_splices [] leave = refl
no_splices (c ∷ cs) leave = ap (λ (l : List Moved). l ++ splices_by cs) (no_splice c leave.0) ∙ no_splices cs leave.1

-- ---- each method may splice, or is of kinds that leave all texts
abbrev splices_or_leaves : Signature → Bool
splices_or_leaves s = may_splice_by s.name || list_all leaves_texts (effects_of s.method).makes

each_told : list_all splices_or_leaves table ≡ true
each_told = refl

each_other : list_all splices_or_leaves other_names ≡ true
each_other = refl

right_true : (a b : Bool) → (a || b) ≡ true → a ≡ false → b ≡ true
right_true true b e apart = absurd (true≢false apart)
right_true false b e apart = e

leaves_by : (name : List ℕ) (s : Signature) → method_named name ≡ Some s → may_splice_by name ≡ false
    → list_all leaves_texts (effects_of s.method).makes ≡ true
leaves_by name s is quiet =
    right_true (may_splice_by s.name) (list_all leaves_texts (effects_of s.method).makes) (named_passes splices_or_leaves name s each_told each_other is)
    (ap may_splice_by (sym (named_same name s is)) ∙ quiet)

-- ---- a call by a row that leaves texts
answer_leaves : (e : Effects) (is_seen : Bool) (a : Answer) → list_all leaves_texts e.makes ≡ true → MakesOnly e a
    → AllLeaveTexts (outcome_of_answer is_seen a).operations
unfolding MakesOnly
answer_leaves e is_seen (refused fault) leave h = tt
answer_leaves e is_seen (replied t operations facts) leave h =
    by_kinds kind_of_operation leaves_texts LeavesTexts leave_texts e.makes leave operations h.0

args_leave : (e : Effects) (s : Seen) (session : ℕ) (row : Row) (is_seen : Bool) (args : Result (List Arg) ApiFault) → list_all leaves_texts e.makes ≡ true
    → HasEffects e row → AllLeaveTexts (outcome_of_answer is_seen (answer_to_args s session row args)).operations
args_leave e s session row is_seen (Ok args) leave h = answer_leaves e is_seen (row s session args) leave (h s session args)
args_leave e s session row is_seen (Err fault) leave h = tt

row_leaves : (e : Effects) (s : Seen) (session : ℕ) (signature : Signature) (given : List Tree) (row : Option Row) → list_all leaves_texts e.makes ≡ true
    → IfSome row (HasEffects e) → AllLeaveTexts (outcome_of_answer signature.is_seen (answer_by_row s session signature given row)).operations
row_leaves e s session signature given (Some row) leave h =
    args_leave e s session row signature.is_seen (arguments_for signature.method signature given) leave h
row_leaves e s session signature given None leave h = tt

found_leaves : (m : ModelEditor) (session : ℕ) (name : List ℕ) (given : List Tree) (found : Option Signature) → method_named name ≡ found
    → may_splice_by name ≡ false → AllLeaveTexts (outcome_of_found m session name found given).operations
unfolding RowsHaveEffects
found_leaves m session name given (Some s) is quiet =
    row_leaves (effects_of s.method) (seen_of m) session s given (row_of s.method) (leaves_by name s is quiet) (rows_make s.method)
found_leaves m session name given None is quiet = tt

seals_leave : (handles : List ℤ) → AllLeaveTexts (map sealed_in handles)
seals_leave [] = tt
seals_leave (n ∷ ns) = (tt, seals_leave ns)

whole_leaves : (m : ModelEditor) (o : CallOutcome) (r : Result Tree ApiFault) → AllLeaveTexts o.operations → AllLeaveTexts (outcome_with_seal m o r).operations
whole_leaves m o (Ok t) leave =
    all_leave-append o.operations (map sealed_in (handles_of (editor_after m o).buffers)) leave (seals_leave (handles_of (editor_after m o).buffers))
whole_leaves m o (Err fault) leave = leave

left_false : (a b : Bool) → (a || b) ≡ false → a ≡ false
left_false true b e = absurd (true≢false e)
left_false false b e = refl

right_false : (a b : Bool) → (a || b) ≡ false → b ≡ false
right_false true b e = absurd (true≢false e)
right_false false b e = e

-- it isn't the call of calls
one_alone : (name : List ℕ) → may_splice_by name ≡ false → bytes_eq name atomic_name ≡ false
one_alone name quiet =
    let texts : is_of_texts name ≡ false = left_false (is_of_texts name) (is_of_buffers name) quiet in
    let others : (bytes_eq name (codes "nvim_buf_set_text") || (bytes_eq name (codes "nvim_command") || bytes_eq name atomic_name)) ≡ false =
    right_false (bytes_eq name (codes "nvim_buf_set_lines")) (bytes_eq name (codes "nvim_buf_set_text") || (bytes_eq name (codes "nvim_command") || bytes_eq name atomic_name)) texts in
    right_false (bytes_eq name (codes "nvim_command")) (bytes_eq name atomic_name)
    (right_false (bytes_eq name (codes "nvim_buf_set_text")) (bytes_eq name (codes "nvim_command") || bytes_eq name atomic_name) others)

call_leaves : (m : ModelEditor) (session : ℕ) (name : List ℕ) (given : List Tree) → may_splice_by name ≡ false
    → AllLeaveTexts (outcome_of_call m session name given).operations
call_leaves m session name given quiet =
    let one : CallOutcome = outcome_of_name m session name given in
    let is : outcome_before_seal m session name given ≡ one =
    ap (λ (b : Bool). cond b (nvim_call_atomic m session given (method_named name)) one) (one_alone name quiet) in
    subst (λ (o : CallOutcome). AllLeaveTexts (outcome_with_seal m o o.result).operations) (sym is)
    (whole_leaves m one one.result (found_leaves m session name given (method_named name) refl quiet))

-- ---- an event that doesn't splice
pub quiet_event : (w : World) (event : Event) → may_splice event ≡ false → splices_of_event w event ≡ []
quiet_event w open_session quiet = refl
quiet_event w (request_of s (request id name args)) quiet =
    no_splices (outcome_of_call w.editor s name (tree_list args)).operations (call_leaves w.editor s name (tree_list args) quiet)
quiet_event w (request_of s (notice name args)) quiet =
    no_splices (outcome_of_call w.editor s name (tree_list args)).operations (call_leaves w.editor s name (tree_list args) quiet)
quiet_event w (take_of s) quiet = refl
quiet_event w (close_of s) quiet = refl
