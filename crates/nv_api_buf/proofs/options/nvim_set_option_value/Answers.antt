use Rattle.std.proofs.Common.{◌≡◌, ℕ, ℤ, List, [], ◌∷◌, ap, sym, ◌∙◌, refl, Option, Some, None}
use Rattle.std.proofs.lemmas.Result.{err_from_is_err_and}
use Rattle.nv_value.specs.Content.{Tree, nil}
use Rattle.nv_value.specs.View.{content}
use Rattle.nv_args.specs.Args.{typed_arguments}
use Rattle.nv_args.specs.Arguments.{last_pairs}
use Rattle.nv_args.specs.Reading.{Arg, pairs_at, string_at}
use Rattle.nv_model.specs.Answers.{Answer, replied}
use Rattle.nv_model.specs.Answering.{fault_or}
use Rattle.nv_model.specs.Seen.{SeenBuffer}
use Rattle.nv_model.specs.Standing.{seen_now}
use Rattle.nv_api_buf.proofs.Deciding.{refused_by, gives_refused, gives_quiet, finds_none, finds_fault}
use Rattle.std.proofs.lemmas.Option.{none-some}
use Rattle.std.specs.Prelude.{option_map, option_and_then, is_none, if◌then◌else◌}
use Rattle.nv_args.specs.Faults.{invalid_value, unknown_name}
use Rattle.nv_args.specs.Maps.{unknown_key, wrong_value}
use Rattle.nv_args.specs.Reading.{object_at}
use Rattle.nv_model.specs.Answers.{on_buffer, refused, or_refused}
use Rattle.nv_model.specs.Operations.{Operation}
use Rattle.nv_api_buf.specs.OptionRows.{BufferOption, option_keys, option_buffer, option_named, value_fault}
use Rattle.nv_api_buf.specs.inside.Optioning.{puts_keyed, puts_answer}
use Rattle.nv_api_buf.specs.inside.Settings.{option_of, operation_of}
use Rattle.nv_api_buf.specs.declared.options.Put.{Put}
use Rattle.nv_api_buf.proofs.options.nvim_set_option_value.Goals as goal

-- an option that takes the value
put_some : (n : ℤ) (t : Tree) (name : List ℕ) (o : Option BufferOption) (operation : Operation) → option_and_then (λ (p : BufferOption). p.put n t) o ≡ Some operation
    → puts_answer n t name o ≡ replied nil (operation ∷ []) []
put_some n t name None operation is = absurd (none-some operation is)
put_some n t name (Some o) operation is = ap (λ (put : Option Operation). or_refused put (invalid_value o.name) (λ operation. replied nil (operation ∷ []) [])) is

-- no option of the name
put_none : (n : ℤ) (t : Tree) (name : List ℕ) (o : Option BufferOption) → option_and_then (λ (p : BufferOption). p.put n t) o ≡ None → value_fault n t o ≡ None
    → puts_answer n t name o ≡ refused (unknown_name name)
put_none n t name None is fault = refl
put_none n t name (Some o) is fault = absurd (by_put (o.put n t) is fault)
  where
    by_put : (put : Option Operation) → put ≡ None → (if is_none put then Some (invalid_value o.name) else None) ≡ None → ⊥
    by_put None is fault = none-some (invalid_value o.name) (sym fault)
    by_put (Some operation) is fault = none-some operation (sym is)

abbrev next : List Arg → ℤ → SeenBuffer → Answer
next args n b = puts_keyed (last_pairs (pairs_at args 2)) (object_at args 1) (string_at args 0) n

pub returns-in_err-found-clause-row : goal.returns-in_err-found-clause-row
returns-in_err-found-clause-row c session =
    let args = typed_arguments c.args.args.now in
    let e = c.args.editor.now in
    let p = err_from_is_err_and c.from_residual.result c.from_residual.ensures.1 in
    rw (p.1, p.2) (gives_refused _ _ c.in_err-found.field-0.0 e c.args.happened.now
    (ap (λ (ps : List (Tree × Tree)). on_buffer (seen_now e) (option_buffer (last_pairs ps)) (next args)) (sym c.pairs-pairs.ensures))
    (c.in_err-found.ensures.row (next args)))

pub returns-in_err-unknown_key-clause-row : goal.returns-in_err-unknown_key-clause-row
returns-in_err-unknown_key-clause-row c session =
    let args = typed_arguments c.args.args.now in
    let e = c.args.editor.now in
    let n = c.in_ok-found.found.live.handle in
    let t = object_at args 1 in
    let name = string_at args 0 in
    let pairs = last_pairs (pairs_at args 2) in
    let rest2 = fault_or (wrong_value option_keys pairs) (puts_answer n t name (option_named name)) in
    let rest1 = fault_or (value_fault n t (option_named name)) rest2 in
    let p = err_from_is_err_and c.from_residual-in_err-unknown_key.result c.from_residual-in_err-unknown_key.ensures.1 in
    rw (p.1, p.2) (gives_refused _ _ c.in_err-unknown_key.field-0.0 e c.args.happened.now
    (ap (λ (ps : List (Tree × Tree)). on_buffer (seen_now e) (option_buffer (last_pairs ps)) (next args)) (sym c.pairs-pairs.ensures)
    ∙ c.in_ok-found.ensures.row (next args)
    ∙ (λ i. fault_or (unknown_key (sym c.option_rules-rules.ensures i) (last_pairs (sym c.pairs-pairs.ensures i))) rest1))
    (finds_fault (Unit {0}) _ rest1 c.in_err-unknown_key.field-0.0 c.in_err-unknown_key.ensures))

pub returns-in_err-put-clause-row : goal.returns-in_err-put-clause-row
returns-in_err-put-clause-row c session =
    let args = typed_arguments c.args.args.now in
    let e = c.args.editor.now in
    let n = c.in_ok-found.found.live.handle in
    let t = object_at args 1 in
    let name = string_at args 0 in
    let pairs = last_pairs (pairs_at args 2) in
    let opt = option_named name in
    let rest3 = puts_answer n t name opt in
    let rest2 = fault_or (wrong_value option_keys pairs) rest3 in
    let rest1 = fault_or (value_fault n t opt) rest2 in
    let known : opt ≡ option_map option_of c.setting_named.result = ap option_named (sym c.string-name.ensures.bytes) ∙ sym c.setting_named.ensures in
    let given : t ≡ content c.object_given.result.now = sym c.object_given.ensures in
    let p = err_from_is_err_and c.from_residual-in_err-put.result c.from_residual-in_err-put.ensures.1 in
    rw (p.1, p.2) (gives_refused _ _ c.in_err-put.field-0.0 e c.args.happened.now
    (ap (λ (ps : List (Tree × Tree)). on_buffer (seen_now e) (option_buffer (last_pairs ps)) (next args)) (sym c.pairs-pairs.ensures)
    ∙ c.in_ok-found.ensures.row (next args)
    ∙ (λ i. fault_or (unknown_key (sym c.option_rules-rules.ensures i) (last_pairs (sym c.pairs-pairs.ensures i))) rest1)
    ∙ finds_none _ rest1 c.in_ok-unknown_key.ensures
    ∙ (λ i. fault_or (value_fault n (given i) (known i)) rest2))
    (finds_fault (Option Put) _ rest2 c.in_err-put.field-0.0 (c.in_err-put.ensures.row n)))

pub returns-in_err-wrong_value-clause-row : goal.returns-in_err-wrong_value-clause-row
returns-in_err-wrong_value-clause-row c session =
    let args = typed_arguments c.args.args.now in
    let e = c.args.editor.now in
    let n = c.in_ok-found.found.live.handle in
    let t = object_at args 1 in
    let name = string_at args 0 in
    let pairs = last_pairs (pairs_at args 2) in
    let opt = option_named name in
    let rest3 = puts_answer n t name opt in
    let rest2 = fault_or (wrong_value option_keys pairs) rest3 in
    let rest1 = fault_or (value_fault n t opt) rest2 in
    let known : opt ≡ option_map option_of c.setting_named.result = ap option_named (sym c.string-name.ensures.bytes) ∙ sym c.setting_named.ensures in
    let given : t ≡ content c.object_given.result.now = sym c.object_given.ensures in
    let p = err_from_is_err_and c.from_residual-in_err-wrong_value.result c.from_residual-in_err-wrong_value.ensures.1 in
    rw (p.1, p.2) (gives_refused _ _ c.in_err-wrong_value.field-0.0 e c.args.happened.now
    (ap (λ (ps : List (Tree × Tree)). on_buffer (seen_now e) (option_buffer (last_pairs ps)) (next args)) (sym c.pairs-pairs.ensures)
    ∙ c.in_ok-found.ensures.row (next args)
    ∙ (λ i. fault_or (unknown_key (sym c.option_rules-rules.ensures i) (last_pairs (sym c.pairs-pairs.ensures i))) rest1)
    ∙ finds_none _ rest1 c.in_ok-unknown_key.ensures
    ∙ (λ i. fault_or (value_fault n (given i) (known i)) rest2)
    ∙ finds_none _ rest2 (c.in_ok-put.ensures.row n)
    ∙ (λ i. fault_or (wrong_value (sym c.option_rules-rules.ensures i) (last_pairs (sym c.pairs-pairs.ensures i))) rest3))
    (finds_fault (Unit {0}) _ rest3 c.in_err-wrong_value.field-0.0 c.in_err-wrong_value.ensures))

pub returns-in_default-clause-row : goal.returns-in_default-clause-row
returns-in_default-clause-row c session =
    let args = typed_arguments c.args.args.now in
    let e = c.args.editor.now in
    let n = c.in_ok-found.found.live.handle in
    let t = object_at args 1 in
    let name = string_at args 0 in
    let pairs = last_pairs (pairs_at args 2) in
    let opt = option_named name in
    let rest3 = puts_answer n t name opt in
    let rest2 = fault_or (wrong_value option_keys pairs) rest3 in
    let rest1 = fault_or (value_fault n t opt) rest2 in
    let known : opt ≡ option_map option_of c.setting_named.result = ap option_named (sym c.string-name.ensures.bytes) ∙ sym c.setting_named.ensures in
    let given : t ≡ content c.object_given.result.now = sym c.object_given.ensures in
    let put = c.in_ok-put.ensures.put n in
    let none : option_and_then (λ (o : BufferOption). o.put n (content c.object_given.result.now)) (option_map option_of c.setting_named.result) ≡ None =
    sym put ∙ ap (option_map (operation_of n)) c.in_default.is in
    gives_refused _ _ c.unknown_name.result e c.args.happened.now
    (ap (λ (ps : List (Tree × Tree)). on_buffer (seen_now e) (option_buffer (last_pairs ps)) (next args)) (sym c.pairs-pairs.ensures)
    ∙ c.in_ok-found.ensures.row (next args)
    ∙ (λ i. fault_or (unknown_key (sym c.option_rules-rules.ensures i) (last_pairs (sym c.pairs-pairs.ensures i))) rest1)
    ∙ finds_none _ rest1 c.in_ok-unknown_key.ensures
    ∙ (λ i. fault_or (value_fault n (given i) (known i)) rest2)
    ∙ finds_none _ rest2 (c.in_ok-put.ensures.row n)
    ∙ (λ i. fault_or (wrong_value (sym c.option_rules-rules.ensures i) (last_pairs (sym c.pairs-pairs.ensures i))) rest3)
    ∙ finds_none _ rest3 c.in_ok-wrong_value.ensures
    ∙ (λ i. puts_answer n (given i) name (known i))
    ∙ put_none n (content c.object_given.result.now) name (option_map option_of c.setting_named.result) none (c.in_ok-put.ensures.row n))
    (refused_by (refused (unknown_name name)) c.unknown_name.result (unknown_name c.string-name.result.now) c.unknown_name.ensures
    (ap (λ (x : List ℕ). refused (unknown_name x)) (sym c.string-name.ensures.bytes)))

pub returns-clause-row : goal.returns-clause-row
returns-clause-row c session =
    let args = typed_arguments c.args.args.now in
    let e = c.args.editor.now in
    let n = c.in_ok-found.found.live.handle in
    let t = object_at args 1 in
    let name = string_at args 0 in
    let pairs = last_pairs (pairs_at args 2) in
    let opt = option_named name in
    let rest3 = puts_answer n t name opt in
    let rest2 = fault_or (wrong_value option_keys pairs) rest3 in
    let rest1 = fault_or (value_fault n t opt) rest2 in
    let known : opt ≡ option_map option_of c.setting_named.result = ap option_named (sym c.string-name.ensures.bytes) ∙ sym c.setting_named.ensures in
    let given : t ≡ content c.object_given.result.now = sym c.object_given.ensures in
    let put = c.in_ok-put.ensures.put n in
    let some : option_and_then (λ (o : BufferOption). o.put n (content c.object_given.result.now)) (option_map option_of c.setting_named.result) ≡ Some (operation_of n c.in-Some.put) =
    sym put ∙ ap (option_map (operation_of n)) c.in-Some.is in
    gives_quiet _ _ e c.put_option.new.editor c.args.happened.now
    (ap (λ (ps : List (Tree × Tree)). on_buffer (seen_now e) (option_buffer (last_pairs ps)) (next args)) (sym c.pairs-pairs.ensures)
    ∙ c.in_ok-found.ensures.row (next args)
    ∙ (λ i. fault_or (unknown_key (sym c.option_rules-rules.ensures i) (last_pairs (sym c.pairs-pairs.ensures i))) rest1)
    ∙ finds_none _ rest1 c.in_ok-unknown_key.ensures
    ∙ (λ i. fault_or (value_fault n (given i) (known i)) rest2)
    ∙ finds_none _ rest2 (c.in_ok-put.ensures.row n)
    ∙ (λ i. fault_or (wrong_value (sym c.option_rules-rules.ensures i) (last_pairs (sym c.pairs-pairs.ensures i))) rest3)
    ∙ finds_none _ rest3 c.in_ok-wrong_value.ensures
    ∙ (λ i. puts_answer n (given i) name (known i))
    ∙ put_some n (content c.object_given.result.now) name (option_map option_of c.setting_named.result) (operation_of n c.in-Some.put) some)
    c.put_option.ensures
