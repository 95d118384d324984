use Rattle.std.proofs.Common.{◌≡◌, ℤ, Bool, false, List, [], ◌∷◌, ap, sym, ◌∙◌, refl}
use Rattle.std.proofs.lemmas.Result.{err_from_is_err_and}
use Rattle.nv_value.specs.Content.{Tree}
use Rattle.nv_buffer.specs.Content.{Content}
use Rattle.nv_args.specs.Args.{typed_arguments}
use Rattle.nv_args.specs.Arguments.{last_pairs}
use Rattle.nv_args.specs.Dicts.{flag_key, flag_or}
use Rattle.nv_args.specs.Maps.{map_fault}
use Rattle.nv_args.specs.Reading.{pairs_at}
use Rattle.nv_model.specs.Answers.{Answer}
use Rattle.nv_model.specs.Answering.{fault_or}
use Rattle.nv_model.specs.Seen.{Seen, SeenBuffer}
use Rattle.nv_model.specs.Standing.{seen_now, seen_buffer_now}
use Rattle.nv_editor.specs.Sound.{content_at}
use Rattle.nv_api_buf.specs.inside.Deciding.{delete_answer, unless_kept}
use Rattle.nv_editor.proofs.Giving.{gives_on}
use Rattle.nv_api_buf.proofs.Deciding.{gives_refused, finds_none, finds_fault}
use Rattle.std.proofs.Common.{codes}
use Rattle.nv_api_buf.proofs.buffers.nvim_buf_delete.Goals as goal

abbrev forced : List (Tree × Tree) → Bool
forced pairs = flag_or false (codes "force") (last_pairs pairs)

abbrev next : Seen → List (Tree × Tree) → ℤ → SeenBuffer → Answer
next s pairs n b = fault_or (map_fault (flag_key (codes "force") ∷ []) (last_pairs pairs)) (unless_kept s b (forced pairs) (delete_answer s n))

pub returns-in_err-found-clause-row : goal.returns-in_err-found-clause-row
returns-in_err-found-clause-row c session =
    let p = err_from_is_err_and c.from_residual.result c.from_residual.ensures.1 in
    rw (p.1, p.2) (gives_refused _ _ c.in_err-found.field-0.0 c.args.editor.now c.args.happened.now refl
    (c.in_err-found.ensures.row (next (seen_now c.args.editor.now) (pairs_at (typed_arguments c.args.args.now) 1))))

pub returns-in_err-map_fault-clause-row : goal.returns-in_err-map_fault-clause-row
returns-in_err-map_fault-clause-row c session =
    let e = c.args.editor.now in
    let n = c.in_ok-found.found.live.handle in
    let pairs = pairs_at (typed_arguments c.args.args.now) 1 in
    let rest = unless_kept (seen_now e) (seen_buffer_now (content_at e n)) (forced pairs) (delete_answer (seen_now e) n) in
    let p = err_from_is_err_and c.from_residual-in_err-map_fault.result c.from_residual-in_err-map_fault.ensures.1 in
    rw (p.1, p.2) (gives_refused _ _ c.in_err-map_fault.field-0.0 e c.args.happened.now
    (c.in_ok-found.ensures.row (next (seen_now e) pairs)
    ∙ (λ i. fault_or (map_fault (sym c.flag.ensures i ∷ []) (last_pairs (sym c.pairs-pairs.ensures i))) rest))
    (finds_fault (Unit {0}) _ rest c.in_err-map_fault.field-0.0 c.in_err-map_fault.ensures))

pub returns-in_err-may_delete-clause-row : goal.returns-in_err-may_delete-clause-row
returns-in_err-may_delete-clause-row c session =
    let e = c.args.editor.now in
    let n = c.in_ok-found.found.live.handle in
    let pairs = pairs_at (typed_arguments c.args.args.now) 1 in
    let b = seen_buffer_now (content_at e n) in
    let rest = unless_kept (seen_now e) b (forced pairs) (delete_answer (seen_now e) n) in
    let force : forced pairs ≡ c.flag_or.result = ap forced (sym c.pairs-pairs.ensures) ∙ sym c.flag_or.ensures in
    let p = err_from_is_err_and c.from_residual-in_err-may_delete.result c.from_residual-in_err-may_delete.ensures.1 in
    rw (p.1, p.2) (gives_refused _ _ c.in_err-may_delete.field-0.0 e c.args.happened.now
    (c.in_ok-found.ensures.row (next (seen_now e) pairs)
    ∙ (λ i. fault_or (map_fault (sym c.flag.ensures i ∷ []) (last_pairs (sym c.pairs-pairs.ensures i))) rest)
    ∙ finds_none _ rest c.in_ok-map_fault.ensures
    ∙ ap (λ (f : Bool). unless_kept (seen_now e) b f (delete_answer (seen_now e) n)) force
    ∙ ap (λ (x : Content). unless_kept (seen_now e) (seen_buffer_now x) c.flag_or.result (delete_answer (seen_now e) n)) (sym c.in_ok-found.ensures.buffer))
    (c.in_err-may_delete.ensures.row (delete_answer (seen_now e) n)))

pub returns-clause-row : goal.returns-clause-row
returns-clause-row c session =
    let e = c.args.editor.now in
    let n = c.in_ok-found.found.live.handle in
    let pairs = pairs_at (typed_arguments c.args.args.now) 1 in
    let b = seen_buffer_now (content_at e n) in
    let rest = unless_kept (seen_now e) b (forced pairs) (delete_answer (seen_now e) n) in
    let force : forced pairs ≡ c.flag_or.result = ap forced (sym c.pairs-pairs.ensures) ∙ sym c.flag_or.ensures in
    gives_on _ _ c.delete.result e c.delete.new.editor c.args.happened.now c.delete.new.happened
    (c.in_ok-found.ensures.row (next (seen_now e) pairs)
    ∙ (λ i. fault_or (map_fault (sym c.flag.ensures i ∷ []) (last_pairs (sym c.pairs-pairs.ensures i))) rest)
    ∙ finds_none _ rest c.in_ok-map_fault.ensures
    ∙ ap (λ (f : Bool). unless_kept (seen_now e) b f (delete_answer (seen_now e) n)) force
    ∙ ap (λ (x : Content). unless_kept (seen_now e) (seen_buffer_now x) c.flag_or.result (delete_answer (seen_now e) n)) (sym c.in_ok-found.ensures.buffer)
    ∙ c.in_ok-may_delete.ensures.row (delete_answer (seen_now e) n))
    c.delete.ensures.row
