use Rattle.std.proofs.Common.{[], ◌∷◌, refl}
use Rattle.std.proofs.lemmas.Result.{err_from_is_err_and}
use Rattle.nv_args.specs.Args.{typed_arguments}
use Rattle.nv_model.specs.Answers.{Answer, replied}
use Rattle.nv_api_buf.proofs.Deciding.{gives_refused}
use Rattle.nv_rpc.specs.Messages.{buffer_handle}
use Rattle.nv_args.specs.Reading.{flag_at}
use Rattle.nv_model.specs.Operations.{buffer_made}
use Rattle.nv_api_buf.proofs.buffers.nvim_create_buf.Goals as goal

pub returns-in_err-may_make_buffer-clause-row : goal.returns-in_err-may_make_buffer-clause-row
returns-in_err-may_make_buffer-clause-row c session =
    let e = c.args.editor.now in
    let answer : Answer = replied (buffer_handle e.stage.next_buffer) (buffer_made (flag_at (typed_arguments c.args.args.now) 0) ∷ []) [] in
    let p = err_from_is_err_and c.from_residual.result c.from_residual.ensures.1 in
    rw (p.1, p.2) (gives_refused _ _ c.in_err-may_make_buffer.field-0.0 e c.args.happened.now refl (c.in_err-may_make_buffer.ensures.row answer))
