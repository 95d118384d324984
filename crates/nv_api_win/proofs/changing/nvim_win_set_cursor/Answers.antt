use Rattle.std.proofs.Common.{[], ◌∷◌, rules}
use Rattle.nv_args.specs.Args.{typed_arguments}
use Rattle.nv_value.proofs.Contents.{content-Nil}
use Rattle.nv_value.specs.declared.value.Value.TheVariants.{Nil}
use Rattle.nv_model.specs.Operations.{cursor_put}
use Rattle.nv_editor.specs.Doing.{Does}
use Rattle.nv_api_win.proofs.Coordinates.{cursor_row, gives_no_place, gives_place}
use Rattle.nv_api_win.proofs.changing.nvim_win_set_cursor.Goals as goal

pub returns-in_err-place-clause-row : goal.returns-in_err-place-clause-row
returns-in_err-place-clause-row c =
    let e = c.args.editor.now in
    let w = c.in_ok-window.window in
    record {
      given = λ session told.
          gives_no_place _ w.handle _ c.in_err-place.field-0.0 c.from_residual-in_err-place.result e told
          (cursor_row e session (typed_arguments c.args.args.now) w c.known.ensures c.in_ok-window.ensures.found c.in_ok-window.ensures.live)
          c.in_err-place.ensures.found c.from_residual-in_err-place.ensures.1;
    }

pub returns-clause-row : goal.returns-clause-row
returns-clause-row c =
    let e = c.args.editor.now in
    let w = c.in_ok-window.window in
    let done : Does (cursor_put w.handle c.in_ok-place.place ∷ []) e c.put_cursor.new.self = search rules in
    record {
      given = λ session told.
          gives_place _ w.handle _ c.in_ok-place.place Nil e c.put_cursor.new.self told
          (cursor_row e session (typed_arguments c.args.args.now) w c.known.ensures c.in_ok-window.ensures.found c.in_ok-window.ensures.live)
          c.in_ok-place.ensures.found content-Nil done;
    }
