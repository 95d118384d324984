use Rattle.std.proofs.Common.{◌≡◌, ℤ, [], ◌∷◌, ap, sym, ◌∙◌, refl, rules, w64, FitsSigned, to_z, of_z}
use Rattle.std.proofs.lemmas.Result.{err_from_is_err_and}
use Rattle.std.proofs.lemmas.Int.{to_z-of_z}
use Rattle.nv_value.specs.Content.{nil}
use Rattle.nv_model.specs.Answers.{Answer, replied}
use Rattle.nv_model.specs.Operations.{shown}
use Rattle.nv_model.specs.Seen.{Seen, SeenBuffer}
use Rattle.nv_model.specs.Standing.{seen_now}
use Rattle.nv_api_buf.proofs.Deciding.{gives_refused, gives_quiet}
use Rattle.nv_windows.specs.Workspace.{current_window, is_live_window}
use Rattle.nv_api_buf.proofs.Windows.{current_is_live}
use Rattle.nv_api_buf.proofs.buffers.nvim_set_current_buf.Goals as goal

abbrev next : Seen → ℤ → SeenBuffer → Answer
next s n b = replied nil (shown (current_window s.stage.workspace) n ∷ []) []

pub returns-in_err-found-clause-row : goal.returns-in_err-found-clause-row
returns-in_err-found-clause-row c session =
    let p = err_from_is_err_and c.from_residual.result c.from_residual.ensures.1 in
    rw (p.1, p.2) (gives_refused _ _ c.in_err-found.field-0.0 c.args.editor.now c.args.happened.now refl (c.in_err-found.ensures.row (next (seen_now c.args.editor.now))))

pub returns-clause-row : goal.returns-clause-row
returns-clause-row c session =
    let e = c.args.editor.now in
    let n = c.in_ok-found.found.live.handle in
    let fits : FitsSigned w64 n = search rules in
    let fits_window : FitsSigned w64 c.current_window-window.result = search rules in
    let window : to_z w64 (of_z w64 c.current_window-window.result) ≡ current_window e.stage.workspace =
    to_z-of_z w64 c.current_window-window.result fits_window ∙ c.current_window-window.ensures ∙ ap current_window c.windows.ensures in
    gives_quiet _ _ e c.show.new.self c.args.happened.now
    (c.in_ok-found.ensures.row (next (seen_now e)) ∙ (λ i. replied nil (shown (sym window i) (sym (to_z-of_z w64 n fits) i) ∷ []) []))
    c.show.ensures

pub show-requires-clause-window : goal.show-requires-clause-window
show-requires-clause-window c =
    let e = c.args.editor.now in
    let fits_window : FitsSigned w64 c.current_window-window.result = search rules in
    let window : to_z w64 (of_z w64 c.current_window-window.result) ≡ current_window e.stage.workspace =
    to_z-of_z w64 c.current_window-window.result fits_window ∙ c.current_window-window.ensures ∙ ap current_window c.windows.ensures in
    ap (is_live_window e.stage.workspace) window ∙ current_is_live e.stage.workspace c.known.ensures.workspace
