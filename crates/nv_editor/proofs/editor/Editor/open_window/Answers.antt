use Rattle.std.proofs.Common.{◌≡◌, ◌∷◌, [], ◌&&◌, cond, subst, rules}
use Rattle.nv_model.specs.Stage.{Stage, in_workspace}
use Rattle.nv_model.specs.Standing.{PresentEditor}
use Rattle.nv_model.specs.Operations.{window_opened, went_to_window}
use Rattle.nv_windows.specs.Rooms.{has_window_left, has_room_beside}
use Rattle.nv_editor.specs.Doing.{Does}
use Rattle.nv_windows.specs.Operations.{after_opening}
use Rattle.nv_editor.proofs.WindowsKept.{windows_sound, opening_size, opening_shown, opening_done}
use Rattle.nv_editor.proofs.editor.Editor.open_window.Goals as goal

pub invariant_of-self-2 : goal.invariant_of-self-2
invariant_of-self-2 c =
    let e : PresentEditor = record { buffers = c.self.inside.buffers; stage = c.self.inside.stage } in
    let put : c.open_window.new.self ≡ in_workspace (after_opening c.args.beside c.args.side c.args.buffer c.args.wishes.width c.args.wishes.height c.args.enter) e.stage = search rules in
    (windows_sound e.buffers e.stage c.open_window.new.self (after_opening c.args.beside c.args.side c.args.buffer c.args.wishes.width c.args.wishes.height c.args.enter) c.self.invariant.0 put c.open_window.ensures.sound (opening_shown e.buffers c.args.beside c.args.side c.args.buffer c.args.wishes.width c.args.wishes.height c.args.enter e.stage.workspace c.self.invariant.0.shown (search rules) (search rules)) (opening_size c.args.beside c.args.side c.args.buffer c.args.wishes.width c.args.wishes.height c.args.enter e.stage.workspace), c.self.invariant.1)

pub returns-clause-done : goal.returns-clause-done
returns-clause-done c =
    let e : PresentEditor = record { buffers = c.self.inside.buffers; stage = c.self.inside.stage } in
    let put : c.open_window.new.self ≡ in_workspace (after_opening c.args.beside c.args.side c.args.buffer c.args.wishes.width c.args.wishes.height c.args.enter) e.stage = search rules in
    subst (λ (x : PresentEditor).
    Does (cond (has_window_left x.stage.workspace && has_room_beside x.stage.workspace c.args.beside c.args.side)
    (window_opened c.args.beside c.args.side c.args.buffer c.args.wishes.width c.args.wishes.height
    ∷ cond c.args.enter (went_to_window x.stage.workspace.next_window ∷ []) []) []) x
    (record { buffers = c.self.inside.buffers; stage = c.open_window.new.self }))
    c.self.view_is
    (opening_done e c.open_window.new.self c.args.beside c.args.side c.args.buffer c.args.wishes.width c.args.wishes.height c.args.enter put)
