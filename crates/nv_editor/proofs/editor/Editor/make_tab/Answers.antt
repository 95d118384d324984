use Rattle.std.proofs.Common.{◌≡◌, ◌∷◌, [], cond, subst, rules}
use Rattle.nv_model.specs.Stage.{Stage, in_workspace}
use Rattle.nv_model.specs.Standing.{PresentEditor}
use Rattle.nv_model.specs.Operations.{tab_made}
use Rattle.nv_windows.specs.Rooms.{has_handles_left}
use Rattle.nv_editor.specs.Doing.{Does}
use Rattle.nv_windows.specs.Operations.{after_tab_new}
use Rattle.nv_editor.proofs.WindowsKept.{windows_sound, tab_made_size, tab_made_shown, tab_making_done}
use Rattle.nv_editor.proofs.editor.Editor.make_tab.Goals as goal

pub invariant_of-self-2 : goal.invariant_of-self-2
invariant_of-self-2 c =
    let e : PresentEditor = record { buffers = c.self.inside.buffers; stage = c.self.inside.stage } in
    let put : c.make_tab.new.self ≡ in_workspace (after_tab_new c.args.buffer) e.stage = search rules in
    (windows_sound e.buffers e.stage c.make_tab.new.self (after_tab_new c.args.buffer) c.self.invariant.0 put c.make_tab.ensures.sound (tab_made_shown e.buffers c.args.buffer e.stage.workspace c.self.invariant.0.shown (search rules) (search rules)) (tab_made_size c.args.buffer e.stage.workspace), c.self.invariant.1)

pub returns-clause-done : goal.returns-clause-done
returns-clause-done c =
    let e : PresentEditor = record { buffers = c.self.inside.buffers; stage = c.self.inside.stage } in
    let put : c.make_tab.new.self ≡ in_workspace (after_tab_new c.args.buffer) e.stage = search rules in
    subst (λ (x : PresentEditor).
    Does (cond (has_handles_left x.stage.workspace) (tab_made c.args.buffer ∷ []) []) x
    (record { buffers = c.self.inside.buffers; stage = c.make_tab.new.self }))
    c.self.view_is (tab_making_done e c.make_tab.new.self c.args.buffer put)
