use Rattle.std.proofs.Common.{◌≡◌, ℕ, ◌<◌, true, List, length, All, sym, subst}
use Rattle.nv_windows.specs.Rooms.{all_fit}
use Rattle.nv_model.specs.Stage.{Stage, other_uis}
use Rattle.nv_model.specs.declared.parts.Ui.{Ui}
use Rattle.nv_editor.specs.Uis.{AreOfRisingSessions, AreSoundUis, HasScreenSize}
use Rattle.nv_editor.specs.inside.Sizes.{least_size}
use Rattle.nv_editor.proofs.UiSizes.{left_are, left_fit}
use Rattle.nv_editor.proofs.stage.Stage.drop_uis.Goals as goal

pub take_size-requires-clause-rising : goal.take_size-requires-clause-rising
take_size-requires-clause-rising c =
    let sound : AreSoundUis c.self.inside.uis.items c.self.inside.windows.width c.self.inside.windows.height =
    subst (λ (s : Stage). AreSoundUis s.uis s.workspace.width s.workspace.height) (sym c.self.view_is) c.requires in
    subst (AreOfRisingSessions 0) (sym c.drop_sessions.ensures) (left_are c.args.sessions.now c.self.inside.uis.items c.self.inside.windows.width c.self.inside.windows.height sound).0

pub take_size-requires-clause-narrow : goal.take_size-requires-clause-narrow
take_size-requires-clause-narrow c =
    let sound : AreSoundUis c.self.inside.uis.items c.self.inside.windows.width c.self.inside.windows.height =
    subst (λ (s : Stage). AreSoundUis s.uis s.workspace.width s.workspace.height) (sym c.self.view_is) c.requires in
    subst (All HasScreenSize) (sym c.drop_sessions.ensures) (left_are c.args.sessions.now c.self.inside.uis.items c.self.inside.windows.width c.self.inside.windows.height sound).1

pub take_size-requires-clause-fits : goal.take_size-requires-clause-fits
take_size-requires-clause-fits c =
    let sound : AreSoundUis c.self.inside.uis.items c.self.inside.windows.width c.self.inside.windows.height =
    subst (λ (s : Stage). AreSoundUis s.uis s.workspace.width s.workspace.height) (sym c.self.view_is) c.requires in
    subst (λ (us : List Ui). 0 < length us → all_fit (least_size (λ u. u.width) us) (least_size (λ u. u.height) us) c.self.inside.windows ≡ true) (sym c.drop_sessions.ensures)
    (λ some. left_fit c.args.sessions.now c.self.inside.uis.items c.self.inside.windows sound.least c.windows-before.ensures.sound some)
