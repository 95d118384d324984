use Rattle.std.proofs.Common.{All, sym, subst}
use Rattle.nv_model.specs.Stage.{Stage}
use Rattle.nv_editor.specs.Uis.{AreOfRisingSessions, AreSoundUis, HasScreenSize}
use Rattle.nv_editor.proofs.UiSizes.{put_are}
use Rattle.nv_editor.proofs.stage.Stage.put_ui.Goals as goal

pub take_size-requires-clause-rising : goal.take_size-requires-clause-rising
take_size-requires-clause-rising c =
    let sound : AreSoundUis c.self.inside.uis.items c.self.inside.windows.width c.self.inside.windows.height =
    subst (λ (s : Stage). AreSoundUis s.uis s.workspace.width s.workspace.height) (sym c.self.view_is) c.requires.uis in
    subst (AreOfRisingSessions 0) (sym c.in_ok-put_among.ensures.put) (put_are c.args.ui c.self.inside.uis.items c.self.inside.windows.width c.self.inside.windows.height c.requires.size sound).0

pub take_size-requires-clause-narrow : goal.take_size-requires-clause-narrow
take_size-requires-clause-narrow c =
    let sound : AreSoundUis c.self.inside.uis.items c.self.inside.windows.width c.self.inside.windows.height =
    subst (λ (s : Stage). AreSoundUis s.uis s.workspace.width s.workspace.height) (sym c.self.view_is) c.requires.uis in
    subst (All HasScreenSize) (sym c.in_ok-put_among.ensures.put) (put_are c.args.ui c.self.inside.uis.items c.self.inside.windows.width c.self.inside.windows.height c.requires.size sound).1
