use Rattle.std.proofs.Common.{w64}
use mir.Val.{to_z, of_z}
use Rattle.nv_windows.specs.Kept.{workspace_of}
use Rattle.nv_windows.proofs.SoundLaws.{opening_sound, either_sound}
use Rattle.nv_windows.proofs.windows.Windows.open.Goals as goal

pub renew-requires : goal.renew-requires
renew-requires c = either_sound c.open-told.result (workspace_of c.open-told.new.self) (workspace_of c.self.inside.parts) _ c.open-told.ensures.after c.open-told.ensures.err c.self.invariant.sound (opening_sound (workspace_of c.self.inside.parts) (to_z w64 (of_z w64 c.args.beside)) c.args.side (to_z w64 (of_z w64 c.args.buffer)) c.args.wishes.width c.args.wishes.height c.args.enter c.self.invariant.sound)

pub invariant_of-self : goal.invariant_of-self
invariant_of-self c = record { sound = either_sound c.open-told.result (workspace_of c.open-told.new.self) (workspace_of c.self.inside.parts) _ c.open-told.ensures.after c.open-told.ensures.err c.self.invariant.sound (opening_sound (workspace_of c.self.inside.parts) (to_z w64 (of_z w64 c.args.beside)) c.args.side (to_z w64 (of_z w64 c.args.buffer)) c.args.wishes.width c.args.wishes.height c.args.enter c.self.invariant.sound); seats = c.renew.ensures }
