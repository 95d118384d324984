use Rattle.std.proofs.Common.{w64}
use mir.Val.{to_z, of_z}
use Rattle.nv_windows.specs.Kept.{workspace_of}
use Rattle.nv_windows.proofs.SoundLaws.{close_sound, either_sound}
use Rattle.nv_windows.proofs.windows.Windows.close.Goals as goal

pub renew-requires : goal.renew-requires
renew-requires c = either_sound c.close-closed.result (workspace_of c.close-closed.new.self) (workspace_of c.self.inside.parts) _ c.close-closed.ensures.after c.close-closed.ensures.err c.self.invariant.sound (close_sound (workspace_of c.self.inside.parts) (to_z w64 (of_z w64 c.args.window)) c.self.invariant.sound)

pub invariant_of-self : goal.invariant_of-self
invariant_of-self c = record { sound = either_sound c.close-closed.result (workspace_of c.close-closed.new.self) (workspace_of c.self.inside.parts) _ c.close-closed.ensures.after c.close-closed.ensures.err c.self.invariant.sound (close_sound (workspace_of c.self.inside.parts) (to_z w64 (of_z w64 c.args.window)) c.self.invariant.sound); seats = c.renew.ensures }
