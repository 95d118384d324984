use Rattle.std.proofs.Common.{sym, subst}
use Rattle.nv_windows.specs.Kept.{workspace_of}
use Rattle.nv_windows.specs.Sound.{IsSoundWorkspace}
use Rattle.nv_windows.proofs.SoundLaws.{sizing_sound}
use Rattle.nv_windows.proofs.windows.Windows.put_size.Goals as goal

pub renew-requires : goal.renew-requires
renew-requires c = subst IsSoundWorkspace (sym c.put_size-fits.ensures.after) (sizing_sound (workspace_of c.self.inside.parts) c.args.width c.args.height c.requires.width c.requires.height c.self.invariant.sound)

pub invariant_of-self : goal.invariant_of-self
invariant_of-self c = record { sound = subst IsSoundWorkspace (sym c.put_size-fits.ensures.after) (sizing_sound (workspace_of c.self.inside.parts) c.args.width c.args.height c.requires.width c.requires.height c.self.invariant.sound); seats = c.renew.ensures }
