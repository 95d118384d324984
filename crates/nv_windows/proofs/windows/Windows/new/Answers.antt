use Rattle.std.proofs.Common.{sym, subst, w64}
use mir.Val.{to_z, of_z}
use Rattle.nv_windows.specs.Sound.{IsSoundWorkspace}
use Rattle.nv_windows.proofs.SoundTabs.{fresh_sound}
use Rattle.nv_windows.proofs.windows.Windows.new.Goals as goal

pub renew-requires : goal.renew-requires
renew-requires c = subst IsSoundWorkspace (sym c.in_ok-parts.ensures) (fresh_sound (to_z w64 (of_z w64 c.args.buffer)))
