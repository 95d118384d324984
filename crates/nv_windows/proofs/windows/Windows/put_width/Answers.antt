use Rattle.std.proofs.Common.{◌∙◌, sym, ap, subst, w64}
use Rattle.std.proofs.lemmas.Int.{to_z-of_z}
use mir.Val.{to_z, of_z}
use Rattle.nv_layout.specs.declared.nodes.Axis.TheVariants.{Across}
use Rattle.nv_windows.specs.Operations.{with_wish_of}
use Rattle.nv_windows.specs.Kept.{workspace_of}
use Rattle.nv_windows.specs.Sound.{IsSoundWorkspace}
use Rattle.nv_windows.proofs.Soundness.{wish_sound}
use Rattle.nv_windows.proofs.windows.Windows.put_width.Goals as goal

pub renew-requires : goal.renew-requires
renew-requires c = subst IsSoundWorkspace (sym c.put_wish.ensures) (wish_sound (workspace_of c.self.inside.parts) (to_z w64 (of_z w64 c.args.window)) Across c.args.n c.self.invariant.sound)

pub invariant_of-self : goal.invariant_of-self
invariant_of-self c = record { sound = subst IsSoundWorkspace (sym c.put_wish.ensures) (wish_sound (workspace_of c.self.inside.parts) (to_z w64 (of_z w64 c.args.window)) Across c.args.n c.self.invariant.sound); seats = c.renew.ensures }

pub returns : goal.returns
returns c =
    c.put_wish.ensures ∙ ap (λ w. with_wish_of w Across c.args.n (workspace_of c.self.inside.parts)) (to_z-of_z w64 c.args.window c.ranges.window) ∙ ap (with_wish_of c.args.window Across c.args.n) c.self.view_is
