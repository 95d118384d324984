use Rattle.std.proofs.Common.{◌∙◌, sym, ap, w64}
use Rattle.std.proofs.lemmas.Int.{to_z-of_z}
use Rattle.nv_windows.specs.Kept.{workspace_of}
use Rattle.nv_windows.specs.Operations.{at_window, entered_where}
use Rattle.nv_windows.proofs.parts.Parts.enter_where.Goals as goal

pub returns-then-enter : goal.returns-then-enter
returns-then-enter c =
    c.go.ensures ∙ ap (λ w. at_window w (workspace_of c.args.self.now)) (to_z-of_z w64 c.args.window c.ranges.window)
    ∙ ap (λ b. entered_where b c.args.window (workspace_of c.args.self.now)) (sym c.if-enter.true)
