use Rattle.std.proofs.Common.{◌≡◌, length, sym, ap, subst, ◌∙◌, rules, arith}
use Rattle.nv_editor.specs.inside.Views.{clamped}
use Rattle.nv_editor.proofs.ViewLemmas.{clamped_more}
use Rattle.nv_editor.proofs.views.clamp_cursors.Goals as goal

pub loop-place-preserved : goal.loop-place-preserved
loop-place-preserved c =
    clamped_more c.args.windows.now c.loop-place.windows c.clamp_cursor.new.windows _ c.loop-place.place c.loop-place.invariant c.clamp_cursor.ensures
    (omega (arith, ap length c.windows-count.ensures.windows))
