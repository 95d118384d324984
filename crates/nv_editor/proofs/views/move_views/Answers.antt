use Rattle.std.proofs.Common.{◌≡◌, sym, ap, ◌∙◌, rules, to_z, of_z, w64}
use Rattle.nv_windows.specs.Workspace.{Workspace}
use Rattle.nv_editor.specs.inside.Views.{with_views}
use Rattle.nv_editor.proofs.ViewLemmas.{carried}
use Rattle.nv_editor.proofs.views.move_views.Goals as goal

pub returns : goal.returns
returns c =
    let e : to_z w64 (of_z w64 c.args.buffer) ≡ c.args.buffer = search rules in
    carried (to_z w64 (of_z w64 c.args.buffer)) c.args.edit.now c.args.text.now c.args.windows.now c.splice.new.self c.clamp_cursors.new.windows c.count.result c.count.ensures.value
    c.splice.ensures c.clamp_cursors.ensures ∙ ap (λ n. with_views n c.args.edit.now c.args.text.now c.args.windows.now) e
