use Rattle.std.proofs.Common.{◌≡◌, ◌∙◌, sym, ap, rules, to_z, of_z, w64}
use Rattle.nv_model.specs.Editors.{at_handle}
use Rattle.nv_editor.specs.inside.Named.{is_of_name}
use Rattle.nv_editor.proofs.buffers.is_own.Goals as goal

pub returns-in-Some : goal.returns-in-Some
returns-in-Some c =
    let e : to_z w64 (of_z w64 c.args.one.n) ≡ c.args.one.n = search rules in
    c.has_name.ensures
    ∙ sym (ap (is_of_name c.args.name.now) (ap (at_handle c.args.buffers.now.entries) (sym e) ∙ c.in-Some.ensures))

pub returns-in-None : goal.returns-in-None
returns-in-None c =
    let e : to_z w64 (of_z w64 c.args.one.n) ≡ c.args.one.n = search rules in
    sym (ap (is_of_name c.args.name.now) (ap (at_handle c.args.buffers.now.entries) (sym e) ∙ c.in-None.ensures))
