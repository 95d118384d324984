use Rattle.std.proofs.Common.{◌≡◌, ℤ, subst, rules, to_z, of_z, w64}
use Rattle.std.specs.List.{list_any}
use Rattle.nv_model.specs.Deleting.{other_handles}
use Rattle.nv_model.specs.Editors.{at_handle, handles_of}
use Rattle.nv_model.specs.Standing.{PresentEditor}
use Rattle.nv_editor.specs.inside.Named.{is_of_name}
use Rattle.nv_editor.proofs.editor.Editor.is_named_other.Goals as goal

pub returns : goal.returns
returns c =
    let e : to_z w64 (of_z w64 c.args.n) ≡ c.args.n = search rules in
    subst (λ (m : PresentEditor). c.is_named_other.result ≡ list_any (λ j. is_of_name c.args.name.now (at_handle m.buffers j)) (other_handles c.args.n (handles_of m.buffers)))
    c.self.view_is
    (subst (λ (k : ℤ). c.is_named_other.result ≡ list_any (λ j. is_of_name c.args.name.now (at_handle c.self.inside.buffers j)) (other_handles k (handles_of c.self.inside.buffers))) e
    c.is_named_other.ensures)
