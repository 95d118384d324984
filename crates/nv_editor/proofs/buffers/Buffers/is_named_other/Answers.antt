use Rattle.std.proofs.Common.{◌≡◌, ◌∙◌, ℤ, ap, rules, to_z, of_z, w64}
use Rattle.std.specs.List.{list_any}
use Rattle.nv_editor.specs.inside.Named.{is_other_named}
use Rattle.nv_editor.proofs.NamesKept.{others_named}
use Rattle.nv_editor.proofs.buffers.Buffers.is_named_other.Goals as goal

pub returns : goal.returns
returns c =
    let e : to_z w64 (of_z w64 c.args.handle) ≡ c.args.handle = search rules in
    c.is_other_among.ensures
    ∙ ap (λ (k : ℤ). list_any (is_other_named k c.args.name.now) c.self.inside.items.entries) e
    ∙ ap (list_any (is_other_named c.args.handle c.args.name.now)) c.self.view_is
    ∙ others_named c.args.handle c.args.name.now c.args.self.now c.requires
