use Rattle.std.proofs.Common.{◌≡◌, ◌≢◌, ℤ, List, true, false, sym, ap, subst, ◌∙◌, rules, to_z, of_z, w64}
use Rattle.std.specs.Prelude.{is_some}
use Rattle.std.specs.Ordering.{int_eq}
use Rattle.nv_model.specs.Editors.{at_handle}
use Rattle.nv_model.specs.Standing.{PresentEditor}
use Rattle.nv_editor.specs.Doing.{Does}
use Rattle.nv_editor.specs.Sound.{is_live_buffer}
use Rattle.nv_editor.specs.inside.Replacing.{replacing_operations}
use Rattle.nv_editor.specs.inside.Table.{content_in}
use Rattle.nv_editor.proofs.StageKept.{editor_of}
use Rattle.nv_editor.proofs.Replaced.{replaced_done, replaced_sound, replaced_kept, live_there, apart_is}
use Rattle.nv_editor.proofs.editor.Editor.replace_buffer.Goals as goal

pub invariant_of-self : goal.invariant_of-self
invariant_of-self c =
    let n : ℤ = to_z w64 (of_z w64 c.args.buffer) in
    let k : ℤ = to_z w64 (of_z w64 c.args.other) in
    let e : n ≡ c.args.buffer = search rules in
    let f : k ≡ c.args.other = search rules in
    let live : is_some (at_handle c.self.inside.buffers k) ≡ true =
    subst (λ (j : ℤ). is_some (at_handle c.self.inside.buffers j) ≡ true) (sym f) (subst (λ (d : PresentEditor). is_live_buffer d c.args.other ≡ true) (sym c.self.view_is) c.requires.other) in
    let apart : k ≢ n = apart_is k n (subst (λ (j : ℤ). int_eq j n ≡ false) (sym f) (subst (λ (j : ℤ). int_eq c.args.other j ≡ false) (sym e) c.requires.apart)) in (
      replaced_sound c.self.inside.buffers c.take_out.new.self c.self.inside.stage c.show_instead.new.self n k (content_in c.self.inside.buffers k) c.self.invariant.0
          (c.show_instead.ensures) c.take_out.ensures (live_there c.self.inside.buffers k live) apart c.known.ensures.text.some,
      replaced_kept c.self.inside.edited.items c.self.inside.buffers c.take_out.new.self n c.take_out.ensures c.self.invariant.1,
    )

pub returns : goal.returns
returns c =
    let n : ℤ = to_z w64 (of_z w64 c.args.buffer) in
    let k : ℤ = to_z w64 (of_z w64 c.args.other) in
    let e : n ≡ c.args.buffer = search rules in
    let f : k ≡ c.args.other = search rules in
    let done : Does (replacing_operations c.self.inside.stage.workspace n k) (editor_of c.self.inside.buffers c.self.inside.stage) (editor_of c.take_out.new.self c.show_instead.new.self) =
    replaced_done c.self.inside.buffers c.take_out.new.self c.self.inside.stage c.show_instead.new.self n k c.self.invariant.0 c.show_instead.ensures c.take_out.ensures in
    subst (λ (d : PresentEditor). Does (replacing_operations d.stage.workspace c.args.buffer c.args.other) d (editor_of c.take_out.new.self c.show_instead.new.self)) c.self.view_is
    (subst (λ (j : ℤ). Does (replacing_operations c.self.inside.stage.workspace j c.args.other) (editor_of c.self.inside.buffers c.self.inside.stage) (editor_of c.take_out.new.self c.show_instead.new.self)) e
    (subst (λ (j : ℤ). Does (replacing_operations c.self.inside.stage.workspace n j) (editor_of c.self.inside.buffers c.self.inside.stage) (editor_of c.take_out.new.self c.show_instead.new.self)) f done))
