use Rattle.std.proofs.Common.{◌≡◌, ℤ, OnOk, subst, rules, to_z, of_z, w64}
use Rattle.std.specs.Prelude.{filter}
use Rattle.nv_marks.specs.Queries.{is_cleared}
use Rattle.nv_model.specs.Answering.{removal_operations}
use Rattle.nv_editor.specs.Doing.{Does}
use Rattle.nv_editor.specs.Sound.{content_at}
use Rattle.nv_editor.proofs.Clearing.{cleared_sound, cleared_kept, cleared_done, cleared_not}
use Rattle.nv_editor.proofs.StageKept.{editor_of}
use Rattle.nv_editor.proofs.editor.Editor.clear_marks.Goals as goal

pub invariant_of-self : goal.invariant_of-self
invariant_of-self c =
    let n : ℤ = to_z w64 (of_z w64 c.args.buffer) in (
      cleared_sound c.self.inside.buffers c.clear_marks.new.self c.self.inside.stage n c.clear_marks.ensures.updated c.clear_marks.result c.args.ns
          c.args.from c.args.to c.self.invariant.0 c.clear_marks.ensures.ok c.clear_marks.ensures.err,
      cleared_kept c.self.inside.buffers c.clear_marks.new.self n c.clear_marks.ensures.updated c.clear_marks.result c.args.ns c.args.from c.args.to
          c.self.inside.edited.items c.self.invariant.1 c.clear_marks.ensures.ok c.clear_marks.ensures.err,
    )

pub returns-clause-done : goal.returns-clause-done
returns-clause-done c =
    let e : to_z w64 (of_z w64 c.args.buffer) ≡ c.args.buffer = search rules in
    let n : ℤ = to_z w64 (of_z w64 c.args.buffer) in
    subst (λ (k : ℤ). OnOk c.clear_marks.result
    (Does (removal_operations k (filter (is_cleared c.args.ns c.args.from c.args.to) (content_at c.args.self.now k).marks.marks)) c.args.self.now
    (editor_of c.clear_marks.new.self c.self.inside.stage))) e
    (cleared_done c.self.inside.buffers c.clear_marks.new.self c.self.inside.stage n c.clear_marks.ensures.updated c.clear_marks.result c.args.ns
    c.args.from c.args.to c.args.self.now c.self.view_is c.clear_marks.ensures.ok)

pub returns-clause-err : goal.returns-clause-err
returns-clause-err c =
    cleared_not c.self.inside.buffers c.clear_marks.new.self c.self.inside.stage (to_z w64 (of_z w64 c.args.buffer)) c.clear_marks.ensures.updated
    c.clear_marks.result c.args.self.now c.self.view_is c.self.invariant.0 c.clear_marks.ensures.err
