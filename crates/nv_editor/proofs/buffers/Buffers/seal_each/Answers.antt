use Rattle.std.proofs.Common.{◌≡◌, ℤ, pos, get_or, sym, ap, subst, ◌∙◌, rules, arith, to_z, of_z, w64}
use Rattle.nv_editor.proofs.Seals.{seals_more, sealed_kept, same_kept, same_itself, same_at}
use Rattle.nv_editor.proofs.buffers.Buffers.seal_each.Goals as goal

pub loop-handle-init : goal.loop-handle-init
loop-handle-init c = record { same = same_itself c.args.self.now; kept = c.requires }

pub loop-handle-preserved : goal.loop-handle-preserved
loop-handle-preserved c =
    let h : ℤ = get_or c.args.handles.now c.loop-handle.handle-index (pos 0) in
    let n : ℤ = to_z w64 (of_z w64 h) in
    let e : n ≡ h = search rules in
    record {
      same =
          seals_more c.args.self.now c.loop-handle.self c.seal_there.new.self c.args.handles.now c.loop-handle.handle-index n (omega arith)
          (e ∙ same_at c.args.handles.now c.loop-handle.handle-index (pos 0) n (omega arith)) c.loop-handle.invariant.same c.in_ok-seal_there.ensures.ok;
      kept =
          sealed_kept c.args.handles.now c.loop-handle.self c.seal_there.new.self n c.in_ok-seal_there.ensures.ok c.in_ok-seal_there.ensures.tree
          c.loop-handle.invariant.kept;
    }

pub returns-in_err-seal_there-clause-kept : goal.returns-in_err-seal_there-clause-kept
returns-in_err-seal_there-clause-kept c =
    same_kept c.args.handles.now c.loop-handle.self c.seal_there.new.self c.in_err-seal_there.ensures.err c.loop-handle.invariant.kept
