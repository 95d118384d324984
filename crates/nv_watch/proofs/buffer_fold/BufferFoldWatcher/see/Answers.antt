use Rattle.std.proofs.Common.{None, Result, Ok, Err, OnOk}
use Rattle.nv_watch.proofs.Folded.{folded_with}
use Rattle.nv_watch.proofs.buffer_fold.BufferFoldWatcher.see.Goals as goal

on_ok : {T E : Type 0} (r : Result T E) (P Q : Type 0) → (P → Q) → OnOk r P → OnOk r Q
on_ok (Ok x) P Q f h = f h
on_ok (Err e) P Q f h = tt

pub returns-clause-seen : goal.returns-clause-seen
returns-clause-seen c = on_ok c.fold.result _ _ (λ folds seen old.
    folds seen (λ n. None) (λ editor there. λ n. tt) (c.forget.ensures.shares (λ n. None))
    (folded_with _ _ _ seen c.forget.ensures.same c.forget.ensures.apart old.kept)) c.fold.ensures
