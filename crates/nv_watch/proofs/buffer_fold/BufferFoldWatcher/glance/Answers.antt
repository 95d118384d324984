use Rattle.std.proofs.Common.{Result, Ok, Err, OnOk}
use Rattle.nv_watch.specs.Verdicts.{sight}
use Rattle.nv_watch.specs.inside.Sharing.{texts_seen}
use Rattle.nv_watch.proofs.Folded.{known_before}
use Rattle.nv_watch.proofs.Linked.{all_become}
use Rattle.nv_watch.proofs.buffer_fold.BufferFoldWatcher.glance.Goals as goal

on_ok : {T E : Type 0} (r : Result T E) (P Q : Type 0) → (P → Q) → OnOk r P → OnOk r Q
on_ok (Ok x) P Q f h = f h
on_ok (Err e) P Q f h = tt

pub returns-clause-first : goal.returns-clause-first
returns-clause-first c = on_ok c.fold.result _ _ (λ folds seen old next.
    let x = sight c.args.world.now c.args.step.now in
    let known = known_before seen x next in
    folds seen (texts_seen known.0)
    (λ editor there. all_become c.telling_laws.ensures.told c.telling_laws.ensures.sound seen x next.last known.0 editor next next.last_is known.1 there)
    (old.known next.last known.0 next.last_is known.1) old.kept) c.fold.ensures

pub returns-clause-later : goal.returns-clause-later
returns-clause-later c = on_ok c.fold.result _ _ (λ folds seen old quiet.
    let x = sight c.args.world.now c.args.step.now in
    let next = quiet.next in
    let known = known_before seen x next in
    folds seen (texts_seen known.0)
    (λ editor there. all_become c.telling_laws.ensures.told c.telling_laws.ensures.sound seen x next.last known.0 editor next next.last_is known.1 there)
    (old.known next.last known.0 next.last_is known.1) old.kept) c.fold.ensures
