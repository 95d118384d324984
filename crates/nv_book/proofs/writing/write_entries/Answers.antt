use Rattle.std.proofs.Common.{◌≡◌, ℕ, suc, ◌+◌, ◌≤◌, List, [], length, take, drop, Option, refl, sym, ap, ◌∙◌, subst, arith}
use Rattle.std.proofs.lemmas.List.{take_all}
use Rattle.std.proofs.lemmas.Result.{err_from_is_err_and}
use Rattle.nv_history.specs.Events.{Entry}
use Rattle.nv_core.specs.Contents.{plain_entry, plain_entries}
use Rattle.nv_core.specs.declared.entry.Entry as world
use Rattle.nv_book.specs.declared.faults.BookFault.{BookFault}
use Rattle.nv_book.specs.declared.faults.BookFault.TheVariants.{Unfit}
use Rattle.nv_book.specs.inside.Steps.{HasWritten, StopsOne}
use Rattle.nv_book.proofs.Results.{on_err_for, same_err}
use Rattle.nv_book.proofs.Going.{written_none, written_next, written_all, written_part, stopped, unfit_there, next_enters, model_there, plain_parts, plain_number, plain_next, nothing_out}
use Rattle.nv_book.proofs.writing.write_entries.Goals as goal

pub returns-in_err-player-clause-err : goal.returns-in_err-player-clause-err
returns-in_err-player-clause-err g c = on_err_for _ _ (nothing_out c.args.start c.args.form (plain_entries c.args.entries.now) _)

pub loop-entry-init : goal.loop-entry-init
loop-entry-init g c = record {
  number = refl;
  written = written_none c.args.start c.args.form _ _ _ c.in_ok-player.ensures.world c.in_ok-player.ensures.nobody;
  later = omega arith;
}

pub write_entry-requires-clause-enters : goal.write_entry-requires-clause-enters
write_entry-requires-clause-enters g c =
    let es = c.args.entries.now in
    let i = c.loop-entry.entry-index in
    let e = c.entry-item.result in
    next_enters c.args.start c.args.form (plain_entries es) (plain_entries (take i es)) (plain_entries (drop (suc i) es)) (plain_entry e) c.loop-entry.player.world c.loop-entry.player.painters.items _ _
    c.requires.runs (plain_parts es i e (omega arith) c.entry-item.is) c.loop-entry.invariant.written

pub write_entry-requires-clause-runs : goal.write_entry-requires-clause-runs
write_entry-requires-clause-runs g c =
    model_there c.args.start c.args.form (plain_entries (take c.loop-entry.entry-index c.args.entries.now)) c.loop-entry.player.world c.loop-entry.player.painters.items _ _ c.loop-entry.invariant.written

pub returns-in_err-write_entry-clause-err : goal.returns-in_err-write_entry-clause-err
returns-in_err-write_entry-clause-err g c =
    let es = c.args.entries.now in
    let i = c.loop-entry.entry-index in
    let e = c.entry-item.result in
    on_err_for _ _
    (stopped c.args.start c.args.form (plain_entries es) (plain_entries (take i es)) (plain_entries (drop (suc i) es)) c.loop-entry.at (plain_entry e) c.in_err-write_entry.field-0.0
    c.loop-entry.player.world c.write_entry.new.player.world c.loop-entry.player.painters.items c.write_entry.new.player.painters.items _ _ _
    (plain_parts es i e (omega arith) c.entry-item.is) (c.loop-entry.invariant.number ∙ plain_number es i (omega arith)) c.loop-entry.invariant.written c.in_err-write_entry.ensures.err)

pub returns-in_err-write_entry-clause-unfit : goal.returns-in_err-write_entry-clause-unfit
returns-in_err-write_entry-clause-unfit g c = λ n is.
    let es = c.args.entries.now in
    let i = c.loop-entry.entry-index in
    let e = c.entry-item.result in
    let p = err_from_is_err_and c.from_residual-in_err-write_entry.result c.from_residual-in_err-write_entry.ensures.1 in
    let met : p.0 ≡ Unfit n = same_err c.from_residual-in_err-write_entry.result p.0 (Unfit n) p.1 is in
    let fault : c.in_err-write_entry.field-0.0 ≡ Unfit n = sym p.2 ∙ met in
    let stop = subst (λ (x : BookFault). StopsOne c.args.form c.loop-entry.at (plain_entry e) x c.loop-entry.player.world c.loop-entry.player.painters.items c.write_entry.new.player.world c.write_entry.new.player.painters.items
    (g.S.Sink.words c.loop-entry.sink).taken (g.S.Sink.words c.write_entry.new.sink).taken) fault c.in_err-write_entry.ensures.err in
    unfit_there (plain_entries es) (plain_entries (take i es)) (plain_entries (drop (suc i) es)) c.loop-entry.at n (plain_entry e)
    (plain_parts es i e (omega arith) c.entry-item.is) (c.loop-entry.invariant.number ∙ plain_number es i (omega arith)) stop.0 stop.1

pub loop-entry-preserved : goal.loop-entry-preserved
loop-entry-preserved g c =
    let es = c.args.entries.now in
    let i = c.loop-entry.entry-index in
    let e = c.entry-item.result in
    record {
      number = ap (λ (n : ℕ). n + 1) c.loop-entry.invariant.number;
      written = subst (λ (l : List Entry). HasWritten c.args.start c.args.form l c.write_entry.new.player.world c.write_entry.new.player.painters.items (g.S.Sink.words c.args.sink.now).taken (g.S.Sink.words c.write_entry.new.sink).taken)
          (plain_next es i e (omega arith) c.entry-item.is)
          (written_next c.args.start c.args.form (plain_entries (take i es)) c.loop-entry.at (plain_entry e) c.loop-entry.player.world c.write_entry.new.player.world c.loop-entry.player.painters.items c.write_entry.new.player.painters.items _ _ _
          (c.loop-entry.invariant.number ∙ plain_number es i (omega arith)) c.loop-entry.invariant.written c.in_ok-write_entry.ensures.ok);
      later = omega (arith, c.in_ok-write_entry.ensures.later, c.loop-entry.invariant.later);
    }

pub returns-clause-ok : goal.returns-clause-ok
returns-clause-ok g c =
    let es = c.args.entries.now in
    written_all c.args.start c.args.form (plain_entries es) c.loop-entry.player.world c.loop-entry.player.painters.items _ _
    (subst (λ (l : List world.Entry). HasWritten c.args.start c.args.form (plain_entries l) c.loop-entry.player.world c.loop-entry.player.painters.items (g.S.Sink.words c.args.sink.now).taken (g.S.Sink.words c.loop-entry.sink).taken)
    (take_all c.loop-entry.entry-index es (omega arith)) c.loop-entry.invariant.written)

pub returns-clause-later : goal.returns-clause-later
returns-clause-later g c = omega (arith, c.loop-entry.invariant.later)
