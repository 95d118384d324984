use Rattle.std.proofs.Common.{◌≡◌, ℕ, List, take, length, Option, sym, ap, ◌∙◌, subst}
use Rattle.std.specs.Io.KnownBytes.{append_known}
use Rattle.nv_value.specs.Content.{Tree}
use Rattle.nv_msgpack.specs.Shortest.{shortest}
use Rattle.nv_core.specs.Contents.{plain_entries}
use Rattle.nv_core.specs.declared.entry.Entry as world
use Rattle.nv_book.specs.Books.{book_head, book_end}
use Rattle.nv_book.specs.declared.form.Form.TheVariants.{Book}
use Rattle.nv_book.specs.inside.Steps.{WentOut, WentOutInPart}
use Rattle.nv_book.proofs.Results.{on_err, on_ok, on_err_for}
use Rattle.nv_book.proofs.Going.{known_none}
use Rattle.nv_book.proofs.Whole.{nothing_of_book, head_of_book, entries_of_book, end_of_book, all_of_book, plain_length}
use Rattle.nv_book.proofs.writing.write_book.Goals as goal

pub returns-in_err-head-clause-err : goal.returns-in_err-head-clause-err
returns-in_err-head-clause-err g c = on_err_for _ _ (nothing_of_book c.args.start (plain_entries c.args.history.now.entries) _)

pub returns-in_err-put_value-clause-err : goal.returns-in_err-put_value-clause-err
returns-in_err-put_value-clause-err g c =
    let cut = c.in_err-put_value.ensures.err in
    let before = (g.S.Sink.words c.args.sink.now).taken in
    on_err_for _ _
    (head_of_book c.args.start (plain_entries c.args.history.now.entries) before (g.S.Sink.words c.put_value.new.sink).taken cut.0
    (cut.1 ∙ ap (λ (t : Tree). append_known before (take cut.0 (shortest t))) c.in_ok-head.ensures))

pub returns-in_err-write_entries-clause-err : goal.returns-in_err-write_entries-clause-err
returns-in_err-write_entries-clause-err g c =
    let before = (g.S.Sink.words c.args.sink.now).taken in
    let middle = (g.S.Sink.words c.put_value.new.sink).taken in
    let after = (g.S.Sink.words c.write_entries.new.sink).taken in
    on_err_for _ _
    (entries_of_book c.args.start (plain_entries c.args.history.now.entries) before middle after
    (c.in_ok-put_value.ensures.ok ∙ ap (λ (t : Tree). append_known before (shortest t)) c.in_ok-head.ensures)
    (subst (λ (l : List world.Entry). WentOutInPart c.args.start Book (plain_entries l) middle after) c.entries.ensures c.in_err-write_entries.ensures.err))

pub returns-in_err-end-clause-err : goal.returns-in_err-end-clause-err
returns-in_err-end-clause-err g c =
    let before = (g.S.Sink.words c.args.sink.now).taken in
    let middle = (g.S.Sink.words c.put_value.new.sink).taken in
    let last = (g.S.Sink.words c.write_entries.new.sink).taken in
    on_err_for _ _
    (end_of_book c.args.start (plain_entries c.args.history.now.entries) before middle last last 0
    (c.in_ok-put_value.ensures.ok ∙ ap (λ (t : Tree). append_known before (shortest t)) c.in_ok-head.ensures)
    (subst (λ (l : List world.Entry). WentOut c.args.start Book (plain_entries l) middle last) c.entries.ensures c.in_ok-write_entries.ensures.ok)
    (known_none last))

pub returns-clause-ok : goal.returns-clause-ok
returns-clause-ok g c =
    let before = (g.S.Sink.words c.args.sink.now).taken in
    let middle = (g.S.Sink.words c.put_value.new.sink).taken in
    let last = (g.S.Sink.words c.write_entries.new.sink).taken in
    let count : c.len.result ≡ length (plain_entries c.args.history.now.entries) = c.len.ensures.count ∙ sym (plain_length c.args.history.now.entries) in
    on_ok c.put_value-2.result _ _
    (λ e.
    all_of_book c.args.start (plain_entries c.args.history.now.entries) before middle last (g.S.Sink.words c.put_value-2.new.sink).taken
    (c.in_ok-put_value.ensures.ok ∙ ap (λ (t : Tree). append_known before (shortest t)) c.in_ok-head.ensures)
    (subst (λ (l : List world.Entry). WentOut c.args.start Book (plain_entries l) middle last) c.entries.ensures c.in_ok-write_entries.ensures.ok)
    (e ∙ ap (λ (t : Tree). append_known last (shortest t)) (c.in_ok-end.ensures ∙ ap book_end count)))
    c.put_value-2.ensures.ok

pub returns-clause-err : goal.returns-clause-err
returns-clause-err g c =
    let before = (g.S.Sink.words c.args.sink.now).taken in
    let middle = (g.S.Sink.words c.put_value.new.sink).taken in
    let last = (g.S.Sink.words c.write_entries.new.sink).taken in
    let count : c.len.result ≡ length (plain_entries c.args.history.now.entries) = c.len.ensures.count ∙ sym (plain_length c.args.history.now.entries) in
    on_err c.put_value-2.result _ _
    (λ cut.
    end_of_book c.args.start (plain_entries c.args.history.now.entries) before middle last (g.S.Sink.words c.put_value-2.new.sink).taken cut.0
    (c.in_ok-put_value.ensures.ok ∙ ap (λ (t : Tree). append_known before (shortest t)) c.in_ok-head.ensures)
    (subst (λ (l : List world.Entry). WentOut c.args.start Book (plain_entries l) middle last) c.entries.ensures c.in_ok-write_entries.ensures.ok)
    (cut.1 ∙ ap (λ (t : Tree). append_known last (take cut.0 (shortest t))) (c.in_ok-end.ensures ∙ ap book_end count)))
    c.put_value-2.ensures.err
