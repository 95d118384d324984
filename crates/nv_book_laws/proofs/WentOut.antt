-- What goes out as the book of a history is a book of it.
use Rattle.std.proofs.Common.{◌≡◌, List, [], ◌∷◌, sym, subst}
use Rattle.std.specs.List.{AllByRecursion}
use Rattle.nv_history.specs.Events.{Entry}
use Rattle.nv_book.specs.Books.{Recorded, entries_of_records, bytes_of_book, IsFitEntry, IsFairRecord}
use Rattle.nv_book_laws.specs.Laws.{HaveOutputsByTakes, OutputsAreOfTakes, IsSpellable, WrittenIsBook, IsTypedEntry, WroteIsBook}
use Rattle.nv_book_laws.proofs.Takes.{outputs_are_of_takes}
use Rattle.nv_book_laws.proofs.Written.{written_is_book}

fair_by : (rs : List Recorded) → AllByRecursion IsTypedEntry (entries_of_records rs) → HaveOutputsByTakes rs → AllByRecursion IsFairRecord rs
fair_by [] typed takes = tt
fair_by (r ∷ rs) typed takes = (record { caller = typed.0.caller; call = typed.0.call; output = takes.0 }, fair_by rs typed.1 takes.1)

spellable_by : (es : List Entry) → AllByRecursion IsTypedEntry es → AllByRecursion IsFitEntry es → AllByRecursion IsSpellable es
spellable_by [] typed fit = tt
spellable_by (e ∷ es) typed fit = (record { fit = fit.0; typed = typed.0.parts }, spellable_by es typed.1 fit.1)

pub wrote_is_book : WroteIsBook
unfolding WroteIsBook WrittenIsBook OutputsAreOfTakes
wrote_is_book start history before after least most typed fit wrote few =
    let rs = wrote.records in
    let back : history ≡ entries_of_records rs = sym wrote.entries_are in
    let all_typed = subst (λ (es : List Entry). AllByRecursion IsTypedEntry es) back typed in
    let all_spellable = subst (λ (es : List Entry). AllByRecursion IsSpellable es) back (spellable_by history typed fit) in
    let fair = fair_by rs all_typed (outputs_are_of_takes start rs wrote.outputs) in record {
      bytes = bytes_of_book start.outbox rs;
      records = rs;
      entries_are = wrote.entries_are;
      outputs = wrote.outputs;
      is = written_is_book start.outbox rs (record { least = least; most = most; each = fair }) all_spellable few;
      written = wrote.written;
    }
