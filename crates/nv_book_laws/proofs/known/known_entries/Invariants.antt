-- Where the entries that are left are so, all are.
use Rattle.std.proofs.Common.{drop}
use Rattle.std.specs.List.{AllByRecursion}
use Rattle.nv_core.specs.Contents.{plain_entries}
use Rattle.nv_book_laws.specs.Laws.{IsTypedEntry}
use Rattle.nv_book_laws.proofs.known.known_entries.Given as goal

abbrev pub invariant-loop-entry : goal.invariant-loop-entry
invariant-loop-entry l =
    AllByRecursion IsTypedEntry (plain_entries (drop l.entry-index l.entries)) → AllByRecursion IsTypedEntry (plain_entries l.entries)
