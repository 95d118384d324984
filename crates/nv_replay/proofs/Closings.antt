-- How a replay ends, from how its parts end.
use Rattle.std.proofs.Common.{◌≡◌, ◌⊎◌, inl, inr, ◌∙◌, ℕ, List, [], ◌∷◌, ◌++◌, length, take, Option, Some, None, IsSome, ap, refl, sym, subst}
use Rattle.std.specs.Io.KnownBytes.{append_known}
use Rattle.nv_model.specs.declared.parts.Limits.{Limits}
use Rattle.nv_history.specs.Events.{Entry}
use Rattle.nv_history.specs.Runs.{run}
use Rattle.nv_core.specs.Contents.{plain_entries}
use Rattle.nv_core.specs.declared.entry.Entry.{Entry as HeldEntry}
use Rattle.nv_core.specs.declared.start.Start.{Start}
use Rattle.nv_book.specs.Books.{Recorded, entries_of_records}
use Rattle.nv_book.specs.Outputs.{AreOutputs}
use Rattle.nv_book.specs.Reading.{IsRead, IsReplaying, IsWhyUnread, Replaying}
use Rattle.nv_book.specs.Writing.{WroteBookFront, WroteReplay, WroteReplayFront}
use Rattle.nv_book.specs.declared.faults.Unread.{Unread}
use Rattle.nv_book.specs.declared.faults.Unread.TheVariants as unread
use Rattle.nv_book.specs.declared.replay.Book.{Book}
use Rattle.nv_watch.specs.Verdicts.{Sight}
use Rattle.nv_watch.specs.declared.verdict.Verdict.{Verdict}
use Rattle.nv_replay.specs.Ends.{CheckEnds, HasGoneOver, HasBookRead, ReplayEnds, start_within}
use Rattle.nv_replay.specs.Sights.{AreSights}
use Rattle.nv_replay.specs.Summary.{bytes_of_outputs, count_of_kind, is_opening, is_take, line_of_counts, most_counted, summary_line}
use Rattle.nv_replay.specs.inside.Endings.{Concludes, HasTallied, WritesOutputs, end_of_unread, line_for}
use Rattle.nv_replay.specs.inside.Tallies.{IsGoneOver}
use Rattle.nv_replay.specs.declared.checking.GoneOver.{GoneOver}
use Rattle.nv_replay.specs.declared.ending.ReplayEnd.{ReplayEnd}
use Rattle.nv_replay.specs.declared.ending.ReplayEnd.TheVariants.{Done, NoMemory, ReadFault, WriteFault, Malformed, Differs, Objects}
use Rattle.nv_replay.specs.declared.tallying.Tally.{Tally}
use Rattle.nv_replay.proofs.Comparing.{count_of_entries, no_difference}
use Rattle.nv_replay.proofs.Givings.{known_none}

pub start_is : (start : Start) (limits : Limits) → start.limits ≡ limits → start ≡ start_within start.outbox limits
start_is start limits e = λ i. record { outbox = start.outbox; limits = e i }

-- ---- no book

pub replay_unread : (limits : Limits) (bytes : List ℕ) (left before after : Option (List ℕ)) (found kept : List Entry) (fault : Unread) → kept ≡ found → after ≡ before
    → IsWhyUnread limits bytes left fault → ReplayEnds limits (end_of_unread fault) bytes left found kept before after
replay_unread limits bytes left before after found kept unread.NoMemory none same h = inl (none, same)
replay_unread limits bytes left before after found kept unread.ReadFault none same h = (none, same)
replay_unread limits bytes left before after found kept (unread.Malformed n) none same h = (h, (none, same))

pub check_unread : (limits : Limits) (bytes : List ℕ) (left before after : Option (List ℕ)) (found kept : List Entry) (count : ℕ) (seen : List Sight) (fault : Unread) → kept ≡ found
    → after ≡ before → IsWhyUnread limits bytes left fault → CheckEnds limits (end_of_unread fault) bytes left found kept before after count seen []
check_unread limits bytes left before after found kept count seen unread.NoMemory none same h = (none, same)
check_unread limits bytes left before after found kept count seen unread.ReadFault none same h = (none, same)
check_unread limits bytes left before after found kept count seen (unread.Malformed n) none same h = (h, (none, same))

-- ---- a book that is played again

has_read : (limits : Limits) (bytes : List ℕ) (left : Option (List ℕ)) (book : Book) (kept : List Entry) (is : IsRead limits bytes left book) → kept ≡ plain_entries book.history.entries
    → HasBookRead limits bytes left book.start.outbox is.records kept
has_read limits bytes left book kept is same = record {
  read_out = is.read_out;
  book = is.is;
  kept_is = same ∙ is.history_is;
  runs = subst (λ (es : List Entry). IsSome (run book.start.outbox limits es)) (sym same) is.runs;
}

pub replay_read : (limits : Limits) (bytes : List ℕ) (left before after : Option (List ℕ)) (book : Book) (found kept : List Entry) (end : ReplayEnd)
    → IsRead limits bytes left book → kept ≡ plain_entries book.history.entries
    → WritesOutputs book.start end (plain_entries book.history.entries) before after → ReplayEnds limits end bytes left found kept before after
replay_read limits bytes left before after book found kept Done is same w = record {
  outbox = book.start.outbox;
  records = is.records;
  read = has_read limits bytes left book kept is same;
  wrote = subst (λ (es : List Entry). WroteReplay (start_within book.start.outbox limits) es before after) (sym same)
      (subst (λ (s : Start). WroteReplay s (plain_entries book.history.entries) before after) (start_is book.start limits is.limits_are) w);
}
replay_read limits bytes left before after book found kept WriteFault is same w = record {
  outbox = book.start.outbox;
  records = is.records;
  read = has_read limits bytes left book kept is same;
  wrote = subst (λ (es : List Entry). WroteReplayFront (start_within book.start.outbox limits) es before after) (sym same)
      (subst (λ (s : Start). WroteReplayFront s (plain_entries book.history.entries) before after) (start_is book.start limits is.limits_are) w);
}
replay_read limits bytes left before after book found kept NoMemory is same w = inr (record {
  outbox = book.start.outbox;
  records = is.records;
  read = has_read limits bytes left book kept is same;
  wrote = subst (λ (es : List Entry). WroteReplayFront (start_within book.start.outbox limits) es before after) (sym same)
      (subst (λ (s : Start). WroteReplayFront s (plain_entries book.history.entries) before after) (start_is book.start limits is.limits_are) w);
})
replay_read limits bytes left before after book found kept ReadFault is same w = absurd w
replay_read limits bytes left before after book found kept (Malformed n) is same w = absurd w
replay_read limits bytes left before after book found kept (Differs n) is same w = absurd w
replay_read limits bytes left before after book found kept (Objects place n) is same w = absurd w

-- ---- a book that is gone over

pub tallied : (limits : Limits) (bytes : List ℕ) (left : Option (List ℕ)) (seen : List Sight) (t : Tally) (r : Replaying) (gone : GoneOver) → r.start.limits ≡ limits
    → IsGoneOver bytes left seen t r → gone.tally ≡ t → gone.history.entries ≡ r.world.history → HasTallied limits bytes left seen gone
tallied limits bytes left seen t r gone begins over tally history =
    let entries_are : plain_entries gone.history.entries ≡ entries_of_records over.records = ap plain_entries history ∙ over.replayed.played_are.history in
    let start : r.start ≡ start_within r.start.outbox limits = start_is r.start limits begins in
    record {
      outbox = r.start.outbox;
      records = over.records;
      played = over.played;
      over = record {
        read = record {
          read_out = over.replayed.read_out;
          book = over.replayed.book;
          kept_is = entries_are;
          runs = subst (λ (es : List Entry). IsSome (run r.start.outbox limits es)) (sym entries_are)
              (subst (λ (l : Limits). IsSome (run r.start.outbox l (entries_of_records over.records))) begins over.replayed.enter);
        };
        same = over.replayed.played_are.same;
        outputs = subst (λ (s : Start). AreOutputs s over.played) start over.replayed.outputs;
        sights = subst (λ (s : Start). AreSights s [] over.played seen) start over.sights;
      };
      tally_is = subst (λ (u : Tally). Rattle.nv_replay.specs.inside.Tallies.IsTallyOf over.records over.played u) (sym tally) over.tally_is;
    }

line_is : (kept : List Entry) (rs : List Recorded) (b : ℕ) → kept ≡ entries_of_records rs → b ≡ most_counted (bytes_of_outputs rs) → line_for kept b ≡ summary_line rs
line_is kept rs b kept_is b_is =
    ap (λ (es : List Entry). line_for es b) kept_is ∙ ap (λ (n : ℕ). line_for (entries_of_records rs) n) b_is
    ∙ ap (λ (n : ℕ). line_of_counts n (count_of_kind is_opening (entries_of_records rs)) (count_of_kind is_take (entries_of_records rs)) (most_counted (bytes_of_outputs rs)))
    (count_of_entries rs)

module _ (limits : Limits) (bytes : List ℕ) (left : Option (List ℕ)) (seen : List Sight) (gone : GoneOver) (h : HasTallied limits bytes left seen gone) where
  kept_over : (kept : List Entry) → kept ≡ plain_entries gone.history.entries → HasGoneOver limits bytes left kept h.outbox h.records h.played seen
  kept_over kept is = subst (λ (es : List Entry). HasGoneOver limits bytes left es h.outbox h.records h.played seen) (sym is) h.over

  -- where no output differs they are all the same
  all_same : gone.tally.differs ≡ None → h.played ≡ h.records
  all_same none = no_difference 0 h.records h.played h.over.same (sym h.tally_is.differs_is ∙ none)

  same_over : (kept : List Entry) → kept ≡ plain_entries gone.history.entries → gone.tally.differs ≡ None → HasGoneOver limits bytes left kept h.outbox h.records h.records seen
  same_over kept is none = subst (λ (ps : List Recorded). HasGoneOver limits bytes left kept h.outbox h.records ps seen) (all_same none) (kept_over kept is)

  line : (kept : List Entry) → kept ≡ plain_entries gone.history.entries → gone.tally.differs ≡ None → line_for kept gone.tally.bytes ≡ summary_line h.records
  line kept is none =
      line_is kept h.records gone.tally.bytes (is ∙ h.over.read.kept_is) (h.tally_is.bytes_are ∙ ap (λ (ps : List Recorded). most_counted (bytes_of_outputs ps)) (all_same none))

  pub check_ends : (before after : Option (List ℕ)) (found kept : List Entry) (count : ℕ) (verdicts : List Verdict) (end : ReplayEnd)
      → Concludes gone end found kept before after count verdicts → CheckEnds limits end bytes left found kept before after count seen verdicts
  check_ends before after found kept count verdicts Done c = record {
    outbox = h.outbox;
    records = h.records;
    over = same_over kept c.2 c.0;
    yes = c.1;
    wrote = c.3 ∙ ap (λ (l : List ℕ). append_known before l) (line kept c.2 c.0);
  }
  check_ends before after found kept count verdicts WriteFault c = record {
    outbox = h.outbox;
    records = h.records;
    over = same_over kept c.2 c.0;
    yes = c.1;
    wrote = (c.3, c.4 ∙ ap (λ (l : List ℕ). append_known before (take c.3 l)) (line kept c.2 c.0));
  }
  check_ends before after found kept count verdicts NoMemory c = c
  check_ends before after found kept count verdicts ReadFault c = absurd c
  check_ends before after found kept count verdicts (Malformed n) c = absurd c
  check_ends before after found kept count verdicts (Differs n) c = (
    record {
      outbox = h.outbox;
      records = h.records;
      played = h.played;
      over = kept_over kept c.1;
      differs = sym h.tally_is.differs_is ∙ c.0;
    },
    c.2,
  )
  check_ends before after found kept count verdicts (Objects place n) c = (
    record {
      outbox = h.outbox;
      records = h.records;
      over = same_over kept c.2 c.0;
      no = c.1;
    },
    c.3,
  )

-- ---- books

-- nothing of a book was written
pub no_book_written : (start : Start) (history : List Entry) (before : Option (List ℕ)) → WroteBookFront start history before before
no_book_written start history before = record {
  records = [];
  more = history;
  entries_are = refl;
  outputs = tt;
  count = 0;
  written = known_none before;
}
