-- A whole book, by what was written of its parts.
use Rattle.std.proofs.Common.{◌≡◌, ℕ, zero, suc, ◌+◌, ◌≤◌, min, List, [], ◌∷◌, ◌++◌, length, take, map, Option, refl, sym, ap, ◌∙◌, subst, arith, append_assoc, append-nil}
use Rattle.std.specs.Prelude.{flat_map}
use Rattle.std.specs.Io.KnownBytes.{append_known}
use Rattle.std.proofs.lemmas.List.{take_all, take_min, take-append-le, length-map}
use Rattle.nv_value.specs.Content.{Tree}
use Rattle.nv_msgpack.specs.Shortest.{shortest}
use Rattle.nv_history.specs.Events.{Entry}
use Rattle.nv_core.specs.Contents.{plain_entries}
use Rattle.nv_core.specs.declared.entry.Entry as world
use Rattle.nv_core.specs.declared.start.Start.{Start}
use Rattle.nv_book.specs.Books.{Recorded, entries_of_records, recorded_values, book_head, book_end, front_values, book_values, bytes_of_book, shortest_of_all}
use Rattle.nv_book.specs.Outputs.{replay_values, numbered_piece, session_named, AreOutputs}
use Rattle.nv_book.specs.Writing.{WroteBook, WroteReplay, values_so_far, WroteBookFront, WroteReplayFront}
use Rattle.nv_book.specs.declared.form.Form.TheVariants.{Book, Outputs}
use Rattle.nv_book.specs.inside.Steps.{trees_of_record, trees_of_records, WentOut, WentOutInPart}
use Rattle.nv_book.proofs.Spelling.{spelled_more}
use Rattle.nv_book.proofs.Going.{length_entries, known_none, known_then, known_cut}

-- what is written of entries, in each form
book_alike : (at : ℕ) (rs : List Recorded) → trees_of_records Book at rs ≡ flat_map recorded_values rs
book_alike at [] = refl
book_alike at (r ∷ rs) = ap (λ (l : List Tree). recorded_values r ++ l) (book_alike (at + 1) rs)

replay_alike : (at : ℕ) (rs : List Recorded) → trees_of_records Outputs at rs ≡ replay_values at rs
replay_alike at [] = refl
replay_alike at (r ∷ rs) = ap (λ (l : List Tree). trees_of_record Outputs at r ++ l) (replay_alike (at + 1) rs)

pub replay_all : (start : Start) (history : List Entry) (before after : Option (List ℕ)) → WentOut start Outputs history before after → WroteReplay start history before after
replay_all start history before after w = record {
  records = w.records;
  entries_are = w.entries_are;
  outputs = w.outputs;
  written = w.written ∙ ap (λ (l : List Tree). append_known before (shortest_of_all l)) (replay_alike 0 w.records);
}

pub replay_part : (start : Start) (history : List Entry) (before after : Option (List ℕ)) → WentOutInPart start Outputs history before after → WroteReplayFront start history before after
replay_part start history before after w = record {
  records = w.records;
  more = w.more;
  entries_are = w.entries_are;
  outputs = w.outputs;
  count = w.count;
  written = w.written ∙ ap (λ (l : List Tree). append_known before (take w.count (shortest_of_all l))) (replay_alike 0 w.records);
}

-- ---- the bytes of a book

abbrev pub entry_bytes : List Recorded → List ℕ
entry_bytes rs = shortest_of_all (trees_of_records Book 0 rs)

abbrev pub tail_bytes : List Recorded → List Entry → List ℕ
tail_bytes rs [] = shortest (book_end (length rs))
tail_bytes rs (e ∷ more) = []

front_bytes : (outbox : ℕ) (rs : List Recorded) → shortest_of_all (front_values outbox rs) ≡ shortest (book_head outbox) ++ entry_bytes rs
front_bytes outbox rs = ap (λ (l : List Tree). shortest (book_head outbox) ++ shortest_of_all l) (sym (book_alike 0 rs))

whole_bytes : (outbox : ℕ) (rs : List Recorded) → bytes_of_book outbox rs ≡ shortest (book_head outbox) ++ (entry_bytes rs ++ shortest (book_end (length rs)))
whole_bytes outbox rs =
    spelled_more (front_values outbox rs) (book_end (length rs) ∷ [])
    ∙ ap (λ (l : List ℕ). shortest_of_all (front_values outbox rs) ++ l) (append-nil (shortest (book_end (length rs))))
    ∙ ap (λ (l : List ℕ). l ++ shortest (book_end (length rs))) (front_bytes outbox rs)
    ∙ append_assoc (shortest (book_head outbox)) (entry_bytes rs) (shortest (book_end (length rs)))

bytes_so_far : (outbox : ℕ) (rs : List Recorded) (more : List Entry) → shortest_of_all (values_so_far outbox rs more) ≡ shortest (book_head outbox) ++ (entry_bytes rs ++ tail_bytes rs more)
bytes_so_far outbox rs [] = whole_bytes outbox rs
bytes_so_far outbox rs (e ∷ more) = front_bytes outbox rs ∙ ap (λ (l : List ℕ). shortest (book_head outbox) ++ l) (sym (append-nil (entry_bytes rs)))

-- a part of what comes first is a part of all
within : (a b : List ℕ) (n : ℕ) → take n a ≡ take (min n (length a)) (a ++ b)
within a b n = sym (take_min n a) ∙ sym (take-append-le (min n (length a)) a b (omega arith))

behind_head : (before middle after : Option (List ℕ)) (h e t : List ℕ) (n : ℕ) → middle ≡ append_known before h → after ≡ append_known middle (take n e)
    → after ≡ append_known before (take (length h + min n (length e)) (h ++ (e ++ t)))
behind_head before middle after h e t n m a =
    a
    ∙ ap (λ (o : Option (List ℕ)). append_known o (take n e)) m
    ∙ ap (λ (l : List ℕ). append_known (append_known before h) l) (within e t n)
    ∙ known_cut before h (e ++ t) (min n (length e))

records_are : (rs : List Recorded) (history : List Entry) → entries_of_records rs ≡ history → length rs ≡ length history
records_are rs history e = sym (length_entries rs) ∙ ap (length {A = Entry}) e

-- ---- what was written by then

pub nothing_of_book : (start : Start) (history : List Entry) (out : Option (List ℕ)) → WroteBookFront start history out out
nothing_of_book start history out =
    record { records = []; more = history; entries_are = refl; outputs = tt; count = 0; written = known_none out }

pub head_of_book : (start : Start) (history : List Entry) (before after : Option (List ℕ)) (n : ℕ) → after ≡ append_known before (take n (shortest (book_head start.outbox)))
    → WroteBookFront start history before after
head_of_book start history before after n a =
    let h = shortest (book_head start.outbox) in
    record {
      records = [];
      more = history;
      entries_are = refl;
      outputs = tt;
      count = min n (length h);
      written =
          a
          ∙ ap (append_known before) (within h (entry_bytes [] ++ tail_bytes [] history) n)
          ∙ ap (λ (l : List ℕ). append_known before (take (min n (length h)) l)) (sym (bytes_so_far start.outbox [] history));
    }

pub entries_of_book : (start : Start) (history : List Entry) (before middle after : Option (List ℕ)) → middle ≡ append_known before (shortest (book_head start.outbox))
    → WentOutInPart start Book history middle after → WroteBookFront start history before after
entries_of_book start history before middle after m w =
    let h = shortest (book_head start.outbox) in
    let n = length h + min w.count (length (entry_bytes w.records)) in
    record {
      records = w.records;
      more = w.more;
      entries_are = w.entries_are;
      outputs = w.outputs;
      count = n;
      written =
          behind_head before middle after h (entry_bytes w.records) (tail_bytes w.records w.more) w.count m w.written
          ∙ ap (λ (l : List ℕ). append_known before (take n l)) (sym (bytes_so_far start.outbox w.records w.more));
    }

-- all entries, and a part of the end
pub end_of_book : (start : Start) (history : List Entry) (before middle last after : Option (List ℕ)) (n : ℕ) → middle ≡ append_known before (shortest (book_head start.outbox))
    → (w : WentOut start Book history middle last) → after ≡ append_known last (take n (shortest (book_end (length history)))) → WroteBookFront start history before after
end_of_book start history before middle last after n m w a =
    let h = shortest (book_head start.outbox) in
    let e = entry_bytes w.records in
    let t = shortest (book_end (length w.records)) in
    record {
      records = w.records;
      more = [];
      entries_are = sym (append-nil (entries_of_records w.records) ∙ w.entries_are);
      outputs = w.outputs;
      count = length h + (length e + n);
      written =
          a
          ∙ ap (λ (k : ℕ). append_known last (take n (shortest (book_end k)))) (sym (records_are w.records history w.entries_are))
          ∙ ap (λ (o : Option (List ℕ)). append_known o (take n t)) w.written
          ∙ known_cut middle e t n
          ∙ ap (λ (o : Option (List ℕ)). append_known o (take (length e + n) (e ++ t))) m
          ∙ known_cut before h (e ++ t) (length e + n)
          ∙ ap (λ (l : List ℕ). append_known before (take (length h + (length e + n)) l)) (sym (whole_bytes start.outbox w.records));
    }

pub all_of_book : (start : Start) (history : List Entry) (before middle last after : Option (List ℕ)) → middle ≡ append_known before (shortest (book_head start.outbox))
    → WentOut start Book history middle last → after ≡ append_known last (shortest (book_end (length history))) → WroteBook start history before after
all_of_book start history before middle last after m w a =
    let h = shortest (book_head start.outbox) in
    let e = entry_bytes w.records in
    let t = shortest (book_end (length w.records)) in
    record {
      records = w.records;
      entries_are = w.entries_are;
      outputs = w.outputs;
      written =
          a
          ∙ ap (λ (k : ℕ). append_known last (shortest (book_end k))) (sym (records_are w.records history w.entries_are))
          ∙ ap (λ (o : Option (List ℕ)). append_known o t) w.written
          ∙ known_then middle e t
          ∙ ap (λ (o : Option (List ℕ)). append_known o (e ++ t)) m
          ∙ known_then before h (e ++ t)
          ∙ ap (append_known before) (sym (whole_bytes start.outbox w.records));
    }

-- a history has as many entries as its world's
pub plain_length : (es : List world.Entry) → length (plain_entries es) ≡ length es
plain_length [] = refl
plain_length (e ∷ es) = ap suc (plain_length es)
