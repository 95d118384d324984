-- What is written entry by entry.
use Rattle.std.proofs.Common.{◌≡◌, ℕ, zero, suc, ◌+◌, false, ◌≤◌, List, [], ◌∷◌, ◌++◌, length, take, drop, map, get_or, Option, Some, None, refl, sym, ap, ◌∙◌, subst, arith, append_assoc, append-nil, length-append}
use Rattle.std.proofs.lemmas.Grind.{common_steps}
use Rattle.std.specs.Prelude.{◌<◌, ⊤, option_and_then, option_map, IsSome, slice_get}
use Rattle.std.specs.Io.KnownBytes.{append_known}
use Rattle.std.proofs.lemmas.List.{map-append, take_all, take_more}
use Rattle.std.proofs.lemmas.Option.{same_Some}
use Rattle.std.proofs.Math.Seq.{split_at}
use Rattle.nv_value.specs.Content.{Tree}
use Rattle.nv_painter.specs.Painters.{Painting}
use Rattle.nv_history.specs.Events.{Event, Entry}
use Rattle.nv_history.specs.Worlds.{World, fresh_world, step, world_made}
use Rattle.nv_history.specs.Runs.{run_from, run}
use Rattle.nv_history.proofs.GoingRuns.{run-append}
use Rattle.nv_core.specs.Contents.{plain_entry, plain_entries}
use Rattle.nv_world.specs.Worlds.{WorldRecord, model_of}
use Rattle.nv_core.specs.declared.entry.Entry as world
use Rattle.nv_core.specs.declared.start.Start.{Start}
use Rattle.nv_book.specs.Books.{Recorded, entries_of_records, shortest_of_all, IsFitEntry}
use Rattle.nv_book.specs.Outputs.{nobody_told, Plays}
use Rattle.nv_book.specs.Writing.{IsUnfitAt}
use Rattle.nv_book.specs.declared.faults.BookFault.{BookFault}
use Rattle.nv_book.specs.declared.faults.BookFault.TheVariants.{NoMemory, WriteFault, Unfit}
use Rattle.nv_book.specs.declared.form.Form.{Form}
use Rattle.nv_book.specs.inside.Playing.{told_at, IsPlayedTo, PlaysOne}
use Rattle.nv_book.specs.inside.Steps.{trees_of_record, trees_of_records, WritesOne, WritesCut, StopsOne, HasWritten, WentOut, WentOutInPart}
use Rattle.nv_book.proofs.Playing.{plays_next, plays_whatever, plays_led}
use Rattle.nv_book.proofs.Spelling.{spelled_more, trees_push}

-- ---- bytes that went out

pub known_none : (known : Option (List ℕ)) → known ≡ append_known known []
known_none None = refl
known_none (Some bytes) = ap Some (sym (append-nil bytes))

pub known_then : (known : Option (List ℕ)) (a b : List ℕ) → append_known (append_known known a) b ≡ append_known known (a ++ b)
known_then None a b = refl
known_then (Some bytes) a b = ap Some (append_assoc bytes a b)

take_behind : (a b : List ℕ) (n : ℕ) → take (length a + n) (a ++ b) ≡ a ++ take n b
take_behind [] b n = ap (λ (k : ℕ). take k b) (omega arith)
take_behind (x ∷ a) b n =
    let e : length (x ∷ a) + n ≡ suc (length a + n) = omega arith in
    ap (λ (k : ℕ). take k (x ∷ a ++ b)) e ∙ ap (λ (l : List ℕ). x ∷ l) (take_behind a b n)

-- all of what comes first, and a part of what follows
pub known_cut : (known : Option (List ℕ)) (a b : List ℕ) (n : ℕ) → append_known (append_known known a) (take n b) ≡ append_known known (take (length a + n) (a ++ b))
known_cut known a b n = known_then known a (take n b) ∙ ap (append_known known) (sym (take_behind a b n))

pub known_all : (known : Option (List ℕ)) (a : List ℕ) → append_known known a ≡ append_known known (take (length a) a)
known_all known a = ap (append_known known) (sym (take_all (length a) a (omega arith)))

-- ---- entry by entry

pub told_first : (s : ℕ) → told_at [] s ≡ nobody_told s
told_first zero = refl
told_first (suc s) = refl

pub written_none : (start : Start) (form : Form) (k : WorldRecord) (ps : List Painting) (out : Option (List ℕ))
    → k ≡ record { capacity = start.outbox; limits = start.limits; history = []; spent = false } → ps ≡ [] → HasWritten start form [] k ps out out
written_none start form k ps out e p = record {
  records = [];
  entries_are = refl;
  plays = (ap model_of e, λ s. ap (λ (l : List Painting). told_at l s) p ∙ told_first s);
  written = known_none out;
}

pub nothing_out : (start : Start) (form : Form) (history : List Entry) (out : Option (List ℕ)) → WentOutInPart start form history out out
nothing_out start form history out = record { records = []; more = history; entries_are = refl; outputs = tt; count = 0; written = known_none out }

entries_push : (rs : List Recorded) (r : Recorded) → entries_of_records (rs ++ r ∷ []) ≡ entries_of_records rs ++ r.entry ∷ []
entries_push rs r = map-append (λ (x : Recorded). x.entry) rs (r ∷ [])

spelled_push : (form : Form) (at : ℕ) (rs : List Recorded) (r : Recorded) → at ≡ length rs
    → shortest_of_all (trees_of_records form 0 (rs ++ r ∷ [])) ≡ shortest_of_all (trees_of_records form 0 rs) ++ shortest_of_all (trees_of_record form at r)
spelled_push form at rs r e =
    ap shortest_of_all (trees_push form 0 rs r ∙ ap (λ (n : ℕ). trees_of_records form 0 rs ++ trees_of_record form n r) (omega (arith, e)))
    ∙ spelled_more (trees_of_records form 0 rs) (trees_of_record form at r)

pub length_entries : (rs : List Recorded) → length (entries_of_records rs) ≡ length rs
length_entries [] = refl
length_entries (r ∷ rs) = ap suc (length_entries rs)

number_of : (start : Start) (form : Form) (done : List Entry) (k : WorldRecord) (ps : List Painting) (before after : Option (List ℕ)) (at : ℕ)
    → (h : HasWritten start form done k ps before after) → at ≡ length done → at ≡ length h.records
number_of start form done k ps before after at h e = e ∙ ap (length {A = Entry}) (sym h.entries_are) ∙ length_entries h.records

pub written_next : (start : Start) (form : Form) (done : List Entry) (at : ℕ) (e : Entry) (old new : WorldRecord) (ps qs : List Painting) (before middle after : Option (List ℕ))
    → at ≡ length done → HasWritten start form done old ps before middle → WritesOne form at e old ps new qs middle after → HasWritten start form (done ++ e ∷ []) new qs before after
written_next start form done at e old new ps qs before middle after number h one =
    let r : Recorded = record { entry = e; output = one.output } in
    record {
      records = h.records ++ r ∷ [];
      entries_are = entries_push h.records r ∙ ap (λ (l : List Entry). l ++ e ∷ []) h.entries_are;
      plays = plays_next (fresh_world start.outbox start.limits) nobody_told h.records e one.output old new ps qs h.plays one.plays;
      written =
          one.written
          ∙ ap (λ (o : Option (List ℕ)). append_known o (shortest_of_all (trees_of_record form at r))) h.written
          ∙ known_then before (shortest_of_all (trees_of_records form 0 h.records)) (shortest_of_all (trees_of_record form at r))
          ∙ ap (append_known before) (sym (spelled_push form at h.records r (number_of start form done old ps before middle at h number)));
    }

pub written_all : (start : Start) (form : Form) (done : List Entry) (k : WorldRecord) (ps : List Painting) (before after : Option (List ℕ)) → HasWritten start form done k ps before after → WentOut start form done before after
written_all start form done k ps before after h = record {
  records = h.records;
  entries_are = h.entries_are;
  outputs = plays_whatever (fresh_world start.outbox start.limits) nobody_told h.records (IsPlayedTo k ps) h.plays;
  written = h.written;
}

-- nothing went out of what follows
pub written_part : (start : Start) (form : Form) (all done more : List Entry) (k : WorldRecord) (ps : List Painting) (before middle after : Option (List ℕ))
    → all ≡ done ++ more → HasWritten start form done k ps before middle → after ≡ middle → WentOutInPart start form all before after
written_part start form all done more k ps before middle after parts h same = record {
  records = h.records;
  more = more;
  entries_are = parts ∙ ap (λ (l : List Entry). l ++ more) (sym h.entries_are);
  outputs = plays_whatever (fresh_world start.outbox start.limits) nobody_told h.records (IsPlayedTo k ps) h.plays;
  count = length (shortest_of_all (trees_of_records form 0 h.records));
  written = same ∙ h.written ∙ known_all before (shortest_of_all (trees_of_records form 0 h.records));
}

written_cut : (start : Start) (form : Form) (all done more : List Entry) (at : ℕ) (e : Entry) (old new : WorldRecord) (ps qs : List Painting) (before middle after : Option (List ℕ))
    → all ≡ done ++ e ∷ more → at ≡ length done → HasWritten start form done old ps before middle → WritesCut form at e old ps new qs middle after → WentOutInPart start form all before after
written_cut start form all done more at e old new ps qs before middle after parts number h cut =
    let r : Recorded = record { entry = e; output = cut.output } in
    record {
      records = h.records ++ r ∷ [];
      more = more;
      entries_are =
          parts
          ∙ ap (λ (l : List Entry). l ++ e ∷ more) (sym h.entries_are)
          ∙ sym (append_assoc (entries_of_records h.records) (e ∷ []) more)
          ∙ ap (λ (l : List Entry). l ++ more) (sym (entries_push h.records r));
      outputs = plays_whatever (fresh_world start.outbox start.limits) nobody_told (h.records ++ r ∷ []) (IsPlayedTo new qs)
          (plays_next (fresh_world start.outbox start.limits) nobody_told h.records e cut.output old new ps qs h.plays cut.plays);
      count = length (shortest_of_all (trees_of_records form 0 h.records)) + cut.count;
      written =
          cut.written
          ∙ ap (λ (o : Option (List ℕ)). append_known o (take cut.count (shortest_of_all (trees_of_record form at r)))) h.written
          ∙ known_cut before (shortest_of_all (trees_of_records form 0 h.records)) (shortest_of_all (trees_of_record form at r)) cut.count
          ∙ ap (λ (l : List ℕ). append_known before (take (length (shortest_of_all (trees_of_records form 0 h.records)) + cut.count) l))
          (sym (spelled_push form at h.records r (number_of start form done old ps before middle at h number)));
    }

-- an entry stopped it
pub stopped : (start : Start) (form : Form) (all done more : List Entry) (at : ℕ) (e : Entry) (fault : BookFault) (old new : WorldRecord) (ps qs : List Painting) (before middle after : Option (List ℕ))
    → all ≡ done ++ e ∷ more → at ≡ length done → HasWritten start form done old ps before middle → StopsOne form at e fault old ps new qs middle after → WentOutInPart start form all before after
stopped start form all done more at e WriteFault old new ps qs before middle after parts number h stop = written_cut start form all done more at e old new ps qs before middle after parts number h stop
stopped start form all done more at e NoMemory old new ps qs before middle after parts number h stop = written_part start form all done (e ∷ more) old ps before middle after parts h stop
stopped start form all done more at e (Unfit n) old new ps qs before middle after parts number h stop = written_part start form all done (e ∷ more) old ps before middle after parts h stop.2

get_behind : (done more : List Entry) (e : Entry) → slice_get (done ++ e ∷ more) (length done) ≡ Some e
get_behind [] more e = refl
get_behind (x ∷ done) more e = get_behind done more e

pub unfit_there : (all done more : List Entry) (at n : ℕ) (e : Entry) → all ≡ done ++ e ∷ more → at ≡ length done → n ≡ at → (IsFitEntry e → ⊥) → IsUnfitAt all n
unfit_there all done more at n e parts number same unfit =
    (e, (ap (λ (l : List Entry). slice_get l n) parts ∙ ap (slice_get (done ++ e ∷ more)) (same ∙ number) ∙ get_behind done more e), unfit)

-- ---- each entry enters

some_next : (rest : List Entry) (e : Entry) (o : Option World) → IsSome (option_and_then (λ u. run_from u rest) o) → IsSome o
some_next rest e None h = h
some_next rest e (Some u) h = refl

enters_next : (w : World) (e : Entry) (rest : List Entry) → IsSome (run_from w (e ∷ rest)) → IsSome (world_made (step w e.event))
enters_next w e rest h = some_next rest e (world_made (step w e.event)) h

pub next_enters : (start : Start) (form : Form) (all done rest : List Entry) (e : Entry) (k : WorldRecord) (ps : List Painting) (before after : Option (List ℕ))
    → IsSome (run start.outbox start.limits all) → all ≡ done ++ e ∷ rest → HasWritten start form done k ps before after
    → (w : World) → model_of k ≡ Some w → IsSome (world_made (step w e.event))
next_enters start form all done rest e k ps before after runs parts h w at =
    let fresh = fresh_world start.outbox start.limits in
    let led = plays_led fresh nobody_told h.records (IsPlayedTo k ps) h.plays in
    let same : led.then_world ≡ w = same_Some led.then_world w (sym led.holds.0 ∙ at) in
    let here : run_from fresh done ≡ Some w = ap (run_from fresh) (sym h.entries_are) ∙ led.is ∙ ap Some same in
    let there : run start.outbox start.limits all ≡ run_from w (e ∷ rest) =
    ap (run_from fresh) parts
    ∙ run-append fresh done (e ∷ rest)
    ∙ ap (λ (o : Option World). option_and_then (λ v. run_from v (e ∷ rest)) o) here in
    enters_next w e rest (subst IsSome there runs)

pub model_there : (start : Start) (form : Form) (done : List Entry) (k : WorldRecord) (ps : List Painting) (before after : Option (List ℕ))
    → HasWritten start form done k ps before after → IsSome (model_of k)
model_there start form done k ps before after h =
    let led = plays_led (fresh_world start.outbox start.limits) nobody_told h.records (IsPlayedTo k ps) h.plays in
    subst IsSome (sym led.holds.0) refl

-- ---- the entries of a world

pub plain_parts : (es : List world.Entry) (i : ℕ) (e : world.Entry) → i < length es → e ≡ get_or es i e
    → plain_entries es ≡ plain_entries (take i es) ++ plain_entry e ∷ plain_entries (drop (suc i) es)
plain_parts es i e lt is =
    ap plain_entries (split_at es i e lt)
    ∙ map-append plain_entry (take i es) (get_or es i e ∷ drop (suc i) es)
    ∙ ap (λ (x : world.Entry). plain_entries (take i es) ++ plain_entry x ∷ plain_entries (drop (suc i) es)) (sym is)

pub plain_number : (es : List world.Entry) (i : ℕ) → i ≤ length es → i ≡ length (plain_entries (take i es))
plain_number es i le = grind (arith, common_steps)

pub plain_next : (es : List world.Entry) (i : ℕ) (e : world.Entry) → i < length es → e ≡ get_or es i e
    → plain_entries (take i es) ++ plain_entry e ∷ [] ≡ plain_entries (take (i + 1) es)
plain_next es i e lt is =
    sym (map-append plain_entry (take i es) (e ∷ []))
    ∙ ap plain_entries (ap (λ (x : world.Entry). take i es ++ x ∷ []) is ∙ sym (take_more es i e lt))
