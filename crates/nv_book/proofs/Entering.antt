-- A book that is replayed, entry by entry.
use Rattle.std.proofs.Common.{◌≡◌, ℕ, zero, suc, ◌+◌, ◌≤◌, List, [], ◌∷◌, ◌++◌, length, map, Option, Some, None, false, refl, sym, ap, ◌∙◌, subst, arith, append_assoc, append-nil, inl, inr, ⊎_elim}
use Rattle.std.specs.Prelude.{◌<◌, ◌-◌, ◌*◌, ◌==◌, ⊤, All, flat_map, IsSome, option_and_then, Bool, true, Ok, Err}
use Rattle.std.specs.List.{AllByRecursion}
use Rattle.std.proofs.lemmas.Grind.{flat_map-append}
use Rattle.std.proofs.lemmas.List.{map-append, nil_from_length, length-append}
use Rattle.std.proofs.lemmas.Option.{same_Some}
use Rattle.nv_value.specs.Content.{Tree, bin, trees_of}
use Rattle.nv_msgpack.specs.Spelling.{Each}
use Rattle.nv_model.specs.declared.parts.Limits.{Limits}
use Rattle.nv_painter.specs.Painters.{Painting}
use Rattle.nv_history.specs.Events.{Event, open_session, request_of, take_of, close_of, Entry}
use Rattle.nv_history.specs.Worlds.{World, fresh_world, step, world_made}
use Rattle.nv_history.specs.Runs.{run, run_from}
use Rattle.nv_core.specs.Contents.{plain_entry, plain_entries, plain_event}
use Rattle.nv_world.specs.Worlds.{WorldRecord, model_of, with_entry}
use Rattle.nv_core.specs.declared.entry.Entry as world
use Rattle.nv_world.specs.declared.step.Step.{Step}
use Rattle.nv_core.specs.declared.start.Start.{Start}
use Rattle.nv_world.proofs.Entries.{entries-push}
use Rattle.nv_book.specs.Books.{Recorded, entries_of_records, entry_head, book_head, book_end, most_piece, piece_count, pieces_in, output_pieces, recorded_values, front_values, book_values, IsOutputOf, IsFairRecord, HasSmallCall, AreFair, IsBook}
use Rattle.nv_book.specs.Headings.{Heading as PlainHeading, heading_in, entry_count_in, outbox_in}
use Rattle.nv_book.specs.Outputs.{nobody_told, Plays, AreOutputs, IsSessionOf}
use Rattle.nv_book.specs.Reading.{IsRead, Replays, AreWritable, IsReadOut, HasValues, AllEnter, AreOfBook, IsMalformed, IsWhyUnread, HasGiven, Replaying, ArePlayed, IsReplaying, IsStepOf, ReplaysOne, IsReplayed}
use Rattle.nv_book.specs.inside.Heads.{plain_heading}
use Rattle.nv_book.specs.inside.Intakes.{Intaking, IsFreshIntake, TellsPlace, StopsBehind, StopsFor}
use Rattle.nv_book.specs.inside.Pieces.{IsCountOf, IsNoPiece, StopsInOutput, StopsOutput}
use Rattle.nv_book.specs.inside.Parts.{IsPart, HasPart, IsNoFirst, IsNoPart, IsPlaceBehind, HasEndValue, EndsWrong, EndsEarly, StopsAtEnd}
use Rattle.nv_book.specs.inside.Playing.{told_at, IsPlayedTo, PlaysOne}
use Rattle.nv_book.specs.Upcoming.{IsUpcoming}
use Rattle.nv_book.specs.declared.replay.Upcoming.{Upcoming}
use Rattle.nv_book.specs.inside.Entering.{is_there, Advances, IsNotEntering, HasPlayed, PlaysEntry, IsStepMade, IsEntering, replaying}
use Rattle.nv_book.specs.declared.faults.Unread.{Unread}
use Rattle.nv_book.specs.declared.faults.Unread.TheVariants.{NoMemory, ReadFault, Malformed}
use Rattle.nv_book.specs.declared.headings.Heading.{Heading}
use Rattle.nv_book.specs.declared.player.Player.{Player}
use Rattle.nv_book.specs.declared.parts.Part.{Part}
use Rattle.nv_book.specs.declared.parts.Part.TheVariants.{Entry as AnEntry}
use Rattle.nv_book.specs.declared.replay.Book.{Book}
use Rattle.nv_book.proofs.Cutting.{piece_number, length_in}
use Rattle.nv_book.proofs.Playing.{plays_next, plays_whatever, plays_led}
use Rattle.nv_book.proofs.Going.{length_entries, told_first}
use Rattle.nv_book.proofs.Whole.{plain_length}
use Rattle.nv_book.proofs.Backs.{TellsHeading, heading_told, end_told, outbox_told}
use Rattle.nv_book.proofs.Forth.{count_for, heading_there}
use Rattle.nv_book.proofs.Between.{pieces_more}
use Rattle.nv_book.proofs.Standing.{Spelled, given_still, told_value, stand_more, here}
use Rattle.nv_book.proofs.Fits.{books_are_fit}
use Rattle.nv_book.proofs.Stages.{malformed_by, is_malformed, first_of_none, none_short, none_wrong, first_of_records, records_short, no_part_wrong, refused_wrong, count_wrong, first_of_all, all_wrong, values_within, within_short, within_wrong}

-- ---- what was played

led_to : (start : Start) (rs ps : List Recorded) (k : WorldRecord) (qs : List Painting) → ArePlayed start rs ps k qs → (w : World) × (run start.outbox start.limits (entries_of_records rs) ≡ Some w) × (model_of k ≡ Some w)
led_to start rs ps k qs a =
    let led = plays_led (fresh_world start.outbox start.limits) nobody_told ps (IsPlayedTo k qs) a.plays in
    (led.then_world, subst (λ (l : List Entry). run_from (fresh_world start.outbox start.limits) l ≡ Some led.then_world) a.same led.is, led.holds.0)

pub all_enter : (start : Start) (rs ps : List Recorded) (k : WorldRecord) (qs : List Painting) → ArePlayed start rs ps k qs → AllEnter start.outbox start.limits rs
all_enter start rs ps k qs a = let l = led_to start rs ps k qs a in subst IsSome (sym l.1) refl

entries_more : (rs : List Recorded) (r : Recorded) → entries_of_records (rs ++ r ∷ []) ≡ entries_of_records rs ++ r.entry ∷ []
entries_more rs r = map-append (λ (x : Recorded). x.entry) rs (r ∷ [])

played_more : (start : Start) (rs ps : List Recorded) (old : WorldRecord) (before after : List Painting) (entry : world.Entry) (recorded output : List ℕ) → ArePlayed start rs ps old before
    → PlaysOne old before (plain_event entry.event) output (with_entry old entry) after
    → ArePlayed start (rs ++ record { entry = plain_entry entry; output = recorded } ∷ []) (ps ++ record { entry = plain_entry entry; output = output } ∷ []) (with_entry old entry) after
played_more start rs ps old before after entry recorded output a one = record {
  same =
      entries_more ps (record { entry = plain_entry entry; output = output })
      ∙ ap (λ (l : List Entry). l ++ plain_entry entry ∷ []) a.same
      ∙ sym (entries_more rs (record { entry = plain_entry entry; output = recorded }));
  plays = plays_next (fresh_world start.outbox start.limits) nobody_told ps (plain_entry entry) output old (with_entry old entry) before after a.plays one;
  history =
      entries-push old.history entry
      ∙ ap (λ (l : List Entry). l ++ plain_entry entry ∷ []) a.history
      ∙ sym (entries_more rs (record { entry = plain_entry entry; output = recorded }));
}

-- how many entries there were
pub number_of_entries : (start : Start) (rs ps : List Recorded) (k : WorldRecord) (qs : List Painting) → ArePlayed start rs ps k qs → length k.history ≡ length rs
number_of_entries start rs ps k qs a = sym (plain_length k.history) ∙ ap (length {A = Entry}) a.history ∙ length_entries rs

some_step : (o : Option World) → IsSome (option_and_then (λ v. run_from v []) o) → IsSome o
some_step None r = r
some_step (Some v) r = refl

run_step : (v : World) (es : List Entry) (e : Entry) → ((u : World) → run_from u es ≡ Some v → IsSome (run_from u (es ++ e ∷ [])) → IsSome (world_made (step v e.event)))
    → (o : Option World) → option_and_then (λ u. run_from u es) o ≡ Some v → IsSome (option_and_then (λ u. run_from u (es ++ e ∷ [])) o) → IsSome (world_made (step v e.event))
run_step v es e next None h r = cc
run_step v es e next (Some u) h r = next u h r

run_last : (w v : World) (es : List Entry) (e : Entry) → run_from w es ≡ Some v → IsSome (run_from w (es ++ e ∷ [])) → IsSome (world_made (step v e.event))
run_last w v [] e h r =
    let same : w ≡ v = same_Some w v h in
    subst (λ (x : World). IsSome (world_made (step x e.event))) same (some_step (world_made (step w e.event)) r)
run_last w v (x ∷ es) e h r = run_step v es e (λ u a c. run_last u v es e a c) (world_made (step w x.event)) h r

none_some : (o : Option World) → IsSome o → o ≡ None → ⊥
none_some None h e = cc
none_some (Some w) h e = cc

not_entering : (start : Start) (rs ps : List Recorded) (k : WorldRecord) (qs : List Painting) (entry : world.Entry) → ArePlayed start rs ps k qs → IsNotEntering k entry
    → IsSome (run start.outbox start.limits (entries_of_records rs ++ plain_entry entry ∷ [])) → ⊥
not_entering start rs ps k qs entry a r h =
    let l = led_to start rs ps k qs a in
    none_some (world_made (step l.0 (plain_event entry.event))) (run_last (fresh_world start.outbox start.limits) l.0 (entries_of_records rs) (plain_entry entry) l.1 h) (r l.0 l.2)

-- ---- what was read

front_push : (outbox : ℕ) (rs : List Recorded) (r : Recorded) → front_values outbox (rs ++ r ∷ []) ≡ front_values outbox rs ++ recorded_values r
front_push outbox rs r =
    ap (λ (l : List Tree). book_head outbox ∷ l)
    (flat_map-append recorded_values rs (r ∷ []) ∙ ap (λ (l : List Tree). flat_map recorded_values rs ++ l) (append-nil (recorded_values r)))

all_push : (P : Recorded → Type 0) (rs : List Recorded) (r : Recorded) → AllByRecursion P rs → P r → AllByRecursion P (rs ++ r ∷ [])
all_push P [] r h p = (p, h)
all_push P (x ∷ rs) r h p = (h.0, all_push P rs r h.1 p)

fair_push : (outbox : ℕ) (rs : List Recorded) (r : Recorded) → AreFair outbox rs → IsFairRecord r → AreFair outbox (rs ++ r ∷ [])
fair_push outbox rs r f p = record { least = f.least; most = f.most; each = all_push IsFairRecord rs r f.each p }

no_output : (out : List ℕ) (count : ℕ) → length (output_pieces out) ≡ count → count ≡ 0 → out ≡ []
no_output out count c z = nil_from_length out (omega (arith, piece_number out, c, z))

output_by : (event : Event) (count : ℕ) (out : List ℕ) → IsCountOf event count → length (output_pieces out) ≡ count → IsOutputOf event out
output_by open_session count out z c = no_output out count c z
output_by (request_of s call) count out z c = no_output out count c z
output_by (take_of s) count out z c = tt
output_by (close_of s) count out z c = no_output out count c z

count_for_it : (event : Event) (count : ℕ) → IsCountOf event count → count_for event count ≡ count
count_for_it open_session count z = sym z
count_for_it (request_of s call) count z = sym z
count_for_it (take_of s) count z = refl
count_for_it (close_of s) count z = sym z

told_again : (h : PlainHeading) (t : Tree) → TellsHeading t h → heading_in (entry_head h.entry h.count) ≡ Some (record { entry = h.entry; count = h.count })
told_again h t k = heading_there h.entry h.count k.caller_is k.call_is ∙ ap (λ (n : ℕ). Some (record { entry = h.entry; count = n })) (count_for_it h.entry.event h.count k.count_is)

fair_by : (h : PlainHeading) (t : Tree) (out : List ℕ) → TellsHeading t h → length (output_pieces out) ≡ h.count → IsFairRecord (record { entry = h.entry; output = out })
fair_by h t out k c = record { caller = k.caller_is; call = k.call_is; output = output_by h.entry.event h.count out k.count_is c }

-- ---- the first value

pub begun : (bytes : List ℕ) (start : Start) (x : Intaking) (player : Player) (recorded : List ℕ) (t : Tree) → HasGiven bytes (t ∷ []) x.taken x.stream → outbox_in t ≡ Some start.outbox
    → player.world ≡ record { capacity = start.outbox; limits = start.limits; history = []; spent = false } → player.painters.items ≡ [] → IsReplaying bytes [] [] (replaying start x player recorded)
begun bytes start x player recorded t h e w p =
    let k = outbox_told t start.outbox e in
    record {
      read = subst (λ (u : Tree). HasGiven bytes (u ∷ []) x.taken x.stream) k.tree_is h;
      fair = record { least = k.fair.0; most = k.fair.1; each = tt };
      played_are = record {
        same = refl;
        plays = (ap model_of w, λ s. ap (λ (l : List Painting). told_at l s) p ∙ told_first s);
        history = ap (λ (k : WorldRecord). plain_entries k.history) w;
      };
    }

pub no_first : (limits : Limits) (bytes : List ℕ) (left : Option (List ℕ)) (fault : Unread) → StopsFor bytes left [] IsNoFirst fault → IsWhyUnread limits bytes left fault
no_first limits bytes left NoMemory s = tt
no_first limits bytes left ReadFault s = tt
no_first limits bytes left (Malformed n) s = malformed_by limits bytes left [] n IsNoFirst s (first_of_none limits) (none_short limits) (λ t more b no_value. none_wrong limits t more b no_value)

-- ---- the value behind records

pub no_part : (start : Start) (rs ps : List Recorded) (k : WorldRecord) (qs : List Painting) (bytes : List ℕ) (left : Option (List ℕ)) (fault : Unread) → AreFair start.outbox rs → ArePlayed start rs ps k qs
    → StopsFor bytes left (front_values start.outbox rs) IsNoPart fault → IsWhyUnread start.limits bytes left fault
no_part start rs ps k qs bytes left NoMemory f a s = tt
no_part start rs ps k qs bytes left ReadFault f a s = tt
no_part start rs ps k qs bytes left (Malformed n) f a s =
    malformed_by start.limits bytes left (front_values start.outbox rs) n IsNoPart s (first_of_records start.outbox start.limits rs f (all_enter start rs ps k qs a)) (records_short start.outbox start.limits rs f)
    (λ t more b none. no_part_wrong start.outbox start.limits rs t more f b none.0 none.1)

-- an entry that doesn't enter
pub refused : (start : Start) (fed b : List ℕ) (left : Option (List ℕ)) (rs ps : List Recorded) (place n : ℕ) (h : Heading) (x : Intaking) (player : Player) → IsEntering start fed rs ps place h x player → TellsPlace b left place x (Malformed n) → IsNotEntering player.world h.entry
    → IsMalformed start.limits (fed ++ b) left n
refused start fed b left rs ps place n h x player i told r =
    let s = told_value fed [] b left (front_values start.outbox rs) i.t place i.here.0 x (λ u. u ≡ i.t) (Malformed n) i.here.1 (given_still fed (front_values start.outbox rs ++ i.t ∷ []) x.taken x.stream i.given) refl told in
    malformed_by start.limits (fed ++ b) left (front_values start.outbox rs) n (λ u. u ≡ i.t) s (first_of_records start.outbox start.limits rs i.fair (all_enter start rs ps player.world player.painters.items i.played_are)) (records_short start.outbox start.limits rs i.fair)
    (λ t more c e.
    refused_wrong start.outbox start.limits rs t more (plain_heading h) i.fair c (ap heading_in e ∙ i.tells)
    (not_entering start rs ps player.world player.painters.items h.entry i.played_are r))

-- ---- an output

zeros : ℕ → List ℕ
zeros zero = []
zeros (suc n) = 0 ∷ zeros n

length_zeros : (n : ℕ) → length (zeros n) ≡ n
unfolding zeros
length_zeros zero = refl
length_zeros (suc n) = ap suc (length_zeros n)

whole_count : (n : ℕ) → piece_count (n * most_piece) ≡ n
whole_count n = omega arith

-- an output that begins with these pieces can be filled up
record Filled (done count : ℕ) (out : List ℕ) : Type 0 where
  pub output : List ℕ
  pub rest : List (List ℕ)
  pub number : length (output_pieces output) ≡ count
  pub pieces : output_pieces output ≡ pieces_in done out ++ rest

filled : (done count : ℕ) (out : List ℕ) → done < count → length out ≡ done * most_piece → Filled done count out
filled done count out l e =
    let m = count - done in
    let filler = zeros (m * most_piece) in
    let long : length (out ++ filler) ≡ count * most_piece = omega (arith, length-append out filler, length_zeros (m * most_piece), e, l) in
    let number : piece_count (length (out ++ filler)) ≡ count = ap piece_count long ∙ whole_count count in
    record {
      output = out ++ filler;
      rest = pieces_in m filler;
      number = piece_number (out ++ filler) ∙ number;
      pieces = ap (λ (k : ℕ). pieces_in k (out ++ filler)) (number ∙ (let c : count ≡ done + m = omega (arith, l) in c)) ∙ pieces_more done m out filler e;
    }

regroup : (f a c d : List Tree) (h : Tree) → (f ++ (h ∷ (a ++ c))) ++ d ≡ (f ++ (h ∷ a)) ++ (c ++ d)
regroup f a c d h =
    append_assoc f (h ∷ (a ++ c)) d
    ∙ ap (λ (l : List Tree). f ++ (h ∷ l)) (append_assoc a c d)
    ∙ sym (append_assoc f (h ∷ a) (c ++ d))

first_within : (start : Start) (rs : List Recorded) (h : PlainHeading) (t : Tree) (done : ℕ) (out : List ℕ) → AreFair start.outbox rs → TellsHeading t h → done < h.count → length out ≡ done * most_piece
    → IsSome (run start.outbox start.limits (entries_of_records rs ++ h.entry ∷ [])) → (more : List Tree) × AreOfBook start.limits (values_within start.outbox rs h.entry h.count (pieces_in done out)) more
first_within start rs h t done out f k l e enters =
    let fill = filled done h.count out l e in
    let r : Recorded = record { entry = h.entry; output = fill.output } in
    let bins = map bin fill.rest in
    let end = book_end (length (rs ++ r ∷ [])) ∷ [] in
    let body : recorded_values r ≡ entry_head h.entry h.count ∷ (map bin (pieces_in done out) ++ bins) =
    ap (λ (n : ℕ). entry_head h.entry n ∷ map bin (output_pieces fill.output)) fill.number
    ∙ ap (λ (l : List (List ℕ)). entry_head h.entry h.count ∷ map bin l) fill.pieces
    ∙ ap (λ (l : List Tree). entry_head h.entry h.count ∷ l) (map-append bin (pieces_in done out) fill.rest) in (
      bins ++ end,
      record {
        outbox = start.outbox;
        records = rs ++ r ∷ [];
        fair = fair_push start.outbox rs r f (fair_by h t fill.output k fill.number);
        enter = subst (λ (l : List Entry). IsSome (run start.outbox start.limits l)) (sym (entries_more rs r)) enters;
        values_are =
            ap (λ (l : List Tree). l ++ end) (front_push start.outbox rs r ∙ ap (λ (l : List Tree). front_values start.outbox rs ++ l) body)
            ∙ regroup (front_values start.outbox rs) (map bin (pieces_in done out)) bins end (entry_head h.entry h.count);
      },
    )

within_are : (outbox : ℕ) (rs : List Recorded) (h : PlainHeading) (t : Tree) (pieces : List (List ℕ)) → t ≡ entry_head h.entry h.count → (front_values outbox rs ++ t ∷ []) ++ map bin pieces ≡ values_within outbox rs h.entry h.count pieces
within_are outbox rs h t pieces e = append_assoc (front_values outbox rs) (t ∷ []) (map bin pieces) ∙ ap (λ (u : Tree). front_values outbox rs ++ (u ∷ map bin pieces)) e

no_piece : (start : Start) (rs : List Recorded) (bytes : List ℕ) (left : Option (List ℕ)) (h : PlainHeading) (t : Tree) (n : ℕ) → AreFair start.outbox rs → TellsHeading t h → IsSome (run start.outbox start.limits (entries_of_records rs ++ h.entry ∷ []))
    → StopsInOutput bytes left (front_values start.outbox rs ++ t ∷ []) h.count n → IsMalformed start.limits bytes left n
no_piece start rs bytes left h t n f k enters s =
    let pieces = pieces_in s.done s.output in
    let count : length pieces ≡ s.done = length_in s.done s.output in
    let few : length pieces < h.count = omega (arith, count, s.more) in
    let stops : StopsBehind bytes left (values_within start.outbox rs h.entry h.count pieces) n (IsNoPiece (length pieces + 1 == h.count)) =
    subst (λ (m : ℕ). StopsBehind bytes left (values_within start.outbox rs h.entry h.count pieces) n (IsNoPiece (m + 1 == h.count))) (sym count)
    (subst (λ (l : List Tree). StopsBehind bytes left l n (IsNoPiece (s.done + 1 == h.count))) (within_are start.outbox rs h t pieces k.tree_is) s.stops) in
    malformed_by start.limits bytes left (values_within start.outbox rs h.entry h.count pieces) n (IsNoPiece (length pieces + 1 == h.count)) stops
    (first_within start rs h t s.done s.output f k s.more s.whole enters)
    (within_short start.outbox start.limits rs h.entry h.count pieces f (told_again h t k) few)
    (λ u more b none. within_wrong start.outbox start.limits rs h.entry h.count pieces u more f (told_again h t k) few b none)

entered_run : (start : Start) (rs ps : List Recorded) (old new : Player) (entry : world.Entry) (session : ℕ) → ArePlayed start rs ps old.world old.painters.items → HasPlayed entry session old new → IsSome (run start.outbox start.limits (entries_of_records rs ++ plain_entry entry ∷ []))
entered_run start rs ps old new entry session a p =
    let more = played_more start rs ps old.world old.painters.items new.painters.items entry [] new.output.items a (subst (λ (w : WorldRecord). PlaysOne old.world old.painters.items (plain_event entry.event) new.output.items w new.painters.items) p.world p.plays) in
    subst (λ (l : List Entry). IsSome (run start.outbox start.limits l)) (entries_more rs (record { entry = plain_entry entry; output = [] }))
    (all_enter start (rs ++ record { entry = plain_entry entry; output = [] } ∷ []) _ (with_entry old.world entry) new.painters.items more)

pub output_stopped : (start : Start) (fed b : List ℕ) (left : Option (List ℕ)) (rs ps : List Recorded) (place session : ℕ) (h : Heading) (x : Intaking) (old new : Player) (fault : Unread) → (i : IsEntering start fed rs ps place h x old) → HasPlayed h.entry session old new
    → StopsOutput (fed ++ b) left (front_values start.outbox rs ++ i.t ∷ []) h.count fault → IsWhyUnread start.limits (fed ++ b) left fault
output_stopped start fed b left rs ps place session h x old new NoMemory i p s = tt
output_stopped start fed b left rs ps place session h x old new ReadFault i p s = tt
output_stopped start fed b left rs ps place session h x old new (Malformed n) i p s =
    no_piece start rs (fed ++ b) left (plain_heading h) i.t n i.fair (heading_told i.t (plain_heading h) i.tells) (entered_run start rs ps old new h.entry session i.played_are p) s

-- ---- one entry more

pub entered : (start : Start) (bytes fed : List ℕ) (rs ps : List Recorded) (place at session : ℕ) (h : Heading) (x y : Intaking) (old new : Player) (recorded : List ℕ) (made : Step) → (i : IsEntering start fed rs ps place h x old) → HasPlayed h.entry session old new
    → HasGiven bytes ((front_values start.outbox rs ++ i.t ∷ []) ++ map bin (output_pieces recorded)) y.taken y.stream → length (output_pieces recorded) ≡ h.count → at ≡ length old.world.history → IsStepMade at h.entry.caller session new made
    → ReplaysOne bytes rs ps made (replaying start y new recorded)
entered start bytes fed rs ps place at session h x y old new recorded made i p g c n m =
    let k = heading_told i.t (plain_heading h) i.tells in
    let e : Recorded = record { entry = plain_entry h.entry; output = recorded } in
    let o : Recorded = record { entry = plain_entry h.entry; output = new.output.items } in
    let values : (front_values start.outbox rs ++ i.t ∷ []) ++ map bin (output_pieces recorded) ≡ front_values start.outbox (rs ++ e ∷ []) =
    within_are start.outbox rs (plain_heading h) i.t (output_pieces recorded) k.tree_is
    ∙ ap (λ (q : ℕ). front_values start.outbox rs ++ (entry_head (plain_entry h.entry) q ∷ map bin (output_pieces recorded))) (sym c)
    ∙ sym (front_push start.outbox rs e) in
    let played = played_more start rs ps old.world old.painters.items new.painters.items h.entry recorded new.output.items i.played_are (subst (λ (w : WorldRecord). PlaysOne old.world old.painters.items (plain_event h.entry.event) new.output.items w new.painters.items) p.world p.plays) in
    record {
      entry = e;
      given = o;
      goes = record {
        read = subst (λ (l : List Tree). HasGiven bytes l y.taken y.stream) values g;
        fair = fair_push start.outbox rs e i.fair (fair_by (plain_heading h) i.t recorded k c);
        played_are = subst (λ (w : WorldRecord). ArePlayed start (rs ++ e ∷ []) (ps ++ o ∷ []) w new.painters.items) (sym p.world) played;
      };
      recorded_is = refl;
      output_is = refl;
      step_is = record {
        at_is = m.at_is ∙ n ∙ number_of_entries start rs ps old.world old.painters.items i.played_are;
        caller_is = m.caller_is;
        session_is = λ w r.
            let l = led_to start rs ps old.world old.painters.items i.played_are in
            let same : l.0 ≡ w = same_Some l.0 w (sym l.1 ∙ r) in
            subst (λ (q : ℕ). IsSessionOf (plain_event h.entry.event) (step w (plain_event h.entry.event)) q) (sym m.session_is) (p.session_is w (l.2 ∙ ap (λ (v : World). Some v) same));
        sent_is = m.sent_is;
        splices_are = m.splices_are;
      };
    }

-- ---- as a call tells it

pub play_stopped : (start : Start) (fed b : List ℕ) (left : Option (List ℕ)) (rs ps : List Recorded) (place : ℕ) (h : Heading) (x y : Intaking) (old new : Player) (fault : Unread) → IsEntering start fed rs ps place h x old
    → PlaysEntry b left place h.entry (Err fault) x y old new → IsWhyUnread start.limits (fed ++ b) left fault
play_stopped start fed b left rs ps place h x y old new NoMemory i p = tt
play_stopped start fed b left rs ps place h x y old new ReadFault i p = tt
play_stopped start fed b left rs ps place h x y old new (Malformed n) i p = refused start fed b left rs ps place n h x old i p.0 p.1

after_play : (start : Start) (fed : List ℕ) (rs ps : List Recorded) (place : ℕ) (h : Heading) (x y : Intaking) (old : Player) → (i : IsEntering start fed rs ps place h x old) → y ≡ x → HasGiven fed (front_values start.outbox rs ++ i.t ∷ []) y.taken y.stream
after_play start fed rs ps place h x y old i e = subst (λ (z : Intaking). HasGiven fed (front_values start.outbox rs ++ i.t ∷ []) z.taken z.stream) (sym e) i.given

pub output_at : (start : Start) (fed a b : List ℕ) (left : Option (List ℕ)) (rs ps : List Recorded) (place session : ℕ) (h : Heading) (x y z : Intaking) (old new : Player) (recorded : List ℕ) (fault : Unread) → IsEntering start fed rs ps place h x old → a ≡ [] → y ≡ x → HasPlayed h.entry session old new
    → ((values : List Tree) → HasGiven fed values y.taken y.stream → StopsOutput (fed ++ b) left values h.count fault) → IsWhyUnread start.limits (fed ++ (a ++ b)) left fault
output_at start fed a b left rs ps place session h x y z old new recorded fault i e f p s =
    subst (λ (l : List ℕ). IsWhyUnread start.limits (fed ++ (l ++ b)) left fault) (sym e)
    (output_stopped start fed b left rs ps place session h x old new fault i p (s (front_values start.outbox rs ++ i.t ∷ []) (after_play start fed rs ps place h x y old i f)))

pub entered_at : (start : Start) (fed a b : List ℕ) (rs ps : List Recorded) (place at session : ℕ) (h : Heading) (x y z : Intaking) (old new : Player) (recorded : List ℕ) (made : Step) → IsEntering start fed rs ps place h x old → a ≡ [] → y ≡ x → HasPlayed h.entry session old new
    → ((values : List Tree) → HasGiven fed values y.taken y.stream → HasGiven (fed ++ b) (values ++ map bin (output_pieces recorded)) z.taken z.stream × (length (output_pieces recorded) ≡ h.count))
    → at ≡ length old.world.history → IsStepMade at h.entry.caller session new made → ReplaysOne (fed ++ (a ++ b)) rs ps made (replaying start z new recorded)
entered_at start fed a b rs ps place at session h x y z old new recorded made i e f p g n m =
    let o = g (front_values start.outbox rs ++ i.t ∷ []) (after_play start fed rs ps place h x y old i f) in
    subst (λ (l : List ℕ). ReplaysOne (fed ++ (l ++ b)) rs ps made (replaying start z new recorded)) (sym e)
    (entered start (fed ++ b) fed rs ps place at session h x z old new recorded made i p o.0 o.1 n m)

-- ---- the end

pub end_stopped : (start : Start) (bytes : List ℕ) (left : Option (List ℕ)) (rs ps : List Recorded) (k : WorldRecord) (qs : List Painting) (end : Tree) (told : ℕ) (fault : Unread) → AreFair start.outbox rs → ArePlayed start rs ps k qs → entry_count_in end ≡ Some told
    → StopsAtEnd bytes left (front_values start.outbox rs) end told (length k.history) fault → IsWhyUnread start.limits bytes left fault
end_stopped start bytes left rs ps k qs end told NoMemory f a t s = tt
end_stopped start bytes left rs ps k qs end told ReadFault f a t s = tt
end_stopped start bytes left rs ps k qs end told (Malformed n) f a t s =
    let number = number_of_entries start rs ps k qs a in
    ⊎_elim
    (λ w.
    malformed_by start.limits bytes left (front_values start.outbox rs) n (λ u. u ≡ end) w.stops (first_of_records start.outbox start.limits rs f (all_enter start rs ps k qs a)) (records_short start.outbox start.limits rs f)
    (λ u more c e. count_wrong start.outbox start.limits rs u more told f c (ap entry_count_in e ∙ t) (λ d. w.other (d ∙ sym number))))
    (λ w.
    let is : end ≡ book_end (length rs) = end_told end told t ∙ ap book_end (w.0 ∙ number) in
    let early = w.1 in
    is_malformed start.limits bytes left (book_values start.outbox rs) n early.behind early.read_out
    (subst (λ (u : Tree). HasValues bytes (front_values start.outbox rs ++ u ∷ []) n early.behind) is early.stand)
    (first_of_all start.outbox start.limits rs f (all_enter start rs ps k qs a))
    (λ e c. absurd (let none = ap (length {A = ℕ}) e in omega (arith, early.some, none)))
    (λ u more at rest h c. all_wrong start.outbox start.limits rs u more f c))
    s

pub finished : (bytes : List ℕ) (left : Option (List ℕ)) (rs ps : List Recorded) (end : Tree) (told : ℕ) (r : Replaying) → AreFair r.start.outbox rs → ArePlayed r.start rs ps r.world r.paintings → entry_count_in end ≡ Some told
    → HasEndValue bytes left (front_values r.start.outbox rs ++ end ∷ []) told (length r.world.history) → IsReplayed bytes left rs ps r
finished bytes left rs ps end told r f a t h =
    let number = number_of_entries r.start rs ps r.world r.paintings a in
    let is : end ≡ book_end (length rs) = end_told end told t ∙ ap book_end (h.same ∙ number) in
    let stand = subst (λ (u : Tree). HasValues bytes (front_values r.start.outbox rs ++ u ∷ []) h.place []) is h.stand in
    let book : IsBook bytes r.start.outbox rs =
    record { fair = f; spelled = subst (λ (l : List ℕ). Each Spelled (trees_of (book_values r.start.outbox rs)) l) (sym (stand.2 ∙ append-nil stand.0)) stand.1 } in
    record {
      read_out = h.read_out;
      book = book;
      enter = all_enter r.start rs ps r.world r.paintings a;
      fit = books_are_fit bytes r.start.outbox rs h.small book;
      played_are = a;
      outputs = plays_whatever (fresh_world r.start.outbox r.start.limits) nobody_told ps (IsPlayedTo r.world r.paintings) a.plays;
    }

-- ---- a step of a replay

pub entering : (start : Start) (fed b : List ℕ) (rs ps : List Recorded) (place : ℕ) (h : Heading) (p : Part) (x y : Intaking) (player : Player) (recorded : List ℕ) → IsReplaying fed rs ps (replaying start x player recorded) → place ≡ x.stream.start
    → HasPart (fed ++ b) (front_values start.outbox rs) p y → p ≡ AnEntry h → IsEntering start (fed ++ b) rs ps place h y player
entering start fed b rs ps place h p x y player recorded k e part is = record {
  fair = k.fair;
  played_are = k.played_are;
  here = (x.stream.held ++ b, stand_more fed b (front_values start.outbox rs) place x.stream.held (here fed (front_values start.outbox rs) x.taken place x.stream k.read e));
  t = part.t;
  given = part.given;
  tells = subst (λ (q : Part). IsPart part.t q) is part.is;
}

pub upcoming_by : (start : Start) (bytes : List ℕ) (rs ps : List Recorded) (place : ℕ) (h : Heading) (x : Intaking) (player : Player) (recorded : List ℕ)
    → IsEntering start bytes rs ps place h x player → IsUpcoming bytes rs ps (record { place = place; heading = h }) (replaying start x player recorded)
upcoming_by start bytes rs ps place h x player recorded i =
    record { fair = i.fair; played_are = i.played_are; here = i.here; t = i.t; given = i.given; tells = i.tells }

pub entering_of : (start : Start) (bytes : List ℕ) (rs ps : List Recorded) (u : Upcoming) (x : Intaking) (player : Player) (recorded : List ℕ)
    → IsUpcoming bytes rs ps u (replaying start x player recorded) → IsEntering start bytes rs ps u.place u.heading x player
entering_of start bytes rs ps u x player recorded i =
    record { fair = i.fair; played_are = i.played_are; here = i.here; t = i.t; given = i.given; tells = i.tells }

pub place_there : (start : Start) (fed b : List ℕ) (rs ps : List Recorded) (place : ℕ) (x : Intaking) (player : Player) (recorded : List ℕ) → IsReplaying fed rs ps (replaying start x player recorded) → place ≡ x.stream.start → IsPlaceBehind (fed ++ b) (front_values start.outbox rs) place
place_there start fed b rs ps place x player recorded k e =
    (x.stream.held ++ b, stand_more fed b (front_values start.outbox rs) place x.stream.held (here fed (front_values start.outbox rs) x.taken place x.stream k.read e))

pub unread_for : (limits : Limits) (a b c : List ℕ) (left : Option (List ℕ)) (fault : Unread) → IsWhyUnread limits ((a ++ b) ++ c) left fault → IsWhyUnread limits (a ++ (b ++ c)) left fault
unread_for limits a b c left fault h = subst (λ (l : List ℕ). IsWhyUnread limits l left fault) (append_assoc a b c) h

pub one_for : (a b c : List ℕ) (rs ps : List Recorded) (made : Step) (new : Replaying) → ReplaysOne ((a ++ b) ++ c) rs ps made new → ReplaysOne (a ++ (b ++ c)) rs ps made new
one_for a b c rs ps made new h = subst (λ (l : List ℕ). ReplaysOne l rs ps made new) (append_assoc a b c) h

pub all_for : (a b c : List ℕ) (left : Option (List ℕ)) (rs ps : List Recorded) (new : Replaying) → IsReplayed ((a ++ b) ++ c) left rs ps new → IsReplayed (a ++ (b ++ c)) left rs ps new
all_for a b c left rs ps new h = subst (λ (l : List ℕ). IsReplayed l left rs ps new) (append_assoc a b c) h

pub advanced : (bytes : List ℕ) (left : Option (List ℕ)) (rs ps : List Recorded) (o : Option Step) (b : Bool) (new : Replaying) → b ≡ is_there o → Replays bytes left rs ps (Ok o) new → Advances bytes left (Ok b) new
advanced bytes left rs ps None b new e r = subst (λ (c : Bool). Advances bytes left (Ok c) new) (sym e) (rs, ps, r)
advanced bytes left rs ps (Some made) b new e r = subst (λ (c : Bool). Advances bytes left (Ok c) new) (sym e) (rs ++ r.entry ∷ [], ps ++ r.given ∷ [], r.goes)

pub is_step : (o : Option Step) (b : Bool) → b ≡ is_there o → b ≡ true → (made : Step) × (o ≡ Some made)
is_step None b e t = absurd (let c : true ≡ false = sym t ∙ e in cc)
is_step (Some made) b e t = (made, refl)

-- all of a book
pub book_read : (limits : Limits) (bytes : List ℕ) (left : Option (List ℕ)) (rs ps : List Recorded) (r : Replaying) (book : Book) → IsReplayed bytes left rs ps r → r.start.limits ≡ limits → book.start ≡ r.start → book.history.entries ≡ r.world.history → IsRead limits bytes left book
book_read limits bytes left rs ps r book h l s e =
    let entries : plain_entries book.history.entries ≡ entries_of_records rs = ap plain_entries e ∙ h.played_are.history in
    record {
      records = rs;
      limits_are = ap (λ (x : Start). x.limits) s ∙ l;
      read_out = h.read_out;
      is = subst (λ (x : Start). IsBook bytes x.outbox rs) (sym s) h.book;
      history_is = entries;
      runs = subst (λ (x : Start). IsSome (run x.outbox limits (plain_entries book.history.entries))) (sym s)
          (subst (λ (x : Limits). IsSome (run r.start.outbox x (plain_entries book.history.entries))) l
          (subst (λ (es : List Entry). IsSome (run r.start.outbox r.start.limits es)) (sym entries) h.enter));
      fit = subst (λ (es : List Entry). AreWritable es) (sym entries) h.fit;
    }
