-- By what bytes are no book, at each stage of reading one.
use Rattle.std.proofs.Common.{◌≡◌, ◌⊎◌, ℕ, zero, suc, ◌+◌, ◌≤◌, Bool, true, false, List, [], ◌∷◌, ◌++◌, length, map, Option, Some, None, refl, sym, ap, ap₂, ◌∙◌, subst, arith, append_assoc, append-nil, length-append, inl, inr, ⊎_elim}
use Rattle.std.specs.Prelude.{◌<◌, ◌-◌, ◌*◌, ◌==◌, flat_map, IsSome, option_and_then}
use Rattle.std.specs.List.{AllByRecursion}
use Rattle.std.proofs.lemmas.Grind.{flat_map-append}
use Rattle.std.proofs.lemmas.List.{map-append}
use Rattle.std.proofs.lemmas.Option.{same_Some}
use Rattle.nv_value.specs.Content.{Tree, bin, trees_of}
use Rattle.nv_msgpack.specs.Spelling.{Each}
use Rattle.nv_model.specs.declared.parts.Limits.{Limits}
use Rattle.nv_history.specs.Events.{Event, open_session, request_of, take_of, close_of, Entry}
use Rattle.nv_history.specs.Worlds.{World, fresh_world, step, world_made}
use Rattle.nv_history.specs.Runs.{run, run_from}
use Rattle.nv_book.specs.Books.{Recorded, entries_of_records, entry_head, book_head, book_end, most_piece, pieces_in, output_pieces, recorded_values, front_values, book_values, IsOutputOf, IsFairRecord, AreFair, IsBook}
use Rattle.nv_book.specs.Headings.{Heading, heading_in, entry_count_in, outbox_in}
use Rattle.nv_book.specs.Reading.{IsReadOut, HasValues, AllEnter, IsNoBook, AreOfBook, IsWrongAt, IsMalformed}
use Rattle.nv_book.specs.inside.Intakes.{StopsBehind}
use Rattle.nv_book.specs.inside.Pieces.{IsPiece, IsNoPiece, IsCountOf}
use Rattle.nv_book.proofs.Standing.{Spelled, Rest, values_rest, stand_rest}
use Rattle.nv_book.proofs.Forth.{record_there, heading_there, entry_no_end, end_no_heading, end_there, outbox_there}
use Rattle.nv_book.proofs.Chains.{GoesOn, BookGoesOn, book_goes_on, next_bin, piece_there}

-- ---- bytes that no book begins with

none_more : (limits : Limits) (bytes : List ℕ) (values : List Tree) (n : ℕ) (behind : List ℕ) → HasValues bytes values n behind → (behind ≡ [] → AreOfBook limits values [] → ⊥)
    → ((t : Tree) (more : List Tree) (at : ℕ) (rest : List ℕ) → HasValues bytes (values ++ t ∷ []) at rest → AreOfBook limits values (t ∷ more) → ⊥)
    → (more : List Tree) → Each Spelled (trees_of more) behind → AreOfBook limits values more → ⊥
none_more limits bytes values n behind stand short wrong [] e b = short e b
none_more limits bytes values n behind stand short wrong (t ∷ more) e b = let s = stand_rest bytes values t more n behind stand e in wrong t more s.at s.rest s.stand b

-- values that are the first of a book, but not all of one; and none of those that follow goes on
pub is_malformed : (limits : Limits) (bytes : List ℕ) (left : Option (List ℕ)) (values : List Tree) (n : ℕ) (behind : List ℕ) → IsReadOut left bytes → HasValues bytes values n behind
    → (more : List Tree) × AreOfBook limits values more
    → (behind ≡ [] → AreOfBook limits values [] → ⊥)
    → ((t : Tree) (more : List Tree) (at : ℕ) (rest : List ℕ) → HasValues bytes (values ++ t ∷ []) at rest → AreOfBook limits values (t ∷ more) → ⊥)
    → IsMalformed limits bytes left n
is_malformed limits bytes left values n behind out stand first short wrong = record {
  read_out = out;
  no_book = λ outbox rs book enter.
      let r = values_rest bytes values (book_values outbox rs) n behind stand book.spelled in
      none_more limits bytes values n behind stand short wrong r.more r.spelled (record { outbox = outbox; records = rs; fair = book.fair; enter = enter; values_are = r.all });
  place = record { before = values; behind = behind; stand = stand; first = first; short = short; wrong = wrong };
}

-- as a call tells it
pub malformed_by : (limits : Limits) (bytes : List ℕ) (left : Option (List ℕ)) (values : List Tree) (n : ℕ) (Next : Tree → Type 0) → StopsBehind bytes left values n Next → (more : List Tree) × AreOfBook limits values more
    → (AreOfBook limits values [] → ⊥) → ((t : Tree) (more : List Tree) → AreOfBook limits values (t ∷ more) → Next t → ⊥) → IsMalformed limits bytes left n
malformed_by limits bytes left values n Next s first short wrong =
    is_malformed limits bytes left values n s.behind s.read_out s.stand first (λ e b. short b) (λ t more at rest h b. wrong t more b (s.next t at rest h))

-- ---- before the first value

pub first_of_none : (limits : Limits) → (more : List Tree) × AreOfBook limits [] more
first_of_none limits = (
  book_values 16 [],
  record {
    outbox = 16;
    records = [];
    fair = record { least = omega arith; most = omega arith; each = tt };
    enter = refl;
    values_are = refl;
  },
)

pub none_short : (limits : Limits) → AreOfBook limits [] [] → ⊥
none_short limits b = let e : book_values b.outbox b.records ≡ [] = b.values_are in cc

pub none_wrong : (limits : Limits) (t : Tree) (more : List Tree) → AreOfBook limits [] (t ∷ more) → outbox_in t ≡ None → ⊥
none_wrong limits t more b n =
    let heads : book_head b.outbox ≡ t = let e = b.values_are in cc in
    let c : Some b.outbox ≡ None = sym (outbox_there b.outbox b.fair.least b.fair.most) ∙ ap outbox_in heads ∙ n in cc

-- ---- behind records

book_more : (outbox : ℕ) (rs : List Recorded) → book_values outbox rs ≡ front_values outbox rs ++ book_end (length rs) ∷ []
book_more outbox rs = refl

pub first_of_records : (outbox : ℕ) (limits : Limits) (rs : List Recorded) → AreFair outbox rs → AllEnter outbox limits rs → (more : List Tree) × AreOfBook limits (front_values outbox rs) more
first_of_records outbox limits rs f e = (book_end (length rs) ∷ [], record { outbox = outbox; records = rs; fair = f; enter = e; values_are = refl })

of_book : (outbox : ℕ) (limits : Limits) (rs : List Recorded) (ws more : List Tree) → AreFair outbox rs → (b : AreOfBook limits (front_values outbox rs ++ ws) more) → BookGoesOn outbox b.outbox rs b.records (ws ++ more)
of_book outbox limits rs ws more f b =
    book_goes_on outbox b.outbox rs b.records (ws ++ more) f b.fair (b.values_are ∙ append_assoc (front_values outbox rs) ws more)

no_more_end : (xs : List Tree) (t : Tree) → [] ≡ xs ++ t ∷ [] → ⊥
no_more_end [] t e = cc
no_more_end (x ∷ xs) t e = cc

of_front : (outbox : ℕ) (limits : Limits) (rs : List Recorded) (more : List Tree) → AreFair outbox rs → (b : AreOfBook limits (front_values outbox rs) more) → BookGoesOn outbox b.outbox rs b.records more
of_front outbox limits rs more f b = book_goes_on outbox b.outbox rs b.records more f b.fair b.values_are

pub records_short : (outbox : ℕ) (limits : Limits) (rs : List Recorded) → AreFair outbox rs → AreOfBook limits (front_values outbox rs) [] → ⊥
records_short outbox limits rs f b =
    let g = (of_front outbox limits rs [] f b).goes in
    no_more_end (flat_map recorded_values g.more) (book_end (length b.records)) g.rest_is

-- the value behind records, of which there is no end, is that of an entry that enters
record NextRecord (outbox : ℕ) (limits : Limits) (rs : List Recorded) (t : Tree) : Type 0 where
  pub next : Recorded
  pub fair : IsFairRecord next
  pub is : t ≡ entry_head next.entry (length (output_pieces next.output))
  pub enters : IsSome (run outbox limits (entries_of_records rs ++ next.entry ∷ []))

front_step : (es more : List Entry) → ((v : World) → IsSome (run_from v (es ++ more)) → IsSome (run_from v es)) → (o : Option World) → IsSome (option_and_then (λ v. run_from v (es ++ more)) o) → IsSome (option_and_then (λ v. run_from v es) o)
front_step es more next None h = h
front_step es more next (Some v) h = next v h

front_runs : (w : World) (es more : List Entry) → IsSome (run_from w (es ++ more)) → IsSome (run_from w es)
front_runs w [] more h = refl
front_runs w (e ∷ es) more h = front_step es more (λ v k. front_runs v es more k) (world_made (step w e.event)) h

entries_parts : (rs more : List Recorded) → entries_of_records (rs ++ more) ≡ entries_of_records rs ++ entries_of_records more
entries_parts rs more = map-append (λ (x : Recorded). x.entry) rs more

next_enters_by : (outbox other : ℕ) (limits : Limits) (rs all : List Recorded) (r : Recorded) (more : List Recorded) → other ≡ outbox → all ≡ rs ++ r ∷ more → AllEnter other limits all → IsSome (run outbox limits (entries_of_records rs ++ r.entry ∷ []))
next_enters_by outbox other limits rs all r more o e h =
    let split : entries_of_records all ≡ (entries_of_records rs ++ r.entry ∷ []) ++ entries_of_records more =
    ap (λ (l : List Recorded). entries_of_records l) e ∙ entries_parts rs (r ∷ more) ∙ sym (append_assoc (entries_of_records rs) (r.entry ∷ []) (entries_of_records more)) in
    front_runs (fresh_world outbox limits) (entries_of_records rs ++ r.entry ∷ []) (entries_of_records more)
    (subst (λ (l : List Entry). IsSome (run outbox limits l)) split (subst (λ (n : ℕ). IsSome (run n limits (entries_of_records all))) o h))

next_by : (outbox : ℕ) (limits : Limits) (rs : List Recorded) (t : Tree) (more : List Tree) (b : AreOfBook limits (front_values outbox rs) (t ∷ more)) (others : List Recorded) → b.outbox ≡ outbox → b.records ≡ rs ++ others
    → t ∷ more ≡ flat_map recorded_values others ++ book_end (length b.records) ∷ [] → AllByRecursion IsFairRecord others → (t ≡ book_end (length rs)) ⊎ NextRecord outbox limits rs t
next_by outbox limits rs t more b [] o a e f =
    let heads : t ≡ book_end (length b.records) = cc in
    inl (heads ∙ ap book_end (ap (length {A = Recorded}) (a ∙ append-nil rs)))
next_by outbox limits rs t more b (r ∷ others) o a e f =
    let heads : t ≡ entry_head r.entry (length (output_pieces r.output)) = cc in
    inr (record { next = r; fair = f.0; is = heads; enters = next_enters_by outbox b.outbox limits rs b.records r others o a b.enter })

next_value : (outbox : ℕ) (limits : Limits) (rs : List Recorded) (t : Tree) (more : List Tree) → AreFair outbox rs → AreOfBook limits (front_values outbox rs) (t ∷ more) → (t ≡ book_end (length rs)) ⊎ NextRecord outbox limits rs t
next_value outbox limits rs t more f b =
    let g = of_front outbox limits rs (t ∷ more) f b in
    next_by outbox limits rs t more b g.goes.more g.outbox_is g.goes.all_are g.goes.rest_is g.goes.fair

-- a value that is no part of a book
pub no_part_wrong : (outbox : ℕ) (limits : Limits) (rs : List Recorded) (t : Tree) (more : List Tree) → AreFair outbox rs → AreOfBook limits (front_values outbox rs) (t ∷ more) → heading_in t ≡ None → entry_count_in t ≡ None → ⊥
no_part_wrong outbox limits rs t more f b h n =
    ⊎_elim
    (λ e. let c : Some (length rs) ≡ None = sym (end_there (length rs)) ∙ ap entry_count_in (sym e) ∙ n in cc)
    (λ r. let c : Some (record { entry = r.next.entry; count = length (output_pieces r.next.output) }) ≡ None = sym (record_there r.next r.fair) ∙ ap heading_in (sym r.is) ∙ h in cc)
    (next_value outbox limits rs t more f b)

-- an entry that doesn't enter
pub refused_wrong : (outbox : ℕ) (limits : Limits) (rs : List Recorded) (t : Tree) (more : List Tree) (h : Heading) → AreFair outbox rs → AreOfBook limits (front_values outbox rs) (t ∷ more) → heading_in t ≡ Some h
    → (IsSome (run outbox limits (entries_of_records rs ++ h.entry ∷ [])) → ⊥) → ⊥
refused_wrong outbox limits rs t more h f b e out =
    ⊎_elim
    (λ s. let c : None ≡ Some h = sym (end_no_heading (length rs)) ∙ ap heading_in (sym s) ∙ e in cc)
    (λ r.
    let same = same_Some _ h (sym (record_there r.next r.fair) ∙ ap heading_in (sym r.is) ∙ e) in
    out (subst (λ (x : Entry). IsSome (run outbox limits (entries_of_records rs ++ x ∷ []))) (ap (λ (x : Heading). x.entry) same) r.enters))
    (next_value outbox limits rs t more f b)

-- an end that tells another number
pub count_wrong : (outbox : ℕ) (limits : Limits) (rs : List Recorded) (t : Tree) (more : List Tree) (n : ℕ) → AreFair outbox rs → AreOfBook limits (front_values outbox rs) (t ∷ more) → entry_count_in t ≡ Some n → (n ≡ length rs → ⊥) → ⊥
count_wrong outbox limits rs t more n f b e other =
    ⊎_elim
    (λ s. other (same_Some n (length rs) (sym e ∙ ap entry_count_in s ∙ end_there (length rs))))
    (λ r. let c : None ≡ Some n = sym (entry_no_end r.next.entry (length (output_pieces r.next.output))) ∙ ap entry_count_in (sym r.is) ∙ e in cc)
    (next_value outbox limits rs t more f b)

-- ---- behind the end

pub first_of_all : (outbox : ℕ) (limits : Limits) (rs : List Recorded) → AreFair outbox rs → AllEnter outbox limits rs → (more : List Tree) × AreOfBook limits (book_values outbox rs) more
first_of_all outbox limits rs f e = ([], record { outbox = outbox; records = rs; fair = f; enter = e; values_are = sym (append-nil (book_values outbox rs)) })

all_by : (others : List Recorded) (n m : ℕ) (t : Tree) (more : List Tree) → book_end n ∷ t ∷ more ≡ flat_map recorded_values others ++ book_end m ∷ [] → ⊥
all_by [] n m t more e = cc
all_by (r ∷ others) n m t more e =
    let heads : book_end n ≡ entry_head r.entry (length (output_pieces r.output)) = cc in
    let c : Some n ≡ None = sym (end_there n) ∙ ap entry_count_in heads ∙ entry_no_end r.entry (length (output_pieces r.output)) in cc

pub all_wrong : (outbox : ℕ) (limits : Limits) (rs : List Recorded) (t : Tree) (more : List Tree) → AreFair outbox rs → AreOfBook limits (book_values outbox rs) (t ∷ more) → ⊥
all_wrong outbox limits rs t more f b =
    let g = (of_book outbox limits rs (book_end (length rs) ∷ []) (t ∷ more) f b).goes in
    all_by g.more (length rs) (length b.records) t more g.rest_is

-- ---- within an output

abbrev pub values_within : ℕ → List Recorded → Entry → ℕ → List (List ℕ) → List Tree
values_within outbox rs e count pieces = front_values outbox rs ++ (entry_head e count ∷ map bin pieces)

-- what follows pieces of an output
record NextWithin (count : ℕ) (pieces : List (List ℕ)) (more : List Tree) : Type 0 where
  pub output : List ℕ
  pub behind : List Tree
  pub number : length (output_pieces output) ≡ count
  pub bins : map bin (output_pieces output) ++ behind ≡ map bin pieces ++ more

within_by : (e : Entry) (count : ℕ) (pieces : List (List ℕ)) (more : List Tree) (others : List Recorded) (total : ℕ) → heading_in (entry_head e count) ≡ Some (record { entry = e; count = count }) → AllByRecursion IsFairRecord others
    → (entry_head e count ∷ map bin pieces) ++ more ≡ flat_map recorded_values others ++ book_end total ∷ [] → NextWithin count pieces more
within_by e count pieces more [] total t f h =
    absurd (let heads : entry_head e count ≡ book_end total = cc in
    let c : None ≡ Some total = sym (entry_no_end e count) ∙ ap entry_count_in heads ∙ end_there total in cc)
within_by e count pieces more (r ∷ others) total t f h =
    let split : (entry_head e count ∷ map bin pieces) ++ more ≡ recorded_values r ++ (flat_map recorded_values others ++ book_end total ∷ []) =
    h ∙ append_assoc (recorded_values r) (flat_map recorded_values others) (book_end total ∷ []) in
    let heads : entry_head e count ≡ entry_head r.entry (length (output_pieces r.output)) = cc in
    let tails : map bin pieces ++ more ≡ map bin (output_pieces r.output) ++ (flat_map recorded_values others ++ book_end total ∷ []) = cc in
    let same = same_Some _ _ (sym (record_there r f.0) ∙ ap heading_in (sym heads) ∙ t) in
    record { output = r.output; behind = flat_map recorded_values others ++ book_end total ∷ []; number = ap (λ (x : Heading). x.count) same; bins = sym tails }

within : (outbox : ℕ) (limits : Limits) (rs : List Recorded) (e : Entry) (count : ℕ) (pieces : List (List ℕ)) (more : List Tree) → AreFair outbox rs → heading_in (entry_head e count) ≡ Some (record { entry = e; count = count })
    → AreOfBook limits (values_within outbox rs e count pieces) more → NextWithin count pieces more
within outbox limits rs e count pieces more f t b =
    let g = (of_book outbox limits rs (entry_head e count ∷ map bin pieces) more f b).goes in
    within_by e count pieces more g.more (length b.records) t g.fair g.rest_is

bins_long : (pieces : List (List ℕ)) → length (map bin pieces) ≡ length pieces
bins_long [] = refl
bins_long (p ∷ pieces) = ap suc (bins_long pieces)

pub within_short : (outbox : ℕ) (limits : Limits) (rs : List Recorded) (e : Entry) (count : ℕ) (pieces : List (List ℕ)) → AreFair outbox rs → heading_in (entry_head e count) ≡ Some (record { entry = e; count = count }) → length pieces < count
    → AreOfBook limits (values_within outbox rs e count pieces) [] → ⊥
within_short outbox limits rs e count pieces f t l b =
    let n = within outbox limits rs e count pieces [] f t b in
    let long = ap (length {A = Tree}) n.bins in
    omega (arith, l, n.number, long, length-append (map bin (output_pieces n.output)) n.behind, length-append (map bin pieces) [], bins_long (output_pieces n.output), bins_long pieces)

pub within_wrong : (outbox : ℕ) (limits : Limits) (rs : List Recorded) (e : Entry) (count : ℕ) (pieces : List (List ℕ)) (t : Tree) (more : List Tree) → AreFair outbox rs → heading_in (entry_head e count) ≡ Some (record { entry = e; count = count }) → length pieces < count
    → AreOfBook limits (values_within outbox rs e count pieces) (t ∷ more) → IsNoPiece (length pieces + 1 == count) t → ⊥
within_wrong outbox limits rs e count pieces t more f h l b none =
    let n = within outbox limits rs e count pieces (t ∷ more) f h b in
    let p = next_bin (output_pieces n.output) pieces n.behind more t (omega (arith, l, n.number)) n.bins in
    none p.piece p.is (piece_there n.output count pieces p.rest p.piece n.number p.all_are)
