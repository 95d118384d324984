-- The texts that are listed of messages that fold to the moments of a buffer.
use Rattle.std.proofs.Common.{◌≡◌, ℕ, ◌+◌, ℤ, nat_abs, Bool, true, false, List, [], ◌∷◌, ◌++◌, length, map, Option, Some, None, refl, sym, ap, ap₂, subst, ◌∙◌, append_assoc, append-nil, inl, inr, cond}
use Rattle.std.specs.Prelude.{option_map, option_and_then, unwrap_or, IsSome}
use Rattle.std.specs.Option.{option_or}
use Rattle.std.specs.List.{AllByRecursion}
use Rattle.std.proofs.lemmas.Option.{none-some, same_Some}
use Rattle.nv_places.specs.Flat.{flat}
use Rattle.nv_rpc.specs.Calls.{call_in}
use Rattle.nv_rpc.specs.Messages.{Sent, reply, lines_event, tick_event, detach_event, fault_event, message_tree}
use Rattle.nv_rpc.specs.Received.{message_as_read}
use Rattle.nv_rpc.proofs.Inverse.{told_is_read}
use Rattle.nv_model.specs.Editors.{ModelEditor}
use Rattle.nv_subs.specs.Mirrors.{Mirror, absent, ticking, holding, mirror_after, mirror_after_all, mirror_of}
use Rattle.nv_history.specs.Laws.{FoldsToMoment}
use Rattle.nv_history.specs.Texts.{lines_at_tick, tick_if, last_tick, last_tick_of, sends_lines_of, IsMirrored}
use Rattle.nv_mirror.specs.Listings.{Received, message, StopReason, buffer_detached, request_refused, unfit, strange, refusal_in, is_detach_of, is_lines_of, received_as, received_in, messages_with, messages_in, stop_if_unfit, stop_at, stop_by, stop_from, next_mirror, text_heading, text_listed, listed_by, listing_with, listing_from}
use Rattle.nv_mirror_laws.specs.Laws.{HasRefusal, text_at_tick, texts_at_ticks}
use Rattle.nv_mirror_laws.proofs.Bounds.{IsWithinBounds}

-- ---- the value of a message tells it
pub received_is : (m : Sent) → IsWithinBounds m → received_in (message_tree m) ≡ message (message_as_read m)
received_is m h = ap (λ (o : Option Sent). received_as o (call_in (message_tree m))) (told_is_read m h.typed)

stops_same : (n : ℤ) (number : ℕ) (mirror : Mirror) (m : Sent) (later : Mirror → Option StopReason) → stop_by n number mirror (message (message_as_read m)) later ≡ stop_by n number mirror (message m) later
stops_same n number mirror (reply msgid None result) later = refl
stops_same n number mirror (reply msgid (Some fault) result) later = refl
stops_same n number mirror (lines_event about tick first last new) later = refl
stops_same n number mirror (tick_event about tick) later = refl
stops_same n number mirror (detach_event about) later = refl
stops_same n number mirror (fault_event fault) later = refl

lists_same : (n : ℤ) (mirror : Mirror) (m : Sent) (later : List Sent) → listing_from n mirror (message_as_read m ∷ later) ≡ listing_from n mirror (m ∷ later)
lists_same n mirror (reply msgid None result) later = refl
lists_same n mirror (reply msgid (Some fault) result) later = refl
lists_same n mirror (lines_event about tick first last new) later = refl
lists_same n mirror (tick_event about tick) later = refl
lists_same n mirror (detach_event about) later = refl
lists_same n mirror (fault_event fault) later = refl

read_messages : (ms : List Sent) → AllByRecursion IsWithinBounds ms → messages_in (map message_tree ms) ≡ map message_as_read ms
read_messages [] all = refl
read_messages (m ∷ ms) all =
    ap (λ (r : Received). messages_with r (messages_in (map message_tree ms))) (received_is m all.0)
    ∙ ap (λ (l : List Sent). message_as_read m ∷ l) (read_messages ms all.1)

all_lists_same : (n : ℤ) (mirror : Mirror) (ms : List Sent) → listing_from n mirror (map message_as_read ms) ≡ listing_from n mirror ms
all_lists_same n mirror [] = refl
all_lists_same n mirror (m ∷ ms) =
    lists_same n mirror m (map message_as_read ms)
    ∙ ap (λ (l : List ℕ). listing_with (stop_at n 0 mirror m) (listed_by n m (next_mirror n mirror m)) l) (all_lists_same n (next_mirror n mirror m) ms)

-- what the values of messages list
pub values_list : (n : ℤ) (mirror : Mirror) (ms : List Sent) → AllByRecursion IsWithinBounds ms → listing_from n mirror (messages_in (map message_tree ms)) ≡ listing_from n mirror ms
values_list n mirror ms all = ap (λ (l : List Sent). listing_from n mirror l) (read_messages ms all) ∙ all_lists_same n mirror ms

-- ---- a fold, one message more
same_some : (o : Option Mirror) → option_and_then (λ (x : Mirror). Some x) o ≡ o
same_some None = refl
same_some (Some x) = refl

pushed_first : (n : ℤ) (d : Mirror) (xs : List Sent) (m : Sent) (o : Option Mirror) → ((y : Mirror) → mirror_after_all n y xs ≡ Some d → mirror_after_all n y (xs ++ m ∷ []) ≡ mirror_after n d m)
    → option_and_then (λ (y : Mirror). mirror_after_all n y xs) o ≡ Some d → option_and_then (λ (y : Mirror). mirror_after_all n y (xs ++ m ∷ [])) o ≡ mirror_after n d m
pushed_first n d xs m None more e = absurd (none-some d e)
pushed_first n d xs m (Some y) more e = more y e

pushed : (n : ℤ) (c d : Mirror) (ms : List Sent) (m : Sent) → mirror_after_all n c ms ≡ Some d → mirror_after_all n c (ms ++ m ∷ []) ≡ mirror_after n d m
pushed n c d [] m e = same_some (mirror_after n c m) ∙ ap (λ (x : Mirror). mirror_after n x m) (same_Some c d e)
pushed n c d (x ∷ xs) m e = pushed_first n d xs m (mirror_after n c x) (λ y f. pushed n y d xs m f) e

last_pushed : (n : ℤ) (t : Option ℤ) (ms : List Sent) (m : Sent) → last_tick_of n t (ms ++ m ∷ []) ≡ last_tick n (last_tick_of n t ms) m
last_pushed n t [] m = refl
last_pushed n t (x ∷ xs) m = last_pushed n (last_tick n t x) xs m

-- each front of messages folds to a moment
abbrev pub AllFold : ModelEditor → ℤ → List Sent → Type 0
AllFold m n ms = (front back : List Sent) → ms ≡ front ++ back → FoldsToMoment m n front

regroup : (done later : List Sent) (x : Sent) → done ++ (x ∷ later) ≡ (done ++ x ∷ []) ++ later
regroup done later x = sym (append_assoc done (x ∷ []) later)

-- a message that fits leaves the next mirror
next_is : (n : ℤ) (mirror next : Mirror) (x : Sent) → mirror_after n mirror x ≡ Some next → next_mirror n mirror x ≡ next
next_is n mirror next x e = ap (λ (o : Option Mirror). unwrap_or o mirror) e

some_of : (o : Option Mirror) → IsSome o → (next : Mirror) × (o ≡ Some next)
some_of None h = absurd cc
some_of (Some next) h = (next, refl)

record Going (m : ModelEditor) (n : ℤ) (done : List Sent) (x : Sent) (mirror : Mirror) : Type 0 where
  next : Mirror
  after_is : mirror_after n mirror x ≡ Some next
  of_is : mirror_of n (done ++ x ∷ []) ≡ Some next
  moment : FoldsToMoment m n (done ++ x ∷ [])

goes_on : (m : ModelEditor) (n : ℤ) (done later : List Sent) (x : Sent) (mirror : Mirror) → AllFold m n (done ++ (x ∷ later)) → mirror_of n done ≡ Some mirror → Going m n done x mirror
goes_on m n done later x mirror folds e =
    let moment = folds (done ++ x ∷ []) later (regroup done later x) in
    let there = some_of (mirror_of n (done ++ x ∷ [])) moment.fits in
    record {
      next = there.0;
      after_is = sym (pushed n absent mirror done x e) ∙ there.1;
      of_is = there.1;
      moment = moment;
    }

-- ---- where a client stops
abbrev pub IsFair : StopReason → List Sent → Type 0
IsFair buffer_detached ms = Unit {0}
IsFair (request_refused words) ms = HasRefusal words ms
IsFair (unfit n) ms = ⊥
IsFair (strange n) ms = ⊥

fair_told : (number : ℕ) (x : Sent) (later : List Sent) (words : Option (List ℕ)) (ends : Bool) (left : Option Mirror) (next : Mirror) (stop : StopReason) → refusal_in x ≡ words → left ≡ Some next
    → option_or (option_map request_refused words) (cond ends (Some buffer_detached) (stop_if_unfit number left)) ≡ Some stop → IsFair stop (x ∷ later)
fair_told number x later (Some words) ends left next stop r l e = subst (λ (s : StopReason). IsFair s (x ∷ later)) (same_Some (request_refused words) stop e) (inl r)
fair_told number x later None true left next stop r l e = subst (λ (s : StopReason). IsFair s (x ∷ later)) (same_Some buffer_detached stop e) tt
fair_told number x later None false None next stop r l e = absurd (none-some next l)
fair_told number x later None false (Some y) next stop r l e = absurd (none-some stop e)

fair_more : (stop : StopReason) (x : Sent) (later : List Sent) → IsFair stop later → IsFair stop (x ∷ later)
fair_more buffer_detached x later h = tt
fair_more (request_refused words) x later h = inr h
fair_more (unfit n) x later h = h
fair_more (strange n) x later h = h

-- by where it stops at a message, if it does
fair_by : (m : ModelEditor) (n : ℤ) (number : ℕ) (done later : List Sent) (x : Sent) (mirror : Mirror) (stop : StopReason) (g : Going m n done x mirror)
    → (stop_from n (number + 1) g.next (map message_tree later) ≡ Some stop → IsFair stop later) → (o : Option StopReason) → stop_at n number mirror x ≡ o
    → option_or (stop_at n number mirror x) (stop_from n (number + 1) (next_mirror n mirror x) (map message_tree later)) ≡ Some stop → IsFair stop (x ∷ later)
fair_by m n number done later x mirror stop g more (Some found) f told =
    let same : Some found ≡ Some stop = sym (ap (λ (o : Option StopReason). option_or o (stop_from n (number + 1) (next_mirror n mirror x) (map message_tree later))) f) ∙ told in
    fair_told number x later (refusal_in x) (is_detach_of n x) (mirror_after n mirror x) g.next stop refl g.after_is (f ∙ same)
fair_by m n number done later x mirror stop g more None f told =
    fair_more stop x later (more
    (ap (λ (y : Mirror). stop_from n (number + 1) y (map message_tree later)) (sym (next_is n mirror g.next x g.after_is))
    ∙ sym (ap (λ (o : Option StopReason). option_or o (stop_from n (number + 1) (next_mirror n mirror x) (map message_tree later))) f) ∙ told))

pub stops_fair : (m : ModelEditor) (n : ℤ) (number : ℕ) (done todo : List Sent) (mirror : Mirror) (stop : StopReason) → AllFold m n (done ++ todo) → mirror_of n done ≡ Some mirror
    → AllByRecursion IsWithinBounds todo → stop_from n number mirror (map message_tree todo) ≡ Some stop → IsFair stop todo
stops_fair m n number done [] mirror stop folds e all s = absurd (none-some stop s)
stops_fair m n number done (x ∷ later) mirror stop folds e all s =
    let g = goes_on m n done later x mirror folds e in
    let told : option_or (stop_at n number mirror x) (stop_from n (number + 1) (next_mirror n mirror x) (map message_tree later)) ≡ Some stop =
    sym (stops_same n number mirror x (λ next. stop_from n (number + 1) next (map message_tree later)))
    ∙ sym (ap (λ (r : Received). stop_by n number mirror r (λ next. stop_from n (number + 1) next (map message_tree later))) (received_is x all.0)) ∙ s in
    fair_by m n number done later x mirror stop g
    (λ more. stops_fair m n (number + 1) (done ++ x ∷ []) later g.next stop (subst (λ (l : List Sent). AllFold m n l) (regroup done later x) folds) g.of_is all.1 more)
    (stop_at n number mirror x) refl told

-- ---- what it lists
abbrev pub AreListed : ModelEditor → ℤ → List ℕ → Type 0
AreListed m n text = (ticks : List ℤ) × (text ≡ texts_at_ticks m n ticks)

-- a mirror with the lines of its moment lists them
mirrored : (m : ModelEditor) (n tick : ℤ) (sent : Bool) (mirror : Mirror) → IsMirrored (lines_at_tick m n (nat_abs tick)) tick sent (Some mirror) → AreListed m n (text_listed mirror)
mirrored m n tick true (holding held now) h =
    (tick ∷ [], ap₂ (λ (l : List (List ℕ)) (t : ℤ). text_heading t (length l) ++ flat l) h.0 h.1 ∙ sym (append-nil (text_at_tick m n tick)))
mirrored m n tick false (ticking now) h = ([], refl)
mirrored m n tick true (ticking now) h = absurd h
mirrored m n tick false (holding held now) h = absurd h
mirrored m n tick true absent h = absurd h
mirrored m n tick false absent h = absurd h

-- the changedtick of a lines event of the buffer
told_tick : (n : ℤ) (before : Option ℤ) (x : Sent) → is_lines_of n x ≡ true → (tick : ℤ) × (last_tick n before x ≡ Some tick)
told_tick n before (lines_event about tick first last new) e = (tick, ap (λ (b : Bool). tick_if b (Some tick) before) e)
told_tick n before (reply msgid fault result) e = cc
told_tick n before (tick_event about tick) e = cc
told_tick n before (detach_event about) e = cc
told_tick n before (fault_event fault) e = cc

listed_of : (m : ModelEditor) (n : ℤ) (done : List Sent) (x : Sent) (mirror : Mirror) → Going m n done x mirror → (b : Bool) → is_lines_of n x ≡ b → AreListed m n (listed_by n x (next_mirror n mirror x))
listed_of m n done x mirror g false e = ([], ap (λ (b : Bool). cond b (text_listed (next_mirror n mirror x)) []) e)
listed_of m n done x mirror g true e =
    let tick = told_tick n (last_tick_of n None done) x e in
    let is = g.moment.moment tick.0 (last_pushed n None done x ∙ tick.1) in
    let here = mirrored m n tick.0 (sends_lines_of n false (done ++ x ∷ [])) g.next
    (subst (λ (o : Option Mirror). IsMirrored (lines_at_tick m n (nat_abs tick.0)) tick.0 (sends_lines_of n false (done ++ x ∷ [])) o) g.of_is is) in (
      here.0,
      ap (λ (b : Bool). cond b (text_listed (next_mirror n mirror x)) []) e ∙ ap (λ (y : Mirror). text_listed y) (next_is n mirror g.next x g.after_is) ∙ here.1,
    )

texts_both : (m : ModelEditor) (n : ℤ) (a b : List ℤ) → texts_at_ticks m n (a ++ b) ≡ texts_at_ticks m n a ++ texts_at_ticks m n b
texts_both m n [] b = refl
texts_both m n (t ∷ a) b =
    ap (λ (l : List ℕ). text_at_tick m n t ++ l) (texts_both m n a b) ∙ sym (append_assoc (text_at_tick m n t) (texts_at_ticks m n a) (texts_at_ticks m n b))

listed_then : (m : ModelEditor) (n : ℤ) (o : Option StopReason) (first later : List ℕ) → AreListed m n first → AreListed m n later → AreListed m n (listing_with o first later)
listed_then m n None first later p q = (p.0 ++ q.0, ap₂ (λ (a : List ℕ) (b : List ℕ). a ++ b) p.1 q.1 ∙ sym (texts_both m n p.0 q.0))
listed_then m n (Some stop) first later p q = ([], refl)

pub lists_ticks : (m : ModelEditor) (n : ℤ) (done todo : List Sent) (mirror : Mirror) → AllFold m n (done ++ todo) → mirror_of n done ≡ Some mirror → AreListed m n (listing_from n mirror todo)
lists_ticks m n done [] mirror folds e = ([], refl)
lists_ticks m n done (x ∷ later) mirror folds e =
    let g = goes_on m n done later x mirror folds e in
    let rest = lists_ticks m n (done ++ x ∷ []) later g.next (subst (λ (l : List Sent). AllFold m n l) (regroup done later x) folds) g.of_is in
    listed_then m n (stop_at n 0 mirror x) (listed_by n x (next_mirror n mirror x)) (listing_from n (next_mirror n mirror x) later)
    (listed_of m n done x mirror g (is_lines_of n x) refl)
    (subst (λ (y : Mirror). AreListed m n (listing_from n y later)) (sym (next_is n mirror g.next x g.after_is)) rest)
