-- What a client comes to that reads a front of what it was sent.
use Rattle.std.proofs.Common.{◌≡◌, ℕ, ℤ, pos, List, [], ◌∷◌, ◌++◌, length, take, Option, Some, None, refl, sym, ap, subst, ◌∙◌, arith, append_assoc, inl, inr}
use Rattle.std.specs.List.{AllByRecursion}
use Rattle.std.proofs.lemmas.List.{take_all}
use Rattle.nv_value.specs.Content.{Tree, trees_of}
use Rattle.nv_msgpack.specs.Spelling.{Each}
use Rattle.nv_msgpack.specs.Within.{SpellsWithin}
use Rattle.nv_rpc.specs.Messages.{Sent}
use Rattle.nv_io.specs.declared.lanes.Flaw.{Flaw}
use Rattle.nv_io.specs.declared.lanes.Flaw.TheVariants.{Bad, TooDeep, TooLong, Inside, NoCall}
use Rattle.nv_model.specs.Editors.{ModelEditor}
use Rattle.nv_model.specs.declared.parts.Limits.{Limits}
use Rattle.nv_subs.specs.Mirrors.{absent}
use Rattle.nv_linegrid.specs.Told.{nothing_told}
use Rattle.nv_history.specs.Events.{Entry}
use Rattle.nv_history.specs.Laws.{FoldsToText}
use Rattle.nv_history.specs.Worlds.{World}
use Rattle.nv_history.specs.Runs.{run, out, all_messages, waiting_in}
use Rattle.nv_history.specs.Spoken.{bytes_of_messages}
use Rattle.nv_mirror.specs.Listings.{StopReason, buffer_detached, request_refused, unfit, strange, messages_in, listing, stop_in}
use Rattle.nv_mirror.specs.Ends.{most_levels, most_spelled, ListsAll, StopsAtValue, ListsSome, FollowsTo, IsReadToEnd}
use Rattle.nv_mirror.specs.declared.followed.Followed.{Followed}
use Rattle.nv_mirror.specs.declared.followed.Followed.TheVariants.{Ended, Detached, Malformed, Refused, Unfit, ReadFault, ServerFault, OutputFault, NoMemory}
use Rattle.nv_mirror_laws.specs.Laws.{HasLong, HasRefusal, MayComeOf, FollowsServer, ServedBytesAreFollowed, texts_at_ticks}
use Rattle.nv_mirror_laws.proofs.Bounds.{IsWithinBounds, IsServed}
use Rattle.nv_mirror_laws.proofs.Followers.{is_served}
use Rattle.nv_mirror_laws.proofs.Sending.{AreOf, bare_bytes, of_front, ends_by}
use Rattle.nv_mirror_laws.proofs.Texts.{AllFold, AreListed, IsFair, values_list, stops_fair, lists_ticks}

-- ---- of more messages
long_more : (a b : List Sent) → HasLong b → HasLong (a ++ b)
long_more [] b h = h
long_more (m ∷ ms) b h = inr (long_more ms b h)

pub refusal_more : (words : List ℕ) (a b : List Sent) → HasRefusal words a → HasRefusal words (a ++ b)
refusal_more words [] b h = absurd h
refusal_more words (m ∷ ms) b (inl e) = inl e
refusal_more words (m ∷ ms) b (inr h) = inr (refusal_more words ms b h)

may_more : (a b : List Sent) (f : Flaw) → MayComeOf b f → MayComeOf (a ++ b) f
may_more a b (Inside n) h = tt
may_more a b (TooLong n) h = long_more a b h
may_more a b (Bad n) h = h
may_more a b (TooDeep n) h = h
may_more a b (NoCall n) h = h

readable_first : (a b : List Sent) → AllByRecursion IsWithinBounds (a ++ b) → AllByRecursion IsWithinBounds a
readable_first [] b h = tt
readable_first (m ∷ ms) b h = (h.0, readable_first ms b h.1)

readable_others : (a b : List Sent) → AllByRecursion IsWithinBounds (a ++ b) → AllByRecursion IsWithinBounds b
readable_others [] b h = h
readable_others (m ∷ ms) b h = readable_others ms b h.1

-- ---- messages that a session was sent, and values that a client looked at
module _ (m : ModelEditor) (n : ℤ) (ms : List Sent) (all : AllByRecursion IsWithinBounds ms) (folds : AllFold m n ms) where
  first_folds : (first others : List Sent) → ms ≡ first ++ others → AllFold m n first
  first_folds first others e = λ front back d. folds front (back ++ others) (e ∙ ap (λ (l : List Sent). l ++ others) d ∙ append_assoc front back others)

  first_readable : (first others : List Sent) → ms ≡ first ++ others → AllByRecursion IsWithinBounds first
  first_readable first others e = readable_first first others (subst (λ (l : List Sent). AllByRecursion IsWithinBounds l) e all)

  -- what the values list
  listed_of_values : (values : List Tree) (rest tail : List ℕ) → AreOf ms values rest tail → AreListed m n (listing n (messages_in values))
  listed_of_values values rest tail h =
      let t = lists_ticks m n [] h.first absent (first_folds h.first h.others h.split) refl in (
        t.0,
        ap (λ (l : List Tree). listing n (messages_in l)) h.values_are ∙ values_list n absent h.first (first_readable h.first h.others h.split) ∙ t.1,
      )

  -- where a client stops at them
  fair_first : (values : List Tree) (rest tail : List ℕ) (stop : StopReason) (h : AreOf ms values rest tail) → stop_in n values ≡ Some stop → IsFair stop h.first
  fair_first values rest tail stop h e =
      stops_fair m n 0 [] h.first absent stop (first_folds h.first h.others h.split) refl (first_readable h.first h.others h.split)
      (sym (ap (λ (l : List Tree). stop_in n l) h.values_are) ∙ e)

  fair_all : (a b : List Sent) (stop : StopReason) → IsFair stop a → IsFair stop (a ++ b)
  fair_all a b buffer_detached h = tt
  fair_all a b (request_refused words) h = refusal_more words a b h
  fair_all a b (unfit k) h = h
  fair_all a b (strange k) h = h

  fair_values : (values : List Tree) (rest tail : List ℕ) (stop : StopReason) → AreOf ms values rest tail → stop_in n values ≡ Some stop → IsFair stop ms
  fair_values values rest tail stop h e =
      subst (λ (l : List Sent). IsFair stop l) (sym h.split) (fair_all h.first h.others stop (fair_first values rest tail stop h e))

  -- ---- by how it ended
  told_all : (listed : List ℕ) (values : List Tree) (rest tail : List ℕ) → AreOf ms values rest tail → listed ≡ listing n (messages_in values) → AreListed m n listed
  told_all listed values rest tail h e = let t = listed_of_values values rest tail h in (t.0, e ∙ t.1)

  whole_take : (l : List ℕ) → l ≡ take (length l) l
  whole_take l = sym (take_all (length l) l (omega arith))

  ended : (listed : List ℕ) → AreListed m n listed → FollowsServer m n ms Ended listed
  ended listed t = record {
    ticks = t.0;
    count = length (texts_at_ticks m n t.0);
    lists = t.1 ∙ whole_take (texts_at_ticks m n t.0);
    whole = λ i. t.1;
    fits = λ k e. cc;
    flawed = λ f e. cc;
    refused = λ words e. cc;
  }

  detached : (listed : List ℕ) → AreListed m n listed → FollowsServer m n ms Detached listed
  detached listed t = record {
    ticks = t.0;
    count = length (texts_at_ticks m n t.0);
    lists = t.1 ∙ whole_take (texts_at_ticks m n t.0);
    whole = λ i. t.1;
    fits = λ k e. cc;
    flawed = λ f e. cc;
    refused = λ words e. cc;
  }

  malformed : (f : Flaw) (listed : List ℕ) → AreListed m n listed → MayComeOf ms f → FollowsServer m n ms (Malformed f) listed
  malformed f listed t may = record {
    ticks = t.0;
    count = length (texts_at_ticks m n t.0);
    lists = t.1 ∙ whole_take (texts_at_ticks m n t.0);
    whole = λ i. t.1;
    fits = λ k e. cc;
    flawed = λ g e. let same : f ≡ g = cc in subst (λ (x : Flaw). MayComeOf ms x) same may;
    refused = λ words e. cc;
  }

  was_refused : (words : List ℕ) (listed : List ℕ) → AreListed m n listed → HasRefusal words ms → FollowsServer m n ms (Refused words) listed
  was_refused words listed t has = record {
    ticks = t.0;
    count = length (texts_at_ticks m n t.0);
    lists = t.1 ∙ whole_take (texts_at_ticks m n t.0);
    whole = λ i. t.1;
    fits = λ k e. cc;
    flawed = λ f e. cc;
    refused = λ others e. let same : words ≡ others = cc in subst (λ (x : List ℕ). HasRefusal x ms) same has;
  }

  read_fault : (listed : List ℕ) → AreListed m n listed → FollowsServer m n ms ReadFault listed
  read_fault listed t = record {
    ticks = t.0;
    count = length (texts_at_ticks m n t.0);
    lists = t.1 ∙ whole_take (texts_at_ticks m n t.0);
    whole = λ i. t.1;
    fits = λ k e. cc;
    flawed = λ f e. cc;
    refused = λ words e. cc;
  }

  server_fault : FollowsServer m n ms ServerFault []
  server_fault = record {
    ticks = [];
    count = 0;
    lists = refl;
    whole = λ i. absurd i;
    fits = λ k e. cc;
    flawed = λ f e. cc;
    refused = λ words e. cc;
  }

  partly : (listed : List ℕ) (count : ℕ) (all_of_it : List ℕ) → AreListed m n all_of_it → listed ≡ take count all_of_it → (ticks : List ℤ) × (listed ≡ take count (texts_at_ticks m n ticks))
  partly listed count all_of_it t e = (t.0, e ∙ ap (λ (l : List ℕ). take count l) t.1)

  output_fault : (listed : List ℕ) (count : ℕ) → (ticks : List ℤ) × (listed ≡ take count (texts_at_ticks m n ticks)) → FollowsServer m n ms OutputFault listed
  output_fault listed count t = record {
    ticks = t.0;
    count = count;
    lists = t.1;
    whole = λ i. absurd i;
    fits = λ k e. cc;
    flawed = λ f e. cc;
    refused = λ words e. cc;
  }

  no_memory : (listed : List ℕ) (count : ℕ) → (ticks : List ℤ) × (listed ≡ take count (texts_at_ticks m n ticks)) → FollowsServer m n ms NoMemory listed
  no_memory listed count t = record {
    ticks = t.0;
    count = count;
    lists = t.1;
    whole = λ i. absurd i;
    fits = λ k e. cc;
    flawed = λ f e. cc;
    refused = λ words e. cc;
  }

  -- ---- the bytes read, and those that were to come
  of_values : (bytes tail : List ℕ) (values : List Tree) (front rest : List ℕ) → bytes ++ tail ≡ bytes_of_messages ms → Each (SpellsWithin most_levels most_spelled) (trees_of values) front → bytes ≡ front ++ rest
      → AreOf ms values rest tail
  of_values bytes tail values front rest sent each e = of_front ms values front rest tail all each (sym (ap (λ (l : List ℕ). l ++ tail) e) ∙ sent)

  by_all : (end : Option Flaw) (bytes tail listed : List ℕ) → bytes ++ tail ≡ bytes_of_messages ms → ListsAll n end bytes listed → AreListed m n listed
  by_all end bytes tail listed sent h =
      told_all listed h.values h.cut.1 tail (of_values bytes tail h.values h.cut.0 h.cut.1 sent h.cut.2 h.cut.3) h.lists

  by_end : (f : Flaw) (bytes tail listed : List ℕ) → bytes ++ tail ≡ bytes_of_messages ms → ListsAll n (Some f) bytes listed → MayComeOf ms f
  by_end f bytes tail listed sent h =
      let o = of_values bytes tail h.values h.cut.0 h.cut.1 sent h.cut.2 h.cut.3 in
      subst (λ (l : List Sent). MayComeOf l f) (sym o.split)
      (may_more o.first o.others f (ends_by o.others (length h.cut.0) h.cut.1 tail f (readable_others o.first o.others (subst (λ (l : List Sent). AllByRecursion IsWithinBounds l) o.split all)) o.left h.cut.4))

  by_stop : (stop : StopReason) (bytes tail listed : List ℕ) → bytes ++ tail ≡ bytes_of_messages ms → StopsAtValue n stop bytes listed → AreListed m n listed × IsFair stop ms
  by_stop stop bytes tail listed sent h =
      let o = of_values bytes tail h.values h.front.0 h.rest sent h.front.1 h.front.2 in
      (told_all listed h.values h.rest tail o h.lists, fair_values h.values h.rest tail stop o h.stops)

  by_some : (bytes tail listed : List ℕ) → bytes ++ tail ≡ bytes_of_messages ms → (h : ListsSome n bytes listed) → (ticks : List ℤ) × (listed ≡ take h.count (texts_at_ticks m n ticks))
  by_some bytes tail listed sent h =
      partly listed h.count (listing n (messages_in h.values))
      (listed_of_values h.values h.rest tail (of_values bytes tail h.values h.front.0 h.rest sent h.front.1 h.front.2)) h.lists

  follows_server : (over : Type 0) (followed : Followed) (bytes tail listed : List ℕ) → bytes ++ tail ≡ bytes_of_messages ms → FollowsTo over n followed bytes listed → FollowsServer m n ms followed listed
  follows_server over Ended bytes tail listed sent h = ended listed (by_all None bytes tail listed sent h.0)
  follows_server over Detached bytes tail listed sent h = detached listed (by_stop buffer_detached bytes tail listed sent h).0
  follows_server over (Malformed (NoCall k)) bytes tail listed sent h = absurd (by_stop (strange k) bytes tail listed sent h).1
  follows_server over (Malformed (Inside k)) bytes tail listed sent h =
      malformed (Inside k) listed (by_all (Some (Inside k)) bytes tail listed sent h.0) (by_end (Inside k) bytes tail listed sent h.0)
  follows_server over (Malformed (Bad k)) bytes tail listed sent h = malformed (Bad k) listed (by_all (Some (Bad k)) bytes tail listed sent h) (by_end (Bad k) bytes tail listed sent h)
  follows_server over (Malformed (TooDeep k)) bytes tail listed sent h =
      malformed (TooDeep k) listed (by_all (Some (TooDeep k)) bytes tail listed sent h) (by_end (TooDeep k) bytes tail listed sent h)
  follows_server over (Malformed (TooLong k)) bytes tail listed sent h =
      malformed (TooLong k) listed (by_all (Some (TooLong k)) bytes tail listed sent h) (by_end (TooLong k) bytes tail listed sent h)
  follows_server over (Refused words) bytes tail listed sent h =
      let s = by_stop (request_refused words) bytes tail listed sent h in was_refused words listed s.0 s.1
  follows_server over (Unfit k) bytes tail listed sent h = absurd (by_stop (unfit k) bytes tail listed sent h).1
  follows_server over ReadFault bytes tail listed sent (inl h) = read_fault listed (by_all None bytes tail listed sent h)
  follows_server over ReadFault bytes tail listed sent (inr h) = read_fault listed (by_all (Some (Inside h.0)) bytes tail listed sent h.1)
  follows_server over ServerFault bytes tail listed sent h = subst (λ (l : List ℕ). FollowsServer m n ms ServerFault l) (sym h.1) server_fault
  follows_server over OutputFault bytes tail listed sent h = output_fault listed h.count (by_some bytes tail listed sent h)
  follows_server over NoMemory bytes tail listed sent h = no_memory listed h.count (by_some bytes tail listed sent h)

-- ---- of a history
all_fold : FoldsToText → (capacity : ℕ) (limits : Limits) (history : List Entry) (s : ℕ) (w : World) (sent : List ℕ) (n : ℤ) → IsServed capacity limits history s w sent
    → AllFold w.editor n (all_messages (out capacity limits s history))
unfolding FoldsToText
all_fold law capacity limits history s w sent n h = λ front back e.
    let waits = waiting_in s (run capacity limits history) in
    law capacity limits history w s h.session n front (back ++ waits) h.runs h.there
    (ap (λ (l : List Sent). l ++ waits) e ∙ append_assoc front back waits)

pub served_bytes_are_followed : FoldsToText → ServedBytesAreFollowed
unfolding ServedBytesAreFollowed
served_bytes_are_followed law capacity limits history s buffer w left sent bytes rest listed followed h e f =
    let is = is_served capacity limits history s buffer w sent h in
    let batches = out capacity limits s history in
    let ms = all_messages batches in
    let spoken = bare_bytes nothing_told batches sent is.bytes.0 is.bytes.1 is.bare is.bytes.2 in
    follows_server w.editor (pos buffer) ms is.readable (all_fold law capacity limits history s w sent (pos buffer) is)
    (IsReadToEnd left bytes) followed bytes rest listed (sym e ∙ spoken) f
