-- Where a client is refused, and where it isn't.
use Rattle.std.proofs.Common.{◌≡◌, ◌⊎◌, inl, inr, ℕ, ◌<◌, ◌≤◌, ◌^◌, length-append, ℤ, pos, List, [], ◌∷◌, ◌++◌, length, Option, Some, None, refl, sym, ap, subst, ◌∙◌, arith, append-nil}
use Rattle.std.specs.List.{AllByRecursion}
use Rattle.std.proofs.lemmas.Bool.Decides.{nat_tests}
use Rattle.nv_value.specs.Content.{nil}
use Rattle.nv_args.specs.Faults.{no_buffer}
use Rattle.nv_value.specs.declared.fault.ApiFault.{ApiFault}
use Rattle.nv_msgpack.specs.Shortest.{shortest, text_head, list_head, unsigned_spelling}
use Rattle.nv_msgpack.specs.Spelling.{SpellsIn}
use Rattle.nv_msgpack.proofs.Spelled.{spelled}
use Rattle.nv_rpc.specs.Messages.{Sent, reply, message_tree}
use Rattle.nv_model.specs.declared.parts.Limits.{Limits}
use Rattle.nv_subs.specs.Mirrors.{absent}
use Rattle.nv_linegrid.specs.Told.{nothing_told}
use Rattle.nv_history.specs.Events.{Entry}
use Rattle.nv_history.specs.Laws.{FoldsToText}
use Rattle.nv_history.specs.Worlds.{World}
use Rattle.nv_history.specs.Runs.{run, out, all_messages, waiting_in, due}
use Rattle.nv_history.specs.Spoken.{bytes_of_messages}
use Rattle.nv_mirror.specs.Listings.{Received, request_refused, stop_by, messages_with, listing_from}
use Rattle.nv_mirror.specs.Ends.{most_levels, most_spelled, StopsAtValue, FollowsTo, IsReadToEnd}
use Rattle.nv_mirror.specs.Laws.{IsByBytes}
use Rattle.nv_mirror.specs.declared.followed.Followed.{Followed}
use Rattle.nv_mirror.specs.declared.followed.Followed.TheVariants.{Refused}
use Rattle.nv_mirror.proofs.Exact.{ends_are_one}
use Rattle.nv_mirror_laws.specs.Laws.{HasRefusal, IsSentTo, RefusalsAreOfTheCall, RefusedCallsAreTold, ServedBytesAreFollowed}
use Rattle.nv_mirror_laws.proofs.Bounds.{IsWithinBounds, few_words}
use Rattle.nv_mirror_laws.proofs.Followers.{is_served}
use Rattle.nv_mirror_laws.proofs.OneRequest.{attach_name, attach_given, refusing_fault}
use Rattle.nv_mirror_laws.proofs.Followed.{refusal_more, served_bytes_are_followed}
use Rattle.nv_mirror_laws.proofs.Replies.{IsReplyAlone, refusals_are, refused_alone}
use Rattle.nv_mirror_laws.proofs.Sending.{bare_bytes}
use Rattle.nv_mirror_laws.proofs.Texts.{received_is}

was_refused : ServedBytesAreFollowed → (capacity : ℕ) (limits : Limits) (history : List Entry) (s buffer : ℕ) (w : World) (left : Option (List ℕ)) (sent bytes rest listed words : List ℕ)
    → IsSentTo capacity limits history s buffer w sent → sent ≡ bytes ++ rest → FollowsTo (IsReadToEnd left bytes) (pos buffer) (Refused words) bytes listed
    → HasRefusal words (all_messages (out capacity limits s history))
unfolding ServedBytesAreFollowed
was_refused law capacity limits history s buffer w left sent bytes rest listed words h e f =
    (law capacity limits history s buffer w left sent bytes rest listed (Refused words) h e f).refused words refl

pub refusals_are_of_the_call : FoldsToText → RefusalsAreOfTheCall
unfolding RefusalsAreOfTheCall
refusals_are_of_the_call law capacity limits history s buffer w left sent bytes rest listed words h e f =
    let is = is_served capacity limits history s buffer w sent h in
    let has = was_refused (served_bytes_are_followed law) capacity limits history s buffer w left sent bytes rest listed words h e f in
    refusals_are capacity limits 1 attach_name (attach_given (pos buffer)) history w s is.session words is.runs is.there h.only
    (refusal_more words (all_messages (out capacity limits s history)) (waiting_in s (run capacity limits history)) has)

-- ---- the reply alone, as a client reads it
-- of what is due some was given
given_alone : (m : Sent) (gave waits : List Sent) → IsReplyAlone m (gave ++ waits) → (gave ≡ []) ⊎ (gave ≡ m ∷ [])
given_alone m [] waits h = inl refl
given_alone m (x ∷ xs) waits (inl e) = absurd (never_empty x (xs ++ waits) e)
  where
    never_empty : (x : Sent) (xs : List Sent) → x ∷ xs ≡ [] → ⊥
    never_empty x xs e = cc
given_alone m (x ∷ []) waits (inr e) = inr (let f : x ≡ m = cc in ap (λ (y : Sent). y ∷ []) f)
given_alone m (x ∷ y ∷ ys) waits (inr e) = absurd (no_second x y (ys ++ waits) m e)
  where
    no_second : (x y : Sent) (ys : List Sent) (m : Sent) → x ∷ y ∷ ys ≡ m ∷ [] → ⊥
    no_second x y ys m e = cc

-- a client stops at it
stops_alone : (buffer : ℤ) (fault : ApiFault) (bytes : List ℕ) → IsWithinBounds (reply 1 (Some fault) nil) → bytes ≡ shortest (message_tree (reply 1 (Some fault) nil)) → length bytes ≤ most_spelled
    → StopsAtValue buffer (request_refused fault.words) bytes []
stops_alone buffer fault bytes h e fits =
    let m = reply 1 (Some fault) nil in
    let spelling = spelled (message_tree m) h.ranged h.spelled most_levels h.shallow in
    record {
      values = message_tree (reply 1 (Some fault) nil) ∷ [];
      place = length bytes;
      rest = [];
      front = (bytes, (bytes, [], (subst (λ (l : List ℕ). SpellsIn most_levels (message_tree (reply 1 (Some fault) nil)) l) (sym e) spelling, fits), sym (append-nil bytes), refl), sym (append-nil bytes), refl);
      stops = ap (λ (r : Received). stop_by buffer 0 absent r (λ next. None)) (received_is m h);
      lists = sym (ap (λ (r : Received). listing_from buffer absent (messages_with r [])) (received_is m h));
    }

told_by : (buffer : ℤ) (left : Option (List ℕ)) (sent listed : List ℕ) (fault : ApiFault) (followed : Followed) (gave : List Sent)
    → AllByRecursion IsWithinBounds gave → sent ≡ bytes_of_messages gave → 0 < length sent → length (shortest (message_tree (reply 1 (Some fault) nil))) ≤ most_spelled → IsByBytes followed
    → FollowsTo (IsReadToEnd left sent) buffer followed sent listed → (gave ≡ []) ⊎ (gave ≡ reply 1 (Some fault) nil ∷ []) → followed ≡ Refused fault.words
told_by buffer left sent listed fault followed gave all spoken some fits i f (inl e) =
    let none : sent ≡ [] = spoken ∙ ap bytes_of_messages e in
    absurd (let n : length sent ≡ 0 = ap (length {A = ℕ}) none in omega (arith, some, n))
told_by buffer left sent listed fault followed gave all spoken some fits i f (inr e) =
    let m = reply 1 (Some fault) nil in
    let is : sent ≡ shortest (message_tree (reply 1 (Some fault) nil)) = spoken ∙ ap bytes_of_messages e ∙ append-nil (shortest (message_tree m)) in
    let readable = (subst (λ (l : List Sent). AllByRecursion IsWithinBounds l) e all).0 in
    let short : length sent ≤ most_spelled = subst (λ (l : List ℕ). length l ≤ most_spelled) (sym is) fits in
    let stop = stops_alone buffer fault sent readable is short in
    (ends_are_one buffer left sent listed [] followed (Refused fault.words) i tt f stop).0

-- ---- it is short
head_short : (n : ℕ) → length (text_head n) ≤ 5
unfolding text_head
head_short n = grind (arith, nat_tests)

reply_short : (words : List ℕ) → length words ≤ 1000 → length (shortest (message_tree (reply 1 (Some (record { kind = 1; code = 4; words = words })) nil))) ≤ 2000
unfolding message_tree list_head unsigned_spelling
reply_short words h =
    let text = text_head (length words) ++ words in
    omega (arith, h, head_short (length words), length-append (text_head (length words)) words, length-append text [], length-append (text ++ []) (0xc0 ∷ []))

enough_room : 2000 ≤ most_spelled
enough_room = omega arith

fault_short : (n : ℕ) (fault : ApiFault) → n ≤ 2 ^ 62 → fault ≡ no_buffer (pos n) → length (shortest (message_tree (reply 1 (Some fault) nil))) ≤ most_spelled
fault_short n fault most e =
    let low : length (shortest (message_tree (reply 1 (Some (no_buffer (pos n))) nil))) ≤ 2000 = reply_short (no_buffer (pos n)).words (few_words n most) in
    let room = enough_room in
    subst (λ (f : ApiFault). length (shortest (message_tree (reply 1 (Some f) nil))) ≤ most_spelled) (sym e) (omega (arith, low, room))

pub refused_calls_are_told : RefusedCallsAreTold
unfolding RefusedCallsAreTold
refused_calls_are_told capacity limits history s buffer w left sent listed fault followed h r some i f =
    let is = is_served capacity limits history s buffer w sent h in
    let gave = all_messages (out capacity limits s history) in
    let waits = waiting_in s (run capacity limits history) in
    let alone = refused_alone capacity limits 1 attach_name (attach_given (pos buffer)) history w s is.session fault is.runs is.there h.only r in
    told_by (pos buffer) left sent listed fault followed gave is.readable
    (bare_bytes nothing_told (out capacity limits s history) sent is.bytes.0 is.bytes.1 is.bare is.bytes.2) some
    (fault_short buffer fault h.most (refusing_fault r.world.editor s buffer fault h.some r.refuses)) i f
    (given_alone (reply 1 (Some fault) nil) gave waits alone)
