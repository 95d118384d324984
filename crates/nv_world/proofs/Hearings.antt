-- Facts told to all who follow a buffer, and facts one after another.
use Rattle.std.proofs.Common.{◌≡◌, ℕ, zero, suc, ◌+◌, ◌-◌, ◌<◌, ◌≤◌, Bool, true, false, not, ◌&&◌, cond, eqb, ℤ, List, [], ◌∷◌, filter, length, map, refl, sym, ap, ◌∙◌, subst, Option, Some, None, option_map, slice_get, arith}
use Rattle.std.specs.List.{AllZip, list_any}
use Rattle.std.specs.Option.{option_map_or}
use Rattle.std.specs.Ordering.{int_eq}
use Rattle.nv_rpc.specs.Messages.{Sent, detach_event}
use Rattle.nv_buffer.specs.declared.buffer.Spliced.{Spliced}
use Rattle.nv_model.specs.Answers.{Fact, attached, detached, edited, deleted, quit}
use Rattle.nv_subs.specs.Attachments.{Attachments, AreRising, HasSessions, sessions_of, is_session_of, with_session, without_session, without_sessions}
use Rattle.nv_history.specs.Sessions.{Session, follows, without_following, session_hears, session_replied, splice_message, first_message}
use Rattle.nv_world.specs.declared.session.Session.{Session as Kept}
use Rattle.nv_world.specs.inside.Sessions.{IsSession, AreSessions}
use Rattle.nv_world.specs.inside.Tellings.{map_by_number, session_put, session_updated, sessions_updated, is_closed_at, sessions_hear, sessions_hear_all, sessions_replied}
use Rattle.nv_world.proofs.Members.{eqb-same, is_session_of-without_all, is_session_of-filter, told_in}
use Rattle.std.proofs.lemmas.Bool.Decides.{nat_tests}
use Rattle.nv_world.proofs.Closing.{unless_same}
use Rattle.nv_world.proofs.Heard.{splice_put, follows-splice, deletion_put, follows-deletion}
use Rattle.nv_world.proofs.Retelling.{all_retold}
use Rattle.nv_world.proofs.Owning.{unchanged_retold, own_put, caller_there, place_before, attach_shut, attach_again, attach_new, detach_there, detach_absent}

-- who was told and is closed leaves all buffers
left_all : (subs later : Attachments) (new : List Kept) (told : List ℕ)
    → ((k : ℤ) → sessions_of later k ≡ without_sessions (filter (is_closed_at new) told) (sessions_of subs k))
    → (k : ℤ) (s : ℕ) → is_session_of (sessions_of later k) s ≡ (not (is_closed_at new s && is_session_of told s) && is_session_of (sessions_of subs k) s)
left_all subs later new told left k s =
    ap (λ (l : List ℕ). is_session_of l s) (left k)
    ∙ is_session_of-without_all (filter (is_closed_at new) told) s (sessions_of subs k)
    ∙ ap (λ (b : Bool). not b && is_session_of (sessions_of subs k) s) (is_session_of-filter (is_closed_at new) s told)

-- a splice
pub splice_heard : (at capacity caller : ℕ) (n : ℤ) (told : Spliced) (subs later : Attachments) (xs new : List Kept) (ys : List Session)
    → AreRising (sessions_of subs n) → AreSessions capacity subs xs ys
    → AllZip (IsSession capacity) new (sessions_updated (session_put at capacity (splice_message n told) (λ x. x.following)) (sessions_of subs n) ys)
    → ((k : ℤ) → sessions_of later k ≡ without_sessions (filter (is_closed_at new) (sessions_of subs n)) (sessions_of subs k))
    → AreSessions capacity later new (sessions_hear at capacity caller (edited n told) ys)
splice_heard at capacity caller n told subs later xs new ys rising old pairs left =
    all_retold capacity n (λ k. false) subs later xs new ys (session_put at capacity (splice_message n told) (λ x. x.following))
    (λ k y. session_hears at capacity (eqb k caller) (edited n told) y) rising old pairs
    (left_all subs later new (sessions_of subs n) left)
    (λ s y b e. splice_put at capacity (eqb s caller) n told y b e)
    (λ s k y quiet. follows-splice at capacity (eqb s caller) n k told y quiet)

-- a splice of which nobody is told
pub splice_unheard : (at capacity caller : ℕ) (n : ℤ) (told : Spliced) (subs : Attachments) (xs : List Kept) (ys : List Session)
    → sessions_of subs n ≡ [] → AreSessions capacity subs xs ys
    → AreSessions capacity subs xs (sessions_hear at capacity caller (edited n told) ys)
splice_unheard at capacity caller n told subs xs ys nobody old =
    unchanged_retold capacity subs subs xs ys (λ k y. session_hears at capacity (eqb k caller) (edited n told) y) old (λ k s. refl)
    (λ i y there quiet. splice_put at capacity (eqb (suc i) caller) n told y false
    (sym (sym (ap (λ (l : List ℕ). is_session_of l (suc i)) nobody) ∙ old.told n (suc i) ∙ ap (λ (o : Option Session). option_map_or (follows n) o false) there)))

-- a deletion
pub deletion_heard : (at capacity caller : ℕ) (n : ℤ) (subs mid later : Attachments) (xs new : List Kept) (ys : List Session)
    → AreRising (sessions_of subs n) → AreSessions capacity subs xs ys
    → AllZip (IsSession capacity) new (sessions_updated (session_put at capacity (detach_event n) (λ x. (without_following n x).following)) (sessions_of subs n) ys)
    → ((k : ℤ) → sessions_of mid k ≡ without_sessions (filter (is_closed_at new) (sessions_of subs n)) (sessions_of subs k))
    → HasSessions mid later n []
    → AreSessions capacity later new (sessions_hear at capacity caller (deleted n) ys)
deletion_heard at capacity caller n subs mid later xs new ys rising old pairs left gone =
    all_retold capacity n (int_eq n) subs later xs new ys (session_put at capacity (detach_event n) (λ x. (without_following n x).following))
    (λ k y. session_hears at capacity (eqb k caller) (deleted n) y) rising old pairs
    (λ k s. told_in mid later n k [] s gone ∙ ap (λ (b : Bool). cond (int_eq n k) false b) (left_all subs mid new (sessions_of subs n) left k s))
    (λ s y b e. deletion_put at capacity (eqb s caller) n y b e)
    (λ s k y quiet. follows-deletion at capacity (eqb s caller) n k y quiet)

-- the end of the editor says nothing by itself
pub quit_heard : (at capacity caller : ℕ) (subs : Attachments) (xs : List Kept) (ys : List Session) → AreSessions capacity subs xs ys
    → AreSessions capacity subs xs (sessions_hear at capacity caller quit ys)
quit_heard at capacity caller subs xs ys old =
    unchanged_retold capacity subs subs xs ys (λ k y. session_hears at capacity (eqb k caller) quit y) old (λ k s. refl)
    (λ i y there quiet. unless_same y.closed y)

-- the three ways of an attach, and the two of a detach, by the number of the caller
pub attached_shut : (at capacity caller : ℕ) (n : ℤ) (tick : ℕ) (whole : Option (List (List ℕ))) (subs : Attachments) (xs : List Kept) (ys : List Session)
    → 0 < caller → caller ≤ length xs → is_closed_at xs caller ≡ true → AreSessions capacity subs xs ys
    → AreSessions capacity subs xs (sessions_hear at capacity caller (attached n tick whole) ys)
attached_shut at capacity caller n tick whole subs xs ys above =
    subst (λ (s : ℕ). s ≤ length xs → is_closed_at xs s ≡ true → AreSessions capacity subs xs ys
    → AreSessions capacity subs xs (sessions_hear at capacity s (attached n tick whole) ys)) (place_before caller above)
    (attach_shut at capacity (caller - 1) n tick whole subs xs ys)

pub attached_again : (at capacity caller : ℕ) (n : ℤ) (tick : ℕ) (whole : Option (List (List ℕ))) (subs mid : Attachments) (xs : List Kept) (ys : List Session)
    → 0 < caller → HasSessions subs mid n (with_session caller (sessions_of subs n)) → is_session_of (sessions_of subs n) caller ≡ true
    → AreSessions capacity subs xs ys
    → AreSessions capacity mid xs (sessions_hear at capacity caller (attached n tick whole) ys)
attached_again at capacity caller n tick whole subs mid xs ys above =
    subst (λ (s : ℕ). HasSessions subs mid n (with_session s (sessions_of subs n)) → is_session_of (sessions_of subs n) s ≡ true
    → AreSessions capacity subs xs ys → AreSessions capacity mid xs (sessions_hear at capacity s (attached n tick whole) ys)) (place_before caller above)
    (attach_again at capacity (caller - 1) n tick whole subs mid xs ys)

pub attached_new : (at capacity caller : ℕ) (n : ℤ) (tick : ℕ) (whole : Option (List (List ℕ))) (subs mid later : Attachments) (xs new : List Kept) (ys : List Session)
    → 0 < caller → caller ≤ length xs → HasSessions subs mid n (with_session caller (sessions_of subs n)) → is_session_of (sessions_of subs n) caller ≡ false
    → AreSessions capacity subs xs ys
    → AllZip (IsSession capacity) new (session_updated (session_put at capacity (first_message n tick whole) (λ x. n ∷ x.following)) caller ys)
    → ((k : ℤ) → sessions_of later k ≡ cond (is_closed_at new caller) (without_session caller (sessions_of mid k)) (sessions_of mid k))
    → AreSessions capacity later new (sessions_hear at capacity caller (attached n tick whole) ys)
attached_new at capacity caller n tick whole subs mid later xs new ys above =
    subst (λ (s : ℕ). s ≤ length xs → HasSessions subs mid n (with_session s (sessions_of subs n)) → is_session_of (sessions_of subs n) s ≡ false
    → AreSessions capacity subs xs ys
    → AllZip (IsSession capacity) new (session_updated (session_put at capacity (first_message n tick whole) (λ x. n ∷ x.following)) s ys)
    → ((k : ℤ) → sessions_of later k ≡ cond (is_closed_at new s) (without_session s (sessions_of mid k)) (sessions_of mid k))
    → AreSessions capacity later new (sessions_hear at capacity s (attached n tick whole) ys)) (place_before caller above)
    (attach_new at capacity (caller - 1) n tick whole subs mid later xs new ys)

pub detached_there : (at capacity caller : ℕ) (n : ℤ) (subs mid later : Attachments) (xs new : List Kept) (ys : List Session)
    → 0 < caller → caller ≤ length xs → HasSessions subs mid n (without_session caller (sessions_of subs n)) → is_session_of (sessions_of subs n) caller ≡ true
    → AreSessions capacity subs xs ys
    → AllZip (IsSession capacity) new (session_updated (session_put at capacity (detach_event n) (λ x. (without_following n x).following)) caller ys)
    → ((k : ℤ) → sessions_of later k ≡ cond (is_closed_at new caller) (without_session caller (sessions_of mid k)) (sessions_of mid k))
    → AreSessions capacity later new (sessions_hear at capacity caller (detached n) ys)
detached_there at capacity caller n subs mid later xs new ys above =
    subst (λ (s : ℕ). s ≤ length xs → HasSessions subs mid n (without_session s (sessions_of subs n)) → is_session_of (sessions_of subs n) s ≡ true
    → AreSessions capacity subs xs ys
    → AllZip (IsSession capacity) new (session_updated (session_put at capacity (detach_event n) (λ x. (without_following n x).following)) s ys)
    → ((k : ℤ) → sessions_of later k ≡ cond (is_closed_at new s) (without_session s (sessions_of mid k)) (sessions_of mid k))
    → AreSessions capacity later new (sessions_hear at capacity s (detached n) ys)) (place_before caller above)
    (detach_there at capacity (caller - 1) n subs mid later xs new ys)

pub detached_absent : (at capacity caller : ℕ) (n : ℤ) (subs mid : Attachments) (xs : List Kept) (ys : List Session)
    → 0 < caller → HasSessions subs mid n (without_session caller (sessions_of subs n)) → is_session_of (sessions_of subs n) caller ≡ false
    → AreSessions capacity subs xs ys
    → AreSessions capacity mid xs (sessions_hear at capacity caller (detached n) ys)
detached_absent at capacity caller n subs mid xs ys above =
    subst (λ (s : ℕ). HasSessions subs mid n (without_session s (sessions_of subs n)) → is_session_of (sessions_of subs n) s ≡ false
    → AreSessions capacity subs xs ys → AreSessions capacity mid xs (sessions_hear at capacity s (detached n) ys)) (place_before caller above)
    (detach_absent at capacity (caller - 1) n subs mid xs ys)

-- what answers a call
reply_other : (s caller at capacity : ℕ) (answer : Option Sent) (x : Session) → eqb s caller ≡ false → session_replied (eqb s caller) at capacity answer x ≡ x
reply_other s caller at capacity answer x e = ap (λ (b : Bool). session_replied b at capacity answer x) e

turned_eqb : (a b : ℕ) → eqb a b ≡ eqb b a
turned_eqb a b = grind (arith, nat_tests)

reply_put : (at capacity place : ℕ) (message : Sent) (subs later : Attachments) (xs new : List Kept) (ys : List Session)
    → suc place ≤ length xs → AreSessions capacity subs xs ys
    → AllZip (IsSession capacity) new (session_updated (session_put at capacity message (λ x. x.following)) (suc place) ys)
    → ((k : ℤ) → sessions_of later k ≡ cond (is_closed_at new (suc place)) (without_session (suc place) (sessions_of subs k)) (sessions_of subs k))
    → AreSessions capacity later new (sessions_replied at capacity (suc place) (Some message) ys)
reply_put at capacity place message subs later xs new ys within old pairs left =
    let found = caller_there capacity xs ys place old.pairs within in
    own_put at capacity place message (λ x. x.following) subs subs later xs new ys found.0 (λ k y. session_replied (eqb k (suc place)) at capacity (Some message) y)
    old found.1 pairs left (λ k s e. refl)
    (λ k. old.told k (suc place) ∙ ap (λ (o : Option Session). option_map_or (follows k) o false) found.1)
    (λ s x e. reply_other s (suc place) at capacity (Some message) x (turned_eqb s (suc place) ∙ e))
    (ap (λ (b : Bool). session_replied b at capacity (Some message) found.0) (eqb-same (suc place)))

pub replied_put : (at capacity caller : ℕ) (message : Sent) (subs later : Attachments) (xs new : List Kept) (ys : List Session)
    → 0 < caller → caller ≤ length xs → AreSessions capacity subs xs ys
    → AllZip (IsSession capacity) new (session_updated (session_put at capacity message (λ x. x.following)) caller ys)
    → ((k : ℤ) → sessions_of later k ≡ cond (is_closed_at new caller) (without_session caller (sessions_of subs k)) (sessions_of subs k))
    → AreSessions capacity later new (sessions_replied at capacity caller (Some message) ys)
replied_put at capacity caller message subs later xs new ys above =
    subst (λ (s : ℕ). s ≤ length xs → AreSessions capacity subs xs ys
    → AllZip (IsSession capacity) new (session_updated (session_put at capacity message (λ x. x.following)) s ys)
    → ((k : ℤ) → sessions_of later k ≡ cond (is_closed_at new s) (without_session s (sessions_of subs k)) (sessions_of subs k))
    → AreSessions capacity later new (sessions_replied at capacity s (Some message) ys)) (place_before caller above)
    (reply_put at capacity (caller - 1) message subs later xs new ys)

pub unreplied : (at capacity caller : ℕ) (subs : Attachments) (xs : List Kept) (ys : List Session) → AreSessions capacity subs xs ys
    → AreSessions capacity subs xs (sessions_replied at capacity caller None ys)
unreplied at capacity caller subs xs ys old =
    unchanged_retold capacity subs subs xs ys (λ k y. session_replied (eqb k caller) at capacity None y) old (λ k s. refl)
    (λ i y there quiet. nothing (eqb (suc i) caller) y)
  where
    nothing : (b : Bool) (y : Session) → session_replied b at capacity None y ≡ y
    nothing true y = refl
    nothing false y = refl

-- facts one after another: some were told, these are left
pub record Hears (capacity at caller : ℕ) (subs : Attachments) (now : List Kept) (left all : List Fact) (ys : List Session) : Type 0 where
  pub zs : List Session
  pub are : AreSessions capacity subs now zs
  pub rest : sessions_hear_all at capacity caller left zs ≡ sessions_hear_all at capacity caller all ys
