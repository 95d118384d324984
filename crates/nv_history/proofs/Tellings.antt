-- What each kind of message makes of a client's mirror.
use Rattle.std.proofs.Common.{◌≡◌, ℕ, ℤ, pos, negsuc, ◌+◌, ◌-◌, ◌≤◌, List, [], ◌∷◌, ◌++◌, length, take, refl, ap, sym, ◌∙◌, subst, arith, length-append, Bool, true, false, Option, Some, None}
use Rattle.std.specs.Prelude.{option_and_then, if◌then◌else◌, nat_le, ◌&&◌, IfSome}
use Rattle.std.specs.List.{splice}
use Rattle.std.specs.Ordering.{int_eq}
use Rattle.std.proofs.lemmas.List.{take_all}
use Rattle.std.proofs.lemmas.Option.{none-some, same_Some}
use Rattle.std.proofs.lemmas.Bool.Decides.{nat_tests}
use Rattle.nv_value.specs.Content.{Tree}
use Rattle.nv_value.specs.declared.fault.ApiFault.{ApiFault}
use Rattle.nv_places.specs.Flat.{lines_of}
use Rattle.nv_places.specs.Places.{place_of}
use Rattle.nv_rpc.specs.Messages.{Sent, reply, lines_event, tick_event, detach_event, fault_event}
use Rattle.nv_args.specs.Texts.{strings}
use Rattle.nv_buffer.specs.declared.buffer.Spliced.{Spliced}
use Rattle.nv_model.specs.Buffers.{Splice, text_after, row_behind, lines_in_place, splice_event}
use Rattle.nv_model.proofs.Telling.{fold-append}
use Rattle.nv_subs.specs.Mirrors.{Mirror, absent, ticking, holding, mirror_if, mirror_with_lines, mirror_after_lines, mirror_after, event_lines}
use Rattle.nv_dispatch.specs.Telling.{text_then, tick_then, FitsLines}
use Rattle.nv_history.specs.Sessions.{first_message, splice_message}
use Rattle.nv_history.specs.Texts.{tick_if, flag_if, last_tick, last_tick_of, sends_lines, sends_lines_of, IsMirrored}
use Rattle.nv_history.proofs.PlainLines.{plain_lines, plain-take, plain-drop, strings_read}
use Rattle.nv_history.proofs.Mirroring.{IsOfMoment, Tells, not_told, tells_push, tells_more}

-- ---- messages that aren't about a buffer
pub record IsAside (n : ℤ) (m : Sent) : Type 0 where
  pub mirror : (c : Mirror) → mirror_after n c m ≡ Some c
  pub last : (t : Option ℤ) → last_tick n t m ≡ t
  pub sends : (b : Bool) → sends_lines n b m ≡ b

pub aside_reply : (n : ℤ) (msgid : ℕ) (fault : Option ApiFault) (result : Tree) → IsAside n (reply msgid fault result)
aside_reply n msgid fault result = record { mirror = λ c. refl; last = λ t. refl; sends = λ b. refl }

pub aside_fault : (n : ℤ) (fault : ApiFault) → IsAside n (fault_event fault)
aside_fault n fault = record { mirror = λ c. refl; last = λ t. refl; sends = λ b. refl }

pub aside_detach : (n k : ℤ) → int_eq k n ≡ false → IsAside n (detach_event k)
aside_detach n k e = record {
  mirror = λ c. ap (λ (b : Bool). Some (if b then absent else c)) e;
  last = λ t. ap (λ (b : Bool). tick_if b None t) e;
  sends = λ b. refl;
}

pub aside_first : (n k : ℤ) (tick : ℕ) (whole : Option (List (List ℕ))) → int_eq k n ≡ false → IsAside n (first_message k tick whole)
aside_first n k tick None e = record {
  mirror = λ c. ap (λ (b : Bool). Some (if b then ticking (pos tick) else c)) e;
  last = λ t. ap (λ (b : Bool). tick_if b None t) e;
  sends = λ b. ap (λ (x : Bool). flag_if x false b) e;
}
aside_first n k tick (Some lines) e = record {
  mirror = λ c. ap (λ (b : Bool). if b then option_and_then (mirror_after_lines c (pos tick) (pos 0) (negsuc 0)) (event_lines (strings lines)) else Some c) e;
  last = λ t. ap (λ (b : Bool). tick_if b (Some (pos tick)) t) e;
  sends = λ b. ap (λ (x : Bool). flag_if x true b) e;
}

pub aside_splice : (n k : ℤ) (told : Spliced) → int_eq k n ≡ false → IsAside n (splice_message k told)
aside_splice n k told e = record {
  mirror = λ c. ap (λ (b : Bool). if b then option_and_then (mirror_after_lines c told.tick (pos told.edit.first) (pos told.edit.last)) (event_lines (strings told.edit.lines)) else Some c) e;
  last = λ t. ap (λ (b : Bool). tick_if b (Some told.tick) t) e;
  sends = λ b. refl;
}

pub tells_aside : (n : ℤ) (ss : List Splice) (f : Bool) (ms : List Sent) (m : Sent) → IsAside n m → Tells n ss f ms → Tells n ss f (ms ++ m ∷ [])
tells_aside n ss f ms m is t =
    let sends = sym (is.sends (sends_lines_of n false ms)) in
    let last = sym (is.last (last_tick_of n None ms)) in
    tells_push n ss f f ms m t t.client (is.mirror t.client)
    (subst (λ (b : Bool). IsOfMoment ss t.client b (last_tick n (last_tick_of n None ms) m)) sends
    (subst (λ (o : Option ℤ). IsOfMoment ss t.client (sends_lines_of n false ms) o) last t.moment))
    (λ e. subst (λ (b : Bool). IsMirrored (lines_of (text_then ss)) (pos (tick_then ss)) b (Some t.client)) sends (t.now e))

-- ---- the end of what is told of a buffer
no_moment : (ss : List Splice) (c : Mirror) (b : Bool) (o : Option ℤ) → o ≡ None → IsOfMoment ss c b o
no_moment ss c b o e = record { known = λ t h. absurd (none-some t (sym e ∙ h)) }

pub tells_detached : (n k : ℤ) (ss : List Splice) (f : Bool) (ms : List Sent) → int_eq k n ≡ true → Tells n ss f ms → Tells n ss false (ms ++ detach_event k ∷ [])
tells_detached n k ss f ms e t =
    tells_push n ss f false ms (detach_event k) t absent (ap (λ (b : Bool). Some (if b then absent else t.client)) e)
    (no_moment ss absent (sends_lines_of n false ms) (last_tick n (last_tick_of n None ms) (detach_event k))
    (ap (λ (b : Bool). tick_if b None (last_tick_of n None ms)) e))
    (λ h. not_told h)

-- ---- the text or the changedtick of now
moment_now : (ss : List Splice) (lines : List (List ℕ)) (c : Mirror) (b : Bool) (o : Option ℤ)
    → o ≡ Some (pos (tick_then ss)) → lines ≡ lines_of (text_then ss) → IsMirrored lines (pos (tick_then ss)) b (Some c) → IsOfMoment ss c b o
moment_now ss lines c b o e f h = record {
  known = λ t g.
      let same : pos (tick_then ss) ≡ t = same_Some (pos (tick_then ss)) t (sym e ∙ g) in
      let all : take (tick_then ss - 2) ss ≡ ss = take_all (tick_then ss - 2) ss (omega arith) in (
        tick_then ss,
        sym same,
        omega arith,
        subst (λ (z : ℤ). IsMirrored (lines_of (text_then (take (tick_then ss - 2) ss))) z b (Some c)) same
            (subst (λ (ls : List (List ℕ)). IsMirrored ls (pos (tick_then ss)) b (Some c)) (f ∙ sym (ap (λ (l : List Splice). lines_of (text_then l)) all)) h),
      );
}

tells_ticking : (n k : ℤ) (ss : List Splice) (ms : List Sent) → int_eq k n ≡ true → Tells n ss false ms
    → Tells n ss true (ms ++ tick_event k (pos (tick_then ss)) ∷ [])
tells_ticking n k ss ms e t =
    let m : Sent = tick_event k (pos (tick_then ss)) in
    let c : Mirror = ticking (pos (tick_then ss)) in
    let sends : sends_lines n (sends_lines_of n false ms) m ≡ false = ap (λ (b : Bool). flag_if b false (sends_lines_of n false ms)) e in
    tells_push n ss false true ms m t c (ap (λ (b : Bool). Some (if b then c else t.client)) e)
    (no_moment ss c (sends_lines n (sends_lines_of n false ms) m) (last_tick n (last_tick_of n None ms) m)
    (ap (λ (b : Bool). tick_if b None (last_tick_of n None ms)) e))
    (λ h. subst (λ (b : Bool). IsMirrored (lines_of (text_then ss)) (pos (tick_then ss)) b (Some c)) (sym sends) refl)

tells_whole : (n k : ℤ) (ss : List Splice) (ms : List Sent) (lines : List (List ℕ)) → int_eq k n ≡ true → lines ≡ lines_of (text_then ss) → Tells n ss false ms
    → Tells n ss true (ms ++ lines_event k (pos (tick_then ss)) (pos 0) (negsuc 0) (strings lines) ∷ [])
tells_whole n k ss ms lines e f t =
    let m : Sent = lines_event k (pos (tick_then ss)) (pos 0) (negsuc 0) (strings lines) in
    let c : Mirror = holding lines (pos (tick_then ss)) in
    let read : event_lines (strings lines) ≡ Some lines =
    subst (λ (ls : List (List ℕ)). event_lines (strings ls) ≡ Some ls) (sym f) (strings_read (lines_of (text_then ss)) (plain_lines (text_then ss))) in
    let sends : sends_lines n (sends_lines_of n false ms) m ≡ true = ap (λ (b : Bool). flag_if b true (sends_lines_of n false ms)) e in
    let last : last_tick n (last_tick_of n None ms) m ≡ Some (pos (tick_then ss)) =
    ap (λ (b : Bool). tick_if b (Some (pos (tick_then ss))) (last_tick_of n None ms)) e in
    let shows : IsMirrored (lines_of (text_then ss)) (pos (tick_then ss)) (sends_lines n (sends_lines_of n false ms) m) (Some c) =
    subst (λ (b : Bool). IsMirrored (lines_of (text_then ss)) (pos (tick_then ss)) b (Some c)) (sym sends) (f, refl) in
    tells_push n ss false true ms m t c
    (ap (λ (b : Bool). if b then option_and_then (mirror_after_lines t.client (pos (tick_then ss)) (pos 0) (negsuc 0)) (event_lines (strings lines)) else Some t.client) e
    ∙ ap (option_and_then (mirror_after_lines t.client (pos (tick_then ss)) (pos 0) (negsuc 0))) read)
    (moment_now ss (lines_of (text_then ss)) c (sends_lines n (sends_lines_of n false ms) m) (last_tick n (last_tick_of n None ms) m) last refl shows)
    (λ h. shows)

pub tells_first : (n k : ℤ) (ss : List Splice) (ms : List Sent) (tick : ℕ) (whole : Option (List (List ℕ))) → int_eq k n ≡ true
    → tick ≡ tick_then ss → IfSome whole (λ lines. lines ≡ lines_of (text_then ss)) → Tells n ss false ms
    → Tells n ss true (ms ++ first_message k tick whole ∷ [])
tells_first n k ss ms tick None e f g t =
    subst (λ (j : ℕ). Tells n ss true (ms ++ tick_event k (pos j) ∷ [])) (sym f) (tells_ticking n k ss ms e t)
tells_first n k ss ms tick (Some lines) e f g t =
    subst (λ (j : ℕ). Tells n ss true (ms ++ lines_event k (pos j) (pos 0) (negsuc 0) (strings lines) ∷ [])) (sym f) (tells_whole n k ss ms lines e g t)

-- ---- a splice
-- a mirror after a splice that fits
record Follows (text : List ℕ) (s : Splice) (tick : ℤ) (b : Bool) (c : Mirror) : Type 0 where
  client : Mirror
  after : mirror_with_lines c tick (place_of text s.from).row (row_behind text s) (lines_in_place text s) ≡ Some client
  shows : IsMirrored (lines_of (text_after text s)) tick b (Some client)

follows_splice : (text : List ℕ) (s : Splice) (before tick : ℤ) (b : Bool) (c : Mirror) → FitsLines text s → IsMirrored (lines_of text) before b (Some c)
    → Follows text s tick b c
follows_splice text s before tick true (holding held now) fits h =
    let first = (place_of text s.from).row in
    let last = row_behind text s in
    let within : row_behind text s ≤ length held = subst (λ (ls : List (List ℕ)). row_behind text s ≤ length ls) (sym h.0) fits.rows in
    let low : nat_le (place_of text s.from).row (row_behind text s) ≡ true = grind (arith, nat_tests, fits.order) in
    let high : nat_le (row_behind text s) (length held) ≡ true = grind (arith, nat_tests, within) in
    record {
      client = holding (splice held (place_of text s.from).row (row_behind text s) (lines_in_place text s)) tick;
      after =
          ap (λ (x : Bool). mirror_if (x && nat_le (row_behind text s) (length held)) (holding (splice held (place_of text s.from).row (row_behind text s) (lines_in_place text s)) tick)) low
          ∙ ap (λ (x : Bool). mirror_if x (holding (splice held (place_of text s.from).row (row_behind text s) (lines_in_place text s)) tick)) high;
      shows = (ap (λ (ls : List (List ℕ)). splice ls (place_of text s.from).row (row_behind text s) (lines_in_place text s)) h.0 ∙ fits.lines, refl);
    }
follows_splice text s before tick false (ticking now) fits h =
    let low : nat_le (place_of text s.from).row (row_behind text s) ≡ true = grind (arith, nat_tests, fits.order) in record {
      client = ticking tick;
      after = ap (λ (x : Bool). mirror_if x (ticking tick)) low;
      shows = refl;
    }
follows_splice text s before tick true (ticking now) fits h = absurd h
follows_splice text s before tick false (holding held now) fits h = absurd h
follows_splice text s before tick true absent fits h = absurd h
follows_splice text s before tick false absent fits h = absurd h

told_splice : (n k : ℤ) (ss : List Splice) (s : Splice) (ms : List Sent) → int_eq k n ≡ true → FitsLines (text_then ss) s → Tells n ss true ms
    → Tells n (ss ++ s ∷ []) true (ms ++ splice_message k (splice_event (text_then ss) (tick_then ss + 1) s) ∷ [])
told_splice n k ss s ms e fits t =
    let m : Sent = splice_message k (splice_event (text_then ss) (tick_then ss + 1) s) in
    let f = follows_splice (text_then ss) s (pos (tick_then ss)) (pos (tick_then ss + 1)) (sends_lines_of n false ms) t.client fits (t.now refl) in
    let read : event_lines (strings (lines_in_place (text_then ss) s)) ≡ Some (lines_in_place (text_then ss) s) =
    strings_read (lines_in_place (text_then ss) s)
    (plain-take _ _ (plain-drop (place_of (text_then ss) s.from).row (lines_of (text_after (text_then ss) s)) (plain_lines (text_after (text_then ss) s)))) in
    let text : text_then (ss ++ s ∷ []) ≡ text_after (text_then ss) s = fold-append text_after (10 ∷ []) ss (s ∷ []) in
    let tick : tick_then (ss ++ s ∷ []) ≡ tick_then ss + 1 = omega (arith, length-append ss (s ∷ [])) in
    let shows : IsMirrored (lines_of (text_then (ss ++ s ∷ []))) (pos (tick_then (ss ++ s ∷ []))) (sends_lines_of n false ms) (Some f.client) =
    subst (λ (j : ℕ). IsMirrored (lines_of (text_then (ss ++ s ∷ []))) (pos j) (sends_lines_of n false ms) (Some f.client)) (sym tick)
    (subst (λ (l : List ℕ). IsMirrored (lines_of l) (pos (tick_then ss + 1)) (sends_lines_of n false ms) (Some f.client)) (sym text) f.shows) in
    let last : last_tick n (last_tick_of n None ms) m ≡ Some (pos (tick_then (ss ++ s ∷ []))) =
    ap (λ (b : Bool). tick_if b (Some (pos (tick_then ss + 1))) (last_tick_of n None ms)) e ∙ ap (λ (j : ℕ). Some (pos j)) (sym tick) in
    tells_push n (ss ++ s ∷ []) false true ms m (tells_more n ss (s ∷ []) true ms t) f.client
    (ap (λ (b : Bool). if b then option_and_then (mirror_after_lines t.client (pos (tick_then ss + 1)) (pos (place_of (text_then ss) s.from).row) (pos (row_behind (text_then ss) s))) (event_lines (strings (lines_in_place (text_then ss) s))) else Some t.client) e
    ∙ ap (option_and_then (mirror_after_lines t.client (pos (tick_then ss + 1)) (pos (place_of (text_then ss) s.from).row) (pos (row_behind (text_then ss) s)))) read
    ∙ f.after)
    (moment_now (ss ++ s ∷ []) (lines_of (text_then (ss ++ s ∷ []))) f.client (sends_lines_of n false ms) (last_tick n (last_tick_of n None ms) m) last refl shows)
    (λ h. shows)

pub tells_splice : (n k : ℤ) (ss : List Splice) (s : Splice) (told : Spliced) (ms : List Sent) → int_eq k n ≡ true
    → told ≡ splice_event (text_then ss) (tick_then ss + 1) s → FitsLines (text_then ss) s → Tells n ss true ms
    → Tells n (ss ++ s ∷ []) true (ms ++ splice_message k told ∷ [])
tells_splice n k ss s told ms e is fits t =
    subst (λ (v : Spliced). Tells n (ss ++ s ∷ []) true (ms ++ splice_message k v ∷ [])) (sym is) (told_splice n k ss s ms e fits t)
