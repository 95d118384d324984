-- What one session hears of a fact, and what it is attached to then.
use Rattle.std.proofs.Common.{◌≡◌, ℕ, suc, ◌+◌, Bool, true, false, not, ◌&&◌, ◌||◌, cond, eqb, ℤ, List, [], ◌∷◌, filter, length, refl, sym, ap, ◌∙◌, subst, Option, Some, None, is_some, IfSome}
use Rattle.std.specs.List.{list_any}
use Rattle.std.specs.Ordering.{int_eq}
use Rattle.std.proofs.lemmas.Bool.Decides.{Decides-int_eq}
use Rattle.std.proofs.lemmas.Map.Views.{any-filter_same}
use Rattle.nv_rpc.specs.Messages.{Sent, detach_event}
use Rattle.nv_buffer.specs.declared.buffer.Spliced.{Spliced}
use Rattle.nv_model.specs.Answers.{Fact, attached, detached, edited, deleted, quit}
use Rattle.nv_history.specs.Events.{Cause, overflowed_at}
use Rattle.nv_history.specs.Sessions.{Session, follows, with_following, without_following, session_told, session_with_message, session_told_if, session_joined, session_parted, session_parted_if, session_hears, open_session_hears, session_replied, unless_closed, session_closed_by, splice_message, first_message}
use Rattle.nv_world.specs.inside.Tellings.{session_put}
use Rattle.nv_world.proofs.Places.{picked}
use Rattle.nv_world.proofs.Members.{same_buffer, int_eq-turned}
use Rattle.nv_world.proofs.Closing.{unless_same}

-- a session that is closed is attached to nothing
abbrev pub IsQuiet : Session → Type 0
IsQuiet y = IfSome y.closed (λ cause. y.following ≡ [])

-- who follows a buffer isn't closed
pub open_where_follows : (n : ℤ) (y : Session) → IsQuiet y → follows n y ≡ true → y.closed ≡ None
open_where_follows n y quiet e = by y.closed refl quiet
  where
    by : (o : Option Cause) → y.closed ≡ o → IfSome o (λ cause. y.following ≡ []) → y.closed ≡ None
    by None is h = is
    by (Some cause) is h = absurd (let f : follows n y ≡ false = ap (λ (l : List ℤ). list_any (λ k. int_eq k n) l) h in cc)

-- a closed one follows nothing
pub nothing_where_closed : (n : ℤ) (y : Session) → IsQuiet y → is_some y.closed ≡ true → follows n y ≡ false
nothing_where_closed n y quiet e = by y.closed refl quiet
  where
    by : (o : Option Cause) → y.closed ≡ o → IfSome o (λ cause. y.following ≡ []) → follows n y ≡ false
    by None is h = absurd (let f : is_some y.closed ≡ false = ap is_some is in cc)
    by (Some cause) is h = ap (λ (l : List ℤ). list_any (λ k. int_eq k n) l) h

-- what is followed once one buffer isn't
pub follows-without : (n k : ℤ) (y : Session)
    → follows k (without_following n y) ≡ (not (int_eq k n) && follows k y)
follows-without n k y =
    any-filter_same (λ j. int_eq j k) (λ j. not (int_eq j n)) (not (int_eq k n))
    (λ j e. ap (λ (i : ℤ). not (int_eq i n)) (same_buffer j k e)) y.following

pub follows-with : (n k : ℤ) (y : Session) → follows k (with_following n y) ≡ (int_eq n k || follows k y)
follows-with n k y = refl

-- who is told is attached to what it was, or closed and attached to nothing
pub follows-told : (at capacity : ℕ) (message : Sent) (k : ℤ) (y : Session)
    → follows k (session_told at capacity message y)
    ≡ (not (eqb (length y.waiting) capacity) && follows k y)
follows-told at capacity message k y = by (eqb (length y.waiting) capacity)
  where
    by : (full : Bool) → follows k (session_with_message full at message y) ≡ (not full && follows k y)
    by true = refl
    by false = refl

pub closed-told : (at capacity : ℕ) (message : Sent) (y : Session) → y.closed ≡ None
    → is_some (session_told at capacity message y).closed ≡ eqb (length y.waiting) capacity
closed-told at capacity message y live = by (eqb (length y.waiting) capacity)
  where
    by : (full : Bool) → is_some (session_with_message full at message y).closed ≡ full
    by true = refl
    by false = ap is_some live

-- a put where the session isn't closed
pub put_open : (at capacity : ℕ) (message : Sent) (following : Session → List ℤ) (y : Session)
    → y.closed ≡ None
    → session_put at capacity message following y
    ≡ session_told at capacity message (record y { following = following y })
put_open at capacity message following y live =
    ap (λ (o : Option Cause). unless_closed o (session_told at capacity message (record y { following = following y })) y) live

-- hearing where the session isn't closed, and where it is
pub hears_open : (at capacity : ℕ) (own : Bool) (fact : Fact) (y : Session) → y.closed ≡ None
    → session_hears at capacity own fact y ≡ open_session_hears at capacity own fact y
hears_open at capacity own fact y live =
    ap (λ (o : Option Cause). unless_closed o (open_session_hears at capacity own fact y) y) live

pub hears_closed : (at capacity : ℕ) (own : Bool) (fact : Fact) (y : Session) → is_some y.closed ≡ true
    → session_hears at capacity own fact y ≡ y
hears_closed at capacity own fact y shut = by y.closed shut
  where
    by : (o : Option Cause) → is_some o ≡ true → unless_closed o (open_session_hears at capacity own fact y) y ≡ y
    by None e = absurd (cc)
    by (Some cause) e = refl

-- a splice: who follows the buffer is told, and others hear nothing
pub splice_put : (at capacity : ℕ) (own : Bool) (n : ℤ) (told : Spliced) (y : Session) (b : Bool)
    → follows n y ≡ b
    → session_hears at capacity own (edited n told) y
    ≡ picked b (session_put at capacity (splice_message n told) (λ x. x.following)) y
splice_put at capacity own n told y true e =
    ap (λ (b : Bool). unless_closed y.closed (session_told_if b at capacity (splice_message n told) y) y) e
splice_put at capacity own n told y false e =
    ap (λ (b : Bool). unless_closed y.closed (session_told_if b at capacity (splice_message n told) y) y) e ∙ unless_same y.closed y

-- a deletion: who follows the buffer is told, and follows it no more
pub deletion_put : (at capacity : ℕ) (own : Bool) (n : ℤ) (y : Session) (b : Bool) → follows n y ≡ b
    → session_hears at capacity own (deleted n) y
    ≡ picked b (session_put at capacity (detach_event n) (λ x. (without_following n x).following)) y
deletion_put at capacity own n y true e =
    ap (λ (b : Bool). unless_closed y.closed (session_parted b at capacity n y) y) e
deletion_put at capacity own n y false e =
    ap (λ (b : Bool). unless_closed y.closed (session_parted b at capacity n y) y) e ∙ unless_same y.closed y

and_true : (a b : Bool) → (not (a && true) && b) ≡ (not a && b)
and_true true b = refl
and_true false b = refl

and_none : (a b : Bool) → (not (a && false) && b) ≡ b
and_none true b = refl
and_none false b = refl

turned : (c full b : Bool) → (not full && (not c && b)) ≡ cond c false (not (full && true) && b)
turned true true b = refl
turned true false b = refl
turned false true b = refl
turned false false b = refl

unfollowed : (c x b : Bool) → (c ≡ true → b ≡ false) → b ≡ cond c false (not (x && false) && b)
unfollowed true x b only = only refl
unfollowed false true b only = refl
unfollowed false false b only = refl

-- whether it follows a buffer after a splice: not where it was closed by it
pub follows-splice : (at capacity : ℕ) (own : Bool) (n k : ℤ) (told : Spliced) (y : Session) → IsQuiet y
    → follows k (session_hears at capacity own (edited n told) y)
    ≡ (not (is_some (session_hears at capacity own (edited n told) y).closed && follows n y) && follows k y)
follows-splice at capacity own n k told y quiet = by (follows n y) refl
  where
    by : (b : Bool) → follows n y ≡ b
        → follows k (session_hears at capacity own (edited n told) y)
        ≡ (not (is_some (session_hears at capacity own (edited n told) y).closed && b) && follows k y)
    by true e =
        let live = open_where_follows n y quiet e in
        let is : session_hears at capacity own (edited n told) y ≡ session_told at capacity (splice_message n told) y =
        splice_put at capacity own n told y true e ∙ put_open at capacity (splice_message n told) (λ x. x.following) y live in
        let f = follows-told at capacity (splice_message n told) k y in
        let g = closed-told at capacity (splice_message n told) y live in
        let f2 : follows k (session_hears at capacity own (edited n told) y) ≡ (not (eqb (length y.waiting) capacity) && follows k y) =
        ap (λ (z : Session). follows k z) is ∙ f in
        let g2 : is_some (session_hears at capacity own (edited n told) y).closed ≡ eqb (length y.waiting) capacity =
        ap (λ (z : Session). is_some z.closed) is ∙ g in
        f2 ∙ sym (ap (λ (b : Bool). not (b && true) && follows k y) g2 ∙ and_true (eqb (length y.waiting) capacity) (follows k y))
    by false e =
        let is : session_hears at capacity own (edited n told) y ≡ y = splice_put at capacity own n told y false e in
        ap (λ (z : Session). follows k z) is
        ∙ sym (and_none (is_some (session_hears at capacity own (edited n told) y).closed) (follows k y))

-- after a deletion: not the buffer that was deleted, and nothing where it was closed by it
pub follows-deletion : (at capacity : ℕ) (own : Bool) (n k : ℤ) (y : Session) → IsQuiet y
    → follows k (session_hears at capacity own (deleted n) y)
    ≡ cond (int_eq n k) false
    (not (is_some (session_hears at capacity own (deleted n) y).closed && follows n y) && follows k y)
follows-deletion at capacity own n k y quiet = by (follows n y) refl
  where
    by : (b : Bool) → follows n y ≡ b
        → follows k (session_hears at capacity own (deleted n) y)
        ≡ cond (int_eq n k) false (not (is_some (session_hears at capacity own (deleted n) y).closed && b) && follows k y)
    by true e =
        let live = open_where_follows n y quiet e in
        let is : session_hears at capacity own (deleted n) y ≡ session_told at capacity (detach_event n) (without_following n y) =
        deletion_put at capacity own n y true e ∙ put_open at capacity (detach_event n) (λ x. (without_following n x).following) y live in
        let f : follows k (session_hears at capacity own (deleted n) y) ≡ (not (eqb (length y.waiting) capacity) && follows k (without_following n y)) =
        ap (λ (z : Session). follows k z) is ∙ follows-told at capacity (detach_event n) k (without_following n y) in
        let g : is_some (session_hears at capacity own (deleted n) y).closed ≡ eqb (length y.waiting) capacity =
        ap (λ (z : Session). is_some z.closed) is ∙ closed-told at capacity (detach_event n) (without_following n y) live in
        let w : follows k (without_following n y) ≡ (not (int_eq n k) && follows k y) =
        follows-without n k y ∙ ap (λ (c : Bool). not c && follows k y) (int_eq-turned k n) in
        f ∙ ap (λ (c : Bool). not (eqb (length y.waiting) capacity) && c) w
        ∙ turned (int_eq n k) (eqb (length y.waiting) capacity) (follows k y)
        ∙ sym (ap (λ (c : Bool). cond (int_eq n k) false (not (c && true) && follows k y)) g)
    by false e =
        let is : session_hears at capacity own (deleted n) y ≡ y = deletion_put at capacity own n y false e in
        ap (λ (z : Session). follows k z) is
        ∙ unfollowed (int_eq n k) (is_some (session_hears at capacity own (deleted n) y).closed) (follows k y)
        (λ same. ap (λ (j : ℤ). follows j y) (sym (same_buffer n k same)) ∙ e)

-- an attach of its own: it isn't told where it was attached already
pub attach_put : (at capacity : ℕ) (n : ℤ) (tick : ℕ) (whole : Option (List (List ℕ))) (y : Session) (b : Bool)
    → follows n y ≡ b
    → session_hears at capacity true (attached n tick whole) y
    ≡ picked (not b) (session_put at capacity (first_message n tick whole) (λ x. n ∷ x.following)) y
attach_put at capacity n tick whole y true e =
    ap (λ (b : Bool). unless_closed y.closed (session_joined true b at capacity n (first_message n tick whole) y) y) e ∙ unless_same y.closed y
attach_put at capacity n tick whole y false e =
    ap (λ (b : Bool). unless_closed y.closed (session_joined true b at capacity n (first_message n tick whole) y) y) e

pub attach_other : (at capacity : ℕ) (n : ℤ) (tick : ℕ) (whole : Option (List (List ℕ))) (y : Session)
    → session_hears at capacity false (attached n tick whole) y ≡ y
attach_other at capacity n tick whole y = unless_same y.closed y

-- a detach of its own: it isn't told where it wasn't attached
pub detach_put : (at capacity : ℕ) (n : ℤ) (y : Session) (b : Bool) → follows n y ≡ b
    → session_hears at capacity true (detached n) y
    ≡ picked b (session_put at capacity (detach_event n) (λ x. (without_following n x).following)) y
detach_put at capacity n y true e =
    ap (λ (b : Bool). unless_closed y.closed (session_parted_if true b at capacity n y) y) e
detach_put at capacity n y false e =
    ap (λ (b : Bool). unless_closed y.closed (session_parted_if true b at capacity n y) y) e ∙ unless_same y.closed y

pub detach_other : (at capacity : ℕ) (n : ℤ) (y : Session)
    → session_hears at capacity false (detached n) y ≡ y
detach_other at capacity n y = unless_same y.closed y

-- what a put leaves it attached to
pub follows-put : (at capacity : ℕ) (message : Sent) (following : Session → List ℤ) (k : ℤ) (y : Session) → y.closed ≡ None
    → follows k (session_put at capacity message following y)
    ≡ (not (is_some (session_put at capacity message following y).closed) && list_any (λ j. int_eq j k) (following y))
follows-put at capacity message following k y live =
    let is = put_open at capacity message following y live in
    let g : is_some (session_put at capacity message following y).closed ≡ eqb (length y.waiting) capacity =
    ap (λ (z : Session). is_some z.closed) is ∙ closed-told at capacity message (record y { following = following y }) live in
    ap (λ (z : Session). follows k z) is ∙ follows-told at capacity message k (record y { following = following y })
    ∙ sym (ap (λ (c : Bool). not c && list_any (λ j. int_eq j k) (following y)) g)

-- a put where it is closed
pub put_closed : (at capacity : ℕ) (message : Sent) (following : Session → List ℤ) (y : Session)
    → is_some y.closed ≡ true → session_put at capacity message following y ≡ y
put_closed at capacity message following y shut = by y.closed shut
  where
    by : (o : Option Cause) → is_some o ≡ true
        → unless_closed o (session_told at capacity message (record y { following = following y })) y ≡ y
    by None e = absurd (cc)
    by (Some cause) e = refl
