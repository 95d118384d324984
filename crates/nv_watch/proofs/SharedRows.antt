-- Rows that two texts share at their fronts and at their ends.
use Rattle.std.proofs.Common.{◌≡◌, ◌⊎◌, inl, inr, refl, ap, sym, ◌∙◌, subst, ℕ, zero, suc, ◌+◌, ◌-◌, ◌≤◌, ◌<◌, ℤ, pos, negsuc, Bool, true, false, cond, List, [], ◌∷◌, ◌++◌, take, drop, length, length-append, append_assoc, Option, Some, None, slice_get, slice_set, All, arith}
use Rattle.std.specs.Prelude.{◌==◌, ◌&&◌, min, nat_le, unwrap_or, option_and_then}
use Rattle.std.specs.List.{splice}
use Rattle.std.specs.Ordering.{int_eq}
use Rattle.std.proofs.lemmas.List.{take-take, drop-drop, take-append-le, drop_at, take_at, drop_all, length-take, length-drop, length-take-le, take-append-drop}
use Rattle.std.proofs.lemmas.Bool.Decides.{nat_tests}
use Rattle.std.proofs.lemmas.List.Elements.{All-take}
use Rattle.nv_places.specs.Flat.{IsLine, flat, lines_of, row_start, with_byte}
use Rattle.nv_places.specs.Places.{row_count}
use Rattle.nv_places.proofs.FlatLemmas.{take-row_start}
use Rattle.nv_places.proofs.PlaceLemmas.{row_count-flat}
use Rattle.nv_lines.specs.Text.{IsRowAt}
use Rattle.nv_buffer.specs.declared.edit.ChangePart.{ChangePart}
use Rattle.nv_rpc.specs.Messages.{Sent, reply, lines_event, tick_event, detach_event, fault_event}
use Rattle.nv_subs.specs.Mirrors.{Mirror, absent, ticking, holding, mirror_if, mirror_after_lines, mirror_after, event_lines}
use Rattle.nv_world.specs.declared.step.Moved.{Moved}
use Rattle.nv_watch.specs.declared.mirror.Ends.{Ends}
use Rattle.nv_watch.specs.declared.mirror.Followed.{Followed}
use Rattle.nv_watch.specs.inside.Sharing.{AllShare, AreBeside, IsOneSplice, MirrorShares, ShareEnds, SharesIf, Texts, ends_behind, ends_by_lines, ends_put, lesser_ends, no_ends}

-- ---- lists
module _ {X : Type 0} where
  take_same : (m n : ℕ) (a b : List X) → m ≤ n → take n a ≡ take n b → take m a ≡ take m b
  take_same m n a b le e = sym (take-take m n a le) ∙ ap (take m) e ∙ take-take m n b le

  fewer_last : (m n : ℕ) (a b : List X) → m ≤ n → n ≤ length a → n ≤ length b → drop (length a - n) a ≡ drop (length b - n) b
      → drop (length a - m) a ≡ drop (length b - m) b
  fewer_last m n a b le within other e =
      let here : length a - n + (n - m) ≡ length a - m = omega (arith, le, within) in
      let there : length b - n + (n - m) ≡ length b - m = omega (arith, le, other) in
      ap (λ (k : ℕ). drop k a) (sym here) ∙ sym (drop-drop (n - m) (length a - n) a) ∙ ap (drop (n - m)) e
      ∙ drop-drop (n - m) (length b - n) b ∙ ap (λ (k : ℕ). drop k b) there

  no_last : (k : ℕ) (a b : List X) → k ≡ 0 → drop (length a - k) a ≡ drop (length b - k) b
  no_last k a b e = drop_all (length a - k) a (omega (arith, e)) ∙ sym (drop_all (length b - k) b (omega (arith, e)))

  front_put : (m first last : ℕ) (a new : List X) → m ≤ first → first ≤ length a → take m (splice a first last new) ≡ take m a
  front_put m first last a new le within =
      let long = length-take-le first a within in
      take-append-le m (take first a) (new ++ drop last a) (omega (arith, le, long)) ∙ take-take m first a le

  length_put : (first last : ℕ) (a new : List X) → first ≤ length a → length (splice a first last new) ≡ first + (length new + (length a - last))
  length_put first last a new within =
      omega (
        arith,
        length-append (take first a) (new ++ drop last a),
        length-append new (drop last a),
        length-take-le first a within,
        length-drop last a,
      )

  back_put : (m first last : ℕ) (a new : List X) → m ≤ length a - last → last ≤ length a → first ≤ length a
      → drop (length (splice a first last new) - m) (splice a first last new) ≡ drop (length a - m) a
  back_put m first last a new le within low =
      let long : length (take first a ++ new) ≡ first + length new = omega (arith, length-append (take first a) new, length-take-le first a low) in
      let at : length (splice a first last new) - m ≡ length (take first a ++ new) + (length a - last - m) =
      omega (arith, length_put first last a new low, long, le) in
      let there : last + (length a - last - m) ≡ length a - m = omega (arith, le, within) in
      ap (λ (j : ℕ). drop j (splice a first last new)) at
      ∙ ap (drop (length (take first a ++ new) + (length a - last - m))) (sym (append_assoc (take first a) new (drop last a)))
      ∙ sym (drop-drop (length a - last - m) (length (take first a ++ new)) (take first a ++ new ++ drop last a))
      ∙ ap (drop (length a - last - m)) (drop_at (take first a ++ new) (drop last a) (length (take first a ++ new)) refl)
      ∙ drop-drop (length a - last - m) last a
      ∙ ap (λ (j : ℕ). drop j a) there

  last_by : (m r k : ℕ) (b d : List X) → drop m d ≡ drop r b → m + k ≤ length d → drop (length b - k) b ≡ drop (length d - k) d
  last_by m r zero b d e le = no_last zero b d refl
  last_by m r (suc k) b d e le =
      let same : length d - m ≡ length b - r = sym (length-drop m d) ∙ ap length e ∙ length-drop r b in
      let here : m + (length d - suc k - m) ≡ length d - suc k = omega (arith, le) in
      let there : r + (length d - suc k - m) ≡ length b - suc k = omega (arith, le, same) in
      ap (λ (j : ℕ). drop j b) (sym there) ∙ sym (drop-drop (length d - suc k - m) r b) ∙ ap (drop (length d - suc k - m)) (sym e)
      ∙ drop-drop (length d - suc k - m) m d ∙ ap (λ (j : ℕ). drop j d) here

-- ---- rows that are known
pub none_shared : (a b : List (List ℕ)) → ShareEnds no_ends a b
none_shared a b =
    let within : 0 ≤ length a = omega arith in
    let other : 0 ≤ length b = omega arith in
    record { front = refl; within = within; within_other = other; back = no_last 0 a b refl }

shared_with : (a : List (List ℕ)) → ShareEnds (record { front = length a; back = length a }) a a
shared_with a = let within : length a ≤ length a = omega arith in record { front = refl; within = within; within_other = within; back = refl }

pub all_shared : (a b : List (List ℕ)) → a ≡ b → ShareEnds (record { front = length a; back = length a }) a b
all_shared a b e = subst (λ (c : List (List ℕ)). ShareEnds (record { front = length a; back = length a }) a c) e (shared_with a)

pub fewer_shared : (e f : Ends) (a b : List (List ℕ)) → f.front ≤ e.front → f.back ≤ e.back → ShareEnds e a b → ShareEnds f a b
fewer_shared e f a b front back h =
    let within = h.within in
    let other = h.within_other in
    record {
      front = take_same f.front e.front a b front h.front;
      within = omega (arith, back, within);
      within_other = omega (arith, back, other);
      back = fewer_last f.back e.back a b back within other h.back;
    }

put_shared : (e : Ends) (a b new : List (List ℕ)) (first last : ℕ) → first ≤ last → last ≤ length a → ShareEnds e a b
    → ShareEnds (lesser_ends e (record { front = first; back = length a - last })) (splice a first last new) b
put_shared e a b new first last order below h =
    let low : first ≤ length a = omega (arith, order, below) in
    let front : min e.front first ≤ e.front = omega arith in
    let back : min e.back (length a - last) ≤ e.back = omega arith in
    let fewer = fewer_shared e (lesser_ends e (record { front = first; back = length a - last })) a b front back h in
    let before : min e.front first ≤ first = omega arith in
    let behind : min e.back (length a - last) ≤ length a - last = omega arith in
    let within : min e.back (length a - last) ≤ length (splice a first last new) = omega (arith, behind, length_put first last a new low) in
    record {
      front = front_put (min e.front first) first last a new before low ∙ fewer.front;
      within = within;
      within_other = fewer.within_other;
      back = back_put (min e.back (length a - last)) first last a new behind below low ∙ fewer.back;
    }

-- ---- what a message leaves
lesser : (e : Ends) (a b : List (List ℕ)) (first last : ℤ) → ShareEnds e a b → ShareEnds (ends_put e (length a) first last) a b
lesser e a b (pos first) (pos last) h =
    let front : min e.front first ≤ e.front = omega arith in
    let back : min e.back (length a - last) ≤ e.back = omega arith in
    fewer_shared e (lesser_ends e (record { front = first; back = length a - last })) a b front back h
lesser e a b (pos first) (negsuc last) h = none_shared a b
lesser e a b (negsuc first) last h = none_shared a b

less_shares : (e : Ends) (mirror : Mirror) (b : List (List ℕ)) (first last : ℤ) → MirrorShares e mirror b → MirrorShares (ends_by_lines e mirror first last) mirror b
less_shares e absent b first last h = tt
less_shares e (ticking tick) b first last h = tt
less_shares e (holding lines tick) b first last h = lesser e lines b first last h

-- where all lines were told none are known
whole_shares : (e : Ends) (mirror : Mirror) (b new : List (List ℕ)) (first : ℤ) (last : ℕ) (tick : ℤ)
    → ShareEnds (ends_by_lines e mirror first (negsuc last)) new b
whole_shares e absent b new first last tick = none_shared new b
whole_shares e (ticking now) b new first last tick = none_shared new b
whole_shares e (holding lines now) b new (pos first) last tick = none_shared new b
whole_shares e (holding lines now) b new (negsuc first) last tick = none_shared new b

both_hold : (a b : Bool) → (a && b) ≡ true → (a ≡ true) × (b ≡ true)
both_hold true b e = (refl, e)
both_hold false b e = absurd cc

lines_share : (e : Ends) (mirror : Mirror) (b new : List (List ℕ)) (tick first last : ℤ) → MirrorShares e mirror b
    → MirrorShares (ends_by_lines e mirror first last) (unwrap_or (mirror_after_lines mirror tick first last new) mirror) b
lines_share e mirror b new tick first (negsuc last) h = by_test (last == 0)
  where
    by_test : (t : Bool) → MirrorShares (ends_by_lines e mirror first (negsuc last)) (unwrap_or (mirror_if t (holding new tick)) mirror) b
    by_test true = whole_shares e mirror b new first last tick
    by_test false = less_shares e mirror b first (negsuc last) h
lines_share e mirror b new tick (negsuc first) (pos last) h = less_shares e mirror b (negsuc first) (pos last) h
lines_share e absent b new tick (pos first) (pos last) h = tt
lines_share e (ticking now) b new tick (pos first) (pos last) h = by_test (nat_le first last)
  where
    by_test : (t : Bool) → MirrorShares no_ends (unwrap_or (mirror_if t (ticking tick)) (ticking now)) b
    by_test true = tt
    by_test false = tt
lines_share e (holding lines now) b new tick (pos first) (pos last) h = by_test (nat_le first last && nat_le last (length lines)) refl
  where
    by_test : (t : Bool) → (nat_le first last && nat_le last (length lines)) ≡ t
        → MirrorShares (ends_put e (length lines) (pos first) (pos last)) (unwrap_or (mirror_if t (holding (splice lines first last new) tick)) (holding lines now)) b
    by_test true t =
        let both = both_hold (nat_le first last) (nat_le last (length lines)) t in
        let low : nat_le first last ≡ true = both.0 in
        let high : nat_le last (length lines) ≡ true = both.1 in
        put_shared e lines b new first last (grind (arith, nat_tests, low)) (grind (arith, nat_tests, high)) h
    by_test false t = lesser e lines b (pos first) (pos last) h

pub took_shares : (e : Ends) (n : ℤ) (mirror : Mirror) (b : List (List ℕ)) (m : Sent) → MirrorShares e mirror b
    → MirrorShares (ends_behind e mirror m) (unwrap_or (mirror_after n mirror m) mirror) b
took_shares e n mirror b (reply msgid fault result) h = h
took_shares e n mirror b (fault_event fault) h = h
took_shares e n mirror b (tick_event about tick) h = by_test (int_eq about n)
  where
    by_test : (t : Bool) → MirrorShares e (cond t (ticking tick) mirror) b
    by_test true = tt
    by_test false = h
took_shares e n mirror b (detach_event about) h = by_test (int_eq about n)
  where
    by_test : (t : Bool) → MirrorShares e (cond t absent mirror) b
    by_test true = tt
    by_test false = h
took_shares e n mirror b (lines_event about tick first last new) h = by_test (int_eq about n) (event_lines new)
  where
    by_test : (t : Bool) (o : Option (List (List ℕ)))
        → MirrorShares (ends_by_lines e mirror first last) (unwrap_or (cond t (option_and_then (mirror_after_lines mirror tick first last) o) (Some mirror)) mirror) b
    by_test true (Some lines) = lines_share e mirror b lines tick first last h
    by_test true None = less_shares e mirror b first last h
    by_test false o = less_shares e mirror b first last h

-- where none are known none stay known
none_left : (e : Ends) → lesser_ends no_ends e ≡ no_ends
none_left e =
    let front : min 0 e.front ≡ 0 = omega arith in
    let back : min 0 e.back ≡ 0 = omega arith in
    λ i. let f : Ends = record { front = front i; back = back i } in f

none_put : (count : ℕ) (first last : ℤ) → ends_put no_ends count first last ≡ no_ends
none_put count (pos first) (pos last) = none_left (record { front = first; back = count - last })
none_put count (pos first) (negsuc last) = refl
none_put count (negsuc first) last = refl

none_by_lines : (mirror : Mirror) (first last : ℤ) → ends_by_lines no_ends mirror first last ≡ no_ends
none_by_lines absent first last = refl
none_by_lines (ticking tick) first last = refl
none_by_lines (holding lines tick) first last = none_put (length lines) first last

none_behind : (mirror : Mirror) (m : Sent) → ends_behind no_ends mirror m ≡ no_ends
none_behind mirror (reply msgid fault result) = refl
none_behind mirror (fault_event fault) = refl
none_behind mirror (tick_event about tick) = refl
none_behind mirror (detach_event about) = refl
none_behind mirror (lines_event about tick first last new) = none_by_lines mirror first last

pub took_if : (f g : Followed) (m : Sent) (text : Option (List (List ℕ))) → g.ends ≡ ends_behind f.ends f.follower.mirror m
    → g.follower.mirror ≡ unwrap_or (mirror_after f.follower.buffer f.follower.mirror m) f.follower.mirror
    → SharesIf f text → SharesIf g text
took_if f g m None ends mirror h = ends ∙ ap (λ (e : Ends). ends_behind e f.follower.mirror m) h ∙ none_behind f.follower.mirror m
took_if f g m (Some text) ends mirror h =
    subst (λ (e : Ends). MirrorShares e g.follower.mirror text) (sym ends)
    (subst (λ (k : Mirror). MirrorShares (ends_behind f.ends f.follower.mirror m) k text) (sym mirror)
    (took_shares f.ends f.follower.buffer f.follower.mirror text m h))

-- ---- all mirrors
some_same : {A : Type 0} (a b : A) → Some a ≡ Some b → a ≡ b
some_same a b e = cc

unknown_shares : (mirror : Mirror) (text : List (List ℕ)) → MirrorShares no_ends mirror text
unknown_shares absent text = tt
unknown_shares (ticking tick) text = tt
unknown_shares (holding lines tick) text = none_shared lines text

pub none_known : (f : Followed) (text : Option (List (List ℕ))) → f.ends ≡ no_ends → SharesIf f text
none_known f None e = e
none_known f (Some text) e = subst (λ (k : Ends). MirrorShares k f.follower.mirror text) (sym e) (unknown_shares f.follower.mirror text)

pub put_shares : (texts : Texts) (fs : List Followed) (g : Followed) → g.ends ≡ no_ends → AllShare texts fs → AllShare texts (fs ++ g ∷ [])
put_shares texts [] g none h = (none_known g (texts g.buffer) none, tt)
put_shares texts (f ∷ fs) g none h = (h.0, put_shares texts fs g none h.1)

pub share_at : (texts : Texts) (fs : List Followed) (p : ℕ) (f : Followed) → slice_get fs p ≡ Some f → AllShare texts fs → SharesIf f (texts f.buffer)
share_at texts [] p f there h = absurd cc
share_at texts (g ∷ fs) zero f there h = subst (λ (k : Followed). SharesIf k (texts k.buffer)) (some_same g f there) h.0
share_at texts (g ∷ fs) (suc p) f there h = share_at texts fs p f there h.1

pub set_shares : (texts : Texts) (fs : List Followed) (p : ℕ) (f g : Followed) → slice_get fs p ≡ Some f → SharesIf g (texts g.buffer) → AllShare texts fs
    → AllShare texts (slice_set fs p g)
set_shares texts [] p f g there s h = absurd cc
set_shares texts (k ∷ fs) zero f g there s h = (s, h.1)
set_shares texts (k ∷ fs) (suc p) f g there s h = (h.0, set_shares texts fs p f g there s h.1)

-- ---- rows beside a splice
pub beside_shares : (s : Moved) (e later : Ends) (a b d : List (List ℕ)) → IsOneSplice b d s → AreBeside d s e later → ShareEnds e a b → ShareEnds later a d
beside_shares s e later a b d one left h =
    let fewer = fewer_shared e later a b left.front left.back h in
    record {
      front = fewer.front ∙ sym (one.front later.front left.before);
      within = fewer.within;
      within_other = by_case left.behind;
      back = back_by left.behind fewer.back;
    }
  where
    by_case : (later.back ≡ 0) ⊎ (suc (row_count (take (s.at + s.new) (flat d))) + later.back ≤ length d) → later.back ≤ length d
    by_case (inl e) = omega (arith, e)
    by_case (inr le) = omega (arith, le)

    back_by : (later.back ≡ 0) ⊎ (suc (row_count (take (s.at + s.new) (flat d))) + later.back ≤ length d)
        → drop (length a - later.back) a ≡ drop (length b - later.back) b → drop (length a - later.back) a ≡ drop (length d - later.back) d
    back_by (inl e) same = no_last later.back a d e
    back_by (inr le) same =
        same ∙ last_by (suc (row_count (take (s.at + s.new) (flat d)))) (suc one.rows) later.back b d one.back le

-- ---- the rows of a text that a splice leaves
take_byte : (b n : ℕ) (ls : List (List ℕ)) → take (suc n) (with_byte b ls) ≡ with_byte b (take (suc n) ls)
take_byte b zero [] = refl
take_byte b (suc n) [] = refl
take_byte b n (l ∷ ls) = refl

drop_byte : (b n : ℕ) (ls : List (List ℕ)) → drop (suc n) (with_byte b ls) ≡ drop (suc n) ls
drop_byte b zero [] = refl
drop_byte b (suc n) [] = refl
drop_byte b n (l ∷ ls) = refl

rows_before : (p x y : List ℕ) (n : ℕ) → n ≤ row_count p → take n (lines_of (p ++ x)) ≡ take n (lines_of (p ++ y))
rows_before p x y zero le = refl
rows_before [] x y (suc n) le = absurd (omega (arith, le))
rows_before (b ∷ p) x y (suc n) le = by_test (λ k h. rows_before p x y k h) (b == 10) le
  where
    by_test : ((k : ℕ) → k ≤ row_count p → take k (lines_of (p ++ x)) ≡ take k (lines_of (p ++ y)))
        → (t : Bool) → suc n ≤ cond t (suc (row_count p)) (row_count p)
        → take (suc n) (cond t ([] ∷ lines_of (p ++ x)) (with_byte b (lines_of (p ++ x))))
        ≡ take (suc n) (cond t ([] ∷ lines_of (p ++ y)) (with_byte b (lines_of (p ++ y))))
    by_test rest true le = ap (λ (ls : List (List ℕ)). [] ∷ ls) (rest n (omega (arith, le)))
    by_test rest false le =
        take_byte b n (lines_of (p ++ x)) ∙ ap (with_byte b) (rest (suc n) le) ∙ sym (take_byte b n (lines_of (p ++ y)))

rows_behind : (p x : List ℕ) → drop (suc (row_count p)) (lines_of (p ++ x)) ≡ drop 1 (lines_of x)
rows_behind [] x = refl
rows_behind (b ∷ p) x = by_test (rows_behind p x) (b == 10)
  where
    by_test : drop (suc (row_count p)) (lines_of (p ++ x)) ≡ drop 1 (lines_of x) → (t : Bool)
        → drop (suc (cond t (suc (row_count p)) (row_count p))) (cond t ([] ∷ lines_of (p ++ x)) (with_byte b (lines_of (p ++ x)))) ≡ drop 1 (lines_of x)
    by_test rest true = rest
    by_test rest false = drop_byte b (row_count p) (lines_of (p ++ x)) ∙ rest

pub one_splice : (n : ℤ) (text new : List ℕ) (from until old : ℕ) (part : ChangePart) → from ≤ until → until ≤ length text
    → flat (lines_of (splice text from until new)) ≡ splice text from until new
    → IsOneSplice (lines_of text) (lines_of (splice text from until new)) (record { buffer = n; at = from; old = old; new = length new; change = part.change; part = part.part; back = part.back })
one_splice n text new from until old part order within is_flat =
    let later : List ℕ = splice text from until new in
    let front : List ℕ = take from text ++ new in
    let low : from ≤ length text = omega (arith, order, within) in
    let long : length (take from text) ≡ from = length-take-le from text low in
    let parts : later ≡ front ++ drop until text = sym (append_assoc (take from text) new (drop until text)) in
    let whole : length (take from text ++ new) ≡ from + length new = omega (arith, long, length-append (take from text) new) in
    let first : take from (flat (lines_of later)) ≡ take from text =
    ap (take from) is_flat ∙ take_at (take from text) (new ++ drop until text) from long in
    let both : take (from + length new) (flat (lines_of later)) ≡ front =
    ap (take (from + length new)) (is_flat ∙ parts) ∙ take_at front (drop until text) (from + length new) whole in
    record {
      front = λ k le.
          rows_before (take from text) (new ++ drop until text) (drop from text) k (subst (λ (p : List ℕ). k ≤ row_count p) first le)
          ∙ ap (λ (t : List ℕ). take k (lines_of t)) (take-append-drop from text);
      rows = row_count (take until text);
      back =
          ap (λ (p : List ℕ). drop (suc (row_count p)) (lines_of later)) both
          ∙ ap (λ (t : List ℕ). drop (suc (row_count front)) (lines_of t)) parts
          ∙ rows_behind front (drop until text)
          ∙ sym (rows_behind (take until text) (drop until text))
          ∙ ap (λ (t : List ℕ). drop (suc (row_count (take until text))) (lines_of t)) (take-append-drop until text);
    }

-- ---- rows beside a place in a text
rows_grow : (m n : ℕ) (t : List ℕ) → m ≤ n → row_count (take m t) ≤ row_count (take n t)
rows_grow zero n t le = let low : 0 ≤ row_count (take n t) = omega arith in low
rows_grow (suc m) zero t le = absurd (omega (arith, le))
rows_grow (suc m) (suc n) [] le = let low : 0 ≤ 0 = omega arith in low
rows_grow (suc m) (suc n) (b ∷ t) le = by_test (rows_grow m n t (omega (arith, le))) (b == 10)
  where
    by_test : row_count (take m t) ≤ row_count (take n t) → (c : Bool)
        → cond c (suc (row_count (take m t))) (row_count (take m t)) ≤ cond c (suc (row_count (take n t))) (row_count (take n t))
    by_test rest true = omega (arith, rest)
    by_test rest false = rest

rows_to : (text : List (List ℕ)) (row : ℕ) → All IsLine text → row_count (take (row_start text row) (flat text)) ≡ length (take row text)
rows_to text row are = ap row_count (take-row_start text row) ∙ row_count-flat (take row text) (All-take IsLine row text are)

pub none_beside : (text : List (List ℕ)) (s : Moved) (e later : Ends) → later ≡ no_ends → AreBeside text s e later
none_beside text s e later is =
    let front : 0 ≤ e.front = omega arith in
    let back : 0 ≤ e.back = omega arith in
    let before : 0 ≤ row_count (take s.at (flat text)) = omega arith in
    subst (λ (f : Ends). AreBeside text s e f) (sym is) (record { front = front; back = back; before = before; behind = inl refl })

pub some_beside : (text : List (List ℕ)) (s : Moved) (e later : Ends) (top row low until : ℕ) → All IsLine text
    → IsRowAt text s.at top → IsRowAt text until row → until ≡ s.at + s.new → low ≡ length text - 2 - row
    → later ≡ lesser_ends e (record { front = top; back = low }) → AreBeside text s e later
some_beside text s e later top row low until are first last until_is low_is is =
    let front : min e.front top ≤ e.front = omega arith in
    let back : min e.back low ≤ e.back = omega arith in
    let grow = rows_grow (row_start text top) s.at (flat text) first.begins in
    let rows = rows_to text top are in
    let long = length-take-le top text first.within in
    let before : min e.front top ≤ row_count (take s.at (flat text)) = omega (arith, grow, rows, long) in
    subst (λ (f : Ends). AreBeside text s e f) (sym is) (record {
      front = front;
      back = back;
      before = before;
      behind = by_back (min e.back low) refl;
    })
  where
    short : row < length text → row_count (take (s.at + s.new) (flat text)) ≤ row + 1
    short below =
        let ends = last.ends below in
        let le : until ≤ row_start text (row + 1) = omega (arith, ends) in
        let grow = rows_grow until (row_start text (row + 1)) (flat text) le in
        let rows = rows_to text (row + 1) are in
        let long = length-take (row + 1) text in
        let same : row_count (take until (flat text)) ≡ row_count (take (s.at + s.new) (flat text)) = ap (λ (n : ℕ). row_count (take n (flat text))) until_is in
        omega (arith, grow, rows, long, same)

    by_back : (k : ℕ) → min e.back low ≡ k → (min e.back low ≡ 0) ⊎ (suc (row_count (take (s.at + s.new) (flat text))) + min e.back low ≤ length text)
    by_back zero k_is = inl k_is
    by_back (suc k) k_is =
        let below : row < length text = omega (arith, k_is, low_is) in
        let rows = short below in
        inr (omega (arith, k_is, low_is, rows))
