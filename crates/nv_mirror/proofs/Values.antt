-- What a message comes to, as a value.
use Rattle.std.proofs.Common.{◌≡◌, ℕ, ◌+◌, ℤ, Bool, true, false, List, [], ◌∷◌, ◌++◌, take, Option, Some, None, Result, refl, sym, ap, subst, ◌∙◌, inl, inr}
use Rattle.std.specs.Prelude.{option_map, is_some, unwrap_or, if◌then◌else◌}
use Rattle.std.specs.Option.{option_or}
use Rattle.std.proofs.lemmas.List.{append-nil}
use Rattle.nv_io.specs.declared.lanes.Flaw.{Flaw}
use Rattle.nv_io.specs.declared.lanes.Flaw.TheVariants.{Bad, TooDeep, TooLong, Inside, NoCall}
use Rattle.nv_rpc.specs.Messages.{Sent}
use Rattle.nv_subs.specs.Mirrors.{Mirror, mirror_after}
use Rattle.nv_mirror.specs.Listings.{Received, StopReason, message, other_notice, buffer_detached, request_refused, unfit, strange, refusal_in, is_detach_of, is_lines_of, stop_if_unfit, stop_at, text_listed, listing_from, listing_with}
use Rattle.nv_mirror.specs.declared.followed.Followed.{Followed}
use Rattle.nv_mirror.specs.declared.followed.Followed.TheVariants.{Ended, Detached, Malformed, Refused, Unfit, ReadFault, ServerFault, OutputFault, NoMemory}
use Rattle.nv_mirror.specs.inside.Steps.{Known, stop_due, mirror_past, text_due, EndsBy, ListsPart, EndsAtMessage, GoesPast, stop_alone, listing_alone, EndsAtValue, TakesReceived}

-- where a client stops, by what its message says
abbrev stop_told : ℕ → Option (List ℕ) → Bool → Option Mirror → Option StopReason
stop_told n refusal ends left = option_or (option_map request_refused refusal) (if ends then Some buffer_detached else stop_if_unfit n left)

none_told : (n k : ℕ) (refusal : Option (List ℕ)) (ends : Bool) (left : Option Mirror) → stop_told n refusal ends left ≡ None → stop_told k refusal ends left ≡ None
none_told n k (Some words) ends left e = cc
none_told n k None true left e = cc
none_told n k None false None e = cc
none_told n k None false (Some m) e = refl

some_told : (n k : ℕ) (refusal : Option (List ℕ)) (ends : Bool) (left : Option Mirror) (stop : StopReason) → stop_told n refusal ends left ≡ Some stop → (other : StopReason) × (stop_told k refusal ends left ≡ Some other)
some_told n k (Some words) ends left stop e = (request_refused words, refl)
some_told n k None true left stop e = (buffer_detached, refl)
some_told n k None false None stop e = (unfit k, refl)
some_told n k None false (Some m) stop e = cc

-- it stops or goes on whatever the number of the value
pub none_at : (k : Known) (sent : Sent) → stop_due k sent ≡ None → stop_at k.buffer 0 k.mirror sent ≡ None
none_at k sent e = none_told k.number 0 (refusal_in sent) (is_detach_of k.buffer sent) (mirror_after k.buffer k.mirror sent) e

pub some_at : (k : Known) (sent : Sent) (stop : StopReason) → stop_due k sent ≡ Some stop → (other : StopReason) × (stop_at k.buffer 0 k.mirror sent ≡ Some other)
some_at k sent stop e = some_told k.number 0 (refusal_in sent) (is_detach_of k.buffer sent) (mirror_after k.buffer k.mirror sent) stop e

-- a message at which a client goes on lists its text before the later ones
pub lists_on : (k : Known) (sent : Sent) (later : List Sent) → stop_due k sent ≡ None → listing_from k.buffer k.mirror (sent ∷ later) ≡ text_due k sent ++ listing_from k.buffer (mirror_past k sent) later
lists_on k sent later e =
    ap (λ (o : Option StopReason). listing_with o (text_due k sent) (listing_from k.buffer (mirror_past k sent) later)) (none_at k sent e)

pub past_message : (old mid new : Known) (sent : Sent) (out : List ℕ) → stop_due old sent ≡ None → mid ≡ record old { mirror = mirror_past old sent } → out ≡ text_due old sent
    → new ≡ record mid { number = mid.number + 1 } → GoesPast (message sent) old new out
past_message old mid new sent out s m o n =
    let mirror : new.mirror ≡ mirror_past old sent = ap (λ (k : Known). k.mirror) n ∙ ap (λ (k : Known). k.mirror) m in
    record {
      buffer = ap (λ (k : Known). k.buffer) n ∙ ap (λ (k : Known). k.buffer) m;
      number = ap (λ (k : Known). k.number) n ∙ ap (λ (k : Known). k.number + 1) m;
      stops = λ later. ap (λ (x : Option StopReason). option_or x (later (mirror_past old sent))) s ∙ ap later (sym mirror);
      lists = λ later.
          lists_on old sent later s
          ∙ ap (λ (l : List ℕ). l ++ listing_from old.buffer (mirror_past old sent) later) (sym o)
          ∙ ap (λ (x : Mirror). out ++ listing_from old.buffer x later) (sym mirror);
    }

-- a part of the text of a message, as that of a value
part_alone : (k : Known) (sent : Sent) (out : List ℕ) → ListsPart (stop_due k sent) (text_due k sent) out → (n : ℕ) × (out ≡ take n (listing_alone k (message sent)))
part_alone k sent out (inl e) = (0, e)
part_alone k sent out (inr p) =
    (p.1.0, p.1.1 ∙ ap (λ (l : List ℕ). take p.1.0 l) (sym (lists_on k sent [] p.0 ∙ append-nil (text_due k sent))))

-- a stop at a message, as that at a value
stop_both : (k : Known) (sent : Sent) (out : List ℕ) (stop : StopReason) → stop_due k sent ≡ Some stop → out ≡ [] → (stop_alone k (message sent) ≡ Some stop) × (out ≡ listing_alone k (message sent))
stop_both k sent out stop e o = (
  ap (λ (x : Option StopReason). option_or x None) e,
  o ∙ sym (ap (λ (x : Option StopReason). listing_with x (text_due k sent) []) (some_at k sent stop e).1),
)

pub ends_message : (f : Followed) (k : Known) (sent : Sent) (out : List ℕ) → EndsAtMessage f (stop_due k sent) (text_due k sent) out → EndsAtValue f k (message sent) out
ends_message Ended k sent out h = absurd h.0
ends_message Detached k sent out h = stop_both k sent out buffer_detached h.0 h.1
ends_message (Malformed (Bad n)) k sent out h = absurd h.0
ends_message (Malformed (TooDeep n)) k sent out h = absurd h.0
ends_message (Malformed (TooLong n)) k sent out h = absurd h.0
ends_message (Malformed (Inside n)) k sent out h = absurd h.0
ends_message (Malformed (NoCall n)) k sent out h = stop_both k sent out (strange n) h.0 h.1
ends_message (Refused words) k sent out h = stop_both k sent out (request_refused words) h.0 h.1
ends_message (Unfit n) k sent out h = stop_both k sent out (unfit n) h.0 h.1
ends_message ReadFault k sent out h = absurd h.0
ends_message ServerFault k sent out h = absurd h.0
ends_message OutputFault k sent out h = part_alone k sent out h
ends_message NoMemory k sent out h = part_alone k sent out h

-- ---- where a client stops, by what its code found

-- a number of optional things that are none, or some
none_is : {X : Type 0} → (o : Option X) (b : Bool) → b ≡ is_some o → b ≡ false → o ≡ None
none_is None b e d = refl
none_is (Some x) b e d = let c : true ≡ false = sym e ∙ d in cc

some_is : {X : Type 0} → (o : Option X) (b : Bool) → b ≡ is_some o → b ≡ true → (x : X) × (o ≡ Some x)
some_is None b e d = let c : false ≡ true = sym e ∙ d in cc
some_is (Some x) b e d = (x, refl)

told_by : (k : Known) (sent : Sent) (refusal : Option (List ℕ)) (ends : Bool) (left : Option Mirror) → refusal_in sent ≡ refusal → is_detach_of k.buffer sent ≡ ends → mirror_after k.buffer k.mirror sent ≡ left
    → stop_due k sent ≡ stop_told k.number refusal ends left
told_by k sent refusal ends left r d m =
    ap (λ (x : Option (List ℕ)). stop_told k.number x (is_detach_of k.buffer sent) (mirror_after k.buffer k.mirror sent)) r
    ∙ ap (λ (x : Bool). stop_told k.number refusal x (mirror_after k.buffer k.mirror sent)) d
    ∙ ap (λ (x : Option Mirror). stop_told k.number refusal ends x) m

pub accepted_is : (sent : Sent) (b : Bool) → b ≡ is_some (refusal_in sent) → b ≡ false → refusal_in sent ≡ None
accepted_is sent b e d = none_is (refusal_in sent) b e d

pub refusal_stop : (k : Known) (sent : Sent) (words : List ℕ) → refusal_in sent ≡ Some words → stop_due k sent ≡ Some (request_refused words)
refusal_stop k sent words e = told_by k sent (Some words) (is_detach_of k.buffer sent) (mirror_after k.buffer k.mirror sent) e refl refl

pub detach_stop : (k : Known) (sent : Sent) → refusal_in sent ≡ None → is_detach_of k.buffer sent ≡ true → stop_due k sent ≡ Some buffer_detached
detach_stop k sent r d = told_by k sent None true (mirror_after k.buffer k.mirror sent) r d refl

-- what the follower of a client found, whose buffer is its own
left_at : (k : Known) (sent : Sent) (about : ℤ) (left : Option Mirror) → about ≡ k.buffer → mirror_after about k.mirror sent ≡ left → mirror_after k.buffer k.mirror sent ≡ left
left_at k sent about left a e = ap (λ (b : ℤ). mirror_after b k.mirror sent) (sym a) ∙ e

pub misfit_stop : (k : Known) (sent : Sent) (about : ℤ) (fits : Bool) → refusal_in sent ≡ None → is_detach_of k.buffer sent ≡ false → about ≡ k.buffer → fits ≡ is_some (mirror_after about k.mirror sent) → fits ≡ false
    → stop_due k sent ≡ Some (unfit k.number)
misfit_stop k sent about fits r d a e n = told_by k sent None false None r d (left_at k sent about None a (none_is (mirror_after about k.mirror sent) fits e n))

pub fit_goes_on : (k : Known) (sent : Sent) (about : ℤ) (fits : Bool) → refusal_in sent ≡ None → is_detach_of k.buffer sent ≡ false → about ≡ k.buffer → fits ≡ is_some (mirror_after about k.mirror sent) → fits ≡ true
    → stop_due k sent ≡ None
fit_goes_on k sent about fits r d a e y =
    let s = some_is (mirror_after about k.mirror sent) fits e y in
    told_by k sent None false (Some s.0) r d (left_at k sent about (Some s.0) a s.1)

-- its mirror then
pub mirror_then : (k : Known) (sent : Sent) (about : ℤ) (m : Mirror) → about ≡ k.buffer → m ≡ unwrap_or (mirror_after about k.mirror sent) k.mirror → m ≡ mirror_past k sent
mirror_then k sent about m a e = e ∙ ap (λ (b : ℤ). unwrap_or (mirror_after b k.mirror sent) k.mirror) a

pub known_then : (k new : Known) (sent : Sent) (m : Mirror) → m ≡ mirror_past k sent → new ≡ record k { mirror = m } → new ≡ record k { mirror = mirror_past k sent }
known_then k new sent m e n = n ∙ ap (λ (x : Mirror). record k { mirror = x }) e

-- and what is due then
pub none_due : (k : Known) (sent : Sent) → is_lines_of k.buffer sent ≡ false → [] ≡ text_due k sent
none_due k sent e = sym (ap (λ (b : Bool). if b then text_listed (mirror_past k sent) else []) e)

pub text_then : (k : Known) (sent : Sent) (m : Mirror) → m ≡ mirror_past k sent → is_lines_of k.buffer sent ≡ true → text_listed m ≡ text_due k sent
text_then k sent m e l = ap (λ (x : Mirror). text_listed x) e ∙ sym (ap (λ (b : Bool). if b then text_listed (mirror_past k sent) else []) l)

-- ---- a value, by what it is

pub past_as_received : (old new : Known) (out : List ℕ) (r q : Received) → r ≡ q → GoesPast q old new out → GoesPast r old new out
past_as_received old new out r q e h = subst (λ (y : Received). GoesPast y old new out) (sym e) h

pub ends_as_received : (f : Followed) (k : Known) (out : List ℕ) (r q : Received) → r ≡ q → EndsAtValue f k q out → EndsAtValue f k r out
ends_as_received f k out r q e h = subst (λ (y : Received). EndsAtValue f k y out) (sym e) h

pub past_other : (old new : Known) → new ≡ record old { number = old.number + 1 } → GoesPast other_notice old new []
past_other old new e = record {
  buffer = ap (λ (k : Known). k.buffer) e;
  number = ap (λ (k : Known). k.number) e;
  stops = λ later. ap (λ (k : Known). later k.mirror) (sym e);
  lists = λ later. ap (λ (k : Known). listing_from old.buffer k.mirror later) (sym e);
}
