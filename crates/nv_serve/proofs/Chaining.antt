-- The connections of a lane, one after another, and what they stay in histories that go on.
use Rattle.std.proofs.Common.{◌≡◌, ◌≢◌, ◌⊎◌, inl, inr, ⊎_elim, ℕ, zero, suc, ◌+◌, ◌≤◌, List, [], ◌∷◌, ◌++◌, map, flat_map, Option, Some, None, option_map, refl, ap, sym, ◌∙◌, subst, arith, append_assoc, append-nil}
use Rattle.std.proofs.lemmas.List.{map-append}
use mathlib.Core.List.{IsPrefix}
use Rattle.nv_turn.specs.Story.{Has, entries_by}
use Rattle.nv_turn.specs.Passes.{PassState, IsSamePass, SeesMore}
use Rattle.nv_turn.proofs.Prefixes.{prefix_self, prefix_trans}
use Rattle.nv_io.specs.Faults.{Rose}
use Rattle.nv_io.specs.Known.{append_items, prepend_items, ForEachItem}
use Rattle.nv_io.specs.declared.lanes.Over.{Over}
use Rattle.nv_io.specs.declared.lanes.Ended.{Ended}
use Rattle.nv_io.specs.declared.lanes.Ended.TheVariants.{ReadFault, WriteFault}
use Rattle.nv_history.specs.Events.{Entry}
use Rattle.nv_history.specs.Asking.{own}
use Rattle.nv_core.specs.Contents.{plain_entries}
use Rattle.nv_core.specs.Gains.{caller_of}
use Rattle.nv_core.specs.declared.entry.Entry.{Entry as WorldEntry}
use Rattle.nv_core.specs.declared.start.Start.{Start}
use Rattle.nv_halves.specs.Passes.{WorldPass, plain_pass}
use Rattle.nv_halves.proofs.Plains.{own_plain, plain_begins, plain_same}
use Rattle.nv_session.specs.Openings.{opening_entry}
use Rattle.nv_session.specs.Connections.{ServesSession, ServesNone}
use Rattle.nv_serve.specs.Links.{AreUnusedEnds, LanesWords, Link, halves_of}
use Rattle.nv_serve.specs.inside.Sharing.{IsIdle, IsOpened, Chain, IsLane}
use Rattle.nv_serve.specs.inside.Lanes.{session_of_link, one_of_link, other_of_link, IsIdleLink, IsOpenedLink, IsMet, ServesLane, ServesAll, ServesLink, PassesLink, PassesNone, GivesLink, IfLast, ReturnsLink, StepsLane, LooksOnly}
use Rattle.nv_serve.specs.declared.job.LaneEnd.{LaneEnd}
use Rattle.nv_serve.specs.declared.job.LaneEnd.TheVariants as stop
use Rattle.nv_serve.proofs.Members.{flat-append}

-- ---- passes

pub same_passes : {E D : Type 0} (p q r : PassState E D) → IsSamePass p q → IsSamePass q r → IsSamePass p r
same_passes p q r a b = record {
  turn = b.turn ∙ a.turn;
  number = b.number ∙ a.number;
  numbers = b.numbers ∙ a.numbers;
  start = b.start ∙ a.start;
}

pub same_self : {E D : Type 0} (p : PassState E D) → IsSamePass p p
same_self p = record { turn = refl; number = refl; numbers = refl; start = refl }

-- own entries of a pass that has seen more
pub own_seen : (c : ℕ) (p q : PassState WorldEntry Start) → entries_by caller_of c q.seen ≡ entries_by caller_of c p.seen → own c (plain_entries q.seen) ≡ own c (plain_entries p.seen)
own_seen c p q same = own_plain c q.seen ∙ ap plain_entries same ∙ sym (own_plain c p.seen)

pub looks_only : (caller : WorldEntry → ℕ) (p h q : PassState WorldEntry Start) → caller ≡ caller_of → IsSamePass p h → SeesMore caller p h → Has p.number p.numbers → IsSamePass h q → q.seen ≡ h.seen
    → LooksOnly (plain_pass p) (plain_pass q)
looks_only caller p h q named same sees number later seen =
    let named_sees : SeesMore caller_of p h = subst (λ (f : WorldEntry → ℕ). SeesMore f p h) named sees in
    record {
      same = plain_same p q (same_passes p h q same later);
      begins = plain_begins p.seen q.seen (subst (λ (l : List WorldEntry). IsPrefix p.seen l) (sym seen) sees.begins);
      own_is = own_seen p.number p q (ap (entries_by caller_of p.number) seen ∙ named_sees.own_entries p.number number);
    }

-- ---- lists that are told

pub prepend_then : {A : Type 0} (xs ys : List A) (known : Option (List A)) → prepend_items xs (prepend_items ys known) ≡ prepend_items (xs ++ ys) known
prepend_then xs ys None = refl
prepend_then xs ys (Some zs) = ap (λ (l : List _). Some l) (sym (append_assoc xs ys zs))

pub append_then : {A : Type 0} (known : Option (List A)) (xs ys : List A) → append_items (append_items known xs) ys ≡ append_items known (xs ++ ys)
append_then None xs ys = refl
append_then (Some zs) xs ys = ap (λ (l : List _). Some l) (append_assoc zs xs ys)

prepend_none : {A : Type 0} (known : Option (List A)) → known ≡ prepend_items [] known
prepend_none None = refl
prepend_none (Some zs) = refl

append_none : {A : Type 0} (known : Option (List A)) → known ≡ append_items known []
append_none None = refl
append_none (Some zs) = ap (λ (l : List _). Some l) (sym (append-nil zs))

-- one more is out, and then one fewer
pub same_out : (before after : Option ℕ) → option_map (λ (n : ℕ). n + 1) before ≡ option_map (λ (n : ℕ). n + 1) after → after ≡ before
same_out None None e = refl
same_out None (Some n) e = absurd (cc (e))
same_out (Some m) None e = absurd (cc (e))
same_out (Some m) (Some n) e = ap (λ (k : ℕ). Some k) (same_number m n (inside (m + 1) (n + 1) e))
  where
    inside : (a b : ℕ) → Some a ≡ Some b → a ≡ b
    inside a b h = cc (h)

    same_number : (a b : ℕ) → a + 1 ≡ b + 1 → b ≡ a
    same_number a b h = omega (arith, h)

-- ---- histories that go on

module _ {X : Type 0} (session : X → ℕ) (one other : X → List Entry) where
  opened_on : (n : ℕ) (done seen later : List Entry) (x : X) → IsPrefix seen later → IsOpened session one other n done seen x → IsOpened session one other n done later x
  opened_on n done seen later x p o = record {
    found = o.found;
    place = prefix_trans (o.found ++ opening_entry n ∷ []) seen later o.place p;
    session_is = o.session_is;
    own_is = o.own_is;
    rest = o.rest;
    one_is = o.one_is;
    each_one = o.each_one;
    each_other = o.each_other;
  }

  pub chain_on : (n : ℕ) (done seen later : List Entry) (xs : List X) → IsPrefix seen later → Chain session one other n done seen xs → Chain session one other n done later xs
  chain_on n done seen later [] p h = h
  chain_on n done seen later (x ∷ xs) p h =
      (⊎_elim (λ idle. inl idle) (λ o. inr (opened_on n done seen later x p o)) h.0, chain_on n (done ++ one x) seen later xs p h.1)

  -- one more connection
  pub chain_push : (n : ℕ) (done seen : List Entry) (xs : List X) (x : X) → Chain session one other n done seen xs → IsIdle session one other x ⊎ IsOpened session one other n (done ++ flat_map one xs) seen x
      → Chain session one other n done seen (xs ++ x ∷ [])
  chain_push n done seen [] x h kind =
      (subst (λ (d : List Entry). IsIdle session one other x ⊎ IsOpened session one other n d seen x) (append-nil done) kind, tt)
  chain_push n done seen (y ∷ xs) x h kind =
      let there : done ++ flat_map one (y ∷ xs) ≡ (done ++ one y) ++ flat_map one xs = sym (append_assoc done (one y) (flat_map one xs)) in
      (h.0, chain_push n (done ++ one y) seen xs x h.1 (subst (λ (d : List Entry). IsIdle session one other x ⊎ IsOpened session one other n d seen x) there kind))

pub flat_push : {X : Type 0} (part : X → List Entry) (xs : List X) (x : X) (own_before own_after : List Entry) → own_before ≡ flat_map part xs → own_after ≡ own_before ++ part x → own_after ≡ flat_map part (xs ++ x ∷ [])
flat_push part xs x own_before own_after before after =
    after ∙ ap (λ (l : List Entry). l ++ part x) before ∙ ap (λ (l : List Entry). flat_map part xs ++ l) (sym (append-nil (part x))) ∙ sym (flat-append part xs (x ∷ []))

pub each_push : {X : Type 0} (P : X → Type 0) (xs : List X) (x : X) → ForEachItem P xs → P x → ForEachItem P (xs ++ x ∷ [])
each_push P [] x h px = (px, tt)
each_push P (y ∷ xs) x h px = (h.0, each_push P xs x h.1 px)

pub each_on : {X : Type 0} (P Q : X → Type 0) (xs : List X) → ((x : X) → P x → Q x) → ForEachItem P xs → ForEachItem Q xs
each_on P Q [] f h = tt
each_on P Q (x ∷ xs) f h = (f x h.0, each_on P Q xs f h.1)

module _ {L I S : Type 0} (t : LanesWords L I S) (start : Option Start) where
  pub met_on : (a a_later b b_later : List Entry) (x : Link I S) → IsPrefix a a_later → IsPrefix b b_later → IsMet t start a b x → IsMet t start a_later b_later x
  met_on a a_later b b_later x p q (inl h) = inl (record {
    session_is = h.session_is;
    read = h.read;
    sent = h.sent;
    seen = h.seen;
    begins = prefix_trans h.seen a a_later h.begins p;
    why = h.why;
  })
  met_on a a_later b b_later x p q (inr h) = inr (record {
    some = h.some;
    bytes = h.bytes;
    read = h.read;
    ends = λ history world runs begins second takes calls. h.ends history world runs (prefix_trans a a_later history p begins) (prefix_trans b b_later history q second) takes calls;
    read_fault = h.read_fault;
    write_fault = h.write_fault;
  })

  -- what a lane did stays so
  pub lane_on : (n m : ℕ) (end : LaneEnd) (old new : L) (a a_later b b_later : List Entry) → IsPrefix a a_later → IsPrefix b b_later → own n a_later ≡ own n a → own m b_later ≡ own m b
      → ServesAll t start n m end old new a b → ServesAll t start n m end old new a_later b_later
  lane_on n m end old new a a_later b b_later p q same other_same h = record {
    serves = record {
      links = h.serves.links;
      order = h.serves.order;
      later = h.serves.later;
      lane = record {
        own_one = same ∙ h.serves.lane.own_one;
        own_other = other_same ∙ h.serves.lane.own_other;
        chain = chain_on session_of_link one_of_link other_of_link n [] a a_later h.serves.links p h.serves.lane.chain;
      };
      each = each_on (IsMet t start a b) (IsMet t start a_later b_later) h.serves.links (λ x met. met_on a a_later b b_later x p q met) h.serves.each;
    };
    ends = h.ends;
  }

  -- a lane that served nothing yet
  pub lane_begun : (n m : ℕ) (old : L) (a b : List Entry) → a ≡ [] → b ≡ [] → ServesLane t start n m old old a b
  lane_begun n m old a b first second = record {
    links = [];
    order = record { came = prepend_none (t.lane old).coming; went = append_none (t.lane old).over; lent = refl; unused = tt };
    later = omega arith;
    lane = record { own_one = ap (own n) first; own_other = ap (own m) second; chain = tt };
    each = tt;
  }

  -- and one more connection
  abbrev pub lane_then : (n m : ℕ) (old new later : L) (p q p_after q_after : WorldPass) (x : Link I S) → p.number ≡ n → q.number ≡ m → ServesLane t start n m old new p.seen q.seen
      → ServesLink t start p q p_after q_after x → PassesLink t start new later x → ServesLane t start n m old later p_after.seen q_after.seen
  lane_then n m old new later p q p_after q_after x first second h s k = record {
    links = h.links ++ x ∷ [];
    order = record {
      came = h.order.came ∙ ap (prepend_items (map (λ (y : Link I S). (y.input, y.output)) h.links)) k.came
          ∙ prepend_then (map (λ (y : Link I S). (y.input, y.output)) h.links) ((x.input, x.output) ∷ []) (t.lane later).coming
          ∙ ap (λ (l : List (I × S)). prepend_items l (t.lane later).coming) (sym (map-append (λ (y : Link I S). (y.input, y.output)) h.links (x ∷ [])));
      went = k.went ∙ ap (λ (l : Option (List (Over I S))). append_items l (x.over ∷ [])) h.order.went
          ∙ append_then (t.lane old).over (map (λ (y : Link I S). y.over) h.links) (x.over ∷ [])
          ∙ ap (λ (l : List (Over I S)). append_items (t.lane old).over l) (sym (map-append (λ (y : Link I S). y.over) h.links (x ∷ [])));
      lent = k.lent ∙ h.order.lent;
      unused = each_push (λ (y : Link I S). AreUnusedEnds t y.input y.output) h.links x h.order.unused k.unused;
    };
    later = (let a = h.later in let b = k.later in omega (arith, a, b));
    lane = record {
      own_one = flat_push one_of_link h.links x (own n p.seen) (own n p_after.seen) h.lane.own_one (subst (λ (c : ℕ). own c p_after.seen ≡ own c p.seen ++ x.one) first s.own_one);
      own_other = flat_push other_of_link h.links x (own m q.seen) (own m q_after.seen) h.lane.own_other (subst (λ (c : ℕ). own c q_after.seen ≡ own c q.seen ++ x.other) second s.own_other);
      chain = chain_push session_of_link one_of_link other_of_link n [] p_after.seen h.links x (chain_on session_of_link one_of_link other_of_link n [] p.seen p_after.seen h.links s.begins_one h.lane.chain) kind;
    };
    each = each_push (IsMet t start p_after.seen q_after.seen) h.links x
        (each_on (IsMet t start p.seen q.seen) (IsMet t start p_after.seen q_after.seen) h.links (λ y met. met_on p.seen p_after.seen q.seen q_after.seen y s.begins_one s.begins_other met) h.each) s.met;
  }
    where
      kind : IsIdleLink x ⊎ IsOpenedLink n (flat_map one_of_link h.links) p_after.seen x
      kind = subst (λ (d : List Entry). IsIdleLink x ⊎ IsOpenedLink n d p_after.seen x) h.lane.own_one
          (subst (λ (c : ℕ). IsIdleLink x ⊎ IsOpenedLink c (own c p.seen) p_after.seen x) first s.kind)

-- ---- one connection

module _ {L I S : Type 0} (t : LanesWords L I S) where
  -- a connection that ended so, by these passes
  pub record Linked (start : Option Start) (p q p_after q_after : WorldPass) (input input_after : I) (output output_after : S) (s : ℕ) (how : Ended) : Type 0 where
    pub link : Link I S
    pub input_is : link.input ≡ input
    pub output_is : link.output ≡ output
    pub over_is : link.over ≡ record { input = input_after; output = output_after; session = s; how = how }
    pub serves : ServesLink t start p q p_after q_after link

  session_link : (p q p_one q_after p_after : WorldPass) (input input_after : I) (output output_after : S) (s : ℕ) (how : Ended) → LooksOnly p_one p_after → s ≢ 0
      → ServesSession (halves_of t) p q p_one q_after input input_after output output_after s how
      → (how ≡ ReadFault → Rose (t.input input).faults (t.input input_after).faults) → (how ≡ WriteFault → Rose (t.output output).faults (t.output output_after).faults)
      → Linked p.start p q p_after q_after input input_after output output_after s how
  session_link p q p_one q_after p_after input input_after output output_after s how look some h read_fault write_fault = record {
    link = record {
      input = input;
      output = output;
      over = record { input = input_after; output = output_after; session = s; how = how };
      one = opening_entry p.number ∷ h.asked;
      other = h.taken;
    };
    input_is = refl;
    output_is = refl;
    over_is = refl;
    serves = record {
      first = same_passes p p_one p_after h.first look.same;
      second = h.second;
      begins_one = prefix_trans p.seen p_one.seen p_after.seen h.gains_one.begins look.begins;
      begins_other = h.gains_other.gains.begins;
      own_one = subst (λ (c : ℕ). own c p_after.seen ≡ own c p_one.seen) h.first.number look.own_is ∙ h.gains_one.own_is;
      own_other = h.gains_other.gains.own_is;
      kind = inr (record {
        found = h.opening.found;
        place = prefix_trans (h.opening.found ++ opening_entry p.number ∷ []) p_one.seen p_after.seen h.opening.stands look.begins;
        session_is = h.opening.number;
        own_is = h.opening.own_is;
        rest = h.asked;
        one_is = refl;
        each_one = h.each_asked;
        each_other = h.gains_other.each;
      });
      met = inr (record {
        some = some;
        bytes = h.bytes;
        read = h.read;
        ends = λ history world runs begins second takes calls. h.ends history world runs (prefix_trans p_one.seen p_after.seen history look.begins begins) second takes calls;
        read_fault = read_fault;
        write_fault = write_fault;
      });
    };
  }

  none_link : (p q p_one q_after p_after : WorldPass) (input input_after : I) (output output_after : S) (s : ℕ) (how : Ended) → LooksOnly p_one p_after → s ≡ 0
      → ServesNone (halves_of t) p q p_one q_after input input_after output output_after how → Linked p.start p q p_after q_after input input_after output output_after s how
  none_link p q p_one q_after p_after input input_after output output_after s how look none h = record {
    link = record {
      input = input;
      output = output;
      over = record { input = input_after; output = output_after; session = s; how = how };
      one = [];
      other = [];
    };
    input_is = refl;
    output_is = refl;
    over_is = refl;
    serves = record {
      first = same_passes p p_one p_after h.first look.same;
      second = subst (λ (z : WorldPass). IsSamePass q z) (sym h.second) (same_self q);
      begins_one = prefix_trans p.seen p_one.seen p_after.seen h.gains_one.begins look.begins;
      begins_other = subst (λ (z : WorldPass). IsPrefix q.seen z.seen) (sym h.second) (prefix_self q.seen);
      own_one = subst (λ (c : ℕ). own c p_after.seen ≡ own c p_one.seen) h.first.number look.own_is ∙ h.gains_one.own_is;
      own_other = ap (λ (z : WorldPass). own q.number z.seen) h.second ∙ sym (append-nil (own q.number q.seen));
      kind = inl (record { session_is = none; one_is = refl; other_is = refl });
      met = inl (record {
        session_is = none;
        read = h.read;
        sent = h.sent;
        seen = p_one.seen;
        begins = look.begins;
        why = h.why;
      });
    };
  }

  pub linked : (p q p_one q_after p_after : WorldPass) (input input_after : I) (output output_after : S) (s : ℕ) (how : Ended) → LooksOnly p_one p_after
      → (s ≢ 0 → ServesSession (halves_of t) p q p_one q_after input input_after output output_after s how) → (s ≡ 0 → ServesNone (halves_of t) p q p_one q_after input input_after output output_after how)
      → (how ≡ ReadFault → Rose (t.input input).faults (t.input input_after).faults) → (how ≡ WriteFault → Rose (t.output output).faults (t.output output_after).faults)
      → Linked p.start p q p_after q_after input input_after output output_after s how
  linked p q p_one q_after p_after input input_after output output_after zero how look served unserved read_fault write_fault =
      none_link p q p_one q_after p_after input input_after output output_after zero how look refl (unserved refl)
  linked p q p_one q_after p_after input input_after output output_after (suc n) how look served unserved read_fault write_fault =
      session_link p q p_one q_after p_after input input_after output output_after (suc n) how look (λ e. suc_not_zero n e) (served (λ e. suc_not_zero n e)) read_fault write_fault
    where
      suc_not_zero : (n : ℕ) → suc n ≡ 0 → ⊥
      suc_not_zero n e = omega (arith, e)

  -- the connection is back at its lane
  pub given_back : (start : Option Start) (p q p_after q_after : WorldPass) (old new : L) (input input_after : I) (output output_after : S) (s : ℕ) (how : Ended)
      → (k : Linked start p q p_after q_after input input_after output output_after s how) → (t.lane new).coming ≡ (t.lane old).coming
      → (t.lane new).over ≡ append_items (t.lane old).over (record { input = input_after; output = output_after; session = s; how = how } ∷ []) → (t.lane old).lent ≡ option_map (λ (n : ℕ). n + 1) (t.lane new).lent
      → (t.lane old).faults ≤ (t.lane new).faults → GivesLink t start p q p_after q_after old new input output k.link
  given_back start p q p_after q_after old new input input_after output output_after s how k coming went lent later = record {
    input_is = k.input_is;
    output_is = k.output_is;
    serves = k.serves;
    coming = coming;
    went = went ∙ ap (λ (o : Over I S). append_items (t.lane old).over (o ∷ [])) (sym k.over_is);
    lent = lent;
    later = later;
  }

  -- the lane gave it before
  passed : (start : Option Start) (p q p_after q_after : WorldPass) (old given new : L) (input : I) (output : S) (x : Link I S) → GivesLink t start p q p_after q_after given new input output x
      → (t.lane old).coming ≡ prepend_items ((input, output) ∷ []) (t.lane given).coming → (t.lane given).over ≡ (t.lane old).over → (t.lane given).lent ≡ option_map (λ (n : ℕ). n + 1) (t.lane old).lent → (t.lane old).faults ≤ (t.lane given).faults → AreUnusedEnds t input output
      → PassesLink t start old new x
  passed start p q p_after q_after old given new input output x h came over lent later fresh = record {
    came = came ∙ ap (λ (l : Option (List (I × S))). prepend_items ((input, output) ∷ []) l) (sym h.coming)
        ∙ ap (λ (i : I). prepend_items ((i, output) ∷ []) (t.lane new).coming) (sym h.input_is)
        ∙ ap (λ (o : S). prepend_items ((x.input, o) ∷ []) (t.lane new).coming) (sym h.output_is);
    went = h.went ∙ ap (λ (l : Option (List (Over I S))). append_items l (x.over ∷ [])) over;
    lent = same_out (t.lane old).lent (t.lane new).lent (sym lent ∙ h.lent);
    later = (let a = later in let b = h.later in omega (arith, a, b));
    unused = subst (λ (i : I). AreUnusedEnds t i x.output) (sym h.input_is) (subst (λ (o : S). AreUnusedEnds t input o) (sym h.output_is) fresh);
  }

  -- a connection was served and given back, and its lane ended with it or not
  pub returned : (end : Option LaneEnd) (start : Option Start) (p q p_after q_after : WorldPass) (old new : L) (input input_after : I) (output output_after : S) (s : ℕ) (how : Ended)
      → (k : Linked start p q p_after q_after input input_after output output_after s how) → GivesLink t start p q p_after q_after old new input output k.link → IfLast end how
      → ReturnsLink t start end p q p_after q_after old new input output
  returned end start p q p_after q_after old new input input_after output output_after s how k gives last =
      (k.link, gives, subst (λ (o : Over I S). IfLast end o.how) (sym k.over_is) last)

  pub steps_on : (end : Option LaneEnd) (start : Option Start) (p q p_after q_after : WorldPass) (old given new : L) (input : I) (output : S) → ReturnsLink t start end p q p_after q_after given new input output
      → (t.lane old).coming ≡ prepend_items ((input, output) ∷ []) (t.lane given).coming → (t.lane given).over ≡ (t.lane old).over → (t.lane given).lent ≡ option_map (λ (n : ℕ). n + 1) (t.lane old).lent → (t.lane old).faults ≤ (t.lane given).faults → AreUnusedEnds t input output
      → StepsLane t start end p q p_after q_after old new
  steps_on None start p q p_after q_after old given new input output h came over lent later fresh =
      (h.0, (h.1.serves, passed start p q p_after q_after old given new input output h.0 h.1 came over lent later fresh))
  steps_on (Some stop.Quit) start p q p_after q_after old given new input output h came over lent later fresh =
      (h.0, (h.1.serves, passed start p q p_after q_after old given new input output h.0 h.1 came over lent later fresh), h.2)
  steps_on (Some stop.Spent) start p q p_after q_after old given new input output h came over lent later fresh =
      (h.0, (h.1.serves, passed start p q p_after q_after old given new input output h.0 h.1 came over lent later fresh), h.2)
  steps_on (Some stop.Done) start p q p_after q_after old given new input output h came over lent later fresh = absurd h.2
  steps_on (Some stop.Failed) start p q p_after q_after old given new input output h came over lent later fresh = absurd h.2

-- ---- the loop of a lane

module _ {L I S : Type 0} (t : LanesWords L I S) where
  -- a lane that goes on: its two passes, as they began and as they are
  pub record LaneGoes (p q p_now q_now : PassState WorldEntry Start) (old now : L) : Type 0 where
    pub first : IsSamePass p p_now
    pub second : IsSamePass q q_now
    pub serves : ServesLane t p.start p.number q.number old now (plain_pass p_now).seen (plain_pass q_now).seen

  -- the passes after one more connection
  plain_number : (p q : WorldPass) → IsSamePass p q → q.number ≡ p.number
  plain_number p q s = s.number

  same_of_plain : (p q : PassState WorldEntry Start) → IsSamePass (plain_pass p) (plain_pass q) → IsSamePass p q
  same_of_plain p q s = record { turn = s.turn; number = s.number; numbers = s.numbers; start = s.start }

  with_start : (start other : Option Start) (p q p_after q_after : WorldPass) (x : Link I S) → other ≡ start → ServesLink t other p q p_after q_after x → ServesLink t start p q p_after q_after x
  with_start start other p q p_after q_after x same h = subst (λ (o : Option Start). ServesLink t o p q p_after q_after x) same h

  with_start_passed : (start other : Option Start) (old new : L) (x : Link I S) → other ≡ start → PassesLink t other old new x → PassesLink t start old new x
  with_start_passed start other old new x same h = subst (λ (o : Option Start). PassesLink t o old new x) same h

  -- with one more connection
  abbrev goes_then : (p q p_now q_now p_after q_after : PassState WorldEntry Start) (old now new : L) (x : Link I S) → LaneGoes p q p_now q_now old now
      → ServesLink t p_now.start (plain_pass p_now) (plain_pass q_now) (plain_pass p_after) (plain_pass q_after) x → PassesLink t p_now.start now new x
      → ServesLane t p.start p.number q.number old new (plain_pass p_after).seen (plain_pass q_after).seen
  goes_then p q p_now q_now p_after q_after old now new x g serves passes =
      lane_then t p.start p.number q.number old now new (plain_pass p_now) (plain_pass q_now) (plain_pass p_after) (plain_pass q_after) x g.first.number g.second.number g.serves
      (with_start p.start p_now.start (plain_pass p_now) (plain_pass q_now) (plain_pass p_after) (plain_pass q_after) x g.first.start serves)
      (with_start_passed p.start p_now.start now new x g.first.start passes)

  pub lane_goes : (p q p_now q_now p_after q_after : PassState WorldEntry Start) (old now new : L) → LaneGoes p q p_now q_now old now
      → StepsLane t p_now.start None (plain_pass p_now) (plain_pass q_now) (plain_pass p_after) (plain_pass q_after) now new → LaneGoes p q p_after q_after old new
  lane_goes p q p_now q_now p_after q_after old now new g h = record {
    first = same_passes p p_now p_after g.first (same_of_plain p_now p_after h.1.0.first);
    second = same_passes q q_now q_after g.second (same_of_plain q_now q_after h.1.0.second);
    serves = goes_then p q p_now q_now p_after q_after old now new h.0 g h.1.0 h.1.1;
  }

  -- none was given
  rose_on : (a b c : ℕ) → a ≤ b → Rose b c → Rose a c
  rose_on a b c le r = omega (arith, le, r)

  abbrev goes_none : (p q p_now q_now p_after q_after : PassState WorldEntry Start) (old now new : L) → LaneGoes p q p_now q_now old now
      → PassesNone t p_now.start (plain_pass p_now) (plain_pass q_now) (plain_pass p_after) (plain_pass q_after) now new
      → ServesLane t p.start p.number q.number old new (plain_pass p_after).seen (plain_pass q_after).seen
  goes_none p q p_now q_now p_after q_after old now new g h =
      let s = g.serves in
      let a = s.later in
      let b = h.later in record {
        links = s.links;
        order = record {
          came = s.order.came ∙ ap (prepend_items (map (λ (y : Link I S). (y.input, y.output)) s.links)) (sym h.came);
          went = h.went ∙ s.order.went;
          lent = h.lent ∙ s.order.lent;
          unused = s.order.unused;
        };
        later = omega (arith, a, b);
        lane = subst (λ (z : WorldPass). IsLane session_of_link one_of_link other_of_link p.number q.number z.seen (plain_pass q_after).seen s.links) (sym h.first)
            (subst (λ (z : WorldPass). IsLane session_of_link one_of_link other_of_link p.number q.number (plain_pass p_now).seen z.seen s.links) (sym h.second) s.lane);
        each = subst (λ (z : WorldPass). ForEachItem (IsMet t p.start z.seen (plain_pass q_after).seen) s.links) (sym h.first)
            (subst (λ (z : WorldPass). ForEachItem (IsMet t p.start (plain_pass p_now).seen z.seen) s.links) (sym h.second) s.each);
      }

  -- a lane ended
  pub lane_ends : (end : LaneEnd) (p q p_now q_now p_after q_after : PassState WorldEntry Start) (old now new : L) → LaneGoes p q p_now q_now old now
      → StepsLane t p_now.start (Some end) (plain_pass p_now) (plain_pass q_now) (plain_pass p_after) (plain_pass q_after) now new
      → ServesAll t p.start p.number q.number end old new (plain_pass p_after).seen (plain_pass q_after).seen
  lane_ends stop.Quit p q p_now q_now p_after q_after old now new g h = record {
    serves = goes_then p q p_now q_now p_after q_after old now new h.0 g h.1.0 h.1.1;
    ends = (g.serves.links, h.0, refl, h.2);
  }
  lane_ends stop.Spent p q p_now q_now p_after q_after old now new g h = record {
    serves = goes_then p q p_now q_now p_after q_after old now new h.0 g h.1.0 h.1.1;
    ends = (g.serves.links, h.0, refl, h.2);
  }
  lane_ends stop.Done p q p_now q_now p_after q_after old now new g h = record {
    serves = goes_none p q p_now q_now p_after q_after old now new g h.0;
    ends = h.1;
  }
  lane_ends stop.Failed p q p_now q_now p_after q_after old now new g h = record {
    serves = goes_none p q p_now q_now p_after q_after old now new g h.0;
    ends = rose_on (t.lane old).faults (t.lane now).faults (t.lane new).faults g.serves.later h.1;
  }
