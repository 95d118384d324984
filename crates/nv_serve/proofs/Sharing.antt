-- Which entries of one history are those of which connection of which lane.
use Rattle.std.proofs.Common.{◌≡◌, ◌≢◌, ◌⊎◌, inl, inr, ⊎_elim, ℕ, suc, ◌+◌, ◌<◌, ◌==◌, Bool, true, false, cond, List, [], ◌∷◌, ◌++◌, length, filter, flat_map, refl, ap, sym, ◌∙◌, subst, arith, append_assoc, append-nil, length-append, eq-eqb, ne_eqb}
use Rattle.std.proofs.lemmas.List.Elements.{filter-append}
use mathlib.Core.List.{IsPrefix}
use Rattle.nv_rpc.specs.Calls.{Call}
use Rattle.nv_history.specs.Events.{Event, open_session, request_of, take_of, close_of, Entry}
use Rattle.nv_history.specs.Asking.{own, opened_in, count_opened, is_take_of, takes_by, call_if, calls_in, calls_of}
use Rattle.nv_halves.specs.Passes.{IsFromReader, IsFromWriter, EachEvent}
use Rattle.nv_session.specs.Openings.{opening_entry}
use Rattle.nv_serve.specs.Headline.{session_in}
use Rattle.nv_serve.specs.inside.Sharing.{first_number, second_number, IsIdle, IsOpened, Chain, IsLane, HasLaneCaller}
use Rattle.nv_serve.proofs.Members.{In, in_middle, in_cases, in_filter, same_place, same_behind, flat-append, flat_none, only, if_passes, filter_is_flat}

-- ---- entries, and how many sessions they open

abbrev is_opening : Event → Bool
is_opening open_session = true
is_opening (request_of s call) = false
is_opening (take_of s) = false
is_opening (close_of s) = false

abbrev opens : Entry → Bool
opens e = is_opening e.event

counted_one : (before : ℕ) (event : Event) (n : ℕ) (rest : List Entry) → count_opened before event + length (filter opens rest) ≡ before + length (filter opens (record { caller = n; event = event } ∷ rest))
counted_one before open_session n rest =
    let more : length (filter opens (record { caller = n; event = open_session } ∷ rest)) ≡ suc (length (filter opens rest)) = refl in omega (arith, more)
counted_one before (request_of s call) n rest = refl
counted_one before (take_of s) n rest = refl
counted_one before (close_of s) n rest = refl

opened_is_count : (before : ℕ) (xs : List Entry) → opened_in before xs ≡ before + length (filter opens xs)
opened_is_count before [] = omega arith
opened_is_count before (e ∷ xs) = opened_is_count (count_opened before e.event) xs ∙ counted_one before e.event e.caller xs

-- a history that goes on from an opening has opened more sessions than there were before it
pub opened_within : (found kept : List Entry) (n : ℕ) → IsPrefix (found ++ opening_entry n ∷ []) kept → opened_in 0 found < opened_in 0 kept
opened_within found kept n p =
    let rest = p.0 in
    let a = opened_is_count 0 found in
    let b = opened_is_count 0 kept in
    let parts : filter opens kept ≡ (filter opens found ++ opening_entry n ∷ []) ++ filter opens rest =
    ap (filter opens) (sym p.1) ∙ filter-append opens (found ++ opening_entry n ∷ []) rest ∙ ap (λ (l : List Entry). l ++ filter opens rest) (filter-append opens found (opening_entry n ∷ [])) in
    let len : length (filter opens kept) ≡ length (filter opens found ++ opening_entry n ∷ []) + length (filter opens rest) =
    ap length parts ∙ length-append (filter opens found ++ opening_entry n ∷ []) (filter opens rest) in
    let one : length (filter opens found ++ opening_entry n ∷ []) ≡ length (filter opens found) + 1 = length-append (filter opens found) (opening_entry n ∷ []) in
    omega (arith, a, b, len, one)

pub each_in : (P : Event → Type 0) (es : List Entry) (e : Entry) → EachEvent P es → In e es → P e.event
each_in P [] e h i = absurd i
each_in P (x ∷ es) e h (inl i) = subst (λ (z : Entry). P z.event) i h.0
each_in P (x ∷ es) e h (inr i) = each_in P es e h.1 i

pub in_own : (n : ℕ) (e : Entry) (kept : List Entry) → e.caller ≡ n → In e kept → In e (own n kept)
in_own n e kept same i = in_filter (λ (z : Entry). z.caller == n) e kept (eq-eqb e.caller n same) i

own_here : (n : ℕ) (ys : List Entry) (e : Entry) → e.caller ≡ n → own n (e ∷ ys) ≡ e ∷ own n ys
own_here n ys e same = ap (λ (b : Bool). cond b (e ∷ own n ys) (own n ys)) (eq-eqb e.caller n same)

own_middle : (n : ℕ) (xs ys : List Entry) (e : Entry) → e.caller ≡ n → own n (xs ++ e ∷ ys) ≡ own n xs ++ e ∷ own n ys
own_middle n xs ys e same = filter-append (λ (z : Entry). z.caller == n) xs (e ∷ ys) ∙ ap (λ (l : List Entry). own n xs ++ l) (own_here n ys e same)

-- a call of a session
no_call : (s t : ℕ) (call : Call) → (t ≡ s → ⊥) → call_if (t == s) call ≡ []
no_call s t call h = ap (λ (b : Bool). call_if b call) (ne_eqb t s h)

calls_none : (s : ℕ) (event : Event) → ((t : ℕ) (call : Call) → event ≡ request_of t call → t ≡ s → ⊥) → calls_in s event ≡ []
calls_none s open_session h = refl
calls_none s (request_of t call) h = no_call s t call (h t call refl)
calls_none s (take_of t) h = refl
calls_none s (close_of t) h = refl

-- a take of a session
takes_none : (s : ℕ) (n : ℕ) (event : Event) → ((t : ℕ) → event ≡ take_of t → t ≡ s → ⊥) → if_passes (λ (e : Entry). is_take_of s e.event) (record { caller = n; event = event }) ≡ []
takes_none s n open_session h = refl
takes_none s n (request_of t call) h = refl
takes_none s n (take_of t) h = ap (λ (b : Bool). if_passes (λ (e : Entry). b) (record { caller = n; event = take_of t })) (ne_eqb t s (h t refl))
takes_none s n (close_of t) h = refl

-- an event of the half that reads is one of its session
reader_session : (s before : ℕ) (event : Event) → IsFromReader s event → session_in before event ≡ s
reader_session s before open_session h = absurd h
reader_session s before (request_of t call) h = h
reader_session s before (take_of t) h = absurd h
reader_session s before (close_of t) h = h

writer_session : (s before : ℕ) (event : Event) → IsFromWriter s event → session_in before event ≡ s
writer_session s before open_session h = absurd h
writer_session s before (request_of t call) h = absurd h
writer_session s before (take_of t) h = h
writer_session s before (close_of t) h = h

-- ---- connections of a lane

module _ {X : Type 0} (session : X → ℕ) (one other : X → List Entry) where
  front_then : (done : List Entry) (y : X) (ys : List X) → (done ++ one y) ++ flat_map one ys ≡ done ++ flat_map one (y ∷ ys)
  front_then done y ys = append_assoc done (one y) (flat_map one ys)

  -- a connection of a lane, behind these ones
  pub chain_at : (n : ℕ) (done kept : List Entry) (front behind : List X) (x : X) → Chain session one other n done kept (front ++ x ∷ behind)
      → IsIdle session one other x ⊎ IsOpened session one other n (done ++ flat_map one front) kept x
  chain_at n done kept [] behind x h =
      subst (λ (d : List Entry). IsIdle session one other x ⊎ IsOpened session one other n d kept x) (sym (append-nil done)) h.0
  chain_at n done kept (y ∷ front) behind x h =
      subst (λ (d : List Entry). IsIdle session one other x ⊎ IsOpened session one other n d kept x) (front_then done y front) (chain_at n (done ++ one y) kept front behind x h.1)

  -- where one of them made an entry
  pub record MadeIn (part : X → List Entry) (xs : List X) (e : Entry) : Type 0 where
    pub front : List X
    pub link : X
    pub behind : List X
    pub parts : xs ≡ front ++ link ∷ behind
    pub made : In e (part link)

  made_later : (part : X → List Entry) (y : X) (xs : List X) (e : Entry) → MadeIn part xs e → MadeIn part (y ∷ xs) e
  made_later part y xs e m = record { front = y ∷ m.front; link = m.link; behind = m.behind; parts = ap (λ (l : List X). y ∷ l) m.parts; made = m.made }

  pub made_in : (part : X → List Entry) (xs : List X) (e : Entry) → In e (flat_map part xs) → MadeIn part xs e
  made_in part [] e h = absurd h
  made_in part (y ∷ xs) e h =
      ⊎_elim (λ here. record { front = []; link = y; behind = xs; parts = refl; made = here }) (λ later. made_later part y xs e (made_in part xs e later)) (in_cases e (part y) (flat_map part xs) h)

  -- one that made something has a session
  chain_opened : (n : ℕ) (kept : List Entry) (xs front behind : List X) (x : X) → Chain session one other n [] kept xs → xs ≡ front ++ x ∷ behind → (IsIdle session one other x → ⊥)
      → IsOpened session one other n (flat_map one front) kept x
  chain_opened n kept xs front behind x h is busy =
      ⊎_elim (λ idle. absurd (busy idle)) (λ opened. opened) (chain_at n [] kept front behind x (subst (λ (l : List X). Chain session one other n [] kept l) is h))

  some_one : (n : ℕ) (done kept : List Entry) (x : X) → IsOpened session one other n done kept x → 0 < length (one x)
  some_one n done kept x o = let e : length (one x) ≡ suc (length o.rest) = ap length o.one_is in omega (arith, e)

  -- two places of one list of connections with as many entries before
  same_length : (xs ys bs ds : List X) (x y : X) → xs ++ x ∷ bs ≡ ys ++ y ∷ ds → length (flat_map one xs) ≡ length (flat_map one ys) → 0 < length (one x) → 0 < length (one y) → length xs ≡ length ys
  same_length [] [] bs ds x y h n a b = refl
  same_length [] (z ∷ ys) bs ds x y h n a b =
      let here : length (one z) ≡ length (one x) = ap (λ (w : X). length (one w)) (sym (first_same x z bs (ys ++ y ∷ ds) h)) in
      let more : length (one z ++ flat_map one ys) ≡ length (one z) + length (flat_map one ys) = length-append (one z) (flat_map one ys) in
      absurd (omega (arith, n, here, more, a))
    where
      first_same : (v w : X) (vs ws : List X) → v ∷ vs ≡ w ∷ ws → v ≡ w
      first_same v w vs ws k = cc (k)
  same_length (z ∷ xs) [] bs ds x y h n a b =
      let here : length (one z) ≡ length (one y) = ap (λ (w : X). length (one w)) (first_same z y (xs ++ x ∷ bs) ds h) in
      let more : length (one z ++ flat_map one xs) ≡ length (one z) + length (flat_map one xs) = length-append (one z) (flat_map one xs) in
      absurd (omega (arith, n, here, more, b))
    where
      first_same : (v w : X) (vs ws : List X) → v ∷ vs ≡ w ∷ ws → v ≡ w
      first_same v w vs ws k = cc (k)
  same_length (z ∷ xs) (w ∷ ys) bs ds x y h n a b =
      let same : length (one z) ≡ length (one w) = ap (λ (v : X). length (one v)) (cc (h)) in
      let m : length (one z ++ flat_map one xs) ≡ length (one z) + length (flat_map one xs) = length-append (one z) (flat_map one xs) in
      let k : length (one w ++ flat_map one ys) ≡ length (one w) + length (flat_map one ys) = length-append (one w) (flat_map one ys) in
      let rest : length xs ≡ length ys = same_length xs ys bs ds x y (cc (h)) (omega (arith, n, same, m, k)) a b in
      ap suc rest

  -- ---- the opening of a session stands at one place

  opening_place : (n : ℕ) (found kept : List Entry) → (p : IsPrefix (found ++ opening_entry n ∷ []) kept) → found ++ opening_entry n ∷ p.0 ≡ kept
  opening_place n found kept p = sym (append_assoc found (opening_entry n ∷ []) p.0) ∙ p.1

  pub record OnePlace (n m : ℕ) (done other_done : List Entry) : Type 0 where
    pub number : n ≡ m
    pub done_is : done ≡ other_done

  one_place : (n m : ℕ) (done other_done kept : List Entry) (x y : X) → (a : IsOpened session one other n done kept x) → (b : IsOpened session one other m other_done kept y) → session y ≡ session x
      → OnePlace n m done other_done
  one_place n m done other_done kept x y a b same =
      let one_count = opened_is_count 0 a.found in
      let other_count = opened_is_count 0 b.found in
      let p : a.found ++ opening_entry n ∷ a.place.0 ≡ kept = opening_place n a.found kept a.place in
      let q : b.found ++ opening_entry m ∷ b.place.0 ≡ kept = opening_place m b.found kept b.place in
      let both : suc (opened_in 0 b.found) ≡ suc (opened_in 0 a.found) = sym b.session_is ∙ same ∙ a.session_is in
      let counts : length (filter opens a.found) ≡ length (filter opens b.found) = omega (arith, one_count, other_count, both) in
      let here : a.found ≡ b.found = same_place opens a.found b.found a.place.0 b.place.0 (opening_entry n) (opening_entry m) (p ∙ sym q) refl refl counts in
      let entries = same_behind a.found a.place.0 b.place.0 (opening_entry n) (opening_entry m) (p ∙ sym q ∙ ap (λ (l : List Entry). l ++ opening_entry m ∷ b.place.0) (sym here)) in
      let callers : n ≡ m = ap (λ (e : Entry). e.caller) entries.0 in
      record {
        number = callers;
        done_is = sym a.own_is ∙ ap (λ (k : ℕ). own k a.found) callers ∙ ap (own m) here ∙ b.own_is;
      }

  -- ---- an opening stands at the front of a connection

  record Skips (rest xs ws bs : List Entry) (e : Entry) : Type 0 where
    later : List Entry
    front_is : xs ≡ rest ++ later
    parts : ws ≡ later ++ e ∷ bs

  no_open : (s : ℕ) (event other_event : Event) → IsFromReader s event → event ≡ other_event → other_event ≡ open_session → ⊥
  no_open s event other_event h same is = subst (λ (v : Event). IsFromReader s v) (same ∙ is) h

  skips : (s : ℕ) (rest xs ws bs : List Entry) (e : Entry) → EachEvent (IsFromReader s) rest → rest ++ ws ≡ xs ++ e ∷ bs → e.event ≡ open_session → Skips rest xs ws bs e
  skips s [] xs ws bs e h is open_is = record { later = xs; front_is = refl; parts = is }
  skips s (r ∷ rest) [] ws bs e h is open_is = absurd (no_open s r.event e.event h.0 (ap (λ (z : Entry). z.event) (first_same r e (rest ++ ws) bs is)) open_is)
    where
      first_same : (v w : Entry) (vs ws : List Entry) → v ∷ vs ≡ w ∷ ws → v ≡ w
      first_same v w vs ws k = cc (k)
  skips s (r ∷ rest) (x ∷ xs) ws bs e h is open_is =
      let k = skips s rest xs ws bs e h.1 (cc (is)) open_is in
      let here : x ≡ r = cc (is) in
      record { later = k.later; front_is = ap (λ (z : Entry). z ∷ xs) here ∙ ap (λ (l : List Entry). r ∷ l) k.front_is; parts = k.parts }

  -- the connection that an opening among the entries of a first pass begins
  pub record Begins (n : ℕ) (done kept : List Entry) (links : List X) (xs : List Entry) : Type 0 where
    pub front : List X
    pub link : X
    pub behind : List X
    pub parts : links ≡ front ++ link ∷ behind
    pub entries_are : xs ≡ flat_map one front
    pub opened : IsOpened session one other n (done ++ flat_map one front) kept link

  begins_later : (n : ℕ) (done kept : List Entry) (y : X) (links : List X) (xs later : List Entry) → xs ≡ one y ++ later → Begins n (done ++ one y) kept links later → Begins n done kept (y ∷ links) xs
  begins_later n done kept y links xs later is b = record {
    front = y ∷ b.front;
    link = b.link;
    behind = b.behind;
    parts = ap (λ (l : List X). y ∷ l) b.parts;
    entries_are = is ∙ ap (λ (l : List Entry). one y ++ l) b.entries_are;
    opened = subst (λ (d : List Entry). IsOpened session one other n d kept b.link) (front_then done y b.front) b.opened;
  }

  pub begins_at : (n : ℕ) (done kept : List Entry) (links : List X) (xs bs : List Entry) (e : Entry) → Chain session one other n done kept links → flat_map one links ≡ xs ++ e ∷ bs → e.event ≡ open_session
      → Begins n done kept links xs
  begins_at n done kept [] [] bs e h is open_is = absurd (cc (is))
  begins_at n done kept [] (x ∷ xs) bs e h is open_is = absurd (cc (is))
  begins_at n done kept (y ∷ links) xs bs e h is open_is =
      by_kind xs is h.0 (λ later k. begins_at n (done ++ one y) kept links later bs e h.1 k open_is)
    where
      by_place : (o : IsOpened session one other n done kept y) (xs : List Entry) → (opening_entry n ∷ o.rest) ++ flat_map one links ≡ xs ++ e ∷ bs → ((later : List Entry) → flat_map one links ≡ later ++ e ∷ bs → Begins n (done ++ one y) kept links later)
          → Begins n done kept (y ∷ links) xs
      by_place o [] is on = record {
        front = [];
        link = y;
        behind = links;
        parts = refl;
        entries_are = refl;
        opened = subst (λ (d : List Entry). IsOpened session one other n d kept y) (sym (append-nil done)) o;
      }
      by_place o (x ∷ xs) is on =
          let k = skips (session y) o.rest xs (flat_map one links) bs e o.each_one (cc (is)) open_is in
          let here : x ≡ opening_entry n = cc (is) in
          let front_is : x ∷ xs ≡ one y ++ k.later =
          ap (λ (z : Entry). z ∷ xs) here ∙ ap (λ (l : List Entry). opening_entry n ∷ l) k.front_is ∙ ap (λ (l : List Entry). l ++ k.later) (sym o.one_is) in
          begins_later n done kept y links (x ∷ xs) k.later front_is (on k.later k.parts)

      by_kind : (xs : List Entry) → one y ++ flat_map one links ≡ xs ++ e ∷ bs → IsIdle session one other y ⊎ IsOpened session one other n done kept y
          → ((later : List Entry) → flat_map one links ≡ later ++ e ∷ bs → Begins n (done ++ one y) kept links later) → Begins n done kept (y ∷ links) xs
      by_kind xs is (inl idle) on =
          let none : flat_map one links ≡ xs ++ e ∷ bs = ap (λ (l : List Entry). l ++ flat_map one links) (sym idle.one_is) ∙ is in
          begins_later n done kept y links xs xs (ap (λ (l : List Entry). l ++ xs) (sym idle.one_is)) (on xs none)
      by_kind xs is (inr o) on = by_place o xs (ap (λ (l : List Entry). l ++ flat_map one links) (sym o.one_is) ∙ is) on

-- ---- all lanes

module _ {X : Type 0} (session : X → ℕ) (one other : X → List Entry) (count : ℕ) (kept : List Entry) (lanes : ℕ → List X)
    (each : (i : ℕ) → i < count → IsLane session one other (first_number i) (second_number i) kept kept (lanes i)) (called : (e : Entry) → In e kept → HasLaneCaller count e) where
  -- a connection that has a session
  pub opened_at : (i : ℕ) → i < count → (front behind : List X) (x : X) → lanes i ≡ front ++ x ∷ behind → (IsIdle session one other x → ⊥) → IsOpened session one other (first_number i) (flat_map one front) kept x
  opened_at i below front behind x is busy = chain_opened session one other (first_number i) kept (lanes i) front behind x (each i below).chain is busy

  -- no two connections have one session
  pub apart : (i j : ℕ) → i < count → j < count → (f b g d : List X) (x y : X) → lanes i ≡ f ++ x ∷ b → lanes j ≡ g ++ y ∷ d → session x ≢ 0 → session y ≡ session x → (i ≡ j) × (length f ≡ length g)
  apart i j p q f b g d x y at_x at_y some same =
      let ox = opened_at i p f b x at_x (λ idle. some idle.session_is) in
      let oy = opened_at j q g d y at_y (λ idle. some (sym same ∙ idle.session_is)) in
      let place = one_place session one other (first_number i) (first_number j) (flat_map one f) (flat_map one g) kept x y ox oy same in
      let number : first_number i ≡ first_number j = place.number in
      let lane : i ≡ j = omega (arith, number) in
      let parts : f ++ x ∷ b ≡ g ++ y ∷ d = sym at_x ∙ ap lanes lane ∙ at_y in
      (lane, same_length session one other f g b d x y parts (ap length place.done_is) (some_one session one other (first_number i) (flat_map one f) kept x ox) (some_one session one other (first_number j) (flat_map one g) kept y oy))

  -- the connection that made an entry, by the pass that did
  record Made (part : X → List Entry) (e : Entry) (i : ℕ) : Type 0 where
    below : i < count
    place : MadeIn session one other part (lanes i) e
    opened : IsOpened session one other (first_number i) (flat_map one place.front) kept place.link

  nothing_in : (e : Entry) (xs : List Entry) → xs ≡ [] → In e xs → ⊥
  nothing_in e xs none i = subst (λ (l : List Entry). In e l) none i

  made_by_first : (e : Entry) (i : ℕ) → i < count → In e kept → e.caller ≡ first_number i → Made one e i
  made_by_first e i below inside caller =
      let m = made_in session one other one (lanes i) e (subst (λ (l : List Entry). In e l) (each i below).own_one (in_own (first_number i) e kept caller inside)) in
      record { below = below; place = m; opened = opened_at i below m.front m.behind m.link m.parts (λ idle. nothing_in e (one m.link) idle.one_is m.made) }

  made_by_second : (e : Entry) (i : ℕ) → i < count → In e kept → e.caller ≡ second_number i → Made other e i
  made_by_second e i below inside caller =
      let m = made_in session one other other (lanes i) e (subst (λ (l : List Entry). In e l) (each i below).own_other (in_own (second_number i) e kept caller inside)) in
      record { below = below; place = m; opened = opened_at i below m.front m.behind m.link m.parts (λ idle. nothing_in e (other m.link) idle.other_is m.made) }

  -- what an entry of a first pass is
  first_is : (e : Entry) (i : ℕ) → (m : Made one e i) → (e.event ≡ open_session) ⊎ IsFromReader (session m.place.link) e.event
  first_is e i m =
      ⊎_elim (λ here. inl (ap (λ (z : Entry). z.event) (sym here))) (λ later. inr (each_in (IsFromReader (session m.place.link)) m.opened.rest e m.opened.each_one later))
      (subst (λ (l : List Entry). In e l) m.opened.one_is m.place.made)

  second_is : (e : Entry) (i : ℕ) → (m : Made other e i) → IsFromWriter (session m.place.link) e.event
  second_is e i m = each_in (IsFromWriter (session m.place.link)) (other m.place.link) e m.opened.each_other m.place.made

  -- ---- whose an entry is

  pub record Owned (s : ℕ) : Type 0 where
    pub lane : ℕ
    pub below : lane < count
    pub front : List X
    pub link : X
    pub behind : List X
    pub parts : lanes lane ≡ front ++ link ∷ behind
    pub session_is : session link ≡ s

  owned_by : (part : X → List Entry) (e : Entry) (i s : ℕ) → (m : Made part e i) → s ≡ session m.place.link → Owned s
  owned_by part e i s m is = record { lane = i; below = m.below; front = m.place.front; link = m.place.link; behind = m.place.behind; parts = m.place.parts; session_is = sym is }

  -- an opening
  owned_open : (i : ℕ) → i < count → (xs ys : List Entry) (e : Entry) → kept ≡ xs ++ e ∷ ys → e.caller ≡ first_number i → e.event ≡ open_session → Owned (suc (opened_in 0 xs))
  owned_open i below xs ys e is caller open_is =
      let n = first_number i in
      let own_is : flat_map one (lanes i) ≡ own n xs ++ e ∷ own n ys = sym (each i below).own_one ∙ ap (own n) is ∙ own_middle n xs ys e caller in
      let b = begins_at session one other n [] kept (lanes i) (own n xs) (own n ys) e (each i below).chain own_is open_is in
      let place : b.opened.found ++ opening_entry n ∷ b.opened.place.0 ≡ xs ++ e ∷ ys = opening_place session one other n b.opened.found kept b.opened.place ∙ is in
      let same : own n b.opened.found ≡ own n xs = b.opened.own_is ∙ sym b.entries_are in
      let here : b.opened.found ≡ xs = same_place (λ (z : Entry). z.caller == n) b.opened.found xs b.opened.place.0 ys (opening_entry n) e place (eq-eqb n n refl) (eq-eqb e.caller n caller) (ap length same) in
      record { lane = i; below = below; front = b.front; link = b.link; behind = b.behind; parts = b.parts; session_is = b.opened.session_is ∙ ap (λ (l : List Entry). suc (opened_in 0 l)) here }

  -- each entry is one of a connection
  pub owner : (xs ys : List Entry) (e : Entry) → kept ≡ xs ++ e ∷ ys → Owned (session_in (opened_in 0 xs) e.event)
  owner xs ys e is =
      let inside : In e kept = subst (λ (l : List Entry). In e l) (sym is) (in_middle xs ys e) in
      let c = called e inside in
      let before = opened_in 0 xs in
      ⊎_elim
      (λ caller. let m = made_by_first e c.lane c.below inside caller in
      ⊎_elim (λ open_is. subst (λ (v : Event). Owned (session_in before v)) (sym open_is) (owned_open c.lane c.below xs ys e is caller open_is))
      (λ from. owned_by one e c.lane (session_in before e.event) m (reader_session (session m.place.link) before e.event from)) (first_is e c.lane m))
      (λ caller. let m = made_by_second e c.lane c.below inside caller in owned_by other e c.lane (session_in before e.event) m (writer_session (session m.place.link) before e.event (second_is e c.lane m)))
      c.caller_is

  -- ---- what a session did is what its connection did

  module _ (i : ℕ) (below : i < count) (f b : List X) (x : X) (at_x : lanes i ≡ f ++ x ∷ b) (some : session x ≢ 0) where
    -- only the entries of one of the two passes of a connection give anything
    sole : {B : Type 0} (give : Entry → List B) (part : X → List Entry) (n : ℕ) → own n kept ≡ flat_map part (lanes i) → ((e : Entry) → In e kept → (e.caller == n) ≡ false → give e ≡ [])
        → ((g d : List X) (y : X) → lanes i ≡ g ++ y ∷ d → (length g ≡ length f → ⊥) → (e : Entry) → In e (part y) → give e ≡ []) → flat_map give kept ≡ flat_map give (part x)
    sole give part n own_is elsewhere beside =
        let inside : flat_map give kept ≡ flat_map give (flat_map part (f ++ x ∷ b)) = only give (λ (e : Entry). e.caller == n) kept elsewhere ∙ ap (flat_map give) (own_is ∙ ap (flat_map part) at_x) in
        let parts : flat_map part (f ++ x ∷ b) ≡ flat_map part f ++ (part x ++ flat_map part b) = flat-append part f (x ∷ b) in
        inside ∙ ap (flat_map give) parts ∙ flat-append give (flat_map part f) (part x ++ flat_map part b)
        ∙ ap (λ (l : List _). l ++ flat_map give (part x ++ flat_map part b)) (flat_none give (flat_map part f) before)
        ∙ flat-append give (part x) (flat_map part b)
        ∙ ap (λ (l : List _). flat_map give (part x) ++ l) (flat_none give (flat_map part b) after)
        ∙ append-nil (flat_map give (part x))
      where
        before : (e : Entry) → In e (flat_map part f) → give e ≡ []
        before e h =
            let m = made_in session one other part f e h in
            let at : lanes i ≡ m.front ++ m.link ∷ (m.behind ++ x ∷ b) = at_x ∙ ap (λ (l : List X). l ++ x ∷ b) m.parts ∙ append_assoc m.front (m.link ∷ m.behind) (x ∷ b) in
            let len : length f ≡ length m.front + suc (length m.behind) = ap length m.parts ∙ length-append m.front (m.link ∷ m.behind) in
            beside m.front (m.behind ++ x ∷ b) m.link at (λ e. omega (arith, e, len)) e m.made

        after : (e : Entry) → In e (flat_map part b) → give e ≡ []
        after e h =
            let m = made_in session one other part b e h in
            let at : lanes i ≡ (f ++ x ∷ m.front) ++ m.link ∷ m.behind = at_x ∙ ap (λ (l : List X). f ++ x ∷ l) m.parts ∙ sym (append_assoc f (x ∷ m.front) (m.link ∷ m.behind)) in
            let len : length (f ++ x ∷ m.front) ≡ length f + suc (length m.front) = length-append f (x ∷ m.front) in
            beside (f ++ x ∷ m.front) m.behind m.link at (λ e. omega (arith, e, len)) e m.made

    -- a take of its session
    take_is_its : (e : Entry) (j t : ℕ) → (m : Made other e j) → e.event ≡ take_of t → t ≡ session x → (i ≡ j) × (length f ≡ length m.place.front)
    take_is_its e j t m is same =
        let from : t ≡ session m.place.link = subst (λ (v : Event). IsFromWriter (session m.place.link) v) is (second_is e j m) in
        apart i j below m.below f b m.place.front m.place.behind x m.place.link at_x m.place.parts some (sym from ∙ same)

    first_takes_none : (e : Entry) (j t : ℕ) → (m : Made one e j) → e.event ≡ take_of t → ⊥
    first_takes_none e j t m is =
        ⊎_elim (λ open_is. no_take_open t (sym is ∙ open_is)) (λ from. subst (λ (v : Event). IsFromReader (session m.place.link) v) is from) (first_is e j m)
      where
        no_take_open : (t : ℕ) → take_of t ≡ open_session → ⊥
        no_take_open t h = cc (h)

    pub takes_are : takes_by (session x) kept ≡ takes_by (session x) (other x)
    takes_are =
        let p : Entry → Bool = λ (e : Entry). is_take_of (session x) e.event in
        filter_is_flat p kept ∙ sole (if_passes p) other (second_number i) (each i below).own_other elsewhere beside ∙ sym (filter_is_flat p (other x))
      where
        by_caller : (e : Entry) → In e kept → (e.caller == second_number i) ≡ false → (t : ℕ) → e.event ≡ take_of t → t ≡ session x → HasLaneCaller count e → ⊥
        by_caller e inside not_ours t is same c =
            ⊎_elim (λ caller. first_takes_none e c.lane t (made_by_first e c.lane c.below inside caller) is)
            (λ caller. let m = made_by_second e c.lane c.below inside caller in
            let here = take_is_its e c.lane t m is same in
            not_both (eq-eqb e.caller (second_number i) (caller ∙ ap second_number (sym here.0))) not_ours) c.caller_is
          where
            not_both : {p : Bool} → p ≡ true → p ≡ false → ⊥
            not_both h k = cc (h, k)

        elsewhere : (e : Entry) → In e kept → (e.caller == second_number i) ≡ false → if_passes (λ (z : Entry). is_take_of (session x) z.event) e ≡ []
        elsewhere e inside not_ours = takes_none (session x) e.caller e.event (λ t is same. by_caller e inside not_ours t is same (called e inside))

        beside : (g d : List X) (y : X) → lanes i ≡ g ++ y ∷ d → (length g ≡ length f → ⊥) → (e : Entry) → In e (other y) → if_passes (λ (z : Entry). is_take_of (session x) z.event) e ≡ []
        beside g d y at other_place e inside =
            let o = opened_at i below g d y at (λ idle. nothing_in e (other y) idle.other_is inside) in
            takes_none (session x) e.caller e.event
            (λ t is same. other_place (sym (take_is_its e i t (record { below = below; place = record { front = g; link = y; behind = d; parts = at; made = inside }; opened = o }) is same).1))

    -- a call of its session
    call_is_its : (e : Entry) (j t : ℕ) (call : Call) → (m : Made one e j) → e.event ≡ request_of t call → t ≡ session x → (i ≡ j) × (length f ≡ length m.place.front)
    call_is_its e j t call m is same =
        let from : t ≡ session m.place.link =
        ⊎_elim (λ open_is. absurd (no_call_open t call (sym is ∙ open_is))) (λ from. subst (λ (v : Event). IsFromReader (session m.place.link) v) is from) (first_is e j m) in
        apart i j below m.below f b m.place.front m.place.behind x m.place.link at_x m.place.parts some (sym from ∙ same)
      where
        no_call_open : (t : ℕ) (call : Call) → request_of t call ≡ open_session → ⊥
        no_call_open t call h = cc (h)

    second_calls_none : (e : Entry) (j t : ℕ) (call : Call) → (m : Made other e j) → e.event ≡ request_of t call → ⊥
    second_calls_none e j t call m is = subst (λ (v : Event). IsFromWriter (session m.place.link) v) is (second_is e j m)

    pub calls_are : calls_of (session x) kept ≡ calls_of (session x) (one x)
    calls_are = sole (λ (e : Entry). calls_in (session x) e.event) one (first_number i) (each i below).own_one elsewhere beside
      where
        by_caller : (e : Entry) → In e kept → (e.caller == first_number i) ≡ false → (t : ℕ) (call : Call) → e.event ≡ request_of t call → t ≡ session x → HasLaneCaller count e → ⊥
        by_caller e inside not_ours t call is same c =
            ⊎_elim
            (λ caller. let m = made_by_first e c.lane c.below inside caller in
            let here = call_is_its e c.lane t call m is same in
            not_both (eq-eqb e.caller (first_number i) (caller ∙ ap first_number (sym here.0))) not_ours)
            (λ caller. second_calls_none e c.lane t call (made_by_second e c.lane c.below inside caller) is) c.caller_is
          where
            not_both : {p : Bool} → p ≡ true → p ≡ false → ⊥
            not_both h k = cc (h, k)

        elsewhere : (e : Entry) → In e kept → (e.caller == first_number i) ≡ false → calls_in (session x) e.event ≡ []
        elsewhere e inside not_ours = calls_none (session x) e.event (λ t call is same. by_caller e inside not_ours t call is same (called e inside))

        beside : (g d : List X) (y : X) → lanes i ≡ g ++ y ∷ d → (length g ≡ length f → ⊥) → (e : Entry) → In e (one y) → calls_in (session x) e.event ≡ []
        beside g d y at other_place e inside =
            let o = opened_at i below g d y at (λ idle. nothing_in e (one y) idle.one_is inside) in
            calls_none (session x) e.event
            (λ t call is same. other_place (sym (call_is_its e i t call (record { below = below; place = record { front = g; link = y; behind = d; parts = at; made = inside }; opened = o }) is same).1))
