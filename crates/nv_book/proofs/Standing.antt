-- Values that stand at the front of bytes, and the value behind them.
use Rattle.std.proofs.Common.{◌≡◌, ◌⊎◌, ℕ, ◌+◌, ◌<◌, ◌≤◌, List, [], ◌∷◌, ◌++◌, length, Option, None, Some, refl, sym, ap, ap₂, ◌∙◌, subst, arith, append_assoc, append-nil, length-append, inl, inr, ⊎_elim}
use Rattle.std.specs.Prelude.{◌^◌, All}
use Rattle.std.proofs.lemmas.List.Elements.{All-nil, All-append}
use Rattle.std.specs.Io.KnownBytes.{append_known, prepend_known}
use Rattle.nv_value.specs.Content.{Tree, trees_of}
use Rattle.nv_value.specs.View.{content}
use Rattle.nv_value.specs.declared.value.Value.{Value}
use Rattle.nv_msgpack.specs.Spelling.{Each}
use Rattle.nv_msgpack.specs.Reading.{Reading, whole, flawed, value_at}
use Rattle.nv_msgpack.specs.Reading as reading
use Rattle.nv_msgpack.specs.Within.{SpellsWithin, BeginsNone, IsPartial}
use Rattle.nv_msgpack.proofs.Apart.{apart}
use Rattle.nv_msgpack.proofs.Complete.{has_byte-in}
use Rattle.nv_msgpack.proofs.Exact.{reads}
use Rattle.nv_msgpack.proofs.Flaws.{stays}
use Rattle.nv_io.specs.Streams.{Gave}
use Rattle.nv_io.specs.declared.lanes.Flaw.{Flaw}
use Rattle.nv_io.specs.declared.lanes.Flaw.TheVariants.{Bad, TooDeep, TooLong, Inside, NoCall}
use Rattle.nv_stream.specs.State.{State, empty_state, with_piece, behind_value}
use Rattle.nv_stream.specs.Answers.{IsAnswer, IsFlawAt, NeedsMore}
use Rattle.nv_stream.specs.declared.stream.Next.TheVariants.{Value as TheValue, Flaw as TheFlaw}
use Rattle.nv_stream.proofs.Cuts.{ends_none}
use Rattle.nv_book.specs.Books.{most_nested, most_value}
use Rattle.nv_book.specs.Reading.{IsReadOut, HasValues, HasGiven}
use Rattle.nv_book.specs.inside.Intakes.{Intaking, NoneComes, IsDrained, TellsPlace, StopsBehind, StopsFor, NoValue}
use Rattle.nv_book.specs.declared.faults.Unread.{Unread}
use Rattle.nv_book.specs.declared.faults.Unread.TheVariants.{NoMemory, ReadFault, Malformed}
use Rattle.nv_book.proofs.Weights.{in_weight}
use Rattle.nv_args.specs.Weight.{weight}

-- ---- what a source gave

known_none : (o : Option (List ℕ)) → o ≡ append_known o []
known_none None = refl
known_none (Some xs) = ap (λ (l : List ℕ). Some l) (sym (append-nil xs))

known_then : (o : Option (List ℕ)) (a b : List ℕ) → append_known (append_known o a) b ≡ append_known o (a ++ b)
known_then None a b = refl
known_then (Some xs) a b = ap (λ (l : List ℕ). Some l) (append_assoc xs a b)

prepend_then : (a b : List ℕ) (o : Option (List ℕ)) → prepend_known a (prepend_known b o) ≡ prepend_known (a ++ b) o
prepend_then a b None = refl
prepend_then a b (Some xs) = ap (λ (l : List ℕ). Some l) (sym (append_assoc a b xs))

pub gave_none : (taken left : Option (List ℕ)) → Gave taken taken left left []
gave_none taken None = record { taken = known_none taken; left = refl }
gave_none taken (Some xs) = record { taken = known_none taken; left = refl }

pub gave_then : (t u v l m n : Option (List ℕ)) (a b : List ℕ) → Gave t u l m a → Gave u v m n b → Gave t v l n (a ++ b)
gave_then t u v l m n a b p q = record {
  taken = q.taken ∙ ap (λ (o : Option (List ℕ)). append_known o b) p.taken ∙ known_then t a b;
  left = p.left ∙ ap (λ (o : Option (List ℕ)). prepend_known a o) q.left ∙ prepend_then a b n;
}

-- ---- spellings one after another

abbrev pub Spelled : Tree → List ℕ → Type 0
Spelled = SpellsWithin most_nested most_value

spelled_apart : (t u : Tree) (a b x y : List ℕ) → Spelled t a → Spelled u b → a ++ x ≡ b ++ y → (a ≡ b) × (t ≡ u)
spelled_apart t u a b x y p q e = apart t u a b x y (most_nested, p.0) (most_nested, q.0) e

cancel : (a x y : List ℕ) → a ++ x ≡ a ++ y → x ≡ y
cancel [] x y e = e
cancel (h ∷ a) x y e = let r : a ++ x ≡ a ++ y = cc in cancel a x y r

-- the same front is taken away from both
behind_same : (a b x y : List ℕ) → a ≡ b → a ++ x ≡ b ++ y → x ≡ y
behind_same a b x y p e = cancel a x y (e ∙ ap (λ (l : List ℕ). l ++ y) (sym p))

pub each_more : (vs ws : List Tree) (a b : List ℕ) → Each Spelled (trees_of vs) a → Each Spelled (trees_of ws) b → Each Spelled (trees_of (vs ++ ws)) (a ++ b)
each_more [] ws a b e f = subst (λ (l : List ℕ). Each Spelled (trees_of ws) l) (ap (λ (l : List ℕ). l ++ b) (sym e)) f
each_more (v ∷ vs) ws a b e f =
    (e.0, e.1 ++ b, e.2, ap (λ (l : List ℕ). l ++ b) e.3 ∙ append_assoc e.0 e.1 b, each_more vs ws e.1 b e.4 f)

each_one : (t : Tree) (a : List ℕ) → Spelled t a → Each Spelled (trees_of (t ∷ [])) a
each_one t a s = (a, [], s, sym (append-nil a), refl)

-- two rows of values that begin with the same ones: what follows those stands behind them in both
record Behind (ws : List Tree) (x y : List ℕ) : Type 0 where
  pub front : List ℕ
  pub spelled : Each Spelled (trees_of ws) front
  pub split : x ≡ front ++ y

regroup : (a b c d x : List ℕ) → a ≡ b ++ c → a ++ x ≡ d → b ++ (c ++ x) ≡ d
regroup a b c d x p e = sym (append_assoc b c x) ∙ ap (λ (l : List ℕ). l ++ x) (sym p) ∙ e

behind : (vs ws : List Tree) (a b x y : List ℕ) → Each Spelled (trees_of vs) a → Each Spelled (trees_of (vs ++ ws)) b → a ++ x ≡ b ++ y → Behind ws x y
behind [] ws a b x y p q e = record { front = b; spelled = q; split = ap (λ (l : List ℕ). l ++ x) (sym p) ∙ e }
behind (v ∷ vs) ws a b x y p q e =
    let split : p.0 ++ (p.1 ++ x) ≡ q.0 ++ (q.1 ++ y) =
    regroup a p.0 p.1 (q.0 ++ (q.1 ++ y)) x p.3 (sym (regroup b q.0 q.1 (a ++ x) y q.3 (sym e))) in
    let same = spelled_apart v v p.0 q.0 (p.1 ++ x) (q.1 ++ y) p.2 q.2 split in
    behind vs ws p.1 q.1 x y p.4 q.4 (behind_same p.0 q.0 (p.1 ++ x) (q.1 ++ y) same.0 split)

-- all of bytes are spelled by values: they begin with those that stand at the front
pub record Rest (us vs : List Tree) (x : List ℕ) : Type 0 where
  pub more : List Tree
  pub all : us ≡ vs ++ more
  pub spelled : Each Spelled (trees_of more) x

empty_front : (a b : List ℕ) → a ++ b ≡ [] → length a ≡ 0
empty_front [] b e = refl
empty_front (h ∷ a) b e = cc

values_behind : (vs us : List Tree) (a b x : List ℕ) → Each Spelled (trees_of vs) a → Each Spelled (trees_of us) b → a ++ x ≡ b → Rest us vs x
values_behind [] us a b x p q e =
    record { more = us; all = refl; spelled = subst (λ (l : List ℕ). Each Spelled (trees_of us) l) (sym e ∙ ap (λ (l : List ℕ). l ++ x) p) q }
values_behind (v ∷ vs) [] a b x p q e =
    let none : length p.0 ≡ 0 = empty_front p.0 (p.1 ++ x) (regroup a p.0 p.1 b x p.3 e ∙ q) in
    absurd (omega (arith, none, has_byte-in most_nested v p.0 p.2.0))
values_behind (v ∷ vs) (u ∷ us) a b x p q e =
    let split : p.0 ++ (p.1 ++ x) ≡ q.0 ++ q.1 = regroup a p.0 p.1 (q.0 ++ q.1) x p.3 (e ∙ q.3) in
    let same = spelled_apart v u p.0 q.0 (p.1 ++ x) q.1 p.2 q.2 split in
    let r = values_behind vs us p.1 q.1 x p.4 q.4 (behind_same p.0 q.0 (p.1 ++ x) q.1 same.0 split) in
    record { more = r.more; all = ap₂ (λ (t : Tree) (l : List Tree). t ∷ l) (sym same.1) r.all; spelled = r.spelled }

-- ---- values at the front of bytes

pub values_rest : (bytes : List ℕ) (vs us : List Tree) (at : ℕ) (x : List ℕ) → HasValues bytes vs at x → Each Spelled (trees_of us) bytes → Rest us vs x
values_rest bytes vs us at x h q = values_behind vs us h.0 bytes x h.1 q (sym h.2)

pub stand_more : (bytes x : List ℕ) (vs : List Tree) (at : ℕ) (rest : List ℕ) → HasValues bytes vs at rest → HasValues (bytes ++ x) vs at (rest ++ x)
stand_more bytes x vs at rest h = (h.0, h.1, ap (λ (l : List ℕ). l ++ x) h.2 ∙ append_assoc h.0 rest x, h.3)

-- a value follows
record Follows (t : Tree) (rest : List ℕ) : Type 0 where
  pub front : List ℕ
  pub tail : List ℕ
  pub spelled : Spelled t front
  pub split : rest ≡ front ++ tail

follows : (bytes : List ℕ) (vs : List Tree) (t : Tree) (a b : ℕ) (rest tail : List ℕ) → HasValues bytes vs a rest → HasValues bytes (vs ++ t ∷ []) b tail → Follows t rest
follows bytes vs t a b rest tail p q =
    let r = behind vs (t ∷ []) p.0 q.0 rest tail p.1 q.1 (sym p.2 ∙ q.2) in
    let s = r.spelled in
    record {
      front = s.0;
      tail = s.1 ++ tail;
      spelled = s.2;
      split = r.split ∙ ap (λ (l : List ℕ). l ++ tail) s.3 ∙ append_assoc s.0 s.1 tail;
    }

pub one_follows : (bytes : List ℕ) (vs : List Tree) (t u : Tree) (a b c : ℕ) (x y z : List ℕ) → HasValues bytes vs a x → HasValues bytes (vs ++ t ∷ []) b y → HasValues bytes (vs ++ u ∷ []) c z → t ≡ u
one_follows bytes vs t u a b c x y z h p q =
    let f = follows bytes vs t a b x y h p in
    let g = follows bytes vs u a c x z h q in
    (spelled_apart t u f.front g.front f.tail g.tail f.spelled g.spelled (sym f.split ∙ g.split)).1

-- ---- streams

no_flaws : (depth most start : ℕ) (held x : List ℕ) (f : Flaw) → 1 ≤ most → IsFlawAt depth most start held f → BeginsNone depth most (held ++ x)
no_flaws depth most start held x (Bad place) h f t front tail split s =
    let c : flawed reading.bad f.0 ≡ whole t (length front) = sym (stays depth most held x reading.bad f.0 (omega arith) f.2.1) ∙ reads depth most (held ++ x) t front tail split s in cc
no_flaws depth most start held x (TooDeep place) h f t front tail split s =
    let c : flawed reading.too_deep f.0 ≡ whole t (length front) = sym (stays depth most held x reading.too_deep f.0 (omega arith) f.2.1) ∙ reads depth most (held ++ x) t front tail split s in cc
no_flaws depth most start held x (TooLong place) h f t front tail split s =
    let c : flawed reading.too_long f.0 ≡ whole t (length front) = sym (stays depth most held x reading.too_long f.0 (omega arith) f.2.1) ∙ reads depth most (held ++ x) t front tail split s in cc
no_flaws depth most start held x (Inside place) h f t front tail split s = absurd f
no_flaws depth most start held x (NoCall place) h f t front tail split s = absurd f

partial_held : (depth most : ℕ) (held : List ℕ) (s : State) → s.depth ≡ depth → s.most ≡ most → s.held ≡ held → 0 < length held → NeedsMore s → IsPartial depth most held
partial_held depth most held s d m e l n =
    ⊎_elim (λ z. absurd (omega (arith, ap (length {A = ℕ}) z, ap (length {A = ℕ}) e)))
    (λ p. subst (λ (x : ℕ). IsPartial x most held) d (subst (λ (x : ℕ). IsPartial s.depth x held) m (subst (λ (x : List ℕ). IsPartial s.depth s.most x) e p))) n

needs_none : (depth most : ℕ) (held : List ℕ) (s : State) → 1 ≤ most → s.depth ≡ depth → s.most ≡ most → s.held ≡ held → NeedsMore s → BeginsNone depth most held
needs_none depth most [] s h d m e n = ends_none depth most 0 [] None h refl
needs_none depth most (x ∷ xs) s h d m e n = ends_none depth most 0 (x ∷ xs) (Some (Inside 0)) h (refl, omega arith, partial_held depth most (x ∷ xs) s d m e (omega arith) n)

pub given_fresh : HasGiven [] [] 0 (empty_state most_nested most_value)
given_fresh = record { stand = ([], refl, refl, refl); all = refl; small = All-nil (λ (b : ℕ). b < 256); depth_is = refl; most_is = refl; no_flaw = refl }

pub given_more : (bytes x : List ℕ) (vs : List Tree) (taken later : ℕ) (old new : State) → HasGiven bytes vs taken old → new ≡ with_piece old x → later ≡ taken + length x → All (λ b. b < 256) x → HasGiven (bytes ++ x) vs later new
given_more bytes x vs taken later old new h e n small =
    subst (λ (s : State). HasGiven (bytes ++ x) vs later s) (sym e) (record {
      stand = stand_more bytes x vs old.start old.held h.stand;
      all = n ∙ ap (λ (k : ℕ). k + length x) h.all ∙ sym (length-append bytes x);
      small = All-append (λ (b : ℕ). b < 256) bytes x h.small small;
      depth_is = h.depth_is;
      most_is = h.most_is;
      no_flaw = h.no_flaw;
    })

stand_value : (bytes : List ℕ) (vs : List Tree) (t : Tree) (at : ℕ) (front rest held : List ℕ) → HasValues bytes vs at held → Spelled t front → held ≡ front ++ rest → HasValues bytes (vs ++ t ∷ []) (at + length front) rest
stand_value bytes vs t at front rest held h s e = (
  h.0 ++ front,
  each_more vs (t ∷ []) h.0 front h.1 (each_one t front s),
  h.2 ∙ ap (λ (l : List ℕ). h.0 ++ l) e ∙ sym (append_assoc h.0 front rest),
  ap (λ (k : ℕ). k + length front) h.3 ∙ sym (length-append h.0 front),
)

pub given_value : (bytes : List ℕ) (vs : List Tree) (taken : ℕ) (v : Value) (old new : State) → HasGiven bytes vs taken old → IsAnswer (TheValue v) old new → HasGiven bytes (vs ++ content v ∷ []) taken new
given_value bytes vs taken v old new h a =
    let spelled : Spelled (content v) a.0 = subst (λ (d : ℕ). SpellsWithin d most_value (content v) a.0) h.depth_is (subst (λ (m : ℕ). SpellsWithin old.depth m (content v) a.0) h.most_is a.2) in
    subst (λ (s : State). HasGiven bytes (vs ++ content v ∷ []) taken s) (sym a.4) (record {
      stand = stand_value bytes vs (content v) old.start a.0 new.held old.held h.stand spelled a.3;
      all = h.all;
      small = h.small;
      depth_is = h.depth_is;
      most_is = h.most_is;
      no_flaw = h.no_flaw;
    })

-- ---- where no value follows

pub read_out : (taken : ℕ) (left : Option (List ℕ)) (bytes : List ℕ) → taken ≡ length bytes → NoneComes taken left → IsReadOut left bytes
read_out taken left bytes e n = subst (λ (k : ℕ). NoneComes k left) e n

pub drained_out : (taken : ℕ) (left : Option (List ℕ)) (bytes x : List ℕ) → taken ≡ length bytes → NoneComes (taken + length x) left → IsReadOut left (bytes ++ x)
drained_out taken left bytes x e n = read_out (taken + length x) left (bytes ++ x) (ap (λ (k : ℕ). k + length x) e ∙ sym (length-append bytes x)) n

stops_none : (bytes : List ℕ) (left : Option (List ℕ)) (vs : List Tree) (at : ℕ) (rest : List ℕ) → IsReadOut left bytes → HasValues bytes vs at rest → BeginsNone most_nested most_value rest → StopsBehind bytes left vs at NoValue
stops_none bytes left vs at rest out h none = record {
  read_out = out;
  behind = rest;
  stand = h;
  next = λ t n tail k. let f = follows bytes vs t at n rest tail h k in none t f.front f.tail f.split f.spelled;
}

-- the value is cut or missing
pub stops_cut : (bytes : List ℕ) (left : Option (List ℕ)) (vs : List Tree) (taken : ℕ) (s : State) → HasGiven bytes vs taken s → NeedsMore s → NoneComes taken left → StopsBehind bytes left vs s.start NoValue
stops_cut bytes left vs taken s h n out =
    stops_none bytes left vs s.start s.held (read_out taken left bytes h.all out) h.stand (needs_none most_nested most_value s.held s (omega arith) h.depth_is h.most_is refl n)

-- the bytes stop being values
pub stops_flaw : (bytes x : List ℕ) (left : Option (List ℕ)) (vs : List Tree) (taken : ℕ) (s : State) (f : Flaw) → HasGiven bytes vs taken s → IsFlawAt s.depth s.most s.start s.held f → NoneComes (taken + length x) left
    → StopsBehind (bytes ++ x) left vs s.start NoValue
stops_flaw bytes x left vs taken s f h flaw out =
    stops_none (bytes ++ x) left vs s.start (s.held ++ x) (drained_out taken left bytes x h.all out) (stand_more bytes x vs s.start s.held h.stand)
    (no_flaws most_nested most_value s.start s.held x f (omega arith) (subst (λ (d : ℕ). IsFlawAt d most_value s.start s.held f) h.depth_is (subst (λ (m : ℕ). IsFlawAt s.depth m s.start s.held f) h.most_is flaw)))

-- the value that follows is this one
pub stops_value : (fed a b : List ℕ) (left : Option (List ℕ)) (vs : List Tree) (t : Tree) (place taken : ℕ) (rest : List ℕ) (s : State) → HasValues fed vs place rest → HasGiven (fed ++ a) (vs ++ t ∷ []) taken s → NoneComes (taken + length b) left
    → StopsBehind (fed ++ (a ++ b)) left vs place (λ u. u ≡ t)
stops_value fed a b left vs t place taken rest s here h out =
    let all : fed ++ (a ++ b) ≡ (fed ++ a) ++ b = sym (append_assoc fed a b) in
    let stand : HasValues ((fed ++ a) ++ b) vs place ((rest ++ a) ++ b) = stand_more (fed ++ a) b vs place (rest ++ a) (stand_more fed a vs place rest here) in
    let one : HasValues ((fed ++ a) ++ b) (vs ++ t ∷ []) s.start (s.held ++ b) = stand_more (fed ++ a) b (vs ++ t ∷ []) s.start s.held h.stand in
    subst (λ (l : List ℕ). StopsBehind l left vs place (λ (u : Tree). u ≡ t)) (sym all) (record {
      read_out = drained_out taken left (fed ++ a) b h.all out;
      behind = (rest ++ a) ++ b;
      stand = stand;
      next = λ u n tail k. one_follows ((fed ++ a) ++ b) vs u t place n s.start ((rest ++ a) ++ b) tail (s.held ++ b) stand k one;
    })

-- ---- as a call tells it

pub given_by : (bytes : List ℕ) (vs : List Tree) (a b : ℕ) (s t : State) → HasGiven bytes vs a s → a ≡ b → s ≡ t → HasGiven bytes vs b t
given_by bytes vs a b s t h e f = subst (λ (n : ℕ). HasGiven bytes vs n t) e (subst (λ (x : State). HasGiven bytes vs a x) f h)

pub given_still : (bytes : List ℕ) (vs : List Tree) (a : ℕ) (s : State) → HasGiven bytes vs a s → HasGiven (bytes ++ []) vs a s
given_still bytes vs a s h = subst (λ (l : List ℕ). HasGiven l vs a s) (sym (append-nil bytes)) h

pub value_light : (v : Value) (old new : State) → IsAnswer (TheValue v) old new → old.most ≡ most_value → weight (content v) ≤ most_value
value_light v old new a e = omega (arith, in_weight old.depth (content v) a.0 a.2.0, a.2.1, e)

flaw_there : (f : Flaw) (old new : State) → IsAnswer (TheFlaw f) old new → old.flaw ≡ None → IsFlawAt old.depth old.most old.start old.held f
flaw_there f old new a n = ⊎_elim (λ e. absurd (let c : Some f ≡ None = sym e ∙ n in cc)) (λ p. p.1) a.1

pub told_flaw : (fed x : List ℕ) (left : Option (List ℕ)) (vs : List Tree) (place : ℕ) (s new : State) (f : Flaw) (o : Intaking) (fault : Unread) → HasGiven fed vs o.taken s → IsAnswer (TheFlaw f) s new → place ≡ s.start
    → TellsPlace x left place o fault → StopsFor (fed ++ x) left vs NoValue fault
told_flaw fed x left vs place s new f o NoMemory h a e t = tt
told_flaw fed x left vs place s new f o ReadFault h a e t = tt
told_flaw fed x left vs place s new f o (Malformed n) h a e t =
    subst (λ (k : ℕ). StopsBehind (fed ++ x) left vs k NoValue) (sym (t.0 ∙ e))
    (stops_flaw fed x left vs o.taken s f h (flaw_there f s new a h.no_flaw) t.1)

pub told_value : (fed a b : List ℕ) (left : Option (List ℕ)) (vs : List Tree) (t : Tree) (place : ℕ) (rest : List ℕ) (o : Intaking) (Next : Tree → Type 0) (fault : Unread) → HasValues fed vs place rest
    → HasGiven (fed ++ a) (vs ++ t ∷ []) o.taken o.stream → Next t → TellsPlace b left place o fault → StopsFor (fed ++ (a ++ b)) left vs Next fault
told_value fed a b left vs t place rest o Next NoMemory here h w told = tt
told_value fed a b left vs t place rest o Next ReadFault here h w told = tt
told_value fed a b left vs t place rest o Next (Malformed n) here h w told =
    let s = stops_value fed a b left vs t place o.taken rest o.stream here h told.1 in
    subst (λ (k : ℕ). StopsBehind (fed ++ (a ++ b)) left vs k Next) (sym told.0) (record {
      read_out = s.read_out;
      behind = s.behind;
      stand = s.stand;
      next = λ u at tail k. subst Next (sym (s.next u at tail k)) w;
    })

pub told_err : (x : List ℕ) (left : Option (List ℕ)) (place : ℕ) (o : Intaking) (fault : Unread) → ((n : ℕ) → fault ≡ Malformed n → ⊥) → TellsPlace x left place o fault
told_err x left place o NoMemory h = tt
told_err x left place o ReadFault h = tt
told_err x left place o (Malformed n) h = absurd (h n refl)

-- what stops behind bytes that came in two parts
pub stops_for : (a b c : List ℕ) (left : Option (List ℕ)) (vs : List Tree) (Next : Tree → Type 0) (fault : Unread) → StopsFor ((a ++ b) ++ c) left vs Next fault → StopsFor (a ++ (b ++ c)) left vs Next fault
stops_for a b c left vs Next fault h = subst (λ (l : List ℕ). StopsFor l left vs Next fault) (append_assoc a b c) h

pub given_for : (a b c : List ℕ) (vs : List Tree) (n : ℕ) (s : State) → HasGiven ((a ++ b) ++ c) vs n s → HasGiven (a ++ (b ++ c)) vs n s
given_for a b c vs n s h = subst (λ (l : List ℕ). HasGiven l vs n s) (append_assoc a b c) h

-- an intake as its call sees it, and by its parts
pub as_inside : (bytes : List ℕ) (vs : List Tree) (a : ℕ) (s t : State) (x : Intaking) → HasGiven bytes vs x.taken x.stream → record { taken = a; stream = s } ≡ x → t ≡ s → HasGiven bytes vs a t
as_inside bytes vs a s t x h v e =
    given_by bytes vs x.taken a x.stream t h (sym (ap (λ (y : Intaking). y.taken) v)) (sym (ap (λ (y : Intaking). y.stream) v) ∙ sym e)

pub stops_any : (bytes : List ℕ) (left : Option (List ℕ)) (vs : List Tree) (Next : Tree → Type 0) (fault : Unread) → StopsFor bytes left vs NoValue fault → StopsFor bytes left vs Next fault
stops_any bytes left vs Next NoMemory h = tt
stops_any bytes left vs Next ReadFault h = tt
stops_any bytes left vs Next (Malformed n) h =
    record { read_out = h.read_out; behind = h.behind; stand = h.stand; next = λ t at rest k. absurd (h.next t at rest k) }

pub here : (bytes : List ℕ) (vs : List Tree) (taken place : ℕ) (s : State) → HasGiven bytes vs taken s → place ≡ s.start → HasValues bytes vs place s.held
here bytes vs taken place s h e = subst (λ (n : ℕ). HasValues bytes vs n s.held) (sym e) h.stand

-- the first of what follows stands there
pub record StandsNext (bytes : List ℕ) (vs : List Tree) : Type 0 where
  pub at : ℕ
  pub rest : List ℕ
  pub stand : HasValues bytes vs at rest

pub stand_rest : (bytes : List ℕ) (vs : List Tree) (t : Tree) (more : List Tree) (n : ℕ) (behind : List ℕ) → HasValues bytes vs n behind → Each Spelled (trees_of (t ∷ more)) behind → StandsNext bytes (vs ++ t ∷ [])
stand_rest bytes vs t more n behind h e =
    record { at = n + length e.0; rest = e.1; stand = stand_value bytes vs t n e.0 e.1 behind h e.2 e.3 }
