-- Bytes that wait and go out piece by piece, joined.
use Rattle.std.proofs.Common.{◌≡◌, ℕ, zero, suc, ◌+◌, ◌≤◌, List, [], ◌∷◌, ◌++◌, take, length, Option, Some, None, refl, sym, ap, subst, ◌∙◌, append_assoc, append-nil, arith}
use Rattle.std.specs.Io.KnownBytes.{append_known}
use Rattle.std.specs.Prelude.{OnOk, OnErr, Result, Ok, Err}
use Rattle.nv_io.specs.Faults.{Rose}
use Rattle.nv_speech.specs.Flows.{FlowsOut, IsFrontOut}

-- nothing more went out
pub known_none : (known : Option (List ℕ)) → known ≡ append_known known []
known_none None = refl
known_none (Some bytes) = ap Some (sym (append-nil bytes))

-- what went out in two parts
pub known_then : (known : Option (List ℕ)) (a b : List ℕ) → append_known (append_known known a) b ≡ append_known known (a ++ b)
known_then None a b = refl
known_then (Some bytes) a b = ap Some (append_assoc bytes a b)

-- the first bytes, up to some in the second part
pub take_behind : (a b : List ℕ) (n : ℕ) → take (length a + n) (a ++ b) ≡ a ++ take n b
take_behind [] b n = let e : length {A = ℕ} [] + n ≡ n = omega arith in ap (λ (k : ℕ). take k b) e
take_behind (x ∷ a) b n =
    let e : length (x ∷ a) + n ≡ suc (length a + n) = omega arith in
    ap (λ (k : ℕ). take k (x ∷ a ++ b)) e ∙ ap (λ (l : List ℕ). x ∷ l) (take_behind a b n)

pub front_same : (before after : Option (List ℕ)) (bytes same : List ℕ) → IsFrontOut before after bytes → bytes ≡ same → IsFrontOut before after same
front_same before after bytes same a e = subst (λ (l : List ℕ). IsFrontOut before after l) e a

pub front_told : (before after : Option (List ℕ)) (bytes same : List ℕ) → bytes ≡ same → IsFrontOut before after bytes → IsFrontOut before after same
front_told before after bytes same e a = front_same before after bytes same a e

-- bytes were added, and none was written
pub only_waits : (known : Option (List ℕ)) (waited added waits : List ℕ) → waits ≡ waited ++ added → FlowsOut known known waited added waits
only_waits known waited added waits e = record { front = []; written = known_none known; all = e }

-- nothing was added, and all was written
pub all_written : (before after : Option (List ℕ)) (bytes waited waits : List ℕ) → after ≡ append_known before bytes → bytes ≡ waited → waits ≡ []
    → FlowsOut before after waited [] waits
all_written before after bytes waited waits e same none =
    record { front = waited; written = e ∙ ap (append_known before) same; all = ap (λ (l : List ℕ). waited ++ l) none }

-- one after the other
pub goes_then : (before middle after : Option (List ℕ)) (waited first between second waits : List ℕ) → FlowsOut before middle waited first between
    → FlowsOut middle after between second waits → FlowsOut before after waited (first ++ second) waits
goes_then before middle after waited first between second waits a b = record {
  front = a.front ++ b.front;
  written = b.written ∙ ap (λ (o : Option (List ℕ)). append_known o b.front) a.written ∙ known_then before a.front b.front;
  all =
      append_assoc a.front b.front waits
      ∙ ap (λ (l : List ℕ). a.front ++ l) b.all
      ∙ sym (append_assoc a.front between second)
      ∙ ap (λ (l : List ℕ). l ++ second) a.all
      ∙ append_assoc waited first second;
}

-- what was added, and what it was added to, told otherwise
pub goes_same : (before after : Option (List ℕ)) (waited added waited2 added2 waits : List ℕ) → FlowsOut before after waited added waits
    → waited ++ added ≡ waited2 ++ added2 → FlowsOut before after waited2 added2 waits
goes_same before after waited added waited2 added2 waits a e = record { front = a.front; written = a.written; all = a.all ∙ e }

-- bytes more that wait
pub goes_more : (before after : Option (List ℕ)) (waited added waits more later : List ℕ) → FlowsOut before after waited added waits
    → later ≡ waits ++ more → FlowsOut before after waited (added ++ more) later
goes_more before after waited added waits more later a e = record {
  front = a.front;
  written = a.written;
  all =
      ap (λ (l : List ℕ). a.front ++ l) e
      ∙ sym (append_assoc a.front waits more)
      ∙ ap (λ (l : List ℕ). l ++ more) a.all
      ∙ append_assoc waited added more;
}

-- bytes were put, and then some written
pub put_goes : (before after : Option (List ℕ)) (waited added put waits : List ℕ) → put ≡ waited ++ added → FlowsOut before after put [] waits
    → FlowsOut before after waited added waits
put_goes before after waited added put waits e a = goes_same before after put [] waited added waits a (append-nil put ∙ e)

-- some written at the end
pub goes_flush : (before middle after : Option (List ℕ)) (waited added between waits : List ℕ) → FlowsOut before middle waited added between
    → FlowsOut middle after between [] waits → FlowsOut before after waited added waits
goes_flush before middle after waited added between waits a b =
    goes_same before after waited (added ++ []) waited added waits (goes_then before middle after waited added between [] waits a b)
    (ap (λ (l : List ℕ). waited ++ l) (append-nil added))

-- some, and then a front of what follows
pub goes_cut : (before middle after : Option (List ℕ)) (waited first between rest : List ℕ) → FlowsOut before middle waited first between
    → IsFrontOut middle after (between ++ rest) → IsFrontOut before after (waited ++ (first ++ rest))
goes_cut before middle after waited first between rest a b =
    let all : a.front ++ (between ++ rest) ≡ waited ++ (first ++ rest) =
    sym (append_assoc a.front between rest) ∙ ap (λ (l : List ℕ). l ++ rest) a.all ∙ append_assoc waited first rest in
    record {
      count = length a.front + b.count;
      written =
          b.written
          ∙ ap (λ (o : Option (List ℕ)). append_known o (take b.count (between ++ rest))) a.written
          ∙ known_then before a.front (take b.count (between ++ rest))
          ∙ ap (append_known before) (sym (take_behind a.front (between ++ rest) b.count))
          ∙ ap (λ (l : List ℕ). append_known before (take (length a.front + b.count) l)) all;
    }

-- some, and then a front of what waits
pub flush_cut : (before middle after : Option (List ℕ)) (waited added between : List ℕ) → FlowsOut before middle waited added between
    → IsFrontOut middle after between → IsFrontOut before after (waited ++ added)
flush_cut before middle after waited added between a b =
    front_same before after _ _
    (goes_cut before middle after waited added between [] a (front_same middle after _ _ b (sym (append-nil between))))
    (ap (λ (l : List ℕ). waited ++ l) (append-nil added))

-- nothing more
pub none_out : (known : Option (List ℕ)) (bytes : List ℕ) → IsFrontOut known known bytes
none_out known bytes = record { count = 0; written = known_none known }

-- a front of some is one of more
pub front_more : (before after : Option (List ℕ)) (bytes more : List ℕ) → IsFrontOut before after bytes → IsFrontOut before after (bytes ++ more)
front_more before after bytes more a = record {
  count = length (take a.count bytes);
  written = a.written ∙ ap (append_known before) (take_front bytes more a.count);
}
  where
    take_front : (xs ys : List ℕ) (n : ℕ) → take n xs ≡ take (length (take n xs)) (xs ++ ys)
    take_front xs ys zero = refl
    take_front [] ys (suc n) = refl
    take_front (x ∷ xs) ys (suc n) = ap (λ (l : List ℕ). x ∷ l) (take_front xs ys n)

-- ---- bytes of several, one after another

-- of all bytes some were added to those that waited, and the rest is still to be
pub record IsGoing (before after : Option (List ℕ)) (waited waits rest all : List ℕ) : Type 0 where
  pub added : List ℕ
  pub out : FlowsOut before after waited added waits
  pub parts : added ++ rest ≡ all

pub going_begins : (known : Option (List ℕ)) (waited rest all : List ℕ) → rest ≡ all → IsGoing known known waited waited rest all
going_begins known waited rest all e = record { added = []; out = only_waits known waited [] waited (sym (append-nil waited)); parts = e }

-- one more of them
pub going_on : (before middle after : Option (List ℕ)) (waited between waits one rest all left : List ℕ) → IsGoing before middle waited between left all
    → left ≡ one ++ rest → FlowsOut middle after between one waits → IsGoing before after waited waits rest all
going_on before middle after waited between waits one rest all left h e g = record {
  added = h.added ++ one;
  out = goes_then before middle after waited h.added between one waits h.out g;
  parts = append_assoc h.added one rest ∙ ap (λ (l : List ℕ). h.added ++ l) (sym e) ∙ h.parts;
}

-- none is left
pub going_ends : (before after : Option (List ℕ)) (waited waits rest all : List ℕ) → IsGoing before after waited waits rest all → rest ≡ []
    → FlowsOut before after waited all waits
going_ends before after waited waits rest all h none =
    let whole : h.added ≡ all = sym (append-nil h.added) ∙ ap (λ (l : List ℕ). h.added ++ l) (sym none) ∙ h.parts in
    record { front = h.out.front; written = h.out.written; all = h.out.all ∙ ap (λ (l : List ℕ). waited ++ l) whole }

-- a front of the next one went out, and no more
pub going_cut : (before middle after : Option (List ℕ)) (waited between one rest all left : List ℕ) → IsGoing before middle waited between left all
    → left ≡ one ++ rest → IsFrontOut middle after (between ++ one) → IsFrontOut before after (waited ++ all)
going_cut before middle after waited between one rest all left h e f =
    let more : IsFrontOut middle after ((between ++ one) ++ rest) = front_more middle after (between ++ one) rest f in
    let whole : IsFrontOut before after (waited ++ (h.added ++ (one ++ rest))) =
    goes_cut before middle after waited h.added between (one ++ rest) h.out (front_same middle after _ _ more (append_assoc between one rest)) in
    front_same before after _ _ whole (ap (λ (l : List ℕ). waited ++ l) (ap (λ (l : List ℕ). h.added ++ l) (sym e) ∙ h.parts))

-- a front of the first bytes is one of all
pub front_before : (before after : Option (List ℕ)) (waited first rest : List ℕ) → IsFrontOut before after (waited ++ first)
    → IsFrontOut before after (waited ++ (first ++ rest))
front_before before after waited first rest h =
    front_same before after ((waited ++ first) ++ rest) (waited ++ (first ++ rest)) (front_more before after (waited ++ first) rest h)
    (append_assoc waited first rest)

-- the same, with the first bytes told otherwise
pub front_before_same : (before after : Option (List ℕ)) (waited told first rest : List ℕ) → told ≡ first → IsFrontOut before after (waited ++ told)
    → IsFrontOut before after (waited ++ (first ++ rest))
front_before_same before after waited told first rest e h =
    front_before before after waited first rest
    (front_same before after (waited ++ told) (waited ++ first) h (ap (λ (l : List ℕ). waited ++ l) e))

-- what was cleared first
pub begun_empty : (before after : Option (List ℕ)) (cleared bytes : List ℕ) → cleared ≡ [] → IsFrontOut before after (cleared ++ bytes) → IsFrontOut before after bytes
begun_empty before after cleared bytes none h = front_same before after (cleared ++ bytes) bytes h (ap (λ (l : List ℕ). l ++ bytes) none)

pub cut_front : (before after : Option (List ℕ)) (bytes : List ℕ) → IsFrontOut before after bytes → (count : ℕ) × (after ≡ append_known before (take count bytes))
cut_front before after bytes h = (h.count, h.written)

-- ---- facts under a result

pub ok_goes : {T E P Q : Type 0} (r : Result T E) → (P → Q) → OnOk r P → OnOk r Q
ok_goes (Ok x) f h = f h
ok_goes (Err e) f h = tt

pub err_front : {T E P Q : Type 0} (r : Result T E) → (P → Q) → OnErr r P → OnErr r Q
err_front (Ok x) f h = tt
err_front (Err e) f h = f h

-- a step that failed was passed on: nothing is said of what it would have given
pub passed_none : {T E : Type 0} (P : Type 0) (r : Result T E) (end : E) → r ≡ Err end → OnOk r P
passed_none {T} {E} P r end e = subst (λ (x : Result T E). OnOk x P) (sym e) tt

-- an error of a step that was passed on
pub passed_on : {T E P Q : Type 0} (r : Result T E) (end : E) → r ≡ Err end → (P → Q) → P → OnErr r Q
passed_on {T} {E} {P} {Q} r end e f h = subst (λ (x : Result T E). OnErr x Q) (sym e) (f h)

-- a fault that rose behind what was written before
pub rose_after : (before middle after : ℕ) → before ≤ middle → Rose middle after → Rose before after
rose_after before middle after h r = omega (arith, h, r)

-- ---- bytes behind none

-- all that waits was written
pub flows_all : (before middle after : Option (List ℕ)) (waited added waits : List ℕ) → waited ≡ [] → FlowsOut before middle waited added waits → after ≡ append_known middle waits → after ≡ append_known before added
flows_all before middle after waited added waits none a h =
    h
    ∙ ap (λ (o : Option (List ℕ)). append_known o waits) a.written
    ∙ known_then before a.front waits
    ∙ ap (append_known before) (a.all ∙ ap (λ (l : List ℕ). l ++ added) none)

-- a front of it was
pub flows_cut : (before middle after : Option (List ℕ)) (waited added waits : List ℕ) → waited ≡ [] → FlowsOut before middle waited added waits → IsFrontOut middle after waits
    → (count : ℕ) × (after ≡ append_known before (take count added))
flows_cut before middle after waited added waits none a f =
    cut_front before after added (begun_empty before after waited added none (flush_cut before middle after waited added waits a f))

-- a front of what was added went out, and of what waited before
pub front_cut : (before after : Option (List ℕ)) (waited added : List ℕ) → waited ≡ [] → IsFrontOut before after (waited ++ added) → (count : ℕ) × (after ≡ append_known before (take count added))
front_cut before after waited added none f = cut_front before after added (begun_empty before after waited added none f)
