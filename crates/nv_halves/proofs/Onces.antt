-- One event of a pass, in plain data.
use Rattle.std.proofs.Common.{◌≡◌, ℕ, List, Option, Some, refl, ap, sym, ◌∙◌, subst}
use mathlib.Core.List.{IsPrefix}
use Rattle.nv_turn.specs.Story.{Has, AddsOneAtMost, entries_by}
use Rattle.nv_turn.specs.Passes.{PassState, IsSamePass, SeesMore}
use Rattle.nv_turn.proofs.Prefixes.{prefix_self, prefix_trans}
use Rattle.nv_history.specs.Events.{Entry}
use Rattle.nv_history.specs.Asking.{own}
use Rattle.nv_core.specs.Contents.{plain_entries}
use Rattle.nv_core.specs.declared.entry.Entry.{Entry as WorldEntry}
use Rattle.nv_core.specs.declared.start.Start.{Start}
use Rattle.nv_halves.specs.Passes.{WorldPass, plain_pass}
use Rattle.nv_core.specs.Visits.{Visit}
use Rattle.nv_halves.specs.Applying.{visit, AppliesOnce}
use Rattle.nv_core.specs.Gains.{GainsIn, caller_of}
use Rattle.nv_halves.specs.inside.Insisting.{Stays, MayWait}
use Rattle.nv_halves.proofs.Plains.{own_plain, plain_begins, plain_same}

-- ---- under the turn

pub same_then : {E D : Type 0} (p q r : PassState E D) → IsSamePass p q → IsSamePass q r → IsSamePass p r
same_then p q r a b = record {
  turn = b.turn ∙ a.turn;
  number = b.number ∙ a.number;
  numbers = b.numbers ∙ a.numbers;
  start = b.start ∙ a.start;
}

-- what a pass has seen, where callers are those that entries name
sees_named : (caller : WorldEntry → ℕ) (p q : PassState WorldEntry Start) → caller ≡ caller_of → SeesMore caller p q → SeesMore caller_of p q
sees_named caller p q named sees = subst (λ (f : WorldEntry → ℕ). SeesMore f p q) named sees

adds_named : (caller : WorldEntry → ℕ) (n m : ℕ) (found later : List WorldEntry) → caller ≡ caller_of → n ≡ m → AddsOneAtMost caller_of n found later → AddsOneAtMost caller m found later
adds_named caller n m found later named e h =
    subst (λ (f : WorldEntry → ℕ). AddsOneAtMost f m found later) (sym named) (subst (λ (k : ℕ). AddsOneAtMost caller_of k found later) e h)

-- A pass, and what it was when it held a core, before and after an event in that.
module _ {S : Type 0} (caller : WorldEntry → ℕ) (stands : S → List WorldEntry → Type 0) (start : S → Start) (p held : PassState WorldEntry Start) (old new : S) (number : ℕ) (C : Visit → Type 0) where
  -- the start that it may leave
  pub leaves_start : IsSamePass p held → p.start ≡ Some (start old) → GainsIn stands start old new number C → held.start ≡ Some (start new)
  leaves_start same begun gains = same.start ∙ begun ∙ ap (λ (s : Start). Some s) (sym gains.begins)

  -- the story that it may leave
  pub leaves_story : caller ≡ caller_of → stands old held.seen → number ≡ held.number → GainsIn stands start old new number C
      → (later : List WorldEntry) × AddsOneAtMost caller held.number held.seen later × stands new later
  leaves_story named found number_is gains =
      let g = gains.after held.seen found in
      (g.later, adds_named caller number held.number held.seen g.later named number_is g.adds, g.stands_new)

  -- what came in the core came behind what the pass had seen
  pub once_of : (q : PassState WorldEntry Start) → caller ≡ caller_of → IsSamePass p held → SeesMore caller p held → Has p.number p.numbers → stands old held.seen → p.start ≡ Some (start old) → number ≡ held.number
      → GainsIn stands start old new number C → IsSamePass held q
      → ((later : List WorldEntry) → AddsOneAtMost caller held.number held.seen later → stands new later → q.seen ≡ later) → AppliesOnce (plain_pass p) (plain_pass q) C
  once_of q named same sees has found begun number_is gains left seen =
      let by : number ≡ p.number = number_is ∙ same.number in
      let g = gains.after held.seen found in
      let later : q.seen ≡ g.later = seen g.later (adds_named caller number held.number held.seen g.later named number_is g.adds) g.stands_new in
      let V : Option Start → ℕ → List WorldEntry → Type 0 =
      λ s n a. C (record { start = s; number = n; found = plain_entries held.seen; after = plain_entries a }) in
      let comes : V p.start p.number q.seen =
      subst (λ (l : List WorldEntry). V p.start p.number l) (sym later)
      (subst (λ (n : ℕ). V p.start n g.later) by
      (subst (λ (s : Option Start). V s number g.later) (sym begun) g.comes)) in
      let named_sees = sees_named caller p held named sees in
      record {
        same = plain_same p q (same_then p held q same left);
        number = has;
        found = plain_entries held.seen;
        begins = plain_begins p.seen held.seen sees.begins;
        own_is = own_plain p.number held.seen ∙ ap plain_entries (named_sees.own_entries p.number has) ∙ sym (own_plain p.number p.seen);
        comes = comes;
      }

-- ---- waiting

pub stays_self : (p : WorldPass) → Stays p p
stays_self p = record {
  same = record { turn = refl; number = refl; numbers = refl; start = refl };
  begins = prefix_self p.seen;
  own_is = refl;
}

pub stays_then : (p q r : WorldPass) → Stays p q → Stays q r → Stays p r
stays_then p q r a b = record {
  same = same_then p q r a.same b.same;
  begins = prefix_trans p.seen q.seen r.seen a.begins b.begins;
  own_is = subst (λ (n : ℕ). own n r.seen ≡ own n q.seen) a.same.number b.own_is ∙ a.own_is;
}

-- a pass that waited
pub stays_waiting : (caller : WorldEntry → ℕ) (p q : PassState WorldEntry Start) → caller ≡ caller_of → IsSamePass p q → SeesMore caller p q → Has p.number p.numbers
    → Stays (plain_pass p) (plain_pass q)
stays_waiting caller p q named same sees has =
    let named_sees = sees_named caller p q named sees in
    record {
      same = plain_same p q same;
      begins = plain_begins p.seen q.seen sees.begins;
      own_is = own_plain p.number q.seen ∙ ap plain_entries (named_sees.own_entries p.number has) ∙ sym (own_plain p.number p.seen);
    }

-- a pass that came in to look
pub stays_looking : (caller : WorldEntry → ℕ) (p h q : PassState WorldEntry Start) → caller ≡ caller_of → IsSamePass p h → SeesMore caller p h → Has p.number p.numbers → IsSamePass h q → q.seen ≡ h.seen
    → Stays (plain_pass p) (plain_pass q)
stays_looking caller p h q named same sees has left seen =
    stays_waiting caller p q named (same_then p h q same left)
    (record {
      begins = subst (λ (l : List WorldEntry). IsPrefix p.seen l) (sym seen) sees.begins;
      own_entries = λ n has_n. ap (entries_by caller n) seen ∙ sees.own_entries n has_n;
    }) has

-- a pass that came in for nothing
pub stays_once : (p q : WorldPass) (C : Visit → Type 0) (a : AppliesOnce p q C) → q.seen ≡ a.found → Stays p q
stays_once p q C a e = record {
  same = a.same;
  begins = subst (λ (l : List Entry). IsPrefix p.seen l) (sym e) a.begins;
  own_is = ap (own p.number) e ∙ a.own_is;
}

-- one that came in for nothing, and may wait
pub waits_once : (p q : WorldPass) (C : Visit → Type 0) (a : AppliesOnce p q C) → q.seen ≡ a.found → MayWait p q
waits_once p q C a e = record {
  stays = stays_once p q C a e;
  number = subst (λ (l : List ℕ). Has q.number l) (sym a.same.numbers) (subst (λ (k : ℕ). Has k p.numbers) (sym a.same.number) a.number);
}

-- another fact of what came
pub once_by : (p q : WorldPass) (C D : Visit → Type 0) → ((v : Visit) → C v → D v) → AppliesOnce p q C → AppliesOnce p q D
once_by p q C D f a = record {
  same = a.same;
  number = a.number;
  found = a.found;
  begins = a.begins;
  own_is = a.own_is;
  comes = f (visit p q a.found) a.comes;
}

-- a pass that waited, and then came in
pub once_after : (p q r : WorldPass) (C : Visit → Type 0) → Stays p q → AppliesOnce q r C → AppliesOnce p r C
once_after p q r C s a =
    let n : q.number ≡ p.number = s.same.number in
    record {
      same = same_then p q r s.same a.same;
      number = subst (λ (l : List ℕ). Has p.number l) s.same.numbers (subst (λ (k : ℕ). Has k q.numbers) n a.number);
      found = a.found;
      begins = prefix_trans p.seen q.seen a.found s.begins a.begins;
      own_is = subst (λ (k : ℕ). own k a.found ≡ own k q.seen) n a.own_is ∙ s.own_is;
      comes = subst (λ (o : Option Start). C (record { start = o; number = p.number; found = a.found; after = r.seen })) s.same.start
          (subst (λ (k : ℕ). C (record { start = q.start; number = k; found = a.found; after = r.seen })) n a.comes);
    }
