-- What watchers say in the end.
use Rattle.std.proofs.Common.{◌≡◌, ℕ, ◌<◌, List, ◌++◌, length, slice_get, Some, arith}
use Rattle.std.specs.Prelude.{◌↔◌}
use Rattle.std.proofs.lemmas.Option.{slice_get_within, slice_get-get_or}
use Rattle.std.specs.Prelude.{get_or}
use Rattle.nv_watch.specs.Verdicts.{Rule, Sight, IsBrokenAt, IsVerdict}
use Rattle.nv_watch.specs.declared.verdict.Verdict.{Verdict}
use Rattle.nv_watch.specs.declared.verdict.Verdict.TheVariants.{Yes, No}

broken_same : (R S : Rule) (seen : List Sight) (n : ℕ) → ((before : List Sight) (x : Sight) → R before x → S before x) → IsBrokenAt R seen n → IsBrokenAt S seen n
broken_same R S seen n gives b = record {
  before = b.before;
  here = b.here;
  behind = b.behind;
  whole = b.whole;
  breaks_here = gives b.before b.here b.breaks_here;
  number = b.number;
}

-- a verdict by one rule is a verdict by another that breaks at the same steps
pub verdict_same : (R S : Rule) (seen : List Sight) (v : Verdict) → ((before : List Sight) (x : Sight) → R before x ↔ S before x) → IsVerdict S seen v → IsVerdict R seen v
verdict_same R S seen Yes same is = λ n b. is n (broken_same R S seen n (λ before x h. (same before x).0 h) b)
verdict_same R S seen (No n) same is =
    (broken_same S R seen n (λ before x h. (same before x).1 h) is.0, λ m b. is.1 m (broken_same R S seen m (λ before x h. (same before x).0 h) b))

module _ {B : Type 0} (HasSeen : B → List Sight → Type 0) (Breaks : B → Rule) where
  -- what watchers say in the end is their verdict of what they were shown, by the rules that they had
  pub said_by : (ws us : List B) (seen : List Sight) (verdicts : List Verdict) → length us ≡ length ws
      → ((i : ℕ) (a b : B) (before : List Sight) → slice_get ws i ≡ Some a → slice_get us i ≡ Some b → HasSeen a before → HasSeen b (before ++ seen))
      → ((i : ℕ) (a b : B) (before : List Sight) (x : Sight) → slice_get ws i ≡ Some a → slice_get us i ≡ Some b → Breaks a before x ↔ Breaks b before x)
      → ((i : ℕ) (b : B) (v : Verdict) (all : List Sight) → slice_get us i ≡ Some b → slice_get verdicts i ≡ Some v → HasSeen b all → IsVerdict (Breaks b) all v)
      → (i : ℕ) (a : B) (v : Verdict) (before : List Sight) → slice_get ws i ≡ Some a → slice_get verdicts i ≡ Some v → HasSeen a before
      → IsVerdict (Breaks a) (before ++ seen) v
  said_by ws us seen verdicts many saw rule said i a v before was is h =
      let within : i < length us = omega (arith, slice_get_within ws i a was, many) in
      let b = get_or us i a in
      let there : slice_get us i ≡ Some b = slice_get-get_or us i a within in
      verdict_same (Breaks a) (Breaks b) (before ++ seen) v (λ front x. rule i a b front x was there) (said i b v (before ++ seen) there is (saw i a b before was there h))
