-- Places of marks that are followed, found by their settings.
use Rattle.std.proofs.Common.{◌≡◌, refl, ap, sym, ◌∙◌, Bool, true, false, cond, eqb, ℕ, suc, ℤ, List, [], ◌∷◌, drop, slice_get, Option, Some, None, option_and_then, arith}
use Rattle.std.specs.Prelude.{◌&&◌, ◌==◌, find}
use Rattle.std.specs.BTreeMap.{BTreeMap, get, is_at}
use Rattle.std.specs.Map.{lookup}
use Rattle.std.specs.Ordering.{int_cmp, is_eq, nat_cmp, ordering_then}
use Rattle.std.specs.declared.cmp.Ordering.{Ordering}
use Rattle.std.specs.declared.cmp.Ordering.TheVariants.{Less, Equal, Greater}
use Rattle.std.proofs.lemmas.Bool.Decides.{nat_tests}
use Rattle.nv_watch.specs.FollowedMarks.{Followed, is_of_setting}
use Rattle.nv_watch.specs.inside.Known.{setting_order}

-- the same by two orders one after the other is the same by each
then_test : (o p : Ordering) → is_eq (ordering_then o p) ≡ (is_eq o && is_eq p)
then_test Less p = refl
then_test Equal p = refl
then_test Greater p = refl

nat_test : (a b : ℕ) → is_eq (nat_cmp a b) ≡ eqb a b
nat_test a b = grind (arith, nat_tests)

and_assoc : (a b c : Bool) → ((a && b) && c) ≡ (a && (b && c))
and_assoc true b c = refl
and_assoc false b c = refl

-- a mark is of a setting where this is equal to its own
setting_test : (m : Followed) (n : ℤ) (ns id set : ℕ) → is_at (setting_order (m.buffer, m.ns, m.id, m.set)) (n, ns, id, set) ≡ is_of_setting n ns id set m
setting_test m n ns id set =
    let buffer = int_cmp m.buffer n in
    let here = is_eq buffer in
    then_test (ordering_then (ordering_then buffer (nat_cmp m.ns ns)) (nat_cmp m.id id)) (nat_cmp m.set set)
    ∙ ap (λ (b : Bool). b && is_eq (nat_cmp m.set set)) (then_test (ordering_then buffer (nat_cmp m.ns ns)) (nat_cmp m.id id))
    ∙ ap (λ (b : Bool). (b && is_eq (nat_cmp m.id id)) && is_eq (nat_cmp m.set set)) (then_test buffer (nat_cmp m.ns ns))
    ∙ ap (λ (b : Bool). b && is_eq (nat_cmp m.set set)) (and_assoc here (is_eq (nat_cmp m.ns ns)) (is_eq (nat_cmp m.id id)))
    ∙ (λ i. (here && (nat_test m.ns ns i && nat_test m.id id i)) && nat_test m.set set i)

-- what is found of a setting among the marks from a place on
abbrev pub AreKnownFrom : BTreeMap (ℤ × ℕ × ℕ × ℕ) ℕ → List Followed → ℕ → Type 0
AreKnownFrom known marks place =
    (n : ℤ) (ns id set : ℕ)
    → option_and_then (slice_get marks) (get setting_order known (n, ns, id, set)) ≡ find (is_of_setting n ns id set) (drop place marks)

pub none_known : (known : BTreeMap (ℤ × ℕ × ℕ × ℕ) ℕ) (marks : List Followed) (place : ℕ) → known.entries ≡ [] → drop place marks ≡ []
    → AreKnownFrom known marks place
none_known known marks place empty none n ns id set =
    ap (λ (es : List ((ℤ × ℕ × ℕ × ℕ) × ℕ)). option_and_then (slice_get marks) (lookup (is_at (setting_order (n, ns, id, set))) es)) empty
    ∙ ap (find (is_of_setting n ns id set)) (sym none)

pub one_more_known : (known later : BTreeMap (ℤ × ℕ × ℕ × ℕ) ℕ) (marks : List Followed) (place : ℕ) (m : Followed)
    → slice_get marks place ≡ Some m → drop place marks ≡ m ∷ drop (suc place) marks
    → ((q : ℤ × ℕ × ℕ × ℕ) → get setting_order later q ≡ cond (is_at (setting_order (m.buffer, m.ns, m.id, m.set)) q) (Some place) (get setting_order known q))
    → AreKnownFrom known marks (suc place) → AreKnownFrom later marks place
one_more_known known later marks place m here parts updates before n ns id set =
    let rest : Option Followed = find (is_of_setting n ns id set) (drop (suc place) marks) in
    ap (option_and_then (slice_get marks)) (updates (n, ns, id, set))
    ∙ by_test (is_at (setting_order (m.buffer, m.ns, m.id, m.set)) (n, ns, id, set))
    ∙ ap (λ (t : Bool). cond t (Some m) rest) (setting_test m n ns id set)
    ∙ ap (find (is_of_setting n ns id set)) (sym parts)
  where
    by_test : (t : Bool)
        → option_and_then (slice_get marks) (cond t (Some place) (get setting_order known (n, ns, id, set)))
        ≡ cond t (Some m) (find (is_of_setting n ns id set) (drop (suc place) marks))
    by_test true = here
    by_test false = before n ns id set
