-- inside: marks that were followed, to be found again.
use Rattle.std.specs.Prelude.{◌≡◌, ℕ, ℤ, List, find, option_and_then, slice_get}
use Rattle.std.specs.BTreeMap.{BTreeMap, get}
use Rattle.std.specs.declared.cmp.Ordering.{Ordering}
use Rattle.std.specs.Ordering.{int_cmp, nat_cmp, ordering_then}
use Rattle.nv_watch.specs.FollowedMarks.{Followed, is_of_setting}

-- the order of settings: by buffer, namespace, id and number
abbrev pub setting_order : ℤ × ℕ × ℕ × ℕ → ℤ × ℕ × ℕ × ℕ → Ordering
setting_order a b =
    ordering_then (ordering_then (ordering_then
    (int_cmp a.0 b.0)
    (nat_cmp a.1 b.1))
    (nat_cmp a.2 b.2))
    (nat_cmp a.3 b.3)

-- each setting has the place of the first of some marks that is of it
abbrev pub AreKnownMarks : BTreeMap (ℤ × ℕ × ℕ × ℕ) ℕ → List Followed → Type 0
AreKnownMarks known marks =
    (n : ℤ) (ns id set : ℕ)
    → option_and_then (slice_get marks) (get setting_order known (n, ns, id, set))
    ≡ find (is_of_setting n ns id set) marks
