-- Entries of a world, and passes to it, as plain data.
use Rattle.std.proofs.Common.{◌≡◌, ℕ, ◌==◌, Bool, true, false, cond, List, [], ◌∷◌, ◌++◌, refl, ap, sym, ◌∙◌}
use mathlib.Core.List.{IsPrefix}
use Rattle.nv_turn.specs.Story.{entries_by}
use Rattle.nv_turn.specs.Passes.{PassState, IsSamePass}
use Rattle.nv_history.specs.Events.{Entry}
use Rattle.nv_history.specs.Asking.{own}
use Rattle.nv_core.specs.Contents.{plain_entry, plain_entries}
use Rattle.nv_core.specs.declared.entry.Entry.{Entry as WorldEntry}
use Rattle.nv_core.specs.declared.start.Start.{Start}
use Rattle.nv_halves.specs.Passes.{plain_pass}
use Rattle.nv_core.specs.Gains.{caller_of}

kept : (b : Bool) (e : WorldEntry) (plain : List Entry) (es : List WorldEntry) → plain ≡ plain_entries es → cond b (plain_entry e ∷ plain) plain ≡ plain_entries (cond b (e ∷ es) es)
kept true e plain es h = ap (λ (l : List Entry). plain_entry e ∷ l) h
kept false e plain es h = h

pub own_plain : (c : ℕ) (es : List WorldEntry) → own c (plain_entries es) ≡ plain_entries (entries_by caller_of c es)
own_plain c [] = refl
own_plain c (e ∷ es) = kept (e.caller == c) e (own c (plain_entries es)) (entries_by caller_of c es) (own_plain c es)

pub plain-append : (a b : List WorldEntry) → plain_entries (a ++ b) ≡ plain_entries a ++ plain_entries b
plain-append [] b = refl
plain-append (e ∷ a) b = ap (λ (l : List Entry). plain_entry e ∷ l) (plain-append a b)

pub plain_begins : (a b : List WorldEntry) → IsPrefix a b → IsPrefix (plain_entries a) (plain_entries b)
plain_begins a b p = (plain_entries p.0, sym (plain-append a p.0) ∙ ap plain_entries p.1)

pub plain_same : (p q : PassState WorldEntry Start) → IsSamePass p q → IsSamePass (plain_pass p) (plain_pass q)
plain_same p q h = record { turn = h.turn; number = h.number; numbers = h.numbers; start = h.start }
