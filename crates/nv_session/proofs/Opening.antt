-- What an opening comes to.
use Rattle.std.proofs.Common.{◌≡◌, ℕ, ◌+◌, List, [], ◌∷◌, ◌++◌, length, Option, Some, None, Result, Ok, Err, refl, ap, sym, ◌∙◌, subst, arith, append-nil}
use mathlib.Core.List.{IsPrefix}
use Rattle.std.proofs.lemmas.Option.{none-some}
use Rattle.nv_turn.proofs.Prefixes.{prefix_self, prefix_trans, prefix_more}
use Rattle.nv_turn.proofs.Entries.{own_added}
use Rattle.nv_io.specs.declared.lanes.Ended.{Ended}
use Rattle.nv_io.specs.declared.lanes.Ended.TheVariants.{Quit, NoMemory}
use Rattle.nv_history.specs.Events.{open_session, Entry, opened}
use Rattle.nv_history.specs.Worlds.{World, opening_outcome}
use Rattle.nv_history.specs.Asking.{own, opened_in}
use Rattle.nv_history.specs.Laws.{HistoriesCount}
use Rattle.nv_history.proofs.Counting.{histories_count}
use Rattle.nv_core.specs.Contents.{IsEffect}
use Rattle.nv_core.specs.declared.calls.Unopened.{Unopened}
use Rattle.nv_core.specs.declared.calls.Unopened.TheVariants as unopened
use Rattle.nv_core.specs.declared.effect.Effect.{Effect}
use Rattle.nv_core.specs.declared.effect.Effect.TheVariants as effect
use Rattle.nv_core.specs.declared.start.Start.{Start}
use Rattle.nv_halves.specs.Passes.{WorldPass}
use Rattle.nv_core.specs.Starts.{world_of_run}
use Rattle.nv_core.specs.Visits.{Visit, AddsEvent, HasEffect}
use Rattle.nv_halves.specs.Applying.{visit, OpensWith, AppliesOnce}
use Rattle.nv_halves.specs.inside.Insisting.{Stays}
use Rattle.nv_halves.proofs.Onces.{stays_once}
use Rattle.nv_session.specs.Openings.{opening_entry, OpensSession, OpensNone, IsWhyUnopened, Opens}
use Rattle.nv_session.specs.inside.Opened.{what_was_opened}

-- how many sessions a history has opened
counted : (start : Option Start) (found : List Entry) (w : World) → world_of_run start found ≡ Some w → length w.sessions ≡ opened_in 0 found
unfolding HistoriesCount
counted None found w runs = absurd (none-some w runs)
counted (Some start) found w runs = (histories_count start.outbox start.limits found w runs).sessions

-- an effect of an opening, and its entry
came : (o : Option ℕ) (w : World) (v : Visit) (given : Effect) → HasEffect open_session given v (opening_outcome o w) → IsEffect given (opened (length w.sessions + 1)) × AddsEvent open_session v
came (Some n) w v given h = absurd h
came None w v given h = h

opens_at : (p q : WorldPass) (s n : ℕ) (C : Visit → Type 0) (a : AppliesOnce p q C) → q.seen ≡ a.found ++ opening_entry p.number ∷ [] → s ≡ n + 1 → n ≡ opened_in 0 a.found → OpensSession p q s
opens_at p q s n C a later number count = record {
  same = a.same;
  gains = record {
    own_is = ap (own p.number) later ∙ own_added (λ (x : Entry). x.caller) p.number a.found (opening_entry p.number) refl ∙ ap (λ (l : List Entry). l ++ opening_entry p.number ∷ []) a.own_is;
    begins = prefix_trans p.seen a.found q.seen a.begins (subst (λ (l : List Entry). IsPrefix a.found l) (sym later) (prefix_more a.found (opening_entry p.number ∷ [])));
  };
  opening = record {
    found = a.found;
    begins = a.begins;
    own_is = a.own_is;
    number = omega (arith, number, count);
    stands = subst (λ (l : List Entry). IsPrefix (a.found ++ opening_entry p.number ∷ []) l) (sym later) (prefix_self (a.found ++ opening_entry p.number ∷ []));
  };
}

opens_none : (p q : WorldPass) (how : Ended) (C : Visit → Type 0) (a : AppliesOnce p q C) → q.seen ≡ a.found → IsWhyUnopened how p.start a.found → OpensNone p q how
opens_none p q how C a later why =
    let stays : Stays p q = stays_once p q C a later in
    record {
      same = a.same;
      gains = record { own_is = stays.own_is ∙ sym (append-nil (own p.number p.seen)); begins = stays.begins };
      why = subst (λ (l : List Entry). IsWhyUnopened how p.start l) (sym later) why;
    }

pub opened_once : (p q : WorldPass) (met : Result ℕ Unopened) → AppliesOnce p q (OpensWith met) → Opens (what_was_opened met) p q
opened_once p q (Ok s) a =
    let h = a.comes in
    let k = came h.0.ended h.0 (visit p q a.found) (effect.Opened s) h.2 in
    let number : s ≡ length h.0.sessions + 1 = cc (k.0.effect_is) in
    opens_at p q s (length h.0.sessions) (OpensWith (Ok s)) a k.1 number (counted p.start a.found h.0 h.1)
opened_once p q (Err (unopened.Ended entry)) a = opens_none p q (Quit entry) (OpensWith (Err (unopened.Ended entry))) a a.comes.0 a.comes.1
opened_once p q (Err unopened.NoMemory) a = opens_none p q NoMemory (OpensWith (Err unopened.NoMemory)) a a.comes tt
