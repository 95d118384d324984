-- What stays of a session in each history that goes on.
use Rattle.std.proofs.Common.{◌≡◌, ℕ, List, [], ◌∷◌, ◌++◌, Option, Some, None, refl, ap, sym, ◌∙◌, subst}
use Rattle.std.specs.Prelude.{option_and_then}
use mathlib.Core.List.{IsPrefix}
use Rattle.std.proofs.lemmas.Option.{none-some, same_Some}
use Rattle.nv_rpc.specs.Messages.{Sent}
use Rattle.nv_model.specs.declared.parts.Limits.{Limits}
use Rattle.nv_history.specs.Events.{Entry, Cause}
use Rattle.nv_history.specs.Sessions.{Session}
use Rattle.nv_history.specs.Worlds.{World, fresh_world, session_of, step, world_made}
use Rattle.nv_history.specs.Runs.{run, run_from, out_from, all_messages}
use Rattle.nv_history.specs.Laws.{FrontsRun}
use Rattle.nv_history.proofs.GoingOn.{PlaceGoesOn}
use Rattle.nv_history.proofs.GoingRuns.{run-append, fronts_run, run_goes}
use Rattle.nv_core.specs.declared.start.Start.{Start}
use Rattle.nv_core.specs.Starts.{world_of_run}
use Rattle.nv_halves.specs.Passes.{OfEach, IsClosedBy, IsOver}

-- the world on the way of a history that goes on
pub record OnWay (start : Option Start) (front more : List Entry) (v : World) : Type 0 where
  pub world : World
  pub runs : world_of_run start front ≡ Some world
  pub rest : run_from world more ≡ Some v

fronts : (capacity : ℕ) (limits : Limits) (history more : List Entry) (v : World) → run capacity limits (history ++ more) ≡ Some v
    → (w : World) × (run capacity limits history ≡ Some w) × (run_from w more ≡ Some v)
unfolding FrontsRun
fronts capacity limits history more v e = fronts_run capacity limits history more v e

pub on_way : (start : Option Start) (front more : List Entry) (v : World) → world_of_run start (front ++ more) ≡ Some v → OnWay start front more v
on_way None front more v e = absurd (none-some v e)
on_way (Some start) front more v e =
    let f = fronts start.outbox start.limits front more v e in record { world = f.0; runs = f.1; rest = f.2 }

one_run : (w v : World) (e : Entry) → world_made (step w e.event) ≡ Some v → run_from w (e ∷ []) ≡ Some v
one_run w v e made = ap (λ (o : Option World). option_and_then (λ u. run_from u []) o) made

-- the world once one more entry entered
pub run_push : (start : Option Start) (found : List Entry) (w v : World) (e : Entry) → world_of_run start found ≡ Some w → world_made (step w e.event) ≡ Some v → world_of_run start (found ++ e ∷ []) ≡ Some v
run_push None found w v e runs made = absurd (none-some w runs)
run_push (Some start) found w v e runs made =
    run-append (fresh_world start.outbox start.limits) found (e ∷ []) ∙ ap (λ (o : Option World). option_and_then (λ u. run_from u (e ∷ [])) o) runs ∙ one_run w v e made

none_left : (a b : List Sent) → a ++ b ≡ [] → b ≡ []
none_left [] b e = e
none_left (x ∷ a) b e = cc

closed_goes : (x y : Option Session) (gave : List Sent) (cause : Cause) (z : Session) → x ≡ Some z → z.closed ≡ Some cause → PlaceGoesOn x y gave
    → (u : Session) × (y ≡ Some u) × (u.closed ≡ Some cause) × (z.waiting ≡ [] → u.waiting ≡ [])
closed_goes None y gave cause z e c h = absurd (none-some z e)
closed_goes (Some x) None gave cause z e c h = absurd h
closed_goes (Some x) (Some y) gave cause z e c h =
    let same : x ≡ z = same_Some x z e in
    let k = h.stays cause (ap (λ (u : Session). u.closed) same ∙ c) in (
      y,
      refl,
      k.0,
      λ none. none_left gave y.waiting (h.waits ∙ ap (λ (l : List Sent). x.waiting ++ l) k.1 ∙ ap (λ (l : List Sent). l ++ []) (ap (λ (u : Session). u.waiting) same ∙ none)),
    )

-- a session that is closed stays closed for its cause
pub closed_stays : (w v : World) (s : ℕ) (cause : Cause) (more : List Entry) → run_from w more ≡ Some v → IsClosedBy w s cause → IsClosedBy v s cause
closed_stays w v s cause more e c =
    let k = closed_goes (session_of w s) (session_of v s) (all_messages (out_from w s more)) cause c.0 c.1 c.2 (run_goes s w v more e) in (k.0, k.1, k.2)

-- and one that is over stays over
pub over_stays : (w v : World) (s : ℕ) (cause : Cause) (more : List Entry) → run_from w more ≡ Some v → IsOver w s cause → IsOver v s cause
over_stays w v s cause more e c =
    let k = closed_goes (session_of w s) (session_of v s) (all_messages (out_from w s more)) cause c.0 c.1 c.2 (run_goes s w v more e) in (k.0, k.1, k.2, k.3 c.3)

-- what stays, in each history that goes on
pub of_each : (start : Option Start) (seen : List Entry) (w : World) (P : World → Type 0) → world_of_run start seen ≡ Some w → P w
    → ((v : World) (more : List Entry) → run_from w more ≡ Some v → P w → P v) → OfEach start seen (λ history world. P world)
of_each start seen w P runs h stays history v e begins =
    let way = on_way start seen begins.0 v (ap (world_of_run start) begins.1 ∙ e) in
    let same : way.world ≡ w = same_Some way.world w (sym way.runs ∙ runs) in
    stays v begins.0 (subst (λ (u : World). run_from u begins.0 ≡ Some v) same way.rest) h

pub goes_closed : (start : Option Start) (seen : List Entry) (w : World) (s : ℕ) (cause : Cause) → world_of_run start seen ≡ Some w → IsClosedBy w s cause
    → OfEach start seen (λ history world. IsClosedBy world s cause)
goes_closed start seen w s cause runs h =
    of_each start seen w (λ world. IsClosedBy world s cause) runs h (λ v more e k. closed_stays w v s cause more e k)

pub goes_over : (start : Option Start) (seen : List Entry) (w : World) (s : ℕ) (cause : Cause) → world_of_run start seen ≡ Some w → IsOver w s cause
    → OfEach start seen (λ history world. IsOver world s cause)
goes_over start seen w s cause runs h =
    of_each start seen w (λ world. IsOver world s cause) runs h (λ v more e k. over_stays w v s cause more e k)
