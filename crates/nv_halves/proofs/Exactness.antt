-- The takes of a session that a pass gained, and the batches that they gave.
use Rattle.std.proofs.Common.{◌≡◌, ℕ, ◌+◌, ◌≤◌, ◌==◌, Bool, true, false, cond, List, [], ◌∷◌, ◌++◌, length, Option, Some, None, refl, ap, sym, ◌∙◌, subst, arith, append-nil, append_assoc, length-append, eq-eqb}
use mathlib.Core.List.{IsPrefix}
use Rattle.std.proofs.lemmas.List.{append_cancel_right, nil_from_length}
use Rattle.std.proofs.lemmas.List.Elements.{filter-append}
use Rattle.std.proofs.lemmas.Option.{none-some}
use Rattle.nv_rpc.specs.Messages.{Sent}
use Rattle.nv_model.specs.Editors.{ModelEditor}
use Rattle.nv_turn.proofs.Entries.{own_added}
use Rattle.nv_turn.proofs.Prefixes.{prefix_trans, prefix_more}
use Rattle.nv_history.specs.Events.{Event, open_session, request_of, take_of, close_of, Entry, gives}
use Rattle.nv_history.specs.Worlds.{World, fresh_world, Outcome, becomes, step, world_made}
use Rattle.nv_history.specs.Runs.{TakenBatch, rest_in, batch_if, batch_of, given, out_from}
use Rattle.nv_history.specs.Asking.{own, is_take_of, takes_by}
use Rattle.nv_history.proofs.GoingRuns.{out-append}
use Rattle.nv_core.specs.declared.start.Start.{Start}
use Rattle.nv_core.specs.Starts.{world_of_run, out_of}
use Rattle.nv_halves.specs.Passes.{EachEvent, Gained, GainedEach}
use Rattle.nv_halves.specs.inside.Taking.{IsExact}
use Rattle.nv_halves.proofs.Staying.{on_way}

-- ---- what is gained

pub each-append : (P : Event → Type 0) (a b : List Entry) → EachEvent P a → EachEvent P b → EachEvent P (a ++ b)
each-append P [] b h k = k
each-append P (e ∷ a) b h k = (h.0, each-append P a b h.1 k)

pub gains_none : (P : Event → Type 0) (n : ℕ) (before now : List Entry) → own n now ≡ own n before → IsPrefix before now → GainedEach P n before now []
gains_none P n before now e p = record { gains = record { own_is = e ∙ sym (append-nil (own n before)); begins = p }; each = tt }

pub gains_stay : (P : Event → Type 0) (n : ℕ) (before now later gained : List Entry) → GainedEach P n before now gained → own n later ≡ own n now → IsPrefix now later → GainedEach P n before later gained
gains_stay P n before now later gained g e p = record {
  gains = record { own_is = e ∙ g.gains.own_is; begins = prefix_trans before now later g.gains.begins p };
  each = g.each;
}

-- one entry more, behind what was found
pub gains_push : (P : Event → Type 0) (n : ℕ) (before now found later gained : List Entry) (event : Event) → GainedEach P n before now gained → own n found ≡ own n now → IsPrefix now found → P event
    → later ≡ found ++ record { caller = n; event = event } ∷ [] → GainedEach P n before later (gained ++ record { caller = n; event = event } ∷ [])
gains_push P n before now found later gained event g e p is same =
    let entry : Entry = record { caller = n; event = event } in
    let entered : own n later ≡ own n found ++ entry ∷ [] = ap (own n) same ∙ own_added (λ (x : Entry). x.caller) n found entry refl in
    record {
      gains = record {
        own_is = entered ∙ ap (λ (l : List Entry). l ++ entry ∷ []) (e ∙ g.gains.own_is) ∙ append_assoc (own n before) gained (entry ∷ []);
        begins = prefix_trans before now later g.gains.begins
            (prefix_trans now found later p (subst (λ (l : List Entry). IsPrefix found l) (sym same) (prefix_more found (entry ∷ []))));
      };
      each = each-append P gained (entry ∷ []) g.each (is, tt);
    }

-- ---- takes among entries

pub takes-append : (s : ℕ) (a b : List Entry) → takes_by s (a ++ b) ≡ takes_by s a ++ takes_by s b
takes-append s a b = filter-append (λ (e : Entry). is_take_of s e.event) a b

both_longer : (b : Bool) (e : Entry) (xs ys : List Entry) → length xs ≤ length ys → length (cond b (e ∷ xs) xs) ≤ length (cond b (e ∷ ys) ys)
both_longer true e xs ys h = omega arith
both_longer false e xs ys h = h

one_longer : (b : Bool) (e : Entry) (xs ys : List Entry) → length xs ≤ length ys → length xs ≤ length (cond b (e ∷ ys) ys)
one_longer true e xs ys h = omega arith
one_longer false e xs ys h = h

fewer_if : (a : Bool) (s : ℕ) (e : Entry) (xs ys : List Entry) → length (takes_by s xs) ≤ length (takes_by s ys) → length (takes_by s (cond a (e ∷ xs) xs)) ≤ length (takes_by s (e ∷ ys))
fewer_if true s e xs ys h = both_longer (is_take_of s e.event) e (takes_by s xs) (takes_by s ys) h
fewer_if false s e xs ys h = one_longer (is_take_of s e.event) e (takes_by s xs) (takes_by s ys) h

-- those of a caller are no more than all
takes_fewer : (s n : ℕ) (xs : List Entry) → length (takes_by s (own n xs)) ≤ length (takes_by s xs)
takes_fewer s n [] = omega arith
takes_fewer s n (e ∷ xs) = fewer_if (e.caller == n) s e (own n xs) xs (takes_fewer s n xs)

gained_fewer : (s n : ℕ) (before now gained : List Entry) → own n now ≡ own n before ++ gained → length (takes_by s gained) ≤ length (takes_by s now)
gained_fewer s n before now gained e =
    let parts : takes_by s (own n now) ≡ takes_by s (own n before) ++ takes_by s gained = ap (takes_by s) e ∙ takes-append s (own n before) gained in
    let counts : length (takes_by s (own n now)) ≡ length (takes_by s (own n before)) + length (takes_by s gained) =
    ap (length {A = Entry}) parts ∙ length-append (takes_by s (own n before)) (takes_by s gained) in
    omega (arith, takes_fewer s n now)

-- where a longer history has just the gained takes, the shorter one has them, and there are none
-- behind it
record TakesInFront (s : ℕ) (now rest gained : List Entry) : Type 0 where
  front : takes_by s now ≡ takes_by s gained
  none : takes_by s rest ≡ []

in_front : (s n : ℕ) (before now rest gained : List Entry) → own n now ≡ own n before ++ gained → takes_by s (now ++ rest) ≡ takes_by s gained → TakesInFront s now rest gained
in_front s n before now rest gained e t =
    let split : takes_by s now ++ takes_by s rest ≡ takes_by s gained = sym (takes-append s now rest) ∙ t in
    let counts : length (takes_by s now) + length (takes_by s rest) ≡ length (takes_by s gained) = sym (length-append (takes_by s now) (takes_by s rest)) ∙ ap (length {A = Entry}) split in
    let none : takes_by s rest ≡ [] = nil_from_length (takes_by s rest) (omega (arith, gained_fewer s n before now gained e)) in
    record {
      front = sym (append-nil (takes_by s now)) ∙ ap (λ (l : List Entry). takes_by s now ++ l) (sym none) ∙ split;
      none = none;
    }

-- ---- what takes give

given_none : (s : ℕ) (event : Event) (o : Outcome) → is_take_of s event ≡ false → given s event o ≡ []
given_none s open_session o e = refl
given_none s (request_of t call) o e = refl
given_none s (take_of t) o e = ap (λ (b : Bool). batch_if b (batch_of o)) e
given_none s (close_of t) o e = refl

rest_none : (f : World → List TakenBatch) (o : Option World) → ((v : World) → f v ≡ []) → rest_in f o ≡ []
rest_none f None h = refl
rest_none f (Some v) h = h v

not_here : (b : Bool) (e : Entry) (xs : List Entry) → cond b (e ∷ xs) xs ≡ [] → b ≡ false
not_here true e xs h = cc
not_here false e xs h = refl

none_there : (b : Bool) (e : Entry) (xs : List Entry) → cond b (e ∷ xs) xs ≡ [] → xs ≡ []
none_there true e xs h = cc
none_there false e xs h = h

-- entries without a take of a session give it nothing
out_none : (s : ℕ) (w : World) (es : List Entry) → takes_by s es ≡ [] → out_from w s es ≡ []
out_none s w [] e = refl
out_none s w (x ∷ es) e =
    let first : given s x.event (step w x.event) ≡ [] = given_none s x.event (step w x.event) (not_here (is_take_of s x.event) x (takes_by s es) e) in
    let rest : rest_in (λ (v : World). out_from v s es) (world_made (step w x.event)) ≡ [] =
    rest_none (λ (v : World). out_from v s es) (world_made (step w x.event)) (λ v. out_none s v es (none_there (is_take_of s x.event) x (takes_by s es) e)) in
    ap (λ (l : List TakenBatch). l ++ rest_in (λ (v : World). out_from v s es) (world_made (step w x.event))) first ∙ rest

-- ---- the batches of the gained takes

pub exact_begun : (start : Option Start) (s : ℕ) (now : List Entry) → IsExact start s now [] []
exact_begun None s now w runs t = absurd (none-some w runs)
exact_begun (Some start) s now w runs t = out_none s (fresh_world start.outbox start.limits) now t

-- what was given before, and then
out_then : (start : Option Start) (s : ℕ) (front rest : List Entry) (w : World) → world_of_run start front ≡ Some w → out_of start s (front ++ rest) ≡ out_of start s front ++ out_from w s rest
out_then None s front rest w runs = absurd (none-some w runs)
out_then (Some start) s front rest w runs = out-append s (fresh_world start.outbox start.limits) w front rest runs

-- others went on
pub exact_on : (start : Option Start) (s n : ℕ) (before now gained rest : List Entry) (got : List TakenBatch) → own n now ≡ own n before ++ gained → IsExact start s now gained got
    → (v : World) → world_of_run start (now ++ rest) ≡ Some v → takes_by s (now ++ rest) ≡ takes_by s gained → out_of start s (now ++ rest) ≡ got
exact_on start s n before now gained rest got e exact v runs t =
    let f = in_front s n before now rest gained e t in
    let way = on_way start now rest v runs in
    out_then start s now rest way.world way.runs
    ∙ ap (λ (l : List TakenBatch). out_of start s now ++ l) (out_none s way.world rest f.none)
    ∙ append-nil (out_of start s now)
    ∙ exact way.world way.runs f.front

pub exact_found : (start : Option Start) (s n : ℕ) (before now gained found : List Entry) (got : List TakenBatch) → own n now ≡ own n before ++ gained → IsPrefix now found
    → IsExact start s now gained got → IsExact start s found gained got
exact_found start s n before now gained found got e p exact w runs t =
    ap (out_of start s) (sym p.1)
    ∙ exact_on start s n before now gained p.0 got e exact w (ap (world_of_run start) p.1 ∙ runs) (ap (takes_by s) p.1 ∙ t)

same_front : (s : ℕ) (found gained : List Entry) (e : Entry) → takes_by s (found ++ e ∷ []) ≡ takes_by s (gained ++ e ∷ []) → takes_by s found ≡ takes_by s gained
same_front s found gained e t =
    append_cancel_right (takes_by s found) (takes_by s gained) (takes_by s (e ∷ []))
    (sym (takes-append s found (e ∷ [])) ∙ t ∙ takes-append s gained (e ∷ []))

-- the batch of one take
one_given : (s n : ℕ) (w later : World) (messages : List Sent) (editor : Option ModelEditor) → step w (take_of s) ≡ becomes later (gives messages editor)
    → out_from w s (record { caller = n; event = take_of s } ∷ []) ≡ record { messages = messages; editor = editor } ∷ []
one_given s n w later messages editor e =
    ap (λ (o : Outcome). batch_if (s == s) (batch_of o) ++ rest_in (λ (v : World). out_from v s []) (world_made o)) e
    ∙ ap (λ (b : Bool). batch_if b (record { messages = messages; editor = editor } ∷ []) ++ []) (eq-eqb s s refl)

-- a take of its own
pub exact_take : (start : Option Start) (s n : ℕ) (found gained : List Entry) (got : List TakenBatch) (w later : World) (messages : List Sent) (editor : Option ModelEditor)
    → world_of_run start found ≡ Some w → step w (take_of s) ≡ becomes later (gives messages editor) → IsExact start s found gained got
    → IsExact start s (found ++ record { caller = n; event = take_of s } ∷ []) (gained ++ record { caller = n; event = take_of s } ∷ []) (got ++ record { messages = messages; editor = editor } ∷ [])
exact_take start s n found gained got w later messages editor runs gave exact v e t =
    let entry : Entry = record { caller = n; event = take_of s } in
    let batch : TakenBatch = record { messages = messages; editor = editor } in
    out_then start s found (entry ∷ []) w runs
    ∙ ap (λ (l : List TakenBatch). l ++ out_from w s (entry ∷ [])) (exact w runs (same_front s found gained entry t))
    ∙ ap (λ (l : List TakenBatch). got ++ l) (one_given s n w later messages editor gave)

-- a close of its own
pub exact_close : (start : Option Start) (s n : ℕ) (found gained : List Entry) (got : List TakenBatch) → IsExact start s found gained got
    → IsExact start s (found ++ record { caller = n; event = close_of s } ∷ []) (gained ++ record { caller = n; event = close_of s } ∷ []) got
exact_close start s n found gained got exact v e t =
    let entry : Entry = record { caller = n; event = close_of s } in
    let way = on_way start found (entry ∷ []) v e in
    out_then start s found (entry ∷ []) way.world way.runs
    ∙ ap (λ (l : List TakenBatch). out_of start s found ++ l) (out_none s way.world (entry ∷ []) refl)
    ∙ append-nil (out_of start s found)
    ∙ exact way.world way.runs (same_front s found gained entry t)
