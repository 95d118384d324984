-- What an event comes to, step by step.
use Rattle.std.proofs.Common.{◌≡◌, ℕ, zero, suc, ◌+◌, ◌<◌, ◌≤◌, ◌⊎◌, inl, inr, Bool, true, false, List, [], ◌∷◌, ◌++◌, length, take, drop, get_or, refl, sym, ap, ◌∙◌, subst, Option, Some, None, option_map, Result, slice_get, arith, Ok, Err}
use Rattle.std.specs.Prelude.{IfErr, OnOk}
use Rattle.std.specs.List.{AllZip}
use Rattle.std.proofs.lemmas.Slice.Zip.{AllZip-long}
use Rattle.std.proofs.lemmas.List.{take_all, take-append-le}
use Rattle.nv_rpc.specs.Calls.{Call}
use Rattle.nv_rpc.specs.Messages.{Sent}
use Rattle.nv_model.specs.Answers.{Fact}
use Rattle.nv_editor.specs.Sound.{AllSealed}
use Rattle.nv_dispatch.specs.Calls.{CallOutcome, editor_after}
use Rattle.nv_screen.specs.declared.scene.Scene.{Scene}
use Rattle.nv_history.specs.Events.{Effect as PlainEffect, stranger, gone_by}
use Rattle.nv_history.specs.Sessions.{Session, has_quit, reply_message}
use Rattle.nv_history.specs.Spoken.{ShowsIfGiven}
use Rattle.nv_history.specs.Worlds.{World, Outcome, refuses, idles, becomes, world_after_call, world_ended_if}
use Rattle.nv_core.specs.declared.effect.Effect.{Effect}
use Rattle.nv_core.specs.declared.effect.Stop.{Stop}
use Rattle.nv_core.specs.declared.effect.Stop.TheVariants.{NoMemory, Stranger, Gone, Held}
use Rattle.nv_core.specs.Contents.{IsEffect, plain_effect, scene_given}
use Rattle.nv_world.specs.declared.session.Session.{Session as Kept}
use Rattle.nv_world.specs.declared.state.State.{State}
use Rattle.nv_world.specs.declared.state.Numbers.{Numbers}
use Rattle.nv_world.specs.inside.Answers.{AnswersTo}
use Rattle.nv_world.specs.inside.Sessions.{IsSession, AreSessions}
use Rattle.nv_world.specs.inside.Tellings.{sessions_hear_all, sessions_replied}
use Rattle.nv_world.specs.inside.States.{StandsNumbered, StandsForWorld, Changes, IsStopOf, with_next}
use Rattle.nv_world.proofs.Stating.{call_ends}

pub at_outcome : (old new : State) (n : Numbers) (r : Result Effect Stop) (a b : Outcome) → a ≡ b → Changes old new n r b → Changes old new n r a
at_outcome old new n r a b e h = subst (λ (o : Outcome). Changes old new n r o) (sym e) h

-- nobody has the number, by the length of a table
pub nobody_has : (capacity : ℕ) (xs : List Kept) (ys : List Session) (len session : ℕ) → AllZip (IsSession capacity) xs ys → len ≡ length xs
    → (session ≡ 0) ⊎ (len < session) → (session ≡ 0) ⊎ (length ys < session)
nobody_has capacity xs ys len session pairs e none =
    let many = AllZip-long (IsSession capacity) xs ys pairs in
    let same : len ≡ length ys = omega (arith, many) in
    subst (λ (n : ℕ). (session ≡ 0) ⊎ (n < session)) same none

-- what holds of a result's error, and what follows from two clauses of one that is none
pub if_err : {A E : Type 0} (r : Result A E) (P : Type 0) → P → IfErr r (λ e. P)
if_err (Ok x) P p = tt
if_err (Err e) P p = p

pub on_ok_both : {A E : Type 0} (r : Result A E) (P Q R : Type 0) → OnOk r P → OnOk r Q → (P → Q → R) → OnOk r R
on_ok_both (Ok x) P Q R p q f = f p q
on_ok_both (Err e) P Q R p q f = tt

-- the world once a call was told
abbrev pub after_told : World → ℕ → Call → CallOutcome → World
after_told w s call o = record w {
  editor = editor_after w.editor o;
  sessions = sessions_replied w.entries w.capacity s (reply_message call o.result) (sessions_hear_all w.entries w.capacity s o.facts w.sessions);
}

-- a table whose rows were written through a slice
pub whole : (len : ℕ) (xs ys : List Kept) → length xs ≡ len → xs ≡ take len (xs ++ drop (length xs) ys)
whole len xs ys e =
    let le : len ≤ length xs = omega arith in
    sym (take-append-le len xs (drop (length xs) ys) le ∙ take_all len xs (omega arith))

-- a call that was made and told
pub made_call : (old mid new : State) (at : ℕ) (w : World) (s : ℕ) (call : Call) (o : CallOutcome) (answer : Option Sent) (is_seen : Bool) (facts : List Fact) (quits : Bool)
    → StandsForWorld old w → w.entries ≡ at
    → AnswersTo o call w.editor answer is_seen facts mid.editor
    → AllSealed mid.editor
    → mid.ended ≡ old.ended → mid.stamp ≡ old.stamp
    → AreSessions w.capacity mid.subs mid.sessions.items (sessions_replied at w.capacity s answer (sessions_hear_all at w.capacity s facts w.sessions))
    → quits ≡ has_quit facts
    → ((v : World) → StandsForWorld mid v → v.entries ≡ at → StandsForWorld new (world_ended_if quits v))
    → StandsForWorld new (world_after_call w s call o)
made_call old mid new at w s call o answer is_seen facts quits stands entries_are answers sealed same same_stamp told quit_is ends =
    subst (λ (v : World). StandsForWorld new v) (call_ends w s call o)
    (subst (λ (b : Bool). StandsForWorld new (world_ended_if b (after_told w s call o))) (quit_is ∙ ap has_quit answers.told) (ends (after_told w s call o) middle entries_are))
  where
    middle : StandsForWorld mid (after_told w s call o)
    middle = record {
      editor = answers.stands;
      sealed = sealed;
      sessions = subst (λ (a : Option Sent). AreSessions w.capacity mid.subs mid.sessions.items (sessions_replied w.entries w.capacity s a (sessions_hear_all w.entries w.capacity s o.facts w.sessions))) answers.answer_is
          (subst (λ (fs : List Fact). AreSessions w.capacity mid.subs mid.sessions.items (sessions_replied w.entries w.capacity s answer (sessions_hear_all w.entries w.capacity s fs w.sessions))) answers.told
          (subst (λ (k : ℕ). AreSessions w.capacity mid.subs mid.sessions.items (sessions_replied k w.capacity s answer (sessions_hear_all k w.capacity s facts w.sessions))) (sym entries_are) told));
      ended = same ∙ stands.ended;
      stamp = same_stamp ∙ stands.stamp;
    }

-- an event that enters, one that is idle, and one that is refused
pub ok_becomes : (old new : State) (n : Numbers) (effect : Effect) (v : World) (a : Outcome) (wanted : PlainEffect) → a ≡ becomes v wanted → IsEffect effect wanted
    → StandsNumbered new (with_next n) v → Changes old new n (Ok effect) a
ok_becomes old new n effect v a wanted e is h = subst (λ (o : Outcome). Changes old new n (Ok effect) o) (sym e) (is, h)

pub plain_is : (effect : Effect) → scene_given effect ≡ None → IsEffect effect (plain_effect None effect)
plain_is effect none = record {
  editor = None;
  effect_is = refl;
  shows = subst (λ (given : Option Scene). ShowsIfGiven None given) (sym none) tt;
}

pub ok_idles : (old new : State) (n : Numbers) (effect : Effect) (a : Outcome) → scene_given effect ≡ None → a ≡ idles (plain_effect None effect) → new ≡ old
    → Changes old new n (Ok effect) a
ok_idles old new n effect a none e h = subst (λ (o : Outcome). Changes old new n (Ok effect) o) (sym e) (plain_is effect none, h)

pub stranger_refused : (old new : State) (n : Numbers) (s : ℕ) (a : Outcome) → a ≡ refuses (stranger s) → new ≡ old → Changes old new n (Err (Stranger s)) a
stranger_refused old new n s a e h = subst (λ (o : Outcome). Changes old new n (Err (Stranger s)) o) (sym e) (refl, h)

pub gone_refused : (old new : State) (n : Numbers) (entry : ℕ) (a : Outcome) → a ≡ refuses (gone_by entry) → new ≡ old → Changes old new n (Err (Gone entry)) a
gone_refused old new n entry a e h = subst (λ (o : Outcome). Changes old new n (Err (Gone entry)) o) (sym e) (refl, h)

-- what stops an event, beside want of memory
pub stop_refuses : (old : State) (n : Numbers) (stop : Stop) (wanted a : Outcome) → IsStopOf (Some stop) wanted a → Changes old old n (Err stop) a
stop_refuses old n NoMemory wanted a h = tt
stop_refuses old n (Stranger s) wanted a h = subst (λ (o : Outcome). Changes old old n (Err (Stranger s)) o) (sym h.2) (h.1, refl)
stop_refuses old n (Gone entry) wanted a h = subst (λ (o : Outcome). Changes old old n (Err (Gone entry)) o) (sym h.2) (h.1, refl)
stop_refuses old n (Held waiting) wanted a h = subst (λ (o : Outcome). Changes old old n (Err (Held waiting)) o) (sym h.2) (h.1, refl)
