-- What is seen of a history, entry by entry.
use Rattle.std.proofs.Common.{◌≡◌, ◌∙◌, ℕ, Result, Ok, Err, OnOk, List, [], ◌∷◌, ◌++◌, length, map, Option, Some, None, ap, refl, sym, subst, append_assoc, append-nil}
use Rattle.nv_painter.specs.Painters.{Painting}
use Rattle.nv_history.specs.Events.{Entry, Effect, opened, done, gives, nothing, over, closes}
use Rattle.nv_history.specs.Worlds.{World, Outcome, refuses, idles, becomes, step, world_made}
use Rattle.nv_history.specs.Runs.{run, run_from}
use Rattle.std.specs.Prelude.{option_and_then}
use Rattle.nv_world.specs.Worlds.{WorldRecord, model_of}
use Rattle.nv_world.specs.declared.step.Step.{Step}
use Rattle.nv_core.specs.declared.start.Start.{Start}
use Rattle.nv_book.specs.Books.{Recorded, entries_of_records}
use Rattle.nv_book.specs.Outputs.{ToldBy, session_named, Enters, GoesOut, Plays}
use Rattle.nv_book.specs.Reading.{IsReplayed, IsReplaying, IsStepOf, Replaying, ReplaysOne}
use Rattle.nv_book.specs.Upcoming.{IsUpcoming}
use Rattle.nv_book.specs.declared.replay.Upcoming.{Upcoming}
use Rattle.nv_book.specs.inside.Playing.{IsPlayedTo}
use Rattle.nv_book.specs.Reading.{IsWhyUnread}
use Rattle.nv_book.specs.declared.faults.Unread.{Unread}
use Rattle.nv_watch.specs.Verdicts.{Sight, sight}
use Rattle.nv_replay.specs.Sights.{IsSight, AreSights}
use Rattle.nv_replay.specs.inside.Tallies.{GoesOver, GoesOverAll, GoesOnOver, IsComing, IsGoingOver, IsGoneOver, IsTallyOf, tally_with}
use Rattle.nv_replay.specs.declared.tallying.Tally.{Tally}
use Rattle.nv_replay.proofs.Comparing.{as_many, tally_more}

goes_out_run : (v : World) (rs : List Recorded) (k : WorldRecord) (ps : List Painting) (told : ToldBy) (s : ℕ) (effect : Effect) (output : List ℕ)
    → ((later : ToldBy) → Plays v later rs (IsPlayedTo k ps) → run_from v (entries_of_records rs) ≡ model_of k)
    → GoesOut told s effect output (λ later. Plays v later rs (IsPlayedTo k ps)) → run_from v (entries_of_records rs) ≡ model_of k
goes_out_run v rs k ps told s (gives messages editor) output rest h = rest _ h.3
goes_out_run v rs k ps told s (opened n) output rest h = rest _ h.1
goes_out_run v rs k ps told s done output rest h = rest _ h.1
goes_out_run v rs k ps told s nothing output rest h = rest _ h.1
goes_out_run v rs k ps told s (over cause) output rest h = rest _ h.1
goes_out_run v rs k ps told s closes output rest h = rest _ h.1

enters_run : (o : Outcome) (rs : List Recorded) (k : WorldRecord) (ps : List Painting) (told : ToldBy) (s : ℕ) (output : List ℕ)
    → ((v : World) (later : ToldBy) → Plays v later rs (IsPlayedTo k ps) → run_from v (entries_of_records rs) ≡ model_of k)
    → Enters told s o output (λ v later. Plays v later rs (IsPlayedTo k ps))
    → option_and_then (λ v. run_from v (entries_of_records rs)) (world_made o) ≡ model_of k
enters_run (refuses stop) rs k ps told s output rest h = absurd h
enters_run (idles effect) rs k ps told s output rest h = absurd h
enters_run (becomes v effect) rs k ps told s output rest h = goes_out_run v rs k ps told s effect output (rest v) h

-- the world that entries were played to is that of their run
pub plays_run : (w : World) (told : ToldBy) (rs : List Recorded) (k : WorldRecord) (ps : List Painting) → Plays w told rs (IsPlayedTo k ps)
    → run_from w (entries_of_records rs) ≡ model_of k
plays_run w told [] k ps h = sym h.0
plays_run w told (r ∷ rs) k ps h =
    enters_run (step w r.entry.event) rs k ps told (session_named r.entry.event) r.output (λ v later more. plays_run v later rs k ps more) h

-- a step is that of an entry behind others of the same entries
step_same : (start : Start) (rs ps : List Recorded) (given : Recorded) (k : WorldRecord) (s : Step) → entries_of_records ps ≡ entries_of_records rs
    → IsStepOf start rs given k s → IsStepOf start ps given k s
step_same start rs ps given k s same is = record {
  at_is = is.at_is ∙ as_many rs ps same;
  caller_is = is.caller_is;
  session_is = λ w runs. is.session_is w (ap (λ (es : List Entry). run start.outbox start.limits es) (sym same) ∙ runs);
  sent_is = is.sent_is;
  splices_are = is.splices_are;
}

-- one more is seen
pub sights_more : (start : Start) (before rs : List Recorded) (xs : List Sight) (r : Recorded) (x : Sight) → AreSights start before rs xs
    → IsSight start (before ++ rs) r x → AreSights start before (rs ++ r ∷ []) (xs ++ x ∷ [])
sights_more start before [] [] r x h s = (subst (λ (b : List Recorded). IsSight start b r x) (append-nil before) s, tt)
sights_more start before [] (y ∷ xs) r x h s = absurd h
sights_more start before (q ∷ rs) [] r x h s = absurd h
sights_more start before (q ∷ rs) (y ∷ xs) r x h s =
    (h.0, sights_more start (before ++ q ∷ []) rs xs r x h.1 (subst (λ (b : List Recorded). IsSight start b r x) (sym (append_assoc before (q ∷ []) rs)) s))

-- the sight of an entry that was played behind others
pub sight_of : (bytes : List ℕ) (rs ps : List Recorded) (entry given : Recorded) (s : Step) (r : Replaying) → entries_of_records ps ≡ entries_of_records rs
    → IsReplaying bytes (rs ++ entry ∷ []) (ps ++ given ∷ []) r → IsStepOf r.start rs given r.world s
    → IsSight r.start ps given (sight r.world s)
sight_of bytes rs ps entry given s r same goes is = record {
  step_is = step_same r.start rs ps given r.world s same is;
  history_is = goes.played_are.history ∙ sym goes.played_are.same;
  world_is = sym (plays_run _ _ (ps ++ given ∷ []) r.world r.paintings goes.played_are.plays);
}

-- nothing was gone over yet
pub over_none : (bytes : List ℕ) (t : Tally) (r : Replaying) → IsTallyOf [] [] t → IsReplaying bytes [] [] r → IsGoingOver bytes [] [] [] t r
over_none bytes t r tally begun = record { replaying = begun; tally_is = tally; sights = tt }

-- all was gone over
pub gone_over : (fed bytes : List ℕ) (left : Option (List ℕ)) (rs ps : List Recorded) (seen : List Sight) (t : Tally) (old new : Replaying)
    → IsGoingOver fed rs ps seen t old → new.start ≡ old.start → IsReplayed bytes left rs ps new → IsGoneOver bytes left seen t new
gone_over fed bytes left rs ps seen t old new going same h = record {
  records = rs;
  played = ps;
  replayed = h;
  tally_is = going.tally_is;
  sights = subst (λ (s : Start). AreSights s [] ps seen) (sym same) going.sights;
}

-- the next entry was read
pub coming_over : (fed bytes : List ℕ) (rs ps : List Recorded) (seen : List Sight) (t : Tally) (next : Upcoming) (old new : Replaying)
    → IsGoingOver fed rs ps seen t old → new.start ≡ old.start → IsUpcoming bytes rs ps next new → IsComing bytes rs ps seen next t new
coming_over fed bytes rs ps seen t next old new going same h = record {
  upcoming = h;
  tally_is = going.tally_is;
  sights = subst (λ (s : Start). AreSights s [] ps seen) (sym same) going.sights;
}

-- one entry more was gone over
pub goes_on : (fed bytes : List ℕ) (rs ps : List Recorded) (seen : List Sight) (next : Upcoming) (s : Step) (t u : Tally) (old new : Replaying)
    → IsComing fed rs ps seen next t old → new.start ≡ old.start → u ≡ tally_with t s.at new.recorded s.sent → ReplaysOne bytes rs ps s new → GoesOnOver bytes rs ps seen s u new
goes_on fed bytes rs ps seen next s t u old new going same is h =
    let entries : entries_of_records ps ≡ entries_of_records rs = going.upcoming.played_are.same in
    record {
      entry = h.entry;
      given = h.given;
      goes = record {
        replaying = h.goes;
        tally_is = tally_more rs ps h.entry h.given t u (as_many rs ps entries) going.tally_is
            (is ∙ (λ i. tally_with t (h.step_is.at_is i) (h.recorded_is i) (h.step_is.sent_is i)));
        sights = sights_more new.start [] ps seen h.given (sight new.world s) (subst (λ (b : Start). AreSights b [] ps seen) (sym same) going.sights)
            (sight_of bytes rs ps h.entry h.given s new entries h.goes h.step_is);
      };
    }

-- why not all was gone over
pub unread_all : (bytes : List ℕ) (left : Option (List ℕ)) (seen : List Sight) (r : Result Tally Unread) (fault : Unread) (new : Replaying) → r ≡ Err fault
    → IsWhyUnread new.start.limits bytes left fault → GoesOverAll bytes left seen r new
unread_all bytes left seen r fault new is h = subst (λ (q : Result Tally Unread). GoesOverAll bytes left seen q new) (sym is) h

pub none_on_err : {X E : Type 0} (r : Result X E) (e : E) (P : Type 0) → r ≡ Err e → OnOk r P
none_on_err {X} {E} r e P is = subst (λ (q : Result X E). OnOk q P) (sym is) tt

-- why no entry more was gone over
pub unread_one : (bytes : List ℕ) (left : Option (List ℕ)) (rs ps : List Recorded) (seen : List Sight) (r : Result Step Unread) (fault : Unread) (t : Tally) (new : Replaying) → r ≡ Err fault
    → IsWhyUnread new.start.limits bytes left fault → GoesOver bytes left rs ps seen r t new
unread_one bytes left rs ps seen r fault t new is h = subst (λ (q : Result Step Unread). GoesOver bytes left rs ps seen q t new) (sym is) h
