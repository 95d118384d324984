-- What a run over known bytes says of its end.
use Rattle.std.proofs.Common.{◌≡◌, ◌⊎◌, ℕ, ◌<◌, List, ◌++◌, length, Option, Some, None, refl, sym, ap, ◌∙◌, subst, arith, length-append, inl, inr}
use Rattle.std.specs.Prelude.{◌^◌}
use Rattle.std.proofs.lemmas.List.{append-nil}
use Rattle.std.specs.List.{concat}
use Rattle.std.specs.Io.KnownBytes.{prepend_known}
use Rattle.nv_io.specs.Faults.{Rose}
use Rattle.nv_io.specs.declared.lanes.Flaw.{Flaw}
use Rattle.nv_io.specs.declared.lanes.Ended.{Ended}
use Rattle.nv_io.specs.declared.lanes.Ended.TheVariants.{Closed, Malformed, Overflowed, ReadFault, WriteFault, Quit, NoMemory}
use Rattle.nv_history.specs.Events.{Entry, quit_at}
use Rattle.nv_core.specs.declared.start.Start.{Start}
use Rattle.nv_calls.specs.Reading.{WasRead}
use Rattle.nv_session.specs.Ends.{AnswersAll, AnswersUpTo, SessionEnds}
use Rattle.nv_run.specs.Statuses.{status_of}

-- a source of few bytes that was read to its end gave all of them
all_read : (all read : List ℕ) (left : Option (List ℕ)) → Some all ≡ prepend_known read left → WasRead left read → length all < 2 ^ 62 → read ≡ all
all_read all read None e w few = cc
all_read all read (Some rest) e w few =
    let whole : all ≡ read ++ rest = cc in
    by whole w
  where
    by : all ≡ read ++ rest → WasRead (Some rest) read → read ≡ all
    by whole (inl end) = sym (append-nil read) ∙ ap (λ (l : List ℕ). read ++ l) (sym end) ∙ sym whole
    by whole (inr many) = absurd (omega (arith, ap (length {A = ℕ}) whole, length-append read rest, few, many))

front_read : (all read : List ℕ) (left : Option (List ℕ)) → Some all ≡ prepend_known read left → (rest : List ℕ) × (all ≡ read ++ rest)
front_read all read None e = cc
front_read all read (Some rest) e = (rest, cc)

-- what status 0 says
pub ended_well : (start : Start) (ended : Ended) (all : List ℕ) (pieces : List (List ℕ)) (left : Option (List ℕ)) (kept : List Entry) (before after : Option (List ℕ)) → Some all ≡ prepend_known (concat pieces) left → length all < 2 ^ 62 → SessionEnds start ended pieces left kept before after
    → status_of ended ≡ 0
    → AnswersAll start None all kept before after ⊎ ((entry : ℕ) × (front rest : List ℕ) × (all ≡ front ++ rest) × AnswersUpTo start (quit_at entry) front kept before after)
ended_well start Closed all pieces left kept before after e few h z =
    inl (subst (λ (l : List ℕ). AnswersAll start None l kept before after) (all_read all (concat pieces) left e h.1 few) h.0)
ended_well start (Quit entry) all pieces left kept before after e few h z =
    let f = front_read all (concat pieces) left e in
    inr (entry, concat pieces, f.0, f.1, h)
ended_well start (Malformed flaw) all pieces left kept before after e few h z = cc
ended_well start (Overflowed entry) all pieces left kept before after e few h z = cc
ended_well start ReadFault all pieces left kept before after e few h z = cc
ended_well start WriteFault all pieces left kept before after e few h z = cc
ended_well start NoMemory all pieces left kept before after e few h z = cc

-- what status 6 says
pub ended_badly : (start : Start) (ended : Ended) (all : List ℕ) (pieces : List (List ℕ)) (left : Option (List ℕ)) (kept : List Entry) (before after : Option (List ℕ)) → Some all ≡ prepend_known (concat pieces) left → SessionEnds start ended pieces left kept before after
    → status_of ended ≡ 6
    → (flaw : Flaw) × (front rest : List ℕ) × (all ≡ front ++ rest) × AnswersAll start (Some flaw) front kept before after
ended_badly start (Malformed flaw) all pieces left kept before after e h z =
    let f = front_read all (concat pieces) left e in
    (flaw, concat pieces, f.0, f.1, h.0)
ended_badly start Closed all pieces left kept before after e h z = cc
ended_badly start (Quit entry) all pieces left kept before after e h z = cc
ended_badly start (Overflowed entry) all pieces left kept before after e h z = cc
ended_badly start ReadFault all pieces left kept before after e h z = cc
ended_badly start WriteFault all pieces left kept before after e h z = cc
ended_badly start NoMemory all pieces left kept before after e h z = cc

-- what status 3 says, over a source that counts no fault
pub is_read_fault : (ended : Ended) → status_of ended ≡ 3 → ended ≡ ReadFault
is_read_fault Closed z = cc
is_read_fault (Malformed flaw) z = cc
is_read_fault (Overflowed entry) z = cc
is_read_fault ReadFault z = refl
is_read_fault WriteFault z = cc
is_read_fault (Quit entry) z = cc
is_read_fault NoMemory z = cc

pub never_rose : Rose 0 0 → ⊥
never_rose h = omega (arith, h)
