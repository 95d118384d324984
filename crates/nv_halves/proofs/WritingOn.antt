-- A writer on its way.
use Rattle.std.proofs.Common.{◌≡◌, ℕ, zero, suc, ◌+◌, List, [], ◌∷◌, ◌++◌, length, take, Option, Some, None, Result, Ok, Err, refl, ap, sym, ◌∙◌, subst, arith, append-nil, append_assoc}
use Rattle.std.proofs.lemmas.List.{take_all}
use Rattle.std.specs.Io.KnownBytes.{append_known}
use Rattle.nv_turn.specs.Passes.{IsSamePass}
use Rattle.nv_linegrid.specs.Told.{Told, nothing_told}
use Rattle.nv_history.specs.Events.{take_of, close_of, Entry}
use Rattle.nv_history.specs.Runs.{TakenBatch}
use Rattle.nv_history.specs.Asking.{own, takes_by}
use Rattle.nv_history.specs.Spoken.{events_of, told_with, IsSpoken, AreSpoken, AreBytesOf}
use Rattle.nv_history.proofs.SpokenParts.{spoken_none, spoken-push}
use Rattle.nv_core.specs.Contents.{plain_cause}
use Rattle.nv_core.specs.declared.calls.Taken.{Taken}
use Rattle.nv_core.specs.declared.calls.Taken.TheVariants as taken
use Rattle.nv_core.specs.declared.calls.Untaken.{Untaken}
use Rattle.nv_core.specs.declared.effect.Batch.{Batch}
use Rattle.nv_core.specs.declared.effect.Cause.{Cause as WorldCause}
use Rattle.nv_core.specs.declared.start.Start.{Start}
use Rattle.nv_halves.specs.Passes.{WorldPass, OfEach, IsFromWriter}
use Rattle.nv_core.specs.Starts.{world_of_run, out_of}
use Rattle.nv_halves.specs.Halves.{WroteFront, WritesHalf}
use Rattle.nv_halves.specs.inside.Insisting.{Stays, ClosesOnce, Shuts, TriesClose}
use Rattle.nv_speech.specs.Flows.{sent_in, bytes_said}
use Rattle.nv_halves.specs.inside.Taking.{TakesBatch, IsOverNow, IsExact, GainsTakes, WritesSoFar, WritesPart, TakesOnce, IsCutOff, Drops, WritesOnce}
use Rattle.nv_halves.specs.declared.ends.WriterEnd.{WriterEnd}
use Rattle.nv_halves.specs.declared.ends.WriterEnd.TheVariants as w
use Rattle.nv_halves.specs.declared.insisting.Asked.{Asked}
use Rattle.nv_halves.specs.declared.insisting.Asked.TheVariants as asked
use Rattle.nv_halves.specs.declared.writer.Written.TheVariants as written
use Rattle.nv_halves.proofs.Onces.{same_then, stays_self}
use Rattle.nv_halves.proofs.Staying.{goes_over}
use Rattle.nv_halves.proofs.Exactness.{gains_none, gains_stay, gains_push, exact_begun, exact_on, exact_found, exact_take, exact_close}

-- ---- known bytes

-- nothing more went out
pub known_none : (known : Option (List ℕ)) → known ≡ append_known known []
known_none None = refl
known_none (Some xs) = ap (λ (l : List ℕ). Some l) (sym (append-nil xs))

-- what went out in two parts
pub known_then : (known : Option (List ℕ)) (a b : List ℕ) → append_known (append_known known a) b ≡ append_known known (a ++ b)
known_then None a b = refl
known_then (Some xs) a b = ap (λ (l : List ℕ). Some l) (append_assoc xs a b)

-- the first bytes, up to some in the second part
take_past : (a b : List ℕ) (n : ℕ) → take (length a + n) (a ++ b) ≡ a ++ take n b
take_past [] b n = ap (λ (k : ℕ). take k b) (let e : 0 + n ≡ n = omega arith in e)
take_past (x ∷ a) b n =
    let e : length (x ∷ a) + n ≡ suc (length a + n) = omega arith in
    ap (λ (k : ℕ). take k (x ∷ (a ++ b))) e ∙ ap (λ (l : List ℕ). x ∷ l) (take_past a b n)

-- the first bytes, with more behind them
take_front : (n : ℕ) (a b : List ℕ) → take (length (take n a)) (a ++ b) ≡ take n a
take_front zero a b = refl
take_front (suc n) [] b = refl
take_front (suc n) (x ∷ a) b =
    let e : length (x ∷ take n a) ≡ suc (length (take n a)) = omega arith in
    ap (λ (k : ℕ). take k (x ∷ (a ++ b))) e ∙ ap (λ (l : List ℕ). x ∷ l) (take_front n a b)

-- ---- takes that a pass gained

takes_begun : (p : WorldPass) (s : ℕ) → GainsTakes p p s []
takes_begun p s = record {
  same = (stays_self p).same;
  gained = [];
  gains = gains_none (IsFromWriter s) p.number p.seen p.seen refl (stays_self p).begins;
  exact = exact_begun p.start s p.seen;
}

own_same : (p q r : WorldPass) (found : List Entry) → q.number ≡ p.number → own q.number found ≡ own q.number q.seen → own p.number found ≡ own p.number q.seen
own_same p q r found e h = subst (λ (n : ℕ). own n found ≡ own n q.seen) e h

takes_stay : (p q r : WorldPass) (s : ℕ) (got : List TakenBatch) → GainsTakes p q s got → Stays q r → GainsTakes p r s got
takes_stay p q r s got t h = record {
  same = same_then p q r t.same h.same;
  gained = t.gained;
  gains = gains_stay (IsFromWriter s) p.number p.seen q.seen r.seen t.gained t.gains (own_same p q r r.seen t.same.number h.own_is) h.begins;
  exact = exact_found p.start s p.number p.seen q.seen t.gained r.seen got t.gains.gains.own_is h.begins t.exact;
}

-- the batch that was taken
abbrev pub batch_taken : (p q : WorldPass) (s : ℕ) (batch : Batch) → TakesBatch p q s batch → TakenBatch
batch_taken p q s batch h = record { messages = sent_in batch; editor = h.once.comes.editor }

takes_batch : (p q r : WorldPass) (s : ℕ) (got : List TakenBatch) (batch : Batch) (t : GainsTakes p q s got) (h : TakesBatch q r s batch) → GainsTakes p r s (got ++ batch_taken q r s batch h ∷ [])
takes_batch p q r s got batch t h =
    let o = h.once in
    let n : q.number ≡ p.number = t.same.number in
    let found_own : own p.number o.found ≡ own p.number q.seen = own_same p q r o.found n o.own_is in
    let entered : r.seen ≡ o.found ++ record { caller = p.number; event = take_of s } ∷ [] =
    subst (λ (k : ℕ). r.seen ≡ o.found ++ record { caller = k; event = take_of s } ∷ []) n o.comes.entered in
    let runs : world_of_run p.start o.found ≡ Some o.comes.world = ap (λ (x : Option Start). world_of_run x o.found) (sym t.same.start) ∙ o.comes.runs in
    let exact = exact_found p.start s p.number p.seen q.seen t.gained o.found got t.gains.gains.own_is o.begins t.exact in
    record {
      same = same_then p q r t.same o.same;
      gained = t.gained ++ record { caller = p.number; event = take_of s } ∷ [];
      gains = gains_push (IsFromWriter s) p.number p.seen q.seen o.found r.seen t.gained (take_of s) t.gains found_own o.begins refl entered;
      exact = subst (λ (l : List Entry). IsExact p.start s l (t.gained ++ record { caller = p.number; event = take_of s } ∷ []) (got ++ batch_taken q r s batch h ∷ [])) (sym entered)
          (exact_take p.start s p.number o.found t.gained got o.comes.world o.comes.later (sent_in batch) o.comes.editor runs o.comes.gave exact);
    }

takes_close : (p q r : WorldPass) (s : ℕ) (got : List TakenBatch) → GainsTakes p q s got → ClosesOnce q r s → GainsTakes p r s got
takes_close p q r s got t o =
    let n : q.number ≡ p.number = t.same.number in
    let found_own : own p.number o.found ≡ own p.number q.seen = own_same p q r o.found n o.own_is in
    let entered : r.seen ≡ o.found ++ record { caller = p.number; event = close_of s } ∷ [] =
    subst (λ (k : ℕ). r.seen ≡ o.found ++ record { caller = k; event = close_of s } ∷ []) n o.comes in
    let exact = exact_found p.start s p.number p.seen q.seen t.gained o.found got t.gains.gains.own_is o.begins t.exact in
    record {
      same = same_then p q r t.same o.same;
      gained = t.gained ++ record { caller = p.number; event = close_of s } ∷ [];
      gains = gains_push (IsFromWriter s) p.number p.seen q.seen o.found r.seen t.gained (close_of s) t.gains found_own o.begins refl entered;
      exact = subst (λ (l : List Entry). IsExact p.start s l (t.gained ++ record { caller = p.number; event = close_of s } ∷ []) got) (sym entered)
          (exact_close p.start s p.number o.found t.gained got exact);
    }

takes_shut : (p q r : WorldPass) (s : ℕ) (got : List TakenBatch) (met : Asked) → GainsTakes p q s got → Shuts met q r s → GainsTakes p r s got
takes_shut p q r s got asked.Done t h = takes_close p q r s got t h.0
takes_shut p q r s got (asked.Gone cause) t h = takes_stay p q r s got t h.0
takes_shut p q r s got asked.NoMemory t h = takes_stay p q r s got t h

-- in each history that goes on, and has the gained takes alone, they gave these batches
given_by : (p q : WorldPass) (s : ℕ) (got : List TakenBatch) (t : GainsTakes p q s got) → OfEach q.start q.seen (λ history world. takes_by s history ≡ takes_by s t.gained → out_of q.start s history ≡ got)
given_by p q s got t history world runs begins takes =
    let exact : IsExact q.start s q.seen t.gained got = subst (λ (o : Option Start). IsExact o s q.seen t.gained got) (sym t.same.start) t.exact in
    ap (out_of q.start s) (sym begins.1)
    ∙ exact_on q.start s p.number p.seen q.seen t.gained begins.0 got t.gains.gains.own_is exact world (ap (world_of_run q.start) begins.1 ∙ runs) (ap (takes_by s) begins.1 ∙ takes)

-- ---- what went out

-- before anything was taken
pub writes_begun : (p : WorldPass) (s : ℕ) (told : Told) (out : Option (List ℕ)) → told ≡ nothing_told → WritesSoFar p p s told out out
writes_begun p s told out e = record {
  got = [];
  takes = takes_begun p s;
  bytes = [];
  events = [];
  spoken = subst (λ (t : Told). AreSpoken nothing_told [] [] [] t) (sym e) (spoken_none nothing_told);
  written = known_none out;
}

writes_stay : (p q r : WorldPass) (s : ℕ) (told : Told) (before out : Option (List ℕ)) → WritesSoFar p q s told before out → Stays q r → WritesSoFar p r s told before out
writes_stay p q r s told before out h k = record {
  got = h.got;
  takes = takes_stay p q r s h.got h.takes k;
  bytes = h.bytes;
  events = h.events;
  spoken = h.spoken;
  written = h.written;
}

-- what is spoken of a batch that was taken
batch_spoken : (p q : WorldPass) (s : ℕ) (told : Told) (batch : Batch) (h : TakesBatch p q s batch)
    → IsSpoken told (batch_taken p q s batch h) (bytes_said told (sent_in batch) batch.scene) (events_of told batch.scene) (told_with told batch.scene)
batch_spoken p q s told batch h = record {
  scene = batch.scene;
  shows = h.once.comes.shows;
  bytes_are = refl;
  events_are = refl;
  later_is = refl;
}

-- all of a batch went out
writes_batch : (p q r : WorldPass) (s : ℕ) (told now : Told) (before out later : Option (List ℕ)) (batch : Batch) → TakesBatch q r s batch
    → later ≡ append_known out (bytes_said told (sent_in batch) batch.scene) → now ≡ told_with told batch.scene → WritesSoFar p q s told before out → WritesSoFar p r s now before later
writes_batch p q r s told now before out later batch b e n h = record {
  got = h.got ++ batch_taken q r s batch b ∷ [];
  takes = takes_batch p q r s h.got batch h.takes b;
  bytes = h.bytes ++ bytes_said told (sent_in batch) batch.scene;
  events = h.events ++ events_of told batch.scene;
  spoken = subst (λ (t : Told). AreSpoken nothing_told (h.got ++ batch_taken q r s batch b ∷ []) (h.bytes ++ bytes_said told (sent_in batch) batch.scene) (h.events ++ events_of told batch.scene) t) (sym n)
      (spoken-push nothing_told told (told_with told batch.scene) h.got (batch_taken q r s batch b) h.bytes (bytes_said told (sent_in batch) batch.scene) h.events (events_of told batch.scene) h.spoken
      (batch_spoken q r s told batch b));
  written = e ∙ ap (λ (o : Option (List ℕ)). append_known o (bytes_said told (sent_in batch) batch.scene)) h.written
      ∙ known_then before h.bytes (bytes_said told (sent_in batch) batch.scene);
}

-- a front of a batch went out
part_batch : (p q r : WorldPass) (s : ℕ) (told : Told) (before out later : Option (List ℕ)) (batch : Batch) (count : ℕ) → TakesBatch q r s batch
    → later ≡ append_known out (take count (bytes_said told (sent_in batch) batch.scene)) → WritesSoFar p q s told before out → WritesPart p r s before later
part_batch p q r s told before out later batch count b e h =
    let more = bytes_said told (sent_in batch) batch.scene in
    record {
      got = h.got ++ batch_taken q r s batch b ∷ [];
      takes = takes_batch p q r s h.got batch h.takes b;
      bytes = h.bytes ++ bytes_said told (sent_in batch) batch.scene;
      bytes_are = (
        h.events ++ events_of told batch.scene,
        told_with told batch.scene,
        spoken-push nothing_told told (told_with told batch.scene) h.got (batch_taken q r s batch b) h.bytes (bytes_said told (sent_in batch) batch.scene) h.events (events_of told batch.scene) h.spoken
            (batch_spoken q r s told batch b),
      );
      count = length h.bytes + count;
      written = e ∙ ap (λ (o : Option (List ℕ)). append_known o (take count more)) h.written ∙ known_then before h.bytes (take count more)
          ∙ ap (λ (l : List ℕ). append_known before l) (sym (take_past h.bytes more count));
    }

-- all went out
part_all : (p q : WorldPass) (s : ℕ) (told : Told) (before out : Option (List ℕ)) → WritesSoFar p q s told before out → WritesPart p q s before out
part_all p q s told before out h = record {
  got = h.got;
  takes = h.takes;
  bytes = h.bytes;
  bytes_are = (h.events, told, h.spoken);
  count = length h.bytes;
  written = h.written ∙ ap (λ (l : List ℕ). append_known before l) (sym (take_all (length h.bytes) h.bytes (omega arith)));
}

part_shut : (p q r : WorldPass) (s : ℕ) (before out : Option (List ℕ)) (met : Asked) → WritesPart p q s before out → Shuts met q r s → WritesPart p r s before out
part_shut p q r s before out met h k = record {
  got = h.got;
  takes = takes_shut p q r s h.got met h.takes k;
  bytes = h.bytes;
  bytes_are = h.bytes_are;
  count = h.count;
  written = h.written;
}

-- ---- what nobody is sent

part_stay : (p q r : WorldPass) (s : ℕ) (before out : Option (List ℕ)) → WritesPart p q s before out → Stays q r → WritesPart p r s before out
part_stay p q r s before out h k = record {
  got = h.got;
  takes = takes_stay p q r s h.got h.takes k;
  bytes = h.bytes;
  bytes_are = h.bytes_are;
  count = h.count;
  written = h.written;
}

part_more : (p q r : WorldPass) (s : ℕ) (before out : Option (List ℕ)) (batch : Batch) → TakesBatch q r s batch → WritesPart p q s before out → WritesPart p r s before out
part_more p q r s before out batch b h =
    let told = h.bytes_are.1 in
    let more = bytes_said told (sent_in batch) batch.scene in
    record {
      got = h.got ++ batch_taken q r s batch b ∷ [];
      takes = takes_batch p q r s h.got batch h.takes b;
      bytes = h.bytes ++ more;
      bytes_are = (
        h.bytes_are.0 ++ events_of told batch.scene,
        told_with told batch.scene,
        spoken-push nothing_told told (told_with told batch.scene) h.got (batch_taken q r s batch b) h.bytes more h.bytes_are.0 (events_of told batch.scene) h.bytes_are.2
            (batch_spoken q r s told batch b),
      );
      count = length (take h.count h.bytes);
      written = h.written ∙ ap (λ (l : List ℕ). append_known before l) (sym (take_front h.count h.bytes more));
    }

pub drops_self : (p : WorldPass) (s : ℕ) → Drops p p s
drops_self p s = record { same = (stays_self p).same; part = λ first before now h. h }

pub drops_then : (p q r : WorldPass) (s : ℕ) → Drops p q s → Drops q r s → Drops p r s
drops_then p q r s a b = record { same = same_then p q r a.same b.same; part = λ first before now h. b.part first before now (a.part first before now h) }

drops_stay : (p q : WorldPass) (s : ℕ) → Stays p q → Drops p q s
drops_stay p q s k = record { same = k.same; part = λ first before now h. part_stay first p q s before now h k }

drops_batch : (p q : WorldPass) (s : ℕ) (batch : Batch) → TakesBatch p q s batch → Drops p q s
drops_batch p q s batch b = record { same = b.once.same; part = λ first before now h. part_more first p q s before now batch b h }

-- a take, whatever it gave
pub drops_took : (met : Result Taken Untaken) (p q : WorldPass) (s : ℕ) → TakesOnce met p q s → Drops p q s
drops_took (Ok (taken.Items batch)) p q s t = drops_batch p q s batch t
drops_took (Ok taken.Nothing) p q s t = drops_stay p q s t
drops_took (Ok (taken.Over cause)) p q s t = drops_stay p q s t.0
drops_took (Err why) p q s t = drops_stay p q s t

same_shut : (p q : WorldPass) (s : ℕ) (met : Asked) → Shuts met p q s → IsSamePass p q
same_shut p q s asked.Done k = k.0.same
same_shut p q s (asked.Gone cause) k = k.0.same
same_shut p q s asked.NoMemory k = k.same

drops_shut : (p q : WorldPass) (s : ℕ) (met : Asked) → Shuts met p q s → Drops p q s
drops_shut p q s met k = record { same = same_shut p q s met k; part = λ first before now h. part_shut first p q s before now met h k }

-- a close that was tried once
pub drops_tried : (tried : Option Asked) (p q : WorldPass) (s : ℕ) → TriesClose tried p q s → Drops p q s
drops_tried (Some met) p q s k = drops_shut p q s met k
drops_tried None p q s k = drops_stay p q s k.stays

-- ---- how a writer ends

front_written : (p q : WorldPass) (s : ℕ) (before out : Option (List ℕ)) (h : WritesPart p q s before out)
    → OfEach q.start q.seen (λ history world. takes_by s history ≡ takes_by s h.takes.gained → WroteFront (AreBytesOf (out_of q.start s history)) before out)
front_written p q s before out h history world runs begins takes = record {
  bytes = h.bytes;
  bytes_are = subst (λ (l : List TakenBatch). AreBytesOf l h.bytes) (sym (given_by p q s h.got h.takes history world runs begins takes)) h.bytes_are;
  count = h.count;
  written = h.written;
}

half_part : (end : WriterEnd) (p q : WorldPass) (s : ℕ) (before out : Option (List ℕ)) → IsCutOff end → WritesPart p q s before out → WritesHalf end p q s before out
half_part w.WriteFault p q s before out c h =
    record { same = h.takes.same; gained = h.takes.gained; gains = h.takes.gains; wrote = λ history world runs begins takes. front_written p q s before out h history world runs begins takes }
half_part w.NoMemory p q s before out c h =
    record { same = h.takes.same; gained = h.takes.gained; gains = h.takes.gains; wrote = λ history world runs begins takes. front_written p q s before out h history world runs begins takes }
half_part (w.Over cause) p q s before out c h = absurd c

half_over : (cause : WorldCause) (p q : WorldPass) (s : ℕ) (told : Told) (before out : Option (List ℕ)) → IsOverNow q s cause → WritesSoFar p q s told before out → WritesHalf (w.Over cause) p q s before out
half_over cause p q s told before out o h = record {
  same = h.takes.same;
  gained = h.takes.gained;
  gains = h.takes.gains;
  wrote = λ history world runs begins takes. (
    record {
      bytes = h.bytes;
      bytes_are = subst (λ (l : List TakenBatch). AreBytesOf l h.bytes) (sym (given_by p q s h.got h.takes history world runs begins takes)) (h.events, told, h.spoken);
      written = h.written;
    },
    goes_over q.start q.seen o.world s (plain_cause cause) o.runs o.over history world runs begins,
  );
}

-- ---- what one take does

-- what was due went out
pub goes_on : (p q : WorldPass) (s : ℕ) (told now : Told) (out later : Option (List ℕ)) (batch : Batch) → TakesBatch p q s batch
    → later ≡ append_known out (bytes_said told (sent_in batch) batch.scene) → now ≡ told_with told batch.scene → WritesOnce written.On p q s told now out later
goes_on p q s told now out later batch b e n first before h = writes_batch first p q s told now before out later batch b e n h

-- nothing was due
pub idles_on : (p q : WorldPass) (s : ℕ) (told : Told) (out : Option (List ℕ)) → Stays p q → WritesOnce written.On p q s told told out out
idles_on p q s told out k first before h = writes_stay first p q s told before out h k

-- writing failed, or memory was wanting, and then all that was due was dropped
pub ends_cut : (end : WriterEnd) (p q r : WorldPass) (s : ℕ) (told now : Told) (out later : Option (List ℕ)) (batch : Batch) → TakesBatch p q s batch
    → IsCutOff end × ((count : ℕ) × (later ≡ append_known out (take count (bytes_said told (sent_in batch) batch.scene)))) → Drops q r s
    → WritesOnce (written.Ends end) p r s told now out later
ends_cut end p q r s told now out later batch b c k first before h =
    half_part end first r s before later c.0 (k.part first before later (part_batch first p q s told before out later batch c.1.0 b c.1.1 h))

-- the session is over
pub ends_over : (cause : WorldCause) (p q : WorldPass) (s : ℕ) (told : Told) (out : Option (List ℕ)) → Stays p q × IsOverNow q s cause → WritesOnce (written.Ends (w.Over cause)) p q s told told out out
ends_over cause p q s told out k first before h = half_over cause first q s told before out k.1 (writes_stay first p q s told before out h k.0)

-- memory was wanting
pub ends_wanting : (p q : WorldPass) (s : ℕ) (told : Told) (out : Option (List ℕ)) → Stays p q → WritesOnce (written.Ends w.NoMemory) p q s told told out out
ends_wanting p q s told out k first before h =
    half_part w.NoMemory first q s before out tt (part_all first q s told before out (writes_stay first p q s told before out h k))
