-- What the next entry of a history makes of the texts of its world.
use Rattle.std.proofs.Common.{◌≡◌, refl, ap, sym, ◌∙◌, subst, ℕ, ◌-◌, ℤ, Bool, true, false, cond, List, [], ◌∷◌, ◌++◌, fold, Option, None, Some, option_map, option_and_then}
use Rattle.std.specs.Ordering.{int_eq}
use Rattle.std.proofs.lemmas.List.Sums.{fold-append}
use Rattle.nv_places.specs.Flat.{flat, lines_of}
use Rattle.nv_places.proofs.FlatLemmas.{lines_of-flat}
use Rattle.nv_buffer.specs.Content.{Content}
use Rattle.nv_model.specs.Buffers.{ModelBuffer, Splice, text_after, text_of}
use Rattle.nv_model.specs.Editors.{at_handle}
use Rattle.nv_model.specs.Laws.{HasAll, splices_among, splices_in}
use Rattle.nv_model.specs.Operations.{Operation, spliced, spliced_back, after_operations}
use Rattle.nv_model.specs.Seen.{Seen, seen_buffer, seen_of}
use Rattle.nv_model.specs.Standing.{AreWithin, IsWithin, StandsFor}
use Rattle.nv_model.proofs.Lookups.{same_int}
use Rattle.nv_model.proofs.Texts.{operations_make_texts}
use Rattle.nv_dispatch.specs.Laws.{FactsTellPasts, SoundnessIsKept}
use Rattle.nv_dispatch.specs.Telling.{IsSoundBuffer, without_marks}
use Rattle.nv_history.specs.Events.{Entry}
use Rattle.nv_history.specs.MarkPlaces.{operations_of}
use Rattle.nv_history.specs.Runs.{run, run_from}
use Rattle.nv_history.specs.Worlds.{World, fresh_world, step, world_made}
use Rattle.nv_history.proofs.GoingRuns.{run-append, run_sound}
use Rattle.nv_history.proofs.SameBuffers.{step_buffers}
use Rattle.nv_core.specs.Contents.{plain_entries}
use Rattle.nv_world.specs.Steps.{splice_by, splice_in, splices_by}
use Rattle.nv_world.specs.Worlds.{WorldRecord, model_of}
use Rattle.nv_world.specs.declared.step.Moved.{Moved}
use Rattle.nv_watch.specs.SeenWorlds.{editor_seen}
use Rattle.nv_watch.specs.Verdicts.{FollowsNext, HasOneMore, Sight, last_sight}
use Rattle.nv_watch.specs.declared.touching.Touch.{Touch}
use Rattle.nv_watch.specs.declared.touching.Touch.TheVariants.{Nowhere, Often}
use Rattle.nv_watch.specs.inside.Sharing.{AllBecome, BecomesBy, BecomesIf, IsOneSplice, lines_there, texts_seen, touch_with, touched, touched_by}
use Rattle.nv_watch.proofs.SharedRows.{one_splice}

-- ---- the world after one entry more
pub runs_on : (k later : WorldRecord) (e : Entry) → HasOneMore k later e → model_of later ≡ option_and_then (λ (v : World). run_from v (e ∷ [])) (model_of k)
runs_on k later e more =
    ap (λ (es : List Entry). run later.capacity later.limits es) more.history
    ∙ run-append (fresh_world later.capacity later.limits) (plain_entries k.history) (e ∷ [])
    ∙ (λ i. option_and_then (λ (v : World). run_from v (e ∷ [])) (run (more.capacity i) (more.limits i) (plain_entries k.history)))

-- ---- which splices of operations are in a buffer
abbrev touch_more : ℤ → Touch → List Splice → Touch
touch_more n t ss = fold (λ (u : Touch) (s : Splice). touched_by u (splice_in n s)) t ss

touch_one : (n k : ℤ) (t : Touch) (s : Splice) (b : Bool) → int_eq k n ≡ b
    → cond b (touched_by t (splice_in k s)) t ≡ touch_more n t (cond b (s ∷ []) [])
touch_one n k t s true e = ap (λ (j : ℤ). touched_by t (splice_in j s)) (same_int k n e)
touch_one n k t s false e = refl

more_touched : (n : ℤ) (t : Touch) (ss rest : List Splice) → touch_more n t (ss ++ rest) ≡ touch_more n (touch_more n t ss) rest
more_touched n t [] rest = refl
more_touched n t (s ∷ ss) rest = more_touched n (touched_by t (splice_in n s)) ss rest

touch_op : (n : ℤ) (c : Operation) (t : Touch) → fold (touch_with n) t (splice_by c) ≡ touch_more n t (splices_in n c)
touch_op n (spliced k s) t = touch_one n k t s (int_eq k n) refl
touch_op n (spliced_back k s) t = touch_one n k t s (int_eq k n) refl
touch_op n _ t = refl

touch_all : (n : ℤ) (cs : List Operation) (t : Touch) → fold (touch_with n) t (splices_by cs) ≡ touch_more n t (splices_among n cs)
touch_all n [] t = refl
touch_all n (c ∷ cs) t =
    fold-append (touch_with n) t (splice_by c) (splices_by cs)
    ∙ ap (λ (u : Touch). fold (touch_with n) u (splices_by cs)) (touch_op n c t)
    ∙ touch_all n cs (touch_more n t (splices_in n c))
    ∙ sym (more_touched n t (splices_in n c) (splices_among n cs))

often_stays : (n : ℤ) (ss : List Splice) → touch_more n Often ss ≡ Often
often_stays n [] = refl
often_stays n (s ∷ ss) = often_stays n ss

-- ---- the text of a buffer
within_last : (text : List ℕ) (ss : List Splice) (s : Splice) → AreWithin text (ss ++ s ∷ []) → IsWithin (fold text_after text ss) s
within_last text [] s h = h.0
within_last text (r ∷ ss) s h = within_last (text_after text r) ss s h.1

last_within : (b d : ModelBuffer) (s : Splice) → HasAll b (s ∷ []) d → AreWithin d.first d.splices → IsWithin (text_of b) s
unfolding text_of
last_within b d s all h =
    within_last b.first b.splices s
    (subst (λ (ss : List Splice). AreWithin b.first ss) all.grown.splices (subst (λ (t : List ℕ). AreWithin t d.splices) all.grown.first h))

stands_flat : (kept : Content) (d : ModelBuffer) → StandsFor kept (without_marks d) → flat (lines_of (text_of d)) ≡ text_of d
unfolding text_of
stands_flat kept d stands =
    let text : flat kept.text ≡ text_of d = stands.text in
    ap (λ (t : List ℕ). flat (lines_of t)) (sym text) ∙ ap flat (lines_of-flat kept.text stands.lines) ∙ text

stands_within : (kept : Content) (d : ModelBuffer) → StandsFor kept (without_marks d) → AreWithin d.first d.splices
stands_within kept d stands = stands.valid.splices

becomes : (n : ℤ) (b d : ModelBuffer) (ss : List Splice) → HasAll b ss d → IsSoundBuffer d
    → BecomesBy (touch_more n Nowhere ss) (lines_of (text_of b)) (lines_of (text_of d))
becomes n b d [] all sound = ap lines_of all.text
becomes n b d (s ∷ []) all sound =
    let within = last_within b d s all (stands_within sound.0 d sound.1) in
    let is_flat : flat (lines_of (text_after (text_of b) s)) ≡ text_after (text_of b) s =
    subst (λ (t : List ℕ). flat (lines_of t) ≡ t) all.text (stands_flat sound.0 d sound.1) in
    subst (λ (t : List ℕ). IsOneSplice (lines_of (text_of b)) (lines_of t) (splice_in n s)) (sym all.text)
    (one_splice n (text_of b) s.bytes s.from s.until (s.until - s.from) s.part within.order within.within is_flat)
becomes n b d (r ∷ s ∷ ss) all sound =
    subst (λ (t : Touch). BecomesBy t (lines_of (text_of b)) (lines_of (text_of d))) (sym (often_stays n ss)) tt

-- ---- the worlds
some_same : {A : Type 0} (a b : A) → Some a ≡ Some b → a ≡ b
some_same a b e = cc

record IsModelOf (k : WorldRecord) (s : Seen) : Type 0 where
  world : World
  is : model_of k ≡ Some world
  seen : s ≡ seen_of world.editor

model_seen : (k : WorldRecord) (s : Seen) → editor_seen k ≡ Some s → IsModelOf k s
unfolding editor_seen
model_seen k s e = by_case k.spent (model_of k) refl e
  where
    by_case : (b : Bool) (o : Option World) → model_of k ≡ o → cond b None (option_map (λ (w : World). seen_of w.editor) o) ≡ Some s → IsModelOf k s
    by_case true o at is = let f : None ≡ Some s = is in absurd cc
    by_case false None at is = let f : None ≡ Some s = is in absurd cc
    by_case false (Some w) at is = record { world = w; is = at; seen = some_same s (seen_of w.editor) (sym is) }

one_made : (o : Option World) (v : World) → option_and_then (λ (u : World). run_from u []) o ≡ Some v → o ≡ Some v
one_made None v e = let f : None ≡ Some v = e in absurd cc
one_made (Some u) v e = e

made_by : (w v : World) (e : Entry) → run_from w (e ∷ []) ≡ Some v → world_made (step w e.event) ≡ Some v
made_by w v e is = one_made (world_made (step w e.event)) v is

module _ (facts_tell : FactsTellPasts) (stay_sound : SoundnessIsKept) where
  worlds_become : (k later : WorldRecord) (e : Entry) (w v : World) (n : ℤ) → model_of k ≡ Some w → model_of later ≡ Some v
      → world_made (step w e.event) ≡ Some v
      → BecomesIf (touched n (splices_by (operations_of w e.event))) (texts_seen (seen_of w.editor) n) (texts_seen (seen_of v.editor) n)
  worlds_become k later e w v n is then made = by_there (at_handle w.editor.buffers n) (at_handle v.editor.buffers n) refl refl
    where
      by_there : (o p : Option ModelBuffer) → at_handle w.editor.buffers n ≡ o → at_handle v.editor.buffers n ≡ p
          → BecomesIf (touched n (splices_by (operations_of w e.event))) (lines_there (option_map seen_buffer o)) (lines_there (option_map seen_buffer p))
      by_there None p was now = tt
      by_there (Some b) None was now = tt
      by_there (Some b) (Some d) was now =
          let numbered = (run_sound facts_tell stay_sound k.capacity k.limits (plain_entries k.history) w is).numbered in
          let sound = (run_sound facts_tell stay_sound later.capacity later.limits (plain_entries later.history) v then).buffers n d now in
          let there : at_handle (after_operations (operations_of w e.event) w.editor).buffers n ≡ Some d =
          ap (λ (bs : List (ℤ × ModelBuffer)). at_handle bs n) (sym (step_buffers w v e.event made)) ∙ now in
          subst (λ (t : Touch). BecomesBy t (lines_of (text_of b)) (lines_of (text_of d))) (sym (touch_all n (operations_of w e.event) Nowhere))
          (becomes n b d (splices_among n (operations_of w e.event)) (operations_make_texts (operations_of w e.event) w.editor n numbered b d was there) sound)

  pub all_become : (before : List Sight) (x last : Sight) (s t : Seen) → FollowsNext before x → last_sight before ≡ Some last
      → editor_seen last.world ≡ Some s → editor_seen x.world ≡ Some t → AllBecome x.step.splices.items (texts_seen s) (texts_seen t)
  all_become before x last s t next last_is there here = λ n.
      let same : next.last ≡ last = some_same next.last last (sym next.last_is ∙ last_is) in
      let old = model_seen next.last.world s (ap (λ (y : Sight). editor_seen y.world) same ∙ there) in
      let new = model_seen x.world t here in
      let runs : run_from old.world (next.entry ∷ []) ≡ Some new.world =
      ap (λ (o : Option World). option_and_then (λ (u : World). run_from u (next.entry ∷ [])) o) (sym old.is)
      ∙ sym (runs_on next.last.world x.world next.entry next.more) ∙ new.is in
      let made = made_by old.world new.world next.entry runs in
      subst (λ (ss : List Moved). BecomesIf (touched n ss) (texts_seen s n) (texts_seen t n)) (sym (next.splices old.world old.is))
      (subst (λ (z : Seen). BecomesIf (touched n (splices_by (operations_of old.world next.entry.event))) (texts_seen z n) (texts_seen t n)) (sym old.seen)
      (subst (λ (z : Seen). BecomesIf (touched n (splices_by (operations_of old.world next.entry.event))) (texts_seen (seen_of old.world.editor) n) (texts_seen z n)) (sym new.seen)
      (worlds_become next.last.world x.world next.entry old.world new.world n old.is new.is made)))
