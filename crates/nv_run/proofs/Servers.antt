-- What is left of a server.
use Rattle.std.proofs.Common.{◌≡◌, ◌⊎◌, ℕ, ◌+◌, ◌≤◌, List, [], ◌∷◌, ◌++◌, length, take, drop, All, Option, Some, None, refl, sym, ap, ◌∙◌, subst, arith, rules, inl, inr}
use Rattle.std.specs.Prelude.{Bool, true, false, IsSome, option_map, min, ◌-◌, ◌^◌}
use Rattle.std.proofs.lemmas.List.{take-append-le, take_all}
use Rattle.nv_io.specs.Faults.{Rose}
use Rattle.nv_io.specs.Known.{append_items}
use Rattle.nv_io.specs.Lanes.{IsFreshLane}
use Rattle.nv_history.specs.Events.{Entry}
use Rattle.nv_core.specs.declared.entry.Entry as world
use Rattle.nv_core.specs.Contents.{plain_entries}
use Rattle.nv_core.specs.declared.start.Start.{Start}
use Rattle.nv_world.specs.Worlds.{WorldRecord, start_of}
use Rattle.nv_session.specs.Sending.{world_after}
use Rattle.nv_model.specs.declared.parts.Limits.{Limits}
use Rattle.nv_dispatch.specs.Runs.{usual_limits}
use Rattle.nv_serve.specs.Headline.{ServerLeaves}
use Rattle.nv_serve.specs.Leaving.{LeavesCore}
use Rattle.nv_serve.specs.Jobs.{lanes_of}
use Rattle.nv_serve.specs.Links.{LanesWords}
use Rattle.nv_serve.specs.declared.job.Job.{Job}
use Rattle.nv_run.specs.Commands.{usual_start}
use Rattle.nv_run.specs.Serving.{LeavesLanes, ServerEnds, ServesLanes, ServesNobody, ServesWell, ServesWithFault}
use Rattle.nv_run.specs.inside.Ends.{IsLater}
use Rattle.nv_run.specs.declared.serving.ServerEnd.{ServerEnd}
use Rattle.nv_run.specs.declared.serving.ServerEnd.TheVariants.{Done, Failed, NoMemory, WriteFault}
use Rattle.nv_run.proofs.LanesBack.{back_all}

some_there : {A : Type 0} (o : Option A) (x : A) → o ≡ Some x → IsSome o
some_there None x e = cc
some_there (Some y) x e = search rules

-- so many that were lent came back
pub lent_back : (first mid last : Option ℕ) (n : ℕ) → mid ≡ option_map (λ k. k + n) first → mid ≡ option_map (λ k. k + n) last → last ≡ first
lent_back None mid None n e f = refl
lent_back None mid (Some b) n e f = cc
lent_back (Some a) mid None n e f = cc
lent_back (Some a) mid (Some b) n e f =
    let both : Some (a + n) ≡ Some (b + n) = sym e ∙ f in
    let same : a + n ≡ b + n = cc in
    ap (λ (k : ℕ). Some k) (omega (arith, same))

pub rose_later : (a b c : ℕ) → Rose a b → b ≤ c → Rose a c
rose_later a b c rose later = omega (arith, rose, later)

-- what was lent as a slice is all of the vector
pub lent_whole : {A : Type 0} (xs ys : List A) (n : ℕ) → length ys ≡ n → take n (ys ++ drop (length ys) xs) ≡ ys
lent_whole xs ys n e = take-append-le n ys (drop (length ys) xs) (omega (arith, e)) ∙ take_all n ys (omega (arith, e))

-- lanes came back that were lent in jobs
pub back_whole : {C L : Type 0} (before mid after : Option (List L)) (whole news : List (Job C L)) → after ≡ append_items mid (lanes_of whole) → mid ≡ before → whole ≡ news → after ≡ append_items before (lanes_of news)
back_whole before mid after whole news e f h = e ∙ ap (λ known. append_items known (lanes_of whole)) f ∙ ap (λ js. append_items before (lanes_of js)) h

module _ {L I S : Type 0} (t : LanesWords L I S) (start : Start) where
  -- the history of a server runs
  lanes_run : (sessions : ℕ) (kept : List Entry) (olds news : List L) → ServesLanes t start sessions kept olds news → IsSome (world_after start kept)
  lanes_run sessions kept olds news h = some_there (world_after start kept) h.1.world h.1.runs

  nobody_runs : (sessions : ℕ) (kept : List Entry) (olds news : List L) → ServesNobody t start sessions kept olds news → IsSome (world_after start kept)
  nobody_runs sessions kept olds news h = subst (λ (l : List Entry). IsSome (world_after start l)) (sym h.0) (search rules)

  pub leaves_run : (sessions : ℕ) (kept : List Entry) (ended : ServerEnd) (rose : Type 0) (olds news : List L) → LeavesLanes t start sessions kept ended rose olds news → IsSome (world_after start kept)
  leaves_run sessions kept Done rose olds news h = lanes_run sessions kept olds news h.0
  leaves_run sessions kept NoMemory rose olds news (inl h) = nobody_runs sessions kept olds news h
  leaves_run sessions kept NoMemory rose olds news (inr h) = lanes_run sessions kept olds news h
  leaves_run sessions kept Failed rose olds news (inl h) = nobody_runs sessions kept olds news h.0
  leaves_run sessions kept Failed rose olds news (inr h) = lanes_run sessions kept olds news h.0
  leaves_run sessions kept WriteFault rose olds news (inl h) = nobody_runs sessions kept olds news h
  leaves_run sessions kept WriteFault rose olds news (inr h) = lanes_run sessions kept olds news h.0

  -- as many lanes as were to be taken, whose port didn't fail
  pub leaves_so_many : (n sessions : ℕ) (kept : List Entry) (ended : ServerEnd) (rose : Type 0) (olds news : List L) → n ≡ sessions → LeavesLanes t start n kept ended ⊥ olds news → LeavesLanes t start sessions kept ended rose olds news
  leaves_so_many n sessions kept Done rose olds news e h = ((h.0.0 ∙ e, h.0.1), h.1)
  leaves_so_many n sessions kept NoMemory rose olds news e (inl h) = inl h
  leaves_so_many n sessions kept NoMemory rose olds news e (inr h) = inr (h.0 ∙ e, h.1)
  leaves_so_many n sessions kept Failed rose olds news e (inl h) = absurd h.1
  leaves_so_many n sessions kept Failed rose olds news e (inr h) = inr ((h.0.0 ∙ e, h.0.1), h.1, h.2)
  leaves_so_many n sessions kept WriteFault rose olds news e (inl h) = inl h
  leaves_so_many n sessions kept WriteFault rose olds news e (inr h) = inr ((h.0.0 ∙ e, h.0.1), h.1)

  -- whatever lanes left, they served or nobody was served
  some_served : (sessions : ℕ) (kept : List Entry) (ended : ServerEnd) (rose : Type 0) (olds news : List L) → LeavesLanes t start sessions kept ended rose olds news
      → ServesNobody t start sessions kept olds news ⊎ ServesLanes t start sessions kept olds news
  some_served sessions kept Done rose olds news h = inr h.0
  some_served sessions kept NoMemory rose olds news h = h
  some_served sessions kept Failed rose olds news (inl h) = inl h.0
  some_served sessions kept Failed rose olds news (inr h) = inr h.0
  some_served sessions kept WriteFault rose olds news (inl h) = inl h
  some_served sessions kept WriteFault rose olds news (inr h) = inr h.0

  leaves_later : (sessions : ℕ) (kept : List Entry) (ended later : ServerEnd) (rose : Type 0) (olds news : List L) → IsLater ended later → LeavesLanes t start sessions kept ended rose olds news
      → LeavesLanes t start sessions kept later rose olds news
  leaves_later sessions kept ended later rose olds news (inl same) h = subst (λ (e : ServerEnd). LeavesLanes t start sessions kept e rose olds news) (sym same) h
  leaves_later sessions kept ended later rose olds news (inr (inl memory)) h =
      subst (λ (e : ServerEnd). LeavesLanes t start sessions kept e rose olds news) (sym memory) (some_served sessions kept ended rose olds news h)
  leaves_later sessions kept ended later rose olds news (inr (inr fault)) h =
      subst (λ (e : ServerEnd). LeavesLanes t start sessions kept e rose olds news) (sym fault.1)
      (inr (subst (λ (e : ServerEnd). LeavesLanes t start sessions kept e rose olds news) fault.0 h))

  -- a server whose book was written, or wasn't
  pub ends_later : (sessions : ℕ) (kept : List Entry) (ended later : ServerEnd) (rose : Type 0) (before after : Option (List L)) → IsLater ended later
      → ServerEnds t start sessions kept ended rose before after → ServerEnds t start sessions kept later rose before after
  ends_later sessions kept ended later rose before after is h = record {
    olds = h.olds;
    news = h.news;
    fresh = h.fresh;
    back = h.back;
    leaves = leaves_later sessions kept ended later rose h.olds h.news is h.leaves;
  }

  pub ends_run : (sessions : ℕ) (kept : List Entry) (ended : ServerEnd) (rose : Type 0) (before after : Option (List L)) → ServerEnds t start sessions kept ended rose before after → IsSome (world_after start kept)
  ends_run sessions kept ended rose before after h = leaves_run sessions kept ended rose h.olds h.news h.leaves

  -- memory was wanting before a lane was taken, or there was no file for the book
  pub none_began : (sessions : ℕ) (kept : List world.Entry) (rose : Type 0) (before after : Option (List L)) → kept ≡ [] → after ≡ before → ServerEnds t start sessions (plain_entries kept) NoMemory rose before after
  none_began sessions kept rose before after none same = record {
    olds = [];
    news = [];
    fresh = search rules;
    back = same ∙ sym (back_all before [] refl);
    leaves = inl (ap plain_entries none, refl);
  }

  pub none_opened : (sessions : ℕ) (kept : List world.Entry) (rose : Type 0) (before after : Option (List L)) → kept ≡ [] → after ≡ before → ServerEnds t start sessions (plain_entries kept) WriteFault rose before after
  none_opened sessions kept rose before after none same = record {
    olds = [];
    news = [];
    fresh = search rules;
    back = same ∙ sym (back_all before [] refl);
    leaves = inl (ap plain_entries none, refl);
  }

  -- the port failed, and the lanes that it gave came back
  pub port_failed : (sessions : ℕ) (kept : List world.Entry) (rose : Type 0) (lanes : List L) (before after : Option (List L)) → kept ≡ [] → rose
      → All (λ lane. IsFreshLane (t.lane lane).over (t.lane lane).lent (t.lane lane).faults) lanes → after ≡ append_items before lanes → ServerEnds t start sessions (plain_entries kept) Failed rose before after
  port_failed sessions kept rose lanes before after none rises fresh back = record {
    olds = lanes;
    news = lanes;
    fresh = fresh;
    back = back;
    leaves = inl ((ap plain_entries none, refl), rises);
  }

  -- the lanes were served, that were lent for it
  pub lanes_served : (n sessions : ℕ) (kept : List Entry) (ended : ServerEnd) (rose : Type 0) (lent olds news : List L) (before after : Option (List L)) → n ≡ sessions → lent ≡ olds
      → All (λ lane. IsFreshLane (t.lane lane).over (t.lane lane).lent (t.lane lane).faults) olds → after ≡ append_items before news → LeavesLanes t start n kept ended ⊥ lent news
      → ServerEnds t start sessions kept ended rose before after
  lanes_served n sessions kept ended rose lent olds news before after e same fresh back leaves = record {
    olds = olds;
    news = news;
    fresh = fresh;
    back = back;
    leaves = leaves_so_many n sessions kept ended rose olds news e (subst (λ (l : List L). LeavesLanes t start n kept ended ⊥ l news) same leaves);
  }

module _ {L I S : Type 0} (t : LanesWords L I S) (outbox n : ℕ) (kept : List Entry) (spent failed : Bool) (olds news : List L) where
  left_so : (start : Start) (ended : ServerEnd) → length olds ≡ n → ServerLeaves t start kept spent failed olds news → (ended ≡ Done → (spent ≡ false) × (failed ≡ false)) → (ended ≡ Failed → (spent ≡ false) × (failed ≡ true))
      → (ended ≡ WriteFault → ⊥) → LeavesLanes t start n kept ended ⊥ olds news
  left_so start Done e h done fault other = let d = done refl in ((e, h.served), h.well d.0 d.1)
  left_so start NoMemory e h done fault other = inr (e, h.served)
  left_so start Failed e h done fault other = let f = fault refl in inr ((e, h.served), h.over f.0, h.fault f.1)
  left_so start WriteFault e h done fault other = absurd (other refl)

  -- what lanes left that were served in a world of the usual limits, by how they ended
  pub lanes_left : (limits : Limits) (ended : ServerEnd) → limits ≡ usual_limits → length olds ≡ n → ServerLeaves t (record { outbox = outbox; limits = limits }) kept spent failed olds news
      → (ended ≡ Done → (spent ≡ false) × (failed ≡ false)) → (ended ≡ Failed → (spent ≡ false) × (failed ≡ true)) → (ended ≡ WriteFault → ⊥) → LeavesLanes t (usual_start outbox) n kept ended ⊥ olds news
  lanes_left limits ended same e h done fault other =
      subst (λ (l : Limits). LeavesLanes t (record { outbox = outbox; limits = l }) n kept ended ⊥ olds news) same (left_so (record { outbox = outbox; limits = limits }) ended e h done fault other)

module _ {L I S : Type 0} (t : LanesWords L I S) (outbox n : ℕ) (spent failed : Bool) (olds news : List L) where
  -- what lanes left on a fresh world of the usual limits, whose history is now kept
  pub world_left : (limits : Limits) (ended : ServerEnd) (fresh left : WorldRecord) (entries : List world.Entry) → limits ≡ usual_limits → length olds ≡ n
      → fresh ≡ record { capacity = outbox; limits = limits; history = []; spent = false } → entries ≡ left.history
      → LeavesCore t (λ (w : WorldRecord) (story : List world.Entry). w.history ≡ story) start_of (start_of fresh) left spent failed olds news
      → (ended ≡ Done → (spent ≡ false) × (failed ≡ false)) → (ended ≡ Failed → (spent ≡ false) × (failed ≡ true)) → (ended ≡ WriteFault → ⊥)
      → LeavesLanes t (usual_start outbox) n (plain_entries entries) ended ⊥ olds news
  world_left limits ended fresh left entries same e is kept l done fault other =
      let leaves = subst (λ (k : List world.Entry). ServerLeaves t (start_of fresh) (plain_entries k) spent failed olds news) (sym (kept ∙ l.stands_for)) l.leaves in
      lanes_left t outbox n (plain_entries entries) spent failed olds news limits ended same e
      (subst (λ (d : Start). ServerLeaves t d (plain_entries entries) spent failed olds news) (ap start_of is) leaves) done fault other
