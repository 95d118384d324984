-- What a stream holds and gave, all along a run.
use Rattle.std.proofs.Common.{◌≡◌, ◌⊎◌, ℕ, ◌+◌, ◌<◌, ◌≤◌, List, [], ◌∷◌, ◌++◌, length, Option, Some, None, refl, sym, ap, ◌∙◌, subst, arith, length-append, inl, inr, ⊎_elim}
use Rattle.std.proofs.lemmas.List.{append_assoc, append-nil}
use Rattle.std.specs.Option.{option_or}
use Rattle.nv_value.specs.Content.{Tree, trees_of}
use Rattle.nv_value.specs.declared.value.Value.{Value}
use Rattle.nv_value.specs.View.{content}
use Rattle.nv_msgpack.specs.Spelling.{Each}
use Rattle.nv_msgpack.specs.Reading.{Reading, whole, more, flawed, value_at}
use Rattle.nv_msgpack.specs.Reading as reading
use Rattle.nv_msgpack.specs.Within.{SpellsWithin, IsPartial}
use Rattle.nv_msgpack.proofs.Exact.{is_flaw}
use Rattle.nv_msgpack.proofs.Complete.{has_byte-in}
use Rattle.nv_msgpack.proofs.Flaws.{stays}
use Rattle.nv_io.specs.declared.lanes.Flaw.{Flaw}
use Rattle.nv_io.specs.declared.lanes.Flaw.TheVariants.{Bad, TooDeep, TooLong, Inside, NoCall}
use Rattle.nv_stream.specs.State.{State, empty_state, with_piece, end_at, stream_end}
use Rattle.nv_stream.specs.Answers.{IsAnswer, HasFlaw, IsFlawAt}
use Rattle.nv_stream.specs.Runs.{StreamStep, feeds, gives_answer, Takes, Follows, piece_of, stream_of, values_of_step, values_of_steps, Ends, EndsWith, HasCut, Says, RunsAreCuts, AnswersOnly, FlawsStay}
use Rattle.nv_stream.specs.declared.stream.Next.{Next}
use Rattle.nv_stream.specs.declared.stream.Next.TheVariants.{Value as TheValue, More as AskMore, Flaw as TheFlaw}

-- the flaw that was met is that of what is held
abbrev pub MetFlaw : ℕ → ℕ → ℕ → List ℕ → Option Flaw → Type 0
MetFlaw depth most start held None = Unit {0}
MetFlaw depth most start held (Some f) = IsFlawAt depth most start held f

-- these values were given of this stream, and the rest is held
pub record Taken (depth most : ℕ) (stream : List ℕ) (values : List Tree) (s : State) : Type 0 where
  pub room : 1 ≤ most
  pub depth_is : s.depth ≡ depth
  pub most_is : s.most ≡ most
  pub front : List ℕ
  pub spelled : Each (SpellsWithin depth most) (trees_of values) front
  pub split : stream ≡ front ++ s.held
  pub start : s.start ≡ length front
  pub flaw : MetFlaw depth most s.start s.held s.flaw

pub taken_fresh : (depth most : ℕ) → 1 ≤ most → Taken depth most [] [] (empty_state depth most)
taken_fresh depth most h = record { room = h; depth_is = refl; most_is = refl; front = []; spelled = refl; split = refl; start = refl; flaw = tt }

has_flaw-stays : (depth most : ℕ) (held piece : List ℕ) (x : reading.Flaw) (n : ℕ) → 1 ≤ most → HasFlaw depth most held x n → HasFlaw depth most (held ++ piece) x n
has_flaw-stays depth most held piece x n h f =
    let e : value_at depth most (held ++ piece) ≡ flawed x n = stays depth most held piece x n (omega arith) f.1 in
    (is_flaw depth most (held ++ piece) x n h e, e)

flaw_stays : (depth most start : ℕ) (held piece : List ℕ) (f : Flaw) → 1 ≤ most → IsFlawAt depth most start held f → IsFlawAt depth most start (held ++ piece) f
flaw_stays depth most start held piece (Bad place) h f = (f.0, f.1, has_flaw-stays depth most held piece reading.bad f.0 h f.2)
flaw_stays depth most start held piece (TooDeep place) h f = (f.0, f.1, has_flaw-stays depth most held piece reading.too_deep f.0 h f.2)
flaw_stays depth most start held piece (TooLong place) h f = (f.0, f.1, has_flaw-stays depth most held piece reading.too_long f.0 h f.2)
flaw_stays depth most start held piece (Inside place) h f = absurd f
flaw_stays depth most start held piece (NoCall place) h f = absurd f

met_stays : (depth most start : ℕ) (held piece : List ℕ) (o : Option Flaw) → 1 ≤ most → MetFlaw depth most start held o → MetFlaw depth most start (held ++ piece) o
met_stays depth most start held piece None h f = tt
met_stays depth most start held piece (Some x) h f = flaw_stays depth most start held piece x h f

-- a piece comes behind what is held
pub taken_fed : (depth most : ℕ) (stream piece : List ℕ) (values : List Tree) (old new : State) → Taken depth most stream values old → new ≡ with_piece old piece → Taken depth most (stream ++ piece) values new
taken_fed depth most stream piece values old new t e =
    let P : State → Type 0 = λ s. Taken depth most (stream ++ piece) values s in
    subst P (sym e) (record {
      room = t.room;
      depth_is = t.depth_is;
      most_is = t.most_is;
      front = t.front;
      spelled = t.spelled;
      split = ap (λ (l : List ℕ). l ++ piece) t.split ∙ append_assoc t.front old.held piece;
      start = t.start;
      flaw = met_stays depth most old.start old.held piece old.flaw t.room t.flaw;
    })

each_push : (S : Tree → List ℕ → Type 0) (ts : List Tree) (t : Tree) (x y : List ℕ) → Each S (trees_of ts) x → S t y → Each S (trees_of (ts ++ t ∷ [])) (x ++ y)
each_push S [] t x y a b = (y, [], b, ap (λ (l : List ℕ). l ++ y) a ∙ sym (append-nil y), refl)
each_push S (u ∷ us) t x y a b =
    (a.0, a.1 ++ y, a.2, ap (λ (l : List ℕ). l ++ y) a.3 ∙ append_assoc a.0 a.1 y, each_push S us t a.1 y a.4 b)

-- a value is given
pub taken_gave : (depth most : ℕ) (stream : List ℕ) (values : List Tree) (v : Value) (old new : State) → Taken depth most stream values old → IsAnswer (TheValue v) old new
    → Taken depth most stream (values ++ content v ∷ []) new
taken_gave depth most stream values v old new t g =
    let front = g.0 in
    let held = new.held in
    let spells : SpellsWithin depth most (content v) g.0 =
    let P : ℕ → Type 0 = λ d. SpellsWithin d most (content v) g.0 in
    let Q : ℕ → Type 0 = λ m. SpellsWithin old.depth m (content v) g.0 in
    subst P t.depth_is (subst Q t.most_is g.2) in
    let R : State → Type 0 = λ s. Taken depth most stream (values ++ content v ∷ []) s in
    subst R (sym g.4) (record {
      room = t.room;
      depth_is = t.depth_is;
      most_is = t.most_is;
      front = t.front ++ g.0;
      spelled = each_push (SpellsWithin depth most) values (content v) t.front g.0 t.spelled spells;
      split = t.split ∙ ap (λ (l : List ℕ). t.front ++ l) g.3 ∙ sym (append_assoc t.front g.0 new.held);
      start = ap (λ (n : ℕ). n + length g.0) t.start ∙ sym (length-append t.front g.0);
      flaw = let M : Option Flaw → Type 0 = λ o. MetFlaw depth most (old.start + length g.0) new.held o in subst M (sym g.1) tt;
    })

-- a value that is given takes bytes from what is held
pub given_shrinks : (v : Value) (old new : State) → IsAnswer (TheValue v) old new → length new.held < length old.held
given_shrinks v old new g =
    let some : 0 < length g.0 = has_byte-in old.depth (content v) g.0 g.2.0 in
    omega (arith, ap (length {A = ℕ}) g.3, length-append g.0 new.held)

-- the bounds of the stream
at_bounds : (depth most : ℕ) (stream : List ℕ) (values : List Tree) (s : State) (P : ℕ → ℕ → Type 0) → Taken depth most stream values s → P s.depth s.most → P depth most
at_bounds depth most stream values s P t p = subst (λ (d : ℕ). P d most) t.depth_is (subst (λ (m : ℕ). P s.depth m) t.most_is p)

ends_more : (depth most start : ℕ) (held : List ℕ) → (held ≡ []) ⊎ IsPartial depth most held → Ends depth most start held (end_at start held)
ends_more depth most start [] h = refl
ends_more depth most start (b ∷ held) (inl e) = absurd (omega (arith, ap (length {A = ℕ}) e))
ends_more depth most start (b ∷ held) (inr p) = (refl, omega arith, p)

-- more is wanted
pub taken_more : (depth most : ℕ) (stream : List ℕ) (values : List Tree) (old new : State) → Taken depth most stream values old → IsAnswer AskMore old new
    → Taken depth most stream values new × HasCut depth most stream values (stream_end new)
taken_more depth most stream values old new t g =
    let waits = at_bounds depth most stream values old (λ d m. (old.held ≡ []) ⊎ IsPartial d m old.held) t g.2 in
    let ends : Ends depth most old.start old.held (end_at old.start old.held) = ends_more depth most old.start old.held waits in
    let E : ℕ → Type 0 = λ n. Ends depth most n old.held (stream_end old) in
    let same : end_at old.start old.held ≡ stream_end old = ap (λ (o : Option Flaw). option_or o (end_at old.start old.held)) (sym g.1) in
    let here : Ends depth most old.start old.held (stream_end old) = subst (λ (o : Option Flaw). Ends depth most old.start old.held o) same ends in
    let P : State → Type 0 = λ s. Taken depth most stream values s × HasCut depth most stream values (stream_end s) in
    subst P (sym g.0) (t, (t.front, old.held, t.spelled, t.split, subst E t.start here))

is_end : (depth most start : ℕ) (held : List ℕ) (f : Flaw) → IsFlawAt depth most start held f → EndsWith depth most start held f
is_end depth most start held (Bad place) f = f
is_end depth most start held (TooDeep place) f = f
is_end depth most start held (TooLong place) f = f
is_end depth most start held (Inside place) f = absurd f
is_end depth most start held (NoCall place) f = f

met_is : (depth most start : ℕ) (held : List ℕ) (o : Option Flaw) (f : Flaw) → o ≡ Some f → MetFlaw depth most start held o → IsFlawAt depth most start held f
met_is depth most start held o f e m = subst (λ (p : Option Flaw). MetFlaw depth most start held p) e m

-- a flaw is answered
pub taken_flaw : (depth most : ℕ) (stream : List ℕ) (values : List Tree) (f : Flaw) (old new : State) → Taken depth most stream values old → IsAnswer (TheFlaw f) old new
    → Taken depth most stream values new × HasCut depth most stream values (Some f)
taken_flaw depth most stream values f old new t g =
    let met : IsFlawAt depth most old.start old.held f =
    ⊎_elim (λ e. met_is depth most old.start old.held old.flaw f e t.flaw)
    (λ w. at_bounds depth most stream values old (λ d m. IsFlawAt d m old.start old.held f) t w.1) g.1 in
    let E : ℕ → Type 0 = λ n. EndsWith depth most n old.held f in
    let P : State → Type 0 = λ s. Taken depth most stream values s × HasCut depth most stream values (Some f) in
    subst P (sym g.0) (
      record {
        room = t.room;
        depth_is = t.depth_is;
        most_is = t.most_is;
        front = t.front;
        spelled = t.spelled;
        split = t.split;
        start = t.start;
        flaw = met;
      },
      (t.front, old.held, t.spelled, t.split, subst E t.start (is_end depth most old.start old.held f met)),
    )

-- a step of a run
abbrev StepTaken : ℕ → ℕ → List ℕ → List Tree → StreamStep → State → Type 0
StepTaken depth most stream values step s = Taken depth most (stream ++ piece_of step) (values ++ values_of_step step) s

no_piece : (depth most : ℕ) (stream : List ℕ) (values : List Tree) (s : State) → Taken depth most stream values s → Taken depth most (stream ++ []) values s
no_piece depth most stream values s t = let P : List ℕ → Type 0 = λ l. Taken depth most l values s in subst P (sym (append-nil stream)) t

no_value : (depth most : ℕ) (stream : List ℕ) (values : List Tree) (s : State) → Taken depth most stream values s → Taken depth most stream (values ++ []) s
no_value depth most stream values s t = let P : List Tree → Type 0 = λ l. Taken depth most stream l s in subst P (sym (append-nil values)) t

step_taken : (depth most : ℕ) (stream : List ℕ) (values : List Tree) (step : StreamStep) (old new : State) → Taken depth most stream values old → Takes step old new → StepTaken depth most stream values step new
step_taken depth most stream values (feeds piece) old new t k = no_value depth most (stream ++ piece) values new (taken_fed depth most stream piece values old new t k)
step_taken depth most stream values (gives_answer (TheValue v)) old new t k = no_piece depth most stream _ new (taken_gave depth most stream values v old new t k)
step_taken depth most stream values (gives_answer AskMore) old new t k =
    no_piece depth most stream _ new (no_value depth most stream values new (taken_more depth most stream values old new t k).0)
step_taken depth most stream values (gives_answer (TheFlaw f)) old new t k =
    no_piece depth most stream _ new (no_value depth most stream values new (taken_flaw depth most stream values f old new t k).0)

run_taken : (depth most : ℕ) (stream : List ℕ) (values : List Tree) (steps : List StreamStep) (old new : State) → Taken depth most stream values old → Follows steps old new
    → Taken depth most (stream ++ stream_of steps) (values ++ values_of_steps steps) new
run_taken depth most stream values [] old new t e =
    let P : State → Type 0 = λ s. Taken depth most (stream ++ []) (values ++ []) s in
    subst P (sym e) (no_piece depth most stream (values ++ []) old (no_value depth most stream values old t))
run_taken depth most stream values (step ∷ steps) old new t f =
    let rest = run_taken depth most (stream ++ piece_of step) (values ++ values_of_step step) steps f.0 new (step_taken depth most stream values step old f.0 t f.1) f.2 in
    let P : List ℕ → Type 0 = λ l. Taken depth most l ((values ++ values_of_step step) ++ values_of_steps steps) new in
    let Q : List Tree → Type 0 = λ l. Taken depth most (stream ++ (piece_of step ++ stream_of steps)) l new in
    subst Q (append_assoc values (values_of_step step) (values_of_steps steps)) (subst P (append_assoc stream (piece_of step) (stream_of steps)) rest)

says : (depth most : ℕ) (stream : List ℕ) (values : List Tree) (next : Next) (old new : State) → Taken depth most stream values old → IsAnswer next old new → Says depth most stream values next new
says depth most stream values (TheValue v) old new t g =
    let k = taken_gave depth most stream values v old new t g in (k.front, k.spelled, k.split, k.start)
says depth most stream values AskMore old new t g = (taken_more depth most stream values old new t g).1
says depth most stream values (TheFlaw f) old new t g = (taken_flaw depth most stream values f old new t g).1

-- however a stream was cut into pieces, each answer is that of the cut of all that was fed
pub runs_are_cuts : RunsAreCuts
runs_are_cuts depth most steps next before after h f g =
    says depth most (stream_of steps) (values_of_steps steps) next before after
    (run_taken depth most [] [] steps (empty_state depth most) before (taken_fresh depth most h) f) g

flaw_fed : (f : Flaw) (piece : List ℕ) (old new : State) → old.flaw ≡ Some f → new ≡ with_piece old piece → new.flaw ≡ Some f
flaw_fed f piece old new e k = ap (λ (s : State). s.flaw) k ∙ e

answers_stay : (f : Flaw) (next : Next) (old new : State) → old.flaw ≡ Some f → IsAnswer next old new → (next ≡ TheFlaw f) × (new.flaw ≡ Some f)
answers_stay f (TheValue v) old new e g = let c : None ≡ Some f = sym g.1 ∙ e in cc
answers_stay f AskMore old new e g = let c : None ≡ Some f = sym g.1 ∙ e in cc
answers_stay f (TheFlaw x) old new e g =
    let same : x ≡ f =
    ⊎_elim (λ p. let c : Some x ≡ Some f = sym p ∙ e in cc) (λ w. let c : None ≡ Some f = sym w.0 ∙ e in cc) g.1 in
    (ap (λ (y : Flaw). TheFlaw y) same, ap (λ (s : State). s.flaw) g.0 ∙ ap (λ (y : Flaw). Some y) same)

step_stays : (f : Flaw) (step : StreamStep) (old new : State) → old.flaw ≡ Some f → Takes step old new → AnswersOnly f step × (new.flaw ≡ Some f)
step_stays f (feeds piece) old new e k = (tt, flaw_fed f piece old new e k)
step_stays f (gives_answer next) old new e k = answers_stay f next old new e k

-- a flaw that was met stays the answer for good
pub flaws_stay : FlawsStay
flaws_stay f [] old new e k = (tt, ap (λ (s : State). s.flaw) k ∙ e)
flaws_stay f (step ∷ steps) old new e k =
    let here = step_stays f step old k.0 e k.1 in
    let rest = flaws_stay f steps k.0 new here.1 k.2 in
    ((here.0, rest.0), rest.1)
