-- A stream has one answer.
use Rattle.std.proofs.Common.{◌≡◌, ◌⊎◌, ℕ, ◌+◌, ◌≤◌, List, [], length, drop, Option, Some, None, refl, sym, ap, ◌∙◌, ⊎_elim}
use Rattle.std.proofs.lemmas.List.{drop_at}
use Rattle.nv_value.specs.Content.{Tree}
use Rattle.nv_value.specs.View.{content}
use Rattle.nv_msgpack.specs.Reading.{Reading, whole, more, flawed, value_at}
use Rattle.nv_msgpack.specs.Reading as reading
use Rattle.nv_msgpack.specs.Within.{IsPartial}
use Rattle.nv_msgpack.proofs.Exact.{empty_wants, reads, wants_more}
use Rattle.nv_io.specs.declared.lanes.Flaw.{Flaw}
use Rattle.nv_io.specs.declared.lanes.Flaw.TheVariants.{Bad, TooDeep, TooLong, Inside, NoCall}
use Rattle.nv_stream.specs.State.{State, behind_value, with_flaw}
use Rattle.nv_stream.specs.Answers.{IsAnswer, IsFlawAt}
use Rattle.nv_stream.specs.Runs.{SeenAnswer, a_value, no_value_yet, a_flaw, seen_answer, AnswersAreOne}
use Rattle.nv_stream.specs.declared.stream.Next.{Next}
use Rattle.nv_stream.specs.declared.stream.Next.TheVariants.{Value as TheValue, More as AskMore, Flaw as TheFlaw}
use Rattle.nv_stream.proofs.Cuts.{flaw_at}

-- the answer by the reading of what is held
seen_by : State → Reading Tree → SeenAnswer
seen_by s (whole t k) = a_value t
seen_by s more = no_value_yet
seen_by s (flawed x n) = a_flaw (flaw_at x (s.start + n))

-- the state behind it
state_by : State → Reading Tree → State
state_by s (whole t k) = behind_value s k (drop k s.held)
state_by s more = s
state_by s (flawed x n) = with_flaw s (flaw_at x (s.start + n))

-- the answer and the state are those of the reading
abbrev IsRead : Next → State → State → Type 0
IsRead next old new = (seen_answer next ≡ seen_by old (value_at old.depth old.most old.held)) × (new ≡ state_by old (value_at old.depth old.most old.held))

by_reading : (next : Next) (old new : State) (r : Reading Tree) → value_at old.depth old.most old.held ≡ r → seen_answer next ≡ seen_by old r → new ≡ state_by old r → IsRead next old new
by_reading next old new r e a b = (a ∙ ap (λ (x : Reading Tree). seen_by old x) (sym e), b ∙ ap (λ (x : Reading Tree). state_by old x) (sym e))

more_reads : (depth most : ℕ) (held : List ℕ) → 1 ≤ most → (held ≡ []) ⊎ IsPartial depth most held → value_at depth most held ≡ more
more_reads depth most held h w =
    ⊎_elim (λ e. ap (λ (l : List ℕ). value_at depth most l) e ∙ empty_wants depth most) (λ p. wants_more depth most held h p) w

flaw_reads : (f : Flaw) (old new : State) → IsFlawAt old.depth old.most old.start old.held f → new ≡ with_flaw old f → IsRead (TheFlaw f) old new
unfolding seen_by state_by flaw_at
flaw_reads (Bad place) old new f e =
    by_reading (TheFlaw (Bad place)) old new (flawed reading.bad f.0) f.2.1 (ap (λ (n : ℕ). a_flaw (Bad n)) f.1) (e ∙ ap (λ (n : ℕ). with_flaw old (Bad n)) f.1)
flaw_reads (TooDeep place) old new f e =
    by_reading (TheFlaw (TooDeep place)) old new (flawed reading.too_deep f.0) f.2.1 (ap (λ (n : ℕ). a_flaw (TooDeep n)) f.1) (e ∙ ap (λ (n : ℕ). with_flaw old (TooDeep n)) f.1)
flaw_reads (TooLong place) old new f e =
    by_reading (TheFlaw (TooLong place)) old new (flawed reading.too_long f.0) f.2.1 (ap (λ (n : ℕ). a_flaw (TooLong n)) f.1) (e ∙ ap (λ (n : ℕ). with_flaw old (TooLong n)) f.1)
flaw_reads (Inside place) old new f e = absurd f
flaw_reads (NoCall number) old new f e = absurd f

is_read : (next : Next) (old new : State) → 1 ≤ old.most → old.flaw ≡ None → IsAnswer next old new → IsRead next old new
unfolding seen_by state_by
is_read (TheValue v) old new h none g =
    let rest : drop (length g.0) old.held ≡ new.held = ap (λ (l : List ℕ). drop (length g.0) l) g.3 ∙ drop_at g.0 new.held (length g.0) refl in
    by_reading (TheValue v) old new (whole (content v) (length g.0)) (reads old.depth old.most old.held (content v) g.0 new.held g.3 g.2) refl
    (g.4 ∙ ap (λ (l : List ℕ). behind_value old (length g.0) l) (sym rest))
is_read AskMore old new h none g = by_reading AskMore old new more (more_reads old.depth old.most old.held h g.2) refl g.0
is_read (TheFlaw f) old new h none g =
    ⊎_elim (λ e. let c : None ≡ Some f = sym none ∙ e in cc) (λ w. flaw_reads f old new w.1 g.0) g.1

-- the answer where a flaw was met
is_met : (next : Next) (old new : State) (f : Flaw) → old.flaw ≡ Some f → IsAnswer next old new → (seen_answer next ≡ a_flaw f) × (new ≡ with_flaw old f)
is_met (TheValue v) old new f e g = let c : None ≡ Some f = sym g.1 ∙ e in cc
is_met AskMore old new f e g = let c : None ≡ Some f = sym g.1 ∙ e in cc
is_met (TheFlaw x) old new f e g =
    let same : x ≡ f = ⊎_elim (λ p. let c : Some x ≡ Some f = sym p ∙ e in cc) (λ w. let c : None ≡ Some f = sym w.0 ∙ e in cc) g.1 in
    (ap (λ (y : Flaw). a_flaw y) same, g.0 ∙ ap (λ (y : Flaw). with_flaw old y) same)

one_by : (next other : Next) (old new newer : State) → 1 ≤ old.most → IsAnswer next old new → IsAnswer other old newer → (o : Option Flaw) → old.flaw ≡ o → (seen_answer next ≡ seen_answer other) × (new ≡ newer)
one_by next other old new newer h p q None e =
    let a = is_read next old new h e p in
    let b = is_read other old newer h e q in
    (a.0 ∙ sym b.0, a.1 ∙ sym b.1)
one_by next other old new newer h p q (Some f) e =
    let a = is_met next old new f e p in
    let b = is_met other old newer f e q in
    (a.0 ∙ sym b.0, a.1 ∙ sym b.1)

-- a stream has one answer
pub answers_are_one : AnswersAreOne
answers_are_one next other old new newer h p q = one_by next other old new newer h p q old.flaw refl
