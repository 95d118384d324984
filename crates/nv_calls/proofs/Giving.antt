-- What an intake gives, in the words of the bytes that came to it.
use Rattle.std.proofs.Common.{◌≡◌, ◌⊎◌, ℕ, ◌+◌, List, [], ◌∷◌, ◌++◌, length, Option, Some, None, refl, sym, ap, ◌∙◌, subst, arith, length-append, append_assoc, append-nil, inl, inr, ⊎_elim}
use Rattle.std.specs.Option.{option_or}
use Rattle.nv_value.specs.Content.{Tree}
use Rattle.nv_io.specs.Streams.{Gave, GaveEach}
use Rattle.nv_io.specs.Words.{SourceWords}
use Rattle.nv_io.specs.declared.lanes.Flaw.{Flaw}
use Rattle.nv_io.specs.declared.lanes.Flaw.TheVariants.{Bad, TooDeep, TooLong, Inside, NoCall}
use Rattle.nv_msgpack.specs.Within.{SpellsWithin, IsPartial}
use Rattle.nv_msgpack.proofs.Complete.{has_byte-in}
use Rattle.nv_stream.specs.State.{State, end_at, stream_end}
use Rattle.nv_stream.specs.Answers.{IsAnswer, IsFlawAt, TakesTree}
use Rattle.nv_stream.specs.declared.stream.Next.TheVariants.{Flaw as TheFlaw}
use Rattle.nv_rpc.specs.Calls.{Call, call_in}
use Rattle.nv_calls.specs.Reading.{most_depth, most_bytes, Calls, EndsAt, ReadsFrom, BeginWithCalls, IsUnfinished, IfInside}
use Rattle.nv_calls.specs.Intakes.{IntakeState, WantsMore, with_more, came, GivesCall, GaveCalls}
use Rattle.nv_calls.specs.inside.Given.{TakesCall}
use Rattle.nv_calls.specs.inside.Bounded.{intake_of}
use Rattle.nv_calls.proofs.CallBounds.{call_short}

-- ---- calls in bytes

-- calls and more calls, spelled one after another
pub calls_then : (calls more : List Call) (a b : List ℕ) → Calls calls a → Calls more b → Calls (calls ++ more) (a ++ b)
calls_then [] more a b p q = subst (λ (l : List ℕ). Calls more (l ++ b)) (sym p) q
calls_then (call ∷ calls) more a b p q =
    (p.0, p.1 ++ b, p.2, ap (λ (l : List ℕ). l ++ b) p.3 ∙ append_assoc p.0 p.1 b, calls_then calls more p.1 b p.4 q)

pub reads_at : (number other place spot : ℕ) (calls : List Call) (bytes : List ℕ) (flaw : Option Flaw) → number ≡ other → place ≡ spot → ReadsFrom number place calls bytes flaw → ReadsFrom other spot calls bytes flaw
reads_at number other place spot calls bytes flaw e d h =
    subst (λ (n : ℕ). ReadsFrom n spot calls bytes flaw) e (subst (λ (p : ℕ). ReadsFrom number p calls bytes flaw) d h)

-- calls before those of the bytes behind them
pub reads_then : (number place : ℕ) (calls more : List Call) (whole bytes : List ℕ) (flaw : Option Flaw) → Calls calls whole → ReadsFrom (number + length calls) (place + length whole) more bytes flaw → ReadsFrom number place (calls ++ more) (whole ++ bytes) flaw
reads_then number place [] more whole bytes flaw p q =
    let e : length whole ≡ 0 = ap (length {A = ℕ}) p in
    subst (λ (l : List ℕ). ReadsFrom number place more (l ++ bytes) flaw) (sym p)
    (reads_at (number + 0) number (place + length whole) place more bytes flaw (omega arith) (omega arith) q)
reads_then number place (call ∷ calls) more whole bytes flaw p q =
    let e : length whole ≡ length p.0 + length p.1 = ap (length {A = ℕ}) p.3 ∙ length-append p.0 p.1 in (
      p.0,
      p.1 ++ bytes,
      p.2,
      ap (λ (l : List ℕ). l ++ bytes) p.3 ∙ append_assoc p.0 p.1 bytes,
      reads_then (number + 1) (place + length p.0) calls more p.1 bytes flaw p.4
          (reads_at _ (number + 1 + length calls) _ (place + length p.0 + length p.1) more bytes flaw (omega arith) (omega arith) q),
    )

-- the calls that bytes hold stand at their front
pub calls_read : (number place : ℕ) (calls : List Call) (bytes : List ℕ) (flaw : Option Flaw) → ReadsFrom number place calls bytes flaw → BeginWithCalls calls bytes
calls_read number place [] bytes flaw h = ([], bytes, refl, refl)
calls_read number place (call ∷ calls) bytes flaw h =
    let k = calls_read (number + 1) (place + length h.0) calls h.1 flaw h.4 in (
      h.0 ++ k.0,
      k.1,
      h.3 ∙ ap (λ (l : List ℕ). h.0 ++ l) k.2 ∙ sym (append_assoc h.0 k.0 k.1),
      (h.0, k.0, h.2, refl, k.3),
    )

-- ---- flaws

pub inside_by : (over other : Type 0) (flaw : Flaw) → (over → other) → IfInside flaw over → IfInside flaw other
inside_by over other (Inside place) f h = f h
inside_by over other (Bad place) f h = tt
inside_by over other (TooDeep place) f h = tt
inside_by over other (TooLong place) f h = tt
inside_by over other (NoCall place) f h = tt

unfinished_at : (place : ℕ) (held : List ℕ) → IsUnfinished (end_at place held)
unfinished_at place [] = tt
unfinished_at place (b ∷ held) = tt

held_at : (number place : ℕ) (held : List ℕ) → (held ≡ []) ⊎ IsPartial most_depth most_bytes held → EndsAt number place held (end_at place held)
held_at number place [] h = refl
held_at number place (b ∷ held) (inl e) = absurd (omega (arith, ap (length {A = ℕ}) e))
held_at number place (b ∷ held) (inr p) = (refl, omega arith, p)

-- where an intake stands that wants more bytes
pub ends_there : (s : IntakeState) → WantsMore s → (flaw : Option Flaw) × IsUnfinished flaw × EndsAt s.number s.place s.held flaw
ends_there s w = (end_at s.place s.held, unfinished_at s.place s.held, held_at s.number s.place s.held w)

-- ---- what the stream of an intake gives

-- the end of what one holds, as its stream tells it
pub end_told : (s : State) (n : ℕ) (told : Option Flaw) → told ≡ stream_end s → s.flaw ≡ None → (s.held ≡ []) ⊎ IsPartial most_depth most_bytes s.held
    → IsUnfinished told × EndsAt n s.start s.held told
end_told s n told e none w =
    let same : told ≡ end_at s.start s.held = e ∙ ap (λ (o : Option Flaw). option_or o (end_at s.start s.held)) none in
    subst (λ (o : Option Flaw). IsUnfinished o × EndsAt n s.start s.held o) (sym same) (unfinished_at s.start s.held, held_at n s.start s.held w)

within_bounds : (v : Tree) (s : State) (front : List ℕ) → s.depth ≡ most_depth → s.most ≡ most_bytes → SpellsWithin s.depth s.most v front → SpellsWithin most_depth most_bytes v front
within_bounds v s front depth most h =
    let P : ℕ → ℕ → Type 0 = λ d m. SpellsWithin d m v front in
    subst (λ (d : ℕ). P d most_bytes) depth (subst (λ (m : ℕ). P s.depth m) most h)

-- a call was given
pub call_given : (s t : State) (n : ℕ) (call : Call) → s.depth ≡ most_depth → s.most ≡ most_bytes → TakesCall call s t → GivesCall call (intake_of s n) (intake_of t (n + 1))
call_given s t n call depth most h =
    let g = h.1 in
    let within = within_bounds h.0 s g.0 depth most g.2 in
    record {
      front = g.0;
      spelled = record { value = h.0; spelled = within; is_call = h.2 };
      some = has_byte-in s.depth h.0 g.0 g.2.0;
      parts = g.3;
      place = ap (λ (x : State). x.start) g.4;
      number = refl;
      live = ap (λ (x : State). x.flaw) g.4 ∙ g.1;
      short = call_short h.0 g.0 call within h.2;
    }

-- a value that is no call was taken away
pub no_call_given : (s t : State) (n : ℕ) (v : Tree) → s.depth ≡ most_depth → s.most ≡ most_bytes → TakesTree v s t → call_in v ≡ None
    → EndsAt n s.start s.held (Some (NoCall n)) × IfInside (NoCall n) ⊥
no_call_given s t n v depth most g k = (
  (
    refl,
    record {
      value = v;
      front = g.0;
      rest = t.held;
      spelled = within_bounds v s g.0 depth most g.2;
      parts = g.3;
      no_call = k;
    },
  ),
  tt,
)

flaw_here : (flaw : Flaw) (n place : ℕ) (held : List ℕ) → IsFlawAt most_depth most_bytes place held flaw → EndsAt n place held (Some flaw) × IfInside flaw ⊥
flaw_here (Bad at) n place held h = (h, tt)
flaw_here (TooDeep at) n place held h = (h, tt)
flaw_here (TooLong at) n place held h = (h, tt)
flaw_here (Inside at) n place held h = absurd h
flaw_here (NoCall at) n place held h = absurd h

-- the stream met a flaw
pub flaw_given : (flaw : Flaw) (s t : State) (n : ℕ) → s.depth ≡ most_depth → s.most ≡ most_bytes → s.flaw ≡ None → IsAnswer (TheFlaw flaw) s t → EndsAt n s.start s.held (Some flaw) × IfInside flaw ⊥
flaw_given flaw s t n depth most live g =
    let P : ℕ → ℕ → Type 0 = λ d m. IsFlawAt d m s.start s.held flaw in
    let met : IsFlawAt most_depth most_bytes s.start s.held flaw =
    ⊎_elim (λ e. let c : None ≡ Some flaw = sym live ∙ e in cc)
    (λ w. subst (λ (d : ℕ). P d most_bytes) depth (subst (λ (m : ℕ). P s.depth m) most w.1)) g.1 in
    flaw_here flaw n s.start s.held met

-- ---- calls that were given, one after another

-- none
pub gave_none : (s : IntakeState) → GaveCalls [] s.held s s
gave_none s = record { whole = []; spelled = refl; parts = refl; place = omega arith; number = omega arith }

-- none, where nothing has come
pub gave_fresh : (s : IntakeState) → s.held ≡ [] → GaveCalls [] [] s s
gave_fresh s e = subst (λ (l : List ℕ). GaveCalls [] l s s) e (gave_none s)

-- one
pub gave_one : (call : Call) (old new : IntakeState) → GivesCall call old new → GaveCalls (call ∷ []) old.held old new
gave_one call old new g = record {
  whole = g.front;
  spelled = (g.front, [], g.spelled, sym (append-nil g.front), refl);
  parts = g.parts;
  place = g.place;
  number = g.number;
}

-- a piece came
pub gave_fed : (piece : List ℕ) (old new : IntakeState) → new ≡ with_more old piece → GaveCalls [] (old.held ++ piece) old new
gave_fed piece old new e =
    let place : new.place ≡ old.place = ap (λ (x : IntakeState). x.place) e in
    let number : new.number ≡ old.number = ap (λ (x : IntakeState). x.number) e in
    record {
      whole = [];
      spelled = refl;
      parts = sym (ap (λ (x : IntakeState). x.held) e);
      place = omega arith;
      number = omega arith;
    }

-- calls, and then more of what is held with a piece behind it
pub gave_then : (calls more : List Call) (bytes piece : List ℕ) (first second third : IntakeState) → GaveCalls calls bytes first second
    → GaveCalls more (second.held ++ piece) second third → GaveCalls (calls ++ more) (bytes ++ piece) first third
gave_then calls more bytes piece first second third g h =
    let lengths : length (calls ++ more) ≡ length calls + length more = length-append calls more in
    let sizes : length (g.whole ++ h.whole) ≡ length g.whole + length h.whole = length-append g.whole h.whole in
    record {
      whole = g.whole ++ h.whole;
      spelled = calls_then calls more g.whole h.whole g.spelled h.spelled;
      parts = ap (λ (l : List ℕ). l ++ piece) g.parts ∙ append_assoc g.whole second.held piece
          ∙ ap (λ (l : List ℕ). g.whole ++ l) h.parts ∙ sym (append_assoc g.whole h.whole third.held);
      place = omega (arith, g.place, h.place);
      number = omega (arith, g.number, h.number);
    }

-- calls, and then more of what is held
pub gave_on : (calls more : List Call) (bytes : List ℕ) (first second third : IntakeState) → GaveCalls calls bytes first second
    → GaveCalls more second.held second third → GaveCalls (calls ++ more) bytes first third
gave_on calls more bytes first second third g h =
    subst (λ (l : List ℕ). GaveCalls (calls ++ more) l first third) (append-nil bytes)
    (gave_then calls more bytes [] first second third g (subst (λ (l : List ℕ). GaveCalls more l second third) (sym (append-nil second.held)) h))

-- how bytes end, behind the calls that were given of them
pub reads_behind : (calls more : List Call) (bytes piece : List ℕ) (flaw : Option Flaw) (first second : IntakeState) → GaveCalls calls bytes first second
    → ReadsFrom second.number second.place more (second.held ++ piece) flaw → ReadsFrom first.number first.place (calls ++ more) (bytes ++ piece) flaw
reads_behind calls more bytes piece flaw first second g h =
    let split : bytes ++ piece ≡ g.whole ++ (second.held ++ piece) =
    ap (λ (l : List ℕ). l ++ piece) g.parts ∙ append_assoc g.whole second.held piece in
    subst (λ (l : List ℕ). ReadsFrom first.number first.place (calls ++ more) l flaw) (sym split)
    (reads_then first.number first.place calls more g.whole (second.held ++ piece) flaw g.spelled
    (reads_at second.number (first.number + length calls) second.place (first.place + length g.whole) more (second.held ++ piece) flaw g.number g.place h))

-- and with nothing more behind them
pub reads_on : (calls : List Call) (bytes : List ℕ) (flaw : Option Flaw) (first second : IntakeState) → GaveCalls calls bytes first second
    → EndsAt second.number second.place second.held flaw → ReadsFrom first.number first.place calls bytes flaw
reads_on calls bytes flaw first second g h =
    let E : List Call → List ℕ → Type 0 = λ cs l. ReadsFrom first.number first.place cs l flaw in
    subst (λ (cs : List Call). E cs bytes) (append-nil calls)
    (subst (λ (l : List ℕ). E (calls ++ []) l) (append-nil bytes)
    (reads_behind calls [] bytes [] flaw first second g (subst (λ (l : List ℕ). EndsAt second.number second.place l flaw) (sym (append-nil second.held)) h)))

-- bytes that begin with calls, behind those that were given
pub parts_behind : (calls : List Call) (bytes piece whole rest : List ℕ) (first second : IntakeState) (g : GaveCalls calls bytes first second) → second.held ++ piece ≡ whole ++ rest → bytes ++ piece ≡ (g.whole ++ whole) ++ rest
parts_behind calls bytes piece whole rest first second g e =
    ap (λ (l : List ℕ). l ++ piece) g.parts ∙ append_assoc g.whole second.held piece ∙ ap (λ (l : List ℕ). g.whole ++ l) e ∙ sym (append_assoc g.whole whole rest)

pub begins_behind : (calls more : List Call) (bytes piece : List ℕ) (first second : IntakeState) → GaveCalls calls bytes first second → BeginWithCalls more (second.held ++ piece) → BeginWithCalls (calls ++ more) (bytes ++ piece)
begins_behind calls more bytes piece first second g h =
    (g.whole ++ h.0, h.1, parts_behind calls bytes piece h.0 h.1 first second g h.2, calls_then calls more g.whole h.0 g.spelled h.3)

-- ---- how many bytes came

pub came_more : (calls : List Call) (piece : List ℕ) (old new : IntakeState) → GaveCalls calls (old.held ++ piece) old new → came new ≡ came old + length piece
came_more calls piece old new h = omega (arith, h.place, ap (length {A = ℕ}) h.parts, length-append h.whole new.held, length-append old.held piece)

pub came_all : (calls : List Call) (bytes : List ℕ) (old new : IntakeState) → old.place ≡ 0 → GaveCalls calls bytes old new → length bytes ≡ came new
came_all calls bytes old new n h = omega (arith, n, h.place, ap (length {A = ℕ}) h.parts, length-append h.whole new.held)

-- what one read gave, as bytes
pub gave_piece : (u v : SourceWords) (piece : List ℕ) → GaveEach u v (piece ∷ []) → Gave u.taken v.taken u.left v.left piece
gave_piece u v piece h = subst (λ (l : List ℕ). Gave u.taken v.taken u.left v.left l) (append-nil piece) h.gave
