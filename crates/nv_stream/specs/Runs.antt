-- Whole runs of a stream: pieces are fed and answers given, in any order. How values are spelled is
-- the MessagePack specification's; cuts and ends are own rules.
use Rattle.std.specs.Prelude.{ℕ, ◌<◌, ◌≤◌, ◌≡◌, List, [], ◌∷◌, ◌++◌, length, Option, Some, None}
use Rattle.nv_value.specs.Content.{Tree, trees_of}
use Rattle.nv_value.specs.View.{content}
use Rattle.nv_msgpack.specs.Spelling.{Each}
use Rattle.nv_msgpack.specs.Within.{SpellsWithin, IsPartial}
use Rattle.nv_io.specs.declared.lanes.Flaw.{Flaw}
use Rattle.nv_io.specs.declared.lanes.Flaw.TheVariants.{Inside}
use Rattle.nv_stream.specs.State.{State, empty_state, with_piece, stream_end}
use Rattle.nv_stream.specs.Answers.{IsAnswer, IsFlawAt}
use Rattle.nv_stream.specs.declared.stream.Next.{Next}
use Rattle.nv_stream.specs.declared.stream.Next.TheVariants.{Value as TheValue, More as AskMore, Flaw as TheFlaw}

-- A step of a run: a piece is fed, or an answer given.
pub data StreamStep : Type 0 where
  feeds : List ℕ → StreamStep
  gives_answer : Next → StreamStep

-- What a step may do.
abbrev pub Takes : StreamStep → State → State → Type 0
Takes (feeds piece) old new = new ≡ with_piece old piece
Takes (gives_answer next) old new = IsAnswer next old new

-- The steps lead from one state to another.
abbrev pub Follows : List StreamStep → State → State → Type 0
Follows [] old new = new ≡ old
Follows (step ∷ steps) old new = (middle : State) × Takes step old middle × Follows steps middle new

-- The bytes that a step feeds.
abbrev pub piece_of : StreamStep → List ℕ
piece_of (feeds piece) = piece
piece_of (gives_answer next) = []

-- All that was fed.
abbrev pub stream_of : List StreamStep → List ℕ
stream_of [] = []
stream_of (step ∷ steps) = piece_of step ++ stream_of steps

-- The value that an answer gives.
abbrev pub values_of_answer : Next → List Tree
values_of_answer (TheValue v) = content v ∷ []
values_of_answer AskMore = []
values_of_answer (TheFlaw f) = []

-- The value that a step gives.
abbrev pub values_of_step : StreamStep → List Tree
values_of_step (feeds piece) = []
values_of_step (gives_answer next) = values_of_answer next

-- All values that were given, in order.
abbrev pub values_of_steps : List StreamStep → List Tree
values_of_steps [] = []
values_of_steps (step ∷ steps) = values_of_step step ++ values_of_steps steps

-- The rest of a stream, from the place at on, ends with this flaw, or inside a value that begins at
-- its front.
abbrev pub EndsWith : ℕ → ℕ → ℕ → List ℕ → Flaw → Type 0
EndsWith depth most at rest (Inside place) =
    (place ≡ at) × (0 < length rest) × IsPartial depth most rest
EndsWith depth most at rest f = IsFlawAt depth most at rest f

-- The rest of a stream, from the place at on, is empty, or ends with a flaw or inside a value.
abbrev pub Ends : ℕ → ℕ → ℕ → List ℕ → Option Flaw → Type 0
Ends depth most at rest None = rest ≡ []
Ends depth most at rest (Some f) = EndsWith depth most at rest f

-- The cut of a stream: the values that are spelled one after another from its front, and the end of
-- what then rests.
abbrev pub HasCut : ℕ → ℕ → List ℕ → List Tree → Option Flaw → Type 0
HasCut depth most stream values end =
    (front rest : List ℕ) × Each (SpellsWithin depth most) (trees_of values) front
    × (stream ≡ front ++ rest)
    × Ends depth most (length front) rest end

-- The values are spelled one after another from the front of the stream, up to this place, where
-- this begins.
abbrev pub HasFront : ℕ → ℕ → List ℕ → List Tree → ℕ → List ℕ → Type 0
HasFront depth most stream values at rest =
    (front : List ℕ) × Each (SpellsWithin depth most) (trees_of values) front
    × (stream ≡ front ++ rest) × (at ≡ length front)

-- What an answer says of all that was fed and given before it: a value is the next one, `More` and
-- a flaw are the end of the cut.
abbrev pub Says : ℕ → ℕ → List ℕ → List Tree → Next → State → Type 0
Says depth most stream values (TheValue v) s =
    HasFront depth most stream (values ++ content v ∷ []) s.start s.held
Says depth most stream values AskMore s = HasCut depth most stream values (stream_end s)
Says depth most stream values (TheFlaw f) s = HasCut depth most stream values (Some f)

-- However a stream was cut into pieces, each answer is that of the cut of all that was fed.
abbrev pub RunsAreCuts : Type 0
RunsAreCuts =
    (depth most : ℕ) (steps : List StreamStep) (next : Next) (before after : State) → 1 ≤ most
    → Follows steps (empty_state depth most) before → IsAnswer next before after
    → Says depth most (stream_of steps) (values_of_steps steps) next after

-- A stream has one cut: its values and its end.
abbrev pub StreamsHaveOneEnd : Type 0
StreamsHaveOneEnd = (depth most : ℕ) (stream : List ℕ) (values others : List Tree)
    (end other : Option Flaw) → 1 ≤ most
    → HasCut depth most stream values end → HasCut depth most stream others other
    → (values ≡ others) × (end ≡ other)

-- A step answers with this flaw, if it answers.
abbrev pub AnswersOnly : Flaw → StreamStep → Type 0
AnswersOnly f (feeds piece) = Unit {0}
AnswersOnly f (gives_answer next) = next ≡ TheFlaw f

-- All steps answer with this flaw, if they answer.
abbrev pub AllAnswer : Flaw → List StreamStep → Type 0
AllAnswer f [] = Unit {0}
AllAnswer f (step ∷ steps) = AnswersOnly f step × AllAnswer f steps

-- A flaw that was met stays the answer for good.
abbrev pub FlawsStay : Type 0
FlawsStay = (f : Flaw) (steps : List StreamStep) (old new : State) → old.flaw ≡ Some f
    → Follows steps old new → AllAnswer f steps × (new.flaw ≡ Some f)

-- An answer as its caller sees it: the content of a value, more is needed, or a flaw.
pub data SeenAnswer : Type 0 where
  a_value : Tree → SeenAnswer
  no_value_yet : SeenAnswer
  a_flaw : Flaw → SeenAnswer

-- What the caller sees of an answer.
abbrev pub seen_answer : Next → SeenAnswer
seen_answer (TheValue v) = a_value (content v)
seen_answer AskMore = no_value_yet
seen_answer (TheFlaw f) = a_flaw f

-- From a state a stream has one answer alone, and one state behind it.
abbrev pub AnswersAreOne : Type 0
AnswersAreOne = (next other : Next) (old new newer : State) → 1 ≤ old.most → IsAnswer next old new
    → IsAnswer other old newer → (seen_answer next ≡ seen_answer other) × (new ≡ newer)
