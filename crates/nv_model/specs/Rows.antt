-- Rows of a table of methods: what each answers, and what its answers tell.
use Prim.Native.String.{String}
use Rattle.std.specs.Prelude.{◌≡◌, ℕ, ℤ, List, [], ◌∷◌, flat_map, codes, ⊤, if◌then◌else◌}
use Rattle.std.specs.Option.{option_map_or}
use Rattle.std.specs.Ordering.{int_eq}
use Rattle.nv_places.specs.Flat.{flat}
use Rattle.nv_args.specs.Reading.{Arg}
use Rattle.nv_buffer.specs.declared.buffer.Spliced.{Spliced}
use Rattle.nv_model.specs.Buffers.{splice_events}
use Rattle.nv_model.specs.Seen.{Seen}
use Rattle.nv_model.specs.Answers.{Answer, Fact, refused, replied, edited}
use Rattle.nv_model.specs.Laws.{splices_among}

-- what a method answers to a session by what is seen of the editor, its arguments read
abbrev pub Row : Type 0
Row = Seen → ℕ → List Arg → Answer

-- a method's name and its row
abbrev pub row : String → Row → List ℕ × Row
row name answer = (codes name, answer)

-- the splice of the buffer of a handle that a fact tells of
abbrev pub edits_in : ℤ → Fact → List Spliced
edits_in n (edited k event) = if int_eq k n then event ∷ [] else []
edits_in n _ = []

-- the splices of the buffer of a handle that facts tell of, in order
abbrev pub edits_among : ℤ → List Fact → List Spliced
edits_among n facts = flat_map (edits_in n) facts

-- the flat text and the changedtick that are seen of a buffer
abbrev pub text_seen : Seen → ℤ → List ℕ
text_seen s n = option_map_or (λ b. flat b.lines) (s.buffer n) []

abbrev pub tick_seen : Seen → ℤ → ℕ
tick_seen s n = option_map_or (λ b. b.tick) (s.buffer n) 0

-- what an answer tells of each buffer is its splices, one event for each, in order, with the
-- changedtick counted up
unfoldable pub TellsSplices : Seen → Answer → Type 0
TellsSplices s (refused fault) = ⊤
TellsSplices s (replied result operations facts) =
    (n : ℤ) → edits_among n facts
    ≡ splice_events (text_seen s n) (tick_seen s n) (splices_among n operations)

-- so does each answer of a row
abbrev pub RowTells : Row → Type 0
RowTells row = (s : Seen) (session : ℕ) (args : List Arg) → TellsSplices s (row s session args)
