-- inside: what the steps of the decoder give: the parts of a reading, at places counted from the
-- first byte of the text.
use Rattle.std.specs.Prelude.{ℕ, ◌+◌, ◌*◌, ◌≡◌, nat_lt, if◌then◌else◌, List, [], ◌∷◌, ◌++◌, length, take, drop, Result, Ok, Err}
use Rattle.nv_value.specs.Content.{Tree}
use Rattle.nv_value.specs.View.{content}
use Rattle.nv_value.specs.declared.value.Value.{Value}
use Rattle.nv_msgpack.specs.declared.stop.Fault.{Fault}
use Rattle.nv_msgpack.specs.declared.stop.Fault.TheVariants as faults
use Rattle.nv_msgpack.specs.declared.stop.Stop.{Stop}
use Rattle.nv_msgpack.specs.declared.stop.Stop.TheVariants as stops
use Rattle.nv_msgpack.specs.Spelling.{Size, width, number_in}
use Rattle.nv_msgpack.specs.Reading.{Flaw, bad, too_deep, too_long, Reading, whole, more, flawed}

abbrev pub flaw_of : Fault → Flaw
flaw_of faults.Bad = bad
flaw_of faults.TooDeep = too_deep
flaw_of faults.TooLong = too_long

-- A step stopped where the reading has no value. Want of memory says nothing of the reading.
abbrev pub Stops : {A : Type 0} → Stop → Reading A → Type 0
Stops stops.NoMemory reading = Unit {0}
Stops stops.NeedsMore reading = reading ≡ more
Stops (stops.Flawed fault place) reading = reading ≡ flawed (flaw_of fault) place

-- A step gave what the reading gives, as seen by view, and the place behind it.
abbrev pub Gives : {X A : Type 0} → (X → A) → Result (X × ℕ) Stop → Reading A → Type 0
Gives view (Ok found) reading = reading ≡ whole (view found.0) found.1
Gives view (Err stop) reading = Stops stop reading

-- A step added what the reading gives at the end of the values, and gave the place behind it.
abbrev pub Adds : List Value → List Value → Result ℕ Stop → Reading Tree → Type 0
Adds old new (Ok end) reading =
    (value : Value) × (new ≡ old ++ value ∷ []) × (reading ≡ whole (content value) end)
Adds old new (Err stop) reading = Stops stop reading

-- The bytes behind a length, and so many more.
abbrev pub payload_at : Size → ℕ → ℕ → List ℕ → Reading (List ℕ)
payload_at s extra room rest =
    let least = 1 + width s + (number_in s rest + extra) in
    if nat_lt room least then flawed too_long 0 else
    if nat_lt (1 + length rest) least then more else
    whole (take (number_in s rest + extra) (drop (width s) rest)) least

-- The length of a list or map, whose every entry is so many values.
abbrev pub head_at : ℕ → Size → ℕ → List ℕ → Reading ℕ
head_at each s room rest =
    let head = 1 + width s in
    if nat_lt room (head + each * number_in s rest) then flawed too_long 0 else
    if nat_lt (length rest) (width s) then more else
    whole (number_in s rest) head
