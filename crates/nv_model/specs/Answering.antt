-- Words that rows are made of.
use Prim.Native.String.{String}
use Rattle.std.specs.Prelude.{ℕ, ℤ, pos, ◌+◌, List, [], ◌∷◌, map, codes, Option, Some, None, if◌then◌else◌}
use Rattle.nv_places.specs.Flat.{flat}
use Rattle.nv_value.specs.Content.{Tree, nil, integer, text, list, trees_of, pairs, in_turn}
use Rattle.nv_value.specs.declared.fault.ApiFault.{ApiFault}
use Rattle.nv_buffer.specs.declared.buffer.Spliced.{Spliced}
use Rattle.nv_marks.specs.declared.extmark.Mark.{Mark}
use Rattle.nv_model.specs.Buffers.{Splice, is_empty_splice, splice_event}
use Rattle.nv_model.specs.Seen.{SeenBuffer}
use Rattle.nv_model.specs.Operations.{Operation, mark_removed, spliced}
use Rattle.nv_model.specs.Answers.{Answer, edited, refused, replied}

-- a reply that does nothing and tells nothing
abbrev pub reply_of : Tree → Answer
reply_of t = replied t [] []

-- the fault, where there is one, else the answer
abbrev pub fault_or : Option ApiFault → Answer → Answer
fault_or (Some fault) answer = refused fault
fault_or None answer = answer

-- values as an Array
abbrev pub array_of : List Tree → Tree
array_of ts = list (trees_of ts)

-- a number of at least 0 as an Integer, and a word as a String
abbrev pub natural : ℕ → Tree
natural n = integer (pos n)

abbrev pub word : String → Tree
word w = text (codes w)

-- a key with its value, and such pairs as a Dict
abbrev pub key_value : String → Tree → Tree × Tree
key_value key value = (word key, value)

abbrev pub dict_of : List (Tree × Tree) → Tree
dict_of entries = pairs (in_turn entries)

-- marks of a buffer removed one after another
abbrev pub removal_operations : ℤ → List Mark → List Operation
removal_operations n marks = map (λ m. mark_removed n m.ns m.id) marks

-- what is told of a splice of a buffer
abbrev pub event_of_splice : SeenBuffer → Splice → Spliced
event_of_splice b s = splice_event (flat b.lines) (b.tick + 1) s

-- what a splice of a buffer does and tells: nothing where it is none
abbrev pub splice_answer : ℤ → SeenBuffer → Splice → Answer
splice_answer n b s =
    if is_empty_splice s then reply_of nil
    else replied nil (spliced n s ∷ []) (edited n (event_of_splice b s) ∷ [])
