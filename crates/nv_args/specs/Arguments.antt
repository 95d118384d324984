-- What the arguments of a call give, by the types of the API (Neovim help `api-types`).
use Rattle.std.specs.Prelude.{ℕ, suc, ℤ, pos, negsuc, ◌-◌, ◌==◌, Bool, true, false, not, ◌&&◌, ◌||◌, List, [], ◌∷◌, min, nat_lt, bytes_eq, Option, Some, None, unwrap_or, Result, Ok, Err, if◌then◌else◌}
use Rattle.std.specs.List.{list_any}
use Rattle.nv_value.specs.Content.{Tree, Trees, truth, integer, text, bin, list, pairs, no_more, one}
use Rattle.nv_value.specs.declared.fault.ApiFault.{ApiFault}

-- the values of a list, one by one
abbrev pub tree_list : Trees → List Tree
tree_list no_more = []
tree_list (one t ts) = t ∷ tree_list ts

-- Boolean: a truth value, or an integer, which is true where it isn't 0
abbrev pub truth_in : Tree → Option Bool
truth_in (truth b) = Some b
truth_in (integer (pos n)) = Some (not (n == 0))
truth_in (integer (negsuc n)) = Some true
truth_in _ = None

-- String: a text or a bin
abbrev pub string_in : Tree → Option (List ℕ)
string_in (text bytes) = Some bytes
string_in (bin bytes) = Some bytes
string_in _ = None

-- a further string, where there is one, before some
abbrev pub with_string : Option (List ℕ) → Option (List (List ℕ)) → Option (List (List ℕ))
with_string (Some string) (Some strings) = Some (string ∷ strings)
with_string _ _ = None

-- the strings of a list
abbrev pub strings_in : Trees → Option (List (List ℕ))
strings_in no_more = Some []
strings_in (one t ts) = with_string (string_in t) (strings_in ts)

-- keys with their values, from those of a map in turn
abbrev pub keys_with_values : Trees → List (Tree × Tree)
keys_with_values no_more = []
keys_with_values (one key no_more) = []
keys_with_values (one key (one value ts)) = (key, value) ∷ keys_with_values ts

-- Dict: the pairs of a map; an empty list is none
abbrev pub pairs_in : Tree → Option (List (Tree × Tree))
pairs_in (pairs ts) = Some (keys_with_values ts)
pairs_in (list no_more) = Some []
pairs_in _ = None

-- the answer that goes on with what an argument gives, or the fault of one that gives nothing
abbrev pub require : {A B : Type 0} → Option A → ApiFault → (A → Result B ApiFault)
    → Result B ApiFault
require (Some a) fault next = next a
require None fault next = Err fault

-- the answer that goes on with what a step gives, or the step's fault
abbrev pub answer_after : {A B : Type 0} → Result A ApiFault → (A → Result B ApiFault)
    → Result B ApiFault
answer_after (Ok a) next = next a
answer_after (Err fault) next = Err fault

-- the fault where this holds, or else the answer that follows
abbrev pub refuse : {B : Type 0} → Bool → ApiFault → Result B ApiFault → Result B ApiFault
refuse true fault next = Err fault
refuse false fault next = next

-- whether two keys are one: strings of the same bytes
abbrev pub is_same : Option (List ℕ) → Option (List ℕ) → Bool
is_same (Some key) (Some other) = bytes_eq key other
is_same _ _ = false

-- the pairs that count: of those with one key the last
abbrev pub last_pairs : List (Tree × Tree) → List (Tree × Tree)
last_pairs [] = []
last_pairs (pair ∷ more) =
    if list_any (λ other. is_same (string_in pair.0) (string_in other.0)) more then last_pairs more
    else pair ∷ last_pairs more

-- the name of the first key, empty where it is no string
abbrev pub first_key : List (Tree × Tree) → List ℕ
first_key [] = []
first_key (pair ∷ more) = unwrap_or (string_in pair.0) []

-- whether an index lies outside 0 to the number of lines; a negative one counts from behind the
-- last line, -1 being the number of lines (Neovim help `api-indexing`)
abbrev pub is_outside : ℤ → ℕ → Bool
is_outside (pos index) lines = nat_lt lines index
is_outside (negsuc index) lines = nat_lt lines index

-- the row that an index names, the nearest one where it lies outside
abbrev pub row_of_index : ℤ → ℕ → ℕ
row_of_index (pos index) lines = min index lines
row_of_index (negsuc index) lines = lines - index

-- whether a range leaves a text of so many lines: where it is strict, and one of its indices lies
-- outside
abbrev pub leaves_text : Bool → ℤ → ℤ → ℕ → Bool
leaves_text strict start end lines = strict && (is_outside start lines || is_outside end lines)

-- the row that a number names, if any: a negative one counts from behind the last row, -1 being the
-- last (Neovim help `nvim_buf_get_text()`)
abbrev pub text_row : ℤ → ℕ → Option ℕ
text_row (pos row) lines = if nat_lt row lines then Some row else None
text_row (negsuc row) lines = if nat_lt row lines then Some (lines - suc row) else None

-- the column that a number names in a line of so many bytes, if any: a negative one counts from
-- behind its end, -1 being its length
abbrev pub text_col : ℤ → ℕ → Option ℕ
text_col (pos col) bytes = if nat_lt bytes col then None else Some col
text_col (negsuc col) bytes = if nat_lt bytes col then None else Some (bytes - col)
