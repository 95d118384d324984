-- The parts of a virtual text among values, one after another.
use Rattle.std.proofs.Common.{◌≡◌, ◌≢◌, ◌==◌, subst, ◌<◌, ◌≤◌, ◌+◌, ◌∙◌, ℕ, suc, Bool, true, false, List, [], ◌∷◌, ◌++◌, length, drop, drop-cons, get_or, map, refl, sym, ap, append_assoc, append-nil, arith, Option, Some, None, All, IfSome}
use Rattle.std.specs.Prelude.{flat_map, option_to_list, ◌||◌}
use Rattle.std.specs.List.{list_any}
use Rattle.std.specs.Option.{option_map_or}
use Rattle.std.proofs.lemmas.Bool.{true≢false}
use Rattle.std.proofs.lemmas.Bool.Decides.{nat_tests}
use Rattle.std.proofs.lemmas.List.{drop_all, map-append}
use Rattle.std.proofs.lemmas.List.Elements.{All-cons, All-nil}
use Rattle.nv_places.specs.Flat.{IsLine}
use Rattle.nv_value.specs.Content.{Tree}
use Rattle.nv_value.specs.View.{content}
use Rattle.nv_value.specs.declared.value.Value.{Value}
use Rattle.nv_args.specs.Chunks.{GivenChunk, chunk_in}
use Rattle.nv_args.specs.Texts.{has_newline}
use Rattle.nv_hl.specs.Groups.{NamedGroup}
use Rattle.nv_notes.specs.declared.note.Chunk.{Chunk}
use Rattle.nv_api_mark.specs.Setting.{chunk_with}
use Rattle.nv_api_mark.specs.inside.Marking.{IsLineOfChunk}

abbrev part_of : Tree → List GivenChunk
part_of t = option_to_list (chunk_in t)

abbrev pub parts_from : List Value → ℕ → List GivenChunk
parts_from vs k = flat_map part_of (map content (drop k vs))

pub next_part : (vs : List Value) (k : ℕ) (v : Value) → k < length vs → v ≡ get_or vs k v
    → parts_from vs k ≡ option_to_list (chunk_in (content v)) ++ parts_from vs (k + 1)
next_part vs k v lt at =
    let next : suc k ≡ k + 1 = omega arith in
    ap (λ us. flat_map part_of (map content us)) (drop-cons vs k v lt)
    ∙ (λ i. part_of (content (sym at i)) ++ parts_from vs (next i))

pub no_part : (vs : List Value) (k : ℕ) → length vs ≤ k → parts_from vs k ≡ []
no_part vs k past = ap (λ us. flat_map part_of (map content us)) (drop_all k vs past)

-- ---- line feeds

abbrev breaks : GivenChunk → Bool
breaks c = has_newline c.0

first_breaks : (o : Option GivenChunk) (cs : List GivenChunk)
    → list_any breaks (option_to_list o ++ cs) ≡ (option_map_or breaks o false || list_any breaks cs)
first_breaks None cs = refl
first_breaks (Some c) cs = refl

pub breaks_from : (vs : List Value) (k : ℕ) (v : Value) → k < length vs → v ≡ get_or vs k v
    → list_any breaks (parts_from vs k) ≡ (option_map_or breaks (chunk_in (content v)) false || list_any breaks (parts_from vs (k + 1)))
breaks_from vs k v lt at = ap (list_any breaks) (next_part vs k v lt at) ∙ first_breaks (chunk_in (content v)) (parts_from vs (k + 1))

pub breaks_here : (vs : List Value) (k : ℕ) (v : Value) → k < length vs → v ≡ get_or vs k v → option_map_or breaks (chunk_in (content v)) false ≡ true
    → list_any breaks (parts_from vs k) ≡ true
breaks_here vs k v lt at here = breaks_from vs k v lt at ∙ ap (λ b. b || list_any breaks (parts_from vs (k + 1))) here

pub breaks_later : (vs : List Value) (k : ℕ) (v : Value) → k < length vs → v ≡ get_or vs k v → option_map_or breaks (chunk_in (content v)) false ≡ false
    → list_any breaks (parts_from vs k) ≡ list_any breaks (parts_from vs (k + 1))
breaks_later vs k v lt at here = breaks_from vs k v lt at ∙ ap (λ b. b || list_any breaks (parts_from vs (k + 1))) here

-- none of those from one on has a line feed, so that one has none
or_left : (a b : Bool) → (a || b) ≡ false → a ≡ false
or_left true b none = none
or_left false b none = refl

or_right : (a b : Bool) → (a || b) ≡ false → b ≡ false
or_right true b none = absurd (true≢false none)
or_right false b none = none

line_by : (o : Option GivenChunk) → option_map_or breaks o false ≡ false → IfSome o (λ c. has_newline c.0 ≡ false)
line_by None none = tt
line_by (Some c) none = none

pub line_here : (vs : List Value) (k : ℕ) (v : Value) → k < length vs → v ≡ get_or vs k v → list_any breaks (parts_from vs k) ≡ false → IsLineOfChunk (content v)
line_here vs k v lt at none = line_by (chunk_in (content v)) (or_left _ _ (sym (breaks_from vs k v lt at) ∙ none))

pub lines_later : (vs : List Value) (k : ℕ) (v : Value) → k < length vs → v ≡ get_or vs k v → list_any breaks (parts_from vs k) ≡ false
    → list_any breaks (parts_from vs (k + 1)) ≡ false
lines_later vs k v lt at none = or_right _ _ (sym (breaks_from vs k v lt at) ∙ none)

-- bytes among which there is no line feed are a line
pub line_of : (bytes : List ℕ) → has_newline bytes ≡ false → IsLine bytes
line_of [] none = All-nil (λ b. b ≢ 10)
line_of (b ∷ bytes) none =
    let first : (b == 10) ≡ false = or_left (b == 10) (has_newline bytes) none in
    All-cons (λ b. b ≢ 10) b bytes (grind (arith, nat_tests, first)) (line_of bytes (or_right (b == 10) (has_newline bytes) none))

-- the text of a part that was found
pub line_of_part : (t : Tree) (c : GivenChunk) → chunk_in t ≡ Some c → IsLineOfChunk t → IsLine c.0
line_of_part t c is line = line_of c.0 (subst (λ (o : Option GivenChunk). IfSome o (λ d. has_newline d.0 ≡ false)) is line)

-- ---- the parts of a text that is put

pub part_put : (gs : List NamedGroup) (vs : List Value) (k : ℕ) (v : Value) (old new goal : List Chunk) → k < length vs → v ≡ get_or vs k v
    → new ≡ old ++ map (chunk_with gs) (option_to_list (chunk_in (content v)))
    → old ++ map (chunk_with gs) (parts_from vs k) ≡ goal → new ++ map (chunk_with gs) (parts_from vs (k + 1)) ≡ goal
part_put gs vs k v old new goal lt at put before =
    let here = option_to_list (chunk_in (content v)) in
    let rest = parts_from vs (k + 1) in
    ap (λ cs. cs ++ map (chunk_with gs) rest) put
    ∙ append_assoc old (map (chunk_with gs) here) (map (chunk_with gs) rest)
    ∙ ap (λ cs. old ++ cs) (sym (map-append (chunk_with gs) here rest))
    ∙ ap (λ ps. old ++ map (chunk_with gs) ps) (sym (next_part vs k v lt at))
    ∙ before

pub parts_put : (gs : List NamedGroup) (vs : List Value) (k : ℕ) (old goal : List Chunk) → length vs ≤ k
    → old ++ map (chunk_with gs) (parts_from vs k) ≡ goal → old ≡ goal
parts_put gs vs k old goal past before =
    sym (append-nil old) ∙ ap (λ ps. old ++ map (chunk_with gs) ps) (sym (no_part vs k past)) ∙ before
