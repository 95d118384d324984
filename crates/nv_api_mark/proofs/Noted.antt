-- A virtual text is put once its groups are there.
use Rattle.std.proofs.Common.{◌≡◌, ◌∙◌, ℕ, ℤ, Bool, true, List, [], ◌∷◌, ◌++◌, map, refl, sym, ap, subst, Option, Some, None, All, IfSome, is_some, unwrap_or}
use Rattle.std.specs.Prelude.{flat_map, option_map, option_to_list}
use Rattle.std.proofs.lemmas.List.Elements.{All-cons, All-head, All-map, All-nil, All-tail}
use Rattle.nv_value.specs.Content.{Tree}
use Rattle.nv_args.specs.Chunks.{GivenChunk, chunk_in, names_of_chunks}
use Rattle.nv_hl.specs.Groups.{HasGroup, NamedGroup, empty_group, known_id}
use Rattle.nv_hl.proofs.GroupLemmas.{known_has, stays_known}
use Rattle.nv_marks.specs.declared.extmark.Mark.{Mark}
use Rattle.nv_marks.specs.declared.extmark.Paint.{Paint}
use Rattle.nv_model.specs.Operations.{Operation, mark_set}
use Rattle.nv_model.specs.Standing.{PresentEditor}
use Rattle.nv_editor.specs.Doing.{Does}
use Rattle.nv_editor.proofs.Replaced.{does_both}
use Rattle.nv_notes.specs.Notes.{IsChunkOf, IsNoteOf}
use Rattle.nv_api_mark.specs.Groups.{groups_of_names, groups_with, names_operations}
use Rattle.nv_api_mark.specs.Setting.{chunk_with, group_name, group_names, note_with, text_chunks}
use Rattle.nv_api_mark.specs.inside.Marking.{names_among}
use Rattle.nv_api_mark.proofs.GroupsNamed.{named_there}
use Rattle.nv_api_mark.proofs.Wanted.{groups_append, has_after, operations_append}

-- ---- the groups of names are there

abbrev IsKnown : List NamedGroup → List ℕ → Type 0
IsKnown gs name = is_some (known_id gs name) ≡ true

stays_among : (gs : List NamedGroup) (ns : List (List ℕ)) (name : List ℕ) → IsKnown gs name → IsKnown (groups_of_names gs ns) name
stays_among gs [] name known = known
stays_among gs (n ∷ ns) name known = stays_among (groups_with gs n) ns name (stays_known gs (empty_group n) name known)

all_known : (gs : List NamedGroup) (ns : List (List ℕ)) → All (IsKnown (groups_of_names gs ns)) ns
all_known gs [] = All-nil (IsKnown gs)
all_known gs (n ∷ ns) = All-cons (IsKnown (groups_of_names (groups_with gs n) ns)) n ns (stays_among (groups_with gs n) ns n (named_there gs n)) (all_known (groups_with gs n) ns)

behind : (P : List ℕ → Type 0) (ns ms : List (List ℕ)) → All P (ns ++ ms) → All P ms
behind P [] ms all = all
behind P (n ∷ ns) ms all = behind P ns ms (All-tail P n (ns ++ ms) all)

chunk_has : (gs : List NamedGroup) (c : GivenChunk) (rest : List (List ℕ)) → All (IsKnown gs) (option_to_list c.1 ++ rest) → IsChunkOf gs (chunk_with gs c)
chunk_has gs c rest = by c.1
  where
    by : (o : Option (List ℕ)) → All (IsKnown gs) (option_to_list o ++ rest)
        → IfSome (option_map (λ name. unwrap_or (known_id gs name) 0) o) (HasGroup gs)
    by None all = tt
    by (Some name) all = known_has gs name (All-head (IsKnown gs) name rest all)

chunks_have : (gs : List NamedGroup) (cs : List GivenChunk) → All (IsKnown gs) (names_of_chunks cs) → All (λ c. IsChunkOf gs (chunk_with gs c)) cs
chunks_have gs [] all = All-nil (λ c. IsChunkOf gs (chunk_with gs c))
chunks_have gs (c ∷ cs) all =
    All-cons (λ d. IsChunkOf gs (chunk_with gs d)) c cs (chunk_has gs c (names_of_chunks cs) all)
    (chunks_have gs cs (behind (IsKnown gs) (option_to_list c.1) (names_of_chunks cs) all))

-- a virtual text has groups that are there
pub note_has : (gs now : List NamedGroup) (pairs : List (Tree × Tree)) → now ≡ groups_of_names gs (group_names pairs) → IsNoteOf now (note_with now pairs)
note_has gs now pairs is =
    let cs = text_chunks pairs in
    let all : All (IsKnown now) (group_names pairs) =
    subst (λ (hs : List NamedGroup). All (IsKnown hs) (group_names pairs)) (sym is) (all_known gs (group_names pairs)) in
    All-map (IsChunkOf now) (chunk_with now) cs (chunks_have now cs (behind (IsKnown now) (option_to_list (group_name pairs)) (names_of_chunks cs) all))

-- and so is that of what the mark shows, if it was
pub shown_there : (gs new : List NamedGroup) (ns : List (List ℕ)) (id : Option ℕ) (eol : Bool) → new ≡ groups_of_names gs ns → IfSome id (HasGroup gs)
    → IfSome (option_map (λ n. record { group = n; eol = eol }) id) (λ (p : Paint). HasGroup new p.group)
shown_there gs new ns None eol is there = tt
shown_there gs new ns (Some n) eol is there = has_after gs new ns n is there

-- ---- what was done

-- the groups once those of what a mark shows and of its virtual text were made
pub groups_made : (gs one two : List NamedGroup) (pairs : List (Tree × Tree)) (ts : List Tree)
    → ◌≡◌ {A = List GivenChunk} (flat_map (λ t. option_to_list (chunk_in t)) ts) (text_chunks pairs)
    → one ≡ groups_of_names gs (option_to_list (group_name pairs)) → two ≡ groups_of_names one (names_among ts)
    → two ≡ groups_of_names gs (group_names pairs)
groups_made gs one two pairs ts parts first made =
    made
    ∙ (λ i. groups_of_names (first i) (names_of_chunks (parts i)))
    ∙ sym (groups_append gs (option_to_list (group_name pairs)) (names_of_chunks (text_chunks pairs)))

pub all_done : (gs one : List NamedGroup) (n : ℤ) (set : ℕ) (m : Mark) (pairs : List (Tree × Tree)) (ts : List Tree) (notes : List Operation) (a b c d e : PresentEditor)
    → ◌≡◌ {A = List GivenChunk} (flat_map (λ t. option_to_list (chunk_in t)) ts) (text_chunks pairs)
    → one ≡ groups_of_names gs (option_to_list (group_name pairs))
    → Does (names_operations gs (option_to_list (group_name pairs))) a b → Does (names_operations one (names_among ts)) b c
    → Does (mark_set n m ∷ []) c d → Does notes d e
    → Does (names_operations gs (group_names pairs) ++ mark_set n m ∷ notes) a e
all_done gs one n set m pairs ts notes a b c d e parts first shown made marked noted =
    let here = names_operations gs (option_to_list (group_name pairs)) in
    let more = names_operations one (names_among ts) in
    let all : here ++ more ≡ names_operations gs (group_names pairs) =
    (λ i. here ++ names_operations (first i) (names_of_chunks (parts i)))
    ∙ sym (operations_append gs (option_to_list (group_name pairs)) (names_of_chunks (text_chunks pairs))) in
    let last = does_both (mark_set n m ∷ []) notes c d e marked noted in
    let whole = does_both (here ++ more) (mark_set n m ∷ notes) a c e (does_both here more a b c shown made) last in
    subst (λ (os : List Operation). Does (os ++ mark_set n m ∷ notes) a e) all whole
