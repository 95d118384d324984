-- A list that is emptied from its back.
use Rattle.std.proofs.Common.{◌≡◌, ◌-◌, List, [], ◌∷◌, ◌++◌, length, take, reverse, sym, ap, ◌∙◌, subst, Option}
use Rattle.std.proofs.lemmas.List.{append_assoc, reverse-append}
use Rattle.std.specs.Map.Iter.{TakesLast}
use Rattle.circular_buffer.specs.Buffer.{last_item}
use Rattle.circular_buffer.proofs.Items.{pops_last}

-- the last item, if there is one, stood behind what is left
pub popped : {X : Type 0} (xs rest : List X) (o : Option X) → o ≡ last_item xs → rest ≡ take (length xs - 1) xs
    → TakesLast (λ (x : X). x) xs o rest
popped {X = X} xs rest o is goes =
    subst (λ (l : List X). TakesLast (λ (x : X). x) xs o l) (sym goes)
    (subst (λ (q : Option X). TakesLast (λ (x : X). x) xs q (take (length xs - 1) xs)) (sym is) (pops_last xs))

-- what is left, and behind it what was taken, are all: so they are once one more is taken
pub one_taken : {X : Type 0} (all left rest taken more : List X) (x : X) → left ≡ rest ++ x ∷ [] → more ≡ taken ++ x ∷ []
    → left ++ reverse taken ≡ all → rest ++ reverse more ≡ all
one_taken {X = X} all left rest taken more x goes put so =
    ap (λ (l : List X). rest ++ reverse l) put
    ∙ ap (λ (l : List X). rest ++ l) (reverse-append taken (x ∷ []))
    ∙ sym (append_assoc rest (x ∷ []) (reverse taken))
    ∙ ap (λ (l : List X). l ++ reverse taken) (sym goes)
    ∙ so

-- all were taken where nothing is left
pub all_taken : {X : Type 0} (all left taken turned : List X) → left ≡ [] → turned ≡ reverse taken → left ++ reverse taken ≡ all
    → turned ≡ all
all_taken {X = X} all left taken turned none is so = is ∙ ap (λ (l : List X). l ++ reverse taken) (sym none) ∙ so
