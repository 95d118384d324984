-- Lines that stand in several lists.
use Rattle.std.proofs.Common.{◌≡◌, ℕ, ◌+◌, ◌<◌, ◌≤◌, List, [], ◌∷◌, ◌++◌, length, take, drop, get_or, refl, sym, ap, ◌∙◌, append_assoc}
use Rattle.std.proofs.lemmas.List.{append-nil, drop_more, take_more, drop_all}
use Rattle.nv_lines.specs.Excerpts.{list_lines}

pub list_lines-append : (a b : List (List (List ℕ))) → list_lines (a ++ b) ≡ list_lines a ++ list_lines b
list_lines-append [] b = refl
list_lines-append (l ∷ a) b = ap (λ m. l ++ m) (list_lines-append a b) ∙ sym (append_assoc l (list_lines a) (list_lines b))

-- a list more
pub list_lines-push : (ls : List (List (List ℕ))) (l : List (List ℕ)) → list_lines (ls ++ l ∷ []) ≡ list_lines ls ++ l
list_lines-push ls l = list_lines-append ls (l ∷ []) ∙ ap (λ m. list_lines ls ++ m) (append-nil l)

-- the lines of the lists up to one, and of that
pub list_lines-take : (ls : List (List (List ℕ))) (i : ℕ) (d : List (List ℕ)) → i < length ls → list_lines (take (i + 1) ls) ≡ list_lines (take i ls) ++ get_or ls i d
list_lines-take ls i d within = ap list_lines (take_more ls i d within) ∙ list_lines-push (take i ls) (get_or ls i d)

-- the lines of a list, and of those behind it
pub list_lines-drop : (ls : List (List (List ℕ))) (i : ℕ) (d : List (List ℕ)) → i < length ls → list_lines (drop i ls) ≡ get_or ls i d ++ list_lines (drop (i + 1) ls)
list_lines-drop ls i d within = ap list_lines (drop_more ls i d within)

pub list_lines-end : (ls : List (List (List ℕ))) (i : ℕ) → length ls ≤ i → list_lines (drop i ls) ≡ []
list_lines-end ls i past = ap list_lines (drop_all i ls past)
