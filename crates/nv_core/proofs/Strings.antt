-- Lines as the values of a message.
use Rattle.std.proofs.Common.{◌≡◌, ℕ, suc, ◌+◌, ◌<◌, ◌≤◌, ◌^◌, List, [], ◌∷◌, ◌++◌, length, map, take, get_or, refl, sym, subst, ap}
use Rattle.std.proofs.lemmas.List.{take_more, take_all}
use Rattle.nv_value.specs.Content.{Trees, text, one, trees_of, count}
use Rattle.nv_msgpack.specs.Shortest.{HaveSpellings}
use Rattle.nv_lines.specs.Excerpts.{list_lines}
use Rattle.nv_lines.proofs.ListLines.{list_lines-take}
use Rattle.nv_args.specs.Texts.{strings}

pub trees_of-text : (lines : List (List ℕ)) → trees_of (map text lines) ≡ strings lines
trees_of-text [] = refl
trees_of-text (line ∷ lines) = ap (λ (ts : Trees). one (text line) ts) (trees_of-text lines)

pub count-strings : (lines : List (List ℕ)) → count (strings lines) ≡ length lines
count-strings [] = refl
count-strings (line ∷ lines) = ap suc (count-strings lines)

pub HaveSpellings-push : (lines : List (List ℕ)) (line : List ℕ) → HaveSpellings (strings lines)
    → length line < 2 ^ 32 → HaveSpellings (strings (lines ++ line ∷ []))
HaveSpellings-push [] line spelled short = (short, tt)
HaveSpellings-push (first ∷ lines) line spelled short =
    (spelled.0, HaveSpellings-push lines line spelled.1 short)

-- lines that were gone over have spellings, and one more; all of them, where none is left
pub next_spelled : (lines : List (List ℕ)) (i : ℕ) (line : List ℕ) → i < length lines
    → line ≡ get_or lines i line → length line < 2 ^ 32 → HaveSpellings (strings (take i lines))
    → HaveSpellings (strings (take (i + 1) lines))
next_spelled lines i line within is short spelled =
    let more = take_more lines i line within in
    subst (λ (l : List (List ℕ)). HaveSpellings (strings l)) (sym more)
    (HaveSpellings-push (take i lines) (get_or lines i line) spelled
    (subst (λ (l : List ℕ). length l < 2 ^ 32) is short))

pub all_spelled : (lines : List (List ℕ)) (i : ℕ) → length lines ≤ i → HaveSpellings (strings (take i lines)) → HaveSpellings (strings lines)
all_spelled lines i past spelled = subst (λ (l : List (List ℕ)). HaveSpellings (strings l)) (take_all i lines past) spelled

-- ---- lines in several lists

HaveSpellings-append : (a b : List (List ℕ)) → HaveSpellings (strings a) → HaveSpellings (strings b) → HaveSpellings (strings (a ++ b))
HaveSpellings-append [] b front back = back
HaveSpellings-append (line ∷ a) b front back = (front.0, HaveSpellings-append a b front.1 back)

-- the lists that were gone over have spellings, and one more; all of them, where none is left
pub next_list_spelled : (lists : List (List (List ℕ))) (i : ℕ) (list : List (List ℕ)) → i < length lists → list ≡ get_or lists i list
    → HaveSpellings (strings list) → HaveSpellings (strings (list_lines (take i lists))) → HaveSpellings (strings (list_lines (take (i + 1) lists)))
next_list_spelled lists i list within is here spelled =
    subst (λ (l : List (List ℕ)). HaveSpellings (strings l)) (sym (list_lines-take lists i list within))
    (HaveSpellings-append (list_lines (take i lists)) (get_or lists i list) spelled (subst (λ (l : List (List ℕ)). HaveSpellings (strings l)) is here))

pub all_lists_spelled : (lists : List (List (List ℕ))) (i : ℕ) → length lists ≤ i → HaveSpellings (strings (list_lines (take i lists)))
    → HaveSpellings (strings (list_lines lists))
all_lists_spelled lists i past spelled = subst (λ (ls : List (List (List ℕ))). HaveSpellings (strings (list_lines ls))) (take_all i lists past) spelled
