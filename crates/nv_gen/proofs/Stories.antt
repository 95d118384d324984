-- A story told turn by turn.
use Rattle.std.proofs.Common.{◌≡◌, refl, ap, sym, ◌∙◌, ℕ, suc, ◌+◌, ◌-◌, ◌<◌, List, [], ◌∷◌, ◌++◌, append_assoc, arith}
use Rattle.std.proofs.lemmas.List.{append-nil}
use Rattle.nv_history.specs.Events.{Entry}
use Rattle.nv_gen.specs.Draws.{several}
use Rattle.nv_gen.specs.Questions.{Question, drawn_round, to_follow_buffer, to_show_12_rows, to_name_marks}
use Rattle.nv_gen.specs.Story.{three_opens, three_closes, turns_from, questions_in, script_of}
use Rattle.nv_gen.proofs.Steps.{several_left}

-- one turn and then others
seam : (q : Question) (qs : List Question) (i : ℕ)
    → turns_from (4 + i) (q ∷ []) ++ turns_from (4 + (i + 1)) qs ≡ turns_from (4 + i) (q ∷ qs)
seam q qs i =
    let e : 4 + (i + 1) ≡ suc (4 + i) = omega arith in
    ap (λ (m : ℕ). turns_from (4 + i) (q ∷ []) ++ turns_from m qs) e

-- the entries with one more round, and those of the rounds to come
pub round_told : (front later all : List Entry) (q : Question) (n i x y : ℕ) → i < n
    → q ≡ (drawn_round x).0 → y ≡ (drawn_round x).1
    → later ≡ front ++ turns_from (4 + i) (q ∷ [])
    → front ++ turns_from (4 + i) (questions_in (n - i) x) ≡ all
    → later ++ turns_from (4 + (i + 1)) (questions_in (n - (i + 1)) y) ≡ all
unfolding questions_in
round_told front later all q n i x y below q_is y_is l_is before =
    let left : List Question = (several (n - (i + 1)) drawn_round (drawn_round x).1).0 in
    rw (l_is, y_is, q_is) (append_assoc front (turns_from (4 + i) ((drawn_round x).0 ∷ [])) (turns_from (4 + (i + 1)) left)
    ∙ ap (λ t. front ++ t) (seam (drawn_round x).0 left i)
    ∙ ap (λ t. front ++ turns_from (4 + i) t.0) (sym (several_left drawn_round n i x below)) ∙ before)

-- nothing is asked in no rounds
pub rounds_end : (front all : List Entry) (m left x : ℕ) → left ≡ 0
    → front ++ turns_from m (questions_in left x) ≡ all → front ≡ all
unfolding questions_in
rounds_end front all m left x none told =
    sym (append-nil front) ∙ ap (λ (n : ℕ). front ++ turns_from m (several n drawn_round x).0) (sym none) ∙ told

-- the whole script
pub script_told : (e0 e1 e2 e3 e4 e5 e6 : List Entry) (q1 q2 q3 : Question) (seed : ℕ)
    → q1 ≡ to_follow_buffer → q2 ≡ to_show_12_rows → q3 ≡ to_name_marks
    → e0 ≡ [] → e1 ≡ e0 ++ three_opens → e2 ≡ e1 ++ turns_from 1 (q1 ∷ []) → e3 ≡ e2 ++ turns_from 2 (q2 ∷ [])
    → e4 ≡ e3 ++ turns_from 3 (q3 ∷ []) → e5 ≡ e4 ++ turns_from 4 (questions_in 2000 seed) → e6 ≡ e5 ++ three_closes
    → e6 ≡ script_of seed
unfolding script_of
script_told e0 e1 e2 e3 e4 e5 e6 q1 q2 q3 seed h1 h2 h3 g0 g1 g2 g3 g4 g5 g6 =
    rw (g6, g5, g4, g3, g2, g1, g0, h1, h2, h3) refl
