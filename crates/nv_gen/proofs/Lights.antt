-- What is drawn is light.
use Rattle.std.proofs.Common.{◌≡◌, refl, ap, ℕ, zero, suc, ◌*◌, ◌^◌, ◌≤◌, ◌<◌, ◌==◌, nat_lt, Bool, true, false, if◌then◌else◌, List, [], ◌∷◌, ◌++◌, length, codes, arith}
use Rattle.std.specs.List.{AllByRecursion}
use Rattle.std.proofs.Math.Nat.{mod-lt}
use Rattle.nv_args.specs.Texts.{strings}
use Rattle.nv_args.specs.Weight.{weights, AreLight}
use Rattle.nv_history.specs.Events.{Entry}
use Rattle.nv_gen.specs.Draws.{Draws, number_after, number_below, several}
use Rattle.nv_gen.specs.Questions.{Question, drawn_letter, drawn_line, drawn_edit, drawn_mark, drawn_command, drawn_cursor, drawn_round, question_by, reading, first_questions}
use Rattle.nv_gen.specs.Story.{IsLightEntry, three_closes, turns_from, questions_in, script_of}

-- a number that is drawn is below its bound
pub below_bound : (k x : ℕ) → 0 < k → number_below k x < k
unfolding number_below
below_bound k x positive = mod-lt _ positive

-- so many are drawn as are wanted
pub several_are : {A : Type 0} (n : ℕ) (d : Draws A) (x : ℕ) → length (several n d x).0 ≡ n
several_are zero d x = refl
several_are (suc n) d x = ap suc (several_are n d (d x).1)

pub line_is_short : (x : ℕ) → length (drawn_line x).0 < 20
line_is_short x =
    let n = number_below 20 (number_after x) in
    let e : length (drawn_line x).0 ≡ n = several_are n drawn_letter (number_after x) in
    omega (arith, e, below_bound 20 (number_after x) (omega arith))

-- lines weigh fewer than 20 bytes each
pub lines_weigh : (n x : ℕ) → weights (strings (several n drawn_line x).0) ≤ n * 20
lines_weigh zero x = omega arith
lines_weigh (suc n) x =
    omega (arith, line_is_short x, lines_weigh n (drawn_line x).1)

-- a question so light that a fault can tell each string in it
abbrev pub IsLightQuestion : Question → Type 0
IsLightQuestion q = (length q.method < 2 ^ 31) × AreLight q.arguments

pub edit_is_light : (x : ℕ) → IsLightQuestion (drawn_edit x).0
edit_is_light x =
    let x3 = number_after (number_after (number_after x)) in
    let n = number_below 4 x3 in
    (omega arith, omega (arith, lines_weigh n x3, below_bound 4 x3 (omega arith)))

pub mark_is_light : (x : ℕ) → IsLightQuestion (drawn_mark x).0
mark_is_light x = (omega arith, omega arith)

four_bytes : (b : Bool) → length (if b then codes "undo" else codes "redo") ≡ 4
four_bytes true = refl
four_bytes false = refl

pub command_is_light : (x : ℕ) → IsLightQuestion (drawn_command x).0
command_is_light x =
    (omega arith, omega (arith, four_bytes (number_below 2 (number_after x) == 0)))

pub cursor_is_light : (x : ℕ) → IsLightQuestion (drawn_cursor x).0
cursor_is_light x = (omega arith, omega arith)

pub reading_is_light : IsLightQuestion reading
reading_is_light = (omega arith, omega arith)

either_is_light : (b : Bool) (d e : Draws Question) (x : ℕ) → IsLightQuestion (d x).0 → IsLightQuestion (e x).0
    → IsLightQuestion ((if b then d else e) x).0
either_is_light true d e x one other = one
either_is_light false d e x one other = other

pub question_is_light : (kind x : ℕ) → IsLightQuestion (question_by kind x).0
question_is_light kind x =
    either_is_light (nat_lt kind 5) _ _ x (edit_is_light x)
    (either_is_light (nat_lt kind 7) _ _ x (mark_is_light x)
    (either_is_light (kind == 7) _ _ x (command_is_light x)
    (either_is_light (kind == 8) _ _ x (cursor_is_light x) reading_is_light)))

pub rounds_are_light : (n x : ℕ) → AllByRecursion IsLightQuestion (several n drawn_round x).0
rounds_are_light zero x = tt
rounds_are_light (suc n) x =
    (question_is_light (number_below 10 (number_after x)) (number_after x), rounds_are_light n (drawn_round x).1)

both_are_light : (front back : List Entry) → AllByRecursion IsLightEntry front → AllByRecursion IsLightEntry back
    → AllByRecursion IsLightEntry (front ++ back)
both_are_light [] back one other = other
both_are_light (e ∷ front) back one other = (one.0, both_are_light front back one.1 other)

pub turns_are_light : (msgid : ℕ) (qs : List Question) → AllByRecursion IsLightQuestion qs → AllByRecursion IsLightEntry (turns_from msgid qs)
turns_are_light msgid [] light = tt
turns_are_light msgid (q ∷ qs) light = (light.0, (tt, (tt, (tt, turns_are_light (suc msgid) qs light.1))))

questions_are_light : (n seed : ℕ) → AllByRecursion IsLightQuestion (questions_in n seed)
unfolding questions_in
questions_are_light n seed = rounds_are_light n seed

first_are_light : AllByRecursion IsLightQuestion first_questions
first_are_light = ((omega arith, omega arith), ((omega arith, omega arith), ((omega arith, omega arith), tt)))

closes_are_light : AllByRecursion IsLightEntry three_closes
closes_are_light = (tt, (tt, (tt, tt)))

rest_is_light : (n seed : ℕ) → AllByRecursion IsLightEntry (turns_from 1 first_questions ++ turns_from 4 (questions_in n seed) ++ three_closes)
rest_is_light n seed =
    both_are_light (turns_from 1 first_questions) (turns_from 4 (questions_in n seed) ++ three_closes) (turns_are_light 1 first_questions first_are_light)
    (both_are_light (turns_from 4 (questions_in n seed)) three_closes (turns_are_light 4 (questions_in n seed) (questions_are_light n seed)) closes_are_light)

pub script_is_light : (seed : ℕ) → AllByRecursion IsLightEntry (script_of seed)
unfolding script_of
script_is_light seed = (tt, (tt, (tt, rest_is_light 2000 seed)))
