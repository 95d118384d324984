-- What the parser says of words, in the words of the crate.
use Rattle.std.proofs.Common.{◌≡◌, ℕ, Bool, true, false, not, ◌&&◌, Option, Some, None, Result, Ok, Err, IfOk, Bor, IfSome, option_map, rules, refl, ap, ◌∙◌}
use Rattle.std.specs.Str.Parse.{ParsesUnsigned}
use Rattle.clap.specs.Words.{ReadsOne, Text, is_simple_and_free}
use Rattle.nv_words.specs.Commands.{number_spelled, program_app, text_given}

pub program_is_simple : is_simple_and_free program_app ≡ true
program_is_simple = refl

-- a number that was read is the one that is spelled
pub number_is : {E : Type 0} (found : Option Text) (n : ℕ) (gives : Text → Result ℕ E → Type 0) → ((t : Text) (r : Result ℕ E) → gives t r → ParsesUnsigned 64 10 t r)
    → (found ≡ None → Some n ≡ None) → ((t : Text) → found ≡ Some t → ReadsOne gives t (Some n)) → n ≡ number_spelled found
number_is None n gives parses none value = let bad : Some n ≡ None = none refl in cc
number_is (Some t) n gives parses none value = (parses t (Ok n) (value t refl)).1

-- a text that was found is the one that is given
pub text_is : (found : Option (Bor Text)) (given : Option Text) → option_map (λ s. s.now) found ≡ given → IfSome found (λ s. s.now ≡ text_given given)
text_is None given e = search rules
text_is (Some s) given e = ap text_given e

-- and so where it is not known whether one was read
pub number_read : {E : Type 0} (found given : Option Text) (r : Option ℕ) (gives : Text → Result ℕ E → Type 0) → ((t : Text) (q : Result ℕ E) → gives t q → ParsesUnsigned 64 10 t q)
    → (found ≡ None → r ≡ None) → ((t : Text) → found ≡ Some t → ReadsOne gives t r) → found ≡ given → IfSome r (λ n. n ≡ number_spelled given)
number_read found given None gives parses none value same = search rules
number_read found given (Some n) gives parses none value same = number_is found n gives parses none value ∙ ap number_spelled same

-- what holds of a result, so far as it is one
pub ok_gives : {X E : Type 0} (r : Result X E) (P Q : X → Type 0) → IfOk r P → ((x : X) → P x → Q x) → IfOk r Q
ok_gives (Ok x) P Q p f = f x p
ok_gives (Err e) P Q p f = p

-- a command that is plain has no argument for all its subcommands: the third of its tests
pub none_global : (groups external globals rest : Bool) → (groups && (external && (not globals && rest))) ≡ true → globals ≡ false
none_global groups external false rest plain = refl
none_global false external true rest plain = cc
none_global true false true rest plain = cc
none_global true true true rest plain = cc
