-- A colour by its digits.
use Rattle.std.proofs.Common.{◌≡◌, ℕ, ◌+◌, ◌*◌, Bool, true, false, cond, ◌&&◌, List, [], ◌∷◌, Option, Some, None, refl, ap, ◌∙◌, ◌<◌, ◌≤◌, length, arith}
use Rattle.std.specs.Prelude.{get_or}
use Rattle.std.specs.Char.{is_ascii_hexdigit, digit_value}
use Rattle.nv_args.specs.KeyValues.{colour_of_digits}
use Rattle.nv_args.specs.inside.Colours.{digits_together, two_digits, colour_of_parts}

six : (ha hb hc hd he hf : Bool) (a b c d e f : ℕ)
    → colour_of_parts (digits_together (cond ha (Some a) None) (cond hb (Some b) None)) (digits_together (cond hc (Some c) None) (cond hd (Some d) None))
    (digits_together (cond he (Some e) None) (cond hf (Some f) None))
    ≡ cond (ha && (hb && (hc && (hd && (he && (hf && true)))))) (Some (((((((0 * 16 + a) * 16 + b) * 16 + c) * 16 + d) * 16 + e) * 16) + f)) None
six false hb hc hd he hf a b c d e f = refl
six true false hc hd he hf a b c d e f = refl
six true true false hd he hf a b c d e f = refl
six true true true false he hf a b c d e f = refl
six true true true true false hf a b c d e f = refl
six true true true true true false a b c d e f = refl
six true true true true true true a b c d e f =
    let same : ((a * 16 + b) * 256 + (c * 16 + d)) * 256 + (e * 16 + f) ≡ ((((((0 * 16 + a) * 16 + b) * 16 + c) * 16 + d) * 16 + e) * 16) + f = omega arith in
    ap Some same

colour-of-six : (a b c d e f : ℕ)
    → colour_of_parts (two_digits a b) (two_digits c d) (two_digits e f) ≡ colour_of_digits (a ∷ b ∷ c ∷ d ∷ e ∷ f ∷ [])
colour-of-six a b c d e f =
    six (is_ascii_hexdigit a) (is_ascii_hexdigit b) (is_ascii_hexdigit c) (is_ascii_hexdigit d) (is_ascii_hexdigit e) (is_ascii_hexdigit f)
    (digit_value a) (digit_value b) (digit_value c) (digit_value d) (digit_value e) (digit_value f)

pub colour-of-digits : (digits : List ℕ) (high middle low result : Option ℕ) → 6 ≤ length digits → length digits < 7
    → high ≡ two_digits (get_or digits 0 0) (get_or digits 1 0) → middle ≡ two_digits (get_or digits 2 0) (get_or digits 3 0)
    → low ≡ two_digits (get_or digits 4 0) (get_or digits 5 0) → result ≡ colour_of_parts high middle low
    → result ≡ colour_of_digits digits
colour-of-digits (a ∷ b ∷ c ∷ d ∷ e ∷ f ∷ []) high middle low result least most h m l is =
    is
    ∙ (λ i. colour_of_parts (h i) (m i) (l i))
    ∙ colour-of-six a b c d e f
colour-of-digits (a ∷ b ∷ c ∷ d ∷ e ∷ f ∷ g ∷ more) high middle low result least most h m l is = absurd (omega arith)
colour-of-digits [] high middle low result least most h m l is = absurd (omega arith)
colour-of-digits (a ∷ []) high middle low result least most h m l is = absurd (omega arith)
colour-of-digits (a ∷ b ∷ []) high middle low result least most h m l is = absurd (omega arith)
colour-of-digits (a ∷ b ∷ c ∷ []) high middle low result least most h m l is = absurd (omega arith)
colour-of-digits (a ∷ b ∷ c ∷ d ∷ []) high middle low result least most h m l is = absurd (omega arith)
colour-of-digits (a ∷ b ∷ c ∷ d ∷ e ∷ []) high middle low result least most h m l is = absurd (omega arith)
