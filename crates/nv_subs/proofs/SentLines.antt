-- Lines that are sent as strings, and what is read of them.
use Rattle.std.proofs.Common.{◌≡◌, ◌≢◌, ℕ, ℤ, List, [], ◌∷◌, ◌++◌, refl, ap, ◌∙◌, arith, Bool, true, false, cond, eqb, map, All, Option, Some, None, option_and_then, ◌||◌}
use Rattle.std.proofs.lemmas.Bool.{true≢false}
use Rattle.std.proofs.lemmas.Bool.Decides.{nat_tests}
use Rattle.std.proofs.lemmas.List.Elements.{All-nil, All-cons, All-head, All-tail}
use Rattle.std.specs.List.{list_any}
use Rattle.nv_places.specs.Flat.{IsLine}
use Rattle.nv_value.specs.Content.{text, trees_of}
use Rattle.nv_rpc.specs.Messages.{Sent}
use Rattle.nv_subs.specs.Mirrors.{Mirror, line_in, event_lines, mirror_after, mirror_after_all}

abbrev has-ten : List ℕ → Bool
has-ten bs = list_any (λ b. eqb b 10) bs

-- ---- the test for the byte 10
no-ten : (bs : List ℕ) → IsLine bs → has-ten bs ≡ false
no-ten [] h = refl
no-ten (b ∷ bs) h =
    let apart : b ≢ 10 = All-head (λ x. x ≢ 10) b bs h in
    let first : eqb b 10 ≡ false = grind (arith, nat_tests, apart) in
    ap (λ t. t || has-ten bs) first ∙ no-ten bs (All-tail (λ x. x ≢ 10) b bs h)

is-line : (bs : List ℕ) → has-ten bs ≡ false → IsLine bs
is-line [] h = All-nil (λ x. x ≢ 10)
is-line (b ∷ bs) h = by (eqb b 10) refl h (is-line bs)
  where
    by : (t : Bool) → eqb b 10 ≡ t → (t || has-ten bs) ≡ false → (has-ten bs ≡ false → IsLine bs) → IsLine (b ∷ bs)
    by true e k r = absurd (true≢false k)
    by false e k r = All-cons (λ x. x ≢ 10) b bs (grind (arith, nat_tests, e)) (r k)

-- ---- lines that are sent are read
pub a-line : (bs : List ℕ) → IsLine bs → line_in (text bs) ≡ Some bs
a-line bs h = ap (λ t. cond t None (Some bs)) (no-ten bs h)

abbrev with-first : Option (List ℕ) → Option (List (List ℕ)) → Option (List (List ℕ))
with-first o more = option_and_then (λ line. option_and_then (λ lines. Some (line ∷ lines)) more) o

pub sent-is-read : (lines : List (List ℕ)) → All IsLine lines → event_lines (trees_of (map text lines)) ≡ Some lines
sent-is-read [] h = refl
sent-is-read (line ∷ lines) h =
    ap (λ o. with-first o (event_lines (trees_of (map text lines)))) (a-line line (All-head IsLine line lines h))
    ∙ ap (with-first (Some line)) (sent-is-read lines (All-tail IsLine line lines h))

-- ---- messages taken in parts
pub taken-in-parts : (buffer : ℤ) (mirror : Mirror) (front back : List Sent)
    → mirror_after_all buffer mirror (front ++ back)
    ≡ option_and_then (λ next. mirror_after_all buffer next back) (mirror_after_all buffer mirror front)
taken-in-parts buffer mirror [] back = refl
taken-in-parts buffer mirror (message ∷ front) back =
    by (mirror_after buffer mirror message) (λ next. taken-in-parts buffer next front back)
  where
    by : (o : Option Mirror)
        → ((next : Mirror) → mirror_after_all buffer next (front ++ back)
        ≡ option_and_then (λ m. mirror_after_all buffer m back) (mirror_after_all buffer next front))
        → option_and_then (λ next. mirror_after_all buffer next (front ++ back)) o
        ≡ option_and_then (λ m. mirror_after_all buffer m back) (option_and_then (λ next. mirror_after_all buffer next front) o)
    by None each = refl
    by (Some next) each = each next
