-- Lines told as strings are read as these lines.
use Rattle.std.proofs.Common.{◌≡◌, ℕ, zero, suc, List, [], ◌∷◌, take, drop, refl, ap, ◌∙◌, Bool, true, false, Option, Some, None}
use Rattle.std.specs.Prelude.{if◌then◌else◌, ◌==◌, ◌||◌}
use Rattle.std.specs.List.{list_any}
use Rattle.nv_places.specs.Flat.{lines_of, with_byte}
use Rattle.nv_rpc.specs.Steps.{◌>>=◌}
use Rattle.nv_args.specs.Texts.{strings}
use Rattle.nv_subs.specs.Mirrors.{event_lines}

-- no line holds the byte 10
abbrev pub ArePlain : List (List ℕ) → Type 0
ArePlain [] = Unit {0}
ArePlain (line ∷ lines) = (list_any (λ b. b == 10) line ≡ false) × ArePlain lines

plain-with_byte : (b : ℕ) (lines : List (List ℕ)) → (b == 10) ≡ false → ArePlain lines → ArePlain (with_byte b lines)
plain-with_byte b [] e h = (ap (λ (x : Bool). x || false) e, tt)
plain-with_byte b (line ∷ lines) e h = (ap (λ (x : Bool). x || list_any (λ c. c == 10) line) e ∙ h.0, h.1)

plain_next : (b : ℕ) (lines : List (List ℕ)) (x : Bool) → (b == 10) ≡ x → ArePlain lines → ArePlain (if x then [] ∷ lines else with_byte b lines)
plain_next b lines true e h = (refl, h)
plain_next b lines false e h = plain-with_byte b lines e h

pub plain_lines : (text : List ℕ) → ArePlain (lines_of text)
plain_lines [] = tt
plain_lines (b ∷ bs) = plain_next b (lines_of bs) (b == 10) refl (plain_lines bs)

pub plain-take : (n : ℕ) (lines : List (List ℕ)) → ArePlain lines → ArePlain (take n lines)
plain-take zero lines h = tt
plain-take (suc n) [] h = tt
plain-take (suc n) (line ∷ lines) h = (h.0, plain-take n lines h.1)

pub plain-drop : (n : ℕ) (lines : List (List ℕ)) → ArePlain lines → ArePlain (drop n lines)
plain-drop zero lines h = h
plain-drop (suc n) [] h = tt
plain-drop (suc n) (line ∷ lines) h = plain-drop n lines h.1

pub strings_read : (lines : List (List ℕ)) → ArePlain lines → event_lines (strings lines) ≡ Some lines
strings_read [] h = refl
strings_read (line ∷ lines) h =
    ap (λ (b : Bool). (if b then None else Some line) >>= (λ l. event_lines (strings lines) >>= (λ ls. Some (l ∷ ls)))) h.0
    ∙ ap (λ (o : Option (List (List ℕ))). o >>= (λ ls. Some (line ∷ ls))) (strings_read lines h.1)
