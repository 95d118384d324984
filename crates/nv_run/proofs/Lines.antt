-- What went out of a line in parts, and of words.
use Rattle.std.proofs.Common.{◌≡◌, ℕ, ◌+◌, ◌<◌, ◌≤◌, List, [], ◌∷◌, ◌++◌, length, take, drop, get_or, map, Option, refl, sym, ap, ◌∙◌, subst, arith, inl, inr, ⊎_elim, add-one, drop-cons, take-append-drop}
use Rattle.std.specs.List.{flat_map}
use Rattle.std.proofs.lemmas.Grind.{flat_map-append}
use Rattle.std.proofs.lemmas.List.{take-append-le, take_all}
use Rattle.std.specs.Io.KnownBytes.{append_known}
use Rattle.nv_io.specs.Faults.{Rose}
use Rattle.nv_io.specs.Streams.{Tells}
use Rattle.nv_io.specs.Words.{SinkWords}
use Rattle.nv_io.proofs.KnownLemmas.{append_known-append_known}
use Rattle.nv_mirror.proofs.Outs.{take_past}

-- the parts before one, it, and those after it
parts_at : {X : Type 0} (f : X → List ℕ) (parts : List X) (i : ℕ) (d : X) → i < length parts
    → flat_map f parts ≡ flat_map f (take i parts) ++ (f (get_or parts i d) ++ flat_map f (drop (i + 1) parts))
parts_at f parts i d h =
    let at : drop i parts ≡ get_or parts i d ∷ drop (i + 1) parts = drop-cons parts i d h ∙ ap (λ (k : ℕ). get_or parts i d ∷ drop k parts) (sym (add-one i)) in
    ap (flat_map f) (sym (take-append-drop i parts)) ∙ flat_map-append f (take i parts) (drop i parts)
    ∙ ap (λ l. flat_map f (take i parts) ++ flat_map f l) at

-- a part of the line, up to within one of its parts
pub told_in : {X : Type 0} (f : X → List ℕ) (parts : List X) (i : ℕ) (d : X) (part : List ℕ) (n : ℕ) (before between after : Option (List ℕ)) → i < length parts → part ≡ f (get_or parts i d) → n ≤ length part
    → between ≡ append_known before (flat_map f (take i parts)) → after ≡ append_known between (take n part)
    → after ≡ append_known before (take (length (flat_map f (take i parts)) + n) (flat_map f parts))
told_in f parts i d part n before between after h e few p q =
    let front = flat_map f (take i parts) in
    let rest = flat_map f (drop (i + 1) parts) in
    let whole : flat_map f parts ≡ front ++ (part ++ rest) = parts_at f parts i d h ∙ ap (λ (l : List ℕ). front ++ (l ++ rest)) (sym e) in
    let cut : take (length front + n) (flat_map f parts) ≡ front ++ take n part =
    ap (λ (l : List ℕ). take (length front + n) l) whole ∙ take_past front (part ++ rest) n ∙ ap (λ (l : List ℕ). front ++ l) (take-append-le n part rest few) in
    q ∙ ap (λ (o : Option (List ℕ)). append_known o (take n part)) p ∙ append_known-append_known before front (take n part) ∙ ap (λ (l : List ℕ). append_known before l) (sym cut)

-- the whole line
pub told_all : {X : Type 0} (f : X → List ℕ) (parts : List X) (i : ℕ) (before after : SinkWords) → length parts ≤ i → after.taken ≡ append_known before.taken (flat_map f (take i parts)) → Tells (flat_map f parts) before after
told_all f parts i before after h p =
    let all : after.taken ≡ append_known before.taken (flat_map f parts) = p ∙ ap (λ l. append_known before.taken (flat_map f l)) (take_all i parts h) in
    (length (flat_map f parts), all ∙ ap (λ (l : List ℕ). append_known before.taken l) (sym (take_all (length (flat_map f parts)) (flat_map f parts) (omega arith))), inl all)

-- a line in other words
pub tells_as : (line other : List ℕ) (before after : SinkWords) → line ≡ other → Tells line before after → Tells other before after
tells_as line other before after e h = subst (λ (l : List ℕ). Tells l before after) e h

-- a line whose first part failed
pub tells_cut : (first rest : List ℕ) (n : ℕ) (before after : SinkWords) → n ≤ length first → after.taken ≡ append_known before.taken (take n first) → Rose before.faults after.faults
    → Tells (first ++ rest) before after
tells_cut first rest n before after few p rose = (n, p ∙ ap (λ (l : List ℕ). append_known before.taken l) (sym (take-append-le n first rest few)), inr rose)

-- a line whose first part went out
pub tells_then : (first rest : List ℕ) (before amid after : SinkWords) → before.faults ≤ amid.faults → amid.taken ≡ append_known before.taken first → Tells rest amid after
    → Tells (first ++ rest) before after
tells_then first rest before amid after later p h =
    let past : (part : List ℕ) → after.taken ≡ append_known amid.taken part → after.taken ≡ append_known before.taken (first ++ part) =
    λ part e. e ∙ ap (λ (o : Option (List ℕ)). append_known o part) p ∙ append_known-append_known before.taken first part in (
      length first + h.0,
      past (take h.0 rest) h.1 ∙ ap (λ (l : List ℕ). append_known before.taken l) (sym (take_past first rest h.0)),
      ⊎_elim (λ all. inl (past rest all)) (λ (rose : Rose amid.faults after.faults). inr (omega (arith, rose))) h.2,
    )
