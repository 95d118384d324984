-- The end of a book, and what is behind it.
use Rattle.std.proofs.Common.{◌≡◌, ℕ, ◌+◌, ◌<◌, List, [], ◌∷◌, ◌++◌, length, Option, refl, sym, ap, ◌∙◌, subst, arith, append_assoc, inl, inr, length-append}
use Rattle.nv_value.specs.Content.{Tree}
use Rattle.nv_book.specs.Reading.{IsReadOut, HasValues, HasGiven}
use Rattle.nv_book.specs.inside.Intakes.{Intaking, TellsPlace, StopsBehind, StopsFor}
use Rattle.nv_book.specs.inside.Parts.{IsPlaceBehind, EndsWrong, EndsEarly, StopsAtEnd}
use Rattle.nv_book.specs.declared.faults.Unread.{Unread}
use Rattle.nv_book.specs.declared.faults.Unread.TheVariants.{NoMemory, ReadFault, Malformed}
use Rattle.nv_book.proofs.Standing.{given_still, drained_out, stand_more, told_value}

-- the end tells another number of entries
pub told_count : (fed b : List ℕ) (left : Option (List ℕ)) (vs : List Tree) (end : Tree) (place told entries : ℕ) (o : Intaking) (fault : Unread) → IsPlaceBehind fed vs place → HasGiven fed (vs ++ end ∷ []) o.taken o.stream
    → (told ≡ entries → ⊥) → TellsPlace b left place o fault → StopsAtEnd (fed ++ b) left vs end told entries fault
told_count fed b left vs end place told entries o NoMemory here h other t = tt
told_count fed b left vs end place told entries o ReadFault here h other t = tt
told_count fed b left vs end place told entries o (Malformed n) here h other t =
    inl (record {
      other = other;
      stops = told_value fed [] b left vs end place here.0 o (λ u. u ≡ end) (Malformed n) here.1 (given_still fed (vs ++ end ∷ []) o.taken o.stream h) refl t;
    })

-- something stands behind it
pub told_early : (fed a b : List ℕ) (left : Option (List ℕ)) (vs : List Tree) (end : Tree) (place told entries : ℕ) (o : Intaking) (fault : Unread) → HasGiven (fed ++ a) (vs ++ end ∷ []) o.taken o.stream → 0 < length o.stream.held
    → told ≡ entries → place ≡ o.stream.start → TellsPlace b left place o fault → StopsAtEnd (fed ++ (a ++ b)) left vs end told entries fault
told_early fed a b left vs end place told entries o NoMemory h some same e t = tt
told_early fed a b left vs end place told entries o ReadFault h some same e t = tt
told_early fed a b left vs end place told entries o (Malformed n) h some same e t =
    let all : (fed ++ a) ++ b ≡ fed ++ (a ++ b) = append_assoc fed a b in
    inr (
      same,
      subst (λ (l : List ℕ). EndsEarly l left (vs ++ end ∷ []) n) all (record {
        read_out = drained_out o.taken left (fed ++ a) b h.all t.1;
        behind = o.stream.held ++ b;
        some = omega (arith, some, length-append o.stream.held b);
        stand = subst (λ (k : ℕ). HasValues ((fed ++ a) ++ b) (vs ++ end ∷ []) k (o.stream.held ++ b)) (sym (t.0 ∙ e))
            (stand_more (fed ++ a) b (vs ++ end ∷ []) o.stream.start o.stream.held h.stand);
      }),
    )

-- reading failed
pub no_place : (bytes : List ℕ) (left : Option (List ℕ)) (vs : List Tree) (end : Tree) (told entries : ℕ) (fault : Unread) → ((n : ℕ) → fault ≡ Malformed n → ⊥) → StopsAtEnd bytes left vs end told entries fault
no_place bytes left vs end told entries NoMemory h = tt
no_place bytes left vs end told entries ReadFault h = tt
no_place bytes left vs end told entries (Malformed n) h = absurd (h n refl)
