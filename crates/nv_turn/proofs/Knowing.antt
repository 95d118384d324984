-- What notes know of a story.
use Rattle.std.proofs.Common.{◌≡◌, ℕ, Bool, true, false, ltb, cond, ◌⊎◌, inl, inr, ⊎_elim, List, [], ◌∷◌, ◌++◌, length, refl, sym, subst, ◌∙◌, append-nil}
use mathlib.Core.List.{IsPrefix}
use Rattle.nv_turn.specs.declared.view.Note.{Note}
use Rattle.nv_turn.specs.Story.{Has, entries_by}
use Rattle.nv_turn.specs.inside.Rule.{note, numbers_of, IsAmong, EachKnows}
use Rattle.nv_turn.proofs.Prefixes.{prefix_self, prefix_trans}
use Rattle.nv_turn.proofs.Entries.{has_cases, has_left, has_right}

pub one_note : (c : ℕ) (numbers : List ℕ) → Has c (numbers ++ []) → Has c numbers
one_note c numbers = subst (Has c) (append-nil numbers)

pub to_note : (c : ℕ) (numbers : List ℕ) → Has c numbers → Has c (numbers ++ [])
to_note c numbers = subst (Has c) (sym (append-nil numbers))

module _ {E : Type 0} where
  pub in_left : (m : Note E) (xs ys : List (Note E)) → IsAmong m xs → IsAmong m (xs ++ ys)
  in_left m [] ys h = absurd h
  in_left m (x ∷ xs) ys h = ⊎_elim (λ e. inl e) (λ t. inr (in_left m xs ys t)) h

  pub in_right : (m : Note E) (xs ys : List (Note E)) → IsAmong m ys → IsAmong m (xs ++ ys)
  in_right m [] ys h = h
  in_right m (x ∷ xs) ys h = inr (in_right m xs ys h)

  -- what one of the notes has, all have together
  pub in_numbers : (c : ℕ) (m : Note E) (notes : List (Note E)) → IsAmong m notes → Has c m.numbers → Has c (numbers_of notes)
  in_numbers c m [] h has = absurd h
  in_numbers c m (n ∷ notes) h has =
      ⊎_elim (λ e. has_left c n.numbers _ (subst (λ (z : Note E). Has c z.numbers) e has)) (λ t. has_right c n.numbers _ (in_numbers c m notes t has)) h

  pub numbers_cases : (c : ℕ) (xs ys : List (Note E)) → Has c (numbers_of (xs ++ ys)) → Has c (numbers_of xs) ⊎ Has c (numbers_of ys)
  numbers_cases c [] ys h = inr h
  numbers_cases c (x ∷ xs) ys h =
      ⊎_elim (λ here. inl (has_left c x.numbers _ here)) (λ t. ⊎_elim (λ l. inl (has_right c x.numbers _ l)) (λ r. inr r) (numbers_cases c xs ys t)) (has_cases c x.numbers (numbers_of (xs ++ ys)) h)

  numbers_left : (c : ℕ) (xs ys : List (Note E)) → Has c (numbers_of xs) → Has c (numbers_of (xs ++ ys))
  numbers_left c [] ys h = absurd (cc (h))
  numbers_left c (x ∷ xs) ys h =
      ⊎_elim (λ here. has_left c x.numbers _ here) (λ t. has_right c x.numbers _ (numbers_left c xs ys t)) (has_cases c x.numbers (numbers_of xs) h)

  longer_begins : (xs ys story : List E) (b : Bool) → ltb (length xs) (length ys) ≡ b → IsPrefix xs story → IsPrefix ys story → IsPrefix (cond b ys xs) story
  longer_begins xs ys story true e p q = q
  longer_begins xs ys story false e p q = p

module _ {E : Type 0} (caller : E → ℕ) where
  -- of one note that has seen the whole story
  pub knows_all : (story : List E) (numbers : List ℕ) → EachKnows caller story (note story numbers ∷ [])
  knows_all story numbers = (record { begins = prefix_self story; own_entries = λ c h. refl }, tt)

  pub knows_both : (story : List E) (xs ys : List (Note E)) → EachKnows caller story xs → EachKnows caller story ys → EachKnows caller story (xs ++ ys)
  knows_both story [] ys k l = l
  knows_both story (x ∷ xs) ys k l = (k.0, knows_both story xs ys k.1 l)

  -- the story goes on, by entries of other callers
  pub knows_on : (story later : List E) (notes : List (Note E)) → IsPrefix story later → ((c : ℕ) → Has c (numbers_of notes) → entries_by caller c later ≡ entries_by caller c story)
      → EachKnows caller story notes → EachKnows caller later notes
  knows_on story later [] p same k = tt
  knows_on story later (n ∷ notes) p same k = (
    record { begins = prefix_trans n.seen story later k.0.begins p; own_entries = λ c h. same c (has_left c n.numbers _ h) ∙ k.0.own_entries c h },
    knows_on story later notes p (λ c h. same c (has_right c n.numbers _ h)) k.1,
  )
