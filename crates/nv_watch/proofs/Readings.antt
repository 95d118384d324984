-- Values read one after another.
use Rattle.std.proofs.Common.{◌≡◌, refl, ap, sym, ◌∙◌, ℕ, suc, ◌+◌, ◌-◌, ◌^◌, ◌≤◌, ◌<◌, Bool, true, false, List, [], ◌∷◌, ◌++◌, drop, length, append_assoc, Option, Some, None, is_none, arith}
use Rattle.std.proofs.lemmas.List.{append-nil, length-drop}
use Rattle.std.proofs.lemmas.List.Elements.{filter-append}
use Rattle.std.proofs.lemmas.Bool.Decides.{nat_tests}
use Rattle.nv_value.specs.Content.{Tree}
use Rattle.nv_value.specs.View.{contents}
use Rattle.nv_value.specs.declared.value.Value.{Value}
use Rattle.nv_msgpack.specs.Reading.{Reading, whole, more, flawed, Flaw, value_at}
use Rattle.nv_watch.specs.SentParts.{ReadValues, with_first, values_within, values_after, values_read, is_redraw_call, messages_among, others_among}
use Rattle.nv_rpc.specs.Messages.{Sent}
use Rattle.nv_rpc.specs.Received.{message_in}
use Rattle.std.specs.List.{cons_option}
use Rattle.std.specs.Prelude.{◌==◌}

pub first_whole : (bytes : List ℕ) (t : Tree) (len n : ℕ) → whole t len ≡ value_at 100 (2 ^ 62) bytes
    → values_within (suc n) bytes ≡ with_first t (values_within n (drop len bytes))
first_whole bytes t len n e = ap (λ (r : Reading Tree). values_after bytes (λ k. values_within n (drop k bytes)) r) (sym e)

pub first_cut : (bytes : List ℕ) (n : ℕ) → more ≡ value_at 100 (2 ^ 62) bytes
    → values_within (suc n) bytes ≡ record { values = []; rest = bytes }
first_cut bytes n e = ap (λ (r : Reading Tree). values_after bytes (λ k. values_within n (drop k bytes)) r) (sym e)

pub first_flawed : (bytes : List ℕ) (flaw : Flaw) (place n : ℕ) → flawed flaw place ≡ value_at 100 (2 ^ 62) bytes
    → values_within (suc n) bytes ≡ record { values = []; rest = bytes }
first_flawed bytes flaw place n e = ap (λ (r : Reading Tree). values_after bytes (λ k. values_within n (drop k bytes)) r) (sym e)

-- the values so far and those at the rest are those of all
pub record Goes (done : List Tree) (n : ℕ) (rest : List ℕ) (all : ReadValues) : Type 0 where
  pub values : done ++ (values_within n rest).values ≡ all.values
  pub rest_is : (values_within n rest).rest ≡ all.rest

-- one value more
pub goes_on : (done later : List Tree) (all i len : ℕ) (rest : List ℕ) (t : Tree) (whole_of : ReadValues) → i < all → later ≡ done ++ t ∷ []
    → ((m : ℕ) → values_within (suc m) rest ≡ with_first t (values_within m (drop len rest)))
    → Goes done (all - i) rest whole_of → Goes later (all - (i + 1)) (drop len rest) whole_of
goes_on done later all i len rest t whole_of below l_is first goes =
    let e : all - i ≡ suc (all - (i + 1)) = omega (arith, below) in
    let read : values_within (all - i) rest ≡ with_first t (values_within (all - (i + 1)) (drop len rest)) =
    ap (λ (m : ℕ). values_within m rest) e ∙ first (all - (i + 1)) in
    record {
      values =
          ap (λ (front : List Tree). front ++ (values_within (all - (i + 1)) (drop len rest)).values) l_is
          ∙ append_assoc done (t ∷ []) (values_within (all - (i + 1)) (drop len rest)).values
          ∙ ap (λ (r : ReadValues). done ++ r.values) (sym read) ∙ goes.values;
      rest_is = ap (λ (r : ReadValues). r.rest) (sym read) ∙ goes.rest_is;
    }

-- no value more
pub goes_no_further : (done : List Tree) (all i : ℕ) (rest : List ℕ) (whole_of : ReadValues) → i < all
    → ((m : ℕ) → values_within (suc m) rest ≡ record { values = []; rest = rest })
    → Goes done (all - i) rest whole_of → (done ≡ whole_of.values) × (rest ≡ whole_of.rest)
goes_no_further done all i rest whole_of below first goes =
    let e : all - i ≡ suc (all - (i + 1)) = omega (arith, below) in
    let read : values_within (all - i) rest ≡ record { values = []; rest = rest } = ap (λ (m : ℕ). values_within m rest) e ∙ first (all - (i + 1)) in
    (sym (append-nil done) ∙ ap (λ (r : ReadValues). done ++ r.values) (sym read) ∙ goes.values, ap (λ (r : ReadValues). r.rest) (sym read) ∙ goes.rest_is)

pub goes_to_end : (done : List Tree) (n : ℕ) (rest : List ℕ) (whole_of : ReadValues) → n ≡ 0
    → Goes done n rest whole_of → (done ≡ whole_of.values) × (rest ≡ whole_of.rest)
goes_to_end done n rest whole_of none goes = (
  sym (append-nil done) ∙ ap (λ (m : ℕ). done ++ (values_within m rest).values) (sym none) ∙ goes.values,
  ap (λ (m : ℕ). (values_within m rest).rest) (sym none) ∙ goes.rest_is,
)

-- a list of another length is no notification
pub other_count : (items : List Value) → (length items ≡ 3 → ⊥) → is_redraw_call (contents items) ≡ false
other_count [] other = refl
other_count (a ∷ []) other = refl
other_count (a ∷ b ∷ []) other = refl
other_count (a ∷ b ∷ c ∷ []) other = absurd (other refl)
other_count (a ∷ b ∷ c ∷ d ∷ items) other = refl

pub goes_first : (done : List Tree) (bytes : List ℕ) → done ≡ [] → Goes done (length bytes - 0) (drop 0 bytes) (values_read bytes)
unfolding values_read
goes_first done bytes none =
    let e : length bytes - 0 ≡ length bytes = omega arith in
    record {
      values = ap (λ (front : List Tree). front ++ (values_within (length bytes - 0) bytes).values) none ∙ ap (λ (n : ℕ). (values_within n bytes).values) e;
      rest_is = ap (λ (n : ℕ). (values_within n bytes).rest) e;
    }

-- nothing is left where all bytes are taken
pub nothing_left : (bytes rest : List ℕ) (taken : ℕ) → taken ≤ length bytes → drop taken bytes ≡ rest
    → (taken == length bytes) ≡ (length rest == 0)
nothing_left bytes rest taken within is =
    let e : length rest ≡ length bytes - taken = ap (length {A = ℕ}) (sym is) ∙ length-drop taken bytes in
    by_tests (taken == length bytes) (length rest == 0) refl refl e
  where
    by_tests : (a b : Bool) → (taken == length bytes) ≡ a → (length rest == 0) ≡ b → length rest ≡ length bytes - taken → (taken == length bytes) ≡ (length rest == 0)
    by_tests true true h k e = h ∙ sym k
    by_tests false false h k e = h ∙ sym k
    by_tests true false h k e = absurd (grind (arith, nat_tests))
    by_tests false true h k e = absurd (grind (arith, nat_tests))

pub messages_first : (t : Tree) (ts : List Tree) → messages_among (t ∷ []) ++ messages_among ts ≡ messages_among (t ∷ ts)
messages_first t ts = by_message (message_in t)
  where
    by_message : (m : Option Sent) → cons_option m [] ++ messages_among ts ≡ cons_option m (messages_among ts)
    by_message None = refl
    by_message (Some m) = refl

pub others_first : (t : Tree) (ts : List Tree) → others_among (t ∷ []) ++ others_among ts ≡ others_among (t ∷ ts)
others_first t ts = sym (filter-append (λ t. is_none (message_in t)) (t ∷ []) ts)
