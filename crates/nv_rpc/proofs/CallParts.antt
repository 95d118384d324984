-- The parts of a call: how many values it has, and its last two.
use Rattle.std.proofs.Common.{◌≡◌, ℕ, ◌<◌, ◌≤◌, Bool, true, false, List, [], ◌∷◌, ◌++◌, length, Option, Some, None, option_map, if◌then◌else◌, IsSome, option_to_list, refl, ap, sym, subst, ◌∙◌, arith, rules}
use Rattle.nv_value.specs.Content.{Trees, list}
use Rattle.nv_value.specs.View.{content, contents}
use Rattle.nv_value.specs.declared.value.Value.{Value}
use Rattle.nv_rpc.specs.Steps.{◌>>=◌}
use Rattle.nv_rpc.specs.Calls.{Call, request, notice, call_in, name_in, params_in, msgid_in}
use Rattle.nv_rpc.specs.inside.Heads.{without_msgid}

-- Fewer than three values are no call.
pub no_call_below : (vs : List Value) → length vs < 3 → call_in (list (contents vs)) ≡ None
unfolding call_in
no_call_below [] h = refl
no_call_below (a ∷ []) h = refl
no_call_below (a ∷ b ∷ []) h = refl
no_call_below (a ∷ b ∷ c ∷ vs) h = absurd (omega arith)

-- Nor are five or more.
pub no_call_above : (vs : List Value) → 5 ≤ length vs → call_in (list (contents vs)) ≡ None
unfolding call_in
no_call_above [] h = absurd (omega arith)
no_call_above (a ∷ []) h = absurd (omega arith)
no_call_above (a ∷ b ∷ []) h = absurd (omega arith)
no_call_above (a ∷ b ∷ c ∷ []) h = absurd (omega arith)
no_call_above (a ∷ b ∷ c ∷ d ∷ []) h = absurd (omega arith)
no_call_above (a ∷ b ∷ c ∷ d ∷ e ∷ vs) h = refl

-- A call has a name and a list of arguments, and is made of them.
pub record HasParts (name : Option (List ℕ)) (params : Option Trees) (call : Option Call) : Type 0 where
  pub named : IsSome name
  pub listed : IsSome params
  pub made : (n : List ℕ) (ts : Trees) → name ≡ Some n → params ≡ Some ts → option_map without_msgid call ≡ Some (notice n ts)

notice_parts : (b : Bool) (name : Option (List ℕ)) (params : Option Trees) →
    IsSome (if b then name >>= (λ n. params >>= (λ ts. Some (notice n ts))) else None) →
    HasParts name params (if b then name >>= (λ n. params >>= (λ ts. Some (notice n ts))) else None)
notice_parts true (Some n) (Some ts) h = record { named = search rules; listed = search rules; made = λ m us e f. (cc) }
notice_parts true (Some n) None h = absurd (search (rules, h))
notice_parts true None params h = absurd (search (rules, h))
notice_parts false name params h = absurd (search (rules, h))

request_parts : (b : Bool) (msgid : Option ℕ) (name : Option (List ℕ)) (params : Option Trees) →
    IsSome (if b then msgid >>= (λ id. name >>= (λ n. params >>= (λ ts. Some (request id n ts)))) else None) →
    HasParts name params (if b then msgid >>= (λ id. name >>= (λ n. params >>= (λ ts. Some (request id n ts)))) else None)
request_parts true (Some id) (Some n) (Some ts) h = record { named = search rules; listed = search rules; made = λ m us e f. (cc) }
request_parts true (Some id) (Some n) None h = absurd (search (rules, h))
request_parts true (Some id) None params h = absurd (search (rules, h))
request_parts true None name params h = absurd (search (rules, h))
request_parts false msgid name params h = absurd (search (rules, h))

-- The last two values of a call are its name and its arguments.
pub last_two : (vs : List Value) (name params : Value) → IsSome (call_in (list (contents ((vs ++ name ∷ []) ++ params ∷ [])))) →
    HasParts (name_in (content name)) (params_in (content params)) (call_in (list (contents ((vs ++ name ∷ []) ++ params ∷ []))))
unfolding call_in
last_two [] name params h = absurd (search (rules, h))
last_two (a ∷ []) name params h = notice_parts _ _ _ h
last_two (a ∷ b ∷ []) name params h = request_parts _ (msgid_in (content b)) _ _ h
last_two (a ∷ b ∷ c ∷ []) name params h = absurd (search (rules, h))
last_two (a ∷ b ∷ c ∷ d ∷ []) name params h = absurd (search (rules, h))
last_two (a ∷ b ∷ c ∷ d ∷ e ∷ vs) name params h = absurd (search (rules, h))

-- The same for the values that two calls of `pop` took.
pub parts_of : (vs ws us : List Value) (last before : Option Value) (name params : Value) →
    vs ≡ ws ++ option_to_list last → last ≡ Some params → ws ≡ us ++ option_to_list before → before ≡ Some name →
    IsSome (call_in (list (contents vs))) → HasParts (name_in (content name)) (params_in (content params)) (call_in (list (contents vs)))
parts_of vs ws us last before name params e f g h some =
    let front : ws ≡ us ++ name ∷ [] = g ∙ ap (λ o. us ++ option_to_list o) h in
    let whole : vs ≡ (us ++ name ∷ []) ++ params ∷ [] = (e ∙ ap (λ o. ws ++ option_to_list o) f) ∙ ap (λ l. l ++ params ∷ []) front in
    let P : List Value → Type 0 = λ l. IsSome (call_in (list (contents l))) → HasParts (name_in (content name)) (params_in (content params)) (call_in (list (contents l))) in
    subst P (sym whole) (last_two us name params) some
