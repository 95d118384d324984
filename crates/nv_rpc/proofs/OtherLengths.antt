-- Lists that are no message, no error and no event's arguments by their length.
use Rattle.std.proofs.Common.{◌≡◌, ℕ, ◌<◌, ◌≤◌, List, [], ◌∷◌, length, None, refl, arith}
use Rattle.nv_value.specs.Content.{list}
use Rattle.nv_value.specs.View.{contents}
use Rattle.nv_value.specs.declared.value.Value.{Value}
use Rattle.nv_rpc.specs.Received.{message_in, error_in, event_of}

pub no_message_below : (vs : List Value) → length vs < 3 → message_in (list (contents vs)) ≡ None
unfolding message_in
no_message_below [] h = refl
no_message_below (a ∷ []) h = refl
no_message_below (a ∷ b ∷ []) h = refl
no_message_below (a ∷ b ∷ c ∷ vs) h = absurd (omega arith)

pub no_message_above : (vs : List Value) → 5 ≤ length vs → message_in (list (contents vs)) ≡ None
unfolding message_in
no_message_above [] h = absurd (omega arith)
no_message_above (a ∷ []) h = absurd (omega arith)
no_message_above (a ∷ b ∷ []) h = absurd (omega arith)
no_message_above (a ∷ b ∷ c ∷ []) h = absurd (omega arith)
no_message_above (a ∷ b ∷ c ∷ d ∷ []) h = absurd (omega arith)
no_message_above (a ∷ b ∷ c ∷ d ∷ e ∷ vs) h = refl

pub no_error_below : (vs : List Value) → length vs < 2 → error_in (list (contents vs)) ≡ None
no_error_below [] h = refl
no_error_below (a ∷ []) h = refl
no_error_below (a ∷ b ∷ vs) h = absurd (omega arith)

pub no_error_above : (vs : List Value) → 3 ≤ length vs → error_in (list (contents vs)) ≡ None
no_error_above [] h = absurd (omega arith)
no_error_above (a ∷ []) h = absurd (omega arith)
no_error_above (a ∷ b ∷ []) h = absurd (omega arith)
no_error_above (a ∷ b ∷ c ∷ vs) h = refl

pub no_event_between : (name : List ℕ) (vs : List Value) → 3 ≤ length vs → length vs < 6 → event_of name (contents vs) ≡ None
no_event_between name [] h k = absurd (omega arith)
no_event_between name (a ∷ []) h k = absurd (omega arith)
no_event_between name (a ∷ b ∷ []) h k = absurd (omega arith)
no_event_between name (a ∷ b ∷ c ∷ []) h k = refl
no_event_between name (a ∷ b ∷ c ∷ d ∷ []) h k = refl
no_event_between name (a ∷ b ∷ c ∷ d ∷ e ∷ []) h k = refl
no_event_between name (a ∷ b ∷ c ∷ d ∷ e ∷ f ∷ vs) h k = absurd (omega arith)

pub no_event_above : (name : List ℕ) (vs : List Value) → 7 ≤ length vs → event_of name (contents vs) ≡ None
no_event_above name [] h = absurd (omega arith)
no_event_above name (a ∷ []) h = absurd (omega arith)
no_event_above name (a ∷ b ∷ []) h = absurd (omega arith)
no_event_above name (a ∷ b ∷ c ∷ []) h = absurd (omega arith)
no_event_above name (a ∷ b ∷ c ∷ d ∷ []) h = absurd (omega arith)
no_event_above name (a ∷ b ∷ c ∷ d ∷ e ∷ []) h = absurd (omega arith)
no_event_above name (a ∷ b ∷ c ∷ d ∷ e ∷ f ∷ []) h = absurd (omega arith)
no_event_above name (a ∷ b ∷ c ∷ d ∷ e ∷ f ∷ g ∷ vs) h = refl
