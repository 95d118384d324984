-- Bytes that are counted one after another.
use Rattle.std.proofs.Common.{◌≡◌, ℕ, ◌+◌, ◌<◌, ◌≤◌, List, [], ◌∷◌, ◌++◌, length, drop, get_or, refl, sym, ap, ◌∙◌, Option, Some, None, option_map}
use Rattle.std.proofs.lemmas.List.{at_drop_more, at_drop_all}
use Rattle.nv_value.specs.Content.{text}
use Rattle.nv_lines.specs.Excerpts.{list_lines}
use Rattle.nv_rpc.specs.Messages.{Sent}
use Rattle.nv_args.specs.Texts.{strings}
use Rattle.nv_history.specs.Events.{Cause}
use Rattle.nv_history.specs.Sessions.{Session}
use Rattle.nv_core.specs.Contents.{plain_cause}
use Rattle.nv_core.specs.Sizes.{plus, memory_of, memory_with, memory_of_sent, memory_of_waiting, bytes_unless_closed}
use Rattle.nv_core.specs.declared.effect.Cause.{Cause as KeptCause}

-- one more message
pub memory-push : (n : ℕ) (messages : List Sent) (message : Sent) → memory_of_waiting n (messages ++ message ∷ []) ≡ plus (memory_of_waiting n messages) (memory_of_sent message)
memory-push n [] message = refl
memory-push n (m ∷ ms) message = memory-push (plus n (memory_of_sent m)) ms message

pub counted_push : (before after size : ℕ) (messages : List Sent) (message : Sent) → before ≡ memory_of_waiting 0 messages → size ≡ memory_of_sent message → after ≡ plus before size
    → after ≡ memory_of_waiting 0 (messages ++ message ∷ [])
counted_push before after size messages message was is so =
    so ∙ ap (λ (k : ℕ). plus k size) was ∙ ap (λ (k : ℕ). plus (memory_of_waiting 0 messages) k) is ∙ sym (memory-push 0 messages message)

-- what comes to a sum with the rest, where one more was added to it, and where nothing is left
pub counted_more : {X : Type 0} (F : ℕ → List X → ℕ) (next : ℕ → X → ℕ) → ((n : ℕ) (x : X) (xs : List X) → F n (x ∷ xs) ≡ F (next n x) xs)
    → (xs : List X) (i n more total : ℕ) (x : X) → i < length xs → x ≡ get_or xs i x → more ≡ next n x → F n (drop i xs) ≡ total → F more (drop (i + 1) xs) ≡ total
counted_more F next step xs i n more total x within is so e =
    ap (λ (m : ℕ). F m (drop (i + 1) xs)) (so ∙ ap (λ y. next n y) is)
    ∙ sym (step n (get_or xs i x) (drop (i + 1) xs))
    ∙ sym (at_drop_more (F n) xs i x within)
    ∙ e

pub counted_all : {X : Type 0} (F : ℕ → List X → ℕ) → ((n : ℕ) → F n [] ≡ n) → (xs : List X) (i n total : ℕ) → length xs ≤ i → F n (drop i xs) ≡ total → n ≡ total
counted_all F stop xs i n total past e = sym (stop n) ∙ sym (at_drop_all (F n) xs i past) ∙ e

-- ---- lines in several lists

strings_behind : (a b : List (List ℕ)) (n : ℕ) → memory_with (strings (a ++ b)) n ≡ memory_with (strings b) (memory_with (strings a) n)
strings_behind [] b n = refl
strings_behind (x ∷ a) b n = strings_behind a b (plus n (memory_of (text x)))

-- of the lines of lists, behind so many bytes of others
abbrev pub memory_of_lists : ℕ → List (List (List ℕ)) → ℕ
memory_of_lists n lists = memory_with (strings (list_lines lists)) n

pub list_counted : (lists : List (List (List ℕ))) (i n more total : ℕ) (list : List (List ℕ)) → i < length lists → list ≡ get_or lists i list
    → more ≡ memory_with (strings list) n → memory_with (strings (list_lines (drop i lists))) n ≡ total → memory_with (strings (list_lines (drop (i + 1) lists))) more ≡ total
list_counted lists i n more total list within is so e =
    counted_more memory_of_lists (λ (m : ℕ) (l : List (List ℕ)). memory_with (strings l) m) (λ m l ls. strings_behind l (list_lines ls) m) lists i n more total list within is so e

-- ---- what is due

-- the bytes that are due to a session that isn't closed, and to one that is
pub due_open : (closed : Option KeptCause) (y : Session) (bytes : ℕ) → closed ≡ None → option_map plain_cause closed ≡ y.closed → bytes ≡ memory_of_waiting 0 y.waiting
    → bytes ≡ bytes_unless_closed y.closed y.waiting
due_open closed y bytes none same counted =
    counted
    ∙ ap (λ (o : Option KeptCause). bytes_unless_closed (option_map plain_cause o) y.waiting) (sym none)
    ∙ ap (λ (o : Option Cause). bytes_unless_closed o y.waiting) same

pub due_closed : (closed : Option KeptCause) (y : Session) (cause : KeptCause) → closed ≡ Some cause → option_map plain_cause closed ≡ y.closed
    → 0 ≡ bytes_unless_closed y.closed y.waiting
due_closed closed y cause some same =
    ap (λ (o : Option KeptCause). bytes_unless_closed (option_map plain_cause o) y.waiting) (sym some)
    ∙ ap (λ (o : Option Cause). bytes_unless_closed o y.waiting) same
