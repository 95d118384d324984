-- The values of a book can be spelled.
use Rattle.std.proofs.Common.{◌≡◌, ℕ, pos, ◌≤◌, Bool, true, false, cond, List, [], ◌∷◌, ◌++◌, length, take, map, refl, sym, ap, ◌∙◌, subst, arith, append_assoc, append-nil, ◌+◌}
use Rattle.std.specs.Prelude.{◌<◌, ◌^◌, nat_lt, flat_map}
use Rattle.std.proofs.lemmas.Bool.{ltb-false}
use Rattle.std.proofs.lemmas.List.{length-take-le}
use Rattle.std.proofs.lemmas.Grind.{flat_map-append}
use Rattle.nv_value.specs.Content.{Tree, integer, big, bin}
use Rattle.nv_msgpack.specs.Spelling.{unsigned_number}
use Rattle.nv_msgpack.specs.Shortest.{shortest, HasSpelling}
use Rattle.nv_rpc.specs.Calls.{Call, request, notice}
use Rattle.nv_args.specs.Weight.{weight, weights, AreLight}
use Rattle.nv_core.specs.Bounds.{IsLightCall, IsLightEvent}
use Rattle.nv_history.specs.Events.{Event, open_session, request_of, take_of, close_of, Entry}
use Rattle.nv_book.specs.Books.{Recorded, method_tree, params_tree, most_value, entry_head, book_head, book_end, shortest_of_all, IsFitEntry}
use Rattle.nv_book.specs.Outputs.{numbered_piece}
use Rattle.nv_book.specs.declared.form.Form.{Form}
use Rattle.nv_book.specs.declared.form.Form.TheVariants.{Book, Outputs}
use Rattle.nv_book.specs.inside.Steps.{head_trees, piece_tree, trees_of_record, trees_of_records}

number_by : (b : Bool) (n : ℕ) → (b ≡ false → 2 ^ 63 ≤ n) → HasSpelling (cond b (integer (pos n)) (big n))
number_by true n h = tt
number_by false n h = h refl

number_spelling : (n : ℕ) → HasSpelling (unsigned_number n)
number_spelling n = number_by (nat_lt n (2 ^ 63)) n (λ e. ltb-false n (2 ^ 63) e)

few : {n : ℕ} → n < 16 → n < 2 ^ 32
few h = omega arith

head_of : (e : Event) (caller count : ℕ) → IsFitEntry (record { caller = caller; event = e }) → HasSpelling (entry_head (record { caller = caller; event = e }) count)
head_of open_session caller count fit = (omega arith, (omega arith, (number_spelling caller, tt)))
head_of (request_of s call) caller count fit = fit.spelling
head_of (take_of s) caller count fit = (omega arith, (omega arith, (number_spelling caller, (number_spelling s, (number_spelling count, tt)))))
head_of (close_of s) caller count fit = (omega arith, (omega arith, (number_spelling caller, (number_spelling s, tt))))

pub head_spelling : (e : Entry) (count : ℕ) → IsFitEntry e → HasSpelling (entry_head e count)
head_spelling e count fit = head_of e.event e.caller count fit

pub book_head_spelling : (outbox : ℕ) → HasSpelling (book_head outbox)
book_head_spelling outbox = (omega arith, (omega arith, (number_spelling 1, (number_spelling outbox, tt))))

pub book_end_spelling : (count : ℕ) → HasSpelling (book_end count)
book_end_spelling count = (omega arith, (omega arith, (number_spelling count, tt)))

pub piece_spelling : (form : Form) (at s : ℕ) (bytes : List ℕ) → length bytes ≤ 1048576 → HasSpelling (piece_tree form at s bytes)
piece_spelling Book at s bytes h = omega arith
piece_spelling Outputs at s bytes h = (omega arith, (number_spelling at, (number_spelling s, (omega arith, tt))))

-- ---- values one behind another

pub spelled_more : (ts us : List Tree) → shortest_of_all (ts ++ us) ≡ shortest_of_all ts ++ shortest_of_all us
spelled_more ts us = flat_map-append shortest ts us

pub trees_push : (form : Form) (at : ℕ) (rs : List Recorded) (r : Recorded)
    → trees_of_records form at (rs ++ r ∷ []) ≡ trees_of_records form at rs ++ trees_of_record form (at + length rs) r
trees_push form at [] r = append-nil (trees_of_record form at r) ∙ ap (λ (n : ℕ). trees_of_record form n r) (omega arith)
trees_push form at (x ∷ rs) r =
    ap (λ (l : List Tree). trees_of_record form at x ++ l)
    (trees_push form (at + 1) rs r ∙ ap (λ (n : ℕ). trees_of_records form (at + 1) rs ++ trees_of_record form n r) (omega arith))
    ∙ sym (append_assoc (trees_of_record form at x) (trees_of_records form (at + 1) rs) (trees_of_record form (at + length (x ∷ rs)) r))

-- an event whose value is light is light
call_light : (call : Call) → weight (method_tree call) + weight (params_tree call) ≤ most_value → IsLightCall call
call_light (request msgid method params) h = (omega arith, omega arith)
call_light (notice method params) h = (omega arith, omega arith)

pub light_event : (event : Event) (caller count : ℕ) → weight (entry_head (record { caller = caller; event = event }) count) ≤ most_value → IsLightEvent event
light_event open_session caller count h = tt
light_event (request_of s call) caller count h =
    call_light call (omega arith)
light_event (take_of s) caller count h = tt
light_event (close_of s) caller count h = tt

-- what tells of an entry was spelled
pub head_spelled : (form : Form) (e : Entry) (n m : ℕ) (t : Tree) (before room : List ℕ) → form ≡ Book → before ≡ [] → room ≡ before ++ shortest t → t ≡ entry_head e m → m ≡ n
    → room ≡ shortest_of_all (head_trees form e n)
head_spelled form e n m t before room f b r h k =
    subst (λ (x : Form). room ≡ shortest_of_all (head_trees x e n)) (sym f)
    (r
    ∙ ap (λ (l : List ℕ). l ++ shortest t) b
    ∙ ap shortest (h ∙ ap (entry_head e) k)
    ∙ sym (append-nil (shortest (entry_head e n))))
