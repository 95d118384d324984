-- An event of lines is spelled piece by piece.
use Rattle.std.proofs.Common.{◌≡◌, ℤ, List, ℕ, [], ◌∷◌, ◌++◌, refl, ap, sym, ◌∙◌}
use Rattle.std.proofs.lemmas.List.{append_assoc, append-nil}
use Rattle.nv_value.specs.Content.{Trees, integer, list}
use Rattle.nv_msgpack.specs.Shortest.{shortest, list_head, text_head, unsigned_spelling}
use Rattle.nv_rpc.specs.Messages.{buffer_handle, lines_event, lines_name, message_tree}
use Rattle.nv_rpc.specs.inside.Fronts.{lines_front}

-- two things one after another
then_put : (old middle new a b : List ℕ) → middle ≡ old ++ a → new ≡ middle ++ b → new ≡ old ++ (a ++ b)
then_put old middle new a b e w = w ∙ ap (λ (l : List ℕ). l ++ b) e ∙ append_assoc old a b

-- what goes before the numbers
abbrev name_front : List ℕ
name_front = 0x93 ∷ 2 ∷ 0xb4 ∷ (lines_name ++ 0x96 ∷ [])

-- its front was put
pub lines_front_put : (old named one two three new : List ℕ) (buffer tick first last : ℤ) → named ≡ old ++ name_front
    → one ≡ named ++ shortest (buffer_handle buffer) → two ≡ one ++ shortest (integer tick) → three ≡ two ++ shortest (integer first)
    → new ≡ three ++ shortest (integer last) → new ≡ old ++ lines_front buffer tick first last
lines_front_put old named one two three new buffer tick first last a b c d e =
    let h = shortest (buffer_handle buffer) in
    let t = shortest (integer tick) in
    let f = shortest (integer first) in
    let l = shortest (integer last) in
    then_put old named new name_front (h ++ (t ++ (f ++ l))) a
    (then_put named one new h (t ++ (f ++ l)) b (then_put one two new t (f ++ l) c (then_put two three new f l d e)))

-- four parts and what follows them
four_parts : (h t f l x : List ℕ) → (h ++ (t ++ (f ++ l))) ++ x ≡ h ++ (t ++ (f ++ (l ++ x)))
four_parts h t f l x =
    append_assoc h (t ++ (f ++ l)) x
    ∙ ap (λ (s : List ℕ). h ++ s) (append_assoc t (f ++ l) x ∙ ap (λ (s : List ℕ). t ++ s) (append_assoc f l x))

lines_begin : (buffer tick first last : ℤ) (lines : Trees) → shortest (message_tree (lines_event buffer tick first last lines))
    ≡ name_front ++ ((shortest (buffer_handle buffer) ++ (shortest (integer tick) ++ (shortest (integer first) ++ (shortest (integer last)
    ++ (shortest (list lines) ++ 0xc2 ∷ []))))) ++ [])
unfolding message_tree list_head text_head unsigned_spelling
lines_begin buffer tick first last lines = refl

pub lines_are : (buffer tick first last : ℤ) (lines : Trees) → shortest (message_tree (lines_event buffer tick first last lines))
    ≡ lines_front buffer tick first last ++ (shortest (list lines) ++ 0xc2 ∷ [])
lines_are buffer tick first last lines =
    let h = shortest (buffer_handle buffer) in
    let t = shortest (integer tick) in
    let f = shortest (integer first) in
    let l = shortest (integer last) in
    let x = shortest (list lines) ++ 0xc2 ∷ [] in
    lines_begin buffer tick first last lines
    ∙ ap (λ (s : List ℕ). name_front ++ s) (append-nil (h ++ (t ++ (f ++ (l ++ x)))) ∙ sym (four_parts h t f l x))
    ∙ sym (append_assoc name_front (h ++ (t ++ (f ++ l))) x)

-- all of it was put
pub lines_put : (old front middle new : List ℕ) (buffer tick first last : ℤ) (lines : Trees) → front ≡ old ++ lines_front buffer tick first last
    → middle ≡ front ++ shortest (list lines) → new ≡ middle ++ 0xc2 ∷ []
    → new ≡ old ++ shortest (message_tree (lines_event buffer tick first last lines))
lines_put old front middle new buffer tick first last lines a b c =
    let whole = shortest (list lines) in
    then_put old front new (lines_front buffer tick first last) (whole ++ 0xc2 ∷ []) a (then_put front middle new whole (0xc2 ∷ []) b c)
    ∙ ap (λ (s : List ℕ). old ++ s) (sym (lines_are buffer tick first last lines))
