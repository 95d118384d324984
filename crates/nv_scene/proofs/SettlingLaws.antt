-- What settling leaves.
use Rattle.std.proofs.Common.{◌≡◌, ℕ, zero, suc, ◌+◌, ◌-◌, ◌==◌, ◌<◌, ◌≤◌, Bool, true, false, cond, nat_lt, List, [], ◌∷◌, ◌++◌, length, map, take, drop, get_or, slice_range, All, Option, Some, None, refl, sym, ap, ◌∙◌, ◌⊎◌, inl, inr, arith}
use Rattle.std.specs.Prelude.{flat_map}
use Rattle.std.proofs.lemmas.Bool.Decides.{nat_tests}
use Rattle.std.proofs.lemmas.List.{length-drop, length-map}
use Rattle.std.proofs.lemmas.List.Elements.{All-nil, All-cons}
use Rattle.nv_layout.specs.Division.{total}
use Rattle.nv_layout.specs.declared.nodes.Rect.{Rect}
use Rattle.nv_windows.specs.Rooms.{text_area}
use Rattle.nv_windows.specs.declared.window.Window.{Window}
use Rattle.nv_linedraw.specs.LineCells.{no_looks, rows_of_line}
use Rattle.nv_linedraw.proofs.WholeLemmas.{rows_are_whole}
use Rattle.nv_model.specs.Editors.{ModelEditor}
use Rattle.nv_model.specs.Operations.{Operation}
use Rattle.nv_model.specs.Seen.{Seen, SeenBuffer, seen_of}
use Rattle.nv_scene.specs.Laws.{IsWindowOn, SettledShowCursors, SettlingIsOnce, ShowsCursor}
use Rattle.nv_scene.specs.Settling.{first_fitting, line_heights, settle_operations, settled_top, top_by, top_of, window_settling}
use Rattle.nv_scene.proofs.Fitting.{first_fitting_is, rows_from, settled_again, top_within}
use Rattle.nv_scene.proofs.Settled.{all_settled, settled}

same_test : (a b : ℕ) → a ≡ b → (a == b) ≡ true
same_test a b e = grind (arith, nat_tests)

-- a settled window stays
by_again : (w : Window) (o : Option Rect) (p : Option SeenBuffer) → top_by (record w { top = top_by w o p }) o p ≡ top_by w o p
by_again w None None = refl
by_again w None (Some b) = refl
by_again w (Some area) None = refl
by_again w (Some area) (Some b) = settled_again area.height (line_heights area.width b) w.cursor.row w.top

one_again : (s : Seen) (w : Window) → window_settling s (settled s w) ≡ []
one_again s w =
    ap (λ (t : Bool). cond t [] (Operation.top_put w.handle (top_of s (settled s w)) ∷ []))
    (same_test (top_of s (settled s w)) (top_of s w) (by_again w (text_area s.stage.workspace w.handle) (s.buffer w.buffer)))

none_left : (s : Seen) (ws : List Window) → flat_map (window_settling s) (map (settled s) ws) ≡ []
none_left s [] = refl
none_left s (w ∷ ws) = ap (λ (os : List Operation). os ++ flat_map (window_settling s) (map (settled s) ws)) (one_again s w) ∙ none_left s ws

pub settling_is_once : SettlingIsOnce
settling_is_once m sound =
    ap (λ (e : ModelEditor). settle_operations (seen_of e)) (all_settled m sound)
    ∙ none_left (seen_of m) m.stage.workspace.windows

-- ---- a window shows its cursor
both_empty : {X : Type 0} (xs ys : List X) → xs ++ ys ≡ [] → (xs ≡ []) × (ys ≡ [])
both_empty [] ys e = (refl, e)
both_empty (x ∷ xs) ys e = cc

stays : (s : Seen) (w : Window) → window_settling s w ≡ [] → top_of s w ≡ w.top
stays s w e = by (top_of s w == w.top) refl e
  where
    same_top : (top_of s w == w.top) ≡ true → top_of s w ≡ w.top
    same_top e = grind (arith, nat_tests)

    by : (t : Bool) → (top_of s w == w.top) ≡ t → cond t [] (Operation.top_put w.handle (top_of s w) ∷ []) ≡ [] → top_of s w ≡ w.top
    by true is f = same_top is
    by false is f = cc

-- the rows between leave one for the cursor
not_before : (cursor top : ℕ) → top ≤ cursor → nat_lt cursor top ≡ false
not_before cursor top h = grind (arith, nat_tests)

-- taken up to a number, one more
one_taken : (hs : List ℕ) (n : ℕ) → n < length hs → total (take (suc n) hs) ≡ total (take n hs) + get_or hs n 0
one_taken [] n within = absurd (omega arith)
one_taken (k ∷ hs) zero within = omega arith
one_taken (k ∷ hs) (suc n) within = let rest = one_taken hs n (omega arith) in omega (arith, rest)

get_behind : (hs : List ℕ) (first n : ℕ) → get_or (drop first hs) n 0 ≡ get_or hs (first + n) 0
get_behind hs zero n = let same : zero + n ≡ n = omega arith in ap (λ (k : ℕ). get_or hs k 0) (sym same)
get_behind [] (suc first) n = refl
get_behind (k ∷ hs) (suc first) n = let same : suc first + n ≡ suc (first + n) = omega arith in get_behind hs first n ∙ ap (λ (j : ℕ). get_or (k ∷ hs) j 0) (sym same)

rows_between : (hs : List ℕ) (cursor first : ℕ) → first ≤ cursor → cursor < length hs
    → total (slice_range hs first cursor) + get_or hs cursor 0 ≡ rows_from hs cursor first
rows_between hs cursor first h within =
    let count : suc cursor - first ≡ suc (cursor - first) = omega arith in
    let there : first + (cursor - first) ≡ cursor = omega arith in
    let more = one_taken (drop first hs) (cursor - first) (omega (arith, length-drop first hs, within)) in
    let last : get_or (drop first hs) (cursor - first) 0 ≡ get_or hs cursor 0 = get_behind hs first (cursor - first) ∙ ap (λ (k : ℕ). get_or hs k 0) there in
    omega (arith, more, last, ap (λ (k : ℕ). total (take k (drop first hs))) count)

none_between : (hs : List ℕ) (n : ℕ) → total (slice_range hs n n) ≡ 0
none_between hs n = let none : n - n ≡ 0 = omega arith in ap (λ (k : ℕ). total (take k (drop n hs))) none

has_rows : (f : List ℕ → ℕ) (lines : List (List ℕ)) (k : ℕ) → ((line : List ℕ) → 0 < f line) → k < length lines → 0 < get_or (map f lines) k 0
has_rows f [] k some h = absurd (omega arith)
has_rows f (line ∷ lines) zero some h = some line
has_rows f (line ∷ lines) (suc k) some h = has_rows f lines k some (omega arith)

room_left : (rows : ℕ) (hs : List ℕ) (cursor top : ℕ) → 0 < rows → cursor < length hs → 0 < get_or hs cursor 0 → settled_top rows hs cursor top ≡ top
    → (top ≤ cursor) × (total (slice_range hs top cursor) < rows)
room_left rows hs cursor top high within some e =
    let before : top ≤ cursor = omega (arith, e, top_within rows hs cursor top) in
    let fitted : first_fitting rows hs cursor (cursor - top) ≡ top =
    sym (ap (λ (t : Bool). cond t cursor (first_fitting rows hs cursor (cursor - top))) (not_before cursor top before)) ∙ e in
    (before, by before fitted (first_fitting_is rows hs cursor (cursor - top)))
  where
    by : top ≤ cursor → first_fitting rows hs cursor (cursor - top) ≡ top
        → (first_fitting rows hs cursor (cursor - top) ≡ cursor) ⊎ ((k : ℕ) × (first_fitting rows hs cursor (cursor - top) ≡ k) × (cursor - (cursor - top) ≤ k) × (k ≤ cursor) × (rows_from hs cursor k ≤ rows))
        → total (slice_range hs top cursor) < rows
    by before fitted (inl is) =
        let same : top ≡ cursor = sym fitted ∙ is in
        omega (arith, high, none_between hs cursor, ap (λ (n : ℕ). total (slice_range hs n cursor)) same)
    by before fitted (inr found) =
        let same : found.0 ≡ top = sym found.1 ∙ fitted in
        omega (arith, found.4, ap (rows_from hs cursor) same, rows_between hs cursor top before within, some)

shows_one : (s : Seen) (w : Window) → window_settling s w ≡ [] → (area : Rect) (b : SeenBuffer) → IsWindowOn s w area b → ShowsCursor w area b
shows_one s w none area b is =
    let here : settled_top area.height (line_heights area.width b) w.cursor.row w.top ≡ w.top =
    sym (λ i. top_by w (is.area_is i) (is.buffer_is i)) ∙ stays s w none in
    let within : w.cursor.row < length (line_heights area.width b) = omega (arith, is.row, length-map b.lines (rows_of_line area.width b.tabstop)) in
    let shown = room_left area.height (line_heights area.width b) w.cursor.row w.top is.high within
    (has_rows (rows_of_line area.width b.tabstop) b.lines w.cursor.row
    (λ line. (rows_are_whole area.width b.tabstop line [] no_looks is.wide is.stop).1) is.row)
    here in
    record { first = shown.0; room = shown.1 }

each_shows : (s : Seen) (ws : List Window) → flat_map (window_settling s) ws ≡ []
    → All (λ (w : Window). (area : Rect) (b : SeenBuffer) → IsWindowOn s w area b → ShowsCursor w area b) ws
each_shows s [] none = All-nil _
each_shows s (w ∷ ws) none =
    let parts = both_empty (window_settling s w) (flat_map (window_settling s) ws) none in
    All-cons (λ (v : Window). (area : Rect) (b : SeenBuffer) → IsWindowOn s v area b → ShowsCursor v area b) w ws
    (shows_one s w parts.0) (each_shows s ws parts.1)

pub settled_show_cursors : SettledShowCursors
settled_show_cursors s none = each_shows s s.stage.workspace.windows none
