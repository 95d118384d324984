-- What each row makes.
use Rattle.std.proofs.Common.{◌≡◌, inl, inr, refl, ℕ, ℤ, Bool, true, false, List, [], ◌∷◌}
use Rattle.nv_args.specs.Faults.{last_one}
use Rattle.nv_args.specs.declared.methods.WindowMethod.{WindowMethod}
use Rattle.nv_args.specs.declared.methods.WindowMethod.TheVariants.{SetCurrentWin, OpenWin, WinClose, WinSetBuf, WinSetCursor, WinSetHeight, WinSetWidth, SetCurrentTabpage}
use Rattle.nv_value.specs.Content.{Tree, nil}
use Rattle.nv_places.specs.declared.place.Pos.{Pos}
use Rattle.nv_layout.specs.declared.nodes.Axis.{Axis}
use Rattle.nv_windows.specs.Workspace.{Page}
use Rattle.nv_windows.specs.Rooms.{has_one_window}
use Rattle.nv_windows.specs.Operations.{has_one_tabpage}
use Rattle.nv_model.specs.Stage.{Stage}
use Rattle.nv_model.specs.Seen.{Seen}
use Rattle.nv_model.specs.Operations.{window_closed, tab_closed, went_to_window, went_to_tab, cursor_put, shown, wish_put}
use Rattle.nv_model.specs.Answers.{replied}
use Rattle.nv_model.specs.Kinds.{MakesOnly, HasEffects}
use Rattle.nv_model.proofs.Making.{making_words, makes_one, makes_done, makes_unless, makes_either, makes_no_splice, silent_tells}
use Rattle.nv_api_win.specs.WindowRows.{opening_operations, closing_answer, window_row, window_effects}
use Rattle.nv_api_win.specs.Laws.{WindowRowsHaveEffects, WindowRowsTell}

-- ---- the operations that the rows make

goes : (w : ℤ) → MakesOnly (window_effects SetCurrentWin) (replied nil (went_to_window w ∷ []) [])
goes w = makes_one (window_effects SetCurrentWin) nil (went_to_window w) (inl refl)

goes_to_tab : (t : ℤ) → MakesOnly (window_effects SetCurrentTabpage) (replied nil (went_to_tab t ∷ []) [])
goes_to_tab t = makes_one (window_effects SetCurrentTabpage) nil (went_to_tab t) (inl refl)

opens : (t : Tree) (stage : Stage) (buffer beside : ℤ) (enter : Bool) (pairs : List (Tree × Tree))
    → MakesOnly (window_effects OpenWin) (replied t (opening_operations stage buffer beside enter pairs) [])
opens t stage buffer beside true pairs =
    makes_done (window_effects OpenWin) t (opening_operations stage buffer beside true pairs) (inl refl, (inr (inl refl), tt))
opens t stage buffer beside false pairs =
    makes_done (window_effects OpenWin) t (opening_operations stage buffer beside false pairs) (inl refl, tt)

closes : (s : Seen) (w : ℤ) (t : Page) → MakesOnly (window_effects WinClose) (closing_answer s.stage.workspace w t)
closes s w t =
    let e = window_effects WinClose in
    makes_either e (has_one_window t) _ _
    (makes_unless e ((has_one_tabpage s.stage.workspace, last_one) ∷ []) (replied nil (tab_closed t.handle ∷ []) []) (makes_one e nil (tab_closed t.handle) (inr (inl refl))))
    (makes_one e nil (window_closed w) (inl refl))

shows : (w n : ℤ) → MakesOnly (window_effects WinSetBuf) (replied nil (shown w n ∷ []) [])
shows w n = makes_one (window_effects WinSetBuf) nil (shown w n) (inl refl)

puts_cursor : (w : ℤ) (p : Pos) → MakesOnly (window_effects WinSetCursor) (replied nil (cursor_put w p ∷ []) [])
puts_cursor w p = makes_one (window_effects WinSetCursor) nil (cursor_put w p) (inl refl)

wishes : (w : ℤ) (axis : Axis) (n : ℕ) → MakesOnly (window_effects WinSetHeight) (replied nil (wish_put w axis n ∷ []) [])
wishes w axis n = makes_one (window_effects WinSetHeight) nil (wish_put w axis n) (inl refl)

-- ---- row by row; the others make nothing
pub window_rows_make : WindowRowsHaveEffects
unfolding WindowRowsHaveEffects
window_rows_make SetCurrentWin s session args = search (making_words, goes)
window_rows_make OpenWin s session args = search (making_words, opens) depth 9
window_rows_make WinClose s session args = search (making_words, closes)
window_rows_make WinSetBuf s session args = search (making_words, shows)
window_rows_make WinSetCursor s session args = search (making_words, puts_cursor) depth 9
window_rows_make WinSetHeight s session args = search (making_words, wishes)
window_rows_make WinSetWidth s session args = search (making_words, wishes)
window_rows_make SetCurrentTabpage s session args = search (making_words, goes_to_tab)
window_rows_make method s session args = search making_words

pub window_makes : (method : WindowMethod) → HasEffects (window_effects method) (window_row method)
unfolding WindowRowsHaveEffects
window_makes = window_rows_make

-- ---- no row makes a splice
makes_none : (method : WindowMethod) → makes_no_splice (window_effects method) ≡ true
makes_none OpenWin = refl
makes_none method = refl

pub no_splice_is_told : WindowRowsTell
no_splice_is_told method = silent_tells (window_effects method) (window_row method) (makes_none method) (window_makes method)
