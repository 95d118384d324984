-- The value of the first batch of an empty screen, and of a batch that scrolls.
use Prim.Native.String.{String}
use Rattle.std.specs.Prelude.{◌≡◌, ℕ, negsuc, true, false, List, [], ◌∷◌, codes}
use Rattle.nv_value.specs.Content.{Tree, integer, truth, text, pairs, no_more, one}
use Rattle.nv_linegrid.specs.Told.{nothing_told}
use Rattle.nv_linegrid.specs.Batch.{batch, told_after}
use Rattle.nv_linegrid.specs.Worked.{empty_screen, letters_screen}
use Rattle.nv_redraw.specs.Values.{batch_tree, tuple_tree, number_tree}

-- an entry of a name and the arguments of each event
abbrev pub worked_entry : String → List Tree → Tree
worked_entry name events = tuple_tree (text (codes name) ∷ events)

abbrev pub worked_batch : List Tree → Tree
worked_batch entries = tuple_tree (number_tree 2 ∷ text (codes "redraw") ∷ tuple_tree entries ∷ [])

abbrev pub word_tree : String → Tree
word_tree s = text (codes s)

-- a cell with the id told last
abbrev pub same_cell_tree : String → Tree
same_cell_tree s = tuple_tree (word_tree s ∷ [])

abbrev pub bold_tree : Tree
bold_tree = pairs (one (word_tree "bold") (one (truth true) no_more))

abbrev pub reverse_bold_tree : Tree
reverse_bold_tree =
    pairs (one (word_tree "reverse") (one (truth true)
    (one (word_tree "bold") (one (truth true) no_more))))

unfoldable pub EmptyScreenHasValue : Type 0
EmptyScreenHasValue =
    batch_tree (batch nothing_told empty_screen)
    ≡ worked_batch
    (worked_entry "grid_resize"
    (tuple_tree (number_tree 1 ∷ number_tree 12 ∷ number_tree 4 ∷ []) ∷ [])
    ∷ worked_entry "default_colors_set"
    (tuple_tree
    (number_tree 16777215 ∷ number_tree 0 ∷ number_tree 16711680 ∷ number_tree 0 ∷ number_tree 0
    ∷ [])
    ∷ [])
    ∷ worked_entry "hl_attr_define"
    (tuple_tree (number_tree 1 ∷ bold_tree ∷ bold_tree ∷ tuple_tree [] ∷ [])
    ∷ tuple_tree (number_tree 2 ∷ reverse_bold_tree ∷ reverse_bold_tree ∷ tuple_tree [] ∷ [])
    ∷ [])
    ∷ worked_entry "grid_clear" (tuple_tree (number_tree 1 ∷ []) ∷ [])
    ∷ worked_entry "grid_line"
    (tuple_tree
    (number_tree 1 ∷ number_tree 1 ∷ number_tree 0
    ∷ tuple_tree (tuple_tree (word_tree "~" ∷ number_tree 1 ∷ []) ∷ [])
    ∷ truth false
    ∷ [])
    ∷ tuple_tree
    (number_tree 1 ∷ number_tree 2 ∷ number_tree 0
    ∷ tuple_tree
    (tuple_tree (word_tree "[" ∷ number_tree 2 ∷ []) ∷ same_cell_tree "N" ∷ same_cell_tree "o"
    ∷ same_cell_tree " "
    ∷ same_cell_tree "N"
    ∷ same_cell_tree "a"
    ∷ same_cell_tree "m"
    ∷ same_cell_tree "e"
    ∷ same_cell_tree "]"
    ∷ tuple_tree (word_tree " " ∷ number_tree 2 ∷ number_tree 3 ∷ [])
    ∷ [])
    ∷ truth false
    ∷ [])
    ∷ [])
    ∷ worked_entry "grid_cursor_goto"
    (tuple_tree (number_tree 1 ∷ number_tree 0 ∷ number_tree 0 ∷ []) ∷ [])
    ∷ worked_entry "flush" (tuple_tree [] ∷ [])
    ∷ [])

-- the line that came, as it is told
abbrev pub letter_line_tree : ℕ → String → Tree
letter_line_tree row letter =
    worked_entry "grid_line"
    (tuple_tree
    (number_tree 1 ∷ number_tree row ∷ number_tree 0
    ∷ tuple_tree
    (tuple_tree (word_tree letter ∷ number_tree 0 ∷ [])
    ∷ tuple_tree (word_tree " " ∷ number_tree 0 ∷ number_tree 11 ∷ [])
    ∷ [])
    ∷ truth false
    ∷ [])
    ∷ [])

-- a scroll of the window's two rows, the line that came, the cursor
abbrev pub worked_scroll : Tree → ℕ → String → Tree
worked_scroll rows row letter =
    worked_batch
    (worked_entry "grid_scroll"
    (tuple_tree
    (number_tree 1 ∷ number_tree 0 ∷ number_tree 2 ∷ number_tree 0 ∷ number_tree 12 ∷ rows
    ∷ number_tree 0
    ∷ [])
    ∷ [])
    ∷ letter_line_tree row letter
    ∷ worked_entry "grid_cursor_goto"
    (tuple_tree (number_tree 1 ∷ number_tree row ∷ number_tree 0 ∷ []) ∷ [])
    ∷ worked_entry "flush" (tuple_tree [] ∷ [])
    ∷ [])

unfoldable pub ScrollDownHasValue : Type 0
ScrollDownHasValue =
    batch_tree
    (batch (told_after nothing_told (letters_screen 0 "a" "b" 0)) (letters_screen 1 "b" "c" 1))
    ≡ worked_scroll (number_tree 1) 1 "c"

unfoldable pub ScrollUpHasValue : Type 0
ScrollUpHasValue =
    batch_tree
    (batch (told_after nothing_told (letters_screen 1 "b" "c" 1)) (letters_screen 0 "a" "b" 0))
    ≡ worked_scroll (integer (negsuc 0)) 0 "a"
