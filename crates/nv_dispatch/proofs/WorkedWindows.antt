-- Worked examples of windows and tabpages, computed by the definitions.
use Rattle.std.proofs.Common.{refl}
use Rattle.std.specs.Fmt.{digits}
use Rattle.nv_layout.specs.Division.{division}
use Rattle.nv_model.specs.Buffers.{text_of, state_behind, marks_of}
use Rattle.nv_dispatch.specs.Calls.{row_of}
use Rattle.nv_dispatch.specs.WorkedWindows.{SplitRight, WidthWish, CloseSplit, TabNewClose, CursorMoves, OpeningFaults}

pub split_right : SplitRight
unfolding SplitRight division text_of state_behind marks_of row_of
split_right = refl

pub width_wish : WidthWish
unfolding WidthWish division text_of state_behind marks_of row_of
width_wish = refl

pub close_split : CloseSplit
unfolding CloseSplit division digits text_of state_behind marks_of row_of
close_split = refl

pub tab_new_close : TabNewClose
unfolding TabNewClose text_of state_behind marks_of row_of
tab_new_close = refl

pub cursor_moves : CursorMoves
unfolding CursorMoves digits text_of state_behind marks_of row_of
cursor_moves = refl

pub opening_faults : OpeningFaults
unfolding OpeningFaults division digits text_of state_behind marks_of row_of
opening_faults = refl
