use Rattle.nv_dispatch.proofs.WorkedWindows.{split_right, width_wish, close_split, tab_new_close, cursor_moves, opening_faults}
use Rattle.nv_dispatch.proofs.laws.worked_windows.Goals as goal

pub returns : goal.returns
returns c = record {
  split_right = split_right;
  width_wish = width_wish;
  close_split = close_split;
  tab_new_close = tab_new_close;
  cursor_moves = cursor_moves;
  opening_faults = opening_faults;
}
