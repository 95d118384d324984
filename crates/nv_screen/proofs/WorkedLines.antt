-- Worked lines, computed.
use Rattle.std.proofs.Common.{refl}
use Rattle.std.specs.Str.{chars, is_utf8}
use Rattle.std.specs.Str.Lossy.{utf8_valid_len}
use Rattle.unicode_segmentation.proofs.Computing.{unicode_segmentation}
use Rattle.unicode_width.proofs.Computing.{unicode_width}
use Rattle.nv_text.specs.Pieces.{parts}
use Rattle.nv_linedraw.specs.LineCells.{cells_of_line}
use Rattle.nv_screen.specs.Worked.{NoNameIsDrawn, OddLineIsDrawn}

pub odd_line_is_drawn : OddLineIsDrawn
unfolding unicode_segmentation unicode_width parts utf8_valid_len is_utf8 chars cells_of_line
odd_line_is_drawn = refl

pub no_name_is_drawn : NoNameIsDrawn
unfolding unicode_segmentation unicode_width parts utf8_valid_len is_utf8 chars
no_name_is_drawn = refl
