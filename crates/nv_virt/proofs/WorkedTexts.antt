-- Worked texts, computed.
use Rattle.std.proofs.Common.{refl}
use Rattle.std.specs.Str.{chars, is_utf8}
use Rattle.std.specs.Str.Lossy.{utf8_valid_len}
use Rattle.unicode_segmentation.proofs.Computing.{unicode_segmentation}
use Rattle.unicode_width.proofs.Computing.{unicode_width}
use Rattle.nv_text.specs.Pieces.{parts}
use Rattle.nv_virt.specs.Worked.{CutPairIsSpace, EolIsAfterFreeColumn, EolOfFullRowIsOutside, OverlayIsAtByte, PartsAreOneBehindAnother, RightIsAtEdge}

pub eol_is_after_free_column : EolIsAfterFreeColumn
unfolding unicode_segmentation unicode_width parts utf8_valid_len is_utf8 chars
eol_is_after_free_column = (refl, refl, refl)

pub eol_of_full_row_is_outside : EolOfFullRowIsOutside
unfolding unicode_segmentation unicode_width parts utf8_valid_len is_utf8 chars
eol_of_full_row_is_outside = (refl, refl)

pub overlay_is_at_byte : OverlayIsAtByte
unfolding unicode_segmentation unicode_width parts utf8_valid_len is_utf8 chars
overlay_is_at_byte = (refl, refl, refl, refl)

pub right_is_at_edge : RightIsAtEdge
right_is_at_edge = (refl, refl)

pub parts_are_one_behind_another : PartsAreOneBehindAnother
unfolding unicode_segmentation unicode_width parts utf8_valid_len is_utf8 chars
parts_are_one_behind_another = refl

pub cut_pair_is_space : CutPairIsSpace
unfolding unicode_segmentation unicode_width parts utf8_valid_len is_utf8 chars
cut_pair_is_space = refl
