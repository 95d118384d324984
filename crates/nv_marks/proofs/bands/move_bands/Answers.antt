use Rattle.std.proofs.Common.{◌≡◌, ◌∙◌, ap, sym, subst, map, length, List}
use Rattle.std.proofs.lemmas.List.{length-map}
use Rattle.nv_places.specs.declared.place.Pos.{Pos}
use Rattle.nv_places.specs.declared.place.Extent.{Extent}
use Rattle.nv_places.specs.Places.{further}
use Rattle.nv_marks.specs.Moves.{moved_mark}
use Rattle.nv_marks.specs.declared.bands.Band.{Band}
use Rattle.nv_marks.specs.inside.Bands.{HasBand, moved_band}
use Rattle.nv_marks.proofs.BandLemmas.{moves_band, stays_banded}
use Rattle.nv_marks.proofs.bands.move_bands.Goals as goal

rows_are : (start old_end new_end : Pos) (old new : Extent) (bs nows : List Band) → nows ≡ map (moved_band start.row old_end.row new_end.row) bs → old_end ≡ further start old
    → new_end ≡ further start new → nows ≡ map (moved_band start.row (further start old).row (further start new).row) bs
rows_are start old_end new_end old new bs nows is old_is new_is =
    is ∙ ap (λ (p : Pos). map (moved_band start.row p.row new_end.row) bs) old_is ∙ ap (λ (p : Pos). map (moved_band start.row (further start old).row p.row) bs) new_is

pub returns-then-is_in_row-clause-moved : goal.returns-then-is_in_row-clause-moved
returns-then-is_in_row-clause-moved c = λ m narrow has.
    let rows = c.is_in_row.ensures c.if-is_in_row.true in
    stays_banded c.args.start c.args.old c.args.new c.requires.new_end.0 c.args.bands.now m rows.0 rows.1 has

pub returns-clause-len : goal.returns-clause-len
returns-clause-len c = ap length c.move_rows.ensures ∙ length-map c.args.bands.now _

pub returns-clause-moved : goal.returns-clause-moved
returns-clause-moved c = λ m narrow has.
    subst (λ (l : List Band). HasBand l (moved_mark c.args.start c.args.old c.args.new m))
    (sym (rows_are c.args.start c.further-old_end.result c.further-new_end.result c.args.old c.args.new c.args.bands.now c.move_rows.new.bands c.move_rows.ensures
    c.further-old_end.ensures c.further-new_end.ensures))
    (moves_band c.args.start c.args.old c.args.new c.requires.new_end.0 c.args.bands.now m narrow has)
