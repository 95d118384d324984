use Rattle.std.proofs.Common.{◌≤◌, ◌∙◌, ap, subst, length, arith, List}
use Rattle.std.specs.Prelude.{IfSome}
use Rattle.std.proofs.lemmas.List.{with_items_is}
use Rattle.nv_marks.specs.declared.bands.Band.{Band}
use Rattle.nv_marks.specs.inside.Bands.{is_banded, is_in_band}
use Rattle.nv_marks.proofs.BandLemmas.{in_new}
use Rattle.nv_marks.proofs.bands.cover_rows.Goals as goal

pub put_band-requires : goal.put_band-requires
put_band-requires c = subst (λ (l : List Band). IfSome c.place_for-at.result (λ n. n ≤ length l)) c.deref.ensures.value c.place_for-at.ensures

pub returns-then-put_band-clause-kept : goal.returns-then-put_band-clause-kept
returns-then-put_band-clause-kept c = c.put_band.ensures.kept

pub returns-then-put_band-clause-own : goal.returns-then-put_band-clause-own
returns-then-put_band-clause-own c =
    c.put_band.ensures.own c.if-put_band.true c.args.start c.args.stop (ap (is_in_band c.args.start c.args.stop) c.new.ensures ∙ in_new c.args.start c.args.stop)

pub widen-requires : goal.widen-requires
widen-requires c = omega (arith, ap length c.as_mut_slice-all.ensures.value, c.put_band.ensures.some, c.requires)

pub returns-clause-some : goal.returns-clause-some
returns-clause-some c =
    let back = with_items_is c.put_band.new.bands c.widen.new.bands
    (omega (arith, c.widen.ensures.len, ap length c.as_mut_slice-all.ensures.value, c.put_band.new.bands.ok.0)) in
    omega (arith, ap length back, ap length c.as_mut_slice-all.ensures.value, c.put_band.ensures.some, c.requires, c.widen.ensures.len)

pub returns-clause-kept : goal.returns-clause-kept
returns-clause-kept c = λ s e had.
    let back = with_items_is c.put_band.new.bands c.widen.new.bands
    (omega (arith, c.widen.ensures.len, ap length c.as_mut_slice-all.ensures.value, c.put_band.new.bands.ok.0)) in
    ap (λ (l : List Band). is_banded l s e) back
    ∙ c.widen.ensures.kept s e (ap (λ (l : List Band). is_banded l s e) c.as_mut_slice-all.ensures.value ∙ c.put_band.ensures.kept s e had)

pub returns-clause-own : goal.returns-clause-own
returns-clause-own c =
    let back = with_items_is c.put_band.new.bands c.widen.new.bands
    (omega (arith, c.widen.ensures.len, ap length c.as_mut_slice-all.ensures.value, c.put_band.new.bands.ok.0)) in
    ap (λ (l : List Band). is_banded l c.args.start c.args.stop) back ∙ c.widen.ensures.own
