use Rattle.std.proofs.Common.{◌≡◌, ◌+◌, ◌-◌, ◌*◌, ◌<◌, ◌≤◌, length, drop, get_or, refl, sym, ap, ◌∙◌, subst, arith, rules}
use Rattle.std.proofs.lemmas.Result.{err_from_is_err_and}
use Rattle.nv_value.specs.Content.{Tree, no_more, one, integer}
use Rattle.nv_value.specs.View.{content, contents, pair_content, pair_contents}
use Rattle.nv_value.specs.declared.value.Pair.{roll-Pair}
use Rattle.nv_value.proofs.Contents.{content-Int, pair_content_is}
use Rattle.nv_msgpack.specs.Spelling.{of_list, of_map}
use Rattle.nv_msgpack.specs.declared.first_bytes.FirstByte.{FirstByte}
use Rattle.nv_msgpack.specs.FirstByte.{size_of, form_seen}
use Rattle.nv_msgpack.specs.Reading.{Reading, whole, after, none, read_by}
use Rattle.nv_msgpack.specs.inside.Steps.{Gives}
use Rattle.nv_msgpack.proofs.Loop.{joined, owed_at, contents-push, pair_contents-push, none_read, all_read, ends_within, items_end_within, item_more, item_stop, field_more, field_stop, key_stops, value_stops, pair_read, value_plain, value_many, value_small, nothing_yet, IsPlain, plain_seen}
use Rattle.nv_msgpack.proofs.reader.+decode.Goals.{value_of-in_default-via-in-List+else-depth-gt0, value_of-in_default-via-in-Map+else-depth-gt0-2, value_of-in_default-via-in_default}
use Rattle.nv_msgpack.proofs.reader.+decode.Goals as goal

pub fields_of-loop-owed-init : goal.fields_of-loop-owed-init
fields_of-loop-owed-init t c = record {
  within = c.requires.within;
  fits = c.requires.fits;
  so_far = rw c.in_ok-fields.ensures.items (none_read (owed_at c.args.depth c.args.limit c.args.bytes.now (2 * c.args.count) c.args.start));
}

pub fields_of-overflow_mul-owed : goal.fields_of-overflow_mul-owed
fields_of-overflow_mul-owed t c = let h = c.loop-owed.invariant.fits in omega arith

pub fields_of-overflow_sub-limit : goal.fields_of-overflow_sub-limit
fields_of-overflow_sub-limit t c = let h = c.loop-owed.invariant.fits in omega arith

pub fields_of-pair_of-requires : goal.fields_of-pair_of-requires
fields_of-pair_of-requires t c = let h = c.loop-owed.invariant.fits in (omega arith, (c.loop-owed.invariant.within, omega arith))

pub fields_of-returns-in_err-pair : goal.fields_of-returns-in_err-pair
fields_of-returns-in_err-pair t c =
    let p = err_from_is_err_and c.from_residual-in_err-pair.result c.from_residual-in_err-pair.ensures.1 in
    rw (p.1, p.2) (field_stop c.in_err-pair.field-0.0 c.args.depth c.args.limit c.args.bytes.now c.loop-owed.owed c.loop-owed.at (pair_contents c.loop-owed.fields.items)
    (owed_at c.args.depth c.args.limit c.args.bytes.now (2 * c.args.count) c.args.start) c.loop-owed-test.true c.loop-owed.invariant.fits c.in_err-pair.ensures c.loop-owed.invariant.so_far)

pub fields_of-loop-owed-preserved : goal.fields_of-loop-owed-preserved
fields_of-loop-owed-preserved t c =
    let p = c.in_ok-pair.pair in
    let h = c.loop-owed.invariant.fits in
    let test = c.loop-owed-test.true in
    let limit = c.args.limit - 2 * (c.loop-owed.owed - 1) in
    let room : c.loop-owed.at + 2 ≤ limit = omega arith in
    let w = items_end_within c.args.depth limit 2 c.loop-owed.at c.args.bytes.now (one (pair_content p).0 (one (pair_content p).1 no_more)) c.in_ok-pair.end room c.loop-owed.invariant.within c.in_ok-pair.ensures in
    let w1 = w.1 in
    let e : pair_contents c.push.new.self.items ≡ joined (pair_contents c.loop-owed.fields.items) (one (pair_content p).0 (one (pair_content p).1 no_more)) =
    rw c.in_ok-push.ensures.items (pair_contents-push c.loop-owed.fields.items p) in
    record {
      within = w.0;
      fits = omega arith;
      so_far = rw e (field_more c.args.depth c.args.limit c.args.bytes.now c.loop-owed.owed c.loop-owed.at (pair_contents c.loop-owed.fields.items) (one (pair_content p).0 (one (pair_content p).1 no_more)) c.in_ok-pair.end
          (owed_at c.args.depth c.args.limit c.args.bytes.now (2 * c.args.count) c.args.start) c.loop-owed-test.true c.loop-owed.invariant.fits c.in_ok-pair.ensures c.loop-owed.invariant.so_far);
    }

pub fields_of-returns : goal.fields_of-returns
fields_of-returns t c =
    let test = c.loop-owed-test.false in
    let none_owed : 2 * c.loop-owed.owed ≡ 0 = omega arith in
    all_read c.args.depth c.args.limit c.args.bytes.now c.loop-owed.at (pair_contents c.loop-owed.fields.items) (owed_at c.args.depth c.args.limit c.args.bytes.now (2 * c.args.count) c.args.start)
    (rw none_owed at c.loop-owed.invariant.so_far)

pub items_of-loop-owed-init : goal.items_of-loop-owed-init
items_of-loop-owed-init t c = record {
  within = c.requires.within;
  fits = c.requires.fits;
  so_far = rw c.in_ok-items.ensures.items (none_read (owed_at c.args.depth c.args.limit c.args.bytes.now c.args.count c.args.start));
}

pub items_of-overflow_sub-limit : goal.items_of-overflow_sub-limit
items_of-overflow_sub-limit t c = let h = c.loop-owed.invariant.fits in omega arith

pub items_of-put_item-requires : goal.items_of-put_item-requires
items_of-put_item-requires t c = let h = c.loop-owed.invariant.fits in (omega arith, (c.loop-owed.invariant.within, omega arith))

pub items_of-returns-in_err-at : goal.items_of-returns-in_err-at
items_of-returns-in_err-at t c =
    let p = err_from_is_err_and c.from_residual-in_err-at.result c.from_residual-in_err-at.ensures.1 in
    rw (p.1, p.2) (item_stop c.in_err-at.field-0.0 c.args.depth c.args.limit c.args.bytes.now c.loop-owed.owed c.loop-owed.at (contents c.loop-owed.items.items)
    (owed_at c.args.depth c.args.limit c.args.bytes.now c.args.count c.args.start) c.loop-owed-test.true c.loop-owed.invariant.fits c.in_err-at.ensures c.loop-owed.invariant.so_far)

pub items_of-loop-owed-preserved : goal.items_of-loop-owed-preserved
items_of-loop-owed-preserved t c =
    let v = c.in_ok-at.ensures.0 in
    let h = c.loop-owed.invariant.fits in
    let test = c.loop-owed-test.true in
    let limit = c.args.limit - (c.loop-owed.owed - 1) in
    let room : c.loop-owed.at < limit = omega arith in
    let w = ends_within c.args.depth limit c.loop-owed.at c.args.bytes.now (content v) c.in_ok-at.at room c.loop-owed.invariant.within c.in_ok-at.ensures.2 in
    let w1 = w.1 in
    let e : contents c.put_item.new.items.items ≡ joined (contents c.loop-owed.items.items) (one (content v) no_more) =
    rw c.in_ok-at.ensures.1 (contents-push c.loop-owed.items.items v) in
    record {
      within = w.0;
      fits = omega arith;
      so_far = rw e (item_more c.args.depth c.args.limit c.args.bytes.now c.loop-owed.owed c.loop-owed.at (contents c.loop-owed.items.items) (content v) c.in_ok-at.at
          (owed_at c.args.depth c.args.limit c.args.bytes.now c.args.count c.args.start) c.loop-owed-test.true c.loop-owed.invariant.fits c.in_ok-at.ensures.2 c.loop-owed.invariant.so_far);
    }

pub items_of-returns : goal.items_of-returns
items_of-returns t c =
    let test = c.loop-owed-test.false in
    let none_owed : c.loop-owed.owed ≡ 0 = omega arith in
    all_read c.args.depth c.args.limit c.args.bytes.now c.loop-owed.at (contents c.loop-owed.items.items) (owed_at c.args.depth c.args.limit c.args.bytes.now c.args.count c.args.start)
    (rw none_owed at c.loop-owed.invariant.so_far)

pub list_of-items_of-requires : goal.list_of-items_of-requires
list_of-items_of-requires t c =
    let a = c.in_ok-count.ensures.within in
    let b = c.in_ok-count.ensures.fits in
    (omega arith, (omega arith, omega arith))

pub map_of-fields_of-requires : goal.map_of-fields_of-requires
map_of-fields_of-requires t c =
    let a = c.in_ok-count.ensures.within in
    let b = c.in_ok-count.ensures.fits in
    (omega arith, (omega arith, omega arith))

pub pair_of-value_of-requires : goal.pair_of-value_of-requires
pair_of-value_of-requires t c = (omega arith, (omega arith, omega arith))

pub pair_of-returns-in_err-key : goal.pair_of-returns-in_err-key
pair_of-returns-in_err-key t c =
    let p = err_from_is_err_and c.from_residual.result c.from_residual.ensures.1 in
    rw (p.1, p.2) (key_stops c.in_err-key.field-0.0 c.args.depth c.args.limit c.args.bytes.now c.args.at c.requires.fits c.in_err-key.ensures)

pub pair_of-value_of-requires-2 : goal.pair_of-value_of-requires-2
pair_of-value_of-requires-2 t c =
    let fits = c.requires.fits in
    let room : c.args.at < c.args.limit - 1 = omega arith in
    let w = ends_within c.args.depth (c.args.limit - 1) c.args.at c.args.bytes.now (content c.in_ok-key.key) c.in_ok-key.middle room c.requires.within c.in_ok-key.ensures in
    let w1 = w.1 in
    (omega arith, (w.0, omega arith))

pub pair_of-returns-in_err-value : goal.pair_of-returns-in_err-value
pair_of-returns-in_err-value t c =
    let p = err_from_is_err_and c.from_residual-in_err-value.result c.from_residual-in_err-value.ensures.1 in
    let fits = c.requires.fits in
    let room : c.args.at < c.args.limit - 1 = omega arith in
    let w = ends_within c.args.depth (c.args.limit - 1) c.args.at c.args.bytes.now (content c.in_ok-key.key) c.in_ok-key.middle room c.requires.within c.in_ok-key.ensures in
    let w1 = w.1 in
    let m : c.in_ok-key.middle < c.args.limit = omega arith in
    rw (p.1, p.2) (value_stops c.in_err-value.field-0.0 c.args.depth c.args.limit c.args.bytes.now c.args.at (content c.in_ok-key.key) c.in_ok-key.middle c.requires.fits m c.in_ok-key.ensures c.in_err-value.ensures)

pub pair_of-returns : goal.pair_of-returns
pair_of-returns t c =
    let fits = c.requires.fits in
    let room : c.args.at < c.args.limit - 1 = omega arith in
    let w = ends_within c.args.depth (c.args.limit - 1) c.args.at c.args.bytes.now (content c.in_ok-key.key) c.in_ok-key.middle room c.requires.within c.in_ok-key.ensures in
    let w1 = w.1 in
    let m : c.in_ok-key.middle < c.args.limit = omega arith in
    let q = pair_content_is (roll-Pair (record { key = c.in_ok-key.key; value = c.in_ok-value.value })) in
    pair_read c.args.depth c.args.limit c.args.bytes.now c.args.at (content c.in_ok-key.key) c.in_ok-key.middle (content c.in_ok-value.value) c.in_ok-value.end c.requires.fits m c.in_ok-key.ensures c.in_ok-value.ensures
    ∙ ap (λ (x : Tree × Tree). whole (one x.0 (one x.1 no_more)) c.in_ok-value.end) (sym q)

pub value_of-returns-then-at-bytes : goal.value_of-returns-then-at-bytes
value_of-returns-then-at-bytes t c = nothing_yet c.args.depth (c.args.limit - c.args.at) c.args.at c.args.bytes.now c.if-at-bytes.true

pub put_item-returns-then-bytes-at-lt128 : goal.put_item-returns-then-bytes-at-lt128
put_item-returns-then-bytes-at-lt128 t c =
    let b = get_or c.args.bytes.now c.args.at 0 in
    let e = value_small c.args.depth c.args.limit c.args.at c.args.bytes.now b c.if-at-bytes.true refl c.if-bytes-at-lt128.true in
    (_, c.in_ok-push.ensures.items, e ∙ ap (λ (u : Tree). whole u (c.args.at + 1)) (sym (content-Int _ ∙ ap integer (search (rules, c.from.ensures)))))

pub put_item-value_of-requires : goal.put_item-value_of-requires
put_item-value_of-requires t c = (omega arith, (c.requires.within, c.requires.fits))

pub value_of-list_of-requires : goal.value_of-list_of-requires
value_of-list_of-requires t c = let h = c.if-depth-gt0.true in (omega arith, (omega arith, c.requires.fits))

pub value_of-map_of-requires : goal.value_of-map_of-requires
value_of-map_of-requires t c = let h = c.if-depth-gt0-2.true in (omega arith, (omega arith, c.requires.fits))

pub value_of-returns-in-List : goal.value_of-returns-in-List
value_of-returns-in-List t c =
    let inside : c.args.at < length c.args.bytes.now = omega arith in
    let e = value_many c.args.depth (c.args.limit - c.args.at) c.args.at c.args.bytes.now of_list (size_of c.in-List.size) c.if-depth-gt0.true inside c.in-List.ensures in
    subst (λ (r : Reading Tree). Gives content c.list_of.result (after c.args.at r)) (sym e) c.list_of.ensures

pub value_of-returns-in-Map : goal.value_of-returns-in-Map
value_of-returns-in-Map t c =
    let inside : c.args.at < length c.args.bytes.now = omega arith in
    let e = value_many c.args.depth (c.args.limit - c.args.at) c.args.at c.args.bytes.now of_map (size_of c.in-Map.size) c.if-depth-gt0-2.true inside c.in-Map.ensures in
    subst (λ (r : Reading Tree). Gives content c.map_of.result (after c.args.at r)) (sym e) c.map_of.ensures

pub value_of-returns-in_default : goal.value_of-returns-in_default
value_of-returns-in_default t c =
    let inside : c.args.at < length c.args.bytes.now = omega arith in
    let first = c.first_byte-first.result in
    let plain : 0 < c.args.depth → IsPlain (form_seen first) = elim c.in_default.branch [
      | value_of-in_default-via-in-List+else-depth-gt0 w ↦ λ d. let h = w.if-depth-gt0.false in absurd (omega arith)
      | value_of-in_default-via-in-Map+else-depth-gt0-2 w ↦ λ d. let h = w.if-depth-gt0-2.false in absurd (omega arith)
      | value_of-in_default-via-in_default w ↦ λ d. plain_seen first w.in_default.not-List w.in_default.not-Map
    ] in
    let same : c.in_default.first ≡ first = elim c.in_default.branch [
      | value_of-in_default-via-in-List+else-depth-gt0 w ↦ w.first-is ∙ sym w.in-List.is
      | value_of-in_default-via-in-Map+else-depth-gt0-2 w ↦ w.first-is ∙ sym w.in-Map.is
      | value_of-in_default-via-in_default w ↦ w.first-is
    ] in
    let e = value_plain c.args.depth (c.args.limit - c.args.at) c.args.at c.args.bytes.now (form_seen first) plain inside c.first_byte-first.ensures in
    subst (λ (r : Reading Tree). Gives content c.plain_of.result (after c.args.at r)) (sym e)
    (subst (λ (f : FirstByte). Gives content c.plain_of.result (after c.args.at (read_by none (form_seen f) (c.args.limit - c.args.at) (drop (c.args.at + 1) c.args.bytes.now)))) same c.plain_of.ensures)
