-- A splice of a buffer keeps what stands for it, and is told as the model tells it.
use Rattle.std.proofs.Common.{◌≡◌, ℕ, ℤ, suc, pos, ◌+◌, ◌-◌, ◌+ℤ◌, ◌≤◌, List, [], ◌∷◌, ◌++◌, length, take, drop, map, filter, fold, ap, sym, ◌∙◌, length-append, arith, All, subst, false, None, Some}
use Rattle.std.specs.Prelude.{option_map, option_to_list}
use Rattle.std.specs.List.{splice}
use Rattle.std.proofs.lemmas.Int.{ints}
use Rattle.std.proofs.lemmas.List.Elements.{All-take, All-drop}
use Rattle.nv_places.specs.Flat.{flat, IsLine, lines_of}
use Rattle.nv_places.specs.Places.{place_of, extent_of}
use Rattle.nv_places.proofs.FlatLemmas.{lines_of-flat}
use Rattle.nv_marks.specs.Marks.{Marks, greatest_id}
use Rattle.nv_marks.specs.Order.{IsInOrder}
use Rattle.nv_marks.specs.declared.keeping.Kept.{Kept as KeptMark}
use Rattle.nv_undo.specs.Tree.{Undo, IsTree, last, change_of}
use Rattle.nv_buffer.specs.Content.{Content, after_edit}
use Rattle.nv_buffer.specs.KeptMarks.{kept_at}
use Rattle.nv_buffer.specs.declared.edit.ChangePart.{ChangePart}
use Rattle.nv_buffer.specs.Changes.{text_at, Replaces, IsPlaced, lines_after}
use Rattle.nv_undo.specs.Ways.{origin}
use Rattle.nv_buffer.specs.declared.edit.Edit.{Edit}
use Rattle.nv_buffer.specs.declared.buffer.Spliced.{Spliced}
use Rattle.nv_model.specs.Buffers.{Splice, SetMark, ModelBuffer, text_after, inverse_splice, row_behind, splice_event, text_of, tick_of, last_kept, state_now, mark_of, marks_there, part_next, kept_text, with_splice, with_splice_back}
use Rattle.nv_model.specs.Standing.{splice_of, splices_of, kept_undo, AreNumbered, IsKeptBy, IsWithin, IsSetIn, IsValid, IsEditOf, AreEditsOf, IsChangeOf, StandsFor, is_kept_of, kept_mark_of, text_met}
use Rattle.nv_model.specs.Keeping.{IsSpliced, SpliceIsKept}
use Rattle.nv_model.proofs.BytesPut.{splices-push, edits-push, replaces_at, bytes_put, lines_put}
use Rattle.nv_model.proofs.Telling.{fold-append}
use Rattle.nv_model.proofs.KeptPlaces.{AllOther, none_made}
use Rattle.nv_model.proofs.Moving.{text-more, within-more}
use Rattle.nv_model.proofs.PartsNext.{next_is_new, numbered-push, parts_more}
use Rattle.nv_model.proofs.Seeing.{next_same}
use Rattle.nv_model.proofs.Stepping.{IsStep, MarksAlike, marks_stand, standing_marks}

module _ (b later : Content) (s : Splice) (event : Spliced) (sp : IsSpliced b later s event) where
  pub flat_is : flat later.text ≡ text_after (flat b.text) s
  flat_is =
      sp.edit.flat_text
      ∙ ap (λ (n : ℕ). splice (flat b.text) n (event.edit.at + event.edit.old) s.bytes) sp.from
      ∙ ap (λ (n : ℕ). splice (flat b.text) s.from n s.bytes) sp.until

  bytes_are : take event.edit.new (drop event.edit.at (flat (lines_after b.text event.edit))) ≡ s.bytes
  bytes_are =
      let after : flat (lines_after b.text event.edit) ≡ text_after (flat b.text) s = ap flat (sym sp.edit.lines) ∙ flat_is in
      let low : s.from ≤ length (flat b.text) = omega (arith, sp.from, sp.edit.within) in
      ap (λ (n : ℕ). take n (drop event.edit.at (flat (lines_after b.text event.edit)))) sp.put
      ∙ ap (λ (n : ℕ). take (length s.bytes) (drop n (flat (lines_after b.text event.edit)))) sp.from
      ∙ ap (λ (t : List ℕ). take (length s.bytes) (drop s.from t)) after
      ∙ bytes_put (flat b.text) s low

  pub splice_is : splice_of b.text event.edit ≡ s
  splice_is =
      let from = sp.from in
      let until = sp.until in
      let bytes = bytes_are in
      let rows = sp.rows in
      let part = sp.part in
      λ i. record { from = from i; until = until i; bytes = bytes i; rows = rows i; part = part i }

  lines_put_are : All IsLine event.edit.lines
  lines_put_are =
      let read = lines_put b.text event.edit.lines event.edit.first event.edit.last sp.order sp.within in
      let later_lines : All IsLine (splice b.text event.edit.first event.edit.last event.edit.lines) =
      subst (λ (ls : List (List ℕ)). All IsLine ls) sp.edit.lines sp.lines in
      subst (λ (ls : List (List ℕ)). All IsLine ls) read
      (All-take IsLine (length (splice b.text event.edit.first event.edit.last event.edit.lines) - (length b.text - event.edit.last) - event.edit.first)
      (drop event.edit.first (splice b.text event.edit.first event.edit.last event.edit.lines))
      (All-drop IsLine event.edit.first (splice b.text event.edit.first event.edit.last event.edit.lines) later_lines))

  replaces : Replaces (flat b.text) (flat (lines_after b.text event.edit)) event.edit.at event.edit.old event.edit.new
  replaces =
      let after : flat (lines_after b.text event.edit) ≡ splice (flat b.text) event.edit.at (event.edit.at + event.edit.old) s.bytes =
      ap flat (sym sp.edit.lines) ∙ sp.edit.flat_text in
      subst (λ (t : List ℕ). Replaces (flat b.text) t event.edit.at event.edit.old event.edit.new) (sym after)
      (replaces_at (flat b.text) s.bytes event.edit.at event.edit.old event.edit.new sp.edit.within sp.put)

  placed_is : IsPlaced b.text event.edit
  placed_is =
      let count : s.until - s.from ≡ event.edit.old = omega (arith, sp.from, sp.until) in record {
        start = sp.start ∙ ap (place_of (flat b.text)) (sym sp.from);
        removed = sp.removed ∙ (λ i. extent_of (take (count i) (drop (sym sp.from i) (flat b.text))));
        put = sp.reach ∙ ap extent_of (sym bytes_are);
      }

  pub edit_is : IsEditOf b.text event.edit
  edit_is = record {
    order = sp.order;
    within = sp.within;
    lines = lines_put_are;
    bytes = replaces;
    first = sp.first ∙ ap (λ (n : ℕ). (place_of (flat b.text) n).row) (sym sp.from);
    last = sp.last ∙ ap (λ (t : Splice). row_behind (flat b.text) t) (sym splice_is);
    placed = placed_is;
  }

module _ (b later : Content) (s : Splice) (event : Spliced) (m : ModelBuffer) (sp : IsSpliced b later s event) (is : StandsFor b m) where
  text_is : text_of (with_splice s m) ≡ text_after (text_of m) s
  unfolding text_of
  text_is = text-more m.first m.splices s

  within : IsWithin (text_of m) s
  within = record {
    order = omega (arith, sp.from, sp.until);
    within = omega (arith, sp.until, sp.edit.within, ap length is.text);
  }

  flat_now : flat later.text ≡ text_of (with_splice s m)
  flat_now = flat_is b later s event sp ∙ ap (λ (t : List ℕ). text_after t s) is.text ∙ sym text_is

  base : List (List ℕ)
  base = text_at b.undo b.undo.current

  unsealed_is : splices_of base (b.unsealed ++ event.edit ∷ []) ≡ m.unsealed ++ s ∷ []
  unfolding base
  unsealed_is =
      splices-push base b.unsealed event.edit
      ∙ ap (λ (ss : List Splice). ss ++ splice_of (fold lines_after base b.unsealed) event.edit ∷ []) is.unsealed
      ∙ ap (λ (t : List (List ℕ)). m.unsealed ++ splice_of t event.edit ∷ []) (sym is.since)
      ∙ ap (λ (t : Splice). m.unsealed ++ t ∷ []) (splice_is b later s event sp)

  since_is : later.text ≡ fold lines_after base (b.unsealed ++ event.edit ∷ [])
  unfolding base
  since_is =
      sp.edit.lines
      ∙ ap (λ (t : List (List ℕ)). lines_after t event.edit) is.since
      ∙ sym (fold-append lines_after base b.unsealed (event.edit ∷ []))

  -- the next part was never made, so nothing was kept of it
  part_is : s.part ≡ part_next m
  part_is = sym sp.part ∙ sp.edit.part ∙ next_same b m is

  none_kept : (k : SetMark) → last_kept s.part (state_now m k).kept ≡ None
  none_kept k = none_made m.splices k s.part (subst (λ (p : ChangePart). AllOther p m.splices) (sym part_is) (next_is_new m is.valid.parts))

  step_is : IsStep b m s event.edit
  step_is =
      let after : flat (lines_after b.text event.edit) ≡ text_after (text_of m) s =
      ap flat (sym sp.edit.lines) ∙ flat_is b later s event sp ∙ ap (λ (t : List ℕ). text_after t s) is.text in
      record {
        within = within;
        start = sp.start ∙ ap (λ (t : List ℕ). place_of t s.from) is.text;
        removed = sp.removed ∙ ap (λ (t : List ℕ). extent_of (inverse_splice t s).bytes) is.text;
        put = sp.reach;
        part = sp.part;
        text = after;
        lines = subst (λ (ls : List (List ℕ)). All IsLine ls) sp.edit.lines sp.lines;
        met = λ k x some. absurd (let no : None ≡ Some x = sym (none_kept k) ∙ some in cc);
      }

  steps : MarksAlike (after_edit b event.edit) (with_splice_back s m)
  steps = marks_stand b m s event.edit (standing_marks b m is) step_is

  marks_are : IsInOrder (map (mark_of (with_splice s m)) (marks_there (with_splice s m))) later.marks.marks
  unfolding text_of
  marks_are =
      subst (λ (k : Marks). IsInOrder (map (mark_of (with_splice_back s m)) (marks_there (with_splice_back s m))) k.marks) (sym sp.edit.marks) steps.marks

  kept_are : (part : ChangePart) → IsKeptBy later (with_splice s m) part
  unfolding text_of
  kept_are part = record {
    each =
        subst (λ (es : List ((ℕ × ℕ) × List KeptMark)). All (λ (k : SetMark). filter (is_kept_of k) (kept_at es part)
        ≡ option_to_list (option_map (kept_mark_of (text_met part [] m.first (m.splices ++ s ∷ [])) k) (last_kept part (state_now (with_splice_back s m) k).kept)))
        (marks_there (with_splice_back s m))) (sym sp.edit.keeps) (steps.kept part).each;
    made =
        subst (λ (es : List ((ℕ × ℕ) × List KeptMark)). All (λ (x : KeptMark). x.set ≤ m.settings) (kept_at es part)) (sym sp.edit.keeps)
        (steps.kept part).made;
  }

  valid_now : IsValid (with_splice s m)
  valid_now = record {
    splices = within-more m.first m.splices s is.valid.splices in_all;
    tree = is.valid.tree;
    changes = is.valid.changes;
    since = record {
      within =
          within-more (kept_text m.first m.undo m.undo.current) m.unsealed s is.valid.since.within
          (subst (λ (t : List ℕ). IsWithin t s) (sym is.valid.since.makes) within);
      makes =
          fold-append text_after (kept_text m.first m.undo m.undo.current) m.unsealed (s ∷ [])
          ∙ ap (λ (t : List ℕ). text_after t s) is.valid.since.makes
          ∙ sym text_is;
    };
    named = is.valid.named;
    marks = set_are;
    settings = is.valid.settings;
    parts = parts_more m s part_is is.valid.parts is.valid.since.makes;
  }
    where
      set_are : All (IsSetIn (text_of (with_splice s m)) (m.splices ++ s ∷ [])) m.marks
      set_are = unfold text_of in steps.set

      in_all : IsWithin (fold text_after m.first m.splices) s
      in_all = unfold text_of in within

  tick_is : later.tick ≡ pos (tick_of (with_splice s m))
  tick_is =
      let count : length (m.splices ++ s ∷ []) ≡ length m.splices + 1 = length-append m.splices (s ∷ []) in
      sp.edit.tick ∙ ap (λ (n : ℤ). n +ℤ pos 1) is.tick ∙ next
    where
      next : pos (2 + length m.splices) +ℤ pos 1 ≡ pos (2 + length (m.splices ++ s ∷ []))
      next = omega (arith, ints, length-append m.splices (s ∷ []))

  stands_now : StandsFor later (with_splice s m)
  unfolding base
  stands_now = record {
    first = is.first;
    text = flat_now;
    lines = sp.lines;
    tick = tick_is;
    marks = marks_are;
    settings = ap (λ (k : Marks). k.settings) sp.edit.marks ∙ is.settings;
    kept = kept_are;
    greatest = λ ns. ap (λ (k : Marks). greatest_id k.greatest ns) sp.edit.marks ∙ is.greatest ns;
    tree = subst (λ (u : Undo (List Edit)). IsTree u) (sym (ap (λ (c : Content). c.undo) sp.edit.kept)) is.tree;
    undo = ap (λ (c : Content). kept_undo c.undo) sp.edit.kept ∙ is.undo;
    unsealed = ap (λ (c : Content). splices_of (text_at c.undo c.undo.current) c.unsealed) sp.edit.kept ∙ unsealed_is;
    since = since_is ∙ sym (ap (λ (c : Content). fold lines_after (text_at c.undo c.undo.current) c.unsealed) sp.edit.kept);
    edits =
        subst (λ (c : Content). AreEditsOf (text_at c.undo c.undo.current) c.unsealed) (sym sp.edit.kept)
        (edits-push base b.unsealed b.text event.edit is.since is.edits (edit_is b later s event sp));
    parts =
        subst (λ (c : Content). AreNumbered (suc (last c.undo)) 0 c.unsealed) (sym sp.edit.kept)
        (numbered-push (suc (last b.undo)) 0 b.unsealed event.edit is.parts (sp.edit.part ∙ ap (λ (n : ℕ). let p : ChangePart = record { change = suc (last b.undo); part = n; back = false } in p) (omega arith)));
    changes = subst (λ (u : Undo (List Edit)). (n : ℕ) (es : List Edit) → change_of u n ≡ Some es → IsChangeOf (text_at u (origin u n)) es)
        (sym (ap (λ (c : Content). c.undo) sp.edit.kept)) is.changes;
    numbered =
        subst (λ (u : Undo (List Edit)). (n : ℕ) (es : List Edit) → change_of u n ≡ Some es → AreNumbered n 0 es)
        (sym (ap (λ (c : Content). c.undo) sp.edit.kept)) is.numbered;
    name = ap (λ (c : Content). c.name) sp.edit.kept ∙ is.name;
    modifiable = ap (λ (c : Content). c.modifiable) sp.edit.kept ∙ is.modifiable;
    modified = sp.edit.modified;
    listed = ap (λ (c : Content). c.listed) sp.edit.kept ∙ is.listed;
    tabstop = ap (λ (c : Content). c.tabstop) sp.edit.kept ∙ is.tabstop;
    valid = valid_now;
  }

  told_is : event ≡ splice_event (text_of m) (tick_of m + 1) s
  told_is =
      let tick : event.tick ≡ pos (tick_of m + 1) = sp.tick ∙ ap (λ (n : ℤ). n +ℤ pos 1) is.tick ∙ next in
      let first : event.edit.first ≡ (place_of (text_of m) s.from).row = sp.first ∙ ap (λ (t : List ℕ). (place_of t s.from).row) is.text in
      let last : event.edit.last ≡ row_behind (text_of m) s = sp.last ∙ ap (λ (t : List ℕ). row_behind t s) is.text in
      let before : b.text ≡ lines_of (text_of m) = sym (lines_of-flat b.text is.lines) ∙ ap lines_of is.text in
      let after : splice b.text event.edit.first event.edit.last event.edit.lines ≡ lines_of (text_after (text_of m) s) =
      sym sp.edit.lines ∙ sym (lines_of-flat later.text sp.lines) ∙ ap lines_of (flat_is b later s event sp ∙ ap (λ (t : List ℕ). text_after t s) is.text) in
      let put : take (length (splice b.text event.edit.first event.edit.last event.edit.lines) - (length b.text - event.edit.last) - event.edit.first) (drop event.edit.first (splice b.text event.edit.first event.edit.last event.edit.lines)) ≡ event.edit.lines =
      lines_put b.text event.edit.lines event.edit.first event.edit.last sp.order sp.within in
      let lines = sym put ∙ read before after first last in
      let at = sp.from in
      let old : event.edit.old ≡ s.until - s.from = omega (arith, sp.from, sp.until) in
      let new = sp.put in
      let start = sp.start ∙ ap (λ (t : List ℕ). place_of t s.from) is.text in
      let removed = sp.removed ∙ ap (λ (t : List ℕ). extent_of (inverse_splice t s).bytes) is.text in
      let reach = sp.reach in
      let rows = sp.rows in
      let part = sp.part in
      λ i. record {
        tick = tick i;
        edit = record {
          first = first i;
          last = last i;
          lines = lines i;
          at = at i;
          old = old i;
          new = new i;
          start = start i;
          removed = removed i;
          put = reach i;
          rows = rows i;
          part = part i;
        };
      }
    where
      next : pos (2 + length m.splices) +ℤ pos 1 ≡ pos (2 + length m.splices + 1)
      next = omega (arith, ints)

      read : {L M : List (List ℕ)} {first last : ℕ} → b.text ≡ L → splice b.text event.edit.first event.edit.last event.edit.lines ≡ M
          → event.edit.first ≡ first → event.edit.last ≡ last
          → take (length (splice b.text event.edit.first event.edit.last event.edit.lines) - (length b.text - event.edit.last) - event.edit.first) (drop event.edit.first (splice b.text event.edit.first event.edit.last event.edit.lines))
          ≡ take (length M - (length L - last) - first) (drop first M)
      read before after first last =
          λ i. take (length (after i) - (length (before i) - last i) - first i) (drop (first i) (after i))

pub splice_is_kept : SpliceIsKept
splice_is_kept b later s event m sp is = (stands_now b later s event m sp is, told_is b later s event m sp is)
