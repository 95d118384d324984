-- Splices that fit the lines of their text, and what changes one buffer by them.
use Rattle.std.proofs.Common.{◌≡◌, ◌∙◌, refl, sym, ap, subst, ℕ, ℤ, pos, ◌+◌, ◌≤◌, List, [], ◌∷◌, ◌++◌, map, length, fold, Bool, true, false, cond, arith, All, Some, None}
use Rattle.std.specs.Prelude.{option_map, is_some}
use Rattle.std.specs.Option.{option_or}
use Rattle.std.specs.Ordering.{int_eq}
use Rattle.std.specs.List.{splice}
use Rattle.std.proofs.lemmas.Option.{same_Some}
use Rattle.nv_places.specs.Flat.{flat, IsLine, lines_of}
use Rattle.nv_places.specs.Places.{place_of}
use Rattle.nv_places.specs.declared.place.Pos.{Pos}
use Rattle.nv_places.proofs.FlatLemmas.{lines_of-flat}
use Rattle.nv_lines.proofs.Splices.{All-splice}
use Rattle.nv_buffer.specs.Content.{Content, IsEdit, after_edit, rows_event, text_event, next_part}
use Rattle.nv_buffer.specs.Changes.{lines_after, rows_edit, text_edit}
use Rattle.nv_buffer.specs.Splices.{lines_between}
use Rattle.nv_buffer.specs.declared.edit.Edit.{Edit}
use Rattle.nv_buffer.specs.declared.buffer.Spliced.{Spliced}
use Rattle.nv_buffer.proofs.Edits.{lines_put, text_put, MayPutText}
use Rattle.nv_model.specs.Buffers.{Splice, ModelBuffer, rows_splice, text_splice, text_after, text_of, tick_of, lines_in_place, splice_events, with_splice}
use Rattle.nv_model.specs.Editors.{ModelEditor, at_handle, updated_at}
use Rattle.nv_model.specs.Answers.{Fact, edited}
use Rattle.nv_model.specs.Laws.{IsNumbered}
use Rattle.nv_model.specs.Standing.{splice_of, splices_of, IsWithin, IsEditOf, AreEditsOf}
use Rattle.nv_model.specs.Keeping.{IsSpliced}
use Rattle.nv_model.proofs.Edits.{flat-edit, within-edits, lines-edit, told-edits}
use Rattle.nv_model.proofs.Lookups.{same_int, int_eq-itself, at_updated}
use Rattle.nv_model.proofs.Splicing.{splice_is_kept}
use Rattle.nv_model.proofs.Told.{rows_are_spliced, text_is_spliced}
use Rattle.nv_api_buf.proofs.Splices.{PutsLines, rows_put, text_put as text_puts, lines_left, put_in_place, between_lines}
use Rattle.nv_dispatch.specs.Telling.{Past, splices_had, past_at, text_then, FitsLines, FactsTell, without_marks, IsSoundBuffer, IsSoundModel}
use Rattle.nv_dispatch.proofs.Pasts.{AllFitLines, run_told, others_told}
use Rattle.nv_dispatch.proofs.Kept.{past_live}

-- ---- edits of lines fit
-- the lines of the first of some events
abbrev lines_first : List Spliced → List (List ℕ)
lines_first [] = []
lines_first (e ∷ es) = e.edit.lines

pub edit_fits : (t : List (List ℕ)) (e : Edit) → All IsLine t → IsEditOf t e → FitsLines (flat t) (splice_of t e)
edit_fits t e lines is =
    let s : Splice = splice_of t e in
    let before : lines_of (flat t) ≡ t = lines_of-flat t lines in
    let told : e.lines ≡ lines_in_place (flat t) s = ap lines_first (told-edits t (e ∷ []) (pos 0) 0 refl lines (is, tt)) in
    record {
      within = (within-edits t (e ∷ []) (is, tt)).0;
      order =
          subst (λ (r : ℕ). (place_of (flat t) s.from).row ≤ r) is.last
          (subst (λ (r : ℕ). r ≤ e.last) is.first is.order);
      rows =
          subst (λ (r : ℕ). r ≤ length (lines_of (flat t))) is.last
          (subst (λ (ls : List (List ℕ)). e.last ≤ length ls) (sym before) is.within);
      lines =
          (λ i. splice (before i) (sym is.first i) (sym is.last i) (sym told i))
          ∙ sym (lines_of-flat (lines_after t e) (lines-edit t e lines is))
          ∙ ap lines_of (flat-edit t e is);
    }

pub edits_fit : (t : List (List ℕ)) (es : List Edit) → All IsLine t → AreEditsOf t es → AllFitLines (flat t) (splices_of t es)
edits_fit t [] lines are = tt
edits_fit t (e ∷ es) lines are = (
  edit_fits t e lines are.0,
  subst (λ (text : List ℕ). AllFitLines text (splices_of (lines_after t e) es)) (flat-edit t e are.0)
      (edits_fit (lines_after t e) es (lines-edit t e lines are.0) are.1),
)

-- lines put in place of rows fit
puts_fit : (text : List (List ℕ)) (s : Splice) (from to : ℕ) (new : List (List ℕ)) → PutsLines text s from to new → IsWithin (flat text) s → FitsLines (flat text) s
puts_fit text s from to new puts within =
    let before : lines_of (flat text) ≡ text = lines_of-flat text puts.lines in record {
      within = within;
      order =
          subst (λ (r : ℕ). (place_of (flat text) s.from).row ≤ r) (sym puts.last)
          (subst (λ (r : ℕ). r ≤ to) (sym puts.first) puts.order);
      rows =
          subst (λ (r : ℕ). r ≤ length (lines_of (flat text))) (sym puts.last)
          (subst (λ (ls : List (List ℕ)). to ≤ length ls) (sym before) puts.within);
      lines =
          (λ i. splice (before i) (puts.first i) (puts.last i) (put_in_place text s from to new puts i))
          ∙ sym (lines_left text s from to new puts);
    }

-- ---- a splice of a buffer as it is kept
pub record IsPut (c : Content) (p : Splice) : Type 0 where
  pub later : Content
  pub event : Spliced
  pub spliced : IsSpliced c later p event
  pub fits : FitsLines (flat c.text) p

-- it lies in the text
lies_within : (c later : Content) (p : Splice) (event : Spliced) → IsSpliced c later p event → p.from ≤ p.until → IsWithin (flat c.text) p
lies_within c later p event is order = record { order = order; within = omega (arith, is.edit.within, is.until) }

from_before : (c later : Content) (p : Splice) (event : Spliced) → IsSpliced c later p event → p.from ≤ p.until
from_before c later p event is = omega (arith, is.from, is.until)

pub rows_are_put : (c : Content) (from to : ℕ) (new : List (List ℕ)) → from ≤ to → to ≤ length c.text → All IsLine c.text → All IsLine new
    → IsPut c (rows_splice (next_part c) c.text from to new)
rows_are_put c from to new order within lines put =
    let edit : Edit = rows_edit (next_part c) c.text from to new in
    let later : Content = after_edit c edit in
    let event : Spliced = rows_event c from to new in
    let is : IsEdit c later (flat new) event = lines_put c later new from to edit event order refl refl refl in
    let spliced : IsSpliced c later (rows_splice (next_part c) c.text from to new) event =
    rows_are_spliced c later from to new event order within lines (All-splice IsLine c.text new from to lines put) refl is in
    record {
      later = later;
      event = event;
      spliced = spliced;
      fits =
          puts_fit c.text (rows_splice (next_part c) c.text from to new) from to new (rows_put (next_part c) c.text new from to order within lines put)
          (lies_within c later (rows_splice (next_part c) c.text from to new) event spliced (from_before c later (rows_splice (next_part c) c.text from to new) event spliced));
    }

pub text_is_put : (c : Content) (start stop : Pos) (new : List (List ℕ)) → MayPutText c.text start stop new → All IsLine c.text → All IsLine new
    → IsPut c (text_splice (next_part c) c.text start stop new)
text_is_put c start stop new may lines put =
    let edit : Edit = text_edit (next_part c) c.text start stop new in
    let later : Content = after_edit c edit in
    let event : Spliced = text_event c start stop new in
    let joined : All IsLine (lines_between c.text start stop new) = between_lines c.text new start stop lines put in
    let is = text_put c later new start stop edit event may refl refl refl in
    let spliced : IsSpliced c later (text_splice (next_part c) c.text start stop new) event =
    text_is_spliced c later start stop new event may.start_in may.stop_in may.order lines
    (All-splice IsLine c.text (lines_between c.text start stop new) start.row (stop.row + 1) lines joined) refl is in
    record {
      later = later;
      event = event;
      spliced = spliced;
      fits =
          puts_fit c.text (text_splice (next_part c) c.text start stop new) start.row (stop.row + 1) (lines_between c.text start stop new)
          (text_puts (next_part c) c.text new (lines_between c.text start stop new) start stop may.start_in may.stop_in may.order may.some lines refl joined)
          (lies_within c later (text_splice (next_part c) c.text start stop new) event spliced (from_before c later (text_splice (next_part c) c.text start stop new) event spliced));
    }

-- ---- the text of a sound buffer
pub text_is : (b : ModelBuffer) → IsSoundBuffer b → text_of b ≡ text_then b.splices
unfolding text_of
text_is b is = ap (λ (t : List ℕ). fold text_after t b.splices) is.1.first

pub text_kept : (b : ModelBuffer) (is : IsSoundBuffer b) → flat is.0.text ≡ text_of b
unfolding text_of
text_kept b is = is.1.text

pub lines_kept : (b : ModelBuffer) (is : IsSoundBuffer b) → lines_of (text_of b) ≡ is.0.text
lines_kept b is = ap lines_of (sym (text_kept b is)) ∙ lines_of-flat is.0.text is.1.lines

pub flat_lines : (b : ModelBuffer) → IsSoundBuffer b → flat (lines_of (text_of b)) ≡ text_of b
flat_lines b is = ap flat (lines_kept b is) ∙ text_kept b is

-- ---- an editor in which the buffer under one handle became another one
pub record IsChanged (n : ℤ) (m later : ModelEditor) (b : ModelBuffer) : Type 0 where
  pub here : at_handle later.buffers n ≡ Some b
  pub others : (k : ℤ) → int_eq n k ≡ false → at_handle later.buffers k ≡ at_handle m.buffers k
  pub deleted : later.deleted ≡ m.deleted
  pub numbered : IsNumbered m → IsNumbered later

pub changed_by : (n : ℤ) (f : ModelBuffer → ModelBuffer) (m later : ModelEditor) (b : ModelBuffer) → at_handle m.buffers n ≡ Some b
    → later.buffers ≡ updated_at n f m.buffers → later.deleted ≡ m.deleted → (IsNumbered m → IsNumbered later) → IsChanged n m later (f b)
changed_by n f m later b there live dead numbered = record {
  here =
      ap (λ (es : List (ℤ × ModelBuffer)). at_handle es n) live
      ∙ at_updated n n f m.buffers
      ∙ ap (λ (t : Bool). cond t (option_map f (at_handle m.buffers n)) (at_handle m.buffers n)) (int_eq-itself n)
      ∙ ap (option_map f) there;
  others = λ k apart.
      ap (λ (es : List (ℤ × ModelBuffer)). at_handle es k) live
      ∙ at_updated n k f m.buffers
      ∙ ap (λ (t : Bool). cond t (option_map f (at_handle m.buffers k)) (at_handle m.buffers k)) apart;
  deleted = dead;
  numbered = numbered;
}

pub changed_then : (n : ℤ) (m between later : ModelEditor) (b c : ModelBuffer) → IsChanged n m between b → IsChanged n between later c → IsChanged n m later c
changed_then n m between later b c first then = record {
  here = then.here;
  others = λ k apart. then.others k apart ∙ first.others k apart;
  deleted = then.deleted ∙ first.deleted;
  numbered = λ is. then.numbered (first.numbered is);
}

module _ (n : ℤ) (m later : ModelEditor) (b c : ModelBuffer) (sound : IsSoundModel m) (there : at_handle m.buffers n ≡ Some b) (is : IsChanged n m later c) where
  same_deleted : (k : ℤ) → at_handle later.deleted k ≡ at_handle m.deleted k
  same_deleted k = ap (λ (es : List (ℤ × ModelBuffer)). at_handle es k) is.deleted

  changed_apart : (k : ℤ) (t : Bool) → int_eq n k ≡ t → (d : ModelBuffer) → at_handle later.buffers k ≡ Some d → at_handle m.deleted k ≡ None
  changed_apart k true same d at = subst (λ (j : ℤ). at_handle m.deleted j ≡ None) (same_int n k same) (sound.apart n b there)
  changed_apart k false apart d at = sound.apart k d (sym (is.others k apart) ∙ at)

  changed_buffer : IsSoundBuffer c → (k : ℤ) (t : Bool) → int_eq n k ≡ t → (d : ModelBuffer) → at_handle later.buffers k ≡ Some d → IsSoundBuffer d
  changed_buffer soundly k true same d at =
      let here : at_handle later.buffers k ≡ Some c = subst (λ (j : ℤ). at_handle later.buffers j ≡ Some c) (same_int n k same) is.here in
      subst (λ (x : ModelBuffer). IsSoundBuffer x) (same_Some c d (sym here ∙ at)) soundly
  changed_buffer soundly k false apart d at = sound.buffers k d (sym (is.others k apart) ∙ at)

  pub sound_changed : IsSoundBuffer c → IsSoundModel later
  sound_changed soundly = record {
    numbered = is.numbered sound.numbered;
    apart = λ k d at. same_deleted k ∙ changed_apart k (int_eq n k) refl d at;
    buffers = λ k d at. changed_buffer soundly k (int_eq n k) refl d at;
  }

  pub past_here : past_at later n ≡ record { splices = c.splices; is_deleted = false }
  past_here =
      let alive : at_handle later.deleted n ≡ None = same_deleted n ∙ sound.apart n b there in
      λ i. record { splices = splices_had (option_or (is.here i) (at_handle later.deleted n)); is_deleted = is_some (alive i) }

  pub past_other : (k : ℤ) → int_eq n k ≡ false → past_at later k ≡ past_at m k
  past_other k apart = λ i. record { splices = splices_had (option_or (is.others k apart i) (same_deleted k i)); is_deleted = is_some (same_deleted k i) }

  -- its splices since are told
  changed_told : (ss : List Splice) (text : List ℕ) (tick : ℕ) → c.splices ≡ b.splices ++ ss → text ≡ text_of b → tick ≡ tick_of b → AllFitLines text ss
      → (k : ℤ) (t : Bool) → int_eq n k ≡ t → FactsTell k (map (edited n) (splice_events text tick ss)) (past_at m k) (past_at later k)
  changed_told ss text tick more same count fit k true here =
      subst (λ (j : ℤ). FactsTell j (map (edited n) (splice_events text tick ss)) (past_at m j) (past_at later j)) (same_int n k here)
      (let p : Past = record { splices = b.splices; is_deleted = false } in
      subst (λ (q : Past). FactsTell n (map (edited n) (splice_events text tick ss)) q (past_at later n)) (sym (past_live m n b sound there))
      (subst (λ (q : Past). FactsTell n (map (edited n) (splice_events text tick ss)) p q)
      (sym (past_here ∙ (λ i. record { splices = more i; is_deleted = false })))
      (run_told n ss p text tick refl (same ∙ text_is b (sound.buffers n b there)) count fit)))
  changed_told ss text tick more same count fit k false apart =
      subst (λ (q : Past). FactsTell k (map (edited n) (splice_events text tick ss)) (past_at m k) q) (sym (past_other k apart))
      (others_told n k (splice_events text tick ss) (past_at m k) apart)

-- an editor after facts that tell of it
pub record TellsAll (m later : ModelEditor) (facts : List Fact) : Type 0 where
  pub sound : IsSoundModel later
  pub tell : (n : ℤ) → FactsTell n facts (past_at m n) (past_at later n)

pub tells_changed :
    (n : ℤ) (m later : ModelEditor) (b c : ModelBuffer) (ss : List Splice) (text : List ℕ) (tick : ℕ) → IsSoundModel m → at_handle m.buffers n ≡ Some b
    → IsChanged n m later c → IsSoundBuffer c → c.splices ≡ b.splices ++ ss → text ≡ text_of b → tick ≡ tick_of b → AllFitLines text ss
    → TellsAll m later (map (edited n) (splice_events text tick ss))
tells_changed n m later b c ss text tick sound there is soundly more same count fit = record {
  sound = sound_changed n m later b c sound there is soundly;
  tell = λ k. changed_told n m later b c sound there is ss text tick more same count fit k (int_eq n k) refl;
}

-- the buffer with a splice that can be put
pub put_sound : (b : ModelBuffer) (p : Splice) (is : IsSoundBuffer b) → IsPut is.0 p → IsSoundBuffer (with_splice p b)
put_sound b p is put = (put.later, (splice_is_kept is.0 put.later p put.event (without_marks b) put.spliced is.1).0)
