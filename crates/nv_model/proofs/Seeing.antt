-- What is seen of an editor is what is seen of the model that it stands for.
use Rattle.std.proofs.Common.{◌≡◌, ℕ, suc, List, [], ◌∷◌, length, map, false, refl, ap, sym, ◌∙◌, Option, Some, None}
use Rattle.std.specs.Prelude.{option_map, nat_abs}
use Rattle.nv_places.specs.Flat.{lines_of}
use Rattle.nv_places.proofs.FlatLemmas.{lines_of-flat}
use Rattle.nv_marks.proofs.UniqueLemmas.{order_is_unique}
use Rattle.nv_buffer.specs.Content.{Content, next_part}
use Rattle.nv_buffer.specs.Changes.{text_at}
use Rattle.nv_buffer.specs.declared.edit.Edit.{Edit}
use Rattle.nv_undo.specs.Tree.{Undo, last}
use Rattle.nv_model.specs.Buffers.{ModelBuffer, text_of, tick_of, mark_of, marks_there, marks_of, part_next}
use Rattle.nv_model.specs.Editors.{at_handle}
use Rattle.nv_model.specs.Seen.{seen_buffer}
use Rattle.nv_model.specs.Standing.{StandsFor, Both, kept_changes, kept_undo, seen_buffer_now}
use Rattle.nv_model.specs.Keeping.{SeenIsSame}
use Rattle.nv_model.proofs.MarkOrders.{there_apart}
use Rattle.nv_model.proofs.Trees.{length-splices}
use Rattle.nv_buffer.proofs.MarkOrders.{in_order_is}

pub marks_same : (b : Content) (m : ModelBuffer) → StandsFor b m → b.marks.marks ≡ marks_of m
unfolding marks_of
marks_same b m is =
    order_is_unique (map (mark_of m) (marks_there m)) b.marks.marks (marks_of m) (there_apart m is.valid.named) is.marks
    (in_order_is (map (mark_of m) (marks_there m)))

-- the next part of the open change
pub next_same : (b : Content) (m : ModelBuffer) → StandsFor b m → next_part b ≡ part_next m
next_same b m is =
    let changes : last b.undo ≡ last m.undo = last-kept b.undo ∙ ap last is.undo in
    let since : length b.unsealed ≡ length m.unsealed = sym (length-splices (text_at b.undo b.undo.current) b.unsealed) ∙ ap length is.unsealed in
    λ i. record { change = suc (changes i); part = since i; back = false }
  where
    length-kept : (undo : Undo (List Edit)) (n : ℕ) (changes : List (ℕ × List Edit)) → length (kept_changes undo n changes) ≡ length changes
    length-kept undo n [] = refl
    length-kept undo n (c ∷ cs) = ap (λ (k : ℕ). suc k) (length-kept undo (suc n) cs)

    last-kept : (undo : Undo (List Edit)) → last undo ≡ last (kept_undo undo)
    last-kept undo = sym (length-kept undo 1 undo.changes)

buffer_same : (b : Content) (m : ModelBuffer) → StandsFor b m → seen_buffer_now b ≡ seen_buffer m
buffer_same b m is =
    let lines : b.text ≡ lines_of (text_of m) = sym (lines_of-flat b.text is.lines) ∙ ap lines_of is.text in
    let tick : nat_abs b.tick ≡ tick_of m = ap nat_abs is.tick in
    let marks : b.marks.marks ≡ marks_of m = marks_same b m is in
    let first = sym is.first in
    let next : next_part b ≡ part_next m = next_same b m is in
    λ i. record {
      lines = lines i;
      tick = tick i;
      marks = marks i;
      settings = is.settings i;
      greatest = λ ns. is.greatest ns i;
      first = first i;
      undo = is.undo i;
      unsealed = is.unsealed i;
      next = next i;
      name = is.name i;
      modifiable = is.modifiable i;
      modified = is.modified i;
      listed = is.listed i;
      tabstop = is.tabstop i;
    }

both_same : (o : Option Content) (p : Option ModelBuffer) → Both StandsFor o p → option_map seen_buffer_now o ≡ option_map seen_buffer p
both_same None None is = refl
both_same None (Some m) is = absurd is
both_same (Some b) None is = absurd is
both_same (Some b) (Some m) is = ap Some (buffer_same b m is)

pub seen_is_same : SeenIsSame
seen_is_same e m is = λ i. record {
  buffer = λ n. both_same (at_handle e.buffers n) (at_handle m.buffers n) (is.buffers n) i;
  handles = is.handles i;
  stage = is.stage i;
}
