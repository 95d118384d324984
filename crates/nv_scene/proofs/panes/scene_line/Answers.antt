use Rattle.std.proofs.Common.{◌≡◌, ℕ, List, length, refl, ap, subst, ◌∙◌}
use Rattle.std.specs.Prelude.{slice_get}
use Rattle.nv_places.specs.Flat.{line_at}
use Rattle.nv_scene.specs.Panes.{AreSpansOf}
use Rattle.nv_scene.proofs.Lined.{got_line}
use Rattle.nv_scene.proofs.Painted.{spans_shown}
use Rattle.nv_scene.proofs.panes.scene_line.Goals as goal

pub returns : goal.returns
returns c =
    let here : c.in-Some.line.now ≡ line_at c.args.buffer.now.text c.args.row =
    got_line c.args.buffer.now.text c.args.row c.in-Some.line.now (c.in-Some.ensures.line ∙ ap (λ (t : List (List ℕ)). slice_get t c.args.row) c.text.ensures.value) in
    record {
      row_is = refl;
      bytes_are = c.in_ok-bytes.ensures.bytes ∙ here;
      spans_are =
          subst (λ (n : ℕ). AreSpansOf c.args.groups.now c.args.buffer.now.marks.marks c.args.row n c.in_ok-spans.spans.items) (c.len.ensures.value ∙ ap (length {A = ℕ}) here)
          (spans_shown c.args.groups.now c.args.first c.args.behind c.args.row c.len.result c.args.buffer.now.marks.marks c.args.marks.now c.in_ok-spans.spans.items
          c.requires.first c.requires.behind c.requires.shown c.in_ok-spans.ensures);
    }
