use Rattle.std.proofs.Common.{◌≡◌, ℤ, List, true, false, ◌&&◌, Bool, None, length, eqb, sym, ap, subst, ◌∙◌, rules, to_z, of_z, w64}
use Rattle.std.specs.Prelude.{is_some, slice_get}
use Rattle.std.specs.Ordering.{int_eq}
use Rattle.nv_buffer.specs.Content.{Content}
use Rattle.nv_model.specs.Deleting.{other_handles, no_buffer_left}
use Rattle.nv_model.specs.Editors.{at_handle, handles_of}
use Rattle.nv_model.specs.Standing.{PresentEditor}
use Rattle.nv_editor.specs.Sound.{is_live_buffer}
use Rattle.nv_editor.proofs.MadeBuffers.{still_live}
use Rattle.nv_editor.proofs.Replaced.{other_there, count_one, below_live, next_apart}
use Rattle.nv_editor.proofs.editor.Editor.drop_buffer.Goals as goal

pub replace_buffer-requires-clause-other : goal.replace_buffer-requires-clause-other
replace_buffer-requires-clause-other c =
    let e : to_z w64 (of_z w64 c.args.buffer) ≡ c.args.buffer = search rules in
    let f : to_z w64 (of_z w64 c.in-Some.other) ≡ c.in-Some.other = search rules in
    let found = ap (λ (d : PresentEditor). slice_get (other_handles c.args.buffer (handles_of d.buffers)) 0) (sym c.self.view_is)
    ∙ ap (λ (k : ℤ). slice_get (other_handles k (handles_of c.self.inside.buffers)) 0) (sym e) ∙ sym c.least_other.ensures ∙ c.in-Some.is in
    subst (λ (k : ℤ). is_live_buffer c.args.self.now k ≡ true) (sym f) (other_there c.args.self.now.buffers c.args.buffer c.in-Some.other found).there

pub replace_buffer-requires-clause-apart : goal.replace_buffer-requires-clause-apart
replace_buffer-requires-clause-apart c =
    let n : ℤ = to_z w64 (of_z w64 c.args.buffer) in
    let f : to_z w64 (of_z w64 c.in-Some.other) ≡ c.in-Some.other = search rules in
    subst (λ (k : ℤ). int_eq k n ≡ false) (sym f) (other_there c.self.inside.buffers n c.in-Some.other (sym c.least_other.ensures ∙ c.in-Some.is)).apart

pub make_buffer-requires : goal.make_buffer-requires
make_buffer-requires c =
    let e : to_z w64 (of_z w64 c.args.buffer) ≡ c.args.buffer = search rules in
    let none : c.least_other.result ≡ None = search rules in
    let found = ap (λ (k : ℤ). slice_get (other_handles k (handles_of c.self.inside.buffers)) 0) (sym e) ∙ sym c.least_other.ensures ∙ none in
    let live : is_some (at_handle c.self.inside.buffers c.args.buffer) ≡ true = subst (λ (d : PresentEditor). is_live_buffer d c.args.buffer ≡ true) (sym c.self.view_is) c.requires.live in
    let one = count_one c.self.inside.buffers c.args.buffer c.self.invariant.0.rising live found in
    let one_now : eqb (length (handles_of c.args.self.now.buffers)) 1 ≡ true = subst (λ (d : PresentEditor). eqb (length (handles_of d.buffers)) 1 ≡ true) c.self.view_is one in
    record { room = sym (ap (λ (t : Bool). t && no_buffer_left c.args.self.now.stage) one_now) ∙ c.requires.room }

pub replace_buffer-requires-2-clause-live : goal.replace_buffer-requires-2-clause-live
replace_buffer-requires-2-clause-live c =
    let e : to_z w64 (of_z w64 c.args.buffer) ≡ c.args.buffer = search rules in
    subst (λ (k : ℤ). is_live_buffer c.make_buffer.new.self k ≡ true) (sym e)
    (subst (λ (es : List (ℤ × Content)). is_some (at_handle es c.args.buffer) ≡ true) (sym c.in_ok-made.ensures.buffers)
    (still_live c.args.self.now.buffers c.in_ok-made.made c.args.buffer true c.requires.live))

pub replace_buffer-requires-2-clause-apart : goal.replace_buffer-requires-2-clause-apart
replace_buffer-requires-2-clause-apart c =
    let e : to_z w64 (of_z w64 c.args.buffer) ≡ c.args.buffer = search rules in
    let f : to_z w64 (of_z w64 c.in_ok-made.made) ≡ c.in_ok-made.made = search rules in
    let next = ap (λ (d : PresentEditor). d.stage.next_buffer) c.self.view_is in
    let live : is_some (at_handle c.self.inside.buffers c.args.buffer) ≡ true = subst (λ (d : PresentEditor). is_live_buffer d c.args.buffer ≡ true) (sym c.self.view_is) c.requires.live in
    let apart : int_eq c.self.inside.stage.next_buffer c.args.buffer ≡ false =
    next_apart c.self.inside.stage.next_buffer c.args.buffer (below_live c.self.inside.stage.next_buffer c.self.inside.buffers c.args.buffer c.self.invariant.0.below live) in
    subst (λ (k : ℤ). int_eq k (to_z w64 (of_z w64 c.args.buffer)) ≡ false) (sym (f ∙ c.in_ok-made.ensures.handle ∙ sym next))
    (subst (λ (k : ℤ). int_eq c.self.inside.stage.next_buffer k ≡ false) (sym e) apart)
