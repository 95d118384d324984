use Rattle.std.proofs.Common.{◌≡◌, ℕ, ℤ, List, [], ◌∷◌, ◌++◌, pos, ◌+◌, ◌<◌, ◌+ℤ◌, length, refl, ap, sym, subst, ◌∙◌, rules, to_z, of_z, w64}
use Rattle.std.specs.List.{splice}
use Rattle.nv_buffer.specs.Splices.{IsBufferText}
use Rattle.nv_buffer.specs.Changes.{Fits}
use Rattle.nv_buffer.specs.Content.{Content, event_at}
use Rattle.nv_buffer.specs.Steps.{kept_step, tree_ahead, edits_since}
use Rattle.nv_buffer.specs.declared.step.Step.{Step}
use Rattle.nv_buffer.proofs.Keeping.{text_of_buffer}
use Rattle.nv_buffer.specs.KeptMarks.{kept_at}
use Rattle.nv_buffer.specs.Rooms.{kept_entries}
use Rattle.nv_buffer.proofs.Making.{edit_stands, kept_carried, marks_carried, no_ok, nothing_made, on_err, step_pushed, edits_pushed, edited_is}
use Rattle.nv_buffer.proofs.StepsAhead.{step_kept}
use Rattle.nv_buffer.proofs.Placing.{small_after, ends_narrowly, marks_narrowly}
use Rattle.nv_buffer.proofs.buffer.Buffer.put_edit.Goals as goal

pub replace-requires-clause-small : goal.replace-requires-clause-small
replace-requires-clause-small c =
    small_after c.self.inside.text c.args.self.now.text c.in_ok-lines.lines c.args.edit (ap (λ (b : Content). b.text) c.self.view_is)
    c.in_ok-lines.ensures c.requires.fits

pub of-requires-clause-text : goal.of-requires-clause-text
of-requires-clause-text c =
    let inside = c.self.inside in
    text_of_buffer inside.text inside.tick (tree_ahead inside.tree) (edits_since inside.tree inside.unsealed.items) c.self.invariant.3

pub of-requires-clause-fits : goal.of-requires-clause-fits
of-requires-clause-fits c =
    subst (λ (t : List (List ℕ)). Fits t c.args.edit) (sym (ap (λ (b : Content). b.text) c.self.view_is)) c.requires.fits

pub carry_marks-requires-clause-old_end : goal.carry_marks-requires-clause-old_end
carry_marks-requires-clause-old_end c =
    let inside = c.self.inside in
    let text = text_of_buffer inside.text inside.tick (tree_ahead inside.tree) (edits_since inside.tree inside.unsealed.items) c.self.invariant.3 in
    let here = subst IsBufferText (ap (λ (b : Content). b.text) c.self.view_is) text in
    (ends_narrowly c.args.self.now.text c.args.edit here c.requires.fits).old

pub carry_marks-requires-clause-new_end : goal.carry_marks-requires-clause-new_end
carry_marks-requires-clause-new_end c =
    let inside = c.self.inside in
    let text = text_of_buffer inside.text inside.tick (tree_ahead inside.tree) (edits_since inside.tree inside.unsealed.items) c.self.invariant.3 in
    let here = subst IsBufferText (ap (λ (b : Content). b.text) c.self.view_is) text in
    (ends_narrowly c.args.self.now.text c.args.edit here c.requires.fits).new

pub carry_marks-requires-clause-moved : goal.carry_marks-requires-clause-moved
carry_marks-requires-clause-moved c =
    let inside = c.self.inside in
    let text = text_of_buffer inside.text inside.tick (tree_ahead inside.tree) (edits_since inside.tree inside.unsealed.items) c.self.invariant.3 in
    let same = ap (λ (b : Content). b.text) c.self.view_is in
    let fits = subst (λ (t : List (List ℕ)). Fits t c.args.edit) (sym same) c.requires.fits in
    marks_narrowly inside.text c.args.edit inside.marks text fits c.self.invariant.5

pub invariant_of-self-2 : goal.invariant_of-self-2
invariant_of-self-2 c =
    let inside = c.self.inside in
    let edit = c.args.edit in
    let same = ap (λ (b : Content). b.text) c.self.view_is in
    let fits = subst (λ (t : List (List ℕ)). Fits t edit) (sym same) c.requires.fits in
    let kept = step_kept inside.text edit c.in_ok-patch.patch c.in_ok-taken.taken c.in_ok-patch.ensures c.in_ok-taken.ensures.taken in
    let step : Step = kept_step c.in_ok-patch.patch edit c.in_ok-taken.taken in
    let now = c.in_ok-taken.ensures.ok ∙ ap (λ (ls : List (List ℕ)). splice inside.text edit.first edit.last ls) c.in_ok-lines.ensures in
    let steps =
    step_pushed inside.unsealed.items c.make_room.new.steps.items c.push_reserved.new.self.items step c.in_ok-make_room.ensures.items
    (c.push_reserved.ensures.items ∙ ap (λ (s : Step). c.make_room.new.steps.items ++ s ∷ []) c.new.ensures) in
    let tick : to_z w64 (of_z w64 (to_z w64 (of_z w64 inside.tick) +ℤ pos 1)) ≡ inside.tick +ℤ pos 1 = search rules in
    let moved =
    marks_carried c.replace.new.self inside.text (kept_entries c.marks_met.new.before) (kept_entries inside.kept) inside.marks
    c.carry_marks.new.marks edit now c.marks_met.ensures.same c.carry_marks.ensures.marks in
    let made =
    edit_stands inside.text c.replace.new.self inside.tick (to_z w64 (of_z w64 (to_z w64 (of_z w64 inside.tick) +ℤ pos 1)))
    inside.tree inside.unsealed.items c.push_reserved.new.self.items (kept_at (kept_entries inside.kept) edit.part) inside.marks c.carry_marks.new.marks edit step c.self.invariant.3
    c.self.invariant.4 c.self.invariant.5 fits kept.0 kept.1 now tick steps moved in
    (made.narrow, c.self.invariant.1, c.self.invariant.2, made.buffer, made.lead, made.places)

pub returns-clause-ok : goal.returns-clause-ok
returns-clause-ok c =
    let inside = c.self.inside in
    let edit = c.args.edit in
    let kept = step_kept inside.text edit c.in_ok-patch.patch c.in_ok-taken.taken c.in_ok-patch.ensures c.in_ok-taken.ensures.taken in
    let step : Step = kept_step c.in_ok-patch.patch edit c.in_ok-taken.taken in
    let now = c.in_ok-taken.ensures.ok ∙ ap (λ (ls : List (List ℕ)). splice inside.text edit.first edit.last ls) c.in_ok-lines.ensures in
    let steps =
    step_pushed inside.unsealed.items c.make_room.new.steps.items c.push_reserved.new.self.items step c.in_ok-make_room.ensures.items
    (c.push_reserved.ensures.items ∙ ap (λ (s : Step). c.make_room.new.steps.items ++ s ∷ []) c.new.ensures) in
    let tick : to_z w64 (of_z w64 (to_z w64 (of_z w64 inside.tick) +ℤ pos 1)) ≡ inside.tick +ℤ pos 1 = search rules in
    let moved =
    marks_carried c.replace.new.self inside.text (kept_entries c.marks_met.new.before) (kept_entries inside.kept) inside.marks
    c.carry_marks.new.marks edit now c.marks_met.ensures.same c.carry_marks.ensures.marks in
    let left =
    kept_carried edit.part _ _ (kept_entries c.marks_met.new.before) (kept_entries inside.kept) (kept_entries c.carry_marks.new.kept)
    c.marks_met.ensures.same c.in_ok-met.ensures.found c.carry_marks.ensures.kept in
    edited_is _ c.args.self.now edit c.replace.new.self (to_z w64 (of_z w64 (to_z w64 (of_z w64 inside.tick) +ℤ pos 1))) c.carry_marks.new.marks
    (kept_entries c.carry_marks.new.kept) (edits_since inside.tree c.push_reserved.new.self.items) c.self.view_is now tick moved left
    (edits_pushed inside.text inside.tick inside.tree inside.unsealed.items c.push_reserved.new.self.items edit step c.self.invariant.3 kept.0 steps)

pub returns-clause-told : goal.returns-clause-told
returns-clause-told c =
    let tick : ℤ = to_z w64 (of_z w64 (to_z w64 (of_z w64 (to_z w64 (of_z w64 c.self.inside.tick) +ℤ pos 1)))) in
    let kept : tick ≡ c.self.inside.tick +ℤ pos 1 = search rules in
    let told : event_at tick c.in_ok-told.told ≡ event_at tick c.args.edit = ap (event_at tick) c.in_ok-told.ensures in
    let counted : event_at tick c.args.edit ≡ event_at (c.args.self.now.tick +ℤ pos 1) c.args.edit =
    ap (λ (t : ℤ). event_at t c.args.edit) (kept ∙ ap (λ (b : Content). b.tick +ℤ pos 1) c.self.view_is) in
    told ∙ counted

pub marks_met-requires : goal.marks_met-requires
marks_met-requires c =
    let inside = c.self.inside in
    let text = text_of_buffer inside.text inside.tick (tree_ahead inside.tree) (edits_since inside.tree inside.unsealed.items) c.self.invariant.3 in
    let here = subst IsBufferText (ap (λ (b : Content). b.text) c.self.view_is) text in
    (ends_narrowly c.args.self.now.text c.args.edit here c.requires.fits).old

pub returns-in_err-met-clause-err : goal.returns-in_err-met-clause-err
returns-in_err-met-clause-err c =
    let inside = c.self.inside in
    on_err c.from_residual-in_err-met.result
    (nothing_made _ c.args.self.now inside.text (kept_entries c.marks_met.new.before) (edits_since inside.tree c.make_room.new.steps.items)
    c.self.view_is refl c.marks_met.ensures.same (ap (edits_since inside.tree) c.in_ok-make_room.ensures.items))

pub returns-in_err-told-clause-err : goal.returns-in_err-told-clause-err
returns-in_err-told-clause-err c =
    let inside = c.self.inside in
    on_err c.from_residual-in_err-told.result
    (nothing_made _ c.args.self.now inside.text (kept_entries c.marks_met.new.before) (edits_since inside.tree c.make_room.new.steps.items)
    c.self.view_is refl c.marks_met.ensures.same (ap (edits_since inside.tree) c.in_ok-make_room.ensures.items))

pub returns-in_err-patch-clause-err : goal.returns-in_err-patch-clause-err
returns-in_err-patch-clause-err c =
    let inside = c.self.inside in
    on_err c.from_residual-in_err-patch.result
    (nothing_made _ c.args.self.now inside.text (kept_entries c.marks_met.new.before) (edits_since inside.tree c.make_room.new.steps.items)
    c.self.view_is refl c.marks_met.ensures.same (ap (edits_since inside.tree) c.in_ok-make_room.ensures.items))

pub returns-in_err-lines-clause-err : goal.returns-in_err-lines-clause-err
returns-in_err-lines-clause-err c =
    let inside = c.self.inside in
    on_err c.from_residual-in_err-lines.result
    (nothing_made _ c.args.self.now inside.text (kept_entries c.marks_met.new.before) (edits_since inside.tree c.make_room.new.steps.items)
    c.self.view_is refl c.marks_met.ensures.same (ap (edits_since inside.tree) c.in_ok-make_room.ensures.items))

pub returns-in_err-taken-clause-err : goal.returns-in_err-taken-clause-err
returns-in_err-taken-clause-err c =
    let inside = c.self.inside in
    on_err c.from_residual-in_err-taken.result
    (nothing_made _ c.args.self.now c.replace.new.self (kept_entries c.marks_met.new.before) (edits_since inside.tree c.make_room.new.steps.items)
    c.self.view_is c.in_err-taken.ensures.err c.marks_met.ensures.same (ap (edits_since inside.tree) c.in_ok-make_room.ensures.items))

pub returns-in_err-taken-clause-ok : goal.returns-in_err-taken-clause-ok
returns-in_err-taken-clause-ok c = no_ok _ _ c.from_residual-in_err-taken.result c.from_residual-in_err-taken.ensures.1
