use Rattle.std.proofs.Common.{◌≡◌, ℕ, List, true, sym, subst, ◌∙◌, ap, is_some}
use Rattle.std.specs.Map.{lookup}
use Rattle.nv_marks.specs.declared.keeping.Kept.{Kept}
use Rattle.nv_buffer.specs.KeptMarks.{is_of_part}
use Rattle.nv_buffer.specs.Rooms.{kept_entries}
use Rattle.nv_buffer.proofs.Rooms.{room_made, there_held}
use Rattle.nv_buffer.proofs.kept_marks.KeptMarks.hold.Goals as goal

pub returns-then-contains_key-clause-room : goal.returns-then-contains_key-clause-room
returns-then-contains_key-clause-room c =
    subst (λ (es : List ((ℕ × ℕ) × List Kept)). is_some (lookup (is_of_part c.args.part) es) ≡ true) c.self.view_is
    (there_held c.self.inside.entries.entries (c.args.part.change, c.args.part.part) ∙ sym c.contains_key.ensures ∙ c.if-contains_key.true)

pub returns-clause-same : goal.returns-clause-same
returns-clause-same c =
    room_made c.self.inside.entries.entries (c.args.part.change, c.args.part.part) c.insert.new.self.entries c.new.result
    c.new.ensures.items (sym c.contains_key.ensures ∙ c.if-contains_key.false) c.in_ok-insert.ensures.entries
    ∙ ap kept_entries c.self.view_is

pub returns-clause-room : goal.returns-clause-room
returns-clause-room c =
    there_held c.insert.new.self.entries (c.args.part.change, c.args.part.part)
    ∙ ap is_some c.in_ok-insert.ensures.updates.1
