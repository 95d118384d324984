use Rattle.std.proofs.Common.{◌≡◌, ℕ, List, true, refl, Vec, sym, subst, ◌∙◌, ap, is_some}
use Rattle.std.specs.Map.{lookup}
use Rattle.nv_marks.specs.declared.keeping.Kept.{Kept}
use Rattle.nv_buffer.specs.KeptMarks.{is_of_part, kept_at, with_part}
use Rattle.nv_buffer.specs.Rooms.{kept_entries}
use Rattle.nv_buffer.proofs.Rooms.{put_there, there_held, was_held}
use Rattle.nv_buffer.proofs.kept_marks.KeptMarks.put_held.Goals as goal

pub returns-clause-before : goal.returns-clause-before
returns-clause-before c =
    ap (λ (v : Vec Kept _). v.items) c.unwrap_or.ensures
    ∙ was_held c.self.inside.entries.entries (c.args.part.change, c.args.part.part) c.in-Ok.before c.new.result
    c.in-Ok.ensures.old c.new.ensures.items c.insert.ensures.was_ordered
    ∙ ap (λ (es : List ((ℕ × ℕ) × List Kept)). kept_at (kept_entries es) c.args.part) c.self.view_is

pub returns-clause-kept : goal.returns-clause-kept
returns-clause-kept c =
    put_there c.self.inside.entries.entries (c.args.part.change, c.args.part.part) c.insert.new.self.entries c.args.part c.args.kept
    refl c.requires.some c.in-Ok.ensures.entries c.insert.ensures.was_ordered
    ∙ ap (λ (es : List ((ℕ × ℕ) × List Kept)). with_part c.args.part c.args.kept.items (kept_entries es)) c.self.view_is

pub unreachable-requires : goal.unreachable-requires
unreachable-requires c =
    let room = subst (λ (es : List ((ℕ × ℕ) × List Kept)). is_some (lookup (is_of_part c.args.part) es) ≡ true) (sym c.self.view_is) c.requires.room in
    let there = sym (there_held c.self.inside.entries.entries (c.args.part.change, c.args.part.part)) ∙ room in
    let none = ap is_some c.in-Err.ensures.absent in cc
