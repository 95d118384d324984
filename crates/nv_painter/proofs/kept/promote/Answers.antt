use Rattle.std.proofs.Common.{◌≡◌, ◌∙◌, None, Some, ap, false, is_some, length, rules, subst, sym, true}
use Rattle.std.specs.List.{slice_get}
use Rattle.std.specs.Map.{lookup}
use Rattle.std.specs.Map.Iter.{deref_pair}
use Rattle.std.specs.Option.{option_map}
use Rattle.nv_painter.specs.Keys.{same_line_key}
use Rattle.nv_painter.specs.inside.Kept.{AreKept}
use Rattle.nv_painter.specs.inside.Lent.{lent_content}
use Rattle.nv_painter.proofs.KeptLemmas.{first_cells_are, has_key, not_promoted, promoting, there_is_first}
use Rattle.nv_painter.proofs.kept.promote.Goals as goal

pub returns-then-not-promote-clause-kept : goal.returns-then-not-promote-clause-kept
returns-then-not-promote-clause-kept c =
    let key = lent_content c.args.key in
    let absent : is_some (lookup (same_line_key key) c.args.cache.now.entries) ≡ false = search rules in
    subst AreKept (sym (not_promoted key c.args.cache.now c.promote.new.self absent c.promote.ensures.entries)) c.requires

pub returns-then-not-promote-clause-found : goal.returns-then-not-promote-clause-found
returns-then-not-promote-clause-found c =
    let key = lent_content c.args.key in
    let es = c.args.cache.now.entries in
    let absent : is_some (lookup (same_line_key key) es) ≡ false = search rules in
    (not_promoted key c.args.cache.now c.promote.new.self absent c.promote.ensures.entries, has_key key es ∙ absent)

pub returns-in-Some-clause-kept : goal.returns-in-Some-clause-kept
returns-in-Some-clause-kept c =
    let key = lent_content c.args.key in
    let es = c.args.cache.now.entries in
    let there : is_some (lookup (same_line_key key) es) ≡ true = search rules in
    (promoting key c.args.cache.now c.promote.new.self c.requires (has_key key es ∙ there) c.promote.ensures.entries).kept

pub returns-in-None-clause-kept : goal.returns-in-None-clause-kept
returns-in-None-clause-kept c =
    let key = lent_content c.args.key in
    let es = c.args.cache.now.entries in
    let there : is_some (lookup (same_line_key key) es) ≡ true = search rules in
    (promoting key c.args.cache.now c.promote.new.self c.requires (has_key key es ∙ there) c.promote.ensures.entries).kept

pub returns-in-Some-clause-found : goal.returns-in-Some-clause-found
returns-in-Some-clause-found c =
    let key = lent_content c.args.key in
    let es = c.args.cache.now.entries in
    let entry = c.in-Some.entry in
    let there : is_some (lookup (same_line_key key) es) ≡ true = search rules in
    let moved = promoting key c.args.cache.now c.promote.new.self c.requires (has_key key es ∙ there) c.promote.ensures.entries in
    let first : slice_get c.promote.new.self.entries 0 ≡ Some (entry.0.now, entry.1.now) =
    sym c.peek_mru.ensures ∙ ap (option_map deref_pair) c.in-Some.is in (
      ap length (c.cells.ensures ∙ first_cells_are key c.args.cache.now c.promote.new.self (entry.0.now, entry.1.now) moved first),
      moved.keys,
    )

pub returns-in-None-clause-found : goal.returns-in-None-clause-found
returns-in-None-clause-found c =
    let key = lent_content c.args.key in
    let es = c.args.cache.now.entries in
    let there : is_some (lookup (same_line_key key) es) ≡ true = search rules in
    let moved = promoting key c.args.cache.now c.promote.new.self c.requires (has_key key es ∙ there) c.promote.ensures.entries in
    let none : slice_get c.promote.new.self.entries 0 ≡ None = sym c.peek_mru.ensures ∙ ap (option_map deref_pair) c.in-None.is in
    absurd (there_is_first key c.args.cache.now c.promote.new.self moved none)
