use Rattle.std.proofs.Common.{◌≡◌, ◌==◌, ◌&&◌, ℕ, ℤ, Bool, true, false, not, List, length, sym, ◌∙◌, refl, cond}
use Rattle.nv_model.specs.Answers.{Answer, refused}
use Rattle.nv_model.specs.Seen.{Seen, is_name_of}
use Rattle.nv_model.specs.Standing.{seen_now}
use Rattle.nv_api_buf.proofs.Deciding.{refused_by}
use Rattle.std.specs.List.{list_any}
use Rattle.nv_args.specs.Faults.{newline_inside, name_in_use}
use Rattle.nv_args.specs.Texts.{has_newline}
use Rattle.nv_model.specs.Deleting.{other_handles}
use Rattle.nv_api_buf.proofs.Newlines.{search-of_line}
use Rattle.nv_api_buf.proofs.buffers.may_name.Goals as goal

abbrev others : Seen → ℤ → List ℕ → Bool
others s n name = list_any (λ k. is_name_of name (s.buffer k)) (other_handles n s.handles)

named : (newline empty other : Bool) (a b c : Bool) (answer : Answer) → newline ≡ a → empty ≡ b → other ≡ c
    → cond newline (refused newline_inside) (cond (not empty && other) (refused name_in_use) answer) ≡ cond a (refused newline_inside) (cond (not b && c) (refused name_in_use) answer)
named newline empty other a b c answer p q r = λ i. cond (p i) (refused newline_inside) (cond (not (q i) && r i) (refused name_in_use) answer)

pub returns-then-has_other-clause-row : goal.returns-then-has_other-clause-row
returns-then-has_other-clause-row c answer =
    let s = seen_now c.args.editor.now in
    let name = c.args.name.now in
    let line = search-of_line name (c.is_line.ensures.0 c.if-not-is_line.false) in
    let some : (length name == 0) ≡ false = sym c.is_empty.ensures ∙ c.if-is_empty.false in
    let other : others s c.args.live.handle name ≡ true = sym c.has_other.ensures ∙ c.if-has_other.true in
    refused_by _ c.name_in_use.result name_in_use c.name_in_use.ensures
    (named (has_newline name) (length name == 0) (others s c.args.live.handle name) false false true answer line some other)

pub returns-then-is_empty-clause-row : goal.returns-then-is_empty-clause-row
returns-then-is_empty-clause-row c answer =
    let s = seen_now c.args.editor.now in
    let name = c.args.name.now in
    let line = search-of_line name (c.is_line.ensures.0 c.if-not-is_line.false) in
    let none : (length name == 0) ≡ true = sym c.is_empty.ensures ∙ c.if-is_empty.true in
    named (has_newline name) (length name == 0) (others s c.args.live.handle name) false true (others s c.args.live.handle name) answer line none refl

pub returns-clause-row : goal.returns-clause-row
returns-clause-row c answer =
    let s = seen_now c.args.editor.now in
    let name = c.args.name.now in
    let line = search-of_line name (c.is_line.ensures.0 c.if-not-is_line.false) in
    let some : (length name == 0) ≡ false = sym c.is_empty.ensures ∙ c.if-is_empty.false in
    let other : others s c.args.live.handle name ≡ false = sym c.has_other.ensures ∙ c.if-has_other.false in
    named (has_newline name) (length name == 0) (others s c.args.live.handle name) false false false answer line some other
