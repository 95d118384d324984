use Rattle.std.proofs.Common.{◌≡◌, ◌<◌, ◌+◌, ◌++◌, ◌∙◌, [], arith, ap, sym, subst, refl, append_assoc, append-nil, length, List, map}
use Rattle.nv_value.specs.View.{content}
use Rattle.nv_editor.specs.Doing.{Does}
use Rattle.nv_editor.proofs.Replaced.{does_both}
use Rattle.nv_hl.specs.Groups.{NamedGroup}
use Rattle.nv_model.specs.Operations.{Operation}
use Rattle.nv_model.specs.Stage.{Stage}
use Rattle.nv_api_mark.specs.Groups.{groups_of_names, names_operations}
use Rattle.nv_api_mark.specs.inside.Marking.{names_among, names_in}
use Rattle.nv_api_mark.proofs.Wanted.{first_from, groups_next, names_from, none_left, operations_next, same_count}
use Rattle.nv_api_mark.proofs.painting.make_groups.Goals as goal

pub loop-item-init : goal.loop-item-init
loop-item-init c = record { groups = refl; stage = refl; buffers = refl; done = ([], λ m stands. stands, refl) }

pub make_group_of-requires : goal.make_group_of-requires
make_group_of-requires c =
    let at = c.loop-item.invariant in
    let vs = c.args.items.now in
    let k = c.loop-item.item-index in
    let gs = c.loop-item.editor.stage.groups in
    let all = same_count gs c.args.editor.now.stage.groups (names_from vs k) (names_among (map content vs)) at.groups in
    let first = first_from gs vs k c.item-item.result (omega (arith, c.loop-item-test.true)) c.item-item.is in
    omega (arith, first, all, c.requires)

pub loop-item-preserved : goal.loop-item-preserved
loop-item-preserved c =
    let at = c.loop-item.invariant in
    let vs = c.args.items.now in
    let k = c.loop-item.item-index in
    let gs = c.loop-item.editor.stage.groups in
    let new = c.make_group_of.new.editor.stage.groups in
    let lt : k < length vs = omega (arith, c.loop-item-test.true) in
    let names = names_in (content c.item-item.result) [] in
    let made : new ≡ groups_of_names gs names = ap (λ (s : Stage). s.groups) c.in_ok-make_group_of.ensures.stage in
    let next = operations_next gs new vs k c.item-item.result lt c.item-item.is made in
    record {
      groups = groups_next gs new vs k c.item-item.result lt c.item-item.is made ∙ at.groups;
      stage = c.in_ok-make_group_of.ensures.stage ∙ (λ i. record (at.stage i) { groups = sym made i });
      buffers = c.in_ok-make_group_of.ensures.buffers ∙ at.buffers;
      done = (
        at.done.0 ++ names_operations gs names,
        does_both at.done.0 (names_operations gs names) c.args.editor.now c.loop-item.editor c.make_group_of.new.editor at.done.1 c.in_ok-make_group_of.ensures.done,
        append_assoc at.done.0 (names_operations gs names) (names_operations new (names_from vs (k + 1)))
            ∙ ap (λ os. at.done.0 ++ os) next
            ∙ at.done.2,
      );
    }

pub returns-clause-stage : goal.returns-clause-stage
returns-clause-stage c =
    let at = c.loop-item.invariant in
    let none = none_left c.args.items.now c.loop-item.item-index (omega (arith, c.loop-item-test.false)) in
    let all = ap (groups_of_names c.loop-item.editor.stage.groups) (sym none) ∙ at.groups in
    at.stage ∙ ap (λ (gs : List NamedGroup). record c.args.editor.now.stage { groups = gs }) all

pub returns-clause-done : goal.returns-clause-done
returns-clause-done c =
    let at = c.loop-item.invariant in
    let none = none_left c.args.items.now c.loop-item.item-index (omega (arith, c.loop-item-test.false)) in
    let all : at.done.0 ≡ names_operations c.args.editor.now.stage.groups (names_among (map content c.args.items.now)) =
    sym (append-nil at.done.0)
    ∙ ap (λ ns. at.done.0 ++ names_operations c.loop-item.editor.stage.groups ns) (sym none)
    ∙ at.done.2 in
    subst (λ (os : List Operation). Does os c.args.editor.now c.loop-item.editor) all at.done.1
