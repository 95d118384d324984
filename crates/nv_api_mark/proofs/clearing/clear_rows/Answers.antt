use Rattle.std.proofs.Common.{◌≡◌, ℤ, OnOk, ap, filter, rules, subst, sym, to_z, of_z, w64}
use Rattle.nv_marks.specs.Queries.{is_cleared}
use Rattle.nv_model.specs.Answering.{removal_operations}
use Rattle.nv_editor.specs.Doing.{Does}
use Rattle.nv_editor.specs.Sound.{content_at}
use Rattle.nv_api_mark.proofs.Picked.{cleared_are, none_are}
use Rattle.nv_api_mark.proofs.Removed.{does_nothing, done_where}
use Rattle.nv_api_mark.proofs.clearing.clear_rows.Goals as goal

pub returns-in-Some : goal.returns-in-Some
returns-in-Some c =
    let e : to_z w64 (of_z w64 c.args.handle) ≡ c.args.handle = search rules in
    let old = c.args.editor.now in
    let marks = (content_at old c.args.handle).marks.marks in
    let cleared = filter (is_cleared c.args.rows.meant c.in-Some.from c.in-Some.to) marks in
    let done : OnOk c.clear_marks.result (Does (removal_operations c.args.handle cleared) old c.clear_marks.new.self) =
    subst (λ (n : ℤ). OnOk c.clear_marks.result
    (Does (removal_operations n (filter (is_cleared c.args.rows.meant c.in-Some.from c.in-Some.to) (content_at old n).marks.marks)) old c.clear_marks.new.self))
    e c.clear_marks.ensures.done in
    done_where c.clear_marks.result old c.clear_marks.new.self _ _
    (ap (removal_operations c.args.handle) (sym (cleared_are c.args.rows c.places_of.result (c.in-Some.from, c.in-Some.to) marks
    c.in-Some.is c.places_of.ensures c.requires.narrow))) done

pub returns-in-None : goal.returns-in-None
returns-in-None c =
    does_nothing c.args.editor.now _ (ap (removal_operations c.args.handle) (none_are c.args.rows c.places_of.result
    (content_at c.args.editor.now c.args.handle).marks.marks c.in-None.is c.places_of.ensures c.requires.narrow))
