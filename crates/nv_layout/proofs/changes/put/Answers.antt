use Rattle.std.proofs.Common.{◌≡◌, sym, subst}
use Rattle.std.specs.Prelude.{OnOk}
use Rattle.nv_layout.specs.Content.{shapes_of}
use Rattle.nv_layout.specs.Changes.{append}
use Rattle.nv_layout.proofs.Rebuilt.{row_put, column_put}
use Rattle.nv_layout.proofs.changes.put.Goals as goal

pub returns-in-Row : goal.returns-in-Row
returns-in-Row c =
    subst (λ ss. OnOk c.push_all.result (shapes_of c.push_all.new.all.items ≡ append (shapes_of c.args.all.now.items) ss)) (sym (row_put c.args.axis c.args.tree c.in-Row.trees c.in-Across.is c.in-Row.is)) c.push_all.ensures

pub returns-in-Column : goal.returns-in-Column
returns-in-Column c =
    subst (λ ss. OnOk c.push_all-in-Column.result (shapes_of c.push_all-in-Column.new.all.items ≡ append (shapes_of c.args.all.now.items) ss)) (sym (column_put c.args.axis c.args.tree c.in-Column.trees c.in-Down.is c.in-Column.is)) c.push_all-in-Column.ensures
