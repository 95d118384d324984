use Rattle.std.proofs.Common.{◌∙◌, sym, ap}
use Rattle.std.specs.Prelude.{take}
use Rattle.std.proofs.lemmas.List.{take-map}
use Rattle.nv_editor.specs.Facts.{fact_of, facts_of}
use Rattle.nv_editor.proofs.happened.Happened.truncate.Goals as goal

pub returns : goal.returns
returns c =
    ap facts_of c.truncate.ensures.items ∙ sym (take-map fact_of c.args.len c.self.inside.facts.items) ∙ ap (take c.args.len) c.self.view_is
