-- What others are told of a call, as it is kept.
use Rattle.std.specs.Prelude.{List, map, nat_abs}
use Rattle.nv_model.specs.Answers.{Fact as ModelFact, attached, detached, edited, deleted, quit}
use Rattle.nv_editor.specs.declared.happened.Fact.{Fact}
use Rattle.nv_editor.specs.declared.happened.Fact.TheVariants.{Attached, Detached, Edited, Deleted, Quit}

-- a fact as the model tells it
abbrev pub fact_of : Fact → ModelFact
fact_of (Attached buffer tick whole) = attached buffer (nat_abs tick) whole
fact_of (Detached buffer) = detached buffer
fact_of (Edited buffer spliced) = edited buffer spliced
fact_of (Deleted buffer) = deleted buffer
fact_of Quit = quit

abbrev pub facts_of : List Fact → List ModelFact
facts_of facts = map fact_of facts
