-- inside: the splices that a call tells of.
use Rattle.std.specs.Prelude.{List, [], ◌∷◌, flat_map}
use Rattle.nv_model.specs.Answers.{Fact, edited}
use Rattle.nv_world.specs.declared.step.Moved.{Moved}

-- the splice that a fact tells of, where it tells of one
abbrev pub splice_told : Fact → List Moved
splice_told (edited n told) = record {
  buffer = n;
  at = told.edit.at;
  old = told.edit.old;
  new = told.edit.new;
  change = told.edit.part.change;
  part = told.edit.part.part;
  back = told.edit.part.back;
} ∷ []
splice_told _ = []

-- the splices that facts tell of, in their order
abbrev pub splices_told : List Fact → List Moved
splices_told facts = flat_map splice_told facts
