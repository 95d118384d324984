-- A row of the table as the code has it.
use Rattle.std.specs.Prelude.{◌<◌, ◌≤◌, length, map, option_map}
use Rattle.nv_args.specs.declared.signatures.Parameter.{Parameter as Taken}
use Rattle.nv_args.specs.declared.signatures.Signature.{Signature as Told}
use Rattle.nv_args.specs.Kinds.{kind_of}
use Rattle.nv_args.specs.Table.{Kind, Parameter, Signature}

-- what a parameter takes
abbrev pub kind_of_parameter : Taken → Kind
kind_of_parameter taken = kind_of taken.0

-- a parameter, and a method with what it takes and gives
abbrev pub parameter_of : Taken → Parameter
parameter_of taken = record { kind = kind_of taken.0; name = taken.1.now }

abbrev pub signature_of : Told → Signature
signature_of told = record {
  name = told.name.now;
  method = told.method;
  parameters = map parameter_of told.parameters.now;
  result = option_map kind_of told.result;
  is_seen = told.is_seen;
}

-- it has a name, and that and its parameters are so few that a fault can tell them
pub record IsBrief (told : Told) : Type 0 where
  pub some : 0 < length told.name.now
  pub name : length told.name.now < 32
  pub parameters : length told.parameters.now ≤ 6
