use Rattle.std.proofs.Common.{◌≡◌, ◌++◌, map, drop}
use Rattle.nv_value.specs.Content.{in_turn, text}
use Rattle.nv_value.specs.View.{pair_content}
use Rattle.nv_msgpack.specs.Shortest.{HaveSpellings}
use Rattle.nv_model.specs.Answering.{natural}
use Rattle.nv_api_mark.proofs.naming.entries.Given as goal

abbrev pub invariant-loop-name : goal.invariant-loop-name
invariant-loop-name l = record {
  all : map pair_content l.fields.items ++ map (λ e. (text e.0.now, natural e.1)) (drop l.name-index l.names)
      ≡ map (λ e. (text e.0.now, natural e.1)) l.names;
  spelled : HaveSpellings (in_turn (map pair_content l.fields.items));
}
