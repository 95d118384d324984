use Rattle.std.proofs.Common.{◌≡◌, ◌++◌, map, drop}
use Rattle.nv_value.specs.View.{content, contents}
use Rattle.nv_msgpack.specs.Shortest.{HaveSpellings}
use Rattle.nv_api_win.specs.Windows.{window_handle}
use Rattle.nv_api_win.proofs.values.window_list.Given as goal

abbrev pub invariant-loop-number : goal.invariant-loop-number
invariant-loop-number l = record {
  all : map content l.items.items ++ map window_handle (drop l.number-index l.numbers) ≡ map window_handle l.numbers;
  spelled : HaveSpellings (contents l.items.items);
}
