use Rattle.std.proofs.Common.{◌≡◌, ◌++◌, map, drop}
use Rattle.nv_value.specs.View.{content, contents}
use Rattle.nv_msgpack.specs.Shortest.{HaveSpellings}
use Rattle.nv_api_ui.specs.UiRows.{ui_dict}
use Rattle.nv_api_ui.proofs.values.ui_list.Given as goal

abbrev pub invariant-loop-ui : goal.invariant-loop-ui
invariant-loop-ui l = record {
  all : map content l.items.items ++ map ui_dict (drop l.ui-index l.uis) ≡ map ui_dict l.uis;
  spelled : HaveSpellings (contents l.items.items);
}
