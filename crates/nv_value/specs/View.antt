-- What a `Value` and a `Pair` hold: their content, by recursion.
use Rattle.std.specs.Prelude.{List, map}
use Rattle.nv_value.specs.Content.{Tree, Trees, nil, truth, integer, big, text, bin, list, pairs, ext, opaque, trees_of, in_turn}
use Rattle.nv_value.specs.declared.value.Value.{Value, fold-Value}
use Rattle.nv_value.specs.declared.value.Value.TheOpen.{Value-F, Pair-F}
use Rattle.nv_value.specs.declared.value.Pair.{Pair, fold-Pair}

-- The content of one value, from that of the values right inside it.
abbrev pub content_step : Value-F Tree (Tree × Tree) → Tree
content_step Value-F.Nil = nil
content_step (Value-F.Truth b) = truth b
content_step (Value-F.Int n) = integer n
content_step (Value-F.Big n) = big n
content_step (Value-F.Text bytes) = text bytes
content_step (Value-F.Bin bytes) = bin bytes
content_step (Value-F.List items) = list (trees_of items.items)
content_step (Value-F.Pairs fields) = pairs (in_turn fields.items)
content_step (Value-F.Ext kind data_bytes) = ext kind data_bytes
content_step (Value-F.Opaque bytes) = opaque bytes

-- The content of a pair: that of its key and of its value.
abbrev pub pair_step : Pair-F Tree (Tree × Tree) → Tree × Tree
pair_step p = (p.key, p.value)

-- The content of a value.
abbrev pub content : Value → Tree
content = fold-Value Tree (Tree × Tree) content_step pair_step

-- The content of a key and its value.
abbrev pub pair_content : Pair → Tree × Tree
pair_content = fold-Pair Tree (Tree × Tree) content_step pair_step

-- The contents of values, in order.
abbrev pub contents : List Value → Trees
contents vs = trees_of (map content vs)

-- The contents of pairs, each key before its value.
abbrev pub pair_contents : List Pair → Trees
pair_contents ps = in_turn (map pair_content ps)
