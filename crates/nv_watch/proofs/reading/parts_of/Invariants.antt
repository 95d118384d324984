-- The parts so far, and those of the values that are left, are all.
use Rattle.std.proofs.Common.{◌≡◌, ◌++◌, map}
use Rattle.std.specs.Prelude.{◌&&◌}
use Rattle.std.specs.List.{list_all}
use Rattle.std.specs.Vec.Iter.{into_iter_items}
use Rattle.nv_value.specs.View.{content}
use Rattle.nv_rpc.specs.MessageView.{sent_of}
use Rattle.nv_watch.specs.SentParts.{messages_among, others_among, is_told, is_whole_sent, values_read}
use Rattle.nv_watch.proofs.reading.parts_of.Given as goal

abbrev pub invariant-loop-value : goal.invariant-loop-value
invariant-loop-value l = record {
  messages : map sent_of l.parts.messages.items ++ messages_among (map content (into_iter_items l.value-iterator)) ≡ messages_among (values_read l.bytes).values;
  others : map content l.parts.others.items ++ others_among (map content (into_iter_items l.value-iterator)) ≡ others_among (values_read l.bytes).values;
  is_whole : (l.parts.is_whole && list_all is_told (map content (into_iter_items l.value-iterator))) ≡ is_whole_sent l.bytes;
}
