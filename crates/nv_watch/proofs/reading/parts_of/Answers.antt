use Rattle.std.proofs.Common.{◌≡◌, List, [], ◌∷◌, ◌++◌, Bool, map, ap, sym, ◌∙◌, append_assoc}
use Rattle.std.specs.Prelude.{◌&&◌}
use Rattle.std.specs.List.{list_all}
use Rattle.std.specs.Vec.Iter.{into_iter_items}
use Rattle.std.proofs.Math.Bool.{and_assoc}
use Rattle.nv_value.specs.Content.{Tree}
use Rattle.nv_value.specs.View.{content}
use Rattle.nv_value.specs.declared.value.Value.{Value}
use Rattle.nv_rpc.specs.MessageView.{sent_of}
use Rattle.nv_rpc.specs.Messages.{Sent}
use Rattle.nv_watch.specs.SentParts.{messages_among, others_among, is_told}
use Rattle.nv_watch.proofs.Readings.{messages_first, others_first}
use Rattle.nv_watch.proofs.reading.parts_of.Goals as goal

pub loop-value-preserved : goal.loop-value-preserved
loop-value-preserved c =
    let rest : List Value = into_iter_items c.next.new.self in
    let ts : List Tree = map content rest in
    let t : Tree = content c.in-Some.value in
    let next : into_iter_items c.loop-value.value-iterator ≡ c.in-Some.value ∷ rest = c.in-Some.ensures.steps.0 in
    record {
      messages =
          ap (λ (front : List Sent). front ++ messages_among ts) c.in_ok-put.ensures.messages
          ∙ append_assoc (map sent_of c.loop-value.parts.messages.items) (messages_among (t ∷ [])) (messages_among ts)
          ∙ ap (λ (back : List Sent). map sent_of c.loop-value.parts.messages.items ++ back) (messages_first t ts)
          ∙ ap (λ (vs : List Value). map sent_of c.loop-value.parts.messages.items ++ messages_among (map content vs)) (sym next)
          ∙ c.loop-value.invariant.messages;
      others =
          ap (λ (front : List Tree). front ++ others_among ts) c.in_ok-put.ensures.others
          ∙ append_assoc (map content c.loop-value.parts.others.items) (others_among (t ∷ [])) (others_among ts)
          ∙ ap (λ (back : List Tree). map content c.loop-value.parts.others.items ++ back) (others_first t ts)
          ∙ ap (λ (vs : List Value). map content c.loop-value.parts.others.items ++ others_among (map content vs)) (sym next)
          ∙ c.loop-value.invariant.others;
      is_whole =
          ap (λ (b : Bool). b && list_all is_told ts) c.in_ok-put.ensures.is_whole
          ∙ and_assoc c.loop-value.parts.is_whole (is_told t) (list_all is_told ts)
          ∙ ap (λ (vs : List Value). c.loop-value.parts.is_whole && list_all is_told (map content vs)) (sym next)
          ∙ c.loop-value.invariant.is_whole;
    }
