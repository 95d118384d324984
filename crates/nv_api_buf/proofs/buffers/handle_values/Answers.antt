use Rattle.std.proofs.Common.{◌≡◌, List, [], ◌∷◌, ◌++◌, map, ap, sym, subst, ◌∙◌, rules}
use Rattle.std.proofs.lemmas.List.{map-append}
use Rattle.nv_value.specs.Content.{Tree, trees_of}
use Rattle.nv_value.specs.View.{content}
use Rattle.nv_msgpack.specs.Shortest.{HaveSpellings}
use Rattle.nv_rpc.specs.Messages.{buffer_handle}
use Rattle.nv_api_buf.proofs.Others.{one_more}
use Rattle.nv_args.proofs.Spelled.{spelled-more}
use Rattle.nv_api_buf.proofs.buffers.handle_values.Goals as goal

pub loop-handle-preserved : goal.loop-handle-preserved
loop-handle-preserved c =
    let items = c.loop-handle.items.items in
    let value = c.in_ok-handle_value.field-0 in
    let grown : map content c.push.new.self.items ≡ map content items ++ content value ∷ [] =
    ap (map content) c.in_ok-push.ensures.items ∙ map-append content items (value ∷ []) in
    let left : c.loop-handle.handle-iterator ≡ c.in-Some.handle.now ∷ c.next.new.self = search rules in
    let made : content value ≡ buffer_handle c.in-Some.handle.now = search (rules, c.in_ok-handle_value.ensures.value) in
    record {
      same = one_more buffer_handle _ _ _ _ _ _ _ left made grown c.loop-handle.invariant.same;
      spelled =
          subst (λ (ts : List Tree). HaveSpellings (trees_of ts)) (sym grown)
          (spelled-more (map content items) (content value) c.loop-handle.invariant.spelled c.in_ok-handle_value.ensures.spelled);
    }
