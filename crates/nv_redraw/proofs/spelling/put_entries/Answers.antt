use Rattle.std.proofs.Common.{◌≡◌, ◌+◌, ◌-◌, ◌++◌, ℕ, List, take, drop, ap, ◌∙◌, arith}
use Rattle.std.proofs.lemmas.List.{take_rest}
use Rattle.nv_linegrid.specs.declared.event.Redraw.{Redraw}
use Rattle.nv_msgpack.specs.Shortest.{shortest}
use Rattle.nv_redraw.specs.Values.{entry_tree}
use Rattle.nv_redraw.specs.inside.Naming.{count_named}
use Rattle.nv_redraw.proofs.NamingLemmas.{front_at}
use Rattle.nv_redraw.proofs.SpellingLemmas.{begins_more, entry_written}
use Rattle.nv_redraw.proofs.spelling.put_entries.Goals as goal

pub loop-at-preserved : goal.loop-at-preserved
loop-at-preserved c =
    let es = c.args.events.now in
    let at = c.loop-at.at in
    let n = c.count_named.result in
    let name = c.name_of-name.result.now in
    let count : n ≡ count_named name (drop at es) = c.count_named.ensures.count ∙ ap (λ (l : List Redraw). count_named name l) (take_rest es at) in
    let front = front_at es at n c.index-events-at.result name (omega arith) c.index-events-at.is c.name_of-name.ensures count in
    let span : at + n - at ≡ n = omega arith in
    let put = c.in_ok-put_entry.ensures.ok ∙ ap (λ (k : ℕ). c.loop-at.into.items ++ shortest (entry_tree (record { name = name; events = take k (drop at es) }))) span in
    record {
      within = front.within;
      kept = begins_more c.args.into.now.items c.loop-at.into.items c.put_entry.new.into.items _ c.loop-at.invariant.kept put;
      all = entry_written c.loop-at.into.items c.put_entry.new.into.items _ name es at n front c.loop-at.invariant.all put;
    }
