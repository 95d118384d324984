use Rattle.std.proofs.Common.{◌≡◌, ◌+◌, ◌-◌, ◌∷◌, [], ◌++◌, ℕ, List, map, take, drop, ap, ◌∙◌, arith, rules}
use Rattle.std.proofs.lemmas.List.{take_rest}
use Rattle.nv_linegrid.specs.declared.event.Redraw.{Redraw}
use Rattle.nv_value.specs.Content.{Tree}
use Rattle.nv_value.specs.View.{content}
use Rattle.nv_redraw.specs.Values.{entry_tree, events_by_name}
use Rattle.nv_redraw.specs.inside.Naming.{count_named}
use Rattle.nv_redraw.proofs.NamingLemmas.{front_at}
use Rattle.nv_redraw.proofs.SpellingLemmas.{entry_made, value_pushed}
use Rattle.nv_redraw.proofs.values.entries_of.Goals as goal

pub loop-at-preserved : goal.loop-at-preserved
loop-at-preserved c =
    let es = c.args.events.now in
    let at = c.loop-at.at in
    let n = c.count_named.result in
    let name = c.name_of-name.result.now in
    let count : n ≡ count_named name (drop at es) = c.count_named.ensures.count ∙ ap (λ (l : List Redraw). count_named name l) (take_rest es at) in
    let front = front_at es at n c.index-events-at.result name (omega arith) c.index-events-at.is c.name_of-name.ensures count in
    let entry = entry_tree (record { name = name; events = take n (drop at es) }) in
    let span : at + n - at ≡ n = omega arith in
    let pushed : c.push.new.self.items ≡ c.loop-at.entries.items ++ c.in_ok-entry_of.field-0 ∷ [] = search rules in
    let told : content c.in_ok-entry_of.field-0 ≡ entry = c.in_ok-entry_of.ensures ∙ ap (λ (k : ℕ). entry_tree (record { name = name; events = take k (drop at es) })) span in
    let made = value_pushed c.loop-at.entries.items c.push.new.self.items c.in_ok-entry_of.field-0 entry pushed told in
    record {
      within = front.within;
      all = ap (λ (l : List Tree). l ++ map entry_tree (events_by_name (drop (at + n) es))) made ∙ entry_made (map content c.loop-at.entries.items) _ name es at n front c.loop-at.invariant.all;
    }
