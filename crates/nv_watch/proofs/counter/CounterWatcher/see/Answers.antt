use Rattle.std.proofs.Common.{rules, ◌≡◌, ℕ, List, [], ◌∷◌, ◌++◌, slice_get, ap, sym, ◌∙◌, subst}
use Rattle.nv_core.specs.Contents.{plain_entries}
use Rattle.nv_core.specs.declared.entry.Entry.{Entry}
use Rattle.nv_watch.specs.Verdicts.{sight}
use Rattle.nv_watch.specs.declared.verdict.Verdict.{Verdict}
use Rattle.nv_watch.specs.SentParts.{is_whole_sent, messages_sent}
use Rattle.nv_watch.specs.Counting.{replies_among, requests_of_entry}
use Rattle.nv_watch.specs.inside.Counts.{HasCountedIn, one_for, number_kept}
use Rattle.nv_watch.proofs.Counted.{counted_more}
use Rattle.nv_watch.proofs.counter.CounterWatcher.see.Goals as goal

pub returns-clause-seen : goal.returns-clause-seen
returns-clause-seen c = λ seen old.
    let step = c.args.step.now in
    let more_is : c.count_replies-replies.result ≡ replies_among (messages_sent step.sent) = search rules in
    let entries_is : c.entries.result.now ≡ c.args.world.now.history = search rules in
    let asks_is : (s : ℕ) → requests_of_entry s (slice_get (plain_entries c.args.world.now.history) step.at) ≡ one_for c.requester-asks.result s =
    λ s. ap (λ (es : List Entry). requests_of_entry s (slice_get (plain_entries es) step.at)) (sym entries_is) ∙ c.requester-asks.ensures s in
    let made_is : c.number-made.result ≡ number_kept c.count_request.new.requests.items step.session = search rules in
    let taken_is : c.number-taken.result ≡ number_kept c.add.new.numbers.items step.session = search rules in
    let whole_is : c.in_ok-parts.parts.is_whole ≡ is_whole_sent step.sent = search rules in
    subst (λ (v : Verdict). HasCountedIn c.add.new.numbers.items c.count_request.new.requests.items v (seen ++ sight c.args.world.now step ∷ []))
    (sym c.with-self.ensures)
    (counted_more _ _ _ _ _ seen (sight c.args.world.now step) _ _ _ _ _ _ more_is asks_is c.in_ok-add.ensures c.in_ok-count_request.ensures
    made_is taken_is whole_is c.is_broken-broken.ensures old)
