use Rattle.nv_linedraw.proofs.SpanLemmas.{alike_joined}
use Rattle.nv_linedraw.proofs.spans.push_whole.Goals as goal

pub returns : goal.returns
returns c =
    let under = c.in-Some.under in
    let holds = c.holds_stretch.ensures c.if-not-holds_stretch.false in
    alike_joined c.args.stretch c.push-2.new.self.items c.args.spans.now.items c.pop.new.self.items under c.args.span.now
    (record under { attr = c.combine-attr.result }) holds c.requires holds c.combine-attr.ensures c.in-Some.ensures.items c.in_ok-push-4.ensures.items
