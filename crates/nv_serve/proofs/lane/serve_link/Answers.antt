use Rattle.std.proofs.Common.{ap, sym, ◌∙◌, arith, ℕ, ◌+◌, option_map}
use Rattle.nv_halves.specs.Passes.{plain_pass}
use Rattle.nv_serve.specs.Links.{LanesWords}
use Rattle.nv_serve.proofs.Chaining.{linked, given_back, returned}
use Rattle.nv_serve.proofs.lane.serve_link.Goals as goal

pub returns-then-is_some : goal.returns-then-is_some
returns-then-is_some g c =
    let t : LanesWords _ _ _ = record { input = g.L.In.Source.words; output = g.L.Out.Sink.words; lane = g.L.Lane.words } in
    let e = c.serve_one-served.ensures in
    let r = c.serve_one-served.result in
    let k = linked t (plain_pass c.args.passes.0) (plain_pass c.args.passes.1) (plain_pass r.passes.0) (plain_pass r.passes.1) (plain_pass c.end_after-first.result.0)
    c.args.input r.input c.args.output r.output r.session r.how c.end_after-first.ensures.looks e.served e.unserved e.read_fault e.write_fault in
    let a = c.ended.ensures.later in
    let b = c.wake.ensures.later in
    returned t c.end_after-first.result.1 c.args.passes.0.start (plain_pass c.args.passes.0) (plain_pass c.args.passes.1) (plain_pass c.end_after-first.result.0) (plain_pass r.passes.1) c.args.lane.now c.wake.new.self
    c.args.input r.input c.args.output r.output r.session r.how k
    (given_back t c.args.passes.0.start (plain_pass c.args.passes.0) (plain_pass c.args.passes.1) (plain_pass c.end_after-first.result.0) (plain_pass r.passes.1) c.args.lane.now c.wake.new.self
    c.args.input r.input c.args.output r.output r.session r.how k (c.wake.ensures.coming ∙ c.ended.ensures.coming) (c.wake.ensures.over ∙ c.ended.ensures.over) (c.ended.ensures.lent ∙ ap (option_map (λ (n : ℕ). n + 1)) (sym c.wake.ensures.lent)) (omega (arith, a, b)))
    c.end_after-first.ensures.last

pub returns : goal.returns
returns g c =
    let t : LanesWords _ _ _ = record { input = g.L.In.Source.words; output = g.L.Out.Sink.words; lane = g.L.Lane.words } in
    let e = c.serve_one-served.ensures in
    let r = c.serve_one-served.result in
    let k = linked t (plain_pass c.args.passes.0) (plain_pass c.args.passes.1) (plain_pass r.passes.0) (plain_pass r.passes.1) (plain_pass c.end_after-first.result.0)
    c.args.input r.input c.args.output r.output r.session r.how c.end_after-first.ensures.looks e.served e.unserved e.read_fault e.write_fault in
    returned t c.end_after-first.result.1 c.args.passes.0.start (plain_pass c.args.passes.0) (plain_pass c.args.passes.1) (plain_pass c.end_after-first.result.0) (plain_pass r.passes.1) c.args.lane.now c.ended.new.self
    c.args.input r.input c.args.output r.output r.session r.how k
    (given_back t c.args.passes.0.start (plain_pass c.args.passes.0) (plain_pass c.args.passes.1) (plain_pass c.end_after-first.result.0) (plain_pass r.passes.1) c.args.lane.now c.ended.new.self
    c.args.input r.input c.args.output r.output r.session r.how k c.ended.ensures.coming c.ended.ensures.over c.ended.ensures.lent c.ended.ensures.later)
    c.end_after-first.ensures.last
