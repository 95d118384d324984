use Rattle.std.proofs.Common.{◌≡◌, ℤ, subst, ◌∙◌, rules, to_z, of_z, w64}
use Rattle.std.specs.List.{concat}
use Rattle.nv_mirror.specs.Ends.{FollowsTo, IsReadToEnd, ListsAtOnce, ServerTook}
use Rattle.nv_run.proofs.mirroring.follow.Goals as goal

pub returns-clause-leaves : goal.returns-clause-leaves
returns-clause-leaves g c =
    let opened = c.in-Some in
    let call = c.follow-followed in
    let told = call.ensures.follows in
    let handle = c.handle_of-handle.result in
    let same : to_z w64 (of_z w64 handle) ≡ handle = search rules in
    let number = same ∙ c.handle_of-handle.ensures.value in (
      (call.new.input, call.new.server),
      search rules,
      record {
        given = (opened.input, opened.server);
        unused = search rules;
        pieces = told.0;
        listed = told.1;
        gave = told.2;
        wrote = search rules;
        ends =
            subst (λ (n : ℤ). FollowsTo (IsReadToEnd (g.D.In.Source.words call.new.input).left (concat told.0)) n call.result (concat told.0) told.1)
            number told.4;
        at_once = subst (λ (n : ℤ). ListsAtOnce n told.0 told.1) number told.5;
        asks =
            subst (λ (n : ℤ). ServerTook n call.result (g.D.Out.Sink.words opened.server).taken (g.D.Out.Sink.words call.new.server).taken)
            number call.ensures.asks;
        read = call.ensures.read;
        ask = call.ensures.ask;
      },
    )
