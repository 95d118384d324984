use Rattle.std.proofs.Common.{◌≡◌, ℤ, List, ℕ, [], take, refl, sym, ap, subst, ◌∙◌, inl, rules, w64, to_z, of_z}
use Rattle.std.specs.Io.KnownBytes.{append_known}
use Rattle.std.specs.List.{concat}
use Rattle.nv_io.proofs.StreamLemmas.{each_none}
use Rattle.nv_mirror.specs.Asking.{request_bytes}
use Rattle.nv_mirror.specs.Ends.{FollowsTo, IsReadToEnd, ListsAtOnce}
use Rattle.nv_mirror.specs.inside.Steps.{IsFreshClient, Standing}
use Rattle.nv_mirror.proofs.Outs.{known_none}
use Rattle.nv_mirror.proofs.Requests.{took_request, took_nothing}
use Rattle.nv_mirror.proofs.Standings.{nothing_listed}
use Rattle.nv_mirror.proofs.following.follow.Goals as goal

pub returns-in_default-clause-follows : goal.returns-in_default-clause-follows
returns-in_default-clause-follows g c = ([], [], each_none _, known_none _, nothing_listed c.args.buffer, inl refl)

pub returns-in_default-clause-asks : goal.returns-in_default-clause-asks
returns-in_default-clause-asks g c = took_nothing c.args.buffer _

pub returns-then-not-put_all-clause-follows : goal.returns-then-not-put_all-clause-follows
returns-then-not-put_all-clause-follows g c = ([], [], each_none _, known_none _, (refl, refl), inl refl)

pub returns-then-not-put_all-clause-asks : goal.returns-then-not-put_all-clause-asks
returns-then-not-put_all-clause-asks g c =
    let e : to_z w64 (of_z w64 c.args.buffer) ≡ c.args.buffer = search rules in
    let p = c.if-not-put_all.ensures.prefix in
    (p.0, p.2 ∙ ap (λ (l : List ℕ). append_known (g.S.Sink.words c.args.server.now).taken (take p.0 l)) (c.as_slice.ensures.value ∙ c.in-Ok.ensures.request ∙ ap request_bytes e))

pub run-requires-clause-fresh : goal.run-requires-clause-fresh
run-requires-clause-fresh g c =
    let fresh = c.in-Ok.ensures.client in
    subst (λ (b : ℤ). IsFreshClient b c.in-Ok.client) (sym (ap (λ (s : Standing). s.known.buffer) fresh.standing)) fresh

pub returns-clause-asks : goal.returns-clause-asks
returns-clause-asks g c =
    let e : to_z w64 (of_z w64 c.args.buffer) ≡ c.args.buffer = search rules in
    let all = c.if-not-put_all.ensures.all ∙ ap (λ (l : List ℕ). append_known (g.S.Sink.words c.args.server.now).taken l) (c.as_slice.ensures.value ∙ c.in-Ok.ensures.request ∙ ap request_bytes e) in
    took_request c.run.result c.args.buffer (g.S.Sink.words c.args.server.now).taken (g.S.Sink.words c.put_all.new.sink).taken all

pub returns-clause-follows : goal.returns-clause-follows
returns-clause-follows g c =
    let z : to_z w64 (of_z w64 c.args.buffer) ≡ c.args.buffer = search rules in
    let e = ap (λ (s : Standing). s.known.buffer) c.in-Ok.ensures.client.standing ∙ z in
    let f = c.run.ensures.follows in (
      f.0,
      f.1,
      f.2,
      f.3,
      subst (λ (b : ℤ). FollowsTo (IsReadToEnd (g.I.Source.words c.run.new.input).left (concat f.0)) b c.run.result (concat f.0) f.1) e f.4,
      subst (λ (b : ℤ). ListsAtOnce b f.0 f.1) e f.5,
    )
