use Rattle.std.proofs.Common.{◌≡◌, ℕ, ◌<◌, ◌⊎◌, length, Option, Some, None, option_map, sym, ap, ◌∙◌, subst, refl, arith}
use Rattle.std.specs.Prelude.{IfSome}
use Rattle.std.proofs.lemmas.Slice.Zip.{AllZip-long}
use Rattle.nv_history.specs.Events.{stranger}
use Rattle.nv_history.specs.Sessions.{Session}
use Rattle.nv_history.specs.Worlds.{request_outcome}
use Rattle.nv_core.specs.Outcomes.{IsUnaskedBy, stop_of_unasked}
use Rattle.nv_world.specs.declared.session.Session.{Session as Kept}
use Rattle.nv_world.specs.inside.Sessions.{IsSession}
use Rattle.nv_world.specs.inside.States.{IsStopOf, called_outcome}
use Rattle.nv_world.proofs.Finding.{found, session_absent}
use Rattle.nv_world.proofs.state.request_stop.Goals as goal

pub returns-in-Some-clause-stop : goal.returns-in-Some-clause-stop
returns-in-Some-clause-stop c = λ w call same pairs.
    let f = found c.args.capacity c.args.sessions.now w c.args.session c.in-Some.place c.index-sessions-place.result c.in-Some.ensures.0 c.in-Some.ensures.1 pairs in
    subst (λ (o : Option Session). IsStopOf (option_map (stop_of_unasked c.args.session) c.live_stop.result) (called_outcome w c.args.session call) (request_outcome o w c.args.session call)) (sym f.is_of)
    (c.live_stop.ensures.stop w c.args.session call f.y same (subst (λ (x : Kept). IsSession c.args.capacity x f.y) (sym c.index-sessions-place.is) f.is))

pub returns-in-Some-clause-gone : goal.returns-in-Some-clause-gone
returns-in-Some-clause-gone c = λ w pairs.
    let f = found c.args.capacity c.args.sessions.now w c.args.session c.in-Some.place c.index-sessions-place.result c.in-Some.ensures.0 c.in-Some.ensures.1 pairs in
    subst (λ (o : Option Session). IfSome c.live_stop.result (IsUnaskedBy o)) (sym f.is_of)
    (c.live_stop.ensures.gone f.y (subst (λ (x : Kept). IsSession c.args.capacity x f.y) (sym c.index-sessions-place.is) f.is))

pub returns-in-None-clause-stop : goal.returns-in-None-clause-stop
returns-in-None-clause-stop c = λ w call same pairs.
    let many = AllZip-long (IsSession c.args.capacity) c.args.sessions.now w.sessions pairs in
    let none : (c.args.session ≡ 0) ⊎ (length w.sessions < c.args.session) =
    subst (λ (n : ℕ). (c.args.session ≡ 0) ⊎ (n < c.args.session)) (sym many) c.in-None.ensures in (
      stranger c.args.session,
      refl,
      ap (λ (o : Option Session). request_outcome o w c.args.session call) (session_absent w c.args.session none),
    )
