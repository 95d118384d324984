use Rattle.std.proofs.Common.{◌≡◌, ℕ, ◌<◌, ◌⊎◌, List, length, sym, subst}
use Rattle.std.specs.List.{AllZip}
use Rattle.std.proofs.lemmas.Slice.Zip.{AllZip-long}
use Rattle.nv_history.specs.Sessions.{Session}
use Rattle.nv_world.specs.inside.Sessions.{IsSession}
use Rattle.nv_world.proofs.Rounds.{put_in_place, nobody_updated}
use Rattle.nv_world.proofs.telling.put_at.Goals as goal

pub returns-in-Some : goal.returns-in-Some
returns-in-Some c = λ capacity ys following pairs.
    put_in_place capacity _ _ ys c.args.session c.in-Some.place _ _ c.in-Some.ensures.0 pairs
    (λ y is. c.put.ensures capacity y following is)

pub returns-in-None : goal.returns-in-None
returns-in-None c = λ capacity ys following pairs.
    let many = AllZip-long (IsSession capacity) c.args.sessions.now ys pairs in
    let none : (c.args.session ≡ 0) ⊎ (length ys < c.args.session) =
    subst (λ (n : ℕ). (c.args.session ≡ 0) ⊎ (n < c.args.session)) (sym many) c.in-None.ensures in
    subst (λ (l : List Session). AllZip (IsSession capacity) c.args.sessions.now l) (sym (nobody_updated _ c.args.session ys none)) pairs
