use Rattle.std.proofs.Common.{rules, ◌≡◌, ℕ, ℤ, ◌∙◌, ap, Option, option_and_then, slice_get, to_z, of_z, w64}
use Rattle.std.specs.Prelude.{find}
use Rattle.nv_watch.specs.FollowedMarks.{is_of_setting}
use Rattle.nv_watch.proofs.following.known_mark.Goals as goal

pub returns-in-Some : goal.returns-in-Some
returns-in-Some c =
    let m = c.args.mark.now in
    let e : to_z w64 (of_z w64 c.args.buffer) ≡ c.args.buffer = search rules in
    c.mark_there.ensures
    ∙ ap (λ (o : Option ℕ). option_and_then (slice_get c.args.marks.now) o) c.in-Some.ensures.value
    ∙ c.requires (to_z w64 (of_z w64 c.args.buffer)) m.ns m.id m.set
    ∙ ap (λ (n : ℤ). find (is_of_setting n m.ns m.id m.set) c.args.marks.now) e

pub returns-in-None : goal.returns-in-None
returns-in-None c =
    let m = c.args.mark.now in
    let e : to_z w64 (of_z w64 c.args.buffer) ≡ c.args.buffer = search rules in
    ap (λ (o : Option ℕ). option_and_then (slice_get c.args.marks.now) o) c.in-None.ensures.value
    ∙ c.requires (to_z w64 (of_z w64 c.args.buffer)) m.ns m.id m.set
    ∙ ap (λ (n : ℤ). find (is_of_setting n m.ns m.id m.set) c.args.marks.now) e
