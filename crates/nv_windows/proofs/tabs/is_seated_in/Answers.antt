use Rattle.std.proofs.Common.{rules, ◌≡◌, ◌∙◌, ap, w64}
use Rattle.std.specs.Ordering.{int_eq}
use lib.Dec.{eqb}
use mir.Val.{of_z}
use Rattle.std.proofs.lemmas.Int.{to_z-of_z}
use Rattle.nv_windows.specs.Operations.{is_in}
use Rattle.nv_windows.proofs.Seating.{is_in_pages, is_in_home}
use Rattle.nv_windows.proofs.tabs.is_seated_in.Goals as goal

pub returns-in-Some : goal.returns-in-Some
returns-in-Some c =
    let equal : eqb (of_z w64 c.in-Some.spot.tabpage) (of_z w64 c.args.handle) ≡ int_eq c.in-Some.spot.tabpage c.args.handle = search rules in
    λ ws seated same.
    equal
    ∙ is_in_home ws c.args.handle _ c.spot.result c.in-Some.spot seated.sound c.in-Some.is (c.spot.ensures ws seated.seats)
    ∙ ap (is_in ws.tabpages c.args.handle) (to_z-of_z w64 c.args.window c.ranges.window)

pub returns-in-None : goal.returns-in-None
returns-in-None c =
    λ ws seated same.
    c.is_in.ensures ∙ is_in_pages c.args.tabpages.now ws.tabpages _ _ same
    ∙ (λ i. is_in ws.tabpages (to_z-of_z w64 c.args.handle c.ranges.handle i) (to_z-of_z w64 c.args.window c.ranges.window i))
