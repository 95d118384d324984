use Rattle.std.proofs.Common.{rules, ◌≡◌, ℕ, ◌<◌, ◌∙◌, true, w64, arith, length}
use Rattle.std.specs.Prelude.{nat_lt}
use Rattle.std.proofs.lemmas.Int.{to_z-of_z}
use mir.Val.{SFits}
use Rattle.std.proofs.lemmas.Bool.Decides.{nat_tests}
use Rattle.nv_windows.proofs.PageOrder.{handle_there}
use Rattle.nv_windows.proofs.tabs.handle_at.Goals as goal

less : (m n : ℕ) → true ≡ nat_lt m n → m < n
less m n e = grind (arith, nat_tests)

pub returns-in-Some : goal.returns-in-Some
returns-in-Some c =
    let fits : SFits w64 c.in-Some.tabpage.now.handle = search rules in
    to_z-of_z w64 c.in-Some.tabpage.now.handle fits
    ∙ handle_there c.args.tabpages.now c.args.place c.min.result c.in-Some.tabpage.now (search rules)
    (less (c.min.result) (length c.args.tabpages.now) c.in-Some.ensures.lookup.0) c.in-Some.ensures.lookup.1
