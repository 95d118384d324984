use Rattle.std.proofs.Common.{ℕ, IfSome, Option, refl, subst, sym}
use Rattle.nv_painter.specs.inside.Due.{ShowsBut}
use Rattle.nv_painter.proofs.DueLemmas.{all_may_differ}
use Rattle.nv_painter.proofs.ids.due_within.Goals as goal

pub returns-in-Some : goal.returns-in-Some
returns-in-Some c attrs cells row count long known =
    (refl, subst (λ (o : Option (ℕ × ℕ)). IfSome o (λ d. ShowsBut attrs cells row d.0 d.1)) c.in-Some.is known)

pub returns-in-None : goal.returns-in-None
returns-in-None c attrs cells row count long known =
    (refl, subst (λ n. ShowsBut attrs cells row 0 n) (sym count) (all_may_differ attrs cells row long))
