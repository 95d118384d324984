use Rattle.std.proofs.Common.{rules, ◌≡◌, ◌∙◌, ◌<◌, ℕ, ◌+◌, [], ◌∷◌, ◌++◌, length, slice_get, Option, Some, ap, sym, refl, subst}
use Rattle.std.proofs.lemmas.List.{length-append}
use Rattle.std.proofs.lemmas.Option.{slice_get_read}
use Rattle.nv_replay.specs.inside.Endings.{SaysNoFirst}
use Rattle.nv_replay.proofs.Objecting.{says_at, said_more}
use Rattle.nv_replay.proofs.saying.first_no.Goals as goal

pub loop-place-preserved : goal.loop-place-preserved
loop-place-preserved g c =
    let i = c.loop-place.invariant in
    let v = c.verdict_of.result in
    let below : c.loop-place.place < length c.args.watchers.now = search rules in
    let there : slice_get c.args.watchers.now c.loop-place.place ≡ Some c.index-watchers-place.result = slice_get_read _ _ _ _ refl below c.index-watchers-place.is in (
      i.0 ++ v ∷ [],
      length-append i.0 (v ∷ []) ∙ ap (λ (n : ℕ). n + 1) i.1,
      subst (λ (o : Option (ℕ × ℕ)). SaysNoFirst (c.loop-place.place + 1) (i.0 ++ v ∷ []) o) (sym c.sooner-told.ensures) (says_at i.0 c.loop-place.told v c.loop-place.place i.1 i.2),
      said_more _ _ _ i.0 c.index-watchers-place.result v i.3 (ap (λ (j : ℕ). slice_get c.args.watchers.now j) i.1 ∙ there) c.verdict_of.ensures,
    )
