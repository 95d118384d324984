use Rattle.std.proofs.Common.{◌≡◌, ◌<◌, ◌⊎◌, [], sym, ap, ◌∙◌, subst, subst₂, Some}
use Rattle.nv_turn.specs.Story.{HasEachUpTo, entries_by}
use Rattle.nv_turn.proofs.Closing.{closed_value, closed_callers}
use Rattle.nv_turn.proofs.turn.Turn.close.Goals as goal

pub unreachable-requires : goal.unreachable-requires
unreachable-requires g c =
    let all = subst₂ HasEachUpTo (sym (ap (λ z. z.passes) c.self.view_is)) (sym (ap (λ z. z.numbers) c.last.view_is)) c.requires.all in
    let last = c.last.invariant in
    let y = closed_value _ _ _ _ _ _ _ _ _ _ _ c.self.invariant.2 all last.rests last.seated.one_note c.close_with-closed.ensures.values.2 c.take-slot.ensures.value in
    c.in_default.not-Some y.0 y.1

pub returns-clause-seen : goal.returns-clause-seen
returns-clause-seen g c =
    let all = subst₂ HasEachUpTo (sym (ap (λ z. z.passes) c.self.view_is)) (sym (ap (λ z. z.numbers) c.last.view_is)) c.requires.all in
    let last = c.last.invariant in
    let y = closed_value _ _ _ _ _ _ _ _ _ _ _ c.self.invariant.2 all last.rests last.seated.one_note c.close_with-closed.ensures.values.2 c.take-slot.ensures.value in
    let same : y.0 ≡ c.in-Some.value = cc (y.1, c.in-Some.is) in
    subst₂ g.T.Story.stands same (ap (λ z. z.seen) c.last.view_is) y.2

pub returns-clause-start : goal.returns-clause-start
returns-clause-start g c =
    let all = subst₂ HasEachUpTo (sym (ap (λ z. z.passes) c.self.view_is)) (sym (ap (λ z. z.numbers) c.last.view_is)) c.requires.all in
    let last = c.last.invariant in
    let y = closed_value _ _ _ _ _ _ _ _ _ _ _ c.self.invariant.2 all last.rests last.seated.one_note c.close_with-closed.ensures.values.2 c.take-slot.ensures.value in
    let same : y.0 ≡ c.in-Some.value = cc (y.1, c.in-Some.is) in
    sym (ap (λ z. z.start) c.last.view_is) ∙ (y.3 ∙ ap (λ z. Some (g.T.Story.start z)) same)

pub returns-clause-callers : goal.returns-clause-callers
returns-clause-callers g c =
    let all = subst₂ HasEachUpTo (sym (ap (λ z. z.passes) c.self.view_is)) (sym (ap (λ z. z.numbers) c.last.view_is)) c.requires.all in
    λ n other.
    subst (λ seen. entries_by g.T.Story.caller n seen ≡ []) (ap (λ z. z.seen) c.last.view_is)
    (closed_callers _ _ _ _ _ _ _ _ _ _ c.self.invariant.2 all c.last.invariant.seated.one_note c.close_with-closed.ensures.values.2 n (subst (λ most. (n ≡ 0) ⊎ (most < n)) (sym (ap (λ z. z.passes) c.self.view_is)) other))
