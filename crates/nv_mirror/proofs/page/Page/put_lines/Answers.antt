use Rattle.std.proofs.Common.{◌≡◌, ◌+◌, ◌++◌, ◌∷◌, ℕ, List, [], drop, ap, sym, ◌∙◌, arith}
use Rattle.std.proofs.lemmas.List.{drop_all}
use Rattle.nv_places.specs.Flat.{flat}
use Rattle.nv_mirror.proofs.Outs.{going_begins, going_on, going_cut, going_ends, first_line}
use Rattle.nv_mirror.proofs.page.Page.put_lines.Goals as goal

pub loop-line-init : goal.loop-line-init
loop-line-init g c = record { going = going_begins c.args.self.now (flat c.args.lines.now) _; later = omega arith }

pub loop-line-preserved : goal.loop-line-preserved
loop-line-preserved g c =
    let lines = c.args.lines.now in
    let i = c.loop-line.line-index in
    let first = first_line lines i c.line-item.result (omega arith) c.line-item.is
    ∙ ap (λ (l : List ℕ). (l ++ 10 ∷ []) ++ flat (drop (i + 1) lines)) (sym c.as_slice.ensures.value) in
    record {
      going = going_on _ _ _ _ _ _ _ _ _ c.loop-line.invariant.going first c.if-not-put_line.ensures.all;
      later = omega (arith, c.loop-line.invariant.later, c.put_line.ensures.later);
    }

pub returns-then-not-put_line-clause-part : goal.returns-then-not-put_line-clause-part
returns-then-not-put_line-clause-part g c =
    let lines = c.args.lines.now in
    let i = c.loop-line.line-index in
    let first = first_line lines i c.line-item.result (omega arith) c.line-item.is
    ∙ ap (λ (l : List ℕ). (l ++ 10 ∷ []) ++ flat (drop (i + 1) lines)) (sym c.as_slice.ensures.value) in
    going_cut _ _ _ _ _ _ _ _ c.loop-line.invariant.going first c.if-not-put_line.ensures.part

pub returns-clause-all : goal.returns-clause-all
returns-clause-all g c =
    going_ends _ _ _ _ _ c.loop-line.invariant.going (ap (λ (l : List (List ℕ)). flat l) (drop_all c.loop-line.line-index c.args.lines.now (omega arith)))
