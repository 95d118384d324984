use Rattle.std.proofs.Common.{◌≡◌, ◌+◌, ◌++◌, ◌∙◌, ◌∷◌, None, [], drop, get_or, length, map, replicate, ap, sym, arith, append-nil, rules, refl, subst}
use Rattle.std.proofs.lemmas.List.{drop_all, length-replicate}
use Rattle.nv_linedraw.proofs.LayLemmas.{drop_at}
use Rattle.nv_notes.specs.Notes.{IsNoteOf}
use Rattle.nv_virt.specs.Texts.{strip_of, strips_from, laid_text}
use Rattle.nv_virt.specs.declared.laying.VirtText.{VirtText}
use Rattle.nv_virt.specs.inside.Capped.{AreTops}
use Rattle.nv_virt.proofs.LayLemmas.{none_capped}
use Rattle.nv_virt.proofs.laying.push_texts.Goals as goal

pub push_text-requires-clause-tops : goal.push_text-requires-clause-tops
push_text-requires-clause-tops c = subst (AreTops c.args.pane.now) (sym c.as_slice-starts.ensures.value) c.in_ok-tops.ensures

pub push_text-requires-clause-ends : goal.push_text-requires-clause-ends
push_text-requires-clause-ends c = c.loop-text.invariant.2

pub push_text-requires-clause-groups : goal.push_text-requires-clause-groups
push_text-requires-clause-groups c =
    subst (λ (t : VirtText). IsNoteOf c.args.groups.now t.note.now) (sym c.text-item.is)
    (c.requires.groups c.loop-text.text-index c.text-item.result (omega (arith, c.loop-text-test.true)))

pub loop-text-init : goal.loop-text-init
loop-text-init c =
    let p = c.args.pane.now in
    let n = length p.lines.items in
    let ends : c.in_ok-ends.ends.items ≡ replicate n None = search rules in (
      replicate n None,
      none_capped p n c.in_ok-ends.ends.items ends,
      ap length ends ∙ length-replicate n None,
      refl,
    )

pub loop-text-preserved : goal.loop-text-preserved
loop-text-preserved c =
    let p = c.args.pane.now in
    let groups = c.args.groups.now in
    let at = c.loop-text.invariant in
    let ts = c.args.texts.now in
    let k = c.loop-text.text-index in
    let t = c.text-item.result in
    let here : drop k ts ≡ t ∷ drop (k + 1) ts =
    drop_at ts k t (omega (arith, c.loop-text-test.true)) ∙ ap (λ (s : VirtText). s ∷ drop (k + 1) ts) (sym c.text-item.is) in
    let later = c.in_ok-push_text.ensures.laid at.0 (λ ends. strips_from p ends (map (laid_text groups) (drop (k + 1) ts))) at.1 in (
      later.0,
      later.1,
      c.in_ok-push_text.ensures.count ∙ at.2,
      later.2
          ∙ ap (λ us. map strip_of c.loop-text.into.items ++ strips_from p at.0 (map (laid_text groups) us)) (sym here)
          ∙ at.3,
    )

pub returns : goal.returns
returns c =
    let at = c.loop-text.invariant in
    let p = c.args.pane.now in
    let k = c.loop-text.text-index in
    let none : drop k c.args.texts.now ≡ [] = drop_all k c.args.texts.now (omega (arith, c.loop-text-test.false)) in
    sym (append-nil (map strip_of c.loop-text.into.items))
    ∙ ap (λ us. map strip_of c.loop-text.into.items ++ strips_from p at.0 (map (laid_text c.args.groups.now) us)) (sym none)
    ∙ at.3
