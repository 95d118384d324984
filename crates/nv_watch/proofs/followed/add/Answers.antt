use Rattle.std.proofs.Common.{rules, ◌≡◌, ℕ, List, [], ◌∷◌, ◌++◌, length, ap, sym, subst, ◌∙◌}
use Rattle.nv_watch.specs.declared.mirror.Followed.{Followed}
use Rattle.nv_watch.specs.inside.Mirroring.{AreNotTwice, IsFirstOf, mirror_in}
use Rattle.nv_watch.proofs.Mirrored.{put_first, put_same, put_apart, is_with, none_with}
use Rattle.nv_watch.specs.inside.Sharing.{AllShare}
use Rattle.nv_watch.proofs.SharedRows.{put_shares}
use Rattle.nv_watch.proofs.followed.add.Goals as goal

pub returns-clause-place : goal.returns-clause-place
returns-clause-place c =
    let s = c.args.owner.session in
    let n = c.args.owner.buffer in
    let count : c.len-place.result ≡ length c.args.all.now.items = search rules in
    subst (λ (l : List Followed). IsFirstOf l s n c.len-place.result) (sym c.in_ok-push.ensures.items)
    (subst (λ (p : ℕ). IsFirstOf (c.args.all.now.items ++ c.fresh.result ∷ []) s n p) (sym count)
    (put_first c.args.all.now.items s n c.fresh.result c.requires (is_with c.fresh.result s n c.fresh.ensures.session c.fresh.ensures.buffer)))

pub returns-clause-same : goal.returns-clause-same
returns-clause-same c = λ s n.
    ap (λ (l : List Followed). mirror_in l s n) c.in_ok-push.ensures.items ∙ put_same c.args.all.now.items c.fresh.result s n c.fresh.ensures.mirror

pub returns-clause-apart : goal.returns-clause-apart
returns-clause-apart c = λ apart.
    subst AreNotTwice (sym c.in_ok-push.ensures.items)
    (put_apart c.args.all.now.items c.fresh.result (none_with _ c.fresh.result _ _ c.fresh.ensures.session c.fresh.ensures.buffer c.requires) apart)

pub returns-clause-shares : goal.returns-clause-shares
returns-clause-shares c = λ texts h.
    subst (λ (l : List Followed). AllShare texts l) (sym c.in_ok-push.ensures.items) (put_shares texts c.args.all.now.items c.fresh.result c.fresh.ensures.ends h)
