use Rattle.std.proofs.Common.{rules, ◌≡◌, ◌<◌, Bool, Some, IfOk, length, slice_get, refl, sym, ℤ, subst, ◌∙◌, arith}
use Rattle.std.specs.Vec.{vec_len}
use Rattle.std.proofs.lemmas.Option.{slice_get_read}
use Rattle.nv_rpc.specs.MessageView.{sent_of}
use Rattle.nv_watch.proofs.Mirrored.{first_within, fits_at, taken_at, after_at, set_first, set_apart, ok_on}
use Rattle.nv_watch.specs.inside.Sharing.{SharesIf}
use Rattle.nv_watch.proofs.SharedRows.{set_shares, share_at}
use Rattle.nv_watch.proofs.followed.take_at.Goals as goal

pub index_mut-requires : goal.index_mut-requires
index_mut-requires c =
    let below : c.args.place < length c.args.all.now.items = first_within _ _ _ _ c.requires.place in
    let count : vec_len c.args.all.now ≡ length c.args.all.now.items = search rules in
    omega (arith, below, count)

pub returns-clause-fits : goal.returns-clause-fits
returns-clause-fits c =
    let below : c.args.place < length c.args.all.now.items = first_within _ _ _ _ c.requires.place in
    let there : slice_get c.args.all.now.items c.args.place ≡ Some c.index_mut.result.now = slice_get_read _ _ _ _ refl below (search rules) in
    subst (λ (b : Bool). IfOk c.take_one.result (λ fits. fits ≡ b))
    (fits_at c.args.all.now.items c.args.owner.session c.args.owner.buffer c.args.place c.index_mut.result.now (sent_of c.args.message.now)
    c.requires.place there c.index_mut.result.now.about c.requires.about)
    c.take_one.ensures.fits

pub returns-clause-after : goal.returns-clause-after
returns-clause-after c =
    let below : c.args.place < length c.args.all.now.items = first_within _ _ _ _ c.requires.place in
    let there : slice_get c.args.all.now.items c.args.place ≡ Some c.index_mut.result.now = slice_get_read _ _ _ _ refl below (search rules) in
    ok_on c.take_one.result (λ ok. λ t m.
    set_first c.args.all.now.items c.args.owner.session c.args.owner.buffer c.args.place c.index_mut.result.now _ c.requires.place there c.take_one.ensures.session c.take_one.ensures.buffer t m
    ∙ after_at c.args.all.now.items c.args.owner.session c.args.owner.buffer (sent_of c.args.message.now) c.take_one.new.followed.follower.mirror c.requires.about
    (taken_at c.args.all.now.items c.args.owner.session c.args.owner.buffer c.args.place c.index_mut.result.now (sent_of c.args.message.now)
    c.take_one.new.followed.follower.mirror c.requires.place there c.index_mut.result.now.about ok) t m) c.take_one.ensures.mirror

pub returns-clause-apart : goal.returns-clause-apart
returns-clause-apart c =
    let below : c.args.place < length c.args.all.now.items = first_within _ _ _ _ c.requires.place in
    let there : slice_get c.args.all.now.items c.args.place ≡ Some c.index_mut.result.now = slice_get_read _ _ _ _ refl below (search rules) in
    ok_on c.take_one.result (λ ok. λ apart. set_apart c.args.all.now.items c.args.place c.index_mut.result.now _ there c.take_one.ensures.session c.take_one.ensures.buffer apart) c.take_one.ensures.mirror

pub returns-clause-shares : goal.returns-clause-shares
returns-clause-shares c =
    let below : c.args.place < length c.args.all.now.items = first_within _ _ _ _ c.requires.place in
    let there : slice_get c.args.all.now.items c.args.place ≡ Some c.index_mut.result.now = slice_get_read _ _ _ _ refl below (search rules) in
    ok_on c.take_one.result (λ ok. λ texts h.
    set_shares texts c.args.all.now.items c.args.place c.index_mut.result.now c.take_one.new.followed there
    (subst (λ (n : ℤ). SharesIf c.take_one.new.followed (texts n)) (sym c.take_one.ensures.buffer)
    (ok (texts c.index_mut.result.now.buffer) (share_at texts c.args.all.now.items c.args.place c.index_mut.result.now there h))) h) c.take_one.ensures.shares
