use Rattle.std.proofs.Common.{rules, ◌≡◌, ◌≤◌, ◌++◌, ℕ, ℤ, List, length, map, drop, ap, sym, ◌∙◌, to_z, of_z, w64}
use Rattle.std.proofs.lemmas.List.{append-nil, drop_all}
use Rattle.nv_marks.specs.declared.extmark.Mark.{Mark}
use Rattle.nv_watch.specs.FollowedMarks.{Followed, follow_mark}
use Rattle.nv_watch.proofs.following.follow_buffer.Goals as goal

pub returns : goal.returns
returns c =
    let same : to_z w64 (of_z w64 c.args.handle) ≡ c.args.handle = search rules in
    let f : List (List ℕ) → Mark → Followed = follow_mark c.args.is_left_out c.args.marks.now (to_z w64 (of_z w64 c.args.handle)) in
    let items : List Mark = c.as_slice-mark-items.result.now in
    let i : ℕ = c.loop-mark.mark-index in
    let past : length items ≤ i = search rules in
    sym (append-nil c.loop-mark.followed.items)
    ∙ sym (ap (λ (l : List Mark). c.loop-mark.followed.items ++ map (f c.text-text.result.now) l) (drop_all i items past))
    ∙ c.loop-mark.invariant
    ∙ ap (λ (l : List Mark). c.args.followed.now.items ++ map (f c.text-text.result.now) l) (c.as_slice-mark-items.ensures.value ∙ c.in_ok-found.ensures)
    ∙ ap (λ (t : List (List ℕ)). c.args.followed.now.items ++ map (f t) c.args.buffer.now.marks.marks) c.text-text.ensures.value
    ∙ ap (λ (n : ℤ). c.args.followed.now.items ++ map (follow_mark c.args.is_left_out c.args.marks.now n c.args.buffer.now.text) c.args.buffer.now.marks.marks) same
