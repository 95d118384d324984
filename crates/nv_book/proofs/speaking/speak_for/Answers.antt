use Rattle.std.proofs.Common.{◌≡◌, ℕ, List, [], ◌++◌, map, slice_set, ap, ◌∙◌, refl}
use Rattle.nv_painter.specs.Painters.{Painting}
use Rattle.nv_core.specs.Contents.{sent_of_shared}
use Rattle.nv_book.specs.inside.Playing.{bytes_of_given}
use Rattle.nv_book.proofs.Results.{on_ok_both}
use Rattle.nv_book.proofs.Voices.{spoke, told_get}
use Rattle.nv_book.proofs.speaking.speak_for.Goals as goal

pub returns : goal.returns
returns c =
    let qs = c.grow.new.painters.items in
    let s = c.args.session in
    let p = c.index_mut.result.now in
    let messages = map sent_of_shared c.args.batch.messages.items in
    let at = ap (λ (x : Painting). x.told) c.index_mut.ensures.value ∙ told_get qs s p c.in_ok-grow.ensures.long in
    on_ok_both c.speak_batch.result _ _ _
    (λ b a. spoke c.args.painters.now.items qs (slice_set qs s c.speak_batch.new.painter) s p c.speak_batch.new.painter messages c.args.batch.scene c.speak_batch.new.into.items
    c.in_ok-grow.ensures.same c.in_ok-grow.ensures.long at
    (b ∙ ap (λ (l : List ℕ). l ++ bytes_of_given p.told messages c.args.batch.scene) c.requires.empty) a refl)
    c.speak_batch.ensures.bytes c.speak_batch.ensures.told
