use Rattle.std.proofs.Common.{◌≡◌, List, [], ◌∷◌, ◌++◌, ap, ◌∙◌}
use Rattle.nv_painter.specs.Painters.{Painting, first_painting}
use Rattle.nv_book.specs.inside.Playing.{told_at}
use Rattle.nv_book.proofs.Voices.{told_push}
use Rattle.nv_book.proofs.speaking.grow.Goals as goal

pub loop-alloc-preserved : goal.loop-alloc-preserved
loop-alloc-preserved c = λ s.
    ap (λ (l : List Painting). told_at l s) c.in_ok-push.ensures.items
    ∙ ap (λ (p : Painting). told_at (c.loop-alloc.painters.items ++ p ∷ []) s) c.in_ok-new.ensures
    ∙ told_push c.loop-alloc.painters.items s
    ∙ c.loop-alloc.invariant s
