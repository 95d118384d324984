use Rattle.std.proofs.Common.{◌≡◌, ◌+◌, ◌++◌, ◌∷◌, ◌∙◌, [], ap, length, length-append, rules}
use Rattle.nv_painter.specs.inside.Lent.{lent_rows, placed_rows}
use Rattle.nv_painter.proofs.LastLemmas.{like_more}
use Rattle.nv_painter.proofs.sketch.places_of_rows.Goals as goal

pub loop-k-preserved : goal.loop-k-preserved
loop-k-preserved c =
    let at = c.loop-k in
    let places = c.places_at-places.result in
    let put : c.push.new.self.items ≡ at.known.items ++ places ∷ [] = search rules in
    record {
      count = ap length put ∙ length-append at.known.items (places ∷ []) ∙ ap (λ n. n + 1) at.invariant.count;
      like = like_more at.known.items c.push.new.self.items places (placed_rows c.args.before.now) (lent_rows c.args.drawn.now) at.k at.invariant.count put
          c.places_at-places.ensures at.invariant.like;
    }
