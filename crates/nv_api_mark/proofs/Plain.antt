-- Marks that are listed without their details.
use Rattle.std.proofs.Common.{◌≡◌, ◌^◌, ◌<◌, ℤ, List, [], ◌∷◌, length, map, false, lit<, refl, ap, arith}
use Rattle.std.proofs.lemmas.List.{length-map}
use Rattle.nv_value.specs.Content.{Tree, trees_of}
use Rattle.nv_marks.specs.declared.extmark.Mark.{Mark}
use Rattle.nv_msgpack.specs.Shortest.{HasSpelling, HaveSpellings}
use Rattle.nv_model.specs.Stage.{Stage}
use Rattle.nv_rpc.specs.Messages.{items}
use Rattle.nv_rpc.specs.Outcomes.{triple_content}
use Rattle.nv_rpc.specs.declared.outcome.Triple.{Triple}
use Rattle.nv_rpc.proofs.Triples.{count-triples}
use Rattle.nv_api_mark.specs.Listing.{listed_mark}
use Rattle.nv_api_mark.specs.inside.Picking.{listed_triple}

-- what three integers tell is what is listed of the mark
pub plain_told : (stage : Stage) (n : ℤ) (ms : List Mark) → map triple_content (map listed_triple ms) ≡ map (listed_mark stage n false) ms
plain_told stage n [] = refl
plain_told stage n (m ∷ ms) = ap (λ (ts : List Tree). listed_mark stage n false m ∷ ts) (plain_told stage n ms)

have-spellings : (ts : List Triple) → HaveSpellings (trees_of (map triple_content ts))
have-spellings [] = tt
have-spellings (t ∷ ts) = ((lit< tt, (tt, (tt, (tt, tt)))), have-spellings ts)

-- and can be spelled, where the marks are few
pub plain_spelled : (ts : List Triple) (ms : List Mark) → ts ≡ map listed_triple ms → length ms < 2 ^ 32 → HasSpelling (items (map triple_content ts))
plain_spelled ts ms is few = (omega (arith, few, count-triples ts, ap length is, length-map ms listed_triple), have-spellings ts)
