use Rattle.std.proofs.Common.{◌≡◌, ◌∷◌, [], ◌++◌, length, length-append, length-set, ap, sym, ◌∙◌, arith, rules}
use Rattle.nv_lines.specs.inside.Tables.{refilled}
use Rattle.nv_lines.specs.declared.chunk.Chunk.{Chunk}
use Rattle.nv_lines.proofs.TableLemmas.{one_back_at, all_back}
use Rattle.nv_lines.proofs.taking.put_back.Goals as goal

pub putting-preserved : goal.putting-preserved
putting-preserved c =
    let parts : c.putting.tables.items ≡ c.pop.new.self.items ++ c.in-Some.table ∷ [] = search rules in
    record {
      within = omega (
        arith,
        ap length parts,
        length-append c.pop.new.self.items (c.in-Some.table ∷ []),
        length-set c.putting.chunks c.len-place.result c.refill.new.chunk,
        c.putting.invariant.within,
      );
      left = λ all taken.
          one_back_at all c.putting.chunks c.putting.tables.items c.pop.new.self.items c.in-Some.table c.index-chunks-place.result c.refill.new.chunk c.len-place.result
          (c.putting.invariant.left all taken) parts (omega arith) c.index-chunks-place.is
          (c.refill.ensures ∙ ap (λ (d : Chunk). refilled c.in-Some.table d) (sym c.index-chunks-place.is));
    }

pub returns : goal.returns
returns c = λ all taken.
    all_back all c.putting.chunks c.putting.tables.items (c.putting.invariant.left all taken) (search rules)
