use Rattle.std.proofs.Common.{length, ap, sym, ◌∙◌, arith, refl}
use Rattle.nv_lines.specs.inside.Tables.{emptied}
use Rattle.nv_lines.specs.declared.chunk.Chunk.{Chunk}
use Rattle.nv_lines.proofs.TableLemmas.{none_taken, one_taken_at, length-left}
use Rattle.nv_lines.proofs.taking.take_tables.Goals as goal

pub loop-place-init : goal.loop-place-init
loop-place-init c = record {
  taken = none_taken c.args.chunks.now c.args.tables.items c.requires.none;
  many = ap length c.requires.none;
  same = refl;
  room = omega (arith, c.requires.room);
}

pub loop-place-preserved : goal.loop-place-preserved
loop-place-preserved c =
    let at = c.loop-place in
    let taken =
    one_taken_at c.args.chunks.now at.chunks at.tables.items c.push_reserved.new.self.items c.in-Ok.table c.index-chunks-place.result c.take_table.new.chunk at.place
    at.invariant.taken at.invariant.many (omega (arith, at.invariant.same)) c.index-chunks-place.is
    ((rw c.in-Ok.is at c.take_table.ensures.ok) ∙ ap (λ (d : Chunk). emptied d) (sym c.index-chunks-place.is))
    ((rw c.in-Ok.is at c.take_table.ensures.taken) ∙ ap (λ (d : Chunk). d.lines) (sym c.index-chunks-place.is))
    c.push_reserved.ensures.items in
    record {
      taken = taken;
      many = omega (arith, at.invariant.many, c.push_reserved.ensures.len);
      same = omega (arith, length-left c.args.chunks.now _ c.push_reserved.new.self.items taken);
      room = omega (arith, at.invariant.room, c.push_reserved.ensures.len, c.push_reserved.ensures.capacity);
    }
