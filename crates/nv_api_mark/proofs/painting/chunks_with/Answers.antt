use Rattle.std.proofs.Common.{◌≡◌, ◌<◌, ◌++◌, List, ap, arith, length, map}
use Rattle.nv_notes.specs.declared.note.Chunk.{Chunk}
use Rattle.nv_api_mark.specs.Setting.{chunk_with}
use Rattle.nv_api_mark.proofs.Parts.{line_here, lines_later, part_put, parts_from, parts_put}
use Rattle.nv_api_mark.proofs.painting.chunks_with.Goals as goal

pub loop-item-init : goal.loop-item-init
loop-item-init c = record {
  put = ap (λ (cs : List Chunk). cs ++ map (chunk_with c.args.groups.now) (parts_from c.args.items.now 0)) c.in_ok-chunks.ensures.items;
  lines = c.requires;
}

pub push_chunk-requires : goal.push_chunk-requires
push_chunk-requires c =
    line_here c.args.items.now c.loop-item.item-index c.item-item.result (omega (arith, c.loop-item-test.true)) c.item-item.is c.loop-item.invariant.lines

pub loop-item-preserved : goal.loop-item-preserved
loop-item-preserved c =
    let gs = c.args.groups.now in
    let vs = c.args.items.now in
    let k = c.loop-item.item-index in
    let lt : k < length vs = omega (arith, c.loop-item-test.true) in record {
      put = part_put gs vs k c.item-item.result c.loop-item.chunks.items c.push_chunk.new.chunks.items _ lt c.item-item.is c.in_ok-push_chunk.ensures
          c.loop-item.invariant.put;
      lines = lines_later vs k c.item-item.result lt c.item-item.is c.loop-item.invariant.lines;
    }

pub returns : goal.returns
returns c =
    parts_put c.args.groups.now c.args.items.now c.loop-item.item-index c.loop-item.chunks.items _ (omega (arith, c.loop-item-test.false))
    c.loop-item.invariant.put
