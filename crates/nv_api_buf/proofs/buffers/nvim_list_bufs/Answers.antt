use Rattle.std.proofs.Common.{◌≡◌, List, length, ap, sym, subst, ◌∙◌, arith}
use Rattle.nv_value.specs.Content.{Tree}
use Rattle.nv_value.specs.View.{content}
use Rattle.nv_value.proofs.Contents.{content-List, count-contents}
use Rattle.nv_msgpack.specs.Shortest.{HasSpelling}
use Rattle.nv_rpc.specs.Messages.{buffer_handle}
use Rattle.nv_model.specs.Answering.{array_of, reply_of}
use Rattle.nv_api_buf.proofs.Others.{as_many}
use Rattle.nv_api_buf.proofs.buffers.nvim_list_bufs.Goals as goal

pub returns-clause-row : goal.returns-clause-row
returns-clause-row c session =
    ap (λ (ts : List Tree). reply_of (array_of ts)) (sym c.in_ok-items.ensures.values)
    ∙ ap reply_of (sym (content-List c.in_ok-items.items))

pub returns-clause-spelled : goal.returns-clause-spelled
returns-clause-spelled c =
    let few : length c.in_ok-items.items.items ≡ length c.args.editor.now.buffers =
    as_many content buffer_handle c.in_ok-items.items.items c.args.editor.now.buffers c.in_ok-items.ensures.values in
    subst HasSpelling (sym (content-List c.in_ok-items.items))
    (omega (arith, c.buffer_count.ensures, few, count-contents c.in_ok-items.items.items), c.in_ok-items.ensures.spelled)
