use Rattle.std.proofs.lemmas.Result.{IfOk-weaker}
use Rattle.nv_msgpack.specs.Decoded.{decoded_seen, HasSpellingIfWhole, IsRight, ReadsEach, AsksForMore}
use Rattle.nv_msgpack.specs.Reading.{value_at}
use Rattle.std.proofs.Common.{◌≡◌, arith}
use Rattle.nv_msgpack.proofs.Answering.{is_right, reads_each, asks_for_more}
use Rattle.nv_msgpack.proofs.Again.{has_spelling}
use Rattle.nv_msgpack.proofs.reader.decode.Goals as goal

pub returns-clause-right : goal.returns-clause-right
returns-clause-right c =
    IfOk-weaker c.read.result (λ answer. decoded_seen answer ≡ value_at c.args.bounds.depth c.args.bounds.bytes c.args.bytes.now) (IsRight c.args.bounds.depth c.args.bounds.bytes c.args.bytes.now)
    (λ answer e. is_right c.args.bounds.depth c.args.bounds.bytes c.args.bytes.now answer c.requires e) c.read.ensures

pub returns-clause-reads_each : goal.returns-clause-reads_each
returns-clause-reads_each c =
    IfOk-weaker c.read.result (λ answer. decoded_seen answer ≡ value_at c.args.bounds.depth c.args.bounds.bytes c.args.bytes.now) (ReadsEach c.args.bounds.depth c.args.bounds.bytes c.args.bytes.now)
    (λ answer e. reads_each c.args.bounds.depth c.args.bounds.bytes c.args.bytes.now answer e) c.read.ensures

pub returns-clause-asks_for_more : goal.returns-clause-asks_for_more
returns-clause-asks_for_more c =
    IfOk-weaker c.read.result (λ answer. decoded_seen answer ≡ value_at c.args.bounds.depth c.args.bounds.bytes c.args.bytes.now) (AsksForMore c.args.bounds.depth c.args.bounds.bytes c.args.bytes.now)
    (λ answer e. asks_for_more c.args.bounds.depth c.args.bounds.bytes c.args.bytes.now answer c.requires e) c.read.ensures

pub returns-clause-has_spelling : goal.returns-clause-has_spelling
returns-clause-has_spelling c =
    let h = c.type_inv.bytes in
    IfOk-weaker c.read.result (λ answer. decoded_seen answer ≡ value_at c.args.bounds.depth c.args.bounds.bytes c.args.bytes.now) HasSpellingIfWhole
    (λ answer e. has_spelling c.args.bounds.depth c.args.bounds.bytes c.args.bytes.now answer (λ k lt. omega (arith, h k)) (is_right c.args.bounds.depth c.args.bounds.bytes c.args.bytes.now answer c.requires e)) c.read.ensures
