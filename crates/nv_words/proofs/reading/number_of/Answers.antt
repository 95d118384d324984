use Rattle.std.proofs.Common.{codes}
use Rattle.std.specs.Str.Parse.{ParsesUnsigned, ExplainsUnsignedError, HasUnsignedDigitsIfOk}
use Rattle.clap.specs.Words.{found_of, one_of, one_text, rows_of}
use Rattle.clap.proofs.WalkLemmas.{one_text-rows}
use Rattle.nv_words.proofs.Readings.{number_read}
use Rattle.nv_words.proofs.reading.number_of.Goals as goal

pub returns : goal.returns
returns c =
    let f = found_of c.args.matches.now in
    number_read (one_text f (codes "number")) (one_of (codes "number") (rows_of f)) c.get_one.result (λ t r. ParsesUnsigned 64 10 t r × ExplainsUnsignedError 10 t r × HasUnsignedDigitsIfOk t r) (λ t r g. g.0)
    c.get_one.ensures.none c.get_one.ensures.value (one_text-rows f (codes "number"))
