use Rattle.std.proofs.Common.{◌∙◌, ap, codes}
use Rattle.std.specs.Str.Parse.{ParsesUnsigned, ExplainsUnsignedError, HasUnsignedDigitsIfOk}
use Rattle.clap.specs.Words.{found_of, one_text}
use Rattle.clap.proofs.WalkLemmas.{one_text-rows}
use Rattle.nv_words.specs.Commands.{number_spelled}
use Rattle.nv_words.proofs.Readings.{number_is}
use Rattle.nv_words.proofs.reading.buffer_of.Goals as goal

pub returns-clause-value : goal.returns-clause-value
returns-clause-value c =
    let f = found_of c.args.matches.now in
    number_is (one_text f (codes "buffer")) c.in_ok-number.number (λ t r. ParsesUnsigned 64 10 t r × ExplainsUnsignedError 10 t r × HasUnsignedDigitsIfOk t r) (λ t r g. g.0)
    c.in_ok-number.ensures.none c.in_ok-number.ensures.value
    ∙ ap number_spelled (one_text-rows f (codes "buffer"))
