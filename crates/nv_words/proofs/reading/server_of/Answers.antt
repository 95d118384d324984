use Rattle.std.proofs.Common.{◌∙◌, codes}
use Rattle.clap.specs.Words.{found_of, first_of, rows_of}
use Rattle.clap.proofs.WalkLemmas.{first_value-rows}
use Rattle.nv_words.proofs.Readings.{text_is}
use Rattle.nv_words.proofs.reading.server_of.Goals as goal

pub returns : goal.returns
returns c =
    let f = found_of c.args.matches.now in
    text_is c.get_str.result (first_of (codes "address") (rows_of f)) (c.get_str.ensures ∙ first_value-rows f (codes "address"))
