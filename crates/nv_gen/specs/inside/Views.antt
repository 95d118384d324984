-- What a question of the code holds.
use Rattle.nv_value.specs.View.{contents}
use Rattle.nv_gen.specs.Questions.{Question}
use Rattle.nv_gen.specs.declared.asking.Asked.{Asked}

-- the question
abbrev pub question_seen : Asked → Question
question_seen a =
    record { session = a.session; method = a.method; arguments = contents a.params.items }
