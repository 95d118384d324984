use Rattle.nv_args.proofs.ColourLemmas.{colour-of-digits}
use Rattle.nv_args.proofs.reading.colour_of_digits.Goals as goal

pub returns-in-len6 : goal.returns-in-len6
returns-in-len6 c =
    colour-of-digits c.args.digits.now c.two_digits.result c.two_digits-in-len6.result c.two_digits-in-len6-2.result c.colour_of_parts.result
    c.in-len6.len_at_least c.in-len6.len_below c.two_digits.ensures.number c.two_digits-in-len6.ensures.number
    c.two_digits-in-len6-2.ensures.number c.colour_of_parts.ensures
