use Rattle.nv_msgpack.proofs.Writing.{map_in_range}
use Rattle.nv_book_laws.proofs.known.+known.Goals as goal

pub known_value-returns-in-Pairs : goal.known_value-returns-in-Pairs
known_value-returns-in-Pairs t c = map_in_range c.args.value.now c.in-Pairs.fields c.in-Pairs.is c.known_fields.ensures
