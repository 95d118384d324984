-- What was read in the words of what is told.
use Rattle.nv_value.specs.View.{content}
use Rattle.nv_rpc.specs.Received.{message_in}
use Rattle.nv_rpc.proofs.Filling.{not_read}
use Rattle.nv_rpc.proofs.Inverse.{told_by, none_tells}
use Rattle.nv_rpc.proofs.receiving.message_of.Goals as goal

pub returns-in-Some-clause-told : goal.returns-in-Some-clause-told
returns-in-Some-clause-told c = told_by _ _ c.filled.ensures

pub returns-in-None-clause-none_tells : goal.returns-in-None-clause-none_tells
returns-in-None-clause-none_tells c =
    none_tells (content c.args.value) (not_read c.outline_of.result (message_in (content c.args.value)) c.in-None.is c.outline_of.ensures)
