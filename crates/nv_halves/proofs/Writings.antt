-- A batch that didn't go out whole.
use Rattle.std.proofs.Common.{◌≡◌, Result, Err, sym, subst}
use Rattle.nv_speech.specs.declared.saying.Unsaid.{Unsaid}
use Rattle.nv_speech.specs.declared.saying.Unsaid.TheVariants as unsaid
use Rattle.nv_halves.specs.inside.Taking.{IsCutOff, writer_end_unsaid}
use Rattle.nv_halves.specs.declared.ends.WriterEnd.{WriterEnd}
use Rattle.nv_halves.specs.declared.ends.WriterEnd.TheVariants as w

cut_off : (why : Unsaid) → IsCutOff (writer_end_unsaid why)
cut_off unsaid.WriteFault = tt
cut_off unsaid.NoMemory = tt

pub unsaid_cut : (why : Unsaid) (end : WriterEnd) (P : Type 0) → end ≡ writer_end_unsaid why → P → IsCutOff end × P
unsaid_cut why end P e p = (subst IsCutOff (sym e) (cut_off why), p)

pub unsaid_fault : {T : Type 0} (why : Unsaid) (end : WriterEnd) (r : Result T WriterEnd) → end ≡ writer_end_unsaid why → r ≡ Err end → r ≡ Err w.WriteFault → why ≡ unsaid.WriteFault
unsaid_fault unsaid.WriteFault end r e f g = cc
unsaid_fault unsaid.NoMemory end r e f g = cc
