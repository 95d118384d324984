-- What follows from what an event made of a core.
use Rattle.std.proofs.Common.{ℕ, List}
use Rattle.nv_core.specs.Gains.{GainsIn, visit_of}
use Rattle.nv_core.specs.Visits.{Visit}
use Rattle.nv_core.specs.declared.entry.Entry.{Entry}
use Rattle.nv_core.specs.declared.start.Start.{Start}

-- something else came of it
pub gains_by : {X : Type 0} (stands : X → List Entry → Type 0) (start : X → Start) (old new : X) (number : ℕ) (C D : Visit → Type 0)
    → ((v : Visit) → C v → D v) → GainsIn stands start old new number C → GainsIn stands start old new number D
gains_by stands start old new number C D f gains = record {
  begins = gains.begins;
  after = λ found there.
      let on = gains.after found there in record {
        later = on.later;
        adds = on.adds;
        stands_new = on.stands_new;
        comes = f (visit_of (start old) number found on.later) on.comes;
      };
}
