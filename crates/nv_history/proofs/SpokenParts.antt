-- What is spoken of batches, part by part.
use Rattle.std.proofs.Common.{ℕ, List, [], ◌∷◌, ◌++◌, refl, ap, sym, ◌∙◌, subst, append_assoc, append-nil}
use Rattle.nv_linegrid.specs.declared.event.Redraw.{Redraw}
use Rattle.nv_linegrid.specs.Told.{Told}
use Rattle.nv_history.specs.Runs.{TakenBatch}
use Rattle.nv_history.specs.Spoken.{IsSpoken, AreSpoken}

-- ---- batches behind others
pub spoken_none : (told : Told) → AreSpoken told [] [] [] told
spoken_none told = (refl, refl, refl)

pub spoken_one : (told later : Told) (given : TakenBatch) (bytes : List ℕ) (events : List Redraw) → IsSpoken told given bytes events later → AreSpoken told (given ∷ []) bytes events later
spoken_one told later given bytes events h = record {
  between = later;
  first_bytes = bytes;
  other_bytes = [];
  first_events = events;
  other_events = [];
  first = h;
  rest = spoken_none later;
  bytes_are = sym (append-nil bytes);
  events_are = sym (append-nil events);
}

pub spoken-append : (told between later : Told) (front back : List TakenBatch) (a b : List ℕ) (es fs : List Redraw) → AreSpoken told front a es between → AreSpoken between back b fs later
    → AreSpoken told (front ++ back) (a ++ b) (es ++ fs) later
spoken-append told between later [] back a b es fs h k =
    subst (λ (t : Told). AreSpoken t back (a ++ b) (es ++ fs) later) h.2
    (subst (λ (l : List Redraw). AreSpoken between back (a ++ b) (l ++ fs) later) (sym h.1)
    (subst (λ (l : List ℕ). AreSpoken between back (l ++ b) fs later) (sym h.0) k))
spoken-append told between later (given ∷ front) back a b es fs h k = record {
  between = h.between;
  first_bytes = h.first_bytes;
  other_bytes = h.other_bytes ++ b;
  first_events = h.first_events;
  other_events = h.other_events ++ fs;
  first = h.first;
  rest = spoken-append h.between between later front back h.other_bytes b h.other_events fs h.rest k;
  bytes_are = ap (λ (l : List ℕ). l ++ b) h.bytes_are ∙ append_assoc h.first_bytes h.other_bytes b;
  events_are = ap (λ (l : List Redraw). l ++ fs) h.events_are ∙ append_assoc h.first_events h.other_events fs;
}

-- one batch more
pub spoken-push : (told between later : Told) (front : List TakenBatch) (given : TakenBatch) (a b : List ℕ) (es fs : List Redraw) → AreSpoken told front a es between
    → IsSpoken between given b fs later → AreSpoken told (front ++ given ∷ []) (a ++ b) (es ++ fs) later
spoken-push told between later front given a b es fs h k = spoken-append told between later front (given ∷ []) a b es fs h (spoken_one between later given b fs k)
