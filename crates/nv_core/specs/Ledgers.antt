-- What contracts see of a history.
use Rattle.std.specs.Prelude.{ℕ, ◌+◌, List, length, refl}
use Rattle.std.specs.Coded.{Coded, code_by, coded×, coded_list, coded_ℕ}
use Rattle.nv_core.specs.declared.entry.Entry.{Entry}
use Rattle.nv_core.specs.contracts.entry.Entry as e

-- how many entries were taken out at the front, the entries from there on, and for how many more of
-- them memory is there
pub record Ledger : Type 0 where
  pub base : ℕ
  pub entries : List Entry
  pub room : ℕ

abbrev pub ledger_code : Coded Ledger
ledger_code = code_by (ℕ × (List Entry × ℕ))
    (coded× coded_ℕ (coded× (coded_list e.the_row.coded) coded_ℕ))
    (λ l. (l.base, (l.entries, l.room)))
    (λ p. record { base = p.0; entries = p.1.0; room = p.1.1 }) (λ _. refl)

-- the number of all entries
abbrev pub entries_told : Ledger → ℕ
entries_told l = l.base + length l.entries
