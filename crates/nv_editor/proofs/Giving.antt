-- What a method gave, by its row.
use Rattle.std.proofs.Common.{◌≡◌, refl, sym, subst, ℕ, List, append-nil}
use Rattle.std.specs.Prelude.{Result, Ok, Err}
use Rattle.nv_value.specs.View.{content}
use Rattle.nv_value.specs.declared.value.Value.{Value}
use Rattle.nv_rpc.specs.declared.outcome.Outcome.{Outcome}
use Rattle.nv_args.specs.Reading.{Arg}
use Rattle.nv_args.specs.declared.faults.Fail.{Fail}
use Rattle.nv_args.specs.declared.faults.Fail.TheVariants.{Api, NoMemory}
use Rattle.nv_model.specs.Answers.{Answer, Fact}
use Rattle.nv_model.specs.Rows.{Row}
use Rattle.nv_model.specs.Seen.{Seen}
use Rattle.nv_model.specs.Standing.{PresentEditor, seen_now}
use Rattle.nv_editor.specs.Doing.{GivesAnswer, GivesResult, ReadsAnswer, Replies}

-- an answer that is another one
pub gives_on : (answer between : Answer) (result : Result Value Fail) (before after : PresentEditor) (told now : List Fact) → answer ≡ between
    → GivesAnswer between result before after told now → GivesAnswer answer result before after told now
gives_on answer between result before after told now is given = subst (λ (a : Answer). GivesAnswer a result before after told now) (sym is) given

-- a call that only read gave its answer
pub reads_give : (answer : Answer) (result : Result Value Fail) (e : PresentEditor) (told : List Fact) → ReadsAnswer answer result → GivesAnswer answer result e e told told
reads_give answer (Ok value) e told h =
    subst (λ (a : Answer). Replies a (content value) e e told told) (sym h) (refl, (λ m stands. stands), sym (append-nil told))
reads_give answer (Err (Api fault)) e told h = (h.0, h.1, refl, refl)
reads_give answer (Err NoMemory) e told h = tt

-- a fault that a call gave as a value is the fault that its result gives
pub fault_gives : (answer : Answer) (fail : Fail) (before after : PresentEditor) (told now : List Fact) → GivesAnswer answer (Err fail) before after told now
    → GivesResult answer (Err fail) before after told now
fault_gives answer (Api fault) before after told now h = h
fault_gives answer NoMemory before after told now h = tt

-- the answer of a method that is this one, by the rows of its crate
pub gives_row : {M : Type 0} (rows : M → Row) (m variant : M) (s : Seen) (session : ℕ) (args : List Arg) (result : Result Value Fail)
    (before after : PresentEditor) (told now : List Fact) → m ≡ variant → GivesAnswer (rows variant s session args) result before after told now
    → GivesAnswer (rows m s session args) result before after told now
gives_row {M} rows m variant s session args result before after told now is given =
    subst (λ (n : M). GivesAnswer (rows n s session args) result before after told now) (sym is) given

-- and of one that only reads
pub reads_row : {M : Type 0} (rows : M → Row) (m variant : M) (session : ℕ) (args : List Arg) (result : Result Value Fail) (e : PresentEditor) (told : List Fact)
    → m ≡ variant → ReadsAnswer (rows variant (seen_now e) session args) result → GivesAnswer (rows m (seen_now e) session args) result e e told told
reads_row {M} rows m variant session args result e told is given =
    gives_row rows m variant (seen_now e) session args result e e told told is (reads_give (rows variant (seen_now e) session args) result e told given)

-- the result of a method that is this one
pub result_row : {M : Type 0} (rows : M → Row) (m variant : M) (s : Seen) (session : ℕ) (args : List Arg) (result : Result Outcome Fail)
    (before after : PresentEditor) (told now : List Fact) → m ≡ variant → GivesResult (rows variant s session args) result before after told now
    → GivesResult (rows m s session args) result before after told now
result_row {M} rows m variant s session args result before after told now is given =
    subst (λ (n : M). GivesResult (rows n s session args) result before after told now) (sym is) given
