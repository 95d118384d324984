-- What `clap` answers words with, by the kinds that its answer may have.
use Rattle.std.proofs.Common.{◌≡◌, ◌⊎◌, [], ◌∷◌, Option, Some, None, Result, Ok, Err, IfOk, OnOk, sym, subst, inl, inr, refl, rules, ap, ◌∙◌}
use Rattle.std.specs.Prelude.{IsSome}
use Rattle.clap.specs.Kinds.{IsAmong, Kinds}
use Rattle.clap.specs.declared.error.kind.ErrorKind.{ErrorKind}
use Rattle.clap.specs.declared.error.kind.ErrorKind.TheVariants.{InvalidSubcommand, OutOfMemory, UnknownArgument}
use Rattle.nv_words.specs.Commands.{PlainCommand, command_of_notice, notice_of_fault, notice_of_kind, plain_command, shows}
use Rattle.nv_words.specs.declared.command.Command.{Command}
use Rattle.nv_words.specs.declared.command.Notice.{Notice}
use Rattle.nv_words.specs.declared.command.Refusal.{Refusal}
use Rattle.nv_words.proofs.Faults.{IsSingle}

-- no kind of two that may come together is an answer
of_two : (kind : ErrorKind) (notice : Notice) → IsAmong kind (UnknownArgument ∷ InvalidSubcommand ∷ []) → notice_of_kind kind ≡ Some notice → ⊥
of_two kind notice (inl same) is = let bad : notice_of_kind UnknownArgument ≡ Some notice = subst (λ k. notice_of_kind k ≡ Some notice) same is in cc
of_two kind notice (inr (inl same)) is = let bad : notice_of_kind InvalidSubcommand ≡ Some notice = subst (λ k. notice_of_kind k ≡ Some notice) same is in cc
of_two kind notice (inr (inr none)) is = none

-- an answer of a kind that shows a text is the only one that there may be
pub answered : (kinds : Kinds) (kind : ErrorKind) (notice : Notice) → IsSingle kinds → (kind ≡ OutOfMemory) ⊎ IsAmong kind kinds → notice_of_kind kind ≡ Some notice
    → notice_of_fault kinds ≡ Some notice
answered kinds kind notice single (inl memory) is = let bad : notice_of_kind OutOfMemory ≡ Some notice = subst (λ k. notice_of_kind k ≡ Some notice) memory is in cc
answered [] kind notice single (inr among) is = absurd among
answered (k ∷ []) kind notice single (inr (inl same)) is = subst (λ l. notice_of_kind l ≡ Some notice) same is
answered (k ∷ []) kind notice single (inr (inr none)) is = absurd none
answered (k ∷ l ∷ ks) kind notice single (inr among) is = absurd (of_two kind notice (subst (IsAmong kind) single among) is)

-- and where its kind shows none, none may be shown, nor are the words taken
pub unanswered : (kinds : Kinds) (kind : ErrorKind) → (kind ≡ OutOfMemory) ⊎ IsAmong kind kinds → notice_of_kind kind ≡ None → (kind ≡ OutOfMemory → ⊥)
    → (kinds ≡ []) ⊎ IsSome (notice_of_fault kinds) → ⊥
unanswered kinds kind (inl memory) none other taken = other memory
unanswered [] kind (inr among) none other taken = among
unanswered (k ∷ ks) kind (inr among) none other (inl empty) = cc
unanswered (k ∷ []) kind (inr (inl same)) none other (inr some) =
    let bad : IsSome {T = Notice} None = subst IsSome (subst (λ l. notice_of_kind l ≡ None) same none) some in
    cc
unanswered (k ∷ []) kind (inr (inr nothing)) none other (inr some) = nothing
unanswered (k ∷ l ∷ ks) kind (inr among) none other (inr some) = cc

-- so of the answer to words, by what is made of it
module _ (kinds : Kinds) (kind : ErrorKind) (single : IsSingle kinds) (among : (kind ≡ OutOfMemory) ⊎ IsAmong kind kinds) where
  abbrev IsNotice : Command → Type 0
  IsNotice command = (notice : Notice) × (notice_of_kind kind ≡ Some notice) × (plain_command command ≡ shows notice)

  pub shown_taken : (r : Result Command Refusal) → IfOk r IsNotice → OnOk r ((kinds ≡ []) ⊎ IsSome (notice_of_fault kinds))
  shown_taken (Ok command) shown = inr (subst IsSome (sym (answered kinds kind shown.0 single among shown.1)) refl)
  shown_taken (Err refusal) shown = search rules

  pub shown_asked : (r : Result Command Refusal) (other : Option PlainCommand) → IfOk r IsNotice
      → IfOk r (λ command. command_of_notice (notice_of_fault kinds) other ≡ Some (plain_command command))
  shown_asked (Ok command) other shown = ap (λ n. command_of_notice n other) (answered kinds kind shown.0 single among shown.1) ∙ ap (λ (p : PlainCommand). Some p) (sym shown.2)
  shown_asked (Err refusal) other shown = search rules
