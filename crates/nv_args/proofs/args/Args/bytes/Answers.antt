use Rattle.std.proofs.Common.{◌≡◌, ℕ, List, Some, None, subst}
use Rattle.std.specs.Prelude.{IfOk}
use Rattle.nv_value.specs.View.{content}
use Rattle.nv_args.proofs.ArgLemmas.{string-absent, string-there}
use Rattle.nv_args.proofs.args.Args.bytes.Goals as goal

pub returns-then-not-is_string_kind : goal.returns-then-not-is_string_kind
returns-then-not-is_string_kind c =
    subst (λ (wanted : List ℕ). IfOk c.new.result (λ string. string ≡ wanted))
    (string-absent c.args.self.now c.args.place _ _ c.kind.ensures c.is_string_kind.ensures c.if-not-is_string_kind.true)
    c.new.ensures

pub returns-in-Some : goal.returns-in-Some
returns-in-Some c =
    subst (λ (wanted : List ℕ). IfOk c.bytes_of.result (λ string. string ≡ wanted))
    (string-there c.args.self.now c.args.place _ _ (Some (content c.in-Some.value.now)) c.kind.ensures c.is_string_kind.ensures c.if-not-is_string_kind.false c.in-Some.ensures)
    c.bytes_of.ensures

pub returns-in-None : goal.returns-in-None
returns-in-None c =
    subst (λ (wanted : List ℕ). IfOk c.new-in-None.result (λ string. string ≡ wanted))
    (string-there c.args.self.now c.args.place _ _ None c.kind.ensures c.is_string_kind.ensures c.if-not-is_string_kind.false c.in-None.ensures)
    c.new-in-None.ensures
