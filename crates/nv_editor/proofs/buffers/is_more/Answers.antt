use Rattle.std.proofs.Common.{◌≡◌, ◌∙◌, ℕ, cond, ap, rules}
use Rattle.std.specs.Prelude.{nat_lt}
use Rattle.nv_editor.proofs.NamesKept.{more_is}
use Rattle.nv_editor.proofs.buffers.is_more.Goals as goal

pub returns : goal.returns
returns c =
    let one : c.from.result ≡ cond c.is_own-own.result 1 0 = search rules in
    ap (λ (k : ℕ). nat_lt k c.args.number) one
    ∙ more_is c.args.one.n c.args.name.now c.args.buffers.now.entries c.args.number c.is_own-own.result c.requires.rising c.requires.number c.is_own-own.ensures
