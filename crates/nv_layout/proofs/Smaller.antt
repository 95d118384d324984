-- A child is no larger than the largest one.
use Rattle.std.proofs.Common.{◌≡◌, ℕ, ◌≤◌, ◌<◌, List, length, get_or, sym, subst}
use Rattle.nv_layout.specs.declared.nodes.Tree.{Tree}
use Rattle.nv_layout.proofs.nodes.Tree.TheLaws.{the_size}
use denote.Param.Weighed.{most, at_most}

pub no_larger : (ts : List Tree) (i : ℕ) (t : Tree) → i < length ts → t ≡ get_or ts i t → the_size t ≤ most the_size ts
no_larger ts i t h is = subst (λ u. the_size u ≤ most the_size ts) (sym is) (at_most the_size ts i t h)
