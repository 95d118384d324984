use Rattle.std.proofs.Common.{◌≡◌, ℕ, ℤ, ap, ap₂, ◌∙◌, arith, rules, w64, to_z, of_z}
use Rattle.nv_stream.specs.State.{State}
use Rattle.nv_subs.specs.Mirrors.{absent}
use Rattle.nv_mirror.specs.Ends.{most_levels}
use Rattle.nv_mirror.specs.inside.Steps.{Known, Standing}
use Rattle.nv_mirror.proofs.client.Client.new.Goals as goal

abbrev standing : State → Known → Standing
standing s k = record { stream = s; known = k }

-- what a client knows at first
abbrev known_first : ℤ → Known
known_first buffer = record { buffer = buffer; number = 0; mirror = absent }

pub returns : goal.returns
unfolding most_levels
returns c =
    let l = c.in_ok-new-2.ensures in
    let e : to_z w64 (of_z w64 c.args.buffer) ≡ c.args.buffer = search rules in
    record {
      ready = record { steady = l.steady; counted = omega (arith, ap (λ (k : Known). k.number) l.known) };
      standing = ap₂ standing c.in_ok-new.ensures (l.known ∙ ap known_first e);
    }
