-- A value that was read elsewhere is taken from a stream.
use Rattle.std.proofs.Common.{◌≡◌, ℕ, ◌≤◌, length, take, drop, None, sym, ap, subst}
use Rattle.std.proofs.lemmas.List.{take-append-drop, length-take-le}
use Rattle.nv_value.specs.Content.{Tree}
use Rattle.nv_msgpack.specs.Reading.{whole, value_at}
use Rattle.nv_msgpack.specs.Shortest.{HasSpelling}
use Rattle.nv_msgpack.proofs.Exact.{is_whole}
use Rattle.nv_stream.specs.State.{State, behind_value}
use Rattle.nv_stream.specs.Answers.{TakesTree}

-- it is no longer than what is held
pub within_held : (s : State) (t : Tree) (taken : ℕ) → 1 ≤ s.most → value_at s.depth s.most s.held ≡ whole t taken → taken ≤ length s.held
within_held s t taken h e = (is_whole s.depth s.most s.held t taken h e).0

pub takes_value : (old new : State) (t : Tree) (taken : ℕ) → 1 ≤ old.most → old.flaw ≡ None → new ≡ behind_value old taken (drop taken old.held)
    → value_at old.depth old.most old.held ≡ whole t taken → HasSpelling t → TakesTree t old new
takes_value old new t taken h f n e s =
    let w = is_whole old.depth old.most old.held t taken h e in
    let front = take taken old.held in
    let rest = drop taken old.held in
    let all : TakesTree t old (behind_value old taken rest) = (
      front,
      f,
      w.1,
      sym (take-append-drop taken old.held),
      ap (λ (k : ℕ). behind_value old k rest) (sym (length-take-le taken old.held w.0)),
      s,
    ) in
    subst (λ (x : State). TakesTree t old x) (sym n) all
