-- What a source gave, piece by piece.
use Rattle.std.proofs.Common.{◌≡◌, ◌∙◌, ℕ, List, [], ◌++◌, Option, Some, None, ap, refl, sym, append_assoc, append-nil}
use Rattle.std.specs.Io.KnownBytes.{append_known, prepend_known}
use Rattle.nv_io.specs.Streams.{Gave}

pub known_none : (k : Option (List ℕ)) → k ≡ append_known k []
known_none None = refl
known_none (Some xs) = ap (λ (l : List ℕ). Some l) (sym (append-nil xs))

known_then : (k : Option (List ℕ)) (a b : List ℕ) → append_known (append_known k a) b ≡ append_known k (a ++ b)
known_then None a b = refl
known_then (Some xs) a b = ap (λ (l : List ℕ). Some l) (append_assoc xs a b)

prepend_then : (a b : List ℕ) (known : Option (List ℕ)) → prepend_known a (prepend_known b known) ≡ prepend_known (a ++ b) known
prepend_then a b None = refl
prepend_then a b (Some xs) = ap (λ (l : List ℕ). Some l) (sym (append_assoc a b xs))

-- a source gave nothing
pub gave_none : (taken left : Option (List ℕ)) → Gave taken taken left left []
gave_none taken None = record { taken = known_none taken; left = refl }
gave_none taken (Some xs) = record { taken = known_none taken; left = refl }

-- a source gave some bytes and then others
pub gave_then : (t u v l m n : Option (List ℕ)) (a b : List ℕ) → Gave t u l m a → Gave u v m n b → Gave t v l n (a ++ b)
gave_then t u v l m n a b p q = record {
  taken = q.taken ∙ ap (λ (o : Option (List ℕ)). append_known o b) p.taken ∙ known_then t a b;
  left = p.left ∙ ap (λ (o : Option (List ℕ)). prepend_known a o) q.left ∙ prepend_then a b n;
}
