-- Lemmas on what a source gave.
use Rattle.std.proofs.Common.{◌≡◌, ℕ, List, [], ◌∷◌, ◌++◌, refl, sym, ap, subst, ◌∙◌, append_assoc, append-nil, Some, None}
use Rattle.std.specs.List.{concat}
use Rattle.std.proofs.lemmas.List.Folds.{concat-append}
use Rattle.std.specs.declared.option.Option.{Option}
use Rattle.std.specs.Io.KnownBytes.{append_known, prepend_known}
use Rattle.nv_io.specs.Streams.{Gave, AddsReads, GaveEach}
use Rattle.nv_io.specs.Words.{SourceWords}
use Rattle.nv_io.proofs.KnownLemmas.{append_known-append_known}

append_none : (known : Option (List ℕ)) → known ≡ append_known known []
append_none None = refl
append_none (Some xs) = ap (λ (l : List ℕ). Some l) (sym (append-nil xs))

prepend_then : (a b : List ℕ) (known : Option (List ℕ)) → prepend_known a (prepend_known b known) ≡ prepend_known (a ++ b) known
prepend_then a b None = refl
prepend_then a b (Some xs) = ap (λ (l : List ℕ). Some l) (sym (append_assoc a b xs))

-- a source gave nothing
pub gave_none : (taken left : Option (List ℕ)) → Gave taken taken left left []
gave_none taken None = record { taken = append_none taken; left = refl }
gave_none taken (Some xs) = record { taken = append_none taken; left = refl }

-- a source gave some bytes and then others
pub gave_then : (t u v l m n : Option (List ℕ)) (a b : List ℕ) → Gave t u l m a → Gave u v m n b → Gave t v l n (a ++ b)
gave_then t u v l m n a b p q = record {
  taken = q.taken ∙ ap (λ (o : Option (List ℕ)). append_known o b) p.taken ∙ append_known-append_known t a b;
  left = p.left ∙ ap (λ (o : Option (List ℕ)). prepend_known a o) q.left ∙ prepend_then a b n;
}

-- no read was made
pub adds_none : (reads : Option (List (List ℕ))) → AddsReads reads reads []
adds_none None = tt
adds_none (Some was) = (was, refl, sym (append-nil was))

-- some reads were made and then others
pub adds_then : (a b c : Option (List (List ℕ))) (p q : List (List ℕ)) → AddsReads a b p → AddsReads b c q → AddsReads a c (p ++ q)
adds_then a b None p q h k = tt
adds_then a b (Some now) p q h k =
    let first : AddsReads a (Some k.0) p = subst (λ (o : Option (List (List ℕ))). AddsReads a o p) k.1 h in (
      first.0,
      first.1,
      k.2 ∙ ap (λ (l : List (List ℕ)). l ++ q) first.2 ∙ append_assoc first.0 p q,
    )

-- a source gave no piece
pub each_none : (w : SourceWords) → GaveEach w w []
each_none w = record { gave = gave_none w.taken w.left; each = adds_none w.reads }

-- a source gave some pieces and then others
pub each_then : (u v w : SourceWords) (p q : List (List ℕ)) → GaveEach u v p → GaveEach v w q → GaveEach u w (p ++ q)
each_then u v w p q h k = record {
  gave = subst (λ (l : List ℕ). Gave u.taken w.taken u.left w.left l) (sym (concat-append p q))
      (gave_then u.taken v.taken w.taken u.left v.left w.left (concat p) (concat q) h.gave k.gave);
  each = adds_then u.reads v.reads w.reads p q h.each k.each;
}

-- a source gave one piece, in a read
pub each_one : (u v : SourceWords) (piece : List ℕ) → Gave u.taken v.taken u.left v.left piece → AddsReads u.reads v.reads (piece ∷ []) → GaveEach u v (piece ∷ [])
each_one u v piece h k = record {
  gave = subst (λ (l : List ℕ). Gave u.taken v.taken u.left v.left l) (sym (append-nil piece)) h;
  each = k;
}
