-- What a pass gains from call to call.
use Rattle.std.proofs.Common.{◌≡◌, ℕ, List, [], ◌∷◌, ◌++◌, refl, ap, sym, subst, ◌∙◌, append_assoc, append-nil}
use Rattle.nv_turn.specs.Story.{Has, entries_by}
use Rattle.nv_turn.specs.Passes.{PassState, IsSamePass, SeesMore, Gains}
use Rattle.nv_turn.proofs.Prefixes.{prefix_self, prefix_trans}
use Rattle.nv_turn.proofs.Entries.{own_beside, own_added}

module _ {E D : Type 0} (caller : E → ℕ) where
  pub gains_nothing : (p : PassState E D) → Gains caller p p []
  gains_nothing p = record {
    same = record { turn = refl; number = refl; numbers = refl; start = refl };
    begins = prefix_self p.seen;
    gained = sym (append-nil (entries_by caller p.number p.seen));
    others = λ c h ne. refl;
  }

  -- after `enter` and `wait`
  pub gains_sight : (p q : PassState E D) → Has p.number p.numbers → IsSamePass p q → SeesMore caller p q → Gains caller p q []
  gains_sight p q has same more = record {
    same = same;
    begins = more.begins;
    gained = more.own_entries p.number has ∙ sym (append-nil (entries_by caller p.number p.seen));
    others = λ c h ne. more.own_entries c h;
  }

  -- after `leave`, where no entry was added
  pub gains_none : (p q : PassState E D) → IsSamePass p q → q.seen ≡ p.seen → Gains caller p q []
  gains_none p q same seen = record {
    same = same;
    begins = ([], append-nil p.seen ∙ sym seen);
    gained = ap (entries_by caller p.number) seen ∙ sym (append-nil (entries_by caller p.number p.seen));
    others = λ c h ne. ap (entries_by caller c) seen;
  }

  -- after `leave`, where one was
  pub gains_one : (p q : PassState E D) (e : E) → IsSamePass p q → caller e ≡ p.number → q.seen ≡ p.seen ++ e ∷ [] → Gains caller p q (e ∷ [])
  gains_one p q e same by seen = record {
    same = same;
    begins = (e ∷ [], sym seen);
    gained = ap (entries_by caller p.number) seen ∙ own_added caller p.number p.seen e by;
    others = λ c h ne. ap (entries_by caller c) seen ∙ own_beside caller c p.seen e (λ is. ne (sym is ∙ by));
  }

  pub gains_then : (p q r : PassState E D) (xs ys : List E) → Gains caller p q xs → Gains caller q r ys → Gains caller p r (xs ++ ys)
  gains_then p q r xs ys a b =
      let n = a.same.number in record {
        same = record {
          turn = b.same.turn ∙ a.same.turn;
          number = b.same.number ∙ n;
          numbers = b.same.numbers ∙ a.same.numbers;
          start = b.same.start ∙ a.same.start;
        };
        begins = prefix_trans p.seen q.seen r.seen a.begins b.begins;
        gained = subst (λ k. entries_by caller k r.seen ≡ entries_by caller k q.seen ++ ys) n b.gained ∙ (ap (λ z. z ++ ys) a.gained ∙ append_assoc (entries_by caller p.number p.seen) xs ys);
        others = λ c h ne. b.others c (subst (Has c) (sym a.same.numbers) h) (λ e. ne (e ∙ n)) ∙ a.others c h ne;
      }
