-- Counts grow with what is seen.
use Rattle.std.proofs.Common.{◌≡◌, refl, ap, sym, ◌∙◌, inl, inr, ℕ, zero, suc, ◌+◌, ◌<◌, Bool, true, false, nat_lt, List, [], ◌∷◌, ◌++◌, Option, slice_get, arith}
use Rattle.std.specs.Prelude.{not, ◌||◌}
use Rattle.std.proofs.lemmas.Bool.Decides.{nat_tests}
use Rattle.nv_core.specs.Contents.{plain_entries}
use Rattle.nv_watch.specs.Verdicts.{Sight, verdict_with}
use Rattle.nv_watch.specs.declared.verdict.Verdict.{Verdict}
use Rattle.nv_watch.specs.declared.verdict.Verdict.TheVariants.{Yes}
use Rattle.nv_watch.specs.SentParts.{is_whole_sent, messages_sent}
use Rattle.nv_watch.specs.Counting.{HasReplyTooMany, replies_among, replies_at, replies_seen, requests_at, requests_seen, requests_of_entry}
use Rattle.nv_watch.specs.inside.Counts.{HasCountedIn, number_kept, added_for, one_for}
use Rattle.nv_watch.proofs.Verdicts.{verdict_grows, none_broken}

replies_more : (s : ℕ) (seen : List Sight) (x : Sight) → replies_seen s (seen ++ x ∷ []) ≡ replies_seen s seen + replies_at s x
replies_more s [] x = omega arith
replies_more s (y ∷ seen) x = let e = replies_more s seen x in omega (arith, e)

requests_more : (s : ℕ) (seen : List Sight) (x : Sight) → requests_seen s (seen ++ x ∷ []) ≡ requests_seen s seen + requests_at s x
requests_more s [] x = omega arith
requests_more s (y ∷ seen) x = let e = requests_more s seen x in omega (arith, e)

-- whether the rule is broken, as the code asks
module _ (seen : List Sight) (x : Sight) (made taken : ℕ) (made_is : made ≡ requests_seen x.step.session (seen ++ x ∷ []))
    (taken_is : taken ≡ replies_seen x.step.session (seen ++ x ∷ [])) where
  broken_is : (whole less broken : Bool) → whole ≡ is_whole_sent x.step.sent → nat_lt made taken ≡ less
      → broken ≡ (not whole || less) → broken ≡ true → HasReplyTooMany seen x
  broken_is false less broken w l b e = inl (sym w)
  broken_is true true broken w l b e =
      let h : made < taken = grind (arith, nat_tests) in
      let k : requests_seen x.step.session (seen ++ x ∷ []) < replies_seen x.step.session (seen ++ x ∷ []) = omega (arith, h, made_is, taken_is) in
      inr k
  broken_is true false broken w l b e = absurd cc

  kept_is : (whole less broken : Bool) → whole ≡ is_whole_sent x.step.sent → nat_lt made taken ≡ less
      → broken ≡ (not whole || less) → broken ≡ false → HasReplyTooMany seen x → ⊥
  kept_is false less broken w l b e h = absurd cc
  kept_is true true broken w l b e h = absurd cc
  kept_is true false broken w l b e (inl h) = absurd cc
  kept_is true false broken w l b e (inr h) =
      let k : made < taken = omega (arith, h, made_is, taken_is) in
      absurd (grind (arith, nat_tests))

pub counted_more : (replies replies' requests requests' : List ℕ) (v : Verdict) (seen : List Sight) (x : Sight)
    (more made taken : ℕ) (asks : Option ℕ) (whole broken : Bool)
    → more ≡ replies_among (messages_sent x.step.sent)
    → ((s : ℕ) → requests_of_entry s (slice_get (plain_entries x.world.history) x.step.at) ≡ one_for asks s)
    → ((s : ℕ) → number_kept replies' s ≡ added_for x.step.session more s + number_kept replies s)
    → ((s : ℕ) → number_kept requests' s ≡ one_for asks s + number_kept requests s)
    → made ≡ number_kept requests' x.step.session → taken ≡ number_kept replies' x.step.session
    → whole ≡ is_whole_sent x.step.sent → broken ≡ (not whole || nat_lt made taken)
    → HasCountedIn replies requests v seen
    → HasCountedIn replies' requests' (verdict_with v x.step.at broken) (seen ++ x ∷ [])
counted_more replies replies' requests requests' v seen x more made taken asks whole broken more_is asks_is adds asked made_is taken_is whole_is broken_is_so old =
    record {
      replies = all_replies;
      requests = all_requests;
      verdict =
          verdict_grows HasReplyTooMany seen x v broken
          (broken_is seen x made taken (made_is ∙ all_requests x.step.session) (taken_is ∙ all_replies x.step.session) whole (nat_lt made taken) broken whole_is refl broken_is_so)
          (kept_is seen x made taken (made_is ∙ all_requests x.step.session) (taken_is ∙ all_replies x.step.session) whole (nat_lt made taken) broken whole_is refl broken_is_so)
          old.verdict;
    }
  where
    all_replies : (s : ℕ) → number_kept replies' s ≡ replies_seen s (seen ++ x ∷ [])
    all_replies s =
        adds s ∙ ap (λ (n : ℕ). added_for x.step.session n s + number_kept replies s) more_is
        ∙ ap (λ (n : ℕ). replies_at s x + n) (old.replies s) ∙ omega (arith, replies_more s seen x)

    all_requests : (s : ℕ) → number_kept requests' s ≡ requests_seen s (seen ++ x ∷ [])
    all_requests s =
        asked s ∙ ap (λ (n : ℕ). n + number_kept requests s) (sym (asks_is s))
        ∙ ap (λ (n : ℕ). requests_at s x + n) (old.requests s) ∙ omega (arith, requests_more s seen x)

no_number : (s : ℕ) → number_kept [] s ≡ 0
no_number zero = refl
no_number (suc s) = refl

pub none_counted : (replies requests : List ℕ) → replies ≡ [] → requests ≡ [] → HasCountedIn replies requests Yes []
none_counted replies requests r a = record {
  replies = λ s. ap (λ (xs : List ℕ). number_kept xs s) r ∙ no_number s;
  requests = λ s. ap (λ (xs : List ℕ). number_kept xs s) a ∙ no_number s;
  verdict = none_broken HasReplyTooMany;
}
