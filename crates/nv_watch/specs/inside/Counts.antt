-- The numbers that a counter keeps.
use Rattle.std.specs.Prelude.{◌≡◌, ℕ, ◌==◌, List, slice_index_or, Option, None, Some, if◌then◌else◌}
use Rattle.nv_watch.specs.Verdicts.{Sight, IsVerdict}
use Rattle.nv_watch.specs.Counting.{HasReplyTooMany, replies_seen, requests_seen}
use Rattle.nv_watch.specs.declared.verdict.Verdict.{Verdict}
use Rattle.nv_watch.specs.declared.counter.Counter.{Counter}

-- the number of a session: 0 where it has none yet
abbrev pub number_kept : List ℕ → ℕ → ℕ
number_kept numbers s = slice_index_or numbers s 0

-- what is added for a session
abbrev pub added_for : ℕ → ℕ → ℕ → ℕ
added_for session more s = if session == s then more else 0

-- one request for the session that makes it
abbrev pub one_for : Option ℕ → ℕ → ℕ
one_for None s = 0
one_for (Some session) s = added_for session 1 s

-- these numbers and this verdict are those of what was seen
pub record HasCountedIn (replied asked : List ℕ) (said : Verdict) (seen : List Sight)
    : Type 0 where
  pub replies : (s : ℕ) → number_kept replied s ≡ replies_seen s seen
  pub requests : (s : ℕ) → number_kept asked s ≡ requests_seen s seen
  pub verdict : IsVerdict HasReplyTooMany seen said

-- a counter has seen these
abbrev pub HasCounted : Counter → List Sight → Type 0
HasCounted c seen = HasCountedIn c.replies.items c.requests.items c.verdict seen
