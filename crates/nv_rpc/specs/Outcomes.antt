-- What the result of a call holds.
use Rattle.std.specs.Prelude.{ℕ, pos, List, [], ◌∷◌, ◌++◌, map, Option, Some, None}
use Rattle.nv_value.specs.Content.{Tree, integer, text, trees_of}
use Rattle.nv_value.specs.View.{content}
use Rattle.nv_msgpack.specs.Shortest.{shortest, all_shortest, HasSpelling, HaveSpellings}
use Rattle.nv_rpc.specs.Messages.{items}
use Rattle.nv_rpc.specs.declared.outcome.CallResult.{CallResult}
use Rattle.nv_rpc.specs.declared.outcome.CallResult.TheVariants.{Value, Triples, Lines}
use Rattle.nv_rpc.specs.declared.outcome.AtomicResults.{AtomicResults}
use Rattle.nv_rpc.specs.declared.outcome.Outcome.{Outcome}
use Rattle.nv_rpc.specs.declared.outcome.Outcome.TheVariants.{One, Atomic}
use Rattle.nv_rpc.specs.declared.outcome.Triple.{Triple}

-- The list of three integers.
abbrev pub triple_content : Triple → Tree
triple_content triple = items (integer (pos triple.first) ∷ integer (pos triple.second)
    ∷ integer (pos triple.third) ∷ [])

-- The content of the result of one call.
abbrev pub call_result_content : CallResult → Tree
call_result_content (Value value) = content value
call_result_content (Triples triples) = items (map triple_content triples.items)
call_result_content (Lines lines) = items (map text lines)

-- The content of what calls one after another give: `[results, stop]` (Neovim help
-- `nvim_call_atomic()`).
abbrev pub atomic_content : AtomicResults → Tree
atomic_content atomic =
    items (items (map call_result_content atomic.results.items) ∷ content atomic.stop ∷ [])

-- The content of the result of a whole call.
abbrev pub outcome_content : Outcome → Tree
outcome_content (One result) = call_result_content result
outcome_content (Atomic atomic) = atomic_content atomic.value

-- What is left of a spelling behind its front: nothing, or the results and the stop.
abbrev pub bytes_left : Option AtomicResults → List ℕ
bytes_left None = []
bytes_left (Some atomic) = all_shortest (trees_of (map call_result_content atomic.results.items))
    ++ shortest (content atomic.stop)

-- Each of the results and the stop can be spelled.
pub record AreSpellable (atomic : AtomicResults) : Type 0 where
  pub results : HaveSpellings (trees_of (map call_result_content atomic.results.items))
  pub stop : HasSpelling (content atomic.stop)
