-- Worked examples of following a buffer: what calls of one session to a fresh editor answer and
-- tell, computed by the definitions.
use Rattle.std.specs.Prelude.{◌≡◌, pos, true, false, List, [], ◌∷◌, codes, Some, None}
use Rattle.nv_value.specs.Content.{nil, truth, pairs, in_turn}
use Rattle.nv_rpc.specs.Messages.{buffer_handle}
use Rattle.nv_args.specs.Faults.{invalid_key}
use Rattle.nv_model.specs.Answers.{attached, detached, edited, deleted, quit}
use Rattle.nv_dispatch.specs.Runs.{NamedCall, results_of, facts_told}
use Rattle.nv_dispatch.specs.Worked.{int, str, array_value, no_keys, call, ok, fault, set_all_lines, run_command, refusal}

-- the session attaches to buffer 1 with its lines, puts a line, attaches with the changedtick
-- alone, detaches, and ends the editor
abbrev following_calls : List NamedCall
following_calls =
    call "nvim_buf_attach" (int 0 ∷ truth true ∷ no_keys ∷ [])
    ∷ set_all_lines (str "a" ∷ [])
    ∷ call "nvim_buf_attach" (int 0 ∷ truth false ∷ no_keys ∷ [])
    ∷ call "nvim_buf_detach" (int 0 ∷ [])
    ∷ run_command "qall!"
    ∷ []

unfoldable pub FollowingAnswers : Type 0
FollowingAnswers =
    results_of following_calls
    ≡ ok (truth true) ∷ ok nil ∷ ok (truth true) ∷ ok (truth true) ∷ ok nil ∷ []

unfoldable pub FollowingTells : Type 0
FollowingTells =
    facts_told following_calls
    ≡ attached (pos 1) 2 (Some ([] ∷ []))
    ∷ edited (pos 1) (record {
      tick = pos 3;
      edit = record {
        first = 0;
        last = 1;
        lines = (97 ∷ []) ∷ [];
        at = 0;
        old = 1;
        new = 2;
        start = record { row = 0; col = 0 };
        removed = record { rows = 1; cols = 0 };
        put = record { rows = 1; cols = 0 };
        rows = true;
        part = record { change = 1; part = 0; back = false };
      };
    })
    ∷ attached (pos 1) 3 None
    ∷ detached (pos 1)
    ∷ quit
    ∷ []

-- attaching takes no keys, and a buffer that isn't there isn't followed; refused calls tell nothing
abbrev refused_calls : List NamedCall
refused_calls =
    call "nvim_buf_attach" (int 0 ∷ truth true ∷ pairs (in_turn ((str "k", nil) ∷ [])) ∷ [])
    ∷ call "nvim_buf_attach" (int 9 ∷ truth true ∷ no_keys ∷ [])
    ∷ call "nvim_buf_detach" (int 9 ∷ [])
    ∷ run_command "qall"
    ∷ []

unfoldable pub FollowingFaults : Type 0
FollowingFaults =
    results_of refused_calls
    ≡ fault (invalid_key (codes "k"))
    ∷ refusal 1 4 "Invalid buffer id: 9"
    ∷ refusal 1 4 "Invalid buffer id: 9"
    ∷ refusal 0 18 "Unknown name: qall"
    ∷ []

unfoldable pub RefusedTellNothing : Type 0
RefusedTellNothing = facts_told refused_calls ≡ []

-- calls in one tell each at its own moment: the lines that are sent are those after the first call,
-- and the undo is told behind them
unfoldable pub FactsInOne : Type 0
FactsInOne =
    facts_told (
    call "nvim_call_atomic" (
    array_value (
    array_value (str "nvim_buf_set_lines"
    ∷ array_value (int 0 ∷ int 0 ∷ int 0 ∷ truth true ∷ array_value (str "a" ∷ []) ∷ []) ∷ [])
    ∷ array_value (str "nvim_buf_attach" ∷ array_value (int 0 ∷ truth true ∷ no_keys ∷ []) ∷ [])
    ∷ array_value (str "nvim_command" ∷ array_value (str "undo" ∷ []) ∷ [])
    ∷ [])
    ∷ [])
    ∷ [])
    ≡ edited (pos 1) (record {
      tick = pos 3;
      edit = record {
        first = 0;
        last = 0;
        lines = (97 ∷ []) ∷ [];
        at = 0;
        old = 0;
        new = 2;
        start = record { row = 0; col = 0 };
        removed = record { rows = 0; cols = 0 };
        put = record { rows = 1; cols = 0 };
        rows = true;
        part = record { change = 1; part = 0; back = false };
      };
    })
    ∷ attached (pos 1) 3 (Some ((97 ∷ []) ∷ [] ∷ []))
    ∷ edited (pos 1) (record {
      tick = pos 4;
      edit = record {
        first = 0;
        last = 1;
        lines = [];
        at = 0;
        old = 2;
        new = 0;
        start = record { row = 0; col = 0 };
        removed = record { rows = 1; cols = 0 };
        put = record { rows = 0; cols = 0 };
        rows = true;
        part = record { change = 1; part = 0; back = true };
      };
    })
    ∷ []

-- a buffer that is deleted is told, and its handle isn't given again
abbrev deletion_calls : List NamedCall
deletion_calls =
    call "nvim_create_buf" (truth true ∷ truth false ∷ [])
    ∷ call "nvim_buf_attach" (int 2 ∷ truth false ∷ no_keys ∷ [])
    ∷ call "nvim_buf_delete" (int 2 ∷ no_keys ∷ [])
    ∷ call "nvim_create_buf" (truth true ∷ truth false ∷ [])
    ∷ []

unfoldable pub DeletionAnswers : Type 0
DeletionAnswers =
    results_of deletion_calls
    ≡ ok (buffer_handle (pos 2)) ∷ ok (truth true) ∷ ok nil ∷ ok (buffer_handle (pos 3)) ∷ []

unfoldable pub DeletionTells : Type 0
DeletionTells = facts_told deletion_calls ≡ attached (pos 2) 2 None ∷ deleted (pos 2) ∷ []
