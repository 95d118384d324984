-- Arguments as the values that were looked through.
use Rattle.std.proofs.Common.{◌≡◌, ℕ, zero, suc, ◌+◌, pos, Bool, true, false, cond, List, [], ◌∷◌, length, map, Option, Some, None, Result, Ok, Err, refl, ap, ◌∙◌, arith}
use Rattle.std.specs.Prelude.{slice_get, is_some, option_map, option_and_then, unwrap_or}
use Rattle.nv_value.specs.Content.{Tree, Trees, nil}
use Rattle.nv_value.specs.declared.fault.ApiFault.{ApiFault}
use Rattle.nv_args.specs.Arguments.{tree_list, truth_in, string_in, pairs_in, require, answer_after}
use Rattle.nv_args.specs.Faults.{wrong_type}
use Rattle.nv_args.specs.Table.{Kind, Parameter, type_name}
use Rattle.std.specs.List.{list_all}
use Rattle.nv_msgpack.specs.Handle.{handle_in, integer_of}
use Rattle.nv_args.specs.Reading.{Arg, list_arg, any_arg, array_in, values_passing, is_mark_place, are_two_integers, is_call, arg_of, read_from, flag_of, string_of, values_of, pairs_of, object_of}
use Rattle.nv_args.specs.inside.Held.{arg_held, args_held, first_wrong, is_flag_kind, is_string_kind, is_list_kind, is_map_kind, is_any_kind}

-- what is found of some, by a default
some-by : {A : Type 0} (f : A → Arg) (o : Option A) (d : A) → is_some (option_map f o) ≡ true
    → option_map f o ≡ Some (f (unwrap_or o d))
some-by f (Some a) d e = refl
some-by f None d e = cc

-- values that pass a test
some-test : (b : Bool) (ts : Trees) → is_some (option_map list_arg (cond b (Some ts) None)) ≡ true
    → option_map list_arg (cond b (Some ts) None) ≡ Some (list_arg ts)
some-test true ts e = refl
some-test false ts e = cc

some-passing : (test : List Tree → Bool) (o : Option Trees)
    → is_some (option_map list_arg (option_and_then (values_passing test) o)) ≡ true
    → option_map list_arg (option_and_then (values_passing test) o)
    ≡ Some (list_arg (unwrap_or o Trees.no_more))
some-passing test (Some ts) e = some-test (test (tree_list ts)) ts e
some-passing test None e = cc

some-place : (b : Bool) (t : Tree) → is_some (cond b (Some (any_arg t)) None) ≡ true
    → cond b (Some (any_arg t)) None ≡ Some (any_arg t)
some-place true t e = refl
some-place false t e = cc

-- a value that is of a kind is held as its argument
pub held-is : (kind : Kind) (t : Tree) → is_some (arg_of kind t) ≡ true
    → arg_of kind t ≡ Some (arg_held kind t)
held-is Kind.integer_type t e = some-by Arg.number_arg (integer_of t) (pos 0) e
held-is Kind.boolean t e = some-by Arg.flag_arg (truth_in t) false e
held-is Kind.string t e = some-by Arg.string_arg (string_in t) [] e
held-is Kind.array t e = some-by list_arg (array_in t) Trees.no_more e
held-is Kind.dict t e = some-by Arg.map_arg (pairs_in t) [] e
held-is Kind.object t e = refl
held-is Kind.buffer t e = some-by Arg.number_arg (handle_in (pos 0) t) (pos 0) e
held-is Kind.window t e = some-by Arg.number_arg (handle_in (pos 1) t) (pos 0) e
held-is Kind.tabpage t e = some-by Arg.number_arg (handle_in (pos 2) t) (pos 0) e
held-is Kind.buffer_id t e = some-by Arg.number_arg (handle_in (pos 0) t) (pos 0) e
held-is Kind.window_id t e = some-by Arg.number_arg (handle_in (pos 1) t) (pos 0) e
held-is Kind.tabpage_id t e = some-by Arg.number_arg (handle_in (pos 2) t) (pos 0) e
held-is Kind.lines t e = some-passing (list_all (λ item. is_some (string_in item))) (array_in t) e
held-is Kind.cursor t e = some-passing are_two_integers (array_in t) e
held-is Kind.call_list t e = some-passing (list_all is_call) (array_in t) e
held-is Kind.mark_place t e = some-place (is_mark_place t) t e

-- the argument at a place, by the kind and the value there
abbrev pub held_there : Option Kind → Option Tree → Option Arg
held_there None t = None
held_there (Some kind) None = None
held_there (Some kind) (Some t) = Some (arg_held kind t)

pub held-there : (kinds : List Kind) (given : List Tree) (place : ℕ)
    → slice_get (args_held kinds given) place ≡ held_there (slice_get kinds place) (slice_get given place)
held-there [] given place = refl
held-there (kind ∷ kinds) [] zero = refl
held-there (kind ∷ kinds) [] (suc place) = none (slice_get kinds place)
  where
    none : (o : Option Kind) → None ≡ held_there o None
    none None = refl
    none (Some k) = refl
held-there (kind ∷ kinds) (t ∷ given) zero = refl
held-there (kind ∷ kinds) (t ∷ given) (suc place) = held-there kinds given place

-- what isn't of the kind gives nothing
pub no-flag : (o : Option Kind) (t : Option Tree) → is_flag_kind o ≡ false → flag_of (held_there o t) ≡ false
no-flag None t e = refl
no-flag (Some kind) None e = refl
no-flag (Some Kind.integer_type) (Some t) e = refl
no-flag (Some Kind.boolean) (Some t) e = cc
no-flag (Some Kind.string) (Some t) e = refl
no-flag (Some Kind.array) (Some t) e = refl
no-flag (Some Kind.dict) (Some t) e = refl
no-flag (Some Kind.object) (Some t) e = refl
no-flag (Some Kind.buffer) (Some t) e = refl
no-flag (Some Kind.window) (Some t) e = refl
no-flag (Some Kind.tabpage) (Some t) e = refl
no-flag (Some Kind.buffer_id) (Some t) e = refl
no-flag (Some Kind.window_id) (Some t) e = refl
no-flag (Some Kind.tabpage_id) (Some t) e = refl
no-flag (Some Kind.lines) (Some t) e = refl
no-flag (Some Kind.cursor) (Some t) e = refl
no-flag (Some Kind.call_list) (Some t) e = refl
no-flag (Some Kind.mark_place) (Some t) e = refl

-- what isn't of the kind gives nothing
pub no-string : (o : Option Kind) (t : Option Tree) → is_string_kind o ≡ false → string_of (held_there o t) ≡ []
no-string None t e = refl
no-string (Some kind) None e = refl
no-string (Some Kind.integer_type) (Some t) e = refl
no-string (Some Kind.boolean) (Some t) e = refl
no-string (Some Kind.string) (Some t) e = cc
no-string (Some Kind.array) (Some t) e = refl
no-string (Some Kind.dict) (Some t) e = refl
no-string (Some Kind.object) (Some t) e = refl
no-string (Some Kind.buffer) (Some t) e = refl
no-string (Some Kind.window) (Some t) e = refl
no-string (Some Kind.tabpage) (Some t) e = refl
no-string (Some Kind.buffer_id) (Some t) e = refl
no-string (Some Kind.window_id) (Some t) e = refl
no-string (Some Kind.tabpage_id) (Some t) e = refl
no-string (Some Kind.lines) (Some t) e = refl
no-string (Some Kind.cursor) (Some t) e = refl
no-string (Some Kind.call_list) (Some t) e = refl
no-string (Some Kind.mark_place) (Some t) e = refl

-- what isn't of the kind gives nothing
pub no-list : (o : Option Kind) (t : Option Tree) → is_list_kind o ≡ false → values_of (held_there o t) ≡ Trees.no_more
no-list None t e = refl
no-list (Some kind) None e = refl
no-list (Some Kind.integer_type) (Some t) e = refl
no-list (Some Kind.boolean) (Some t) e = refl
no-list (Some Kind.string) (Some t) e = refl
no-list (Some Kind.array) (Some t) e = cc
no-list (Some Kind.dict) (Some t) e = refl
no-list (Some Kind.object) (Some t) e = refl
no-list (Some Kind.buffer) (Some t) e = refl
no-list (Some Kind.window) (Some t) e = refl
no-list (Some Kind.tabpage) (Some t) e = refl
no-list (Some Kind.buffer_id) (Some t) e = refl
no-list (Some Kind.window_id) (Some t) e = refl
no-list (Some Kind.tabpage_id) (Some t) e = refl
no-list (Some Kind.lines) (Some t) e = cc
no-list (Some Kind.cursor) (Some t) e = cc
no-list (Some Kind.call_list) (Some t) e = cc
no-list (Some Kind.mark_place) (Some t) e = refl

-- what isn't of the kind gives nothing
pub no-map : (o : Option Kind) (t : Option Tree) → is_map_kind o ≡ false → pairs_of (held_there o t) ≡ []
no-map None t e = refl
no-map (Some kind) None e = refl
no-map (Some Kind.integer_type) (Some t) e = refl
no-map (Some Kind.boolean) (Some t) e = refl
no-map (Some Kind.string) (Some t) e = refl
no-map (Some Kind.array) (Some t) e = refl
no-map (Some Kind.dict) (Some t) e = cc
no-map (Some Kind.object) (Some t) e = refl
no-map (Some Kind.buffer) (Some t) e = refl
no-map (Some Kind.window) (Some t) e = refl
no-map (Some Kind.tabpage) (Some t) e = refl
no-map (Some Kind.buffer_id) (Some t) e = refl
no-map (Some Kind.window_id) (Some t) e = refl
no-map (Some Kind.tabpage_id) (Some t) e = refl
no-map (Some Kind.lines) (Some t) e = refl
no-map (Some Kind.cursor) (Some t) e = refl
no-map (Some Kind.call_list) (Some t) e = refl
no-map (Some Kind.mark_place) (Some t) e = refl

-- what isn't of the kind gives nothing
pub no-any : (o : Option Kind) (t : Option Tree) → is_any_kind o ≡ false → object_of (held_there o t) ≡ nil
no-any None t e = refl
no-any (Some kind) None e = refl
no-any (Some Kind.integer_type) (Some t) e = refl
no-any (Some Kind.boolean) (Some t) e = refl
no-any (Some Kind.string) (Some t) e = refl
no-any (Some Kind.array) (Some t) e = refl
no-any (Some Kind.dict) (Some t) e = refl
no-any (Some Kind.object) (Some t) e = cc
no-any (Some Kind.buffer) (Some t) e = refl
no-any (Some Kind.window) (Some t) e = refl
no-any (Some Kind.tabpage) (Some t) e = refl
no-any (Some Kind.buffer_id) (Some t) e = refl
no-any (Some Kind.window_id) (Some t) e = refl
no-any (Some Kind.tabpage_id) (Some t) e = refl
no-any (Some Kind.lines) (Some t) e = refl
no-any (Some Kind.cursor) (Some t) e = refl
no-any (Some Kind.call_list) (Some t) e = refl
no-any (Some Kind.mark_place) (Some t) e = cc

-- what is of the kind gives what its value gives
pub the-flag : (o : Option Kind) (t : Option Tree) → is_flag_kind o ≡ true → flag_of (held_there o t) ≡ unwrap_or (truth_in (unwrap_or t nil)) false
the-flag None t e = cc
the-flag (Some Kind.integer_type) t e = cc
the-flag (Some Kind.boolean) None e = refl
the-flag (Some Kind.boolean) (Some t) e = refl
the-flag (Some Kind.string) t e = cc
the-flag (Some Kind.array) t e = cc
the-flag (Some Kind.dict) t e = cc
the-flag (Some Kind.object) t e = cc
the-flag (Some Kind.buffer) t e = cc
the-flag (Some Kind.window) t e = cc
the-flag (Some Kind.tabpage) t e = cc
the-flag (Some Kind.buffer_id) t e = cc
the-flag (Some Kind.window_id) t e = cc
the-flag (Some Kind.tabpage_id) t e = cc
the-flag (Some Kind.lines) t e = cc
the-flag (Some Kind.cursor) t e = cc
the-flag (Some Kind.call_list) t e = cc
the-flag (Some Kind.mark_place) t e = cc

-- what is of the kind gives what its value gives
pub the-string : (o : Option Kind) (t : Option Tree) → is_string_kind o ≡ true → string_of (held_there o t) ≡ unwrap_or (string_in (unwrap_or t nil)) []
the-string None t e = cc
the-string (Some Kind.integer_type) t e = cc
the-string (Some Kind.boolean) t e = cc
the-string (Some Kind.string) None e = refl
the-string (Some Kind.string) (Some t) e = refl
the-string (Some Kind.array) t e = cc
the-string (Some Kind.dict) t e = cc
the-string (Some Kind.object) t e = cc
the-string (Some Kind.buffer) t e = cc
the-string (Some Kind.window) t e = cc
the-string (Some Kind.tabpage) t e = cc
the-string (Some Kind.buffer_id) t e = cc
the-string (Some Kind.window_id) t e = cc
the-string (Some Kind.tabpage_id) t e = cc
the-string (Some Kind.lines) t e = cc
the-string (Some Kind.cursor) t e = cc
the-string (Some Kind.call_list) t e = cc
the-string (Some Kind.mark_place) t e = cc

-- what is of the kind gives what its value gives
pub the-list : (o : Option Kind) (t : Option Tree) → is_list_kind o ≡ true → values_of (held_there o t) ≡ unwrap_or (array_in (unwrap_or t nil)) Trees.no_more
the-list None t e = cc
the-list (Some Kind.integer_type) t e = cc
the-list (Some Kind.boolean) t e = cc
the-list (Some Kind.string) t e = cc
the-list (Some Kind.array) None e = refl
the-list (Some Kind.array) (Some t) e = refl
the-list (Some Kind.dict) t e = cc
the-list (Some Kind.object) t e = cc
the-list (Some Kind.buffer) t e = cc
the-list (Some Kind.window) t e = cc
the-list (Some Kind.tabpage) t e = cc
the-list (Some Kind.buffer_id) t e = cc
the-list (Some Kind.window_id) t e = cc
the-list (Some Kind.tabpage_id) t e = cc
the-list (Some Kind.lines) None e = refl
the-list (Some Kind.lines) (Some t) e = refl
the-list (Some Kind.cursor) None e = refl
the-list (Some Kind.cursor) (Some t) e = refl
the-list (Some Kind.call_list) None e = refl
the-list (Some Kind.call_list) (Some t) e = refl
the-list (Some Kind.mark_place) t e = cc

-- what is of the kind gives what its value gives
pub the-map : (o : Option Kind) (t : Option Tree) → is_map_kind o ≡ true → pairs_of (held_there o t) ≡ unwrap_or (pairs_in (unwrap_or t nil)) []
the-map None t e = cc
the-map (Some Kind.integer_type) t e = cc
the-map (Some Kind.boolean) t e = cc
the-map (Some Kind.string) t e = cc
the-map (Some Kind.array) t e = cc
the-map (Some Kind.dict) None e = refl
the-map (Some Kind.dict) (Some t) e = refl
the-map (Some Kind.object) t e = cc
the-map (Some Kind.buffer) t e = cc
the-map (Some Kind.window) t e = cc
the-map (Some Kind.tabpage) t e = cc
the-map (Some Kind.buffer_id) t e = cc
the-map (Some Kind.window_id) t e = cc
the-map (Some Kind.tabpage_id) t e = cc
the-map (Some Kind.lines) t e = cc
the-map (Some Kind.cursor) t e = cc
the-map (Some Kind.call_list) t e = cc
the-map (Some Kind.mark_place) t e = cc

-- what is of the kind gives what its value gives
pub the-any : (o : Option Kind) (t : Option Tree) → is_any_kind o ≡ true → object_of (held_there o t) ≡ unwrap_or t nil
the-any None t e = cc
the-any (Some Kind.integer_type) t e = cc
the-any (Some Kind.boolean) t e = cc
the-any (Some Kind.string) t e = cc
the-any (Some Kind.array) t e = cc
the-any (Some Kind.dict) t e = cc
the-any (Some Kind.object) None e = refl
the-any (Some Kind.object) (Some t) e = refl
the-any (Some Kind.buffer) t e = cc
the-any (Some Kind.window) t e = cc
the-any (Some Kind.tabpage) t e = cc
the-any (Some Kind.buffer_id) t e = cc
the-any (Some Kind.window_id) t e = cc
the-any (Some Kind.tabpage_id) t e = cc
the-any (Some Kind.lines) t e = cc
the-any (Some Kind.cursor) t e = cc
the-any (Some Kind.call_list) t e = cc
the-any (Some Kind.mark_place) None e = refl
the-any (Some Kind.mark_place) (Some t) e = refl

-- where all values are of their kinds, they are read as they are held
pub read-all : (n : ℕ) (name : List ℕ) (parameters : List Parameter) (given : List Tree)
    → length given ≡ length parameters
    → first_wrong (map (λ p. p.kind) parameters) given ≡ None
    → read_from n name parameters given ≡ Ok (args_held (map (λ p. p.kind) parameters) given)
read-all n name [] [] same none = refl
read-all n name [] (t ∷ given) same none = absurd (omega arith)
read-all n name (p ∷ parameters) [] same none = absurd (omega arith)
read-all n name (p ∷ parameters) (t ∷ given) same none =
    by (is_some (arg_of p.kind t)) (first_wrong (map (λ q. q.kind) parameters) given)
    (held-is p.kind t) (λ e. read-all (suc n) name parameters given (omega arith) e) none
  where
    by : (b : Bool) (o : Option ℕ)
        → (b ≡ true → arg_of p.kind t ≡ Some (arg_held p.kind t))
        → (o ≡ None → read_from (suc n) name parameters given ≡ Ok (args_held (map (λ q. q.kind) parameters) given))
        → cond b (option_map (λ place. suc place) o) (Some 0) ≡ None
        → require (arg_of p.kind t) (wrong_type n name (type_name p.kind)) (λ arg.
        answer_after (read_from (suc n) name parameters given) (λ args. Ok (arg ∷ args)))
        ≡ Ok (arg_held p.kind t ∷ args_held (map (λ q. q.kind) parameters) given)
    by false o here rest e = cc
    by true (Some place) here rest e = cc
    by true None here rest e =
        ap (λ (o : Option Arg). require {B = List Arg} o (wrong_type n name (type_name p.kind)) (λ arg.
        answer_after (read_from (suc n) name parameters given) (λ args. Ok (arg ∷ args)))) (here refl)
        ∙ ap (λ (r : Result (List Arg) ApiFault). answer_after r (λ args. Ok (arg_held p.kind t ∷ args))) (rest refl)

-- the first value that isn't of its kind is refused
pub read-wrong : (n m : ℕ) (name : List ℕ) (parameters : List Parameter) (given : List Tree) (place : ℕ) (kind : Kind)
    → m ≡ n + place
    → first_wrong (map (λ p. p.kind) parameters) given ≡ Some place
    → slice_get (map (λ p. p.kind) parameters) place ≡ Some kind
    → read_from n name parameters given ≡ Err (wrong_type m name (type_name kind))
read-wrong n m name [] given place kind number wrong there = cc
read-wrong n m name (p ∷ parameters) [] place kind number wrong there = cc
read-wrong n m name (p ∷ parameters) (t ∷ given) place kind number wrong there =
    by (arg_of p.kind t) (first_wrong (map (λ q. q.kind) parameters) given) place refl
    (λ later e w h. read-wrong (suc n) m name parameters given later kind e w h) number wrong there
  where
    by : (o : Option Arg) (w : Option ℕ) (place : ℕ)
        → first_wrong (map (λ q. q.kind) parameters) given ≡ w
        → ((later : ℕ) → m ≡ suc n + later
        → first_wrong (map (λ q. q.kind) parameters) given ≡ Some later
        → slice_get (map (λ q. q.kind) parameters) later ≡ Some kind
        → read_from (suc n) name parameters given ≡ Err (wrong_type m name (type_name kind)))
        → m ≡ n + place
        → cond (is_some o) (option_map (λ k. suc k) w) (Some 0) ≡ Some place
        → slice_get (p.kind ∷ map (λ q. q.kind) parameters) place ≡ Some kind
        → require o (wrong_type n name (type_name p.kind)) (λ arg.
        answer_after (read_from (suc n) name parameters given) (λ args. Ok (arg ∷ args)))
        ≡ Err (wrong_type m name (type_name kind))
    by None w zero here rest number wrong there =
        let k : p.kind ≡ kind = cc in
        let same : n ≡ m = omega arith in
        ap (λ (i : ℕ). Err (wrong_type i name (type_name p.kind))) same
        ∙ ap (λ (q : Kind). Err (wrong_type m name (type_name q))) k
    by None w (suc place) here rest number wrong there = cc
    by (Some arg) None place here rest number wrong there = cc
    by (Some arg) (Some found) zero here rest number wrong there = cc
    by (Some arg) (Some found) (suc place) here rest number wrong there =
        let same : found ≡ place = cc in
        ap (λ (r : Result (List Arg) ApiFault). answer_after r (λ args. Ok (arg ∷ args)))
        (rest place (omega arith) (here ∙ ap Some same) there)
