-- The kinds by which words may be refused: one alone, or two by which no text is asked for.
use Rattle.std.proofs.Common.{◌≡◌, ◌==◌, ◌&&◌, ◌||◌, ◌+◌, ℕ, Bool, true, false, not, zero, suc, List, [], ◌∷◌, Option, Some, None, is_some, if◌then◌else◌, nat_lt, codes, refl, drop, length, min}
use Rattle.std.specs.Prelude.{⊤, encode_utf8, find, slice_get}
use Rattle.std.specs.List.{list_any}
use Rattle.std.specs.Option.{option_map_or}
use Rattle.std.specs.Str.{bytes_eq, chars}
use Rattle.clap.specs.Lexer.{long_of, short_of}
use Rattle.clap.specs.Facts.{explicit_source, parser_of_value, unwrap_or_range}
use Rattle.clap.specs.Matches.{count_text}
use Rattle.clap.specs.Takes.{is_given}
use Rattle.clap.specs.Values.{refused_kind}
use Rattle.clap.specs.ValueTests.{accepts}
use Rattle.clap.specs.Kinds.{Kinds, check_kinds, or_else, range_kinds, request_kinds, value_kinds, values_kinds}
use Rattle.clap.specs.Walk.{Held, Names, Row, Rule, Step, Text, Walk, action_of, arg_by_id, arg_by_index, arg_by_long, answers_to, arg_by_short, attached_value, count_of, finished, has_row, is_empty, is_pending, most_values, nothing_held, reacted, settled, subcommand_met, takes_several, takes_values, values_or_missing, walk, walk_from, walked, with_default, word_met}
use Rattle.clap.specs.Walk as steps
use Rattle.clap.specs.Simple.{App, Shape, argument_words, built, entered, label_of, names_of}
use Rattle.clap.specs.Faults.{action_fault, built_fault, bundle_fault, bundle_step_fault, check_fault, count_fault, default_fault, defaults_fault, entered_fault, fault_of, flag_word_fault, flags_fault, given_default_fault, level_fault, long_fault, option_fault, other_fault, positional_fault, react_fault, repeat_fault, set_fault, settle_fault, short_fault, step_fault, stray_fault, turn_fault, use_fault, values_fault, walk_fault, word_fault}
use Rattle.clap.specs.declared.builder.action.ArgAction.{ArgAction}
use Rattle.clap.specs.declared.builder.action.ArgAction.TheVariants as action
use Rattle.clap.specs.declared.builder.value_parser.ValueParser.{ValueParser}
use Rattle.clap.specs.declared.error.kind.ErrorKind.{ErrorKind}
use Rattle.clap.specs.declared.error.kind.ErrorKind.TheVariants.{ArgumentConflict, DisplayHelp, InvalidSubcommand, InvalidValue, TooFewValues, TooManyValues, UnknownArgument, WrongNumberOfValues}
use Rattle.nv_words.specs.Commands.{program_app}

-- one kind at most, or the two of a word that stands where a subcommand may
abbrev pub IsSingle : Kinds → Type 0
IsSingle [] = ⊤
IsSingle (k ∷ []) = ⊤
IsSingle (k ∷ l ∷ ks) = k ∷ l ∷ ks ≡ UnknownArgument ∷ InvalidSubcommand ∷ []

first_single : (a b : Kinds) → IsSingle a → IsSingle b → IsSingle (or_else a b)
first_single [] b ha hb = hb
first_single (k ∷ ks) b ha hb = ha

either_single : (x : Bool) (a b : Kinds) → IsSingle a → IsSingle b → IsSingle (if x then a else b)
either_single true a b ha hb = ha
either_single false a b ha hb = hb

one_or : (x : Bool) (k : ErrorKind) (b : Kinds) → IsSingle b → IsSingle (if x then k ∷ [] else b)
one_or true k b hb = tt
one_or false k b hb = hb

none_or : (x : Bool) (b : Kinds) → IsSingle b → IsSingle (if x then [] else b)
none_or true b hb = tt
none_or false b hb = hb

some_single : {X : Type 0} (f : X → Kinds) (o : Option X) (d : Kinds) → ((x : X) → IsSingle (f x)) → IsSingle d → IsSingle (option_map_or f o d)
some_single f None d h hd = hd
some_single f (Some x) d h hd = h x

-- ---- one use of an argument

value_single : (i : Bool) (p : ValueParser) (v : Text) → IsSingle (value_kinds i p v)
value_single i p v = none_or (accepts i p v) (refused_kind p ∷ []) tt

values_single : (i : Bool) (p : ValueParser) (vs : List Text) → IsSingle (values_kinds i p vs)
values_single i p [] = tt
values_single i p (v ∷ vs) = first_single (value_kinds i p v) (values_kinds i p vs) (value_single i p v) (values_single i p vs)

fault_single : (a : Rule) (values : List Text) → IsSingle (values_fault a values)
fault_single a values = values_single a.ignore_case (parser_of_value a.parser) values

request_single : (x : ArgAction) → IsSingle (request_kinds x)
request_single action.Set = tt
request_single action.Append = tt
request_single action.SetTrue = tt
request_single action.SetFalse = tt
request_single action.Count = tt
request_single action.Help = tt
request_single action.HelpShort = tt
request_single action.HelpLong = tt
request_single action.Version = tt

-- by the tests of a range: none where some are wanted, one number alone, that number, fewer, more
in_range : (none alone just few many : Bool)
    → IsSingle (if none then InvalidValue ∷ [] else (if alone then (if just then [] else WrongNumberOfValues ∷ []) else (if few then TooFewValues ∷ [] else (if many then TooManyValues ∷ [] else []))))
in_range true alone just few many = tt
in_range false true true few many = tt
in_range false true false few many = tt
in_range false false just true many = tt
in_range false false just false true = tt
in_range false false just false false = tt

range_single : (least most n : ℕ) → IsSingle (range_kinds least most n)
range_single least most n = in_range (nat_lt 0 least && n == 0) (least == most) (least == n) (nat_lt n least) (nat_lt most n)

set_single : (again : Bool) (a : Rule) (values : List Text) (rows : List Row) → IsSingle (set_fault again a values rows)
set_single again a values rows =
    first_single (repeat_fault again a.id rows) (values_fault a values) (one_or (has_row a.id rows && not again) ArgumentConflict [] tt) (fault_single a values)

count_single : (a : Rule) (values : List Text) (rows : List Row) → IsSingle (count_fault a values rows)
count_single a [] rows = value_single a.ignore_case (parser_of_value a.parser) (count_text (min (count_of a.id rows + 1) 255))
count_single a (v ∷ vs) rows = fault_single a (v ∷ vs)

action_single : (x : ArgAction) (again : Bool) (a : Rule) (values : List Text) (rows : List Row) → IsSingle (action_fault x again a values rows)
action_single action.Set again a values rows = set_single again a values rows
action_single action.Append again a values rows = fault_single a values
action_single action.SetTrue again a values rows = set_single again a values rows
action_single action.SetFalse again a values rows = set_single again a values rows
action_single action.Count again a values rows = count_single a values rows
action_single action.Help again a values rows = tt
action_single action.HelpShort again a values rows = tt
action_single action.HelpLong again a values rows = tt
action_single action.Version again a values rows = tt

use_single : (again : Bool) (a : Rule) (values : List Text) (rows : List Row) → IsSingle (use_fault again a values rows)
use_single again a values rows =
    let least = (unwrap_or_range a.range).start_inclusive in
    first_single (range_kinds least (most_values a) (length values)) (action_fault (action_of a) again a (values_or_missing a values) rows)
    (range_single least (most_values a) (length values)) (action_single (action_of a) again a (values_or_missing a values) rows)

-- ---- the walk

module _ (c : List Rule) (again : Bool) where
  settle_single : (h : Held) → IsSingle (settle_fault c again h)
  settle_single h =
      some_single (λ p. option_map_or (λ a. use_fault again a p.1 h.rows) (arg_by_id c p.0) []) h.pending []
      (λ p. some_single (λ a. use_fault again a p.1 h.rows) (arg_by_id c p.0) [] (λ a. use_single again a p.1 h.rows) tt) tt

  react_single : (a : Rule) (values : List Text) (h : Held) → IsSingle (react_fault c again a values h)
  react_single a values h = first_single (settle_fault c again h) (use_fault again a values (settled c h).rows) (settle_single h) (use_single again a values (settled c h).rows)

  option_single : (a : Rule) (v : Option Text) (h : Held) → IsSingle (option_fault c again a v h)
  option_single a (Some v) h = react_single a (v ∷ []) h
  option_single a None h = settle_single h

  long_single : (a : Option Rule) (v : Option Text) (h : Held) → IsSingle (long_fault c again a v h)
  long_single None v h = tt
  long_single (Some a) v h =
      either_single (takes_values a) (option_fault c again a v h) (if is_some v then TooManyValues ∷ [] else react_fault c again a [] h) (option_single a v h)
      (one_or (is_some v) TooManyValues (react_fault c again a [] h) (react_single a [] h))

  short_single : (a : Option Rule) (rest : Text) (h : Held) (next : Held → Kinds) → ((g : Held) → IsSingle (next g)) → IsSingle (short_fault c again a rest h next)
  short_single None rest h next each = tt
  short_single (Some a) rest h next each =
      let after = or_else (react_fault c again a [] h) (next (reacted c a [] h)) in
      either_single (takes_values a) (option_fault c again a (attached_value rest) h) after (option_single a (attached_value rest) h)
      (first_single (react_fault c again a [] h) (next (reacted c a [] h)) (react_single a [] h) (each (reacted c a [] h)))

  bundle_single : (o : Option ℕ) (flags : Text) (skip : ℕ) (h : Held) (next : Text → ℕ → Held → Kinds) → ((t : Text) (n : ℕ) (g : Held) → IsSingle (next t n g))
      → IsSingle (bundle_step_fault c again o flags skip h next)
  bundle_single None flags skip h next each = tt
  bundle_single (Some x) flags zero h next each =
      let rest = drop (length (encode_utf8 x)) flags in
      short_single (arg_by_short c x) rest h (next rest 0) (λ g. each rest 0 g)
  bundle_single (Some x) flags (suc skip) h next each = each (drop (length (encode_utf8 x)) flags) skip h

  flags_single : (k : ℕ) (flags : Text) (skip : ℕ) (h : Held) → IsSingle (flags_fault c again k flags skip h)
  unfolding flags_fault
  flags_single zero flags skip h = tt
  flags_single (suc k) flags skip h = bundle_single (slice_get (chars flags) 0) flags skip h (flags_fault c again k) (λ t n g. flags_single k t n g)

  flag_word_single : (long : Option (Text × Option Text)) (word : Text) (h : Held) → IsSingle (flag_word_fault c again long word h)
  flag_word_single (Some p) word h = long_single (arg_by_long c p.0) p.1 h
  flag_word_single None word h =
      some_single (λ flags. bundle_fault c again flags h) (short_of word) [] (λ flags. flags_single (length flags) flags h.skip (record h { skip = 0 })) tt

  positional_single : (a : Rule) (h : Held) → IsSingle (positional_fault c again a h)
  positional_single a h = none_or (is_pending a h.pending && takes_several a) (settle_fault c again h) (settle_single h)

-- a command without `help` for a subcommand
no_help : (named disabled : Bool) (kinds : Kinds) → disabled ≡ true → IsSingle (if named && not disabled then kinds else [])
no_help false disabled kinds is = tt
no_help true true kinds is = tt
no_help true false kinds is = cc

module _ (s : Shape) (names : Names) (plain : s.disable_help_subcommand ≡ true) where
  other_single : (met : Option Text) (word : Text) (h : Held) → IsSingle (other_fault s met word h)
  other_single (Some name) word h = no_help (bytes_eq name (codes "help")) s.disable_help_subcommand (DisplayHelp ∷ InvalidSubcommand ∷ []) plain
  other_single None word h =
      none_or (bytes_eq word (45 ∷ 45 ∷ [])) (flag_word_fault s.rules s.args_override_self (long_of word) word h)
      (flag_word_single s.rules s.args_override_self (long_of word) word h)

  stray_single : IsSingle (stray_fault s)
  stray_single = either_single s.is_leaf (UnknownArgument ∷ []) (UnknownArgument ∷ InvalidSubcommand ∷ []) tt refl

  place_single : (position : ℕ) (h : Held) (step : Step) → IsSingle (step_fault s position h step)
  place_single position h steps.value =
      some_single (λ a. positional_fault s.rules s.args_override_self a h) (arg_by_index s.rules position) (stray_fault s)
      (λ a. positional_single s.rules s.args_override_self a h) stray_single
  place_single position h (steps.next waiting) = tt
  place_single position h (steps.trailing place) = tt
  place_single position h (steps.subcommand name) = tt

  word_single : (w : Walk) (word : Text) → IsSingle (word_fault s names w.is_trailing w.waiting word w.held)
  word_single w word =
      none_or w.is_trailing (other_fault s (subcommand_met names w.waiting word) word w.held) (other_single (subcommand_met names w.waiting word) word w.held)

  turn_single : (w : Walk) (word : Text) → IsSingle (turn_fault s names w word)
  turn_single w word =
      let met = word_met s.rules names w.is_trailing w.waiting w.position word w.held in
      let first = word_fault s names w.is_trailing w.waiting word w.held in
      let next = step_fault s w.position met.0 met.1 in
      none_or (is_some w.stopped) (or_else first next) (first_single first next (word_single w word) (place_single w.position met.0 met.1))

  walk_single : (w : Walk) (words : List Text) → IsSingle (walk_fault s names w words)
  unfolding walk_fault
  walk_single w [] = tt
  walk_single w (word ∷ rest) =
      first_single (turn_fault s names w word) (walk_fault s names (walked s.rules names w word) rest) (turn_single w word) (walk_single (walked s.rules names w word) rest)

-- ---- after the walk

default_single : (rows : List Row) (a : Rule) → IsSingle (default_fault rows a)
default_single rows a =
    none_or (has_row a.id rows || is_empty a.defaults) (given_default_fault a a.defaults)
    (first_single (request_kinds (action_of a)) (values_fault a a.defaults) (request_single (action_of a)) (fault_single a a.defaults))

defaults_single : (rows : List Row) (rules : List Rule) → IsSingle (defaults_fault rows rules)
unfolding defaults_fault
defaults_single rows [] = tt
defaults_single rows (a ∷ rest) = first_single (default_fault rows a) (defaults_fault (with_default rows a) rest) (default_single rows a) (defaults_single (with_default rows a) rest)

checks_single : (help subcommand argument : Bool) → IsSingle (check_kinds help subcommand argument)
checks_single true subcommand argument = tt
checks_single false true argument = tt
checks_single false false true = tt
checks_single false false false = tt

check_single : (s : Shape) (rows : List Row) (has : Bool) → IsSingle (check_fault s rows has)
check_single s rows has =
    checks_single (not has && (s.arg_required_else_help && not (list_any (λ r. explicit_source r.source) rows))) (not has && s.subcommand_required)
    (not (s.subcommand_negates_reqs && has) && list_any (λ a. a.required && not (is_given a.id rows)) s.rules)

level_single : (s : Shape) (names : Names) → s.disable_help_subcommand ≡ true → (h : Held) (words : List Text) (has : Bool) (below : Kinds) → IsSingle below
    → IsSingle (level_fault s names h words has below)
level_single s names plain h words has below under =
    let end = (walk s.rules names h words).held in
    let check = check_fault s (finished s.rules end) has in
    let defaults = defaults_fault (settled s.rules end).rows s.rules in
    let settle = settle_fault s.rules s.args_override_self end in
    first_single (walk_fault s names (walk_from h) words) (or_else below (or_else settle (or_else defaults check))) (walk_single s names plain (walk_from h) words)
    (first_single below (or_else settle (or_else defaults check)) under
    (first_single settle (or_else defaults check) (settle_single s.rules s.args_override_self end)
    (first_single defaults check (defaults_single (settled s.rules end).rows s.rules) (check_single s (finished s.rules end) has))))

-- commands without `help` for a subcommand
abbrev AllPlain : List Shape → Type 0
AllPlain [] = ⊤
AllPlain (s ∷ subs) = (s.disable_help_subcommand ≡ true) × AllPlain subs

-- what is found of them is one
found_single : (test : Shape → Bool) (f : Shape → Kinds) (subs : List Shape) → AllPlain subs
    → ((s : Shape) → s.disable_help_subcommand ≡ true → IsSingle (f s)) → IsSingle (option_map_or f (find test subs) [])
found_single test f [] plain h = tt
found_single test f (s ∷ subs) plain h = first (test s) refl (found_single test f subs plain.1 h)
  where
    first : (x : Bool) → test s ≡ x → IsSingle (option_map_or f (find test subs) []) → IsSingle (option_map_or f (find test (s ∷ subs)) [])
    first true is rest = rw is (h s plain.0)
    first false is rest = rw is rest

built_single : (a : App) → a.top.disable_help_subcommand ≡ true → AllPlain a.subs → (h : Held) (words : List Text) → IsSingle (built_fault a h words)
built_single a plain each h words =
    let stop = (walk a.top.rules (names_of a) h words).stopped in
    level_single a.top (names_of a) plain h words (is_some (entered a stop)) (entered_fault a stop)
    (some_single (λ p. option_map_or (λ s. level_fault s [] nothing_held p.1 false []) (find (λ s. answers_to p.0 (label_of s)) a.subs) []) stop []
    (λ p. found_single (λ s. answers_to p.0 (label_of s)) (λ s. level_fault s [] nothing_held p.1 false []) a.subs each (λ s is. level_single s [] is nothing_held p.1 false [] tt)) tt)

-- the words of the program
pub program_single : (words : List Text) → IsSingle (fault_of program_app words)
program_single words =
    built_single (built program_app) refl (refl, (refl, (refl, (refl, (refl, (refl, tt)))))) nothing_held (argument_words program_app words)
