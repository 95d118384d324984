-- The words of the command line, as `clap` reads them (own rule; documentation of `clap`).
use Rattle.std.specs.Prelude.{◌≡◌, ◌⊎◌, ◌≤◌, ⊤, ℕ, Bool, true, false, List, [], ◌∷◌, codes, IsSome, Option, Some, None, if◌then◌else◌}
use Rattle.std.specs.Option.{option_map}
use Rattle.std.specs.Str.{bytes_eq}
use Rattle.std.specs.Str.Parse.{digits_value, without_leading_plus}
use Rattle.clap.specs.Words.{App, Row, Rule, Shape, Text, fault_of, first_of, new_app, new_rule, one_of, subcommand_of, with_rule, with_subcommand}
use Rattle.clap.specs.Simple.{on_top}
use Rattle.clap.specs.Kinds.{Kinds}
use Rattle.clap.specs.declared.builder.action.ArgAction.TheVariants as action
use Rattle.clap.specs.declared.builder.value_parser.ValueParser.TheVariants as vp
use Rattle.clap.specs.declared.error.kind.ErrorKind.{ErrorKind}
use Rattle.clap.specs.declared.error.kind.ErrorKind.TheVariants.{DisplayHelp, DisplayVersion}
use Rattle.nv_words.specs.declared.command.Command.{Command}
use Rattle.nv_words.specs.declared.command.Command.TheVariants.{Embed, Serve, Replay, Generate, Follow, Show}
use Rattle.nv_words.specs.declared.command.Notice.{Notice}
use Rattle.nv_words.specs.declared.command.Notice.TheVariants.{Help, Version}

-- `--outbox N`: how many messages an outbox holds
abbrev pub outbox_rule : Rule
outbox_rule = record (new_rule (codes "outbox")) {
  long = Some (codes "outbox");
  parser = Some (vp.Unsigned 16 1048576);
  defaults = codes "4096" ∷ [];
}

-- `--sessions N`: how many sessions run at once
abbrev pub sessions_rule : Rule
sessions_rule = record (new_rule (codes "sessions")) {
  long = Some (codes "sessions");
  parser = Some (vp.Unsigned 1 256);
  defaults = codes "64" ∷ [];
}

-- `--listen A`, which must be there: the address
abbrev pub listen_rule : Rule
listen_rule = record (new_rule (codes "listen")) {
  long = Some (codes "listen");
  required = true;
}

-- `--book F`: the file that the book goes to
abbrev pub book_rule : Rule
book_rule = record (new_rule (codes "book")) { long = Some (codes "book") }

-- `F`, which must be there: the file that holds the book
abbrev pub file_rule : Rule
file_rule = record (new_rule (codes "file")) { required = true }

-- `--check`: what is kept in the book is compared
abbrev pub check_rule : Rule
check_rule = record (new_rule (codes "check")) {
  long = Some (codes "check");
  action = Some action.SetTrue;
}

-- `N`, which must be there: the number of a script
abbrev pub number_rule : Rule
number_rule = record (new_rule (codes "number")) {
  parser = Some (vp.Unsigned 0 18446744073709551615);
  required = true;
}

-- `A`, which must be there: the address of a server
abbrev pub address_rule : Rule
address_rule = record (new_rule (codes "address")) { required = true }

-- `B`, which must be there: the number of a buffer
abbrev pub buffer_rule : Rule
buffer_rule = record (new_rule (codes "buffer")) {
  parser = Some (vp.Unsigned 1 4611686018427387904);
  required = true;
}

-- `embed [--outbox N]`
abbrev pub embed_app : App
embed_app = with_rule (new_app (codes "embed")) outbox_rule

-- `serve --listen A [--sessions N] [--outbox N] [--book F]`
abbrev pub serve_app : App
serve_app =
    with_rule (with_rule (with_rule (with_rule (new_app (codes "serve")) listen_rule)
    sessions_rule) outbox_rule) book_rule

-- `replay F [--check]`
abbrev pub replay_app : App
replay_app = with_rule (with_rule (new_app (codes "replay")) file_rule) check_rule

-- `generate N`
abbrev pub generate_app : App
generate_app = with_rule (new_app (codes "generate")) number_rule

-- `follow A B`
abbrev pub follow_app : App
follow_app = with_rule (with_rule (new_app (codes "follow")) address_rule) buffer_rule

-- `help`, a command of its own
abbrev pub help_app : App
help_app = new_app (codes "help")

-- `--version`, which `clap` answers
abbrev pub version_rule : Rule
version_rule = record (new_rule (codes "version")) {
  long = Some (codes "version");
  action = Some action.Version;
}

-- one of these, without the program's name before it, and with no other `help` than ours
abbrev pub required_subcommand : Shape → Shape
required_subcommand s = record s {
  no_binary_name = true;
  disable_help_subcommand = true;
  subcommand_required = true;
}

-- The command line of the program. `clap` adds `--help` and `-h` to it and to each subcommand.
abbrev pub program_app : App
program_app =
    on_top required_subcommand
    (with_subcommand (with_subcommand (with_subcommand (with_subcommand (with_subcommand
    (with_subcommand (with_rule (new_app (codes "nvimd")) version_rule) embed_app.top)
    serve_app.top) replay_app.top) generate_app.top) follow_app.top) help_app.top)

-- what `clap` is asked for where it answers words itself, by the kind of its answer
abbrev pub notice_of_kind : ErrorKind → Option Notice
notice_of_kind DisplayHelp = Some Help
notice_of_kind DisplayVersion = Some Version
notice_of_kind _ = None

-- and by the kinds that its answer to them may have
abbrev pub notice_of_fault : Kinds → Option Notice
notice_of_fault [] = None
notice_of_fault (kind ∷ []) = notice_of_kind kind
notice_of_fault (kind ∷ other ∷ more) = None

-- `clap` takes these words, or answers them with its help or version; only want of memory keeps it
-- from that
abbrev pub AreWords : List Text → Type 0
AreWords words =
    (fault_of program_app words ≡ []) ⊎ IsSome (notice_of_fault (fault_of program_app words))

-- A command with its values. `embed`: how many messages an outbox holds. `serve`: the address, how
-- many sessions run at once, how many messages an outbox holds, the book's file. `replay`: the
-- file, and whether to compare. `generate`: the number. `follow`: the address, and the number of
-- the buffer. Help and version: which of the two.
pub data PlainCommand : Type 0 where
  embeds : ℕ → PlainCommand
  serves : Text → ℕ → ℕ → Option Text → PlainCommand
  replays : Text → Bool → PlainCommand
  generates : ℕ → PlainCommand
  follows_buffer : Text → ℕ → PlainCommand
  shows : Notice → PlainCommand

-- what a command holds
abbrev pub plain_command : Command → PlainCommand
plain_command (Embed outbox) = embeds outbox
plain_command (Serve address sessions outbox book) =
    serves address.now sessions outbox (option_map (λ name. name.now) book)
plain_command (Replay file check) = replays file.now check
plain_command (Generate number) = generates number
plain_command (Follow address buffer) = follows_buffer address.now buffer
plain_command (Show notice) = shows notice

-- an outbox holds from 16 to 1,048,576 messages, and from 1 to 256 sessions run at once; the number
-- of a script is below 2^64, and that of a buffer is from 1 to 2^62
abbrev pub HasFairNumbers : PlainCommand → Type 0
HasFairNumbers (embeds outbox) = (16 ≤ outbox) × (outbox ≤ 1048576)
HasFairNumbers (serves address sessions outbox book) =
    (1 ≤ sessions) × (sessions ≤ 256) × (16 ≤ outbox) × (outbox ≤ 1048576)
HasFairNumbers (replays file check) = ⊤
HasFairNumbers (generates number) = number ≤ 18446744073709551615
HasFairNumbers (follows_buffer address buffer) = (1 ≤ buffer) × (buffer ≤ 4611686018427387904)
HasFairNumbers (shows notice) = ⊤

-- the number that a value spells
abbrev pub number_spelled : Option Text → ℕ
number_spelled None = 0
number_spelled (Some text) = digits_value 10 (without_leading_plus text)

-- the text of a value
abbrev pub text_given : Option Text → Text
text_given None = []
text_given (Some text) = text

-- a flag is set where its value is `true`
abbrev pub is_flagged : Option Text → Bool
is_flagged None = false
is_flagged (Some text) = bytes_eq text (codes "true")

-- the command of `serve` with its values
abbrev pub serve_of_rows : List Row → PlainCommand
serve_of_rows rows =
    serves (text_given (first_of (codes "listen") rows))
    (number_spelled (one_of (codes "sessions") rows))
    (number_spelled (one_of (codes "outbox") rows)) (first_of (codes "book") rows)

-- the command of `replay` with its values
abbrev pub replay_of_rows : List Row → PlainCommand
replay_of_rows rows =
    replays (text_given (first_of (codes "file") rows)) (is_flagged (first_of (codes "check") rows))

-- the command of `follow` with its values
abbrev pub follow_of_rows : List Row → PlainCommand
follow_of_rows rows =
    follows_buffer (text_given (first_of (codes "address") rows))
    (number_spelled (one_of (codes "buffer") rows))

-- the command of a subcommand's name with its values
abbrev pub command_of_name : Text → List Row → Option PlainCommand
command_of_name name rows =
    if bytes_eq name (codes "embed")
    then Some (embeds (number_spelled (one_of (codes "outbox") rows)))
    else if bytes_eq name (codes "serve") then Some (serve_of_rows rows)
    else if bytes_eq name (codes "replay") then Some (replay_of_rows rows)
    else if bytes_eq name (codes "generate")
    then Some (generates (number_spelled (one_of (codes "number") rows)))
    else if bytes_eq name (codes "follow") then Some (follow_of_rows rows)
    else if bytes_eq name (codes "help") then Some (shows Help) else None

abbrev pub command_of_rows : Option (Text × List Row) → Option PlainCommand
command_of_rows None = None
command_of_rows (Some found) = command_of_name found.0 found.1

-- what `clap` shows itself, or else the command of a subcommand
abbrev pub command_of_notice : Option Notice → Option PlainCommand → Option PlainCommand
command_of_notice (Some notice) found = Some (shows notice)
command_of_notice None found = found

-- the command that words ask for, if they are taken
abbrev pub command_asked : List Text → Option PlainCommand
command_asked words =
    command_of_notice (notice_of_fault (fault_of program_app words))
    (command_of_rows (subcommand_of program_app words))
