-- What a run of the program did, by the words of its command line.
use Rattle.std.specs.Prelude.{◌≡◌, ◌⊎◌, ℕ, pos, Bool, List, Option, Some, None, ⊤}
use Rattle.nv_io.specs.Faults.{Rose}
use Rattle.nv_io.specs.Streams.{GaveEach, Tells}
use Rattle.nv_io.specs.Words.{DialWords, FilesWords, HalvesWords, PortWords, SinkWords, SourceWords}
use Rattle.nv_io.specs.declared.lanes.Ended.{Ended}
use Rattle.nv_io.specs.declared.lanes.Ended.TheVariants.{ReadFault, WriteFault}
use Rattle.nv_dispatch.specs.Runs.{usual_limits}
use Rattle.nv_history.specs.Events.{Entry}
use Rattle.nv_history.specs.Worlds.{fresh_world}
use Rattle.nv_core.specs.declared.start.Start.{Start}
use Rattle.nv_core.specs.Contents.{plain_entries}
use Rattle.nv_core.specs.Ledgers.{Ledger}
use Rattle.nv_gen.specs.Story.{script_of}
use Rattle.nv_watch.specs.Verdicts.{Sight}
use Rattle.nv_watch.specs.declared.verdict.Verdict.{Verdict}
use Rattle.nv_replay.specs.Ends.{IsNothingDone, WriteEnds}
use Rattle.nv_replay.specs.Entering.{entered}
use Rattle.nv_replay.specs.declared.ending.ReplayEnd.{ReplayEnd}
use Rattle.nv_replay.specs.declared.ending.ReplayEnd.TheVariants as replay
use Rattle.nv_replay.specs.declared.ending.WriteEnd.{WriteEnd}
use Rattle.nv_replay.specs.declared.ending.WriteEnd.TheVariants as write
use Rattle.nv_mirror.specs.declared.followed.Followed.TheVariants as followed
use Rattle.nv_session.specs.Ends.{SessionEnds}
use Rattle.nv_serve.specs.Links.{LanesWords}
use Rattle.nv_words.specs.Commands.{AreWords, PlainCommand, command_asked, embeds, serves, replays, generates, follows_buffer, shows}
use Rattle.nv_words.specs.declared.command.Notice.{Notice}
use Rattle.nv_run.specs.Commands.{RunsAs, usual_start}
use Rattle.nv_run.specs.Following.{HasMarksInPlace, IsFolded, IsShown}
use Rattle.nv_run.specs.Mirroring.{LeavesDial}
use Rattle.nv_run.specs.Notices.{WritesText, text_of_notice}
use Rattle.nv_run.specs.Replaying.{LeavesFile, PlaysBook}
use Rattle.nv_run.specs.Serving.{IfBook, LeavesBook, ServerEnds}
use Rattle.nv_run.specs.Statuses.{line_of, line_of_follow, line_of_refusal, line_of_replay, line_of_script, line_of_server, status_of, status_of_follow, status_of_replay, status_of_script, status_of_server}
use Rattle.nv_run.specs.declared.command.TheConstants.{USUAL_OUTBOX}
use Rattle.nv_run.specs.declared.mirroring.FollowEnd.{FollowEnd}
use Rattle.nv_run.specs.declared.mirroring.FollowEnd.TheVariants as follow
use Rattle.nv_run.specs.declared.serving.ServerEnd.{ServerEnd}
use Rattle.nv_run.specs.declared.serving.ServerEnd.TheVariants as server

-- what a run is handed, as it is before or after it: the devices, and the history
pub record Devices (I S E F P D : Type 0) : Type 0 where
  pub input : I
  pub output : S
  pub errors : E
  pub files : F
  pub port : P
  pub dial : D
  pub kept : Ledger

-- the words of the devices, and of what files, port and dial give: sources and sinks, lanes, and
-- the halves of connections
pub record DevicesWords (I S E F P D From To L LI LS DI DS : Type 0) : Type 0 where
  pub input : I → SourceWords
  pub output : S → SinkWords
  pub errors : E → SinkWords
  pub files : F → FilesWords From To
  pub from : From → SourceWords
  pub to : To → SinkWords
  pub port : P → PortWords L
  pub lanes : LanesWords L LI LS
  pub dial : D → DialWords DI DS
  pub halves : HalvesWords DI DS

module _ {I S E F P D From To L LI LS DI DS : Type 0}
    (t : DevicesWords I S E F P D From To L LI LS DI DS) (status : ℕ)
    (old new : Devices I S E F P D) where
  -- this line went to `errors`, or a front of it and a fault rose there
  abbrev pub TellsLine : List ℕ → Type 0
  TellsLine line = Tells line (t.errors old.errors) (t.errors new.errors)

  -- the count of faults of the output rose
  abbrev pub OutputRose : Type 0
  OutputRose = Rose (t.output old.output).faults (t.output new.output).faults

  -- the entries of the history
  abbrev pub entries_found : List Entry
  entries_found = plain_entries old.kept.entries

  abbrev pub entries_kept : List Entry
  entries_kept = plain_entries new.kept.entries

  -- `embed`: one session ended so, of what each read gave, with the history that was kept. Faults
  -- come only where they rose.
  pub record EmbedEnds (outbox : ℕ) : Type 0 where
    pub ended : Ended
    pub status_is : status ≡ status_of ended
    pub line : TellsLine (line_of ended)
    pub pieces : List (List ℕ)
    pub gave : GaveEach (t.input old.input) (t.input new.input) pieces
    pub ends : SessionEnds (usual_start outbox) ended pieces (t.input new.input).left entries_kept
        (t.output old.output).taken (t.output new.output).taken
    pub read : ended ≡ ReadFault → Rose (t.input old.input).faults (t.input new.input).faults
    pub write : ended ≡ WriteFault → OutputRose
    pub others : (new.files ≡ old.files) × (new.port ≡ old.port) × (new.dial ≡ old.dial)

  -- `serve`: lanes of the port were served so, by the one history that was kept, and its book was
  -- written so where one is asked for; without a book no file fails. Each lane that the port gave
  -- came back.
  pub record ServeEnds (sessions outbox : ℕ) (book : Option (List ℕ)) : Type 0 where
    pub ended : ServerEnd
    pub status_is : status ≡ status_of_server ended
    pub line : TellsLine (line_of_server ended)
    pub lanes : ServerEnds t.lanes (usual_start outbox) sessions entries_kept ended
        (Rose (t.port old.port).faults (t.port new.port).faults)
        (t.port old.port).returned (t.port new.port).returned
    pub book_is : IfBook book ((new.files ≡ old.files) × (ended ≡ server.WriteFault → ⊥))
        (LeavesBook t.to (usual_start outbox) entries_kept ended
        (Rose (t.files old.files).faults (t.files new.files).faults)
        (t.files old.files).returned_sinks (t.files new.files).returned_sinks)
    pub sources : (t.files new.files).returned_sources ≡ (t.files old.files).returned_sources
    pub lent : (t.port new.port).lent ≡ (t.port old.port).lent
    pub others : (new.input ≡ old.input) × (new.output ≡ old.output) × (new.dial ≡ old.dial)

  -- `replay`: the bytes that were read of the file were played so, or checked by so many watchers
  -- that say what `Say` has of what was seen.
  pub record PlayEnds (count : ℕ) (Say : List Sight → List Verdict → Type 0) (check : Bool)
      : Type 0 where
    pub ended : ReplayEnd
    pub status_is : status ≡ status_of_replay ended
    pub line : TellsLine (line_of_replay ended)
    pub file : LeavesFile t.from ended (Rose (t.files old.files).faults (t.files new.files).faults)
        (IsNothingDone entries_found entries_kept (t.output old.output).taken
        (t.output new.output).taken)
        (λ bytes left. PlaysBook check count Say ended bytes left entries_found entries_kept
        (t.output old.output).taken (t.output new.output).taken)
        (t.files old.files).returned_sources (t.files new.files).returned_sources
    pub write : ended ≡ replay.WriteFault → OutputRose
    pub sinks : (t.files new.files).returned_sinks ≡ (t.files old.files).returned_sinks
    pub others : (new.input ≡ old.input) × (new.port ≡ old.port) × (new.dial ≡ old.dial)

  -- `generate`: the book of the script of this number went out.
  pub record ScriptEnds (number : ℕ) : Type 0 where
    pub ended : WriteEnd
    pub status_is : status ≡ status_of_script ended
    pub line : TellsLine (line_of_script ended)
    pub ends : WriteEnds (usual_start USUAL_OUTBOX) ended
        (entered (fresh_world USUAL_OUTBOX usual_limits) (script_of number))
        (t.output old.output).taken (t.output new.output).taken
    pub write : ended ≡ write.WriteFault → OutputRose
    pub kept : new.kept ≡ old.kept
    pub others : (new.input ≡ old.input) × (new.files ≡ old.files) × (new.port ≡ old.port)
        × (new.dial ≡ old.dial)

  -- `follow`: of the bytes that came by the connection that was dialed, the output took what they
  -- list; the halves of the connection came back.
  pub record FollowEnds (buffer : ℕ) : Type 0 where
    pub ended : FollowEnd
    pub status_is : status ≡ status_of_follow ended
    pub line : TellsLine (line_of_follow ended)
    pub leaves : LeavesDial t.halves (pos buffer) ended (t.dial old.dial) (t.dial new.dial)
        (t.output old.output).taken (t.output new.output).taken
    pub write : ended ≡ follow.Connected followed.OutputFault → OutputRose
    pub kept : new.kept ≡ old.kept
    pub others : (new.input ≡ old.input) × (new.files ≡ old.files) × (new.port ≡ old.port)

  -- Help and version: their text went out.
  pub record NoticeEnds (notice : Notice) : Type 0 where
    pub ended : WriteEnd
    pub status_is : status ≡ status_of_script ended
    pub line : TellsLine (line_of_script ended)
    pub text : WritesText (text_of_notice notice) ended (t.output old.output).taken
        (t.output new.output).taken
    pub write : ended ≡ write.WriteFault → OutputRose
    pub kept : new.kept ≡ old.kept
    pub others : (new.input ≡ old.input) × (new.files ≡ old.files) × (new.port ≡ old.port)
        × (new.dial ≡ old.dial)

  -- what a run did by the command that was asked for
  abbrev pub CommandEnds : ℕ → (List Sight → List Verdict → Type 0) → Option PlainCommand → Type 0
  CommandEnds count Say None = ⊤
  CommandEnds count Say (Some (embeds outbox)) = EmbedEnds outbox
  CommandEnds count Say (Some (serves address sessions outbox book)) =
      ServeEnds sessions outbox book
  CommandEnds count Say (Some (replays name check)) = PlayEnds count Say check
  CommandEnds count Say (Some (generates number)) = ScriptEnds number
  CommandEnds count Say (Some (follows_buffer address buffer)) = FollowEnds buffer
  CommandEnds count Say (Some (shows notice)) = NoticeEnds notice

  -- words were refused, or memory was wanting before they were read: nothing was read, kept or
  -- written but the line
  pub record RefusesWords : Type 0 where
    pub status_is : (status ≡ 1) ⊎ (status ≡ 2)
    pub line : TellsLine (line_of_refusal status)
    pub kept : new.kept ≡ old.kept
    pub others : (new.input ≡ old.input) × (new.output ≡ old.output) × (new.files ≡ old.files)
        × (new.port ≡ old.port) × (new.dial ≡ old.dial)

  -- what files and dial gave came back
  pub record GaveBack : Type 0 where
    pub sources : (t.files new.files).lent_sources ≡ (t.files old.files).lent_sources
    pub sinks : (t.files new.files).lent_sinks ≡ (t.files old.files).lent_sinks
    pub halves : (t.dial new.dial).lent ≡ (t.dial old.dial).lent

  -- What a run did for the words of its command line.
  pub record RunEnds (count : ℕ) (Say : List Sight → List Verdict → Type 0)
      (words : List (List ℕ)) : Type 0 where
    -- Words that the parser takes, help and version among them, aren't told as bad.
    pub taken : status ≡ 2 → AreWords words → ⊥
    -- Others are refused, and so are all where memory is wanting to find their command.
    pub refused : (AreWords words → ⊥) ⊎ (command_asked words ≡ None) → RefusesWords
    -- What is asked for was done.
    pub command : AreWords words → CommandEnds count Say (command_asked words)
    -- What was lent came back.
    pub back : GaveBack
    -- The history that is kept runs in the world that the command makes.
    pub runs : RunsAs (command_asked words) entries_kept
    -- Folding the line events that a session was sent gives each buffer at their changedtick.
    pub folds : (start : Start) → IsFolded start entries_kept
    -- Folding the redraw events that it was sent gives the screen at each flush.
    pub screens : (start : Start) → IsShown start entries_kept
    -- Each mark stands where the edits put it.
    pub marks : (start : Start) → HasMarksInPlace start entries_kept
