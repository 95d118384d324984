-- What the program tells of its end: the status, and the line on the errors' stream.
use Rattle.std.specs.Prelude.{ℕ, ◌==◌, if◌then◌else◌, List, [], ◌++◌, codes, decimal}
use Rattle.nv_io.specs.declared.lanes.Flaw.TheVariants.{Bad, TooDeep, TooLong, Inside, NoCall}
use Rattle.nv_io.specs.declared.lanes.Ended.{Ended}
use Rattle.nv_io.specs.declared.lanes.Ended.TheVariants.{Closed, Malformed, Overflowed, ReadFault, WriteFault, Quit, NoMemory}
use Rattle.nv_replay.specs.declared.ending.ReplayEnd.{ReplayEnd}
use Rattle.nv_replay.specs.declared.ending.ReplayEnd.TheVariants as replay
use Rattle.nv_replay.specs.declared.ending.WriteEnd.{WriteEnd}
use Rattle.nv_replay.specs.declared.ending.WriteEnd.TheVariants as write
use Rattle.nv_mirror.specs.declared.followed.Followed.TheVariants as followed
use Rattle.nv_run.specs.declared.mirroring.FollowEnd.{FollowEnd}
use Rattle.nv_run.specs.declared.mirroring.FollowEnd.TheVariants as follow
use Rattle.nv_run.specs.declared.serving.ServerEnd.{ServerEnd}
use Rattle.nv_run.specs.declared.serving.ServerEnd.TheVariants as server

-- the status that tells an end
abbrev pub status_of : Ended → ℕ
status_of Closed = 0
status_of (Quit entry) = 0
status_of NoMemory = 1
status_of ReadFault = 3
status_of WriteFault = 4
status_of (Malformed flaw) = 6
status_of (Overflowed entry) = 7

-- the line of a flaw: its word, and its place
abbrev pub malformed_line : List ℕ → ℕ → List ℕ
malformed_line word place =
    codes "nvimd: malformed input: " ++ (word ++ (codes " at " ++ (decimal place ++ codes "\n")))

-- the line that tells an end
abbrev pub line_of : Ended → List ℕ
line_of Closed = []
line_of (Quit entry) = []
line_of NoMemory = codes "nvimd: out of memory\n"
line_of ReadFault = codes "nvimd: read fault\n"
line_of WriteFault = codes "nvimd: write fault\n"
line_of (Malformed (Bad place)) = malformed_line (codes "bad") place
line_of (Malformed (TooDeep place)) = malformed_line (codes "deep") place
line_of (Malformed (TooLong place)) = malformed_line (codes "long") place
line_of (Malformed (Inside place)) = malformed_line (codes "cut") place
line_of (Malformed (NoCall number)) = malformed_line (codes "call") number
line_of (Overflowed entry) =
    codes "nvimd: outbox overflow at entry " ++ (decimal entry ++ codes "\n")

-- the line for words that aren't taken, by the status: they are no command, or memory was wanting
abbrev pub line_of_refusal : ℕ → List ℕ
line_of_refusal status =
    if status == 1 then line_of NoMemory else codes "nvimd: bad command line\n"

-- the status and the line that tell how a server ended
abbrev pub status_of_server : ServerEnd → ℕ
status_of_server server.Done = 0
status_of_server server.NoMemory = 1
status_of_server server.Failed = 5
status_of_server server.WriteFault = 4

abbrev pub line_of_server : ServerEnd → List ℕ
line_of_server server.Done = []
line_of_server server.NoMemory = line_of NoMemory
line_of_server server.Failed = codes "nvimd: listener fault\n"
line_of_server server.WriteFault = line_of WriteFault

-- the status and the line that tell how a replay ended
abbrev pub status_of_replay : ReplayEnd → ℕ
status_of_replay replay.Done = 0
status_of_replay replay.NoMemory = 1
status_of_replay replay.ReadFault = 3
status_of_replay replay.WriteFault = 4
status_of_replay (replay.Malformed place) = 6
status_of_replay (replay.Differs entry) = 8
status_of_replay (replay.Objects watcher entry) = 8

abbrev pub line_of_replay : ReplayEnd → List ℕ
line_of_replay replay.Done = []
line_of_replay replay.NoMemory = line_of NoMemory
line_of_replay replay.ReadFault = line_of ReadFault
line_of_replay replay.WriteFault = line_of WriteFault
line_of_replay (replay.Malformed place) =
    codes "nvimd: malformed book at " ++ (decimal place ++ codes "\n")
line_of_replay (replay.Differs entry) =
    codes "nvimd: check differs at entry " ++ (decimal entry ++ codes "\n")
line_of_replay (replay.Objects watcher entry) =
    codes "nvimd: watcher " ++ (decimal watcher
    ++ (codes " says no at entry " ++ (decimal entry ++ codes "\n")))

-- and those that tell how the writing of a script's book ended
abbrev pub status_of_script : WriteEnd → ℕ
status_of_script write.Done = 0
status_of_script write.NoMemory = 1
status_of_script write.WriteFault = 4

abbrev pub line_of_script : WriteEnd → List ℕ
line_of_script write.Done = []
line_of_script write.NoMemory = line_of NoMemory
line_of_script write.WriteFault = line_of WriteFault

-- and those that tell how following a buffer ended
abbrev pub status_of_follow : FollowEnd → ℕ
status_of_follow follow.NoMemory = 1
status_of_follow follow.Unconnected = 5
status_of_follow (follow.Connected followed.Ended) = 0
status_of_follow (follow.Connected followed.Detached) = 0
status_of_follow (follow.Connected followed.NoMemory) = 1
status_of_follow (follow.Connected followed.ReadFault) = 3
status_of_follow (follow.Connected followed.ServerFault) = 4
status_of_follow (follow.Connected followed.OutputFault) = 4
status_of_follow (follow.Connected (followed.Malformed flaw)) = 6
status_of_follow (follow.Connected (followed.Refused message)) = 9
status_of_follow (follow.Connected (followed.Unfit number)) = 10

abbrev pub line_of_follow : FollowEnd → List ℕ
line_of_follow follow.NoMemory = line_of NoMemory
line_of_follow follow.Unconnected = line_of_server server.Failed
line_of_follow (follow.Connected followed.Ended) = []
line_of_follow (follow.Connected followed.Detached) = []
line_of_follow (follow.Connected followed.NoMemory) = line_of NoMemory
line_of_follow (follow.Connected followed.ReadFault) = line_of ReadFault
line_of_follow (follow.Connected followed.ServerFault) = line_of WriteFault
line_of_follow (follow.Connected followed.OutputFault) = line_of WriteFault
line_of_follow (follow.Connected (followed.Malformed flaw)) = line_of (Malformed flaw)
line_of_follow (follow.Connected (followed.Refused message)) =
    codes "nvimd: refused: " ++ (message ++ codes "\n")
line_of_follow (follow.Connected (followed.Unfit number)) =
    codes "nvimd: event " ++ (decimal number ++ codes " does not fit\n")
