-- What the program tells of itself.
use Rattle.std.specs.Prelude.{◌≡◌, ℕ, List, take, Option}
use Rattle.std.specs.Io.KnownBytes.{append_known}
use Rattle.nv_replay.specs.declared.ending.WriteEnd.{WriteEnd}
use Rattle.nv_replay.specs.declared.ending.WriteEnd.TheVariants.{Done, NoMemory, WriteFault}
use Rattle.nv_words.specs.declared.command.Notice.{Notice}
use Rattle.nv_words.specs.declared.command.Notice.TheVariants.{Help, Version}
use Rattle.nv_run.specs.declared.notices.TheConstants.{HELP, VERSION}

-- the text of a notice
abbrev pub text_of_notice : Notice → List ℕ
text_of_notice Help = HELP.now
text_of_notice Version = VERSION.now

-- What a sink took of a text by the end of writing it: all of it, or a part of it from its front
-- if a write failed, or nothing if memory ran out before.
abbrev pub WritesText : List ℕ → WriteEnd → Option (List ℕ) → Option (List ℕ) → Type 0
WritesText text Done before after = after ≡ append_known before text
WritesText text NoMemory before after = after ≡ before
WritesText text WriteFault before after =
    (count : ℕ) × (after ≡ append_known before (take count text))
