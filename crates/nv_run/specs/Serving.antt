-- How a server ends: its lanes, the history that was kept, and the file of its book (own rule).
use Rattle.std.specs.Prelude.{◌≡◌, ◌⊎◌, ℕ, List, [], ◌∷◌, length, All, Option, None, Some}
use Rattle.nv_io.specs.Faults.{Rose}
use Rattle.nv_io.specs.Known.{append_items, IsUnused}
use Rattle.nv_io.specs.Lanes.{IsFreshLane}
use Rattle.nv_io.specs.Words.{SinkWords}
use Rattle.nv_history.specs.Events.{Entry}
use Rattle.nv_core.specs.declared.start.Start.{Start}
use Rattle.nv_book.specs.Writing.{WroteBook, WroteBookFront}
use Rattle.nv_serve.specs.Headline.{AreServed, AreServedOrFailed, HasFault, Headline}
use Rattle.nv_serve.specs.Links.{LanesWords}
use Rattle.nv_run.specs.declared.serving.ServerEnd.{ServerEnd}
use Rattle.nv_run.specs.declared.serving.ServerEnd.TheVariants.{Done, Failed, NoMemory, WriteFault}

module _ {L I S : Type 0} (t : LanesWords L I S) (start : Start) (sessions : ℕ)
    (kept : List Entry) where
  -- nobody was served: the history is empty, and the lanes are as they were
  abbrev pub ServesNobody : List L → List L → Type 0
  ServesNobody olds news = (kept ≡ []) × (news ≡ olds)

  -- as many lanes as were asked for served connections, in the one history that was kept
  abbrev pub ServesLanes : List L → List L → Type 0
  ServesLanes olds news = (length olds ≡ sessions) × Headline t start kept olds news

  -- and each was served to the end; or each that was not has a fault, and one has
  abbrev pub ServesWell : List L → List L → Type 0
  ServesWell olds news = ServesLanes olds news × AreServed t start kept news

  abbrev pub ServesWithFault : List L → List L → Type 0
  ServesWithFault olds news =
      ServesLanes olds news × AreServedOrFailed t start kept olds news
      × HasFault t start kept olds news

  -- How lanes are left, where `rose` says that the port's own count of faults rose. Done: each was
  -- served to the end. Failed: the port failed, or a lane did. Else memory was wanting, or the file
  -- of the book failed, before any lane was served or after each was.
  abbrev pub LeavesLanes : ServerEnd → Type 0 → List L → List L → Type 0
  LeavesLanes Done rose olds news = ServesWell olds news
  LeavesLanes NoMemory rose olds news = ServesNobody olds news ⊎ ServesLanes olds news
  LeavesLanes Failed rose olds news =
      (ServesNobody olds news × rose) ⊎ ServesWithFault olds news
  LeavesLanes WriteFault rose olds news = ServesNobody olds news ⊎ ServesWell olds news

  -- A server took lanes of its port, that were fresh, and each of them came back.
  pub record ServerEnds (ended : ServerEnd) (rose : Type 0) (before after : Option (List L))
      : Type 0 where
    pub olds : List L
    pub news : List L
    pub fresh : All (λ lane. IsFreshLane (t.lane lane).over (t.lane lane).lent
        (t.lane lane).faults) olds
    pub back : after ≡ append_items before news
    pub leaves : LeavesLanes ended rose olds news

module _ {S : Type 0} (words : S → SinkWords) (start : Start) (kept : List Entry)
    (ended : ServerEnd) where
  -- The book of the history went out to a sink, as it was given and as it came back. Or a prefix of
  -- it did, where memory was wanting, or where the sink's faults rose and the end isn't Done.
  abbrev pub WritesBook : S → S → Type 0
  WritesBook given back =
      WroteBook start kept (words given).taken (words back).taken
      ⊎ (WroteBookFront start kept (words given).taken (words back).taken
      × ((ended ≡ NoMemory)
      ⊎ ((ended ≡ Done → ⊥) × Rose (words given).faults (words back).faults)))

  -- a fresh sink was given for the book, and came back
  pub record BookBack (before after : Option (List S)) : Type 0 where
    pub given : S
    pub back : S
    pub fresh : IsUnused (words given).taken (words given).faults
    pub returned : after ≡ append_items before (back ∷ [])
    pub writes : WritesBook given back
    pub fault : ended ≡ WriteFault → Rose (words given).faults (words back).faults

  -- or none was given, where memory was wanting or the count of faults of the files rose, as `rose`
  -- says; and nobody was served
  pub record NoBook (rose : Type 0) (before after : Option (List S)) : Type 0 where
    pub why : (ended ≡ NoMemory) ⊎ ((ended ≡ WriteFault) × rose)
    pub same : after ≡ before
    pub none : kept ≡ []

  abbrev pub LeavesBook : Type 0 → Option (List S) → Option (List S) → Type 0
  LeavesBook rose before after = BookBack before after ⊎ NoBook rose before after

-- one fact where no book was asked for, and another where one was
abbrev pub IfBook : Option (List ℕ) → Type 0 → Type 0 → Type 0
IfBook None A B = A
IfBook (Some name) A B = B
