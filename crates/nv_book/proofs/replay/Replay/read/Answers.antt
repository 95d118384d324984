use Rattle.std.proofs.Common.{◌++◌, ◌≡◌, ◌∙◌, ap, sym, subst, length, [], ◌∷◌, ℕ, Some}
use Rattle.std.proofs.lemmas.Result.{err_from_is_err_and}
use Rattle.nv_core.specs.declared.entry.Entry as world
use Rattle.nv_book.specs.Books.{front_values}
use Rattle.nv_book.specs.Reading.{IsReplaying, Replaying}
use Rattle.nv_book.specs.declared.parts.Part.{Part}
use Rattle.nv_book.specs.inside.Parts.{HasEndValue, HasLightPart, IsPart, StopsAtEnd}
use Rattle.nv_book.proofs.Standing.{gave_then}
use Rattle.nv_book.proofs.Entering.{no_part, entering, place_there, unread_for, all_for, end_stopped, finished, upcoming_by}
use Rattle.nv_book.proofs.replay.Replay.read.Goals as goal

pub returns-in_err-heading-clause-goes : goal.returns-in_err-heading-clause-goes
returns-in_err-heading-clause-goes g c =
    let r = c.in_err-heading.ensures.reads in
    let e = err_from_is_err_and c.from_residual.result c.from_residual.ensures.1 in
    let s = c.self.inside in (
      r.0,
      r.1,
      λ fed records played i.
          let k = subst (λ (z : Replaying). IsReplaying fed records played z) (sym c.self.view_is) i in
          rw (e.1, e.2) (no_part s.start records played s.player.world s.player.painters.items (fed ++ r.0) _ _ k.fair k.played_are (r.2 fed (front_values s.start.outbox records) k.read)),
    )

pub returns-in-Entry-clause-goes : goal.returns-in-Entry-clause-goes
returns-in-Entry-clause-goes g c =
    let r = c.in_ok-heading.ensures.reads in
    let s = c.self.inside in (
      r.0,
      r.1,
      λ fed records played i.
          let k = subst (λ (z : Replaying). IsReplaying fed records played z) (sym c.self.view_is) i in
          upcoming_by s.start (fed ++ r.0) records played c.place-place.result c.in-Entry.heading c.read_part.new.intake s.player s.recorded.items
          (entering s.start fed r.0 records played c.place-place.result c.in-Entry.heading c.in_ok-heading.field-0 s.intake c.read_part.new.intake s.player s.recorded.items k c.place-place.ensures (r.2 fed (front_values s.start.outbox records) k.read) c.in-Entry.is),
    )

pub returns-in_err-read_end-in-End-clause-goes : goal.returns-in_err-read_end-in-End-clause-goes
returns-in_err-read_end-in-End-clause-goes g c =
    let r = c.in_ok-heading.ensures.reads in
    let n = c.in_err-read_end-in-End.ensures.reads in
    let e = err_from_is_err_and c.from_residual-in_err-read_end-in-End.result c.from_residual-in_err-read_end-in-End.ensures.1 in
    let s = c.self.inside in
    let count : c.len-entries.result ≡ length s.player.world.history = c.len-entries.ensures.count ∙ ap (length {A = world.Entry}) c.history.ensures.history in (
      r.0 ++ n.0,
      gave_then _ _ _ _ _ _ r.0 n.0 r.1 n.1,
      λ fed records played i.
          let k = subst (λ (z : Replaying). IsReplaying fed records played z) (sym c.self.view_is) i in
          let p = r.2 fed (front_values s.start.outbox records) k.read in
          let ends = n.2 (fed ++ r.0) (front_values s.start.outbox records) p.t p.given (place_there s.start fed r.0 records played c.place-place.result s.intake s.player s.recorded.items k c.place-place.ensures) in
          rw (e.1, e.2)
          (unread_for s.start.limits fed r.0 n.0 _ _
          (end_stopped s.start ((fed ++ r.0) ++ n.0) _ records played s.player.world s.player.painters.items p.t c.in-End.told c.in_err-read_end-in-End.field-0.0 k.fair k.played_are (subst (λ (q : Part). IsPart p.t q) c.in-End.is p.is)
          (subst (λ (m : ℕ). StopsAtEnd ((fed ++ r.0) ++ n.0) (g.S.Source.words c.read_end.new.source).left (front_values s.start.outbox records) p.t c.in-End.told m c.in_err-read_end-in-End.field-0.0) count ends))),
    )

pub returns-in_ok-read_end-in-End-clause-goes : goal.returns-in_ok-read_end-in-End-clause-goes
returns-in_ok-read_end-in-End-clause-goes g c =
    let r = c.in_ok-heading.ensures.reads in
    let n = c.in_ok-read_end-in-End.ensures.reads in
    let s = c.self.inside in
    let count : c.len-entries.result ≡ length s.player.world.history = c.len-entries.ensures.count ∙ ap (length {A = world.Entry}) c.history.ensures.history in (
      r.0 ++ n.0,
      gave_then _ _ _ _ _ _ r.0 n.0 r.1 n.1,
      λ fed records played i.
          let k = subst (λ (z : Replaying). IsReplaying fed records played z) (sym c.self.view_is) i in
          let p = r.2 fed (front_values s.start.outbox records) k.read in
          let ends = n.2 (fed ++ r.0) (front_values s.start.outbox records) p.t p.given (place_there s.start fed r.0 records played c.place-place.result s.intake s.player s.recorded.items k c.place-place.ensures) in
          all_for fed r.0 n.0 _ records played _
          (finished ((fed ++ r.0) ++ n.0) _ records played p.t c.in-End.told _ k.fair k.played_are (subst (λ (q : Part). IsPart p.t q) c.in-End.is p.is)
          (subst (λ (m : ℕ). HasEndValue ((fed ++ r.0) ++ n.0) (g.S.Source.words c.read_end.new.source).left (front_values s.start.outbox records ++ p.t ∷ []) c.in-End.told m) count ends)),
    )

pub returns-in-Entry-clause-light : goal.returns-in-Entry-clause-light
returns-in-Entry-clause-light g c = subst (λ (q : Part). HasLightPart (Some q)) c.in-Entry.is c.in_ok-heading.ensures.light
