use Rattle.std.proofs.lemmas.Option.{slice_get-get_or}
use Rattle.nv_undo.specs.declared.legs.Leg.TheVariants.{Back}
use Rattle.nv_buffer.proofs.Going.{walking_first, walking_next, walking_tick, walking_on, walking_last, walked_tells, walked_number}
use Rattle.nv_buffer.proofs.buffer.Buffer.walk.Goals as goal

pub loop-leg-init : goal.loop-leg-init
loop-leg-init c =
    walking_first c.args.self.now c.args.legs.now c.new-events.result.items c.new-events.ensures.items (c.known.ensures.buffer, c.requires.sealed)
    c.requires.way

pub go-requires-clause-sealed : goal.go-requires-clause-sealed
go-requires-clause-sealed c = c.loop-leg.invariant.sealed.1

pub go-requires-clause-next : goal.go-requires-clause-next
go-requires-clause-next c =
    walking_next c.args.self.now c.loop-leg.self c.args.legs.now c.loop-leg.events.items c.loop-leg.leg-index _ c.loop-leg.invariant
    (slice_get-get_or c.args.legs.now c.loop-leg.leg-index (Back 0) c.loop-leg-test.true)

pub go-requires-clause-tick : goal.go-requires-clause-tick
go-requires-clause-tick c =
    walking_tick c.args.self.now c.loop-leg.self c.args.legs.now c.loop-leg.events.items c.loop-leg.leg-index _ _ c.loop-leg.invariant
    (slice_get-get_or c.args.legs.now c.loop-leg.leg-index (Back 0) c.loop-leg-test.true) c.requires.tick

pub loop-leg-preserved : goal.loop-leg-preserved
loop-leg-preserved c =
    walking_on c.args.self.now c.loop-leg.self c.go.new.self c.args.legs.now c.loop-leg.events.items c.go.new.events.items c.loop-leg.leg-index _
    c.loop-leg.invariant (slice_get-get_or c.args.legs.now c.loop-leg.leg-index (Back 0) c.loop-leg-test.true) c.in_ok-go.ensures.state
    c.in_ok-go.ensures.told

pub returns-clause-state : goal.returns-clause-state
returns-clause-state c =
    (walking_last c.args.self.now c.loop-leg.self c.args.legs.now c.loop-leg.events.items c.loop-leg.leg-index c.loop-leg.invariant
    c.loop-leg-test.false).gone

pub returns-clause-number : goal.returns-clause-number
returns-clause-number c =
    let walked =
    walking_last c.args.self.now c.loop-leg.self c.args.legs.now c.loop-leg.events.items c.loop-leg.leg-index c.loop-leg.invariant
    c.loop-leg-test.false in
    walked_number c.args.self.now c.loop-leg.self c.args.legs.now c.loop-leg.events.items (c.known.ensures.buffer, c.requires.sealed) walked

pub returns-clause-told : goal.returns-clause-told
returns-clause-told c =
    (walking_last c.args.self.now c.loop-leg.self c.args.legs.now c.loop-leg.events.items c.loop-leg.leg-index c.loop-leg.invariant
    c.loop-leg-test.false).told

pub returns-clause-text : goal.returns-clause-text
returns-clause-text c =
    let walked =
    walking_last c.args.self.now c.loop-leg.self c.args.legs.now c.loop-leg.events.items c.loop-leg.leg-index c.loop-leg.invariant
    c.loop-leg-test.false in
    (walked_tells c.args.self.now c.loop-leg.self c.args.legs.now c.loop-leg.events.items (c.known.ensures.buffer, c.requires.sealed)
    c.requires.way walked).text

pub returns-clause-tick : goal.returns-clause-tick
returns-clause-tick c =
    let walked =
    walking_last c.args.self.now c.loop-leg.self c.args.legs.now c.loop-leg.events.items c.loop-leg.leg-index c.loop-leg.invariant
    c.loop-leg-test.false in
    (walked_tells c.args.self.now c.loop-leg.self c.args.legs.now c.loop-leg.events.items (c.known.ensures.buffer, c.requires.sealed)
    c.requires.way walked).tick

pub returns-clause-lines : goal.returns-clause-lines
returns-clause-lines c =
    let walked =
    walking_last c.args.self.now c.loop-leg.self c.args.legs.now c.loop-leg.events.items c.loop-leg.leg-index c.loop-leg.invariant
    c.loop-leg-test.false in
    (walked_tells c.args.self.now c.loop-leg.self c.args.legs.now c.loop-leg.events.items (c.known.ensures.buffer, c.requires.sealed)
    c.requires.way walked).lines

pub returns-clause-bytes : goal.returns-clause-bytes
returns-clause-bytes c =
    let walked =
    walking_last c.args.self.now c.loop-leg.self c.args.legs.now c.loop-leg.events.items c.loop-leg.leg-index c.loop-leg.invariant
    c.loop-leg-test.false in
    (walked_tells c.args.self.now c.loop-leg.self c.args.legs.now c.loop-leg.events.items (c.known.ensures.buffer, c.requires.sealed)
    c.requires.way walked).bytes
