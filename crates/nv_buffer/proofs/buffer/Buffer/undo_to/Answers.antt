use Rattle.std.proofs.Common.{◌≡◌, List, IfOk, sym, subst}
use Rattle.nv_undo.specs.Ways.{Leads}
use Rattle.nv_undo.specs.declared.legs.Leg.{Leg}
use Rattle.nv_buffer.specs.declared.buffer.Spliced.{Spliced}
use Rattle.nv_buffer.proofs.Going.{undo_to_told, text_at_number}
use Rattle.nv_buffer.proofs.buffer.Buffer.undo_to.Goals as goal

pub walk-requires-clause-way : goal.walk-requires-clause-way
walk-requires-clause-way c =
    let undo = c.seal.new.self.undo in
    (c.args.n, subst (λ (ls : List Leg). Leads undo undo.current ls c.args.n) (sym c.as_slice.ensures.value) c.in_ok-legs.ensures.way)

pub returns-clause-number : goal.returns-clause-number
returns-clause-number c =
    let undo = c.seal.new.self.undo in
    c.walk.ensures.number c.args.n (subst (λ (ls : List Leg). Leads undo undo.current ls c.args.n) (sym c.as_slice.ensures.value) c.in_ok-legs.ensures.way)

pub returns-clause-text : goal.returns-clause-text
returns-clause-text c =
    let undo = c.seal.new.self.undo in
    let way = subst (λ (ls : List Leg). Leads undo undo.current ls c.args.n) (sym c.as_slice.ensures.value) c.in_ok-legs.ensures.way in
    text_at_number c.walk.result c.walk.new.self c.args.n c.walk.ensures.text (c.walk.ensures.number c.args.n way)

pub returns-clause-told : goal.returns-clause-told
returns-clause-told c =
    let told =
    undo_to_told c.args.self.now c.seal.new.self c.args.n c.as_slice.result.now c.in_ok-legs.legs.items c.in_ok-seal.ensures.ok c.as_slice.ensures.value
    c.in_ok-legs.ensures.path in
    subst (λ (ts : List Spliced). IfOk c.walk.result (λ events. events.items ≡ ts)) told c.walk.ensures.told
