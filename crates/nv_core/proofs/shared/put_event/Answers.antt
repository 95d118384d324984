use Rattle.std.proofs.Common.{◌≡◌, ◌++◌, map, ap, rules, sym, subst, ◌∙◌, of_z, to_z, w64}
use Rattle.std.specs.Prelude.{OnOk}
use Rattle.nv_value.specs.Content.{text, trees_of}
use Rattle.nv_msgpack.specs.Shortest.{shortest}
use Rattle.nv_rpc.specs.Messages.{IsSendable, Sent, lines_event, message_tree}
use Rattle.nv_args.specs.Texts.{strings}
use Rattle.nv_core.proofs.Strings.{trees_of-text}
use Rattle.nv_core.proofs.shared.put_event.Goals as goal

pub put_lines_event-requires : goal.put_lines_event-requires
put_lines_event-requires c =
    let e = c.args.event.now in
    let buffer : to_z w64 (of_z w64 e.buffer) ≡ e.buffer = search rules in
    let tick : to_z w64 (of_z w64 e.tick) ≡ e.tick = search rules in
    let first : to_z w64 (of_z w64 e.first) ≡ e.first = search rules in
    let last : to_z w64 (of_z w64 e.last) ≡ e.last = search rules in
    let same : trees_of (map text c.lines.result.now) ≡ strings e.lines = trees_of-text c.lines.result.now ∙ ap strings c.lines.ensures in
    subst IsSendable (λ i. lines_event (sym buffer i) (sym tick i) (sym first i) (sym last i) (sym same i)) c.requires

pub returns : goal.returns
returns c =
    let e = c.args.event.now in
    let buffer : to_z w64 (of_z w64 e.buffer) ≡ e.buffer = search rules in
    let tick : to_z w64 (of_z w64 e.tick) ≡ e.tick = search rules in
    let first : to_z w64 (of_z w64 e.first) ≡ e.first = search rules in
    let last : to_z w64 (of_z w64 e.last) ≡ e.last = search rules in
    let same : trees_of (map text c.lines.result.now) ≡ strings e.lines = trees_of-text c.lines.result.now ∙ ap strings c.lines.ensures in
    subst (λ (s : Sent). OnOk c.put_lines_event.result (c.put_lines_event.new.into.items ≡ c.args.into.now.items ++ shortest (message_tree s)))
    (λ i. lines_event (buffer i) (tick i) (first i) (last i) (same i)) c.put_lines_event.ensures
