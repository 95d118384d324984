use Rattle.std.proofs.Common.{refl, sym, ◌∙◌, subst, Result, Ok, Err, OnOk}
use Rattle.nv_painter.specs.Spoken.{IsSoundIfThere}
use Rattle.nv_history.specs.Worlds.{step}
use Rattle.nv_core.specs.Contents.{plain_event}
use Rattle.nv_world.specs.Worlds.{WorldRecord}
use Rattle.nv_book.specs.inside.Playing.{PlaysOne}
use Rattle.nv_book.proofs.Results.{if_ok_so}
use Rattle.nv_book.proofs.Playing.{played, given_sound, refused_begins}
use Rattle.nv_book.proofs.player.Player.play.Goals as goal

pub give-requires-clause-sound : goal.give-requires-clause-sound
give-requires-clause-sound c =
    given_sound c.args.self.now.world _ (record { caller = c.args.caller; event = c.args.event }) c.in-Ok.effect c.in-Ok.ensures.ok.1

pub returns-in-Ok-clause-plays : goal.returns-in-Ok-clause-plays
returns-in-Ok-clause-plays c =
    let old = c.args.self.now.world in
    let ps = c.args.self.now.painters.items in
    if_ok_so c.give.result _ _
    (λ answer g.
    subst (λ (k : WorldRecord). PlaysOne old ps (plain_event c.args.event) c.give.new.self.output.items k c.give.new.self.painters.items) (sym c.give.ensures.world)
    (played old _ (record { caller = c.args.caller; event = c.args.event }) c.in-Ok.effect c.session_named-session.result answer ps c.give.new.self.painters.items c.give.new.self.output.items
    c.in-Ok.ensures.ok.1 c.session_named-session.ensures g))
    c.give.ensures.gave

pub returns-clause-begins : goal.returns-clause-begins
returns-clause-begins c = refused_begins c.args.self.now.world c.apply.new.self c.in-Err.field-0.1 _ c.in-Err.ensures.err.1

on_ok_so : {T E : Type 0} (r : Result T E) (P : Type 0) → P → OnOk r P
on_ok_so (Ok x) P p = p
on_ok_so (Err e) P p = tt

pub returns-in-Ok-clause-known : goal.returns-in-Ok-clause-known
returns-in-Ok-clause-known c = on_ok_so c.give.result _ c.in-Ok.ensures.ok.0
