use Rattle.std.proofs.Common.{◌≡◌, suc, List, sym, ap, subst, refl}
use Rattle.nv_rpc.specs.Messages.{Sent}
use Rattle.nv_model.specs.Standing.{PresentEditor, seen_now}
use Rattle.nv_scene.specs.Settling.{IsSettled}
use Rattle.nv_history.specs.Events.{gives}
use Rattle.nv_history.specs.Sessions.{Session, session_emptied, shown_after}
use Rattle.nv_history.specs.Worlds.{editor_due, with_session_at}
use Rattle.nv_world.proofs.Endings.{taken_live}
use Rattle.nv_world.proofs.state.take_some.Goals as goal

pub returns-clause-steps : goal.returns-clause-steps
returns-clause-steps c = λ w y at there.
    let z : Session = session_emptied (shown_after c.args.is_due w.stamp y.shown) y in (
      record {
        editor = editor_due c.args.is_due w.editor;
        effect_is = ap (λ (l : List Sent). gives l (editor_due c.args.is_due w.editor)) (c.in-Ok.ensures.messages w y at.stands.state there);
        shows = c.in-Ok.ensures.shows w at.stands.state;
      },
      c.in-Ok-finish.ensures (with_session_at w (suc c.args.place) z) (record {
        stands = record {
          state = c.in-Ok.ensures.world w y at.stands.state there;
          numbers = record { capacity_is = at.stands.numbers.capacity_is; last_is = at.stands.numbers.last_is; entries_are = at.stands.numbers.entries_are; stamps = at.stands.numbers.stamps };
          settled = subst (λ (e : PresentEditor). IsSettled (seen_now e)) (sym c.batch_of.ensures.editor) at.stands.settled;
        };
        live = taken_live w c.args.place y z there refl at.live;
        calm = at.calm;
        few = at.few;
      }),
    )
