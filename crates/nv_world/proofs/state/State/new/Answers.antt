use Rattle.std.proofs.Common.{◌≡◌, ℕ, ℤ, List, [], sym, ap, ◌∙◌, subst, refl}
use Rattle.std.specs.List.{AllZip}
use Rattle.nv_model.specs.Editors.{fresh_editor}
use Rattle.nv_model.specs.Standing.{PresentEditor, Stands}
use Rattle.nv_model.proofs.Changing.{fresh_editor_is_kept}
use Rattle.nv_editor.specs.Sound.{AllSealed}
use Rattle.nv_subs.specs.Attachments.{Attachments, sessions_of, is_session_of}
use Rattle.nv_world.specs.declared.session.Session.{Session}
use Rattle.nv_world.specs.inside.Sessions.{IsSession}
use Rattle.nv_world.proofs.Stating.{nobody_follows}
use Rattle.nv_world.proofs.Sealing.{fresh_sealed}
use Rattle.nv_world.proofs.state.State.new.Goals as goal

pub returns-clause-stands : goal.returns-clause-stands
returns-clause-stands c = λ capacity. record {
  editor = subst (λ (e : PresentEditor). Stands e (fresh_editor c.args.limits)) (sym c.in_ok-editor.ensures) (fresh_editor_is_kept c.args.limits);
  sealed = subst (λ (e : PresentEditor). AllSealed e) (sym c.in_ok-editor.ensures) (fresh_sealed c.args.limits);
  sessions = record {
    pairs = subst (λ (l : List Session). AllZip (IsSession capacity) l []) (sym c.new-3.ensures.items) tt;
    told = λ n s. ap (λ (l : Attachments). is_session_of (sessions_of l n) s) c.new-2.ensures ∙ nobody_follows n s;
  };
  ended = refl;
  stamp = refl;
}
