use Rattle.std.proofs.Common.{◌≡◌, ℕ, List, [], ◌++◌, rules, sym, ap, ◌∙◌, subst}
use Rattle.nv_rpc.specs.declared.message.Message.{Message}
use Rattle.nv_painter.specs.Spoken.{AreSendable, spoken_messages, spoken_scene}
use Rattle.nv_speech.proofs.Speaking.{scene_plain, on_ok}
use Rattle.nv_speech.proofs.voice.PainterVoice.speak.Goals as goal

pub speak-requires : goal.speak-requires
speak-requires c =
    let none : c.new-messages.result.items ≡ [] = search rules in
    record {
      messages = subst (λ (l : List Message). AreSendable l) (sym none) tt;
      scene = c.requires;
    }

pub returns-clause-spoken : goal.returns-clause-spoken
returns-clause-spoken c =
    let told = c.args.self.now.told in
    let scene = c.args.scene in
    let put = c.args.into.now.items in
    let none : c.new-messages.result.items ≡ [] = search rules in
    on_ok c.speak.result _ _
    (λ e. e ∙ ap (λ (l : List Message). put ++ (spoken_messages l ++ spoken_scene told scene)) none
    ∙ ap (λ (l : List ℕ). put ++ l) (scene_plain told scene))
    c.speak.ensures.spoken
