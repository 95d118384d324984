use Rattle.std.proofs.Common.{◌≡◌, ℕ, List, [], ◌++◌, map, rules, sym, ap, ◌∙◌, subst}
use Rattle.nv_rpc.specs.declared.message.Message.{Message}
use Rattle.nv_painter.specs.Spoken.{AreSendable, spoken_messages, spoken_scene}
use Rattle.nv_core.specs.Contents.{sent_of_shared}
use Rattle.nv_book.proofs.Voices.{scene_after}
use Rattle.nv_book.proofs.Results.{on_ok}
use Rattle.nv_book.proofs.speaking.speak_batch.Goals as goal

pub speak-requires : goal.speak-requires
speak-requires c =
    let none : c.new.result.items ≡ [] = search rules in
    record {
      messages = subst (λ (l : List Message). AreSendable l) (sym none) tt;
      scene = c.requires.sound;
    }

pub returns-clause-bytes : goal.returns-clause-bytes
returns-clause-bytes c =
    let told = c.args.painter.now.told in
    let scene = c.args.batch.scene in
    let put = c.put_messages.new.into.items in
    let none : c.new.result.items ≡ [] = search rules in
    on_ok c.speak.result _ _
    (λ e. e ∙ ap (λ (l : List Message). put ++ (spoken_messages l ++ spoken_scene told scene)) none
    ∙ scene_after c.args.into.now.items put (map sent_of_shared c.args.batch.messages.items) told scene c.in_ok-put_messages.ensures)
    c.speak.ensures.spoken
