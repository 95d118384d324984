-- inside: how the UI of a session is put, step by step. Only private contracts cite this.
use Rattle.std.specs.Prelude.{◌≡◌, [], ◌∷◌}
use Rattle.nv_value.specs.Content.{nil}
use Rattle.nv_model.specs.Answers.{Answer, replied}
use Rattle.nv_model.specs.Operations.{ui_put}
use Rattle.nv_model.specs.declared.parts.Ui.{Ui}

-- a UI is of the session of another one, and of its size
pub record HasSizeOf (ui there : Ui) : Type 0 where
  pub session : ui.session ≡ there.session
  pub width : ui.width ≡ there.width
  pub height : ui.height ≡ there.height

-- a UI is put
abbrev pub ui_put_answer : Ui → Answer
ui_put_answer ui = replied nil (ui_put ui ∷ []) []
