use Rattle.std.proofs.Common.{◌≡◌, rules, None}
use Rattle.nv_model.specs.Editors.{at_handle}
use Rattle.nv_api_win.proofs.LiveThings.{shows_live}
use Rattle.nv_api_win.proofs.cursors.asked_place.Goals as goal

pub returns-in-None-clause-found : goal.returns-in-None-clause-found
returns-in-None-clause-found c =
    let none : at_handle c.args.editor.now.buffers c.args.window.now.buffer ≡ None = search rules in
    absurd (shows_live c.args.editor.now c.args.window.now.handle c.args.window.now c.known.ensures c.requires.live none)
