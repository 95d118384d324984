use Rattle.nv_api_ui.proofs.Fitting.{fits_again, narrow_again}
use Rattle.nv_api_ui.proofs.putting.put_again.Goals as goal

pub put_fitting-requires-clause-fits : goal.put_fitting-requires-clause-fits
put_fitting-requires-clause-fits c =
    fits_again c.args.ui c.args.there c.args.editor.now.stage c.known.ensures.uis c.known.ensures.workspace c.requires.there c.requires.same

pub put_fitting-requires-clause-width : goal.put_fitting-requires-clause-width
put_fitting-requires-clause-width c =
    (narrow_again c.args.ui c.args.there c.args.editor.now.stage c.known.ensures.uis c.requires.there c.requires.same).0

pub put_fitting-requires-clause-height : goal.put_fitting-requires-clause-height
put_fitting-requires-clause-height c =
    (narrow_again c.args.ui c.args.there c.args.editor.now.stage c.known.ensures.uis c.requires.there c.requires.same).1
