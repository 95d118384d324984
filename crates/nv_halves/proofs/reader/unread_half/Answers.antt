use Rattle.std.proofs.Common.{refl}
use Rattle.nv_halves.specs.Passes.{plain_pass}
use Rattle.nv_halves.proofs.Intaking.{read_nothing, read_same}
use Rattle.nv_halves.proofs.reader.unread_half.Goals as goal

pub returns-clause-pass : goal.returns-clause-pass
returns-clause-pass g c =
    let r = read_nothing (plain_pass c.args.pass) c.args.session (g.I.Source.words c.args.input).taken (g.I.Source.words c.args.input).left in
    read_same _ _ _ c.args.session r.0 _ (c.close-pass.ensures.2 _ r.0 (g.I.Source.words c.args.input).left r.2)

pub returns-clause-read : goal.returns-clause-read
returns-clause-read g c =
    let r = read_nothing (plain_pass c.args.pass) c.args.session (g.I.Source.words c.args.input).taken (g.I.Source.words c.args.input).left in
    (r.0, r.1, c.close-pass.ensures.2 _ r.0 _ r.2)

pub returns-clause-nothing : goal.returns-clause-nothing
returns-clause-nothing g c = (refl, λ e. cc (c.close-pass.ensures.0 e))
