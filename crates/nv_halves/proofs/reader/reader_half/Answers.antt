use Rattle.nv_halves.proofs.Intaking.{read_same}
use Rattle.nv_halves.proofs.reader.reader_half.Goals as goal

pub returns-clause-pass : goal.returns-clause-pass
returns-clause-pass g c =
    let r = c.read_session-pass.ensures.read in
    read_same _ _ _ c.args.session r.0 _ (c.close-pass.ensures.2 _ r.0 _ r.2)
