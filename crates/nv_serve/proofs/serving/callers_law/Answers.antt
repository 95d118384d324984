use Rattle.nv_serve.proofs.serving.callers_law.Goals as goal

pub returns : goal.returns
returns g c = g.met.C.Core.callers
