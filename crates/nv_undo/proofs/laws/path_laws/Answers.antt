use Rattle.nv_undo.proofs.WayLemmas.{path_leads, path_direct, path_only, path_short, ways_arrive, path_arrives}
use Rattle.nv_undo.proofs.laws.path_laws.Goals as goal

pub returns : goal.returns
returns g c = record {
  leads = path_leads;
  direct = path_direct;
  only = path_only;
  short = path_short;
  arrives = ways_arrive;
  there = path_arrives;
}
