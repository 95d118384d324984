use Rattle.std.proofs.Common.{◌≡◌, ◌⊎◌, ◌∙◌, [], map, ap, subst, sym}
use Rattle.clap.specs.Words.{App, HasKind, IsAmong, app_of, fault_of, is_simple_and_free}
use Rattle.clap.specs.declared.error.kind.ErrorKind.{ErrorKind}
use Rattle.clap.specs.declared.error.kind.ErrorKind.TheVariants.{OutOfMemory}
use Rattle.nv_words.specs.Commands.{program_app}
use Rattle.nv_words.proofs.Readings.{program_is_simple}
use Rattle.nv_words.proofs.reading.matches_of.Goals as goal

pub returns-clause-kind : goal.returns-clause-kind
returns-clause-kind c =
    let words = map (λ word. word.now) c.args.words.now in
    let app : app_of c.in-Ok.program ≡ program_app = c.in-Ok.ensures in
    let kinds = c.in-Err.ensures.kinds (ap is_simple_and_free app ∙ program_is_simple) in
    let among = subst (λ (a : App). HasKind (fault_of a words) c.in-Err.error) app kinds in
    subst (λ (k : ErrorKind). (k ≡ OutOfMemory) ⊎ IsAmong k (fault_of program_app words)) (sym c.kind.ensures) among

pub returns-in-Ok-try_get_matches_from_mut-clause-taken : goal.returns-in-Ok-try_get_matches_from_mut-clause-taken
returns-in-Ok-try_get_matches_from_mut-clause-taken c =
    let words = map (λ word. word.now) c.args.words.now in
    let app : app_of c.in-Ok.program ≡ program_app = c.in-Ok.ensures in
    let kinds = c.in-Ok-try_get_matches_from_mut.ensures.kinds (ap is_simple_and_free app ∙ program_is_simple) in
    subst (λ (a : App). fault_of a words ≡ []) app kinds
