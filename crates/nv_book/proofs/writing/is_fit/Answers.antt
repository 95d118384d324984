use Rattle.std.proofs.Common.{ℕ, ◌≤◌, subst}
use Rattle.nv_value.specs.Content.{Tree}
use Rattle.nv_args.specs.Weight.{weight}
use Rattle.nv_core.specs.Contents.{plain_event}
use Rattle.nv_book.specs.Books.{most_value}
use Rattle.nv_book.proofs.Spelling.{light_event}
use Rattle.nv_book.proofs.writing.is_fit.Goals as goal

pub returns-clause-light : goal.returns-clause-light
returns-clause-light c = λ e.
    light_event (plain_event c.args.entry.now.event) c.args.entry.now.caller 0
    (subst (λ (t : Tree). weight t ≤ most_value) c.in_ok-head.ensures (c.is_fit_value.ensures.light e))
