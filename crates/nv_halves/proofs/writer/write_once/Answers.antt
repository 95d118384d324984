use Rattle.std.proofs.Common.{◌≡◌, Ok, rules, subst}
use Rattle.nv_core.specs.declared.calls.Taken.{Taken}
use Rattle.nv_core.specs.declared.calls.Taken.TheVariants as taken
use Rattle.nv_halves.specs.Passes.{plain_pass}
use Rattle.nv_halves.specs.inside.Taking.{TakesOnce}
use Rattle.nv_halves.proofs.WritingOn.{goes_on, idles_on, ends_cut, ends_over, ends_wanting}
use Rattle.nv_halves.proofs.writer.write_once.Goals as goal

pub returns-in-Ok-clause-writes : goal.returns-in-Ok-clause-writes
returns-in-Ok-clause-writes g c =
    let is : c.in-Ok-Items.field-0 ≡ taken.Items c.in-Ok-Items.batch = search rules in
    let t = subst (λ (x : Taken). TakesOnce (Ok x) (plain_pass c.args.pass) (plain_pass c.take_due-pass.result.0) c.args.session) is (rw c.in-Ok-Items.is at c.take_due-pass.ensures) in
    goes_on _ _ _ _ _ _ _ c.in-Ok-Items.batch t c.in-Ok.ensures.ok c.in-Ok.ensures.told

pub returns-in-Err-clause-writes : goal.returns-in-Err-clause-writes
returns-in-Err-clause-writes g c =
    let is : c.in-Ok-Items.field-0 ≡ taken.Items c.in-Ok-Items.batch = search rules in
    let t = subst (λ (x : Taken). TakesOnce (Ok x) (plain_pass c.args.pass) (plain_pass c.take_due-pass.result.0) c.args.session) is (rw c.in-Ok-Items.is at c.take_due-pass.ensures) in
    ends_cut c.in-Err.end _ _ _ _ _ (g.V.Voice.told c.args.voice.now) _ _ c.in-Ok-Items.batch t c.in-Err.ensures.err c.drop_due-pass.ensures

pub returns-in-Ok-Nothing-clause-writes : goal.returns-in-Ok-Nothing-clause-writes
returns-in-Ok-Nothing-clause-writes g c =
    let is : c.in-Ok-Nothing.field-0 ≡ taken.Nothing = search rules in
    let t = subst (λ (x : Taken). TakesOnce (Ok x) (plain_pass c.args.pass) (plain_pass c.take_due-pass.result.0) c.args.session) is (rw c.in-Ok-Nothing.is at c.take_due-pass.ensures) in
    idles_on _ _ _ _ _ t

pub returns-in-Ok-Over-clause-writes : goal.returns-in-Ok-Over-clause-writes
returns-in-Ok-Over-clause-writes g c =
    let is : c.in-Ok-Over.field-0 ≡ taken.Over c.in-Ok-Over.cause = search rules in
    let t = subst (λ (x : Taken). TakesOnce (Ok x) (plain_pass c.args.pass) (plain_pass c.take_due-pass.result.0) c.args.session) is (rw c.in-Ok-Over.is at c.take_due-pass.ensures) in
    ends_over c.in-Ok-Over.cause _ _ _ _ _ t

pub returns-in-Err-Stranger-clause-writes : goal.returns-in-Err-Stranger-clause-writes
returns-in-Err-Stranger-clause-writes g c =
    let t = rw c.in-Err-Stranger.is at c.take_due-pass.ensures in
    idles_on _ _ _ _ _ t

pub returns-in-Err-NoMemory-clause-writes : goal.returns-in-Err-NoMemory-clause-writes
returns-in-Err-NoMemory-clause-writes g c =
    let t = rw c.in-Err-NoMemory.is at c.take_due-pass.ensures in
    ends_wanting _ _ _ _ _ t
