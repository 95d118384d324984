use Rattle.std.proofs.Common.{◌≡◌, ◌∙◌, rules, ap₂, codes}
use Rattle.clap.specs.Words.{App, AddsArg, app_of, new_app, rule_of, with_rule}
use Rattle.nv_words.specs.Commands.{book_rule, listen_rule, outbox_rule, serve_app, sessions_rule}
use Rattle.nv_words.proofs.Readings.{ok_gives}
use Rattle.nv_words.proofs.reading.serve.Goals as goal

abbrev one : App
one = with_rule (new_app (codes "serve")) listen_rule

abbrev two : App
two = with_rule one sessions_rule

abbrev three : App
three = with_rule two outbox_rule

pub returns : goal.returns
returns c =
    let listen : rule_of c.required-listen.result ≡ listen_rule = search rules in
    let book : rule_of c.long-book.result ≡ book_rule = search rules in
    let first : app_of c.in_ok-arg.field-0 ≡ one = c.in_ok-arg.ensures.shape (search rules) ∙ ap₂ with_rule c.new-3.ensures.app listen in
    let second : app_of c.in_ok-arg-2.field-0 ≡ two = c.in_ok-arg-2.ensures.shape (search rules) ∙ ap₂ with_rule first c.sessions.ensures.rule in
    let third : app_of c.in_ok-arg-3.field-0 ≡ three = c.in_ok-arg-3.ensures.shape (search rules) ∙ ap₂ with_rule second c.outbox.ensures.rule in
    ok_gives c.arg-4.result (λ r. AddsArg c.in_ok-arg-3.field-0 c.long-book.result r) (λ r. app_of r ≡ serve_app) c.arg-4.ensures
    (λ r adds. adds.shape (search rules) ∙ ap₂ with_rule third book)
