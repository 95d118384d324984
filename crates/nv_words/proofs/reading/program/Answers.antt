use Rattle.std.proofs.Common.{◌≡◌, ◌∙◌, true, ap, ap₂, codes}
use Rattle.clap.specs.Words.{App, Shape, app_of, new_app, with_rule, with_subcommand}
use Rattle.clap.specs.Simple.{app_of_fields, on_top}
use Rattle.nv_words.specs.Commands.{embed_app, follow_app, generate_app, help_app, replay_app, serve_app, version_rule}
use Rattle.nv_words.proofs.Readings.{none_global}
use Rattle.nv_words.proofs.reading.program.Goals as goal

abbrev zeroth : App
zeroth = with_rule (new_app (codes "nvimd")) version_rule

abbrev one : App
one = with_subcommand zeroth embed_app.top

abbrev two : App
two = with_subcommand one serve_app.top

abbrev three : App
three = with_subcommand two replay_app.top

abbrev four : App
four = with_subcommand three generate_app.top

abbrev five : App
five = with_subcommand four follow_app.top

-- of one application, its command and whether that is plain
top : {a b : App} → a ≡ b → a.top ≡ b.top
top e = ap (λ (a : App). a.top) e

plain : {a b : App} → a ≡ b → a.top.is_plain ≡ b.top.is_plain
plain e = ap (λ (a : App). a.top.is_plain) e

pub returns : goal.returns
returns c =
    let flagged : app_of c.in_ok-arg.field-0 ≡ zeroth = c.in_ok-arg.ensures.shape c.version.ensures.local ∙ ap₂ with_rule c.new.ensures.app c.version.ensures.rule in
    let first : app_of c.in_ok-subcommand.field-0 ≡ one = c.in_ok-subcommand.ensures.shape (none_global _ _ _ _ (plain c.in_ok-embed.ensures)) ∙ ap₂ with_subcommand flagged (top c.in_ok-embed.ensures) in
    let second : app_of c.in_ok-subcommand-2.field-0 ≡ two = c.in_ok-subcommand-2.ensures.shape (none_global _ _ _ _ (plain c.in_ok-serve.ensures)) ∙ ap₂ with_subcommand first (top c.in_ok-serve.ensures) in
    let third : app_of c.in_ok-subcommand-3.field-0 ≡ three = c.in_ok-subcommand-3.ensures.shape (none_global _ _ _ _ (plain c.in_ok-replay.ensures)) ∙ ap₂ with_subcommand second (top c.in_ok-replay.ensures) in
    let fourth : app_of c.in_ok-subcommand-4.field-0 ≡ four = c.in_ok-subcommand-4.ensures.shape (none_global _ _ _ _ (plain c.in_ok-generate.ensures)) ∙ ap₂ with_subcommand third (top c.in_ok-generate.ensures) in
    let fifth : app_of c.in_ok-subcommand-5.field-0 ≡ five = c.in_ok-subcommand-5.ensures.shape (none_global _ _ _ _ (plain c.in_ok-follow.ensures)) ∙ ap₂ with_subcommand fourth (top c.in_ok-follow.ensures) in
    let whole : app_of c.in_ok-whole.whole ≡ with_subcommand five help_app.top =
    c.in_ok-whole.ensures.shape (none_global _ _ _ _ (plain c.new-2.ensures.app)) ∙ ap₂ with_subcommand fifth (top c.new-2.ensures.app) in
    ap app_of_fields c.subcommand_required.ensures
    ∙ ap (on_top (λ (s : Shape). record s { subcommand_required = true }))
    (ap app_of_fields c.disable_help_subcommand-ours.ensures
    ∙ ap (on_top (λ (s : Shape). record s { disable_help_subcommand = true }))
    (ap app_of_fields c.no_binary_name.ensures ∙ ap (on_top (λ (s : Shape). record s { no_binary_name = true })) whole))
