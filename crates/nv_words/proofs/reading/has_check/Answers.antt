use Rattle.std.proofs.Common.{◌≡◌, ◌∙◌, Some, None, Bor, option_map, ap, sym, codes}
use Rattle.clap.specs.Words.{Text, first_of, found_of, rows_of}
use Rattle.clap.proofs.WalkLemmas.{first_value-rows}
use Rattle.nv_words.specs.Commands.{is_flagged}
use Rattle.nv_words.proofs.reading.has_check.Goals as goal

pub returns-in-Some : goal.returns-in-Some
returns-in-Some c =
    let f = found_of c.args.matches.now in
    let given : Some c.in-Some.text.now ≡ first_of (codes "check") (rows_of f) = ap (option_map (λ (s : Bor Text). s.now)) (sym c.in-Some.is) ∙ c.get_str.ensures ∙ first_value-rows f (codes "check") in
    c.eq.ensures ∙ ap is_flagged given

pub returns-in-None : goal.returns-in-None
returns-in-None c =
    let f = found_of c.args.matches.now in
    let given : None ≡ first_of (codes "check") (rows_of f) = ap (option_map (λ (s : Bor Text). s.now)) (sym c.in-None.is) ∙ c.get_str.ensures ∙ first_value-rows f (codes "check") in
    ap is_flagged given
