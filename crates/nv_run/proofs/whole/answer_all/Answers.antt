use Rattle.std.proofs.Common.{◌≡◌, ◌<◌, ◌^◌, length, arith, List, ℕ, [], ◌∷◌, codes, Option, Some, sym, ◌∙◌, subst, rules}
use Rattle.std.specs.List.{concat}
use Rattle.std.specs.Io.KnownBytes.{prepend_known}
use Rattle.nv_core.specs.Contents.{plain_entries}
use Rattle.nv_session.specs.Ends.{SessionEnds}
use Rattle.nv_words.specs.Commands.{command_asked}
use Rattle.nv_run.specs.Commands.{usual_start}
use Rattle.nv_run.proofs.Asked.{embed_asked, embed_is_asked, embed_is_taken}
use Rattle.nv_run.proofs.Played.{ended_badly, ended_well, is_read_fault, never_rose}
use Rattle.nv_run.proofs.whole.answer_all.Goals as goal

pub returns-clause-command : goal.returns-clause-command
returns-clause-command g c = λ e. c.run-status.ensures.taken e embed_is_taken

pub returns-clause-sure : goal.returns-clause-sure
returns-clause-sure g c = λ e.
    let s = embed_asked _ _ _ _ _ _ (command_asked (codes "embed" ∷ [])) 4096 embed_is_asked (c.run-status.ensures.command embed_is_taken) in
    never_rose (s.read (is_read_fault s.ended (sym s.status_is ∙ e)))

pub returns-clause-whole : goal.returns-clause-whole
returns-clause-whole g c = λ z.
    let s = embed_asked _ _ _ _ _ _ (command_asked (codes "embed" ∷ [])) 4096 embed_is_asked (c.run-status.ensures.command embed_is_taken) in
    let kept = plain_entries c.run-status.new.kept.entries in
    let left = c.run-status.new.input.left in
    let gave : Some c.args.bytes.items ≡ prepend_known (concat s.pieces) (Some left) = search (rules, s.gave.gave.left) in
    let few : length c.args.bytes.items < 2 ^ 62 = search (rules, arith, c.requires.short) in
    let before : Some c.new-output.result.taken ≡ Some [] = search rules in
    ended_well (usual_start 4096) s.ended c.args.bytes.items s.pieces (Some left) kept (Some []) (Some c.run-status.new.output.taken) gave few
    (subst (λ (o : Option (List ℕ)). SessionEnds (usual_start 4096) s.ended s.pieces (Some left) kept o (Some c.run-status.new.output.taken)) before s.ends)
    (sym s.status_is ∙ z)

pub returns-clause-malformed : goal.returns-clause-malformed
returns-clause-malformed g c = λ z.
    let s = embed_asked _ _ _ _ _ _ (command_asked (codes "embed" ∷ [])) 4096 embed_is_asked (c.run-status.ensures.command embed_is_taken) in
    let kept = plain_entries c.run-status.new.kept.entries in
    let left = c.run-status.new.input.left in
    let gave : Some c.args.bytes.items ≡ prepend_known (concat s.pieces) (Some left) = search (rules, s.gave.gave.left) in
    let before : Some c.new-output.result.taken ≡ Some [] = search rules in
    ended_badly (usual_start 4096) s.ended c.args.bytes.items s.pieces (Some left) kept (Some []) (Some c.run-status.new.output.taken) gave
    (subst (λ (o : Option (List ℕ)). SessionEnds (usual_start 4096) s.ended s.pieces (Some left) kept o (Some c.run-status.new.output.taken)) before s.ends)
    (sym s.status_is ∙ z)
