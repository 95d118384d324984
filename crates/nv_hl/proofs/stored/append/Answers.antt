use Rattle.std.proofs.Common.{◌≡◌, ◌+◌, ◌++◌, ◌∷◌, [], Some, length, sym, ap, subst, ◌∙◌, rules, ◌<◌}
use Rattle.nv_hl.specs.Groups.{AreSound, known_id}
use Rattle.nv_hl.specs.inside.Stored.{named}
use Rattle.nv_hl.proofs.GroupLemmas.{known-push, sound-push}
use Rattle.nv_hl.proofs.StoredLemmas.{index-after}
use Rattle.nv_hl.proofs.stored.append.Goals as goal

pub returns-clause-id : goal.returns-clause-id
returns-clause-id c =
    let gs = c.args.entries.now.items in
    let g = named c.args.name.now c.args.group c.args.was_put in
    let pushed : c.push_reserved.new.self.items ≡ gs ++ g ∷ [] = search rules in
    let count : length gs + 1 ≡ c.next_id-id.result = search rules in
    ap (λ xs. known_id xs c.args.name.now) pushed ∙ known-push gs g c.requires.unknown ∙ ap Some count

pub returns-clause-index : goal.returns-clause-index
returns-clause-index c =
    let gs = c.args.entries.now.items in
    let g = named c.args.name.now c.args.group c.args.was_put in
    let pushed : c.push_reserved.new.self.items ≡ gs ++ g ∷ [] = search rules in
    let count : c.next_id-id.result ≡ length gs + 1 = search rules in
    index-after c.in_ok-key.key c.args.index.now c.insert.new.self c.next_id-id.result gs c.push_reserved.new.self.items g pushed
    c.in_ok-key.ensures.items count c.requires.unknown c.requires.index c.in_ok-insert.ensures.updates

pub returns-clause-sound : goal.returns-clause-sound
returns-clause-sound c =
    let gs = c.args.entries.now.items in
    let g = named c.args.name.now c.args.group c.args.was_put in
    let pushed : c.push_reserved.new.self.items ≡ gs ++ g ∷ [] = search rules in
    let count : c.next_id-id.result ≡ length gs + 1 = search rules in
    subst AreSound (sym pushed) (sound-push gs g c.requires.sound c.requires.few c.requires.linked c.requires.unknown)
