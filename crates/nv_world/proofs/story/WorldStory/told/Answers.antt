use Rattle.std.proofs.Common.{◌≡◌, ◌+◌, List, length, ap, ◌∙◌, arith}
use Rattle.nv_core.specs.declared.entry.Entry.{Entry}
use Rattle.nv_world.proofs.story.WorldStory.told.Goals as goal

pub returns : goal.returns
returns c = λ story stands.
    let kept : c.history.result.now.entries ≡ story = c.history.ensures.history ∙ stands in
    let long : length c.history.result.now.entries ≡ length story = ap (λ (l : List Entry). length l) kept in
    let count : c.told.result ≡ c.history.result.now.base + length c.history.result.now.entries = c.told.ensures.count in
    omega (arith, count, c.history.ensures.base, long)
