use Rattle.std.proofs.Common.{◌≡◌, ◌++◌, ℕ, List, Option, drop, length, map}
use Rattle.nv_virt.specs.Texts.{strip_of, strips_from, laid_text, texts_strips}
use Rattle.nv_virt.specs.inside.Capped.{AreCapped}
use Rattle.nv_virt.proofs.laying.push_texts.Given as goal

abbrev pub invariant-loop-text : goal.invariant-loop-text
invariant-loop-text l =
    (wanted : List (Option ℕ)) × AreCapped l.pane l.ends.items wanted × (length l.ends.items ≡ length l.pane.lines.items)
    × (map strip_of l.into.items ++ strips_from l.pane wanted (map (laid_text l.groups) (drop l.text-index l.texts))
    ≡ map strip_of l.fn.into.items ++ texts_strips l.pane (map (laid_text l.groups) l.texts))
