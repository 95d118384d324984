-- What is told of an attribute can be spelled.
use Rattle.std.proofs.Common.{◌≡◌, ◌∙◌, ℕ, ◌+◌, ◌<◌, ◌≤◌, ◌^◌, Bool, true, false, List, ◌++◌, length, append_assoc, length-append, ap, arith, Option, Some, None}
use Rattle.std.specs.Prelude.{codes}
use Rattle.nv_value.specs.Content.{Tree, in_turn, truth}
use Rattle.nv_msgpack.specs.Shortest.{HasSpelling, HaveSpellings}
use Rattle.nv_hl.specs.declared.attribute.Attr.{Attr}
use Rattle.nv_model.specs.Answering.{dict_of, key_value}
use Rattle.nv_api_mark.specs.Highlights.{attr_entries, colour_entry, flag_entry}
use Rattle.nv_api_mark.proofs.Spelled.{count-turns, turns-append}

-- eleven lists, and the rest behind them
pub eleven : {X : Type 0} (a b c d e f g h i j k rest : List X)
    → (a ++ (b ++ (c ++ (d ++ (e ++ (f ++ (g ++ (h ++ (i ++ (j ++ k)))))))))) ++ rest
    ≡ a ++ (b ++ (c ++ (d ++ (e ++ (f ++ (g ++ (h ++ (i ++ (j ++ (k ++ rest))))))))))
eleven {X} a b c d e f g h i j k rest =
    append_assoc a (b ++ (c ++ (d ++ (e ++ (f ++ (g ++ (h ++ (i ++ (j ++ k))))))))) rest
    ∙ ap (λ (l : List X). a ++ l) (append_assoc b (c ++ (d ++ (e ++ (f ++ (g ++ (h ++ (i ++ (j ++ k)))))))) rest
    ∙ ap (λ (l : List X). b ++ l) (append_assoc c (d ++ (e ++ (f ++ (g ++ (h ++ (i ++ (j ++ k))))))) rest
    ∙ ap (λ (l : List X). c ++ l) (append_assoc d (e ++ (f ++ (g ++ (h ++ (i ++ (j ++ k)))))) rest
    ∙ ap (λ (l : List X). d ++ l) (append_assoc e (f ++ (g ++ (h ++ (i ++ (j ++ k))))) rest
    ∙ ap (λ (l : List X). e ++ l) (append_assoc f (g ++ (h ++ (i ++ (j ++ k)))) rest
    ∙ ap (λ (l : List X). f ++ l) (append_assoc g (h ++ (i ++ (j ++ k))) rest
    ∙ ap (λ (l : List X). g ++ l) (append_assoc h (i ++ (j ++ k)) rest
    ∙ ap (λ (l : List X). h ++ l) (append_assoc i (j ++ k) rest
    ∙ ap (λ (l : List X). i ++ l) (append_assoc j k rest)))))))))

-- entries that can be spelled, at most so many
pub record Spells (most : ℕ) (entries : List (Tree × Tree)) : Type 0 where
  pub few : length entries ≤ most
  pub each : HaveSpellings (in_turn entries)

pub behind : (m n : ℕ) (a b : List (Tree × Tree)) → Spells m a → Spells n b → Spells (m + n) (a ++ b)
behind m n a b first second = record {
  few = omega (arith, length-append a b, first.few, second.few);
  each = turns-append a b first.each second.each;
}

colour : (key : Tree × Tree) (c : Option ℕ) → HasSpelling key.0 → Spells 1 (colour_entry key c)
colour key None short = record { few = omega arith; each = tt }
colour key (Some c) short = record { few = omega arith; each = (short, (tt, tt)) }

flag : (key : List ℕ) (is_set : Bool) → length key < 2 ^ 32 → Spells 1 (flag_entry (Tree.text key, (truth true)) is_set)
flag key false short = record { few = omega arith; each = tt }
flag key true short = record { few = omega arith; each = (short, (tt, tt)) }

all : (attr : Attr) → Spells 11 (attr_entries attr)
all attr =
    behind 1 10 _ _ (colour (key_value "fg" (truth true)) attr.fg (omega arith))
    (behind 1 9 _ _ (colour (key_value "bg" (truth true)) attr.bg (omega arith))
    (behind 1 8 _ _ (colour (key_value "sp" (truth true)) attr.sp (omega arith))
    (behind 1 7 _ _ (colour (key_value "ctermfg" (truth true)) attr.ctermfg (omega arith))
    (behind 1 6 _ _ (colour (key_value "ctermbg" (truth true)) attr.ctermbg (omega arith))
    (behind 1 5 _ _ (flag (codes "reverse") attr.reverse (omega arith))
    (behind 1 4 _ _ (flag (codes "italic") attr.italic (omega arith))
    (behind 1 3 _ _ (flag (codes "bold") attr.bold (omega arith))
    (behind 1 2 _ _ (flag (codes "underline") attr.underline (omega arith))
    (behind 1 1 _ _ (flag (codes "undercurl") attr.undercurl (omega arith))
    (flag (codes "strikethrough") attr.strikethrough (omega arith)))))))))))

pub attr_spelled : (attr : Attr) → HasSpelling (dict_of (attr_entries attr))
attr_spelled attr = let a : Spells 11 (attr_entries attr) = all attr in (omega (arith, count-turns (attr_entries attr), a.few), a.each)

-- an attribute, and the rest behind it
pub attr_rest : (attr : Attr) (rest : List (Tree × Tree)) → attr_entries attr ++ rest
    ≡ colour_entry (key_value "fg" (truth true)) attr.fg
    ++ (colour_entry (key_value "bg" (truth true)) attr.bg
    ++ (colour_entry (key_value "sp" (truth true)) attr.sp
    ++ (colour_entry (key_value "ctermfg" (truth true)) attr.ctermfg
    ++ (colour_entry (key_value "ctermbg" (truth true)) attr.ctermbg
    ++ (flag_entry (key_value "reverse" (truth true)) attr.reverse
    ++ (flag_entry (key_value "italic" (truth true)) attr.italic
    ++ (flag_entry (key_value "bold" (truth true)) attr.bold
    ++ (flag_entry (key_value "underline" (truth true)) attr.underline
    ++ (flag_entry (key_value "undercurl" (truth true)) attr.undercurl
    ++ (flag_entry (key_value "strikethrough" (truth true)) attr.strikethrough ++ rest))))))))))
attr_rest attr rest =
    eleven (colour_entry (key_value "fg" (truth true)) attr.fg) (colour_entry (key_value "bg" (truth true)) attr.bg) (colour_entry (key_value "sp" (truth true)) attr.sp)
    (colour_entry (key_value "ctermfg" (truth true)) attr.ctermfg) (colour_entry (key_value "ctermbg" (truth true)) attr.ctermbg) (flag_entry (key_value "reverse" (truth true)) attr.reverse)
    (flag_entry (key_value "italic" (truth true)) attr.italic) (flag_entry (key_value "bold" (truth true)) attr.bold) (flag_entry (key_value "underline" (truth true)) attr.underline)
    (flag_entry (key_value "undercurl" (truth true)) attr.undercurl) (flag_entry (key_value "strikethrough" (truth true)) attr.strikethrough) rest
