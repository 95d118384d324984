-- A batch whose lengths are below 2 ^ 32 has a spelling.
use Rattle.std.proofs.Common.{ℕ, suc, pos, ◌^◌, ◌<◌, ◌≤◌, ◌≡◌, Bool, true, false, cond, ltb, List, [], ◌∷◌, ◌++◌, length, map, Option, None, Some, lit<, refl, sym, subst, arith}
use Rattle.std.specs.List.{AllByRecursion}
use Rattle.std.specs.Str.{bytes_eq}
use Rattle.std.proofs.lemmas.Bool.{ltb-false}
use Rattle.nv_value.specs.Content.{Tree, trees_of, in_turn, count, integer, big}
use Rattle.nv_msgpack.specs.Shortest.{HasSpelling, HaveSpellings}
use Rattle.nv_hl.specs.declared.attribute.Attr.{Attr}
use Rattle.nv_linegrid.specs.declared.event.Run.{Run}
use Rattle.nv_linegrid.specs.declared.event.Run.TheVariants.{Same, One, Times}
use Rattle.nv_linegrid.specs.declared.event.Redraw.{Redraw}
use Rattle.nv_linegrid.specs.declared.event.Redraw.TheVariants.{Resize, DefaultColors, HlAttr, Clear, Scroll, LineOf, Goto, Flush}
use Rattle.nv_redraw.specs.Values.{AttrFields, id_tree, pair_if_there, pairs_there, map_tree, colour_tree, flag_tree, rgb_fields, cterm_fields, run_tree, event_name, event_tree, NamedEvents, with_event, events_by_name, entry_tree, batch_tree}
use Rattle.nv_redraw.specs.Spellable.{IsSpellableRun, IsSpellableEvent, IsSpellableBatch}
use Rattle.nv_redraw.proofs.SpellingLemmas.{count-in_turn}

id_at : (n : ℕ) (b : Bool) → ltb n 0x8000000000000000 ≡ b → HasSpelling (cond b (integer (pos n)) (big n))
id_at n true h = tt
id_at n false h = omega (arith, ltb-false n 0x8000000000000000 h)

id_spellable : (n : ℕ) → HasSpelling (id_tree n)
id_spellable n = id_at n (ltb n 0x8000000000000000) refl

-- ---- attributes

abbrev IsSpellableOption : Option Tree → Type 0
IsSpellableOption None = Unit {0}
IsSpellableOption (Some t) = HasSpelling t

abbrev IsSpellableField : List ℕ × Option Tree → Type 0
IsSpellableField f = (length f.0 < 2 ^ 32) × IsSpellableOption f.1

field_at : (k : List ℕ) (o : Option Tree) (fs : AttrFields) → length k < 2 ^ 32 → IsSpellableOption o → HaveSpellings (in_turn (pairs_there fs))
    → HaveSpellings (in_turn (pair_if_there k o ++ pairs_there fs))
field_at k None fs h g rest = rest
field_at k (Some v) fs h g rest = (h, (g, rest))

fields_spellable : (fs : AttrFields) → AllByRecursion IsSpellableField fs → HaveSpellings (in_turn (pairs_there fs))
fields_spellable [] h = tt
fields_spellable (f ∷ fs) h = field_at f.0 f.1 fs h.0.0 h.0.1 (fields_spellable fs h.1)

few_at : (k : List ℕ) (o : Option Tree) (fs : AttrFields) → length (pairs_there fs) ≤ length fs → length (pair_if_there k o ++ pairs_there fs) ≤ suc (length fs)
few_at k None fs h = omega (arith, h)
few_at k (Some v) fs h = omega (arith, h)

few : (fs : AttrFields) → length (pairs_there fs) ≤ length fs
few [] = omega arith
few (f ∷ fs) = few_at f.0 f.1 fs (few fs)

map_spellable : (fs : AttrFields) → length fs < 2 ^ 32 → AllByRecursion IsSpellableField fs → HasSpelling (map_tree fs)
map_spellable fs l h = (omega (arith, few fs, count-in_turn (pairs_there fs)), fields_spellable fs h)

colour_spellable : (o : Option ℕ) → IsSpellableOption (colour_tree o)
colour_spellable None = tt
colour_spellable (Some n) = tt

flag_spellable : (b : Bool) → IsSpellableOption (flag_tree b)
flag_spellable true = tt
flag_spellable false = tt

rgb_spellable : (a : Attr) → HasSpelling (map_tree (rgb_fields a))
rgb_spellable a = map_spellable (rgb_fields a) (lit< tt) (
  (lit< tt, colour_spellable a.fg),
  (
    (lit< tt, colour_spellable a.bg),
    (
      (lit< tt, colour_spellable a.sp),
      (
        (lit< tt, flag_spellable a.reverse),
        (
          (lit< tt, flag_spellable a.italic),
          (
            (lit< tt, flag_spellable a.bold),
            (
              (lit< tt, flag_spellable a.underline),
              (
                (lit< tt, flag_spellable a.undercurl),
                ((lit< tt, flag_spellable a.strikethrough), tt),
              ),
            ),
          ),
        ),
      ),
    ),
  ),
)

cterm_spellable : (a : Attr) → HasSpelling (map_tree (cterm_fields a))
cterm_spellable a = map_spellable (cterm_fields a) (lit< tt) (
  (lit< tt, colour_spellable a.ctermfg),
  (
    (lit< tt, colour_spellable a.ctermbg),
    (
      (lit< tt, flag_spellable a.reverse),
      (
        (lit< tt, flag_spellable a.italic),
        (
          (lit< tt, flag_spellable a.bold),
          (
            (lit< tt, flag_spellable a.underline),
            (
              (lit< tt, flag_spellable a.undercurl),
              ((lit< tt, flag_spellable a.strikethrough), tt),
            ),
          ),
        ),
      ),
    ),
  ),
)

-- ---- events

run_spellable : (r : Run) → IsSpellableRun r → HasSpelling (run_tree r)
run_spellable (Same bytes) h = (lit< tt, (h, tt))
run_spellable (One bytes id) h = (lit< tt, (h, (id_spellable id, tt)))
run_spellable (Times bytes id n) h = (lit< tt, (h, (id_spellable id, (tt, tt))))

runs_spellable : (rs : List Run) → AllByRecursion IsSpellableRun rs → HaveSpellings (trees_of (map run_tree rs))
runs_spellable [] h = tt
runs_spellable (r ∷ rs) h = (run_spellable r h.0, runs_spellable rs h.1)

count_of : {X : Type 0} (F : X → Tree) (xs : List X) → count (trees_of (map F xs)) ≡ length xs
count_of F [] = refl
count_of F (x ∷ xs) = omega (arith, count_of F xs)

event_spellable : (e : Redraw) → IsSpellableEvent e → HasSpelling (event_tree e)
event_spellable (Resize grid width height) h = (lit< tt, (tt, (tt, (tt, tt))))
event_spellable (DefaultColors c) h = (lit< tt, (tt, (tt, (tt, (tt, (tt, tt))))))
event_spellable (HlAttr id attr) h = (lit< tt, (id_spellable id, (rgb_spellable attr, (cterm_spellable attr, ((lit< tt, tt), tt)))))
event_spellable (Clear grid) h = (lit< tt, (tt, tt))
event_spellable (Scroll grid top bot left right rows) h = (lit< tt, (tt, (tt, (tt, (tt, (tt, (tt, (tt, tt))))))))
event_spellable (LineOf grid row col cells) h =
    let cells_count = count_of run_tree cells in
    (lit< tt, (tt, (tt, (tt, ((omega (arith, h.0, cells_count), runs_spellable cells h.1), (tt, tt))))))
event_spellable (Goto grid row col) h = (lit< tt, (tt, (tt, (tt, tt))))
event_spellable Flush h = (lit< tt, tt)

name_short : (e : Redraw) → length (event_name e) < 2 ^ 32
name_short (Resize grid width height) = lit< tt
name_short (DefaultColors c) = lit< tt
name_short (HlAttr id attr) = lit< tt
name_short (Clear grid) = lit< tt
name_short (Scroll grid top bot left right rows) = lit< tt
name_short (LineOf grid row col cells) = lit< tt
name_short (Goto grid row col) = lit< tt
name_short Flush = lit< tt

-- ---- entries: each has no more events than there are

record IsSpellableEntry (most : ℕ) (g : NamedEvents) : Type 0 where
  name : length g.name < 2 ^ 32
  few_events : length g.events ≤ most
  events : AllByRecursion IsSpellableEvent g.events

weaker : (most : ℕ) (gs : List NamedEvents) → AllByRecursion (IsSpellableEntry most) gs → AllByRecursion (IsSpellableEntry (suc most)) gs
weaker most [] h = tt
weaker most (g ∷ gs) h = (record { name = h.0.name; few_events = omega (arith, h.0.few_events); events = h.0.events }, weaker most gs h.1)

entry_at : (b : Bool) (most : ℕ) (e : Redraw) (g : NamedEvents) (gs : List NamedEvents) → IsSpellableEvent e → IsSpellableEntry most g → AllByRecursion (IsSpellableEntry most) gs
    → AllByRecursion (IsSpellableEntry (suc most)) (cond b (record { name = g.name; events = e ∷ g.events } ∷ gs) (record { name = event_name e; events = e ∷ [] } ∷ g ∷ gs))
entry_at true most e g gs h k l = (record { name = k.name; few_events = omega (arith, k.few_events); events = (h, k.events) }, weaker most gs l)
entry_at false most e g gs h k l = (
  record { name = name_short e; few_events = omega arith; events = (h, tt) },
  (record { name = k.name; few_events = omega (arith, k.few_events); events = k.events }, weaker most gs l),
)

entry_more : (most : ℕ) (e : Redraw) (gs : List NamedEvents) → IsSpellableEvent e → AllByRecursion (IsSpellableEntry most) gs → AllByRecursion (IsSpellableEntry (suc most)) (with_event e gs)
entry_more most e [] h l = (record { name = name_short e; few_events = omega arith; events = (h, tt) }, tt)
entry_more most e (g ∷ gs) h l = entry_at (bytes_eq (event_name e) g.name) most e g gs h l.0 l.1

entries_spellable : (es : List Redraw) → AllByRecursion IsSpellableEvent es → AllByRecursion (IsSpellableEntry (length es)) (events_by_name es)
entries_spellable [] h = tt
entries_spellable (e ∷ es) h = entry_more (length es) e (events_by_name es) h.0 (entries_spellable es h.1)

events_spellable : (es : List Redraw) → AllByRecursion IsSpellableEvent es → HaveSpellings (trees_of (map event_tree es))
events_spellable [] h = tt
events_spellable (e ∷ es) h = (event_spellable e h.0, events_spellable es h.1)

entry_spellable : (most : ℕ) (g : NamedEvents) → suc most < 2 ^ 32 → IsSpellableEntry most g → HasSpelling (entry_tree g)
entry_spellable most g l h =
    let n = count_of event_tree g.events in
    (omega (arith, h.few_events, n), (h.name, events_spellable g.events h.events))

entries_have : (most : ℕ) (gs : List NamedEvents) → suc most < 2 ^ 32 → AllByRecursion (IsSpellableEntry most) gs → HaveSpellings (trees_of (map entry_tree gs))
entries_have most [] l h = tt
entries_have most (g ∷ gs) l h = (entry_spellable most g l h.0, entries_have most gs l h.1)

few_entries_at : (b : Bool) (e : Redraw) (g : NamedEvents) (gs : List NamedEvents)
    → length (cond b (record { name = g.name; events = e ∷ g.events } ∷ gs) (record { name = event_name e; events = e ∷ [] } ∷ g ∷ gs)) ≤ suc (suc (length gs))
few_entries_at true e g gs = omega arith
few_entries_at false e g gs = omega arith

few_more : (e : Redraw) (gs : List NamedEvents) → length (with_event e gs) ≤ suc (length gs)
few_more e [] = omega arith
few_more e (g ∷ gs) = few_entries_at (bytes_eq (event_name e) g.name) e g gs

pub few_entries : (es : List Redraw) → length (events_by_name es) ≤ length es
few_entries [] = omega arith
few_entries (e ∷ es) = omega (arith, few_more e (events_by_name es), few_entries es)

pub batch_spellable : (es : List Redraw) → IsSpellableBatch es → HasSpelling (batch_tree es)
unfolding batch_tree
batch_spellable es h =
    let n = count_of entry_tree (events_by_name es) in
    let most = few_entries es in
    (lit< tt, (tt, (lit< tt, ((omega (arith, h.0, n, most), entries_have (length es) (events_by_name es) h.0 (entries_spellable es h.1)), tt))))

-- and so does a value that is that of the batch
pub spelled_by : (es : List Redraw) (t : Tree) → IsSpellableBatch es → t ≡ batch_tree es → HasSpelling t
spelled_by es t h e = subst HasSpelling (sym e) (batch_spellable es h)
