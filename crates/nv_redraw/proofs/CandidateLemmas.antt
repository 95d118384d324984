-- The events that the value of a batch tells are those of the batch.
use Rattle.std.proofs.Common.{ℕ, pos, ◌^◌, ◌<◌, ◌≡◌, Bool, true, false, cond, List, [], ◌∷◌, ◌++◌, map, Option, None, Some, is_some, option_map, ltb, refl, sym, ap, ◌∙◌}
use Rattle.std.specs.Prelude.{codes}
use Rattle.std.specs.Str.{bytes_eq}
use Rattle.std.specs.List.{AllByRecursion}
use Rattle.std.proofs.lemmas.Bool.{lt-ltb}
use Rattle.std.proofs.lemmas.Slice.Eq.{bytes_eq-Decides}
use Rattle.nv_value.specs.Content.{Tree, trees_of, in_turn, integer, big}
use Rattle.nv_hl.specs.declared.attribute.Attr.{Attr}
use Rattle.nv_linegrid.specs.declared.event.Run.{Run}
use Rattle.nv_linegrid.specs.declared.event.Run.TheVariants.{Same, One, Times}
use Rattle.nv_linegrid.specs.declared.event.Redraw.{Redraw}
use Rattle.nv_linegrid.specs.declared.event.Redraw.TheVariants.{Resize, DefaultColors, HlAttr, Clear, Scroll, LineOf, Goto, Flush}
use Rattle.nv_redraw.specs.Values.{AttrFields, pair_if_there, pairs_there, colour_tree, flag_tree, rgb_fields, cterm_fields, run_tree, event_name, event_tree, NamedEvents, with_event, events_by_name, entry_tree, batch_tree}
use Rattle.nv_redraw.specs.Reading.{IsColourBelow, IsTypedAttr, IsTypedRun, IsTypedEvent, AreTypedEvents, OneValueOneBatch}
use Rattle.nv_redraw.specs.inside.Candidates.{items_in, size_in, if_below, below_or_0, integer_or_0, id_or_0, value_of_key, colour_of_key, cterm_of_key, flag_of_key, attr_of_maps, run_in, runs_in, candidate, candidates_named, candidates_of_entries, candidates}

below_is : (limit n : ℕ) → n < limit → if_below limit n ≡ n
below_is limit n h = ap (λ b. cond b n 0) (lt-ltb n limit h)

id_is : (n : ℕ) (b : Bool) → id_or_0 (cond b (integer (pos n)) (big n)) ≡ n
id_is n true = refl
id_is n false = refl

-- ---- attributes

abbrev value_else : Option Tree → Option Tree → Option Tree
value_else None o = o
value_else (Some v) o = Some v

-- the value of the first field with this key
abbrev first_value : List ℕ → AttrFields → Option Tree
first_value key [] = None
first_value key (f ∷ fs) = cond (bytes_eq f.0 key) (value_else f.1 (first_value key fs)) (first_value key fs)

there_at : (key k : List ℕ) (o : Option Tree) (fs : AttrFields) → value_of_key key (in_turn (pairs_there fs)) ≡ first_value key fs
    → value_of_key key (in_turn (pair_if_there k o ++ pairs_there fs)) ≡ cond (bytes_eq k key) (value_else o (first_value key fs)) (first_value key fs)
there_at key k None fs ih = ih ∙ by (bytes_eq k key) where
  by : (b : Bool) → first_value key fs ≡ cond b (first_value key fs) (first_value key fs)
  by true = refl
  by false = refl
there_at key k (Some v) fs ih = ap (λ r. cond (bytes_eq k key) (Some v) r) ih

key_there : (key : List ℕ) (fs : AttrFields) → value_of_key key (in_turn (pairs_there fs)) ≡ first_value key fs
key_there key [] = refl
key_there key (f ∷ fs) = there_at key f.0 f.1 fs (key_there key fs)

colour_is : (o : Option ℕ) → IsColourBelow (2 ^ 32) o → option_map size_in (value_else (colour_tree o) None) ≡ o
colour_is None h = refl
colour_is (Some n) h = ap Some (below_is (2 ^ 32) n h)

cterm_is : (o : Option ℕ) → IsColourBelow (2 ^ 8) o → option_map (λ t. below_or_0 (2 ^ 8) (integer_or_0 t)) (value_else (colour_tree o) None) ≡ o
cterm_is None h = refl
cterm_is (Some n) h = ap Some (below_is (2 ^ 8) n h)

flag_is : (b : Bool) → is_some (value_else (flag_tree b) None) ≡ b
flag_is true = refl
flag_is false = refl

rgb_there : (a : Attr) (key : List ℕ) → value_of_key key (in_turn (pairs_there (rgb_fields a))) ≡ first_value key (rgb_fields a)
rgb_there a key = key_there key (rgb_fields a)

cterm_there : (a : Attr) (key : List ℕ) → value_of_key key (in_turn (pairs_there (cterm_fields a))) ≡ first_value key (cterm_fields a)
cterm_there a key = key_there key (cterm_fields a)

rgb_colour : (a : Attr) (key : List ℕ) → colour_of_key key (in_turn (pairs_there (rgb_fields a))) ≡ option_map size_in (first_value key (rgb_fields a))
rgb_colour a key = ap (option_map size_in) (rgb_there a key)

cterm_colour : (a : Attr) (key : List ℕ) → cterm_of_key key (in_turn (pairs_there (cterm_fields a))) ≡ option_map (λ t. below_or_0 (2 ^ 8) (integer_or_0 t)) (first_value key (cterm_fields a))
cterm_colour a key = ap (option_map (λ t. below_or_0 (2 ^ 8) (integer_or_0 t))) (cterm_there a key)

rgb_flag : (a : Attr) (key : List ℕ) → flag_of_key key (in_turn (pairs_there (rgb_fields a))) ≡ is_some (first_value key (rgb_fields a))
rgb_flag a key = ap (λ (o : Option Tree). is_some o) (rgb_there a key)

attr_is : (a : Attr) → IsTypedAttr a → attr_of_maps (in_turn (pairs_there (rgb_fields a))) (in_turn (pairs_there (cterm_fields a))) ≡ a
attr_is a h =
    let fg = rgb_colour a (codes "foreground") ∙ colour_is a.fg h.fg in
    let bg = rgb_colour a (codes "background") ∙ colour_is a.bg h.bg in
    let sp = rgb_colour a (codes "special") ∙ colour_is a.sp h.sp in
    let ctermfg = cterm_colour a (codes "foreground") ∙ cterm_is a.ctermfg h.ctermfg in
    let ctermbg = cterm_colour a (codes "background") ∙ cterm_is a.ctermbg h.ctermbg in
    let reverse = rgb_flag a (codes "reverse") ∙ flag_is a.reverse in
    let italic = rgb_flag a (codes "italic") ∙ flag_is a.italic in
    let bold = rgb_flag a (codes "bold") ∙ flag_is a.bold in
    let underline = rgb_flag a (codes "underline") ∙ flag_is a.underline in
    let undercurl = rgb_flag a (codes "undercurl") ∙ flag_is a.undercurl in
    let strikethrough = rgb_flag a (codes "strikethrough") ∙ flag_is a.strikethrough in
    λ i. record {
      fg = fg i;
      bg = bg i;
      sp = sp i;
      ctermfg = ctermfg i;
      ctermbg = ctermbg i;
      reverse = reverse i;
      italic = italic i;
      bold = bold i;
      underline = underline i;
      undercurl = undercurl i;
      strikethrough = strikethrough i;
    }

-- ---- events

run_is : (r : Run) → IsTypedRun r → run_in (items_in (run_tree r)) ≡ r
run_is (Same bytes) h = refl
run_is (One bytes id) h = ap (One bytes) (id_is id (ltb id 0x8000000000000000))
run_is (Times bytes id n) h =
    let number = id_is id (ltb id 0x8000000000000000) in
    let count = below_is (2 ^ 32) n h in
    λ i. Times bytes (number i) (count i)

runs_are : (rs : List Run) → AllByRecursion IsTypedRun rs → runs_in (trees_of (map run_tree rs)) ≡ rs
runs_are [] h = refl
runs_are (r ∷ rs) h = let first = run_is r h.0 in let rest = runs_are rs h.1 in λ i. first i ∷ rest i

candidate_is : (e : Redraw) → IsTypedEvent e → candidate (event_name e) (items_in (event_tree e)) ≡ e
unfolding candidate
candidate_is (Resize grid width height) h =
    let w = below_is (2 ^ 32) width h.0 in let t = below_is (2 ^ 32) height h.1 in λ i. Resize grid (w i) (t i)
candidate_is (DefaultColors c) h =
    let fg = below_is (2 ^ 32) c.fg h.fg in let bg = below_is (2 ^ 32) c.bg h.bg in let sp = below_is (2 ^ 32) c.sp h.sp in
    let cterm_fg = below_is (2 ^ 32) c.cterm_fg h.cterm_fg in let cterm_bg = below_is (2 ^ 32) c.cterm_bg h.cterm_bg in
    λ i. DefaultColors (record { fg = fg i; bg = bg i; sp = sp i; cterm_fg = cterm_fg i; cterm_bg = cterm_bg i })
candidate_is (HlAttr id attr) h =
    let number = id_is id (ltb id 0x8000000000000000) in let told = attr_is attr h in λ i. HlAttr (number i) (told i)
candidate_is (Clear grid) h = refl
candidate_is (Scroll grid top bot left right rows) h =
    let t = below_is (2 ^ 32) top h.0 in let b = below_is (2 ^ 32) bot h.1 in
    let l = below_is (2 ^ 32) left h.2 in let r = below_is (2 ^ 32) right h.3 in
    λ i. Scroll grid (t i) (b i) (l i) (r i) rows
candidate_is (LineOf grid row col cells) h =
    let r = below_is (2 ^ 32) row h.0 in let c = below_is (2 ^ 32) col h.1 in let runs = runs_are cells h.2 in
    λ i. LineOf grid (r i) (c i) (runs i)
candidate_is (Goto grid row col) h =
    let r = below_is (2 ^ 32) row h.0 in let c = below_is (2 ^ 32) col h.1 in λ i. Goto grid (r i) (c i)
candidate_is Flush h = refl

-- ---- batches

-- an event of a name, within its types
record IsEventOf (name : List ℕ) (e : Redraw) : Type 0 where
  named : event_name e ≡ name
  typed : IsTypedEvent e

abbrev AreEventsNamed : NamedEvents → Type 0
AreEventsNamed g = AllByRecursion (IsEventOf g.name) g.events

abbrev all_events : List NamedEvents → List Redraw
all_events [] = []
all_events (g ∷ gs) = g.events ++ all_events gs

named_are : (name : List ℕ) (es : List Redraw) → AllByRecursion (IsEventOf name) es → candidates_named name (trees_of (map event_tree es)) ≡ es
named_are name [] h = refl
named_are name (e ∷ es) h =
    let first = ap (λ (n : List ℕ). candidate n (items_in (event_tree e))) (sym h.0.named) ∙ candidate_is e h.0.typed in
    let rest = named_are name es h.1 in
    λ i. first i ∷ rest i

entries_are : (gs : List NamedEvents) → AllByRecursion AreEventsNamed gs → candidates_of_entries (trees_of (map entry_tree gs)) ≡ all_events gs
entries_are [] h = refl
entries_are (g ∷ gs) h =
    let first = named_are g.name g.events h.0 in
    let rest = entries_are gs h.1 in
    λ i. first i ++ rest i

one_more_at : (b : Bool) (e : Redraw) (g : NamedEvents) (gs : List NamedEvents)
    → all_events (cond b (record { name = g.name; events = e ∷ g.events } ∷ gs) (record { name = event_name e; events = e ∷ [] } ∷ g ∷ gs)) ≡ e ∷ all_events (g ∷ gs)
one_more_at true e g gs = refl
one_more_at false e g gs = refl

one_more : (e : Redraw) (gs : List NamedEvents) → all_events (with_event e gs) ≡ e ∷ all_events gs
one_more e [] = refl
one_more e (g ∷ gs) = one_more_at (bytes_eq (event_name e) g.name) e g gs

all_of : (es : List Redraw) → all_events (events_by_name es) ≡ es
all_of [] = refl
all_of (e ∷ es) = one_more e (events_by_name es) ∙ ap (λ (l : List Redraw). e ∷ l) (all_of es)

named_at : (b : Bool) (e : Redraw) (g : NamedEvents) (gs : List NamedEvents) → bytes_eq (event_name e) g.name ≡ b → IsTypedEvent e → AreEventsNamed g → AllByRecursion AreEventsNamed gs
    → AllByRecursion AreEventsNamed (cond b (record { name = g.name; events = e ∷ g.events } ∷ gs) (record { name = event_name e; events = e ∷ [] } ∷ g ∷ gs))
named_at true e g gs t h k l = ((record { named = (bytes_eq-Decides (event_name e) g.name).0 t; typed = h }, k), l)
named_at false e g gs t h k l = ((record { named = refl; typed = h }, tt), (k, l))

named_more : (e : Redraw) (gs : List NamedEvents) → IsTypedEvent e → AllByRecursion AreEventsNamed gs → AllByRecursion AreEventsNamed (with_event e gs)
named_more e [] h l = ((record { named = refl; typed = h }, tt), tt)
named_more e (g ∷ gs) h l = named_at (bytes_eq (event_name e) g.name) e g gs refl h l.0 l.1

all_named : (es : List Redraw) → AreTypedEvents es → AllByRecursion AreEventsNamed (events_by_name es)
all_named [] h = tt
all_named (e ∷ es) h = named_more e (events_by_name es) h.0 (all_named es h.1)

pub candidates_are : (es : List Redraw) → AreTypedEvents es → candidates (batch_tree es) ≡ es
unfolding batch_tree
candidates_are es h = entries_are (events_by_name es) (all_named es h) ∙ all_of es

pub one_value_one_batch : OneValueOneBatch
one_value_one_batch es fs h k e = sym (candidates_are es h) ∙ ap candidates e ∙ candidates_are fs k
