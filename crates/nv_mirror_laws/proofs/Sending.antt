-- The values in a front of what a session without a UI was sent.
use Rattle.std.proofs.Common.{◌≡◌, ◌⊎◌, ℕ, ◌+◌, ◌<◌, ◌≤◌, List, [], ◌∷◌, ◌++◌, length, map, Option, Some, None, refl, sym, ap, ap₂, ◌∙◌, arith, length-append, append_assoc, inl, ⊎_elim}
use Rattle.std.specs.List.{AllByRecursion}
use Rattle.std.proofs.lemmas.List.{append-nil}
use Rattle.std.proofs.lemmas.Bool.{cases_lt}
use Rattle.std.proofs.lemmas.Option.{none-some}
use Rattle.nv_value.specs.Content.{Tree, trees_of}
use Rattle.nv_msgpack.specs.Reading as reading
use Rattle.nv_msgpack.specs.Reading.{whole, flawed, more, bad, too_deep, too_long, value_at}
use Rattle.nv_msgpack.specs.Shortest.{shortest}
use Rattle.nv_msgpack.specs.Spelling.{Each, SpellsIn}
use Rattle.nv_msgpack.specs.Within.{SpellsWithin}
use Rattle.nv_msgpack.proofs.Apart.{apart}
use Rattle.nv_msgpack.proofs.Complete.{complete, has_byte-in}
use Rattle.nv_msgpack.proofs.Exact.{empty_wants}
use Rattle.nv_msgpack.proofs.Flaws.{stays}
use Rattle.nv_msgpack.proofs.Spelled.{spelled}
use Rattle.nv_rpc.specs.Messages.{Sent, message_tree}
use Rattle.nv_io.specs.declared.lanes.Flaw.{Flaw}
use Rattle.nv_io.specs.declared.lanes.Flaw.TheVariants.{Bad, TooDeep, TooLong, Inside, NoCall}
use Rattle.nv_stream.specs.Runs.{Ends}
use Rattle.nv_model.specs.Editors.{ModelEditor}
use Rattle.nv_screen.specs.declared.scene.Scene.{Scene}
use Rattle.nv_linegrid.specs.declared.event.Redraw.{Redraw}
use Rattle.nv_linegrid.specs.Told.{Told}
use Rattle.nv_history.specs.Runs.{TakenBatch, all_messages}
use Rattle.nv_history.specs.Spoken.{bytes_of_messages, bytes_of_scene, ShowsIfGiven, AreSpoken}
use Rattle.nv_mirror.specs.Ends.{most_levels, most_spelled}
use Rattle.nv_mirror_laws.specs.Laws.{HasLong, MayComeOf}
use Rattle.nv_mirror_laws.proofs.Bounds.{IsWithinBounds, IsBare}
use Rattle.nv_mirror_laws.proofs.Room.{bad_stays, deep_stays}

-- ---- the bytes of batches without an editor are those of their messages
bare_scene : (told : Told) (m : Option ModelEditor) (scene : Option Scene) → m ≡ None → ShowsIfGiven m scene → bytes_of_scene told scene ≡ []
bare_scene told None None e h = refl
bare_scene told None (Some scene) e h = absurd h
bare_scene told (Some m) scene e h = absurd (none-some m (sym e))

bytes_both : (a b : List Sent) → bytes_of_messages (a ++ b) ≡ bytes_of_messages a ++ bytes_of_messages b
bytes_both [] b = refl
bytes_both (m ∷ ms) b =
    ap (λ (l : List ℕ). shortest (message_tree m) ++ l) (bytes_both ms b)
    ∙ sym (append_assoc (shortest (message_tree m)) (bytes_of_messages ms) (bytes_of_messages b))

pub bare_bytes : (told : Told) (batches : List TakenBatch) (bytes : List ℕ) (events : List Redraw) (later : Told) → AllByRecursion IsBare batches → AreSpoken told batches bytes events later
    → bytes ≡ bytes_of_messages (all_messages batches)
bare_bytes told [] bytes events later all h = h.0
bare_bytes told (b ∷ bs) bytes events later all h =
    let none = bare_scene told b.editor h.first.scene all.0 h.first.shows in
    let first : h.first_bytes ≡ bytes_of_messages b.messages = h.first.bytes_are ∙ ap (λ (l : List ℕ). bytes_of_messages b.messages ++ l) none ∙ append-nil (bytes_of_messages b.messages) in
    let rest = bare_bytes h.between bs h.other_bytes h.other_events later all.1 h.rest in
    h.bytes_are ∙ ap₂ (λ (x : List ℕ) (y : List ℕ). x ++ y) first rest ∙ sym (bytes_both b.messages (all_messages bs))

-- ---- the values at their front are those of messages
pub record AreOf (ms : List Sent) (values : List Tree) (rest tail : List ℕ) : Type 0 where
  pub first : List Sent
  pub others : List Sent
  pub split : ms ≡ first ++ others
  pub values_are : values ≡ map message_tree first
  pub left : rest ++ tail ≡ bytes_of_messages others

spelled_by : (m : Sent) → IsWithinBounds m → SpellsIn most_levels (message_tree m) (shortest (message_tree m))
spelled_by m h = spelled (message_tree m) h.ranged h.spelled most_levels h.shallow

cancel : (a x y : List ℕ) → a ++ x ≡ a ++ y → x ≡ y
cancel [] x y e = e
cancel (h ∷ a) x y e = let r : a ++ x ≡ a ++ y = cc in cancel a x y r

behind_same : (a b x y : List ℕ) → a ≡ b → a ++ x ≡ b ++ y → x ≡ y
behind_same a b x y p e = cancel a x y (e ∙ ap (λ (l : List ℕ). l ++ y) (sym p))

some_bytes : (a b rest tail front : List ℕ) → 0 < length a → front ≡ a ++ b → (front ++ rest) ++ tail ≡ [] → ⊥
some_bytes a b rest tail front h e n =
    omega (arith, h, ap (length {A = ℕ}) e, length-append a b, ap (length {A = ℕ}) n, length-append (front ++ rest) tail, length-append front rest)

pub of_front : (ms : List Sent) (values : List Tree) (front rest tail : List ℕ) → AllByRecursion IsWithinBounds ms → Each (SpellsWithin most_levels most_spelled) (trees_of values) front
    → (front ++ rest) ++ tail ≡ bytes_of_messages ms → AreOf ms values rest tail
of_front ms [] front rest tail all e h = record {
  first = [];
  others = ms;
  split = refl;
  values_are = refl;
  left = ap (λ (l : List ℕ). (l ++ rest) ++ tail) (sym e) ∙ h;
}
of_front [] (v ∷ vs) front rest tail all e h = absurd (some_bytes e.0 e.1 rest tail front (has_byte-in most_levels v e.0 e.2.0) e.3 h)
of_front (m ∷ ms) (v ∷ vs) front rest tail all e h =
    let spelling = shortest (message_tree m) in
    let split : e.0 ++ (e.1 ++ (rest ++ tail)) ≡ shortest (message_tree m) ++ bytes_of_messages ms =
    sym (append_assoc e.0 e.1 (rest ++ tail)) ∙ ap (λ (l : List ℕ). l ++ (rest ++ tail)) (sym e.3) ∙ sym (append_assoc front rest tail) ∙ h in
    let same = apart v (message_tree m) e.0 spelling (e.1 ++ (rest ++ tail)) (bytes_of_messages ms) (most_levels, e.2.0) (most_levels, spelled_by m all.0) split in
    let r = of_front ms vs e.1 rest tail all.1 e.4 (append_assoc e.1 rest tail ∙ behind_same e.0 spelling (e.1 ++ (rest ++ tail)) (bytes_of_messages ms) same.0 split) in
    record {
      first = m ∷ r.first;
      others = r.others;
      split = ap (λ (l : List Sent). m ∷ l) r.split;
      values_are = ap₂ (λ (t : Tree) (l : List Tree). t ∷ l) same.1 r.values_are;
      left = r.left;
    }

-- ---- how they end
nothing_left : (rest tail : List ℕ) → rest ++ tail ≡ [] → rest ≡ []
nothing_left [] tail e = refl
nothing_left (b ∷ rest) tail e = cc

-- a flaw of nothing
no_flaw : (x : reading.Flaw) (n : ℕ) (rest tail : List ℕ) → rest ++ tail ≡ [] → value_at most_levels most_spelled rest ≡ flawed x n → ⊥
no_flaw x n rest tail e v =
    let c : more ≡ flawed x n = sym (empty_wants most_levels most_spelled) ∙ ap (λ (l : List ℕ). value_at most_levels most_spelled l) (sym (nothing_left rest tail e)) ∙ v in
    cc

-- the flaw of a front of a message and what follows is one of them whole
flaw_stays : (m : Sent) (later rest tail : List ℕ) (x : reading.Flaw) (n : ℕ) → rest ++ tail ≡ shortest (message_tree m) ++ later → value_at most_levels most_spelled rest ≡ flawed x n
    → value_at most_levels most_spelled (shortest (message_tree m) ++ later) ≡ flawed x n
flaw_stays m later rest tail x n e v =
    ap (λ (l : List ℕ). value_at most_levels most_spelled l) (sym e) ∙ stays most_levels most_spelled rest tail x n (omega arith) v

-- within enough bytes a message has none
not_flawed : (m : Sent) (later : List ℕ) (room : ℕ) (x : reading.Flaw) (n : ℕ) → IsWithinBounds m → length (shortest (message_tree m)) ≤ room
    → value_at most_levels room (shortest (message_tree m) ++ later) ≡ flawed x n → ⊥
not_flawed m later room x n h fits v =
    let w = complete most_levels (message_tree m) (shortest (message_tree m)) later room (spelled_by m h) fits in
    let c : flawed x n ≡ whole (message_tree m) (length (shortest (message_tree m))) = sym v ∙ w in
    cc

ends_long : (ms : List Sent) (n : ℕ) (rest tail : List ℕ) → AllByRecursion IsWithinBounds ms → rest ++ tail ≡ bytes_of_messages ms → value_at most_levels most_spelled rest ≡ flawed too_long n → HasLong ms
ends_long [] n rest tail all e v = absurd (no_flaw too_long n rest tail e v)
ends_long (m ∷ ms) n rest tail all e v =
    ⊎_elim (λ long. inl long)
    (λ fits. absurd (not_flawed m (bytes_of_messages ms) most_spelled too_long n all.0 (omega (arith, fits)) (flaw_stays m (bytes_of_messages ms) rest tail too_long n e v)))
    (cases_lt most_spelled (length (shortest (message_tree m))))

ends_bad : (ms : List Sent) (n : ℕ) (rest tail : List ℕ) → AllByRecursion IsWithinBounds ms → rest ++ tail ≡ bytes_of_messages ms → value_at most_levels most_spelled rest ≡ flawed bad n → ⊥
ends_bad [] n rest tail all e v = no_flaw bad n rest tail e v
ends_bad (m ∷ ms) n rest tail all e v =
    let spelling = shortest (message_tree m) in
    let room = most_spelled + length spelling in
    let later = bytes_of_messages ms in
    not_flawed m later room bad n all.0 (omega arith) (bad_stays most_levels most_spelled room (spelling ++ later) n (omega arith) (flaw_stays m later rest tail bad n e v))

ends_deep : (ms : List Sent) (n : ℕ) (rest tail : List ℕ) → AllByRecursion IsWithinBounds ms → rest ++ tail ≡ bytes_of_messages ms → value_at most_levels most_spelled rest ≡ flawed too_deep n → ⊥
ends_deep [] n rest tail all e v = no_flaw too_deep n rest tail e v
ends_deep (m ∷ ms) n rest tail all e v =
    let spelling = shortest (message_tree m) in
    let room = most_spelled + length spelling in
    let later = bytes_of_messages ms in
    not_flawed m later room too_deep n all.0 (omega arith) (deep_stays most_levels most_spelled room (spelling ++ later) n (omega arith) (flaw_stays m later rest tail too_deep n e v))

pub ends_by : (ms : List Sent) (place : ℕ) (rest tail : List ℕ) (f : Flaw) → AllByRecursion IsWithinBounds ms → rest ++ tail ≡ bytes_of_messages ms
    → Ends most_levels most_spelled place rest (Some f) → MayComeOf ms f
ends_by ms place rest tail (Bad n) all e h = absurd (ends_bad ms h.0 rest tail all e h.2.1)
ends_by ms place rest tail (TooDeep n) all e h = absurd (ends_deep ms h.0 rest tail all e h.2.1)
ends_by ms place rest tail (TooLong n) all e h = ends_long ms h.0 rest tail all e h.2.1
ends_by ms place rest tail (Inside n) all e h = tt
ends_by ms place rest tail (NoCall n) all e h = absurd h
