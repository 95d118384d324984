-- The moments of a session's batches in a history.
use Rattle.std.proofs.Common.{◌≡◌, ℕ, List, [], ◌∷◌, ◌++◌, drop, refl, ap, ◌∙◌, subst, arith, Bool, true, false, Option, Some, None}
use Rattle.std.specs.Prelude.{option_and_then, ◌==◌}
use Rattle.std.proofs.lemmas.Option.{none-some, same_Some}
use Rattle.std.proofs.lemmas.Bool.Decides.{nat_tests}
use Rattle.nv_model.specs.Editors.{ModelEditor}
use Rattle.nv_history.specs.Events.{Event, open_session, request_of, take_of, close_of, Entry, Cause}
use Rattle.nv_history.specs.Sessions.{Session}
use Rattle.nv_history.specs.Worlds.{World, session_of, is_scene_due, is_nothing_due, editor_due, empty_take_outcome, some_take_outcome, take_outcome, step, world_made}
use Rattle.nv_history.specs.Runs.{TakenBatch, run_from, rest_in, batch_if, batch_of, given, out_from}

-- an event gives nothing, or the batch of its take, whose editor is that of the world
abbrev pub GivesAsIs : ℕ → World → Event → List TakenBatch → Type 0
GivesAsIs s w event [] = Unit {0}
GivesAsIs s w event (b ∷ []) = (event ≡ take_of s) × ((m : ModelEditor) → b.editor ≡ Some m → w.editor ≡ m)
GivesAsIs s w event (b ∷ (c ∷ bs)) = ⊥

due_is : (scene : Bool) (n m : ModelEditor) → editor_due scene n ≡ Some m → n ≡ m
due_is true n m e = same_Some n m e
due_is false n m e = absurd (none-some m e)

taken_as_is : (s t : ℕ) (w : World) (x : Session) (none scene b : Bool) → (t == s) ≡ b → GivesAsIs s w (take_of t) (batch_if b (batch_of (some_take_outcome none scene w t x)))
taken_as_is s t w x none scene false e = tt
taken_as_is s t w x true scene true e = by_cause x.closed
  where
    by_cause : (c : Option Cause) → GivesAsIs s w (take_of t) (batch_of (empty_take_outcome c))
    by_cause None = tt
    by_cause (Some c) = tt
taken_as_is s t w x false scene true e =
    let same : t ≡ s = grind (arith, nat_tests) in
    (ap take_of same, λ m f. due_is scene w.editor m f)

take_as_is : (s t : ℕ) (w : World) (x : Option Session) (b : Bool) → (t == s) ≡ b → GivesAsIs s w (take_of t) (batch_if b (batch_of (take_outcome x w t)))
take_as_is s t w None true e = tt
take_as_is s t w None false e = tt
take_as_is s t w (Some x) b e = taken_as_is s t w x (is_nothing_due x.waiting (is_scene_due w t x)) (is_scene_due w t x) b e

pub given_as_is : (s : ℕ) (w : World) (event : Event) → GivesAsIs s w event (given s event (step w event))
given_as_is s w open_session = tt
given_as_is s w (request_of t call) = tt
given_as_is s w (take_of t) = take_as_is s t w (session_of w t) (t == s) refl
given_as_is s w (close_of t) = tt

-- an entry that gave this batch, behind these batches
pub record TakenIn (w : World) (s : ℕ) (entries : List Entry) (front : List TakenBatch) (last : TakenBatch) : Type 0 where
  pub before : List Entry
  pub entry : Entry
  pub after : List Entry
  pub world : World
  pub entries_are : entries ≡ before ++ entry ∷ after
  pub is_take : entry.event ≡ take_of s
  pub runs : run_from w before ≡ Some world
  pub editor_is : (m : ModelEditor) → last.editor ≡ Some m → world.editor ≡ m
  pub front_is : out_from w s before ≡ front

module _ {A : Type 0} where
  abbrev first_or : A → List A → A
  first_or d [] = d
  first_or d (x ∷ xs) = x

  firsts : (x y : A) (xs ys : List A) → ◌≡◌ {A = List A} (x ∷ xs) (y ∷ ys) → x ≡ y
  firsts x y xs ys e = ap (first_or x) e

  rests : (x y : A) (xs ys : List A) → ◌≡◌ {A = List A} (x ∷ xs) (y ∷ ys) → xs ≡ ys
  rests x y xs ys e = ap (drop 1) e

  not_none : (xs ys : List A) (y : A) → ◌≡◌ {A = List A} [] (xs ++ y ∷ ys) → ⊥
  not_none [] ys y e = cc
  not_none (x ∷ xs) ys y e = cc

-- an entry in front
later : (w u : World) (s : ℕ) (e : Entry) (es : List Entry) (gs front : List TakenBatch) (last : TakenBatch) → given s e.event (step w e.event) ≡ gs
    → world_made (step w e.event) ≡ Some u → TakenIn u s es front last → TakenIn w s (e ∷ es) (gs ++ front) last
later w u s e es gs front last gave made t = record {
  before = e ∷ t.before;
  entry = t.entry;
  after = t.after;
  world = t.world;
  entries_are = ap (λ (l : List Entry). e ∷ l) t.entries_are;
  is_take = t.is_take;
  runs = ap (option_and_then (λ (x : World). run_from x t.before)) made ∙ t.runs;
  editor_is = t.editor_is;
  front_is =
      (λ i. gave i ++ rest_in (λ (x : World). out_from x s t.before) (made i))
      ∙ ap (λ (l : List TakenBatch). gs ++ l) t.front_is;
}

here : (w : World) (s : ℕ) (e : Entry) (es : List Entry) (b last : TakenBatch) → GivesAsIs s w e.event (b ∷ []) → b ≡ last → TakenIn w s (e ∷ es) [] last
here w s e es b last gives same = record {
  before = [];
  entry = e;
  after = es;
  world = w;
  entries_are = refl;
  is_take = gives.0;
  runs = refl;
  editor_is = λ m f. gives.1 m (ap (λ (c : TakenBatch). c.editor) same ∙ f);
  front_is = refl;
}

taken_step : (w v : World) (s : ℕ) (e : Entry) (es : List Entry) (front back : List TakenBatch) (last : TakenBatch) (gs : List TakenBatch) (made : Option World)
    → given s e.event (step w e.event) ≡ gs → world_made (step w e.event) ≡ made → GivesAsIs s w e.event gs
    → option_and_then (λ u. run_from u es) made ≡ Some v
    → gs ++ rest_in (λ u. out_from u s es) made ≡ front ++ last ∷ back
    → ((u : World) (others : List TakenBatch) → run_from u es ≡ Some v → out_from u s es ≡ others ++ last ∷ back → TakenIn u s es others last)
    → TakenIn w s (e ∷ es) front last
taken_step w v s e es front back last gs None gave made gives runs is rest = absurd (none-some v runs)
taken_step w v s e es front back last [] (Some u) gave made gives runs is rest =
    later w u s e es [] front last gave made (rest u front runs is)
taken_step w v s e es [] back last (b ∷ []) (Some u) gave made gives runs is rest =
    here w s e es b last gives (firsts b last (out_from u s es) back is)
taken_step w v s e es (f ∷ fs) back last (b ∷ []) (Some u) gave made gives runs is rest =
    subst (λ (c : TakenBatch). TakenIn w s (e ∷ es) (c ∷ fs) last) (firsts b f (out_from u s es) (fs ++ last ∷ back) is)
    (later w u s e es (b ∷ []) fs last gave made (rest u fs runs (rests b f (out_from u s es) (fs ++ last ∷ back) is)))
taken_step w v s e es front back last (b ∷ (c ∷ bs)) (Some u) gave made gives runs is rest = absurd gives

-- each batch that a session was given has its entry
pub taken_in : (w v : World) (s : ℕ) (es : List Entry) (front back : List TakenBatch) (last : TakenBatch) → run_from w es ≡ Some v
    → out_from w s es ≡ front ++ last ∷ back → TakenIn w s es front last
taken_in w v s [] front back last runs is = absurd (not_none front back last is)
taken_in w v s (e ∷ es) front back last runs is =
    taken_step w v s e es front back last (given s e.event (step w e.event)) (world_made (step w e.event)) refl refl (given_as_is s w e.event) runs is
    (λ u others f g. taken_in u v s es others back last f g)
