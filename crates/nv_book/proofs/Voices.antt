-- What a painter speaks of a batch, in the words of what a session is sent.
use Rattle.std.proofs.Common.{◌≡◌, ℕ, zero, suc, ◌+◌, ◌<◌, Bool, true, false, length, get_or, arith, List, [], ◌∷◌, ◌++◌, map, Option, Some, None, refl, sym, ap, ap₂, append_assoc, ◌∙◌, subst}
use Rattle.std.proofs.lemmas.Bool.Decides.{nat_tests}
use Rattle.std.specs.Prelude.{◌==◌, slice_set, if◌then◌else◌}
use Rattle.nv_rpc.specs.Messages.{Sent}
use Rattle.nv_screen.specs.declared.scene.Scene.{Scene}
use Rattle.nv_linegrid.specs.Told.{Told}
use Rattle.nv_painter.specs.Painters.{Painting, first_painting}
use Rattle.nv_painter.specs.Spoken.{spoken_scene, painting_after}
use Rattle.nv_history.specs.Spoken.{bytes_of_messages, bytes_of_scene, told_with}
use Rattle.nv_book.specs.inside.Playing.{bytes_of_given, told_at, SpeaksFor}
use Rattle.nv_book.specs.Outputs.{ToldBy, told_once_more}

scene_plain : (told : Told) (scene : Option Scene) → spoken_scene told scene ≡ bytes_of_scene told scene
scene_plain told None = refl
scene_plain told (Some scene) = refl

-- the bytes of a scene behind those of messages, which stand behind others
pub scene_after : (before bytes : List ℕ) (sent : List Sent) (told : Told) (scene : Option Scene)
    → bytes ≡ before ++ bytes_of_messages sent
    → bytes ++ spoken_scene told scene ≡ before ++ bytes_of_given told sent scene
scene_after before bytes sent told scene e =
    ap₂ (λ (a b : List ℕ). a ++ b) e (scene_plain told scene)
    ∙ append_assoc before (bytes_of_messages sent) (bytes_of_scene told scene)

-- what the client was told then
pub told_alike : (p : Painting) (scene : Option Scene) → (painting_after p scene).told ≡ told_with p.told scene
told_alike p None = refl
told_alike p (Some scene) = refl

-- ---- painters by the numbers of sessions

pub told_push : (ps : List Painting) (s : ℕ) → told_at (ps ++ first_painting ∷ []) s ≡ told_at ps s
told_push [] zero = refl
told_push [] (suc s) = refl
told_push (p ∷ ps) zero = refl
told_push (p ∷ ps) (suc s) = told_push ps s

none_alike : (b : Bool) (x y : Told) → b ≡ false → y ≡ (if b then x else y)
none_alike true x y e = cc
none_alike false x y e = refl

nat_differs : (a b : ℕ) → (a ≡ b → ⊥) → (a == b) ≡ false
nat_differs a b h = grind (arith, nat_tests)

same_next : (t s : ℕ) → (t == s) ≡ (suc t == suc s)
same_next t s = grind (arith, nat_tests)

-- one of them was told more
told_set : (ps : List Painting) (s : ℕ) (q : Painting) (t : ℕ) → s < length ps → told_at (slice_set ps s q) t ≡ told_once_more (told_at ps) s q.told t
told_set [] s q t h = absurd (omega arith)
told_set (p ∷ ps) zero q zero h = refl
told_set (p ∷ ps) zero q (suc t) h = none_alike (suc t == 0) q.told (told_at ps t) (nat_differs (suc t) 0 (omega arith))
told_set (p ∷ ps) (suc s) q zero h = none_alike (0 == suc s) q.told p.told (nat_differs 0 (suc s) (omega arith))
told_set (p ∷ ps) (suc s) q (suc t) h =
    told_set ps s q t (omega arith) ∙ ap (λ (b : Bool). if b then q.told else told_at ps t) (same_next t s)

pub told_get : (ps : List Painting) (s : ℕ) (d : Painting) → s < length ps → (get_or ps s d).told ≡ told_at ps s
told_get [] s d h = absurd (omega arith)
told_get (p ∷ ps) zero d h = refl
told_get (p ∷ ps) (suc s) d h = told_get ps s d (omega arith)

more_alike : (told later : ToldBy) (s : ℕ) (x : Told) (t : ℕ) → ((r : ℕ) → told r ≡ later r) → told_once_more told s x t ≡ told_once_more later s x t
more_alike told later s x t same = by (t == s)
  where
    by : (b : Bool) → (if b then x else told t) ≡ (if b then x else later t)
    by true = refl
    by false = same t

-- painters were made up to a session, and its painter spoke
pub spoke : (ps qs rs : List Painting) (s : ℕ) (p q : Painting) (messages : List Sent) (scene : Option Scene) (bytes : List ℕ) → ((t : ℕ) → told_at qs t ≡ told_at ps t) → s < length qs → p.told ≡ told_at qs s
    → bytes ≡ bytes_of_given p.told messages scene → q.told ≡ told_with p.told scene → rs ≡ slice_set qs s q → SpeaksFor ps rs s messages scene bytes
spoke ps qs rs s p q messages scene bytes grown lt at b a e =
    let here : p.told ≡ told_at ps s = at ∙ grown s in
    record {
      bytes_are = b ∙ ap (λ (x : Told). bytes_of_given x messages scene) here;
      told_are = λ t.
          ap (λ (l : List Painting). told_at l t) e
          ∙ told_set qs s q t lt
          ∙ ap (λ (x : Told). told_once_more (told_at qs) s x t) (a ∙ ap (λ (x : Told). told_with x scene) here)
          ∙ more_alike (told_at qs) (told_at ps) s (told_with (told_at ps s) scene) t grown;
    }
