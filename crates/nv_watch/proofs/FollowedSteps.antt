-- Steps of marks that are followed, and what is kept of them.
use Rattle.std.proofs.Common.{◌≡◌, refl, ap, sym, ◌∙◌, Bool, true, false, cond, not, ℕ, zero, suc, List, [], ◌∷◌, ◌++◌, take, drop, map, filter, slice_get, Option, Some, None, option_map}
use Rattle.std.specs.Prelude.{◌&&◌, slice_set}
use Rattle.std.proofs.lemmas.List.{append-nil}
use Rattle.nv_buffer.specs.declared.edit.ChangePart.{ChangePart}
use Rattle.nv_model.specs.Buffers.{KeptState, MarkKeys, MarkState, Reach, is_removed, is_same_part, kept_state, kept_with, last_kept, state_after, state_moved, state_put_back, state_struck}
use Rattle.nv_world.specs.declared.step.Moved.{Moved}
use Rattle.nv_watch.specs.FollowedMarks.{Followed, ends_kept, followed_after, followed_after_one, part_kept}
use Rattle.nv_watch.specs.declared.followed_mark.KeptEnds.{KeptEnds}
use Rattle.nv_watch.specs.declared.followed_mark.KeptPart.{KeptPart}

-- ---- what the last splice of a part kept
pub kept_here : (part : ChangePart) (items rest : List KeptPart) (k : KeptPart) (all : Option KeptState) → items ≡ k ∷ rest
    → is_same_part part k.part ≡ true → last_kept part (map part_kept items) ≡ all → Some (ends_kept k.ends) ≡ all
kept_here part items rest k all parts same before =
    sym (ap (λ (t : Bool). cond t (Some (ends_kept k.ends)) (last_kept part (map part_kept rest))) same)
    ∙ sym (ap (λ (l : List KeptPart). last_kept part (map part_kept l)) parts)
    ∙ before

pub kept_later : (part : ChangePart) (items rest : List KeptPart) (k : KeptPart) (all : Option KeptState) → items ≡ k ∷ rest
    → is_same_part part k.part ≡ false → last_kept part (map part_kept items) ≡ all → last_kept part (map part_kept rest) ≡ all
kept_later part items rest k all parts other before =
    sym (ap (λ (t : Bool). cond t (Some (ends_kept k.ends)) (last_kept part (map part_kept rest))) other)
    ∙ sym (ap (λ (l : List KeptPart). last_kept part (map part_kept l)) parts)
    ∙ before

pub kept_nowhere : (part : ChangePart) (items : List KeptPart) (all : Option KeptState) → items ≡ []
    → last_kept part (map part_kept items) ≡ all → None ≡ all
kept_nowhere part items all none before = sym (ap (λ (l : List KeptPart). last_kept part (map part_kept l)) none) ∙ before

-- ---- what is kept once a splice of a part kept this
abbrev others : ChangePart → List KeptPart → List KeptPart
others part ks = filter (λ k. not (is_same_part part k.part)) ks

abbrev others_kept : ChangePart → List (ChangePart × KeptState) → List (ChangePart × KeptState)
others_kept part es = filter (λ e. not (is_same_part part e.0)) es

kept_left : (part : ChangePart) (ks : List KeptPart) → map part_kept (others part ks) ≡ others_kept part (map part_kept ks)
kept_left part [] = refl
kept_left part (k ∷ ks) = by_test (is_same_part part k.part) (kept_left part ks)
  where
    by_test : (t : Bool) → map part_kept (others part ks) ≡ others_kept part (map part_kept ks)
        → map part_kept (cond (not t) (k ∷ others part ks) (others part ks))
        ≡ cond (not t) (part_kept k ∷ others_kept part (map part_kept ks)) (others_kept part (map part_kept ks))
    by_test true rest = rest
    by_test false rest = ap (λ (l : List (ChangePart × KeptState)). part_kept k ∷ l) rest

kept_push : (ks : List KeptPart) (k : KeptPart) → map part_kept (ks ++ k ∷ []) ≡ map part_kept ks ++ part_kept k ∷ []
kept_push [] k = refl
kept_push (j ∷ js) k = ap (λ (l : List (ChangePart × KeptState)). part_kept j ∷ l) (kept_push js k)

pub kept_more : (part : ChangePart) (k : KeptPart) (old left now : List KeptPart) → k.part ≡ part → left ≡ others part old → now ≡ left ++ k ∷ []
    → map part_kept now ≡ kept_with part (Some (ends_kept k.ends)) (map part_kept old)
kept_more part k old left now same left_is now_is =
    ap (map part_kept) now_is
    ∙ kept_push left k
    ∙ ap (λ (l : List KeptPart). map part_kept l ++ part_kept k ∷ []) left_is
    ∙ ap (λ (l : List (ChangePart × KeptState)). l ++ part_kept k ∷ []) (kept_left part old)
    ∙ ap (λ (p : ChangePart). others_kept part (map part_kept old) ++ (p, ends_kept k.ends) ∷ []) same

pub kept_fewer : (part : ChangePart) (old left : List KeptPart) → left ≡ others part old
    → map part_kept left ≡ kept_with part None (map part_kept old)
kept_fewer part old left left_is =
    ap (map part_kept) left_is ∙ kept_left part old ∙ sym (append-nil (others_kept part (map part_kept old)))

-- ---- a step of a mark
abbrev pub with_kept : Followed → List (ChangePart × KeptState) → Followed
with_kept m kept = record m { state = record m.state { kept = kept } }

struck_kept : (keys : MarkKeys) (x : MarkState) (r : Reach) → (state_struck keys x r).kept ≡ x.kept
struck_kept keys x r = by_test (keys.invalidate && is_removed x r) keys.restore
  where
    by_test : (b t : Bool) → (cond b (cond t (record x { hidden = true }) (record x { gone = true })) x).kept ≡ x.kept
    by_test true true = refl
    by_test true false = refl
    by_test false t = refl

back_kept : (o : Option KeptState) (x : MarkState) → (state_put_back o x).kept ≡ x.kept
back_kept None x = refl
back_kept (Some k) x = refl

pub record Stepped (m struck moved back now : Followed) (r : Reach) (part : ChangePart) (kept before : Option KeptState) : Type 0 where
  pub part_is : part ≡ r.part
  pub kept_is : kept ≡ kept_state m.keys m.state r
  pub before_is : before ≡ last_kept part m.state.kept
  pub struck_is : struck ≡ record m { state = state_struck m.keys m.state r }
  pub moved_is : moved ≡ record struck { state = state_moved struck.keys struck.state r }
  pub back_is : back ≡ record moved { state = state_put_back before moved.state }
  pub now_is : now ≡ record back { state = record back.state { kept = kept_with part kept back.state.kept } }

pub stepped : (m struck moved back now : Followed) (r : Reach) (part : ChangePart) (kept before : Option KeptState)
    → Stepped m struck moved back now r part kept before → now ≡ record m { state = state_after m.keys m.state r }
stepped m struck moved back now r part kept before is =
    let there : MarkState = state_moved m.keys (state_struck m.keys m.state r) r in
    let all : back ≡ record m { state = state_put_back before there } =
    is.back_is
    ∙ ap (λ (f : Followed). record f { state = state_put_back before f.state })
    (is.moved_is ∙ ap (λ (f : Followed). record f { state = state_moved f.keys f.state r }) is.struck_is) in
    let met : before ≡ last_kept r.part m.state.kept =
    is.before_is ∙ ap (λ (p : ChangePart). last_kept p m.state.kept) is.part_is in
    is.now_is
    ∙ ap (λ (f : Followed). record f { state = record f.state { kept = kept_with part kept f.state.kept } }) all
    ∙ ap (λ (ks : List (ChangePart × KeptState)). record m { state = record (state_put_back before there) { kept = kept_with part kept ks } })
    (back_kept before there ∙ struck_kept m.keys m.state r)
    ∙ (λ i. record m { state = record (state_put_back (met i) there) { kept = kept_with (is.part_is i) (is.kept_is i) m.state.kept } })

-- ---- steps one after another
pub followed_next : (splices rest : List Moved) (x : Moved) (m n all : Followed) → splices ≡ x ∷ rest → n ≡ followed_after_one m x
    → followed_after splices m ≡ all → followed_after rest n ≡ all
followed_next splices rest x m n all parts next before =
    ap (followed_after rest) next ∙ sym (ap (λ (l : List Moved). followed_after l m) parts) ∙ before

-- one more of many is changed
set_at : {X : Type 0} (f : X → X) (old : X) (ys : List X) (k : ℕ) → slice_get (map f (take k ys) ++ drop k ys) k ≡ Some old
    → slice_set (map f (take k ys) ++ drop k ys) k (f old) ≡ map f (take (suc k) ys) ++ drop (suc k) ys
set_at f old [] zero there = absurd cc
set_at f old [] (suc k) there = absurd cc
set_at {X = X} f old (y ∷ ys) zero there = let same : old ≡ y = cc in ap (λ (x : X). f x ∷ ys) same
set_at {X = X} f old (y ∷ ys) (suc k) there = ap (λ (l : List X). f y ∷ l) (set_at f old ys k there)

pub set_mapped : {X : Type 0} (f : X → X) (xs cur : List X) (i : ℕ) (old new : X) → cur ≡ map f (take i xs) ++ drop i xs
    → slice_get cur i ≡ Some old → new ≡ f old → slice_set cur i new ≡ map f (take (suc i) xs) ++ drop (suc i) xs
set_mapped {X = X} f xs cur i old new parts here made =
    ap (λ (l : List X). slice_set l i new) parts
    ∙ ap (slice_set (map f (take i xs) ++ drop i xs) i) made
    ∙ set_at f old xs i (sym (ap (λ (l : List X). slice_get l i) parts) ∙ here)
