-- Mirrors that are looked at beside their buffers, one after another.
use Rattle.std.proofs.Common.{◌≡◌, refl, ap, sym, ◌∙◌, subst, ℕ, zero, suc, ◌+◌, ◌≤◌, ℤ, pos, Bool, true, false, cond, List, [], ◌∷◌, ◌++◌, take, drop, length, Option, Some, None, slice_get, slice_set, arith}
use Rattle.std.specs.Prelude.{◌==◌, ◌&&◌, ◌||◌, not}
use Rattle.std.specs.List.{list_any}
use Rattle.std.specs.Ordering.{int_eq}
use Rattle.std.proofs.lemmas.List.{take_all}
use Rattle.nv_rpc.specs.Messages.{Sent}
use Rattle.nv_model.specs.Seen.{Seen, SeenBuffer}
use Rattle.nv_subs.specs.Mirrors.{FollowedBuffer, Mirror, absent, ticking, holding, mirror_lines, mirror_tick}
use Rattle.nv_world.specs.declared.step.Moved.{Moved}
use Rattle.nv_world.specs.declared.step.Step.{Step}
use Rattle.nv_watch.specs.Folding.{is_compared}
use Rattle.nv_watch.specs.Folds.{are_same_lines, holds_other}
use Rattle.nv_watch.specs.declared.mirror.Ends.{Ends}
use Rattle.nv_watch.specs.declared.mirror.Followed.{Followed}
use Rattle.nv_watch.specs.declared.touching.Touch.{Touch}
use Rattle.nv_watch.specs.declared.touching.Touch.TheVariants.{Nowhere, Once, Often}
use Rattle.nv_watch.specs.inside.Folded.{is_other_in}
use Rattle.nv_watch.specs.inside.Looking.{HasLooked, HasLookedAt, HaveLooked, HaveLookedIn}
use Rattle.nv_watch.specs.inside.Mirroring.{AreNotTwice, is_of, mirror_in}
use Rattle.nv_watch.specs.inside.Sharing.{AllBecome, AllShare, AreBeside, AreSpliced, AreSplicedIf, BecomesIf, HasCompared, HasLinesOf, MirrorShares, ShareEnds, SharesIf, Texts, ends_compared, ends_of_all, is_told_other, lines_there, no_ends, texts_seen, touched}
use Rattle.nv_watch.proofs.Mirrored.{set_apart}
use Rattle.nv_watch.proofs.SameLines.{same_texts}
use Rattle.nv_watch.proofs.SharedRows.{all_shared, beside_shares, fewer_shared, none_known, none_shared}

-- ---- one that is compared
pub lines_compared : (lines : List (List ℕ)) (tick : ℤ) (b : SeenBuffer) (same : Bool) → int_eq tick (pos b.tick) ≡ true → same ≡ are_same_lines b.lines lines
    → HasCompared (holding lines tick) (Some b) (Some same)
lines_compared lines tick b true at is = (
  ap (λ (t : Bool). t && not (are_same_lines b.lines lines)) at ∙ ap not (sym is),
  sym (same_texts b.lines lines (sym is)),
)
lines_compared lines tick b false at is = ap (λ (t : Bool). t && not (are_same_lines b.lines lines)) at ∙ ap not (sym is)

pub lines_apart : (lines : List (List ℕ)) (tick : ℤ) (b : SeenBuffer) → int_eq tick (pos b.tick) ≡ false → HasCompared (holding lines tick) (Some b) None
lines_apart lines tick b other = ap (λ (t : Bool). t && not (are_same_lines b.lines lines)) other

pub not_holding : (mirror : Mirror) (there : Option SeenBuffer) → mirror_lines mirror ≡ None → HasCompared mirror there None
not_holding absent there none = refl
not_holding (ticking tick) there none = refl
not_holding (holding lines tick) there none = absurd cc

pub not_known : (mirror : Mirror) (there : Option SeenBuffer) → mirror_tick mirror ≡ None → HasCompared mirror there None
not_known absent there none = refl
not_known (ticking tick) there none = absurd cc
not_known (holding lines tick) there none = absurd cc

pub when_holding : (e : Ends) (mirror : Mirror) (text : List (List ℕ)) (there : Option SeenBuffer) (lines : List (List ℕ)) (tick : ℤ) (o : Option Bool)
    → Some lines ≡ mirror_lines mirror → Some tick ≡ mirror_tick mirror → (ShareEnds e lines text → HasCompared (holding lines tick) there o)
    → MirrorShares e mirror text → HasCompared mirror there o
when_holding e absent text there lines tick o held known compared h = absurd cc
when_holding e (ticking now) text there lines tick o held known compared h = absurd cc
when_holding e (holding ls now) text there lines tick o held known compared h =
    let same : lines ≡ ls = cc in
    let at : tick ≡ now = cc in
    subst (λ (l : List (List ℕ)). HasCompared (holding l now) there o) same
    (subst (λ (j : ℤ). HasCompared (holding lines j) there o) at (compared (subst (λ (l : List (List ℕ)). ShareEnds e l text) (sym same) h)))

pub none_there : (mirror : Mirror) → HasCompared mirror None None
none_there absent = refl
none_there (ticking tick) = refl
none_there (holding lines tick) = refl

same_ends : (old new : Followed) (text : Option (List (List ℕ))) → new.follower ≡ old.follower → new.ends ≡ old.ends → SharesIf old text → SharesIf new text
same_ends old new None follower ends h = ends ∙ h
same_ends old new (Some text) follower ends h =
    subst (λ (e : Ends). MirrorShares e new.follower.mirror text) (sym ends)
    (subst (λ (k : FollowedBuffer). MirrorShares old.ends k.mirror text) (sym follower) h)

all_known : (mirror : Mirror) (text : List (List ℕ)) (b : SeenBuffer) → b.lines ≡ text → HasLinesOf mirror (Some b) → MirrorShares (ends_of_all mirror) mirror text
all_known absent text b is h = tt
all_known (ticking tick) text b is h = tt
all_known (holding lines tick) text b is h = all_shared lines text (h ∙ is)

known_then : (new : Followed) (mirror : Mirror) (there : Option SeenBuffer) → new.follower.mirror ≡ mirror → new.ends ≡ ends_of_all mirror → HasLinesOf mirror there
    → SharesIf new (lines_there there)
known_then new absent None is ends h = ends
known_then new (ticking tick) None is ends h = ends
known_then new (holding lines tick) None is ends h = absurd h
known_then new mirror (Some b) is ends h =
    subst (λ (e : Ends). MirrorShares e new.follower.mirror b.lines) (sym ends)
    (subst (λ (k : Mirror). MirrorShares (ends_of_all mirror) k b.lines) (sym is) (all_known mirror b.lines b refl h))

pub has_looked_at : (seen : Seen) (old new : Followed) (same : Option Bool) (other : Bool)
    → new.session ≡ old.session → new.buffer ≡ old.buffer → new.follower ≡ old.follower
    → new.ends ≡ ends_compared old.ends old.follower.mirror same → other ≡ is_told_other same
    → (SharesIf old (lines_there (seen.buffer old.buffer)) → HasCompared old.follower.mirror (seen.buffer old.buffer) same)
    → HasLookedAt seen old new other
has_looked_at seen old new same other session buffer follower ends told compared = record {
  session = session;
  buffer = buffer;
  follower = follower;
  shows = λ h. by_case same ends told (compared h) h;
}
  where
    by_case : (o : Option Bool) → new.ends ≡ ends_compared old.ends old.follower.mirror o → other ≡ is_told_other o
        → HasCompared old.follower.mirror (seen.buffer old.buffer) o → SharesIf old (lines_there (seen.buffer old.buffer))
        → (other ≡ holds_other old.follower.mirror (seen.buffer old.buffer)) × SharesIf new (lines_there (seen.buffer old.buffer))
    by_case None ends told is h = (told ∙ sym is, same_ends old new (lines_there (seen.buffer old.buffer)) follower ends h)
    by_case (Some true) ends told is h = (
      told ∙ sym is.0,
      known_then new old.follower.mirror (seen.buffer old.buffer) (ap (λ (k : FollowedBuffer). k.mirror) follower) ends is.1,
    )
    by_case (Some false) ends told is h = (told ∙ sym is, same_ends old new (lines_there (seen.buffer old.buffer)) follower ends h)

-- ---- one that is looked at
beside_then : (s : Moved) (e later : Ends) (mirror : Mirror) (b d : List (List ℕ)) → BecomesIf (Once s) (Some b) (Some d) → AreBeside d s e later
    → MirrorShares e mirror b → MirrorShares later mirror d
beside_then s e later absent b d one left h = tt
beside_then s e later (ticking tick) b d one left h = tt
beside_then s e later (holding lines tick) b d one left h = beside_shares s e later lines b d one left h

none_beside_then : (s : Moved) (e later : Ends) (mirror : Mirror) (d : List (List ℕ)) → e ≡ no_ends → AreBeside d s e later → MirrorShares later mirror d
none_beside_then s e later absent d none left = tt
none_beside_then s e later (ticking tick) d none left = tt
none_beside_then s e later (holding lines tick) d none left =
    fewer_shared no_ends later lines d (subst (λ (f : Ends). later.front ≤ f.front) none left.front) (subst (λ (f : Ends). later.back ≤ f.back) none left.back)
    (none_shared lines d)

mirror_none : (e : Ends) (mirror : Mirror) (d : List (List ℕ)) → e ≡ no_ends → MirrorShares e mirror d
mirror_none e absent d none = tt
mirror_none e (ticking tick) d none = tt
mirror_none e (holding lines tick) d none = subst (λ (f : Ends). ShareEnds f lines d) (sym none) (none_shared lines d)

from_some : (t : Touch) (e later : Ends) (mirror : Mirror) (b d : List (List ℕ)) → BecomesIf t (Some b) (Some d) → AreSpliced d t e later → MirrorShares e mirror b
    → MirrorShares later mirror d
from_some Nowhere e later mirror b d becomes left h =
    subst (λ (f : Ends). MirrorShares f mirror d) (sym left) (subst (λ (ls : List (List ℕ)). MirrorShares e mirror ls) (sym becomes) h)
from_some (Once s) e later mirror b d becomes left h = beside_then s e later mirror b d becomes left h
from_some Often e later mirror b d becomes left h = mirror_none later mirror d left

from_none : (t : Touch) (e later : Ends) (mirror : Mirror) (d : List (List ℕ)) → AreSpliced d t e later → e ≡ no_ends → MirrorShares later mirror d
from_none Nowhere e later mirror d left none = mirror_none later mirror d (left ∙ none)
from_none (Once s) e later mirror d left none = none_beside_then s e later mirror d none left
from_none Often e later mirror d left none = mirror_none later mirror d left

spliced_if : (t : Touch) (old mid : Followed) (before after : Option (List (List ℕ))) → mid.follower ≡ old.follower → BecomesIf t before after
    → AreSplicedIf after t old.ends mid.ends → SharesIf old before → SharesIf mid after
spliced_if t old mid before None follower becomes left h = left
spliced_if t old mid None (Some d) follower becomes left h =
    subst (λ (k : FollowedBuffer). MirrorShares mid.ends k.mirror d) (sym follower) (from_none t old.ends mid.ends old.follower.mirror d left h)
spliced_if t old mid (Some b) (Some d) follower becomes left h =
    subst (λ (k : FollowedBuffer). MirrorShares mid.ends k.mirror d) (sym follower) (from_some t old.ends mid.ends old.follower.mirror b d becomes left h)

module _ (seen : Seen) (step : Step) (messages : List Sent) where
  pub not_compared : (old new : Followed) (other : Bool)
      → new.session ≡ old.session → new.buffer ≡ old.buffer → new.follower ≡ old.follower
      → AreSplicedIf (texts_seen seen old.buffer) (touched old.buffer step.splices.items) old.ends new.ends
      → is_compared step messages old.session old.buffer ≡ false → other ≡ false → HasLooked seen step messages old new other
  not_compared old new other session buffer follower left apart is = record {
    session = session;
    buffer = buffer;
    follower = follower;
    shows = λ before becomes h. (
      is ∙ sym (ap (λ (t : Bool). t && holds_other old.follower.mirror (seen.buffer old.buffer)) apart),
      spliced_if (touched old.buffer step.splices.items) old new (before old.buffer) (texts_seen seen old.buffer) follower (becomes old.buffer) left h,
    );
  }

  pub was_compared : (old mid new : Followed) (other : Bool) → HasLookedAt seen mid new other
      → mid.session ≡ old.session → mid.buffer ≡ old.buffer → mid.follower ≡ old.follower
      → AreSplicedIf (texts_seen seen old.buffer) (touched old.buffer step.splices.items) old.ends mid.ends
      → is_compared step messages old.session old.buffer ≡ true → HasLooked seen step messages old new other
  was_compared old mid new other looked session buffer follower left compared = record {
    session = looked.session ∙ session;
    buffer = looked.buffer ∙ buffer;
    follower = looked.follower ∙ follower;
    shows = λ before becomes h.
        let known : SharesIf mid (texts_seen seen old.buffer) =
        spliced_if (touched old.buffer step.splices.items) old mid (before old.buffer) (texts_seen seen old.buffer) follower (becomes old.buffer) left h in
        let told = looked.shows (subst (λ (n : ℤ). SharesIf mid (texts_seen seen n)) (sym buffer) known) in (
          told.0
              ∙ ap (λ (k : FollowedBuffer). holds_other k.mirror (seen.buffer mid.buffer)) follower
              ∙ ap (λ (n : ℤ). holds_other old.follower.mirror (seen.buffer n)) buffer
              ∙ ap (λ (t : Bool). t && holds_other old.follower.mirror (seen.buffer old.buffer)) (sym compared),
          subst (λ (n : ℤ). SharesIf new (texts_seen seen n)) buffer told.1,
        );
  }

-- ---- one after another
next_place : (p : ℕ) → suc p ≡ p + 1
next_place p = omega arith

same_mirror : (fs : List Followed) (p : ℕ) (w v : Followed) → slice_get fs p ≡ Some w → v.session ≡ w.session → v.buffer ≡ w.buffer → v.follower ≡ w.follower
    → (s : ℕ) (n : ℤ) → mirror_in (slice_set fs p v) s n ≡ mirror_in fs s n
same_mirror [] p w v there session buffer follower s n = absurd cc
same_mirror (f ∷ fs) zero w v there session buffer follower s n =
    let is : w ≡ f = some_same w f there in
    ap (λ (j : ℕ). cond ((j == s) && int_eq v.buffer n) v.follower.mirror (mirror_in fs s n)) (session ∙ ap (λ (k : Followed). k.session) is)
    ∙ ap (λ (j : ℤ). cond ((f.session == s) && int_eq j n) v.follower.mirror (mirror_in fs s n)) (buffer ∙ ap (λ (k : Followed). k.buffer) is)
    ∙ ap (λ (k : FollowedBuffer). cond (is_of s n f) k.mirror (mirror_in fs s n)) (follower ∙ ap (λ (k : Followed). k.follower) is)
  where
    some_same : (a b : Followed) → Some b ≡ Some a → a ≡ b
    some_same a b e = cc
same_mirror (f ∷ fs) (suc p) w v there session buffer follower s n =
    ap (λ (m : Mirror). cond (is_of s n f) f.follower.mirror m) (same_mirror fs p w v there session buffer follower s n)

any_more : (P : Followed → Bool) (fs : List Followed) (f : Followed) → list_any P (fs ++ f ∷ []) ≡ (list_any P fs || P f)
any_more P [] f = or_false (P f)
  where
    or_false : (b : Bool) → (b || false) ≡ b
    or_false true = refl
    or_false false = refl
any_more P (g ∷ fs) f = ap (λ (b : Bool). P g || b) (any_more P fs f) ∙ or_then (P g) (list_any P fs) (P f)
  where
    or_then : (a b c : Bool) → (a || (b || c)) ≡ ((a || b) || c)
    or_then true b c = refl
    or_then false b c = refl

share_more : (texts : Texts) (fs : List Followed) (f : Followed) → AllShare texts fs → SharesIf f (texts f.buffer) → AllShare texts (fs ++ f ∷ [])
share_more texts [] f h s = (s, tt)
share_more texts (g ∷ fs) f h s = (h.0, share_more texts fs f h.1 s)

take_set : (fs : List Followed) (p : ℕ) (w v : Followed) → slice_get fs p ≡ Some w → take (suc p) (slice_set fs p v) ≡ take p fs ++ v ∷ []
take_set [] p w v there = absurd cc
take_set (f ∷ fs) zero w v there = refl
take_set (f ∷ fs) (suc p) w v there = ap (λ (l : List Followed). f ∷ l) (take_set fs p w v there)

drop_set : (fs : List Followed) (p : ℕ) (w v : Followed) → slice_get fs p ≡ Some w → drop (suc p) (slice_set fs p v) ≡ drop (suc p) fs
drop_set [] p w v there = absurd cc
drop_set (f ∷ fs) zero w v there = refl
drop_set (f ∷ fs) (suc p) w v there = drop_set fs p w v there

rest_shares : (texts : Texts) (fs : List Followed) (p : ℕ) (w : Followed) → slice_get fs p ≡ Some w → AllShare texts (drop p fs)
    → SharesIf w (texts w.buffer) × AllShare texts (drop (suc p) fs)
rest_shares texts [] p w there h = absurd cc
rest_shares texts (f ∷ fs) zero w there h = (subst (λ (k : Followed). SharesIf k (texts k.buffer)) (some_same f w there) h.0, h.1)
  where
    some_same : (a b : Followed) → Some a ≡ Some b → a ≡ b
    some_same a b e = cc
rest_shares texts (f ∷ fs) (suc p) w there h = rest_shares texts fs p w there h

module _ (seen : Seen) (step : Step) (messages : List Sent) where
  -- the first so many were looked at
  pub record AreLooked (old cur : List Followed) (p : ℕ) (other : Bool) : Type 0 where
    pub same : (s : ℕ) (n : ℤ) → mirror_in cur s n ≡ mirror_in old s n
    pub apart : AreNotTwice old → AreNotTwice cur
    pub shows : (before : Texts) → AllBecome step.splices.items before (texts_seen seen) → AllShare before old
        → (other ≡ list_any (is_other_in seen step messages) (take p cur)) × (AllShare (texts_seen seen) (take p cur) × AllShare before (drop p cur))

  pub none_looked : (old : List Followed) → AreLooked old old 0 false
  none_looked old = record { same = λ s n. refl; apart = λ h. h; shows = λ before becomes h. (refl, (tt, h)) }

  same_test : (w v : Followed) → v.session ≡ w.session → v.buffer ≡ w.buffer → v.follower ≡ w.follower
      → is_other_in seen step messages w ≡ is_other_in seen step messages v
  same_test w v session buffer follower =
      ap (λ (j : ℕ). is_compared step messages j w.buffer && holds_other w.follower.mirror (seen.buffer w.buffer)) (sym session)
      ∙ ap (λ (j : ℤ). is_compared step messages v.session j && holds_other w.follower.mirror (seen.buffer j)) (sym buffer)
      ∙ ap (λ (k : FollowedBuffer). is_compared step messages v.session v.buffer && holds_other k.mirror (seen.buffer v.buffer)) (sym follower)

  pub one_looked : (old cur : List Followed) (p : ℕ) (w v : Followed) (other here both : Bool) → AreLooked old cur p other → slice_get cur p ≡ Some w
      → HasLooked seen step messages w v here → both ≡ (other || here) → AreLooked old (slice_set cur p v) (p + 1) both
  one_looked old cur p w v other here both before there looked is = subst (λ (q : ℕ). AreLooked old (slice_set cur p v) q both) (next_place p) (record {
    same = λ s n. same_mirror cur p w v there looked.session looked.buffer looked.follower s n ∙ before.same s n;
    apart = λ h. set_apart cur p w v there looked.session looked.buffer (before.apart h);
    shows = λ texts becomes h.
        let was = before.shows texts becomes h in
        let rest = rest_shares texts cur p w there was.1.1 in
        let one = looked.shows texts becomes rest.0 in
        let front : list_any (is_other_in seen step messages) (take (suc p) (slice_set cur p v)) ≡ (list_any (is_other_in seen step messages) (take p cur) || is_other_in seen step messages v) =
        ap (list_any (is_other_in seen step messages)) (take_set cur p w v there) ∙ any_more (is_other_in seen step messages) (take p cur) v in (
          is
              ∙ ap (λ (t : Bool). t || here) was.0
              ∙ ap (λ (t : Bool). list_any (is_other_in seen step messages) (take p cur) || t) (one.0 ∙ same_test w v looked.session looked.buffer looked.follower)
              ∙ sym front,
          (
            subst (λ (l : List Followed). AllShare (texts_seen seen) l) (sym (take_set cur p w v there))
                (share_more (texts_seen seen) (take p cur) v was.1.0 (subst (λ (n : ℤ). SharesIf v (texts_seen seen n)) (sym looked.buffer) one.1)),
            subst (λ (l : List Followed). AllShare texts l) (sym (drop_set cur p w v there)) rest.1,
          ),
        );
  })

  pub all_looked : (old cur : List Followed) (p : ℕ) (other : Bool) → length cur ≤ p → AreLooked old cur p other → HaveLooked seen step messages old cur other
  all_looked old cur p other all h = record {
    same = h.same;
    apart = h.apart;
    shows = λ before becomes known.
        let told = h.shows before becomes known in (
          told.0 ∙ ap (list_any (is_other_in seen step messages)) (take_all p cur all),
          subst (λ (l : List Followed). AllShare (texts_seen seen) l) (take_all p cur all) told.1.0,
        );
  }

-- ---- in an editor that may be known
pub looked_in : (seen : Seen) (step : Step) (messages : List Sent) (old new : List Followed) (other : Bool) → HaveLooked seen step messages old new other
    → HaveLookedIn (Some seen) step messages old new other
looked_in seen step messages old new other looked = record {
  same = looked.same;
  apart = looked.apart;
  shows = λ before becomes h.
      let told = looked.shows before (becomes seen refl) h in
      (told.0, λ t e. subst (λ (z : Seen). AllShare (texts_seen z) new) (some_same seen t e) told.1);
}
  where
    some_same : (a b : Seen) → Some a ≡ Some b → a ≡ b
    some_same a b e = cc

pub unlooked : (step : Step) (messages : List Sent) (all : List Followed) → HaveLookedIn None step messages all all false
unlooked step messages all = record {
  same = λ s n. refl;
  apart = λ h. h;
  shows = λ before becomes h. (refl, λ t e. none_some t e);
}
  where
    none_some : (t : Seen) → None ≡ Some t → AllShare (texts_seen t) all
    none_some t e = absurd cc

-- ---- all are forgotten
pub record AreForgotten (old cur : List Followed) (p : ℕ) : Type 0 where
  pub same : (s : ℕ) (n : ℤ) → mirror_in cur s n ≡ mirror_in old s n
  pub apart : AreNotTwice old → AreNotTwice cur
  pub shares : (texts : Texts) → AllShare texts (take p cur)

pub none_forgotten : (old : List Followed) → AreForgotten old old 0
none_forgotten old = record { same = λ s n. refl; apart = λ h. h; shares = λ texts. tt }

pub one_forgotten : (old cur : List Followed) (p : ℕ) (w v : Followed) → AreForgotten old cur p → slice_get cur p ≡ Some w
    → v.session ≡ w.session → v.buffer ≡ w.buffer → v.follower ≡ w.follower → v.ends ≡ no_ends → AreForgotten old (slice_set cur p v) (p + 1)
one_forgotten old cur p w v before there session buffer follower ends = subst (λ (q : ℕ). AreForgotten old (slice_set cur p v) q) (next_place p) (record {
  same = λ s n. same_mirror cur p w v there session buffer follower s n ∙ before.same s n;
  apart = λ h. set_apart cur p w v there session buffer (before.apart h);
  shares = λ texts.
      subst (λ (l : List Followed). AllShare texts l) (sym (take_set cur p w v there))
      (share_more texts (take p cur) v (before.shares texts) (none_known v (texts v.buffer) ends));
})

pub all_forgotten : (old cur : List Followed) (p : ℕ) (texts : Texts) → length cur ≤ p → AreForgotten old cur p → AllShare texts cur
all_forgotten old cur p texts all h = subst (λ (l : List Followed). AllShare texts l) (take_all p cur all) (h.shares texts)
