-- What a fold of buffers keeps grows with what is seen.
use Rattle.std.proofs.Common.{◌≡◌, refl, ap, sym, ◌∙◌, inl, inr, ℕ, zero, suc, ℤ, Bool, true, false, true≢false, cond, List, [], ◌∷◌, ◌++◌, Option, Some, None, IsSome, slice_get, subst, option_map, option_and_then}
use Rattle.std.specs.Prelude.{◌==◌, ◌&&◌, ◌||◌, not}
use Rattle.std.specs.List.{list_any}
use Rattle.std.proofs.lemmas.List.Sums.{fold-append}
use Rattle.nv_rpc.specs.Messages.{Sent}
use Rattle.nv_model.specs.Seen.{Seen, seen_of}
use Rattle.nv_history.specs.Events.{Entry}
use Rattle.nv_history.specs.Runs.{run_from}
use Rattle.nv_history.specs.Worlds.{World}
use Rattle.nv_world.specs.Worlds.{model_of}
use Rattle.nv_subs.specs.Mirrors.{Mirror, absent}
use Rattle.nv_world.specs.declared.step.Step.{Step}
use Rattle.nv_watch.specs.declared.mirror.Followed.{Followed}
use Rattle.nv_watch.specs.declared.verdict.Verdict.{Verdict}
use Rattle.nv_watch.specs.declared.verdict.Verdict.TheVariants.{Yes}
use Rattle.nv_watch.specs.Folding.{HoldsOtherLines, IsFoldedWrong, is_compared, mirrors_seen, mirrors_with}
use Rattle.nv_watch.specs.Folds.{Mirrors, mirrors_behind, do_fit, holds_other}
use Rattle.nv_watch.specs.SeenWorlds.{editor_seen}
use Rattle.nv_watch.specs.SentParts.{is_whole_sent, messages_sent}
use Rattle.nv_watch.specs.Verdicts.{FollowsNext, Sight, last_sight, latest, verdict_with}
use Rattle.nv_watch.specs.inside.Folded.{AreKnownIn, HasFoldedIn, HasFoldedWith, any_other_in, is_other_in}
use Rattle.nv_watch.specs.inside.Mirroring.{AreNotTwice, is_of, mirror_in, mirrors_for}
use Rattle.nv_watch.specs.inside.Sharing.{AllShare, texts_seen}
use Rattle.nv_watch.proofs.Linked.{runs_on}
use Rattle.nv_watch.proofs.Mirrored.{behind_same, fits_same, is_of_both, its_mirror}
use Rattle.nv_watch.proofs.Verdicts.{verdict_grows, none_broken}

-- ---- one of some mirrors
record FoundIn (p : Followed → Bool) (fs : List Followed) : Type 0 where
  place : ℕ
  mirror : Followed
  there : slice_get fs place ≡ Some mirror
  is : p mirror ≡ true

found_one : (p : Followed → Bool) (fs : List Followed) → list_any p fs ≡ true → FoundIn p fs
found_one p [] any = absurd cc
found_one p (f ∷ fs) any = by_test (found_one p fs) (p f) refl any
  where
    further : FoundIn p fs → FoundIn p (f ∷ fs)
    further found = record { place = suc found.place; mirror = found.mirror; there = found.there; is = found.is }

    by_test : (list_any p fs ≡ true → FoundIn p fs) → (b : Bool) → p f ≡ b → (b || list_any p fs) ≡ true → FoundIn p (f ∷ fs)
    by_test rest true is any = record { place = zero; mirror = f; there = refl; is = is }
    by_test rest false is any = further (rest any)

both_true : (a b : Bool) → (a && b) ≡ true → (a ≡ true) × (b ≡ true)
both_true true b e = (refl, e)
both_true false b e = absurd cc

or_true : (a b : Bool) → b ≡ true → (a || b) ≡ true
or_true true b e = refl
or_true false b e = e

module _ (editor : Seen) (step : Step) (messages : List Sent) where
  any_there : (fs : List Followed) (s : ℕ) (n : ℤ) → is_compared step messages s n ≡ true
      → holds_other (mirror_in fs s n) (editor.buffer n) ≡ true → list_any (is_other_in editor step messages) fs ≡ true
  any_there [] s n compared other = absurd cc
  any_there (f ∷ fs) s n compared other = by_test (any_there fs s n compared) (is_of s n f) refl other
    where
      by_test : (holds_other (mirror_in fs s n) (editor.buffer n) ≡ true → list_any (is_other_in editor step messages) fs ≡ true)
          → (b : Bool) → is_of s n f ≡ b → holds_other (cond b f.follower.mirror (mirror_in fs s n)) (editor.buffer n) ≡ true
          → list_any (is_other_in editor step messages) (f ∷ fs) ≡ true
      by_test rest true is other =
          let keys = is_of_both f s n is in
          ap (λ (b : Bool). b || list_any (is_other_in editor step messages) fs)
          (ap (λ (b : Bool). b && holds_other f.follower.mirror (editor.buffer f.buffer))
          (ap (λ (k : ℕ). is_compared step messages k f.buffer) keys.0 ∙ ap (λ (k : ℤ). is_compared step messages s k) keys.1 ∙ compared)
          ∙ ap (λ (k : ℤ). holds_other f.follower.mirror (editor.buffer k)) keys.1 ∙ other)
      by_test rest false is other =
          or_true (is_other_in editor step messages f) (list_any (is_other_in editor step messages) fs) (rest other)

-- ---- what was seen
seen_more : (seen : List Sight) (x : Sight) (s : ℕ) (n : ℤ) → mirrors_with s (mirrors_seen seen s) x n ≡ mirrors_seen (seen ++ x ∷ []) s n
seen_more seen x s n = ap (λ (mirrors : Mirrors). mirrors n) (sym (fold-append (mirrors_with s) (λ k. absent) seen (x ∷ [])))

kept_more : (fs later : List Followed) (seen : List Sight) (x : Sight) (messages : List Sent) → messages ≡ messages_sent x.step.sent
    → ((s : ℕ) (n : ℤ) → mirror_in later s n ≡ mirrors_for x.step.session s (mirror_in fs s) messages n)
    → ((s : ℕ) (n : ℤ) → mirror_in fs s n ≡ mirrors_seen seen s n)
    → (s : ℕ) (n : ℤ) → mirror_in later s n ≡ mirrors_seen (seen ++ x ∷ []) s n
kept_more fs later seen x messages sent after before s n =
    after s n ∙ by_test (x.step.session == s)
    ∙ ap (λ (ms : List Sent). cond (x.step.session == s) (mirrors_behind (mirrors_seen seen s) ms) (mirrors_seen seen s) n) sent
    ∙ seen_more seen x s n
  where
    by_test : (b : Bool) → cond b (mirrors_behind (mirror_in fs s) messages) (mirror_in fs s) n
        ≡ cond b (mirrors_behind (mirrors_seen seen s) messages) (mirrors_seen seen s) n
    by_test true = behind_same (mirror_in fs s) (mirrors_seen seen s) (before s) messages n
    by_test false = before s n

-- whether the rule is broken, as the code asks
module _ (seen : List Sight) (x : Sight) where
  broken_is : (whole fit other broken : Bool) → whole ≡ is_whole_sent x.step.sent
      → fit ≡ do_fit (mirrors_seen seen x.step.session) (messages_sent x.step.sent)
      → (other ≡ true → HoldsOtherLines x (mirrors_seen (seen ++ x ∷ [])))
      → broken ≡ (not whole || not fit || other) → broken ≡ true → IsFoldedWrong seen x
  broken_is false fit other broken w f o b e = inl (sym w)
  broken_is true false other broken w f o b e = inr (inl (sym f))
  broken_is true true true broken w f o b e = inr (inr (o refl))
  broken_is true true false broken w f o b e = absurd cc

  kept_is : (whole fit other broken : Bool) → whole ≡ is_whole_sent x.step.sent
      → fit ≡ do_fit (mirrors_seen seen x.step.session) (messages_sent x.step.sent)
      → (HoldsOtherLines x (mirrors_seen (seen ++ x ∷ [])) → other ≡ true)
      → broken ≡ (not whole || not fit || other) → broken ≡ false → IsFoldedWrong seen x → ⊥
  kept_is false fit other broken w f o b e h = absurd cc
  kept_is true false other broken w f o b e h = absurd cc
  kept_is true true true broken w f o b e h = absurd cc
  kept_is true true false broken w f o b e (inl h) = absurd cc
  kept_is true true false broken w f o b e (inr (inl h)) = absurd cc
  kept_is true true false broken w f o b e (inr (inr h)) = let e : false ≡ true = o h in absurd cc

module _ (fs : List Followed) (x : Sight) (messages : List Sent) (mirrors : ℕ → Mirrors) (sent : messages ≡ messages_sent x.step.sent)
    (apart : AreNotTwice fs) (are : (s : ℕ) (n : ℤ) → mirror_in fs s n ≡ mirrors s n) where
  other_is : (o : Option Seen) → editor_seen x.world ≡ o → any_other_in o x.step messages fs ≡ true → HoldsOtherLines x mirrors
  other_is None at any = absurd cc
  other_is (Some editor) at any =
      let found = found_one (is_other_in editor x.step messages) fs any in
      let f = found.mirror in
      let both = both_true (is_compared x.step messages f.session f.buffer) (holds_other f.follower.mirror (editor.buffer f.buffer)) found.is in
      record {
        session = f.session;
        buffer = f.buffer;
        editor = editor;
        is_editor = at;
        compared = ap (λ (ms : List Sent). is_compared x.step ms f.session f.buffer) (sym sent) ∙ both.0;
        other =
            ap (λ (m : Mirror). holds_other m (editor.buffer f.buffer)) (sym (are f.session f.buffer) ∙ its_mirror fs found.place f apart found.there)
            ∙ both.1;
      }

  is_other : (o : Option Seen) → editor_seen x.world ≡ o → HoldsOtherLines x mirrors → any_other_in o x.step messages fs ≡ true
  is_other None at h = let e : None ≡ Some h.editor = sym at ∙ h.is_editor in absurd cc
  is_other (Some editor) at h =
      let same : Some editor ≡ Some h.editor = sym at ∙ h.is_editor in
      let e : editor ≡ h.editor = cc in
      any_there editor x.step messages fs h.session h.buffer
      (ap (λ (ms : List Sent). is_compared x.step ms h.session h.buffer) sent ∙ h.compared)
      (ap (λ (m : Mirror). holds_other m (editor.buffer h.buffer)) (are h.session h.buffer)
      ∙ ap (λ (k : Seen). holds_other (mirrors h.session h.buffer) (k.buffer h.buffer)) e ∙ h.other)

pub folded_more : (fs later : List Followed) (v : Verdict) (seen : List Sight) (x : Sight) (messages : List Sent) (whole fit other broken : Bool)
    → messages ≡ messages_sent x.step.sent → whole ≡ is_whole_sent x.step.sent
    → fit ≡ do_fit (mirror_in fs x.step.session) messages
    → ((s : ℕ) (n : ℤ) → mirror_in later s n ≡ mirrors_for x.step.session s (mirror_in fs s) messages n)
    → (AreNotTwice fs → AreNotTwice later)
    → other ≡ any_other_in (editor_seen x.world) x.step messages later
    → broken ≡ (not whole || not fit || other)
    → HasFoldedWith fs v seen → HasFoldedWith later (verdict_with v x.step.at broken) (seen ++ x ∷ [])
folded_more fs later v seen x messages whole fit other broken sent whole_is fit_is after apart other_is' broken_is' old =
    let are : (s : ℕ) (n : ℤ) → mirror_in later s n ≡ mirrors_seen (seen ++ x ∷ []) s n = kept_more fs later seen x messages sent after old.mirrors in
    let fits : fit ≡ do_fit (mirrors_seen seen x.step.session) (messages_sent x.step.sent) =
    fit_is ∙ fits_same (mirror_in fs x.step.session) (mirrors_seen seen x.step.session) (old.mirrors x.step.session) messages
    ∙ ap (λ (ms : List Sent). do_fit (mirrors_seen seen x.step.session) ms) sent in
    let stay : AreNotTwice later = apart old.apart in
    record {
      mirrors = are;
      apart = stay;
      verdict =
          verdict_grows IsFoldedWrong seen x v broken
          (broken_is seen x whole fit other broken whole_is fits
          (λ e. other_is later x messages (mirrors_seen (seen ++ x ∷ [])) sent stay are (editor_seen x.world) refl (sym other_is' ∙ e)) broken_is')
          (kept_is seen x whole fit other broken whole_is fits
          (λ h. other_is' ∙ is_other later x messages (mirrors_seen (seen ++ x ∷ [])) sent stay are (editor_seen x.world) refl h) broken_is')
          old.verdict;
    }

-- the rows of mirrors that are known in the world of a sight are those in that of the last
last_seen : (seen : List Sight) (x : Sight) → last_sight (seen ++ x ∷ []) ≡ Some x
last_seen seen x = fold-append latest None seen (x ∷ [])

some_same : {A : Type 0} (a b : A) → Some a ≡ Some b → a ≡ b
some_same a b e = cc

pub known_last : (fs : List Followed) (seen : List Sight) (x : Sight) → ((editor : Seen) → editor_seen x.world ≡ Some editor → AllShare (texts_seen editor) fs)
    → AreKnownIn fs (seen ++ x ∷ [])
known_last fs seen x known = λ last editor last_is there.
    let same : last ≡ x = some_same last x (sym last_is ∙ last_seen seen x) in
    known editor (ap (λ (y : Sight). editor_seen y.world) (sym same) ∙ there)

-- the editor of the world before one that follows is known
runs_from : (o p : Option World) (e : Entry) → p ≡ option_and_then (λ (v : World). run_from v (e ∷ [])) o → IsSome p → (w : World) × (o ≡ Some w)
runs_from None p e is some = absurd (true≢false (sym (subst (λ (q : Option World). IsSome q) is some)))
runs_from (Some w) p e is some = (w, refl)

pub known_before : (seen : List Sight) (x : Sight) (next : FollowsNext seen x) → (editor : Seen) × (editor_seen next.last.world ≡ Some editor)
unfolding editor_seen
known_before seen x next =
    let k = next.last.world in
    let w = runs_from (model_of next.last.world) (model_of x.world) next.entry (runs_on next.last.world x.world next.entry next.more) next.more.runs in (
      seen_of w.0.editor,
      ap (λ (b : Bool). cond b None (option_map (λ (v : World). seen_of v.editor) (model_of next.last.world))) next.more.known
          ∙ ap (option_map (λ (v : World). seen_of v.editor)) w.1,
    )

pub folded_with : (fs later : List Followed) (v : Verdict) (seen : List Sight) → ((s : ℕ) (n : ℤ) → mirror_in later s n ≡ mirror_in fs s n)
    → (AreNotTwice fs → AreNotTwice later) → HasFoldedWith fs v seen → HasFoldedWith later v seen
folded_with fs later v seen same apart old =
    record { mirrors = λ s n. same s n ∙ old.mirrors s n; apart = apart old.apart; verdict = old.verdict }

pub none_folded : (fs : List Followed) → fs ≡ [] → HasFoldedIn fs Yes []
none_folded fs none = record {
  kept = record {
    mirrors = λ s n. ap (λ (l : List Followed). mirror_in l s n) none;
    apart = subst_apart none;
    verdict = none_broken IsFoldedWrong;
  };
  known = λ last editor last_is there. let e : None ≡ Some last = last_is in absurd cc;
}
  where
    subst_apart : fs ≡ [] → AreNotTwice fs
    subst_apart e = subst AreNotTwice (sym e) tt
