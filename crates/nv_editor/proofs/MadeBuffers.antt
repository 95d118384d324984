-- An editor with a buffer made.
use Rattle.std.proofs.Common.{◌≡◌, ℤ, pos, ◌+◌, ◌<◌, ◌≤◌, ◌+ℤ◌, Bool, true, false, cond, List, [], ◌∷◌, ◌++◌, All, Option, Some, None, refl, sym, ap, subst, ◌∙◌, arith, true≢false}
use Rattle.std.specs.Prelude.{◌≤ℤ◌, ◌<ℤ◌, int_lt, is_some}
use Rattle.std.specs.Option.{option_or}
use Rattle.std.specs.Ordering.{int_eq}
use Rattle.std.proofs.lemmas.Int.{ints, by_lt_z}
use Rattle.std.proofs.lemmas.List.Elements.{All-append, All-cons, All-nil}
use Rattle.nv_buffer.specs.Content.{Content, fresh_content}
use Rattle.nv_windows.specs.Rooms.{last_handle}
use Rattle.nv_windows.specs.Sound.{IsRisingFrom}
use Rattle.nv_windows.specs.declared.window.Window.{Window}
use Rattle.nv_windows.proofs.Changed.{rising_push}
use Rattle.nv_model.specs.Editors.{at_handle, handles_of}
use Rattle.nv_model.specs.Stage.{Stage}
use Rattle.nv_model.proofs.Lookups.{int_eq-itself, at_append, handles-append}
use Rattle.nv_editor.specs.Sound.{IsSoundEditor, ShowsBuffer, IsOfGroups}
use Rattle.nv_editor.specs.inside.Table.{IsKeptBuffer, AreKeptBuffers}
use Rattle.nv_editor.proofs.KeptEdits.{fresh_kept_edits}
use Rattle.nv_editor.proofs.StageKept.{editor_of}
use Rattle.nv_editor.proofs.Updating.{all_by}

abbrev with_fresh : List (ℤ × Content) → ℤ → Bool → List (ℤ × Content)
with_fresh bs n listed = bs ++ (n, fresh_content n listed) ∷ []

one_more : (k n : ℤ) → k <ℤ n → k <ℤ (n +ℤ pos 1)
one_more k n h = omega (arith, ints)

the_next : (n : ℤ) → n <ℤ (n +ℤ pos 1)
the_next n = omega (arith, ints)

still_least : (n : ℤ) → pos 1 ≤ℤ n → pos 1 ≤ℤ (n +ℤ pos 1)
still_least n h = omega (arith, ints)

still_most : (n : ℤ) → n ≤ℤ last_handle → (n +ℤ pos 1) ≤ℤ (last_handle +ℤ pos 1)
still_most n h = omega (arith, ints)

-- the next handle is none above the last
pub room_left : (n : ℤ) → int_lt last_handle n ≡ false → n ≤ℤ last_handle
room_left n left = by_lt_z last_handle n (λ less. absurd (true≢false (sym (less_is n less) ∙ left))) (λ most. most)
  where
    less_is : (k : ℤ) → last_handle <ℤ k → int_lt last_handle k ≡ true
    less_is k less = grind (arith, ints)

pub next_sound : (bs : List (ℤ × Content)) (stage : Stage) (listed : Bool) → IsSoundEditor (editor_of bs stage) → stage.next_buffer ≤ℤ last_handle
    → IsSoundEditor (editor_of (bs ++ (stage.next_buffer, fresh_content stage.next_buffer listed) ∷ []) (record stage { next_buffer = stage.next_buffer +ℤ pos 1 }))
next_sound bs stage listed sound room =
    let n : ℤ = stage.next_buffer in
    let handles : handles_of (with_fresh bs n listed) ≡ handles_of bs ++ n ∷ [] = handles-append bs ((n, fresh_content n listed) ∷ []) in record {
      workspace = sound.workspace;
      rising = subst (IsRisingFrom (pos 1)) (sym handles) (rising_push (pos 1) (handles_of bs) n sound.rising sound.next_buffer.0 sound.below);
      below =
          subst (λ (l : List ℤ). All (λ k. k <ℤ (n +ℤ pos 1)) l) (sym handles)
          (All-append (λ k. k <ℤ (n +ℤ pos 1)) (handles_of bs) (n ∷ []) (all_by (λ k. k <ℤ n) (λ k. k <ℤ (n +ℤ pos 1)) (λ k h. one_more k n h) (handles_of bs) sound.below)
          (All-cons (λ k. k <ℤ (n +ℤ pos 1)) n [] (the_next n) (All-nil (λ k. k <ℤ (n +ℤ pos 1)))));
      next_buffer = (still_least n sound.next_buffer.0, still_most n room);
      shown =
          all_by (λ (w : Window). ShowsBuffer (at_handle bs w.buffer) w) (λ (w : Window). ShowsBuffer (at_handle (with_fresh bs n listed) w.buffer) w)
          (λ w shows. subst (λ (o : Option Content). ShowsBuffer o w) (sym (at_append w.buffer bs ((n, fresh_content n listed) ∷ [])))
          (shows_or (at_handle bs w.buffer) (at_handle ((n, fresh_content n listed) ∷ []) w.buffer) w shows))
          stage.workspace.windows sound.shown;
      painted =
          All-append (λ (e : ℤ × Content). All (IsOfGroups stage.groups) e.1.marks.marks) bs ((n, fresh_content n listed) ∷ []) sound.painted
          (All-cons (λ (e : ℤ × Content). All (IsOfGroups stage.groups) e.1.marks.marks) (n, fresh_content n listed) [] (All-nil (IsOfGroups stage.groups))
          (All-nil (λ (e : ℤ × Content). All (IsOfGroups stage.groups) e.1.marks.marks)));
      uis = sound.uis;
    }
  where
    shows_or : (o p : Option Content) (w : Window) → ShowsBuffer o w → ShowsBuffer (option_or o p) w
    shows_or None p w shows = absurd shows
    shows_or (Some b) p w shows = shows

some_same : (a b : Content) → Some a ≡ Some b → a ≡ b
some_same a b e = cc

pub next_kept : (edited : List ℤ) (bs : List (ℤ × Content)) (n : ℤ) (listed : Bool) → AreKeptBuffers edited bs
    → AreKeptBuffers edited (bs ++ (n, fresh_content n listed) ∷ [])
next_kept edited bs n listed kept k c there =
    by_case (at_handle bs k) refl (int_eq n k) (sym (at_append k bs ((n, fresh_content n listed) ∷ [])) ∙ there)
  where
    fresh_is : IsKeptBuffer edited k (fresh_content n listed)
    fresh_is = record { edits = fresh_kept_edits n listed; sealed = λ outside. refl }

    by_case : (o : Option Content) → at_handle bs k ≡ o → (t : Bool) → option_or o (cond t (Some (fresh_content n listed)) None) ≡ Some c
        → IsKeptBuffer edited k c
    by_case (Some b) found t e = subst (λ (d : Content). IsKeptBuffer edited k d) (some_same b c e) (kept k b found)
    by_case None found true e = subst (λ (d : Content). IsKeptBuffer edited k d) (some_same (fresh_content n listed) c e) fresh_is
    by_case None found false e = cc

pub next_live : (bs : List (ℤ × Content)) (n : ℤ) (listed : Bool) → is_some (at_handle (bs ++ (n, fresh_content n listed) ∷ []) n) ≡ true
next_live bs n listed =
    ap (λ (o : Option Content). is_some o) (at_append n bs ((n, fresh_content n listed) ∷ []) ∙ ap (λ (t : Bool). option_or (at_handle bs n) (cond t (Some (fresh_content n listed)) None)) (int_eq-itself n))
    ∙ either_way (at_handle bs n)
  where
    either_way : (o : Option Content) → is_some (option_or o (Some (fresh_content n listed))) ≡ true
    either_way None = refl
    either_way (Some b) = refl

pub still_live : (bs : List (ℤ × Content)) (n k : ℤ) (listed : Bool) → is_some (at_handle bs k) ≡ true
    → is_some (at_handle (bs ++ (n, fresh_content n listed) ∷ []) k) ≡ true
still_live bs n k listed live =
    ap (λ (o : Option Content). is_some o) (at_append k bs ((n, fresh_content n listed) ∷ []))
    ∙ either_way (at_handle bs k) (at_handle ((n, fresh_content n listed) ∷ []) k) live
  where
    either_way : (o p : Option Content) → is_some o ≡ true → is_some (option_or o p) ≡ true
    either_way None p is = cc
    either_way (Some b) p is = refl
