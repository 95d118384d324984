-- What operations keep of a sound model editor, and of the past of its buffers.
use Rattle.std.proofs.Common.{◌≡◌, ◌∙◌, refl, sym, ap, subst, ℤ, pos, ◌<ℤ◌, List, [], ◌∷◌, ◌++◌, Bool, true, false, cond, arith, All, Option, Some, None}
use Rattle.std.specs.Prelude.{filter, option_map, is_some}
use Rattle.std.specs.List.{AllByRecursion}
use Rattle.std.specs.Option.{option_or}
use Rattle.std.specs.Ordering.{int_eq}
use Rattle.std.proofs.lemmas.Int.{ints}
use Rattle.std.proofs.lemmas.List.Elements.{All-head, All-tail}
use Rattle.std.proofs.lemmas.Option.{none-some, same_Some}
use Rattle.nv_buffer.specs.Content.{fresh_content, after_seal}
use Rattle.nv_model.specs.Buffers.{ModelBuffer, text_of, with_seal, without_mark, with_mark, fresh_buffer}
use Rattle.nv_model.specs.Editors.{ModelEditor, at_handle, updated_at, fresh_editor}
use Rattle.nv_model.specs.Operations.{Operation, spliced, spliced_back, stepped, sealed_in, mark_set, mark_removed, name_put, modifiable_put, modified_put, listed_put, tabstop_put, buffer_made, buffer_dropped, set_now, with_new_buffer, without_buffer, after_operation, after_operations}
use Rattle.nv_model.specs.Laws.{IsNumbered}
use Rattle.nv_model.specs.Standing.{StandsFor}
use Rattle.nv_model.specs.declared.parts.Limits.{Limits}
use Rattle.nv_model.proofs.Lookups.{same_int, int_eq-itself, at_updated, at_append, at_dropped}
use Rattle.nv_model.proofs.Numbering.{stays_below, handles_stay_below}
use Rattle.nv_model.proofs.Options.{options_are_kept, fresh_is_kept}
use Rattle.nv_model.proofs.Sealing.{seal_is_kept}
use Rattle.nv_dispatch.specs.Telling.{Past, splices_had, past_at, without_marks, IsSoundBuffer, IsSoundModel}

-- the past of a live buffer
pub past_live : (m : ModelEditor) (n : ℤ) (b : ModelBuffer) → IsSoundModel m → at_handle m.buffers n ≡ Some b
    → past_at m n ≡ record { splices = b.splices; is_deleted = false }
past_live m n b sound is = λ i. record { splices = splices_had (option_or (is i) (at_handle m.deleted n)); is_deleted = is_some (sound.apart n b is i) }

-- an editor that goes on sound from another, with the same past of each buffer
pub record KeepsPasts (m later : ModelEditor) : Type 0 where
  pub sound : IsSoundModel later
  pub past : (n : ℤ) → past_at later n ≡ past_at m n

pub keeps_same : (m : ModelEditor) → IsSoundModel m → KeepsPasts m m
keeps_same m sound = record { sound = sound; past = λ n. refl }

pub keeps_then : (m between later : ModelEditor) → KeepsPasts m between → KeepsPasts between later → KeepsPasts m later
keeps_then m between later first then = record { sound = then.sound; past = λ n. then.past n ∙ first.past n }

-- the same buffers, live and deleted
pub keeps_buffers : (m later : ModelEditor) → IsSoundModel m → IsNumbered later → later.buffers ≡ m.buffers → later.deleted ≡ m.deleted → KeepsPasts m later
keeps_buffers m later sound numbered live dead = record {
  sound = record {
    numbered = numbered;
    apart = λ n b is. ap (λ (es : List (ℤ × ModelBuffer)). at_handle es n) dead ∙ sound.apart n b (sym (ap (λ (es : List (ℤ × ModelBuffer)). at_handle es n) live) ∙ is);
    buffers = λ n b is. sound.buffers n b (sym (ap (λ (es : List (ℤ × ModelBuffer)). at_handle es n) live) ∙ is);
  };
  past = λ n i. record { splices = splices_had (option_or (at_handle (live i) n) (at_handle (dead i) n)); is_deleted = is_some (at_handle (dead i) n) };
}

-- ---- an update of the buffer under a handle that leaves its splices
module _ (n : ℤ) (f : ModelBuffer → ModelBuffer) (m : ModelEditor) (sound : IsSoundModel m)
    (soundly : (b : ModelBuffer) → IsSoundBuffer b → IsSoundBuffer (f b)) (same : (b : ModelBuffer) → (f b).splices ≡ b.splices) where
  updated_sound : (k : ℤ) (t : Bool) (o : Option ModelBuffer) (d : ModelBuffer) → at_handle m.buffers k ≡ o → cond t (option_map f o) o ≡ Some d → IsSoundBuffer d
  updated_sound k true None d was is = absurd (none-some d is)
  updated_sound k true (Some b) d was is = subst (λ (c : ModelBuffer). IsSoundBuffer c) (same_Some (f b) d is) (soundly b (sound.buffers k b was))
  updated_sound k false o d was is = sound.buffers k d (was ∙ is)

  updated_apart : (k : ℤ) (t : Bool) (o : Option ModelBuffer) (d : ModelBuffer) → at_handle m.buffers k ≡ o → cond t (option_map f o) o ≡ Some d → at_handle m.deleted k ≡ None
  updated_apart k true None d was is = absurd (none-some d is)
  updated_apart k true (Some b) d was is = sound.apart k b was
  updated_apart k false o d was is = sound.apart k d (was ∙ is)

  updated_splices : (t : Bool) (o p : Option ModelBuffer) → splices_had (option_or (cond t (option_map f o) o) p) ≡ splices_had (option_or o p)
  updated_splices true None p = refl
  updated_splices true (Some b) p = same b
  updated_splices false o p = refl

  pub keeps_updated : (later : ModelEditor) → IsNumbered later → later.buffers ≡ updated_at n f m.buffers → later.deleted ≡ m.deleted → KeepsPasts m later
  keeps_updated later numbered live dead = record {
    sound = record {
      numbered = numbered;
      apart = λ k d is. ap (λ (es : List (ℤ × ModelBuffer)). at_handle es k) dead ∙ updated_apart k (int_eq n k) (at_handle m.buffers k) d refl (sym (now k) ∙ is);
      buffers = λ k d is. updated_sound k (int_eq n k) (at_handle m.buffers k) d refl (sym (now k) ∙ is);
    };
    past = λ k.
        (λ i. record { splices = splices_had (option_or (now k i) (at_handle (dead i) k)); is_deleted = is_some (at_handle (dead i) k) })
        ∙ (λ i. record { splices = updated_splices (int_eq n k) (at_handle m.buffers k) (at_handle m.deleted k) i; is_deleted = is_some (at_handle m.deleted k) });
  }
    where
      now : (k : ℤ) → at_handle later.buffers k ≡ cond (int_eq n k) (option_map f (at_handle m.buffers k)) (at_handle m.buffers k)
      now k = ap (λ (es : List (ℤ × ModelBuffer)). at_handle es k) live ∙ at_updated n k f m.buffers

-- ---- operations that leave texts and changes
abbrev pub LeavesTexts : Operation → Type 0
LeavesTexts (spliced n s) = ⊥
LeavesTexts (spliced_back n s) = ⊥
LeavesTexts (stepped n leg) = ⊥
LeavesTexts (buffer_made listed) = ⊥
LeavesTexts (buffer_dropped n) = ⊥
LeavesTexts _ = Unit {0}

-- closing the open change leaves a buffer sound
pub sealed_stands : (b : ModelBuffer) (is : IsSoundBuffer b) → StandsFor (after_seal is.0) (without_marks (with_seal b))
unfolding text_of
sealed_stands b is = seal_is_kept is.0 (without_marks b) is.1

pub sealed_sound : (b : ModelBuffer) → IsSoundBuffer b → IsSoundBuffer (with_seal b)
sealed_sound b is = (after_seal is.0, sealed_stands b is)

pub leaves_keeps : (c : Operation) → LeavesTexts c → (m : ModelEditor) → IsSoundModel m → KeepsPasts m (after_operation c m)
leaves_keeps (spliced n s) leaves m sound = absurd leaves
leaves_keeps (spliced_back n s) leaves m sound = absurd leaves
leaves_keeps (stepped n leg) leaves m sound = absurd leaves
leaves_keeps (buffer_made listed) leaves m sound = absurd leaves
leaves_keeps (buffer_dropped n) leaves m sound = absurd leaves
leaves_keeps (sealed_in n) leaves m sound =
    keeps_updated n with_seal m sound sealed_sound (λ b. refl) (after_operation (sealed_in n) m) (stays_below (sealed_in n) m sound.numbered) refl refl
leaves_keeps (mark_set n k) leaves m sound =
    keeps_updated n (λ b. with_mark (set_now b k) b) m sound (λ b is. is) (λ b. refl) (after_operation (mark_set n k) m) (stays_below (mark_set n k) m sound.numbered) refl refl
leaves_keeps (mark_removed n ns id) leaves m sound =
    keeps_updated n (without_mark ns id) m sound (λ b is. is) (λ b. refl) (after_operation (mark_removed n ns id) m) (stays_below (mark_removed n ns id) m sound.numbered) refl refl
leaves_keeps (name_put n name) leaves m sound =
    keeps_updated n (λ b. record b { name = name }) m sound (λ b is. (record is.0 { name = name }, options_are_kept.name is.0 (without_marks b) name is.1)) (λ b. refl)
    (after_operation (name_put n name) m) (stays_below (name_put n name) m sound.numbered) refl refl
leaves_keeps (modifiable_put n on) leaves m sound =
    keeps_updated n (λ b. record b { modifiable = on }) m sound (λ b is. (record is.0 { modifiable = on }, options_are_kept.modifiable is.0 (without_marks b) on is.1)) (λ b. refl)
    (after_operation (modifiable_put n on) m) (stays_below (modifiable_put n on) m sound.numbered) refl refl
leaves_keeps (modified_put n on) leaves m sound =
    keeps_updated n (λ b. record b { modified = on }) m sound (λ b is. (record is.0 { modified = on }, options_are_kept.modified is.0 (without_marks b) on is.1)) (λ b. refl)
    (after_operation (modified_put n on) m) (stays_below (modified_put n on) m sound.numbered) refl refl
leaves_keeps (listed_put n on) leaves m sound =
    keeps_updated n (λ b. record b { listed = on }) m sound (λ b is. (record is.0 { listed = on }, options_are_kept.listed is.0 (without_marks b) on is.1)) (λ b. refl)
    (after_operation (listed_put n on) m) (stays_below (listed_put n on) m sound.numbered) refl refl
leaves_keeps (tabstop_put n cells) leaves m sound =
    keeps_updated n (λ b. record b { tabstop = cells }) m sound (λ b is. (record is.0 { tabstop = cells }, options_are_kept.tabstop is.0 (without_marks b) cells is.1)) (λ b. refl)
    (after_operation (tabstop_put n cells) m) (stays_below (tabstop_put n cells) m sound.numbered) refl refl
leaves_keeps c leaves m sound = keeps_buffers m (after_operation c m) sound (stays_below c m sound.numbered) refl refl

abbrev pub AllLeaveTexts : List Operation → Type 0
AllLeaveTexts operations = AllByRecursion LeavesTexts operations

pub all_leave-append : (cs ds : List Operation) → AllLeaveTexts cs → AllLeaveTexts ds → AllLeaveTexts (cs ++ ds)
all_leave-append [] ds are then = then
all_leave-append (c ∷ cs) ds are then = (are.0, all_leave-append cs ds are.1 then)

pub all_leave_keeps : (cs : List Operation) → AllLeaveTexts cs → (m : ModelEditor) → IsSoundModel m → KeepsPasts m (after_operations cs m)
all_leave_keeps [] are m sound = keeps_same m sound
all_leave_keeps (c ∷ cs) are m sound =
    let first = leaves_keeps c are.0 m sound in
    keeps_then m (after_operation c m) (after_operations cs (after_operation c m)) first (all_leave_keeps cs are.1 (after_operation c m) first.sound)

-- ---- a buffer is made
abbrev EntryBelow : ℤ → ℤ × ModelBuffer → Type 0
EntryBelow n e = e.0 <ℤ n

none_at : (n : ℤ) (es : List (ℤ × ModelBuffer)) → All (EntryBelow n) es → at_handle es n ≡ None
none_at n [] low = refl
none_at n (e ∷ es) low =
    let below : e.0 <ℤ n = All-head (EntryBelow n) e es low in
    let apart : int_eq e.0 n ≡ false = grind (arith, ints) in
    rw apart (none_at n es (All-tail (EntryBelow n) e es low))

pub fresh_sound : (listed : Bool) → IsSoundBuffer (fresh_buffer listed)
fresh_sound listed = (fresh_content (pos 1) listed, fresh_is_kept (pos 1) listed)

module _ (listed : Bool) (m : ModelEditor) (sound : IsSoundModel m) where
  abbrev next : ℤ
  next = m.stage.next_buffer

  -- what stands under a handle then
  at_made : (k : ℤ) → at_handle (with_new_buffer listed m).buffers k ≡ option_or (at_handle m.buffers k) (cond (int_eq next k) (Some (fresh_buffer listed)) None)
  at_made k = at_append k m.buffers ((next, fresh_buffer listed) ∷ [])

  made_sound : (k : ℤ) (o : Option ModelBuffer) (t : Bool) (d : ModelBuffer) → at_handle m.buffers k ≡ o → option_or o (cond t (Some (fresh_buffer listed)) None) ≡ Some d → IsSoundBuffer d
  made_sound k (Some b) t d was is = sound.buffers k d (was ∙ is)
  made_sound k None true d was is = subst (λ (c : ModelBuffer). IsSoundBuffer c) (same_Some (fresh_buffer listed) d is) (fresh_sound listed)
  made_sound k None false d was is = absurd (none-some d is)

  not_deleted : (k : ℤ) → int_eq next k ≡ true → at_handle m.deleted k ≡ None
  not_deleted k same = subst (λ (j : ℤ). at_handle m.deleted j ≡ None) (same_int next k same) (none_at next m.deleted sound.numbered.deleted)

  made_apart : (k : ℤ) (o : Option ModelBuffer) (t : Bool) (d : ModelBuffer) → at_handle m.buffers k ≡ o → int_eq next k ≡ t → option_or o (cond t (Some (fresh_buffer listed)) None) ≡ Some d
      → at_handle m.deleted k ≡ None
  made_apart k (Some b) t d was same is = sound.apart k b was
  made_apart k None true d was same is = not_deleted k same
  made_apart k None false d was same is = absurd (none-some d is)

  made_splices : (k : ℤ) (o : Option ModelBuffer) (t : Bool) → int_eq next k ≡ t
      → splices_had (option_or (option_or o (cond t (Some (fresh_buffer listed)) None)) (at_handle m.deleted k)) ≡ splices_had (option_or o (at_handle m.deleted k))
  made_splices k (Some b) t same = refl
  made_splices k None true same = sym (ap splices_had (not_deleted k same))
  made_splices k None false same = refl

  pub keeps_made : KeepsPasts m (with_new_buffer listed m)
  keeps_made = record {
    sound = record {
      numbered = stays_below (buffer_made listed) m sound.numbered;
      apart = λ k d is. made_apart k (at_handle m.buffers k) (int_eq next k) d refl refl (sym (at_made k) ∙ is);
      buffers = λ k d is. made_sound k (at_handle m.buffers k) (int_eq next k) d refl (sym (at_made k) ∙ is);
    };
    past = λ k.
        (λ i. record { splices = splices_had (option_or (at_made k i) (at_handle m.deleted k)); is_deleted = is_some (at_handle m.deleted k) })
        ∙ (λ i. record { splices = made_splices k (at_handle m.buffers k) (int_eq next k) refl i; is_deleted = is_some (at_handle m.deleted k) });
  }

  -- a live buffer stays
  pub made_stays : (k : ℤ) (b : ModelBuffer) → at_handle m.buffers k ≡ Some b → at_handle (with_new_buffer listed m).buffers k ≡ Some b
  made_stays k b is = at_made k ∙ ap (λ (o : Option ModelBuffer). option_or o (cond (int_eq next k) (Some (fresh_buffer listed)) None)) is

-- ---- a buffer is deleted
-- the entries of one handle alone
at_only : (n k : ℤ) (es : List (ℤ × ModelBuffer)) → at_handle (filter (λ (e : ℤ × ModelBuffer). int_eq e.0 n) es) k ≡ cond (int_eq n k) (at_handle es k) None
at_only n k [] = either_none (int_eq n k)
  where
    either_none : (b : Bool) → ◌≡◌ {A = Option ModelBuffer} None (cond b None None)
    either_none true = refl
    either_none false = refl
at_only n k (e ∷ es) = step (at_only n k es) (int_eq e.0 n) refl (int_eq e.0 k) refl
  where
    step : at_handle (filter (λ (d : ℤ × ModelBuffer). int_eq d.0 n) es) k ≡ cond (int_eq n k) (at_handle es k) None
        → (b : Bool) → int_eq e.0 n ≡ b → (c : Bool) → int_eq e.0 k ≡ c
        → at_handle (cond b (e ∷ filter (λ (d : ℤ × ModelBuffer). int_eq d.0 n) es) (filter (λ (d : ℤ × ModelBuffer). int_eq d.0 n) es)) k
        ≡ cond (int_eq n k) (cond c (Some e.1) (at_handle es k)) None
    step rest true is true there = let same : int_eq n k ≡ true = grind (arith, ints) in rw (there, same) refl
    step rest true is false there = rw there rest
    step rest false is true there = let apart : int_eq n k ≡ false = grind (arith, ints) in rest ∙ rw apart refl
    step rest false is false there = rest

or_none : (o : Option ModelBuffer) → option_or o None ≡ o
or_none None = refl
or_none (Some b) = refl

module _ (n : ℤ) (m : ModelEditor) (sound : IsSoundModel m) (b : ModelBuffer) (there : at_handle m.buffers n ≡ Some b) where
  abbrev later : ModelEditor
  later = without_buffer n m

  at_later : (k : ℤ) → at_handle later.buffers k ≡ cond (int_eq n k) None (at_handle m.buffers k)
  at_later k = at_dropped n k m.buffers

  at_deleted : (k : ℤ) → at_handle later.deleted k ≡ option_or (at_handle m.deleted k) (cond (int_eq n k) (at_handle m.buffers k) None)
  at_deleted k =
      at_append k m.deleted (filter (λ (e : ℤ × ModelBuffer). int_eq e.0 n) m.buffers)
      ∙ ap (option_or (at_handle m.deleted k)) (at_only n k m.buffers)

  dropped_sound : (k : ℤ) (t : Bool) (d : ModelBuffer) → cond t None (at_handle m.buffers k) ≡ Some d → IsSoundBuffer d
  dropped_sound k true d is = absurd (none-some d is)
  dropped_sound k false d is = sound.buffers k d is

  dropped_apart : (k : ℤ) (t : Bool) (d : ModelBuffer) → cond t None (at_handle m.buffers k) ≡ Some d
      → option_or (at_handle m.deleted k) (cond t (at_handle m.buffers k) None) ≡ None
  dropped_apart k true d is = absurd (none-some d is)
  dropped_apart k false d is = or_none (at_handle m.deleted k) ∙ sound.apart k d is

  pub sound_dropped : IsSoundModel later
  sound_dropped = record {
    numbered = stays_below (buffer_dropped n) m sound.numbered;
    apart = λ k d is. at_deleted k ∙ dropped_apart k (int_eq n k) d (sym (at_later k) ∙ is);
    buffers = λ k d is. dropped_sound k (int_eq n k) d (sym (at_later k) ∙ is);
  }

  -- its past is that before, and that it was deleted
  pub past_dropped : past_at later n ≡ record (past_at m n) { is_deleted = true }
  past_dropped =
      let gone : at_handle later.buffers n ≡ None = at_later n ∙ ap (λ (t : Bool). cond t None (at_handle m.buffers n)) (int_eq-itself n) in
      let kept : at_handle later.deleted n ≡ Some b =
      at_deleted n
      ∙ (λ i. option_or (sound.apart n b there i) (cond (int_eq-itself n i) (at_handle m.buffers n) None))
      ∙ there in
      (λ i. record { splices = splices_had (option_or (gone i) (kept i)); is_deleted = is_some (kept i) })
      ∙ sym (ap (λ (p : Past). record { splices = p.splices; is_deleted = true }) (past_live m n b sound there))

  -- and that of another one stays
  pub past_stays : (k : ℤ) → int_eq n k ≡ false → past_at later k ≡ past_at m k
  past_stays k apart =
      let live : at_handle later.buffers k ≡ at_handle m.buffers k = at_later k ∙ ap (λ (t : Bool). cond t None (at_handle m.buffers k)) apart in
      let dead : at_handle later.deleted k ≡ at_handle m.deleted k =
      at_deleted k ∙ ap (λ (t : Bool). option_or (at_handle m.deleted k) (cond t (at_handle m.buffers k) None)) apart ∙ or_none (at_handle m.deleted k) in
      λ i. record { splices = splices_had (option_or (live i) (dead i)); is_deleted = is_some (dead i) }

-- ---- a fresh editor
pub fresh_editor_sound : (limits : Limits) → IsSoundModel (fresh_editor limits)
fresh_editor_sound limits = record { numbered = handles_stay_below.0 limits; apart = λ n b is. refl; buffers = λ n b is. by_case (int_eq (pos 1) n) b is }
  where
    by_case : (t : Bool) (b : ModelBuffer) → cond t (Some (fresh_buffer true)) None ≡ Some b → IsSoundBuffer b
    by_case true b is = subst (λ (c : ModelBuffer). IsSoundBuffer c) (same_Some (fresh_buffer true) b is) (fresh_sound true)
    by_case false b is = absurd (none-some b is)
