-- Updates of an editor keep what stands for it.
use Rattle.std.proofs.Common.{◌≡◌, ◌≢◌, ℕ, ℤ, pos, ◌+ℤ◌, List, [], ◌∷◌, ◌++◌, refl, ap, sym, ◌∙◌, Bool, true, false, not, cond, subst, Option, Some, None}
use Rattle.std.specs.Prelude.{option_map, filter}
use Rattle.std.specs.Option.{option_or}
use Rattle.std.specs.Ordering.{int_eq}
use Rattle.std.proofs.lemmas.Bool.{both_ways}
use Rattle.nv_places.specs.Flat.{flat}
use Rattle.nv_buffer.specs.Content.{fresh_content, Content}
use Rattle.nv_model.specs.Buffers.{ModelBuffer, with_splice, fresh_buffer}
use Rattle.nv_model.specs.Stage.{Stage, stage_with_views}
use Rattle.nv_model.specs.Editors.{ModelEditor, at_handle, updated_at, handles_of}
use Rattle.nv_model.specs.Operations.{stage_spliced}
use Rattle.nv_model.specs.Standing.{PresentEditor, StandsFor, Both, Stands}
use Rattle.nv_model.specs.Keeping.{IsBufferUpdated, BufferUpdateIsKept, EditorSpliceIsKept, StageUpdateIsKept, NewBufferIsKept, DroppedBufferIsKept, FreshEditorIsKept}
use Rattle.nv_model.proofs.Lookups.{same_int, int_eq-itself, at_updated, handles-updated, at_append, handles-append, at_dropped}
use Rattle.nv_model.proofs.Splicing.{splice_is_kept}
use Rattle.nv_model.proofs.Options.{fresh_is_kept}

-- the buffers after an update of one, by look-ups
buffers_updated : (before later : PresentEditor) (n : ℤ) (b c : Content) (update : ModelBuffer → ModelBuffer) (m : ModelEditor)
    → IsBufferUpdated before later n b c → ((x : ModelBuffer) → at_handle m.buffers n ≡ Some x → StandsFor b x → StandsFor c (update x))
    → ((k : ℤ) → Both StandsFor (at_handle before.buffers k) (at_handle m.buffers k)) → (k : ℤ)
    → Both StandsFor (at_handle later.buffers k) (at_handle (updated_at n update m.buffers) k)
buffers_updated before later n b c update m is goes_on stands k =
    subst (λ (p : Option ModelBuffer). Both StandsFor (at_handle later.buffers k) p) (sym (at_updated n k update m.buffers)) (by_case (int_eq n k) refl)
  where
    updated_one : (p : Option ModelBuffer) → at_handle m.buffers n ≡ p → Both StandsFor (Some b) p → Both StandsFor (Some c) (option_map update p)
    updated_one None there both = absurd both
    updated_one (Some x) there both = goes_on x there both

    at_n : Both StandsFor (at_handle later.buffers n) (option_map update (at_handle m.buffers n))
    at_n =
        subst (λ (o : Option Content). Both StandsFor o (option_map update (at_handle m.buffers n))) (sym is.becomes)
        (updated_one (at_handle m.buffers n) refl
        (subst (λ (o : Option Content). Both StandsFor o (at_handle m.buffers n)) is.was (stands n)))

    by_case : (t : Bool) → int_eq n k ≡ t
        → Both StandsFor (at_handle later.buffers k) (cond t (option_map update (at_handle m.buffers k)) (at_handle m.buffers k))
    by_case true same =
        subst (λ (j : ℤ). Both StandsFor (at_handle later.buffers j) (option_map update (at_handle m.buffers j))) (same_int n k same) at_n
    by_case false apart =
        subst (λ (o : Option Content). Both StandsFor o (at_handle m.buffers k)) (sym (is.others k other)) (stands k)
      where
        other : k ≢ n
        other e = both_ways (int_eq n k) apart (subst (λ (j : ℤ). int_eq n j ≡ true) (sym e) (int_eq-itself n))

pub buffer_update_is_kept : BufferUpdateIsKept
buffer_update_is_kept before later n b c update m is stage goes_on stands = record {
  buffers = buffers_updated before later n b c update m is (λ x there h. goes_on x h) stands.buffers;
  handles = is.handles ∙ stands.handles ∙ sym (handles-updated n update m.buffers);
  stage = stage ∙ stands.stage;
}

pub editor_splice_is_kept : EditorSpliceIsKept
editor_splice_is_kept before later n b c s event m is spliced stage stands = record {
  buffers = buffers_updated before later n b c (with_splice s) m is (λ x there h. (splice_is_kept b c s event x spliced h).0) stands.buffers;
  handles = is.handles ∙ stands.handles ∙ sym (handles-updated n (with_splice s) m.buffers);
  stage = stage ∙ ap (stage_with_views n (flat b.text) (s ∷ [])) stands.stage ∙ found (at_handle m.buffers n) (subst (λ (o : Option Content). Both StandsFor o (at_handle m.buffers n)) is.was (stands.buffers n));
}
  where
    found : (p : Option ModelBuffer) → Both StandsFor (Some b) p
        → stage_with_views n (flat b.text) (s ∷ []) m.stage ≡ stage_spliced n s p m.stage
    found None both = absurd both
    found (Some x) both = ap (λ (t : List ℕ). stage_with_views n t (s ∷ []) m.stage) both.text

pub stage_update_is_kept : StageUpdateIsKept
stage_update_is_kept e update m stands = record { buffers = stands.buffers; handles = stands.handles; stage = ap update stands.stage }

both_or : (o q : Option Content) (p r : Option ModelBuffer) → Both StandsFor o p → Both StandsFor q r
    → Both StandsFor (option_or o q) (option_or p r)
both_or None q None r first second = second
both_or None q (Some x) r first second = absurd first
both_or (Some b) q None r first second = absurd first
both_or (Some b) q (Some x) r first second = first

pub new_buffer_is_kept : NewBufferIsKept
new_buffer_is_kept e listed m stands =
    subst (λ (t : Stage).
    Stands
    (record e {
      buffers = e.buffers ++ (e.stage.next_buffer, fresh_content e.stage.next_buffer listed) ∷ [];
      stage = record e.stage { next_buffer = e.stage.next_buffer +ℤ pos 1 };
    })
    (record m { buffers = m.buffers ++ (t.next_buffer, fresh_buffer listed) ∷ []; stage = record t { next_buffer = t.next_buffer +ℤ pos 1 } }))
    stands.stage at_e
  where
    new : ℤ
    new = e.stage.next_buffer

    last_one : (k : ℤ) → Both StandsFor (at_handle ((e.stage.next_buffer, fresh_content e.stage.next_buffer listed) ∷ []) k) (at_handle ((e.stage.next_buffer, fresh_buffer listed) ∷ []) k)
    last_one k = by_case (int_eq e.stage.next_buffer k)
      where
        by_case : (t : Bool) → Both StandsFor (cond t (Some (fresh_content e.stage.next_buffer listed)) None) (cond t (Some (fresh_buffer listed)) None)
        by_case true = fresh_is_kept e.stage.next_buffer listed
        by_case false = tt

    at_e : Stands
        (record e {
          buffers = e.buffers ++ (e.stage.next_buffer, fresh_content e.stage.next_buffer listed) ∷ [];
          stage = record e.stage { next_buffer = e.stage.next_buffer +ℤ pos 1 };
        })
        (record m { buffers = m.buffers ++ (e.stage.next_buffer, fresh_buffer listed) ∷ []; stage = record e.stage { next_buffer = e.stage.next_buffer +ℤ pos 1 } })
    at_e = record {
      buffers = λ k.
          subst (λ (o : Option Content). Both StandsFor o (at_handle (m.buffers ++ (e.stage.next_buffer, fresh_buffer listed) ∷ []) k))
          (sym (at_append k e.buffers ((e.stage.next_buffer, fresh_content e.stage.next_buffer listed) ∷ [])))
          (subst (λ (p : Option ModelBuffer). Both StandsFor (option_or (at_handle e.buffers k) (at_handle ((e.stage.next_buffer, fresh_content e.stage.next_buffer listed) ∷ []) k)) p)
          (sym (at_append k m.buffers ((e.stage.next_buffer, fresh_buffer listed) ∷ [])))
          (both_or (at_handle e.buffers k) _ (at_handle m.buffers k) _ (stands.buffers k) (last_one k)));
      handles =
          handles-append e.buffers ((e.stage.next_buffer, fresh_content e.stage.next_buffer listed) ∷ [])
          ∙ ap (λ (l : List ℤ). l ++ e.stage.next_buffer ∷ []) stands.handles
          ∙ sym (handles-append m.buffers ((e.stage.next_buffer, fresh_buffer listed) ∷ []));
      stage = refl;
    }

handles-dropped : (n : ℤ) (es : List (ℤ × ModelBuffer))
    → handles_of (filter (λ (e : ℤ × ModelBuffer). not (int_eq e.0 n)) es) ≡ filter (λ (k : ℤ). not (int_eq k n)) (handles_of es)
handles-dropped n [] = refl
handles-dropped n (e ∷ es) = by_case (handles-dropped n es) (int_eq e.0 n)
  where
    by_case : handles_of (filter (λ (d : ℤ × ModelBuffer). not (int_eq d.0 n)) es) ≡ filter (λ (k : ℤ). not (int_eq k n)) (handles_of es) → (t : Bool)
        → handles_of (cond (not t) (e ∷ filter (λ (d : ℤ × ModelBuffer). not (int_eq d.0 n)) es) (filter (λ (d : ℤ × ModelBuffer). not (int_eq d.0 n)) es))
        ≡ cond (not t) (e.0 ∷ filter (λ (k : ℤ). not (int_eq k n)) (handles_of es)) (filter (λ (k : ℤ). not (int_eq k n)) (handles_of es))
    by_case rest true = rest
    by_case rest false = ap (λ (l : List ℤ). e.0 ∷ l) rest

pub dropped_buffer_is_kept : DroppedBufferIsKept
dropped_buffer_is_kept before later n m is stage stands = record {
  buffers = λ k.
      subst (λ (p : Option ModelBuffer). Both StandsFor (at_handle later.buffers k) p) (sym (at_dropped n k m.buffers)) (by_case k (int_eq n k) refl);
  handles = is.handles ∙ ap (filter (λ (k : ℤ). not (int_eq k n))) stands.handles ∙ sym (handles-dropped n m.buffers);
  stage = stage ∙ stands.stage;
}
  where
    by_case : (k : ℤ) (t : Bool) → int_eq n k ≡ t → Both StandsFor (at_handle later.buffers k) (cond t None (at_handle m.buffers k))
    by_case k true same =
        subst (λ (j : ℤ). Both StandsFor (at_handle later.buffers j) None) (same_int n k same)
        (subst (λ (o : Option Content). Both StandsFor o None) (sym is.none) tt)
    by_case k false apart =
        subst (λ (o : Option Content). Both StandsFor o (at_handle m.buffers k)) (sym (is.others k other)) (stands.buffers k)
      where
        other : k ≢ n
        other e = both_ways (int_eq n k) apart (subst (λ (j : ℤ). int_eq n j ≡ true) (sym e) (int_eq-itself n))

pub fresh_editor_is_kept : FreshEditorIsKept
fresh_editor_is_kept limits = record { buffers = λ k. by_case (int_eq (pos 1) k); handles = refl; stage = refl }
  where
    by_case : (t : Bool) → Both StandsFor (cond t (Some (fresh_content (pos 1) true)) None) (cond t (Some (fresh_buffer true)) None)
    by_case true = fresh_is_kept (pos 1) true
    by_case false = tt
