-- An editor with the marks of a part of a text removed, or left where memory is wanting.
use Rattle.std.proofs.Common.{◌≡◌, ◌∙◌, ℕ, ℤ, List, Option, Result, Ok, Err, OnOk, OnErr, ap, filter, subst, sym}
use Rattle.nv_places.specs.declared.place.Pos.{Pos}
use Rattle.nv_marks.specs.Queries.{is_cleared}
use Rattle.nv_buffer.specs.Content.{Content}
use Rattle.nv_buffer.specs.Marks.{marks_cleared}
use Rattle.nv_model.specs.Answering.{removal_operations}
use Rattle.nv_model.specs.Stage.{Stage}
use Rattle.nv_model.specs.Standing.{PresentEditor}
use Rattle.nv_editor.specs.Doing.{Does}
use Rattle.nv_editor.specs.Sound.{IsSoundEditor, content_at}
use Rattle.nv_editor.specs.inside.Table.{AreKeptBuffers, IsUpdatedAt, content_in}
use Rattle.nv_editor.proofs.EditsMade.{stayed_sound, stayed_kept}
use Rattle.nv_editor.proofs.MarksDone.{clear_done, clear_sound, unchanged_is}
use Rattle.nv_editor.proofs.StageKept.{editor_of}
use Rattle.nv_editor.proofs.Updating.{option_kept}

-- a buffer is another one with the marks of a part of its text removed
abbrev IsCleared : Option ℕ → Pos → Pos → Content → Content → Type 0
IsCleared ns from to b d = d ≡ record b { marks = marks_cleared ns from to b.marks }

marks_are : (ns : Option ℕ) (from to : Pos) (b d : Content) → IsCleared ns from to b d → d.marks ≡ marks_cleared ns from to b.marks
marks_are ns from to b d cleared = ap (λ (x : Content). x.marks) cleared

rest_is : (ns : Option ℕ) (from to : Pos) (b d : Content) → IsCleared ns from to b d → d ≡ record b { marks = d.marks }
rest_is ns from to b d cleared = let marks = marks_are ns from to b d cleared in cleared ∙ (λ i. record b { marks = sym marks i })

pub cleared_sound : {T E : Type 0} (bs later : List (ℤ × Content)) (stage : Stage) (n : ℤ) → IsUpdatedAt n bs later
    → (r : Result T E) (ns : Option ℕ) (from to : Pos) → IsSoundEditor (editor_of bs stage)
    → OnOk r (IsCleared ns from to (content_in bs n) (content_in later n)) → OnErr r (content_in later n ≡ content_in bs n)
    → IsSoundEditor (editor_of later stage)
cleared_sound bs later stage n is (Ok value) ns from to sound ok err =
    clear_sound bs later stage n is (rest_is ns from to (content_in bs n) (content_in later n) ok) ns from to sound
    (marks_are ns from to (content_in bs n) (content_in later n) ok)
cleared_sound bs later stage n is (Err e) ns from to sound ok err = stayed_sound bs later stage n sound is err

pub cleared_kept : {T E : Type 0} (bs later : List (ℤ × Content)) (n : ℤ) → IsUpdatedAt n bs later
    → (r : Result T E) (ns : Option ℕ) (from to : Pos) (edited : List ℤ) → AreKeptBuffers edited bs
    → OnOk r (IsCleared ns from to (content_in bs n) (content_in later n)) → OnErr r (content_in later n ≡ content_in bs n)
    → AreKeptBuffers edited later
cleared_kept bs later n is (Ok value) ns from to edited kept ok err =
    option_kept edited bs later n kept is (ap (λ (b : Content). b.undo) ok) (ap (λ (b : Content). b.unsealed) ok)
cleared_kept bs later n is (Err e) ns from to edited kept ok err = stayed_kept edited edited bs later n kept is (λ k outside. outside) err

pub cleared_done : {T E : Type 0} (bs later : List (ℤ × Content)) (stage : Stage) (n : ℤ) → IsUpdatedAt n bs later
    → (r : Result T E) (ns : Option ℕ) (from to : Pos) (old : PresentEditor) → editor_of bs stage ≡ old
    → OnOk r (IsCleared ns from to (content_in bs n) (content_in later n))
    → OnOk r (Does (removal_operations n (filter (is_cleared ns from to) (content_at old n).marks.marks)) old (editor_of later stage))
cleared_done bs later stage n is (Ok value) ns from to old view ok =
    subst (λ (x : PresentEditor). Does (removal_operations n (filter (is_cleared ns from to) (content_at x n).marks.marks)) old (editor_of later stage)) view
    (clear_done bs later stage n is (rest_is ns from to (content_in bs n) (content_in later n) ok) old ns from to view
    (marks_are ns from to (content_in bs n) (content_in later n) ok))
cleared_done bs later stage n is (Err e) ns from to old view ok = ok

pub cleared_not : {T E : Type 0} (bs later : List (ℤ × Content)) (stage : Stage) (n : ℤ) → IsUpdatedAt n bs later
    → (r : Result T E) (old : PresentEditor) → editor_of bs stage ≡ old → IsSoundEditor (editor_of bs stage)
    → OnErr r (content_in later n ≡ content_in bs n) → OnErr r (editor_of later stage ≡ old)
cleared_not bs later stage n is (Ok value) old view sound err = err
cleared_not bs later stage n is (Err e) old view sound err =
    ap (λ (es : List (ℤ × Content)). editor_of es stage) (unchanged_is bs later n sound.rising is err) ∙ view
