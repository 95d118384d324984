-- What removing marks does to an editor.
use Rattle.std.proofs.Common.{◌≡◌, ℤ, List, [], Option, Some, Result, Ok, Err, OnOk, ap, sym, subst}
use Rattle.nv_buffer.specs.Content.{Content}
use Rattle.nv_model.specs.Editors.{at_handle}
use Rattle.nv_model.specs.Operations.{Operation}
use Rattle.nv_model.specs.Standing.{PresentEditor}
use Rattle.nv_editor.specs.Doing.{Does}
use Rattle.nv_editor.specs.Sound.{content_at, content_of}

-- what is done is told by these operations, where they are the others
pub done_where : {T E : Type 0} (r : Result T E) (before after : PresentEditor) (cs others : List Operation) → cs ≡ others → OnOk r (Does cs before after)
    → OnOk r (Does others before after)
done_where (Ok value) before after cs others same done = subst (λ (l : List Operation). Does l before after) same done
done_where (Err e) before after cs others same done = done

-- no operation leaves an editor as it is
pub does_nothing : (e : PresentEditor) (cs : List Operation) → cs ≡ [] → Does cs e e
does_nothing e cs none = subst (λ (l : List Operation). Does l e e) (sym none) (λ m stands. stands)

-- the marks of the buffer that is there
pub looked_up_marks : (e : PresentEditor) (n : ℤ) (b : Content) → at_handle e.buffers n ≡ Some b → (content_at e n).marks.marks ≡ b.marks.marks
looked_up_marks e n b there = ap (λ (o : Option Content). (content_of n o).marks.marks) there
