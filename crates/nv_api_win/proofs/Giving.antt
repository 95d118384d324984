-- What rows give, step by step.
use Rattle.std.proofs.Common.{◌≡◌, refl, sym, subst, ap, List, []}
use Rattle.std.specs.Prelude.{Option, Some, Result, Ok, Err}
use Rattle.std.proofs.lemmas.List.{append-nil}
use Rattle.nv_value.specs.Content.{Tree}
use Rattle.nv_value.specs.View.{content}
use Rattle.nv_value.specs.declared.value.Value.{Value}
use Rattle.nv_value.specs.declared.fault.ApiFault.{ApiFault}
use Rattle.nv_args.specs.Refusals.{Refuses}
use Rattle.nv_args.specs.declared.faults.Fail.{Fail}
use Rattle.nv_args.specs.declared.faults.Fail.TheVariants.{Api, NoMemory}
use Rattle.nv_model.specs.Operations.{Operation}
use Rattle.nv_model.specs.Answers.{Answer, Fact, refused, replied, or_refused}
use Rattle.nv_model.specs.Standing.{PresentEditor}
use Rattle.nv_editor.specs.Doing.{Does, GivesAnswer}
use Rattle.nv_api_win.specs.inside.Finding.{LooksUp}

pub gives_found : {A : Type 0} (found : Option A) (a : A) (fault : ApiFault) (next : A → Answer) (result : Result Value Fail) (before after : PresentEditor) (told now : List Fact)
    → found ≡ Some a → GivesAnswer (next a) result before after told now → GivesAnswer (or_refused found fault next) result before after told now
gives_found {A} found a fault next result before after told now e h =
    subst (λ (o : Option A). GivesAnswer (or_refused o fault next) result before after told now) (sym e) h

pub gives_missing : {A B : Type 0} (seen : A → B) (found : Option B) (fault : ApiFault) (next : B → Answer) (fail : Fail) (e : PresentEditor) (told : List Fact)
    → LooksUp seen found fault (Err fail) → GivesAnswer (or_refused found fault next) (Err fail) e e told told
gives_missing {A} {B} seen found fault next (Api told) e facts h =
    (subst (λ (o : Option B). or_refused o fault next ≡ refused told) (sym h.0) (ap refused (sym h.1)), h.2, refl, refl)
gives_missing seen found fault next NoMemory e facts h = tt

-- a refusal
pub gives_refusal : (fault : ApiFault) (fail : Fail) (e : PresentEditor) (told : List Fact) → Refuses fail fault → GivesAnswer (refused fault) (Err fail) e e told told
gives_refusal fault (Api given) e told h = (ap refused (sym h.0), h.1, refl, refl)
gives_refusal fault NoMemory e told h = tt

-- operations were made, and there is nothing to tell
pub gives_done : (t : Tree) (operations : List Operation) (value : Value) (before after : PresentEditor) (told : List Fact) → content value ≡ t → Does operations before after
    → GivesAnswer (replied t operations []) (Ok value) before after told told
gives_done t operations value before after told e h = (e, h, sym (append-nil told))
