-- A UI put among others by rising sessions.
use Rattle.std.proofs.Common.{◌≡◌, ℕ, ◌+◌, ◌<◌, ◌==◌, List, [], ◌∷◌, ◌++◌, arith, length, take, drop, map, fold, refl, sym, ap, ◌∙◌, append_assoc, Bool, true, false, cond, get_or, nat_lt, min, slice_set, set}
use Rattle.std.proofs.lemmas.List.{drop_more, take_more, take_all, drop_all, take-append-drop, take-set, drop-set, append-nil, map-append}
use Rattle.nv_model.specs.Stage.{ui_among}
use Rattle.nv_model.specs.declared.parts.Ui.{Ui}

-- the UI is put behind these
abbrev pub IsBehind : Ui → List Ui → ℕ → Type 0
IsBehind ui us place = ui_among ui us ≡ take place us ++ ui_among ui (drop place us)

cut : (us : List Ui) (place : ℕ) (u : Ui) → place < length us → u ≡ get_or us place u → drop place us ≡ u ∷ drop (place + 1) us
cut us place u within is = drop_more us place u within ∙ ap (λ (x : Ui). x ∷ drop (place + 1) us) (sym is)

-- the one at this place is of a lower session
pub passes : (ui u : Ui) (us : List Ui) (place : ℕ) → place < length us → u ≡ get_or us place u
    → (ui.session == u.session) ≡ false → nat_lt ui.session u.session ≡ false → IsBehind ui us place → IsBehind ui us (place + 1)
passes ui u us place within is other later behind =
    behind
    ∙ ap (λ (l : List Ui). take place us ++ ui_among ui l) (cut us place u within is)
    ∙ ap (λ (t : Bool). take place us ++ cond t (ui ∷ drop (place + 1) us) (cond (nat_lt ui.session u.session) (ui ∷ u ∷ drop (place + 1) us) (u ∷ ui_among ui (drop (place + 1) us)))) other
    ∙ ap (λ (t : Bool). take place us ++ cond t (ui ∷ u ∷ drop (place + 1) us) (u ∷ ui_among ui (drop (place + 1) us))) later
    ∙ sym (append_assoc (take place us) (u ∷ []) (ui_among ui (drop (place + 1) us)))
    ∙ ap (λ (l : List Ui). l ++ ui_among ui (drop (place + 1) us)) (sym (take_more us place u within ∙ ap (λ (x : Ui). take place us ++ x ∷ []) (sym is)))

-- it is of the same session
pub replaces : (ui u : Ui) (us : List Ui) (place : ℕ) → place < length us → u ≡ get_or us place u
    → (ui.session == u.session) ≡ true → IsBehind ui us place → set us place ui ≡ ui_among ui us
replaces ui u us place within is same behind =
    sym (take-append-drop place (set us place ui))
    ∙ (λ i. take-set us place ui i ++ drop-set us place ui within i)
    ∙ sym (behind
    ∙ ap (λ (l : List Ui). take place us ++ ui_among ui l) (cut us place u within is)
    ∙ ap (λ (t : Bool). take place us ++ cond t (ui ∷ drop (place + 1) us) (cond (nat_lt ui.session u.session) (ui ∷ u ∷ drop (place + 1) us) (u ∷ ui_among ui (drop (place + 1) us)))) same)

-- it is of a greater session
pub comes_before : (ui u : Ui) (us : List Ui) (place : ℕ) → place < length us → u ≡ get_or us place u
    → (ui.session == u.session) ≡ false → nat_lt ui.session u.session ≡ true → IsBehind ui us place
    → take place us ++ ui ∷ drop place us ≡ ui_among ui us
comes_before ui u us place within is other before behind =
    ap (λ (l : List Ui). take place us ++ ui ∷ l) (cut us place u within is)
    ∙ sym (behind
    ∙ ap (λ (l : List Ui). take place us ++ ui_among ui l) (cut us place u within is)
    ∙ ap (λ (t : Bool). take place us ++ cond t (ui ∷ drop (place + 1) us) (cond (nat_lt ui.session u.session) (ui ∷ u ∷ drop (place + 1) us) (u ∷ ui_among ui (drop (place + 1) us)))) other
    ∙ ap (λ (t : Bool). take place us ++ cond t (ui ∷ u ∷ drop (place + 1) us) (u ∷ ui_among ui (drop (place + 1) us))) before)

-- all are of lower sessions
pub comes_last : (ui : Ui) (us : List Ui) → IsBehind ui us (length us) → us ++ ui ∷ [] ≡ ui_among ui us
comes_last ui us behind =
    sym (behind ∙ (λ i. take_all (length us) us (omega arith) i ++ ui_among ui (drop_all (length us) us (omega arith) i)))
