-- Ids of attributes.
use Rattle.std.proofs.Common.{◌≡◌, ℕ, List, [], ◌∷◌, ◌++◌, Bool, true, false, cond, ◌||◌, refl, ap, sym, ◌∙◌}
use Rattle.std.proofs.lemmas.List.Folds.{list_any-append}
use Rattle.std.specs.List.{list_any}
use Rattle.nv_hl.specs.declared.attribute.Attr.{Attr}
use Rattle.nv_hl.specs.Attributes.{empty_attr, same_attr}
use Rattle.nv_hl.proofs.LawLemmas.{same_attrs_are_equal}
use Rattle.nv_linegrid.specs.Told.{has_id, id_from, id_of, with_attr}

pub attr_is_same : (a : Attr) → same_attr a a ≡ true
attr_is_same a = (same_attrs_are_equal a a).1 refl

pub empty_has_id : (attrs : List Attr) → has_id attrs empty_attr ≡ true
empty_has_id attrs = ap (λ b. b || list_any (same_attr empty_attr) attrs) (attr_is_same empty_attr)

pub id_of_empty : (attrs : List Attr) → id_of attrs empty_attr ≡ 0
id_of_empty attrs = ap (λ b. cond b 0 (id_from 1 attrs empty_attr)) (attr_is_same empty_attr)

-- an attribute with an id leaves the others
pub with_known : (attrs : List Attr) (a : Attr) → has_id attrs a ≡ true → with_attr attrs a ≡ attrs
with_known attrs a h = ap (λ b. cond b attrs (attrs ++ a ∷ [])) h

pub has_added : (attrs : List Attr) (a : Attr) → has_id (with_attr attrs a) a ≡ true
has_added attrs a = by (has_id attrs a) refl
  where
    last : (b c : Bool) → (b || (c || (true || false))) ≡ true
    last true c = refl
    last false true = refl
    last false false = refl

    by : (b : Bool) → has_id attrs a ≡ b → has_id (cond b attrs (attrs ++ a ∷ [])) a ≡ true
    by true e = e
    by false e =
        ap (λ b. same_attr a empty_attr || b) (list_any-append (same_attr a) attrs (a ∷ []))
        ∙ ap (λ s. same_attr a empty_attr || (list_any (same_attr a) attrs || (s || false))) (attr_is_same a)
        ∙ last (same_attr a empty_attr) (list_any (same_attr a) attrs)

-- a cell whose attribute is the one before
pub same_as_last : (attrs : List Attr) (a last : Attr) → same_attr a last ≡ true → has_id attrs last ≡ true → with_attr attrs a ≡ attrs
same_as_last attrs a last same h =
    with_known attrs a (ap (has_id attrs) ((same_attrs_are_equal a last).0 same) ∙ h)

-- the id of a cell whose attribute is the one before
pub same_id_as_last : (attrs : List Attr) (a last : Attr) (id : ℕ) → same_attr a last ≡ true → id ≡ id_of attrs last → id ≡ id_of attrs a
same_id_as_last attrs a last id same is = is ∙ ap (id_of attrs) (sym ((same_attrs_are_equal a last).0 same))
