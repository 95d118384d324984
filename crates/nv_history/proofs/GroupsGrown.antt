-- One more empty group changes no attribute.
use Rattle.std.proofs.Common.{◌≡◌, ℕ, zero, suc, ◌+◌, slice_get, List, [], ◌∷◌, ◌++◌, length, refl, ap, sym, ◌∙◌, subst, arith, Bool, true, false, cond, Option, Some, None}
use Rattle.std.specs.Prelude.{option_map, bytes_eq}
use Rattle.std.specs.Option.{option_map_or}
use Rattle.std.specs.Cmp.Lexicographic.{bytes_decides}
use Rattle.nv_hl.specs.declared.linking.Group.{Group}
use Rattle.nv_hl.specs.declared.linking.Group.TheVariants.{Plain, Link}
use Rattle.nv_hl.specs.Attributes.{empty_attr}
use Rattle.nv_hl.specs.Groups.{NamedGroup, known_id, group_at, with_named, empty_group, attr_along, attr_of}
use Rattle.nv_hl.proofs.GroupLemmas.{with_named-unknown, with_named-known, known-after}
use Rattle.nv_scene.specs.Scenes.{attr_named}
use Rattle.nv_history.proofs.Places.{get_push}

none_past : (gs : List NamedGroup) → slice_get gs (length gs) ≡ None
none_past [] = refl
none_past (g ∷ gs) = none_past gs

-- the group of an id in the longer list, looked through in the shorter one
at_end : (links : ℕ) (gs : List NamedGroup) (name : List ℕ) (id : ℕ)
    → attr_along links gs (group_at (gs ++ empty_group name ∷ []) id) ≡ attr_along links gs (group_at gs id)
unfolding attr_along
at_end links gs name zero = refl
at_end links gs name (suc i) =
    get_push (λ (o : Option NamedGroup). attr_along links gs (option_map (λ (g : NamedGroup). g.group) o) ≡ attr_along links gs (option_map (λ (g : NamedGroup). g.group) (slice_get gs i)))
    gs (empty_group name) i (λ e. sym (ap (λ (o : Option NamedGroup). attr_along links gs (option_map (λ (g : NamedGroup). g.group) o)) e)) refl

along_same : (links : ℕ) (gs : List NamedGroup) (name : List ℕ) (o : Option Group) → attr_along links (gs ++ empty_group name ∷ []) o ≡ attr_along links gs o
unfolding attr_along
along_same links gs name None = refl
along_same links gs name (Some (Plain attr)) = refl
along_same zero gs name (Some (Link id)) = refl
along_same (suc links) gs name (Some (Link id)) =
    along_same links gs name (group_at (gs ++ empty_group name ∷ []) id) ∙ at_end links gs name id

attr_pushed : (gs : List NamedGroup) (name : List ℕ) (id : ℕ) → attr_of (gs ++ empty_group name ∷ []) id ≡ attr_of gs id
attr_pushed gs name id = along_same 64 gs name (group_at (gs ++ empty_group name ∷ []) id) ∙ at_end 64 gs name id

attr_past : (gs : List NamedGroup) → attr_of gs (length gs + 1) ≡ empty_attr
unfolding attr_along
attr_past gs =
    let next : length gs + 1 ≡ suc (length gs) = omega arith in
    ap (attr_of gs) next ∙ ap (λ (o : Option NamedGroup). attr_along 64 gs (option_map (λ (g : NamedGroup). g.group) o)) (none_past gs)

by_id : (gs : List NamedGroup) (name : List ℕ) (o : Option ℕ) → option_map_or (attr_of (gs ++ empty_group name ∷ [])) o empty_attr ≡ option_map_or (attr_of gs) o empty_attr
by_id gs name None = refl
by_id gs name (Some id) = attr_pushed gs name id

by_name : (gs : List NamedGroup) (made name : List ℕ) (b : Bool) → bytes_eq made name ≡ b → known_id gs made ≡ None
    → option_map_or (attr_of (gs ++ empty_group made ∷ [])) (cond b (Some (length gs + 1)) (known_id gs name)) empty_attr ≡ attr_named gs name
by_name gs made name true is none =
    attr_pushed gs made (length gs + 1) ∙ attr_past gs
    ∙ sym (subst (λ (n : List ℕ). attr_named gs n ≡ empty_attr) ((bytes_decides made name).0 is) (ap (λ (o : Option ℕ). option_map_or (attr_of gs) o empty_attr) none))
by_name gs made name false is none = by_id gs made (known_id gs name)

named_pushed : (gs : List NamedGroup) (made name : List ℕ) → known_id gs made ≡ None → attr_named (gs ++ empty_group made ∷ []) name ≡ attr_named gs name
named_pushed gs made name none =
    ap (λ (o : Option ℕ). option_map_or (attr_of (gs ++ empty_group made ∷ [])) o empty_attr) (known-after gs (empty_group made) name none)
    ∙ by_name gs made name (bytes_eq made name) refl none

-- ---- the groups with one of a name
pub record AttrsStay (gs hs : List NamedGroup) : Type 0 where
  pub attrs : (id : ℕ) → attr_of hs id ≡ attr_of gs id
  pub named : (name : List ℕ) → attr_named hs name ≡ attr_named gs name

stay_by : (gs : List NamedGroup) (made : List ℕ) (o : Option ℕ) → known_id gs made ≡ o → AttrsStay gs (with_named gs (empty_group made))
stay_by gs made None is =
    subst (λ (hs : List NamedGroup). AttrsStay gs hs) (sym (with_named-unknown gs (empty_group made) is))
    (record { attrs = attr_pushed gs made; named = λ name. named_pushed gs made name is })
stay_by gs made (Some id) is =
    subst (λ (hs : List NamedGroup). AttrsStay gs hs) (sym (with_named-known gs (empty_group made) id is)) (record { attrs = λ k. refl; named = λ name. refl })

pub attrs_stay : (gs : List NamedGroup) (made : List ℕ) → AttrsStay gs (with_named gs (empty_group made))
attrs_stay gs made = stay_by gs made (known_id gs made) refl
