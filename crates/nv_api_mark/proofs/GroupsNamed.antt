-- Groups that are made for names, and what is put of them.
use Rattle.std.proofs.Common.{◌≡◌, ◌∙◌, refl, ap, ℕ, true, List, Option, Some, None}
use Rattle.std.specs.Prelude.{is_some}
use Rattle.nv_value.specs.Content.{Tree}
use Rattle.nv_hl.specs.Groups.{NamedGroup, empty_group, known_id, with_named}
use Rattle.nv_hl.proofs.GroupLemmas.{known-push, with_named-known, with_named-unknown}
use Rattle.nv_api_mark.specs.GroupRows.{group_in}
use Rattle.nv_api_mark.specs.Groups.{groups_with}
use Rattle.nv_api_mark.specs.inside.Grouping.{group_to_put}

-- a group that was made is there
named_by : (gs : List NamedGroup) (name : List ℕ) (known : Option ℕ) → known_id gs name ≡ known → is_some (known_id (with_named gs (empty_group name)) name) ≡ true
named_by gs name (Some id) e =
    ap (λ (hs : List NamedGroup). is_some (known_id hs name)) (with_named-known gs (empty_group name) id e) ∙ ap is_some e
named_by gs name None e =
    ap (λ (hs : List NamedGroup). is_some (known_id hs name)) (with_named-unknown gs (empty_group name) e) ∙ ap is_some (known-push gs (empty_group name) e)

pub named_there : (gs : List NamedGroup) (name : List ℕ) → is_some (known_id (groups_with gs name) name) ≡ true
named_there gs name = named_by gs name (known_id gs name) refl

-- what is put of a group
pub put_is : (gs : List NamedGroup) (name : List ℕ) (pairs : List (Tree × Tree)) (link : Option (List ℕ)) → group_in gs name pairs link ≡ group_to_put (groups_with gs name) pairs link
put_is gs name pairs None = refl
put_is gs name pairs (Some link) = refl
