-- The editor of a world is seen as its model.
use Rattle.std.proofs.Common.{◌≡◌, refl, ap, sym, ◌∙◌, Bool, true, false, cond, Option, Some, None, option_map}
use Rattle.std.specs.Prelude.{IsSome}
use Rattle.nv_model.specs.Seen.{seen_of}
use Rattle.nv_model.specs.Standing.{PresentEditor, Stands, seen_now}
use Rattle.nv_model.proofs.Seeing.{seen_is_same}
use Rattle.nv_history.specs.Worlds.{World as ModelWorld}
use Rattle.nv_world.specs.Worlds.{WorldRecord, model_of}
use Rattle.nv_watch.specs.SeenWorlds.{editor_seen}

pub none_known : (k : WorldRecord) → k.spent ≡ true → None ≡ editor_seen k
unfolding editor_seen
none_known k spent = ap (λ (b : Bool). cond b None (option_map (λ (w : ModelWorld). seen_of w.editor) (model_of k))) (sym spent)

pub editor_known : (k : WorldRecord) (e : PresentEditor) → k.spent ≡ false → IsSome (model_of k)
    → ((w : ModelWorld) → k.spent ≡ false → model_of k ≡ Some w → Stands e w.editor) → Some (seen_now e) ≡ editor_seen k
unfolding editor_seen
editor_known k e kept runs stands =
    by_model (model_of k) refl runs
    ∙ ap (λ (b : Bool). cond b None (option_map (λ (w : ModelWorld). seen_of w.editor) (model_of k))) (sym kept)
  where
    by_model : (o : Option ModelWorld) → model_of k ≡ o → IsSome o → Some (seen_now e) ≡ option_map (λ (w : ModelWorld). seen_of w.editor) o
    by_model None at some = absurd cc
    by_model (Some w) at some = ap Some (seen_is_same e w.editor (stands w kept at))
