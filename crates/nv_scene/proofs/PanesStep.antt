-- One more pane.
use Rattle.std.proofs.Common.{◌≡◌, ℕ, ◌+◌, ◌<◌, ◌≤◌, List, [], ◌∷◌, ◌++◌, length, drop, get_or, add-one, append_assoc, append-nil, drop-cons, sym, subst}
use Rattle.std.proofs.Math.ListN.{drop_of_length-le}
use Rattle.nv_layout.specs.declared.nodes.Placed.{Placed}
use Rattle.nv_windows.specs.Rooms.{without_status}
use Rattle.nv_screen.specs.declared.scene.Pane.{Pane}
use Rattle.nv_model.specs.Seen.{Seen}
use Rattle.nv_scene.specs.Panes.{IsPaneIn}
use Rattle.nv_scene.specs.Scenes.{ArePanesIn}

drop_here : (ps : List Placed) (i : ℕ) (d : Placed) → i < length ps → drop i ps ≡ get_or ps i d ∷ drop (i + 1) ps
drop_here ps i d h = rw (add-one, drop-cons ps i d)

pub panes_step : (s : Seen) (placed : List Placed) (i : ℕ) (d : Placed) (panes : List Pane) (p : Pane) → i < length placed
    → ((more : List Pane) → ArePanesIn s (drop i placed) more → ArePanesIn s placed (panes ++ more))
    → IsPaneIn s (get_or placed i d).window (without_status (get_or placed i d).rect) p
    → (more : List Pane) → ArePanesIn s (drop (i + 1) placed) more → ArePanesIn s placed ((panes ++ p ∷ []) ++ more)
panes_step s placed i d panes p h so_far is more are =
    subst (ArePanesIn s placed) (sym (append_assoc panes (p ∷ []) more))
    (so_far (p ∷ more) (subst (λ (ps : List Placed). ArePanesIn s ps (p ∷ more)) (sym (drop_here placed i d h)) (is, are)))

pub panes_end : (s : Seen) (placed : List Placed) (i : ℕ) (panes : List Pane) → length placed ≤ i
    → ((more : List Pane) → ArePanesIn s (drop i placed) more → ArePanesIn s placed (panes ++ more)) → ArePanesIn s placed panes
panes_end s placed i panes h so_far =
    subst (ArePanesIn s placed) (append-nil panes) (so_far [] (subst (λ (ps : List Placed). ArePanesIn s ps []) (sym (drop_of_length-le placed h)) tt))
