-- A way in the tree of changes: its edits, the splices that they are, and what they move.
use Rattle.std.proofs.Common.{◌≡◌, ℕ, zero, suc, ℤ, pos, ◌+◌, ◌-◌, ◌+ℤ◌, List, [], ◌∷◌, ◌++◌, length, map, take, drop, fold, flat_map, refl, ap, sym, ◌∙◌, arith, Bool, true, false, cond, subst, Option, Some, All, nat_abs}
use Rattle.std.specs.Prelude.{option_map, unwrap_or}
use Rattle.std.specs.Option.{option_map_or}
use Rattle.std.specs.Ordering.{int_eq}
use Rattle.std.proofs.lemmas.Int.{ints}
use Rattle.nv_places.specs.Flat.{flat, IsLine, lines_of}
use Rattle.nv_places.specs.Places.{place_of, extent_of}
use Rattle.nv_places.proofs.FlatLemmas.{lines_of-flat}
use Rattle.nv_undo.specs.Tree.{Undo, IsTree, numbered, tree_after_leg}
use Rattle.nv_undo.specs.Ways.{Leads, IsNext, origin}
use Rattle.nv_undo.specs.declared.legs.Leg.{Leg}
use Rattle.nv_undo.specs.declared.legs.Leg.TheVariants.{Back, Ahead}
use Rattle.nv_undo.proofs.NumberLemmas.{numbered_same}
use Rattle.nv_buffer.specs.Content.{Content, events_from, after_leg}
use Rattle.nv_buffer.specs.Changes.{first_text, text_at, leg_edits, lines_after}
use Rattle.nv_buffer.specs.declared.edit.Edit.{Edit}
use Rattle.nv_buffer.specs.declared.buffer.Spliced.{Spliced}
use Rattle.nv_buffer.proofs.Going.{IsSealed, leg_sealed, first_leg, way_edits-same}
use Rattle.nv_buffer.proofs.Keeping.{gone_changes}
use Rattle.nv_buffer.proofs.KeptTexts.{text_at-same}
use Rattle.nv_model.specs.Buffers.{Splice, Kept, text_after, inverse_splice, inverse_splices, splice_events, kept_text}
use Rattle.nv_model.specs.Undoing.{splices_at, leg_splices}
use Rattle.nv_model.specs.Stage.{move_of, view_moved, view_in_line, views_moved, views_moved_by}
use Rattle.nv_model.specs.Standing.{splice_of, splices_of, kept_undo, IsEditOf, AreEditsOf}
use Rattle.nv_model.proofs.Edits.{flat-edit, lines-edit, told-edits}
use Rattle.nv_model.proofs.Legs.{gone_kept}
use Rattle.nv_model.proofs.Trees.{IsLeg, leg_is, lines-at}
use Rattle.nv_windows.specs.Views.{Move, view_after}
use Rattle.nv_windows.specs.declared.window.Window.{Window}
use Rattle.nv_editor.specs.inside.Kept.{AreKeptEdits}
use Rattle.nv_editor.specs.inside.Views.{move_by, view_carried}
use Rattle.nv_editor.specs.inside.Walks.{views_through}
use Rattle.nv_editor.proofs.KeptEdits.{leg_kept_edits}

-- ---- edits one after another
pub are-append : (t : List (List ℕ)) (es fs : List Edit) → AreEditsOf t es → AreEditsOf (fold lines_after t es) fs → AreEditsOf t (es ++ fs)
are-append t [] fs are then = then
are-append t (e ∷ es) fs are then = (are.0, are-append (lines_after t e) es fs are.1 then)

pub splices-append : (t : List (List ℕ)) (es fs : List Edit) → splices_of t (es ++ fs) ≡ splices_of t es ++ splices_of (fold lines_after t es) fs
splices-append t [] fs = refl
splices-append t (e ∷ es) fs = ap (λ (ss : List Splice). splice_of t e ∷ ss) (splices-append (lines_after t e) es fs)

pub through-append : (n : ℤ) (t : List (List ℕ)) (es fs : List Edit) (ws : List Window)
    → views_through n t (es ++ fs) ws ≡ views_through n (fold lines_after t es) fs (views_through n t es ws)
through-append n t [] fs ws = refl
through-append n t (e ∷ es) fs ws = through-append n (lines_after t e) es fs (map (view_carried n e (lines_after t e)) ws)

-- ---- windows
move_is : (t : List (List ℕ)) (e : Edit) → All IsLine t → IsEditOf t e → move_by e (lines_after t e) ≡ move_of (flat t) (splice_of t e)
move_is t e lines is =
    let start = is.placed.start in
    let count : e.old ≡ e.at + e.old - e.at = omega arith in
    let removed = is.placed.removed ∙ ap (λ (n : ℕ). extent_of (take n (drop e.at (flat t)))) count in
    let put = is.placed.put in
    let rows : length (lines_after t e) ≡ length (lines_of (text_after (flat t) (splice_of t e))) =
    ap length (sym (lines_of-flat (lines_after t e) (lines-edit t e lines is)) ∙ ap lines_of (flat-edit t e is)) in
    λ i. record { start = start i; old = removed i; new = put i; count = rows i }

view_is : (n : ℤ) (t : List (List ℕ)) (e : Edit) → All IsLine t → IsEditOf t e → (w : Window)
    → view_carried n e (lines_after t e) w ≡ cond (int_eq w.buffer n) (view_moved (flat t) (splice_of t e) w) w
view_is n t e lines is w =
    let after : lines_after t e ≡ lines_of (text_after (flat t) (splice_of t e)) =
    sym (lines_of-flat (lines_after t e) (lines-edit t e lines is)) ∙ ap lines_of (flat-edit t e is) in
    let move = move_is t e lines is in
    λ i. cond (int_eq w.buffer n) (view_in_line (after i) (view_after (move i) w)) w

views_are : (n : ℤ) (t : List (List ℕ)) (e : Edit) → All IsLine t → IsEditOf t e → (ws : List Window)
    → map (view_carried n e (lines_after t e)) ws ≡ views_moved n (flat t) (splice_of t e) ws
views_are n t e lines is [] = refl
views_are n t e lines is (w ∷ ws) = λ i. view_is n t e lines is w i ∷ views_are n t e lines is ws i

pub through_is : (n : ℤ) (t : List (List ℕ)) (es : List Edit) (ws : List Window) → All IsLine t → AreEditsOf t es
    → views_through n t es ws ≡ views_moved_by n (flat t) (splices_of t es) ws
through_is n t [] ws lines are = refl
through_is n t (e ∷ es) ws lines are =
    through_is n (lines_after t e) es (map (view_carried n e (lines_after t e)) ws) (lines-edit t e lines are.0) are.1
    ∙ (λ i. views_moved_by n (flat-edit t e are.0 i) (splices_of (lines_after t e) es) (views_are n t e lines are.0 ws i))

-- ---- a tree with the same changes
kept-same : (first : List ℕ) (u v : Undo Kept) (n : ℕ) → u.changes ≡ v.changes → kept_text first u n ≡ kept_text first v n
kept-same first u v n same =
    ap (λ (o : Option (ℕ × Kept)). option_map_or (λ (k : Kept). k.text) (option_map (λ (c : ℕ × Kept). c.1) o) first) (numbered_same u v same n)

leg_splices-same : (first : List ℕ) (u v : Undo Kept) (leg : Leg) → u.changes ≡ v.changes → leg_splices first u leg ≡ leg_splices first v leg
leg_splices-same first u v (Back n) same =
    let number : numbered u n ≡ numbered v n = numbered_same u v same n in
    let splices : splices_at u n ≡ splices_at v n =
    ap (λ (o : Option (ℕ × Kept)). option_map_or (λ (k : Kept). k.splices) (option_map (λ (c : ℕ × Kept). c.1) o) []) number in
    let from : kept_text first u (origin u n) ≡ kept_text first v (origin v n) =
    ap (λ (o : Option (ℕ × Kept)). kept_text first u (unwrap_or (option_map (λ (c : ℕ × Kept). c.0) o) 0)) number
    ∙ kept-same first u v (origin v n) same in
    λ i. inverse_splices (from i) (splices i)
leg_splices-same first u v (Ahead n) same =
    ap (λ (o : Option (ℕ × Kept)). option_map_or (λ (k : Kept). k.splices) (option_map (λ (c : ℕ × Kept). c.1) o) []) (numbered_same u v same n)

kept_changes-gone : (leg : Leg) (undo : Undo (List Edit)) → (kept_undo (tree_after_leg leg undo)).changes ≡ (kept_undo undo).changes
kept_changes-gone leg undo = ap (λ (u : Undo Kept). u.changes) (gone_kept leg undo) ∙ gone_changes leg (kept_undo undo)

pub leg_splices-gone : (leg next : Leg) (undo : Undo (List Edit))
    → leg_splices (flat first_text) (kept_undo (tree_after_leg leg undo)) next ≡ leg_splices (flat first_text) (kept_undo undo) next
leg_splices-gone leg next undo =
    leg_splices-same (flat first_text) (kept_undo (tree_after_leg leg undo)) (kept_undo undo) next (kept_changes-gone leg undo)

way_splices-gone : (leg : Leg) (legs : List Leg) (undo : Undo (List Edit))
    → flat_map (leg_splices (flat first_text) (kept_undo (tree_after_leg leg undo))) legs ≡ flat_map (leg_splices (flat first_text) (kept_undo undo)) legs
way_splices-gone leg [] undo = refl
way_splices-gone leg (next ∷ legs) undo = λ i. leg_splices-gone leg next undo i ++ way_splices-gone leg legs undo i

-- ---- a leg of a buffer whose changes are all closed
pub record IsLegOf (b : Content) (leg : Leg) : Type 0 where
  pub edits : AreEditsOf b.text (leg_edits b.undo leg)
  pub text : fold lines_after b.text (leg_edits b.undo leg) ≡ (after_leg b leg).text
  pub splices : splices_of b.text (leg_edits b.undo leg) ≡ leg_splices (flat first_text) (kept_undo b.undo) leg
  pub sealed : IsSealed (after_leg b leg)
  pub kept : AreKeptEdits (after_leg b leg)
  pub lines : All IsLine b.text

pub leg_of : (b : Content) (leg : Leg) → IsSealed b → AreKeptEdits b → IsNext b.undo leg → IsLegOf b leg
leg_of b leg sealed kept next =
    let the_leg : IsLeg b.undo leg = leg_is b.undo sealed.0.tree kept.changes leg next in
    let now : b.text ≡ text_at b.undo b.undo.current =
    sealed.0.now ∙ ap (fold lines_after (text_at b.undo b.undo.current)) sealed.1 in
    record {
      edits = subst (λ (t : List (List ℕ)). AreEditsOf t (leg_edits b.undo leg)) (sym now) the_leg.edits;
      text =
          ap (λ (t : List (List ℕ)). fold lines_after t (leg_edits b.undo leg)) now
          ∙ the_leg.text
          ∙ sym (text_at-same (tree_after_leg leg b.undo) b.undo (tree_after_leg leg b.undo).current (gone_changes leg b.undo));
      splices = ap (λ (t : List (List ℕ)). splices_of t (leg_edits b.undo leg)) now ∙ the_leg.splices;
      sealed = leg_sealed b leg sealed next;
      kept = leg_kept_edits b leg sealed.1 kept;
      lines = subst (λ (t : List (List ℕ)). All IsLine t) (sym now) (lines-at b.undo sealed.0.tree kept.changes b.undo.current sealed.0.tree.within);
    }

-- ---- a way
pub record IsWayOf (b : Content) (legs : List Leg) : Type 0 where
  pub edits : AreEditsOf b.text (flat_map (leg_edits b.undo) legs)
  pub splices : splices_of b.text (flat_map (leg_edits b.undo) legs) ≡ flat_map (leg_splices (flat first_text) (kept_undo b.undo)) legs

pub way_of : (legs : List Leg) (b : Content) (to : ℕ) → IsSealed b → AreKeptEdits b → Leads b.undo b.undo.current legs to → IsWayOf b legs
way_of [] b to sealed kept way = record { edits = tt; splices = refl }
way_of (leg ∷ legs) b to sealed kept way =
    let first = first_leg b.undo leg legs to way in
    let here = leg_of b leg sealed kept first.0 in
    let rest = way_of legs (after_leg b leg) to here.sealed here.kept first.1 in
    let es : List Edit = leg_edits b.undo leg in
    let more : List Edit = flat_map (leg_edits b.undo) legs in
    let same : flat_map (leg_edits (after_leg b leg).undo) legs ≡ more =
    way_edits-same (after_leg b leg).undo b.undo legs (gone_changes leg b.undo) in
    let then : AreEditsOf (fold lines_after b.text es) more =
    subst (λ (t : List (List ℕ)). AreEditsOf t more) (sym here.text)
    (subst (λ (fs : List Edit). AreEditsOf (after_leg b leg).text fs) same rest.edits) in
    record {
      edits = are-append b.text es more here.edits then;
      splices =
          splices-append b.text es more
          ∙ (λ i. here.splices i
          ++ (ap (λ (t : List (List ℕ)). splices_of t more) here.text
          ∙ ap (splices_of (after_leg b leg).text) (sym same)
          ∙ rest.splices
          ∙ way_splices-gone leg legs b.undo) i);
    }

-- what is told of its edits is what the model tells of its splices
pub way_told : (b : Content) (legs : List Leg) (tick : ℕ) → b.tick ≡ pos tick → All IsLine b.text → IsWayOf b legs
    → events_from b.tick (flat_map (leg_edits b.undo) legs)
    ≡ splice_events (flat b.text) tick (flat_map (leg_splices (flat first_text) (kept_undo b.undo)) legs)
way_told b legs tick is lines way =
    told-edits b.text (flat_map (leg_edits b.undo) legs) b.tick tick is lines way.edits
    ∙ ap (splice_events (flat b.text) tick) way.splices
