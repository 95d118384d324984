-- Undo commands keep a sound model editor, and their facts tell what they do.
use Rattle.std.proofs.Common.{◌≡◌, ◌∙◌, refl, sym, ap, subst, ℕ, zero, suc, ℤ, ◌≤◌, List, [], ◌∷◌, ◌++◌, map, fold, append-nil, append_assoc, arith, Option, Some, None}
use Rattle.std.specs.Prelude.{flat_map, option_map, option_to_list, unwrap_or}
use Rattle.std.specs.Option.{option_map_or}
use Rattle.nv_places.specs.Flat.{flat, lines_of}
use Rattle.nv_undo.specs.Tree.{Undo, IsTree, last, child_of, tree_after_leg}
use Rattle.nv_undo.specs.Ways.{Leads, IsNext, origin, undo_legs, redo_legs, legs_to}
use Rattle.nv_undo.specs.Ways as ways
use Rattle.nv_undo.specs.declared.legs.Leg.{Leg}
use Rattle.nv_undo.specs.declared.legs.Leg.TheVariants.{Back, Ahead}
use Rattle.nv_undo.proofs.NumberLemmas.{numbered_same}
use Rattle.nv_undo.proofs.WayLemmas.{path_leads}
use Rattle.nv_buffer.specs.Content.{Content, after_seal_of, after_seal, after_leg}
use Rattle.nv_buffer.specs.Changes.{text_at, leg_edits, lines_after}
use Rattle.nv_buffer.specs.declared.edit.Edit.{Edit}
use Rattle.nv_buffer.proofs.Going.{first_leg, way_to_parent, way_to_child}
use Rattle.nv_model.specs.Buffers.{Splice, Kept, ModelBuffer, text_after, text_of, tick_of, inverse_splices, kept_text, closed_with, with_seal, with_splice_back}
use Rattle.nv_model.specs.Undoing.{splices_at, leg_splices, legs_splices}
use Rattle.nv_model.specs.Editors.{ModelEditor, at_handle}
use Rattle.nv_model.specs.Seen.{seen_buffer, sealed_undo}
use Rattle.nv_model.specs.Operations.{Operation, spliced_back, stepped, sealed_in, after_operation, after_operations}
use Rattle.nv_model.specs.Answers.{leg_operations, undo_operations, undo_splices, edits}
use Rattle.nv_model.specs.Standing.{splices_of, kept_undo, AreEditsOf, StandsFor}
use Rattle.nv_model.specs.Keeping.{IsLegGone, with_leg}
use Rattle.nv_model.proofs.Telling.{fold-append}
use Rattle.nv_model.proofs.Trees.{leg_is, parent-kept}
use Rattle.nv_model.proofs.Legs.{gone_changes, edits_are, leg_is_kept}
use Rattle.nv_model.proofs.Gone.{all-append}
use Rattle.nv_model.proofs.Numbering.{stays_below}
use Rattle.nv_dispatch.specs.Telling.{without_marks, IsSoundBuffer, IsSoundModel}
use Rattle.nv_dispatch.proofs.Pasts.{AllFitLines, fit-append}
use Rattle.nv_dispatch.proofs.Kept.{sealed_stands}
use Rattle.nv_dispatch.proofs.Fitting.{edits_fit, text_kept, flat_lines, IsChanged, changed_by, changed_then, TellsAll, tells_changed}

-- ---- a buffer after splices of no open change
abbrev back : ModelBuffer → Splice → ModelBuffer
back b s = with_splice_back s b

back-without : (ss : List Splice) (b : ModelBuffer) → fold back (without_marks b) ss ≡ without_marks (fold back b ss)
back-without [] b = refl
back-without (s ∷ ss) b = back-without ss (with_splice_back s b)

back-undo : (ss : List Splice) (b : ModelBuffer) → (fold back b ss).undo ≡ b.undo
back-undo [] b = refl
back-undo (s ∷ ss) b = back-undo ss (with_splice_back s b)

back-first : (ss : List Splice) (b : ModelBuffer) → (fold back b ss).first ≡ b.first
back-first [] b = refl
back-first (s ∷ ss) b = back-first ss (with_splice_back s b)

back-splices : (ss : List Splice) (b : ModelBuffer) → (fold back b ss).splices ≡ b.splices ++ ss
back-splices [] b = sym (append-nil b.splices)
back-splices (s ∷ ss) b = back-splices ss (with_splice_back s b) ∙ append_assoc b.splices (s ∷ []) ss

text_more : (b c : ModelBuffer) (ss : List Splice) → c.first ≡ b.first → c.splices ≡ b.splices ++ ss → text_of c ≡ fold text_after (text_of b) ss
unfolding text_of
text_more b c ss first splices = (λ i. fold text_after (first i) (splices i)) ∙ fold-append text_after b.first b.splices ss

back_changed : (n : ℤ) (ss : List Splice) (m : ModelEditor) (b : ModelBuffer) → at_handle m.buffers n ≡ Some b
    → IsChanged n m (after_operations (map (spliced_back n) ss) m) (fold back b ss)
back_changed n [] m b there = record { here = there; others = λ k apart. refl; deleted = refl; numbered = λ is. is }
back_changed n (s ∷ ss) m b there =
    let once : ModelEditor = after_operation (spliced_back n s) m in
    let first : IsChanged n m once (with_splice_back s b) = changed_by n (with_splice_back s) m once b there refl refl (stays_below (spliced_back n s) m) in
    changed_then n m once (after_operations (map (spliced_back n) ss) once) (with_splice_back s b) (fold back (with_splice_back s b) ss) first
    (back_changed n ss once (with_splice_back s b) first.here)

-- ---- a leg
-- the operations of a leg by its splices
abbrev leg_made : ℤ → Leg → List Splice → List Operation
leg_made n leg ss = map (spliced_back n) ss ++ stepped n leg ∷ []

record OneLeg (n : ℤ) (m : ModelEditor) (b : ModelBuffer) (c : Content) (leg : Leg) (ss : List Splice) : Type 0 where
  changed : IsChanged n m (after_operations (leg_made n leg ss) m) (with_leg leg b)
  stands : StandsFor (after_leg c leg) (without_marks (with_leg leg b))
  splices : (with_leg leg b).splices ≡ b.splices ++ ss
  fit : AllFitLines (text_of b) ss
  text : text_of (with_leg leg b) ≡ fold text_after (text_of b) ss
  first : (with_leg leg b).first ≡ b.first

stepped_by : (n : ℤ) (leg : Leg) (m : ModelEditor) (b : ModelBuffer) (undo : Undo Kept) → at_handle m.buffers n ≡ Some b → b.undo ≡ undo
    → IsChanged n m (after_operation (stepped n leg) m) (record b { undo = tree_after_leg leg undo })
stepped_by n leg m b undo there same =
    subst (λ (u : Undo Kept). IsChanged n m (after_operation (stepped n leg) m) (record b { undo = tree_after_leg leg u })) same
    (changed_by n (λ b. record b { undo = tree_after_leg leg b.undo }) m (after_operation (stepped n leg) m) b there refl refl (stays_below (stepped n leg) m))

one_leg : (n : ℤ) (m : ModelEditor) (b : ModelBuffer) (c : Content) (leg : Leg) → at_handle m.buffers n ≡ Some b → StandsFor c (without_marks b) → c.unsealed ≡ []
    → IsNext c.undo leg → OneLeg n m b c leg (leg_splices b.first b.undo leg)
one_leg n m b c leg there stands closed next =
    let ss : List Splice = leg_splices b.first b.undo leg in
    let between : ModelEditor = after_operations (map (spliced_back n) ss) m in
    let run : IsChanged n m between (fold back b ss) = back_changed n ss m b there in
    let step : IsChanged n between (after_operation (stepped n leg) between) (with_leg leg b) = stepped_by n leg between (fold back b ss) b.undo run.here (back-undo ss b) in
    let gone : IsLegGone c (after_leg c leg) leg = record { closed = closed; next = next; content = refl } in
    let now : c.text ≡ text_at c.undo c.undo.current = stands.since ∙ ap (fold lines_after (text_at c.undo c.undo.current)) closed in
    let are : AreEditsOf c.text (leg_edits c.undo leg) =
    subst (λ (t : List (List ℕ)). AreEditsOf t (leg_edits c.undo leg)) (sym now) (leg_is c.undo stands.tree stands.changes leg next).edits in
    record {
      changed =
          subst (λ (e : ModelEditor). IsChanged n m e (with_leg leg b)) (sym (all-append (map (spliced_back n) ss) (stepped n leg ∷ []) m))
          (changed_then n m between (after_operation (stepped n leg) between) (fold back b ss) (with_leg leg b) run step);
      stands =
          subst (λ (x : ModelBuffer). StandsFor (after_leg c leg) x) (ap (λ (x : ModelBuffer). record x { undo = tree_after_leg leg b.undo }) (back-without ss b))
          (leg_is_kept c (after_leg c leg) leg (without_marks b) gone stands).0;
      splices = back-splices ss b;
      fit =
          subst (λ (l : List Splice). AllFitLines (text_of b) l) (edits_are c (after_leg c leg) leg (without_marks b) gone stands)
          (subst (λ (t : List ℕ). AllFitLines t (splices_of c.text (leg_edits c.undo leg))) (text_kept b (c, stands)) (edits_fit c.text (leg_edits c.undo leg) stands.lines are));
      text = text_more b (with_leg leg b) ss (back-first ss b) (back-splices ss b);
      first = back-first ss b;
    }

-- the splices of a leg are those in each tree with these changes
leg_splices-same : (first other_first : List ℕ) (tree other : Undo Kept) (leg : Leg) → first ≡ other_first → tree.changes ≡ other.changes
    → leg_splices first tree leg ≡ leg_splices other_first other leg
leg_splices-same first other_first tree other (Back n) f e =
    let origins : origin tree n ≡ origin other n = ap (λ (o : Option (ℕ × Kept)). unwrap_or (option_map (λ (c : ℕ × Kept). c.0) o) 0) (numbered_same tree other e n) in
    let splices : splices_at tree n ≡ splices_at other n = ap (λ (o : Option (ℕ × Kept)). option_map_or (λ (k : Kept). k.splices) (option_map (λ (c : ℕ × Kept). c.1) o) []) (numbered_same tree other e n) in
    let text : kept_text first tree (origin tree n) ≡ kept_text other_first other (origin other n) =
    ap (kept_text first tree) origins
    ∙ (λ i. option_map_or (λ (k : Kept). k.text) (option_map (λ (c : ℕ × Kept). c.1) (numbered_same tree other e (origin other n) i)) (f i)) in
    λ i. inverse_splices (text i) (splices i)
leg_splices-same first other_first tree other (Ahead n) f e =
    ap (λ (o : Option (ℕ × Kept)). option_map_or (λ (k : Kept). k.splices) (option_map (λ (c : ℕ × Kept). c.1) o) []) (numbered_same tree other e n)

-- ---- legs one after another
record IsRun (n : ℤ) (m later : ModelEditor) (b : ModelBuffer) (ss : List Splice) : Type 0 where
  after : ModelBuffer
  kept : Content
  stands : StandsFor kept (without_marks after)
  changed : IsChanged n m later after
  splices : after.splices ≡ b.splices ++ ss
  fit : AllFitLines (text_of b) ss

run_legs : (n : ℤ) (first : List ℕ) (tree : Undo Kept) (legs : List Leg) (m : ModelEditor) (b : ModelBuffer) (c : Content) (to : ℕ) → at_handle m.buffers n ≡ Some b
    → StandsFor c (without_marks b) → c.unsealed ≡ [] → first ≡ b.first → tree.changes ≡ b.undo.changes → Leads c.undo c.undo.current legs to
    → IsRun n m (after_operations (flat_map (leg_operations n first tree) legs) m) b (legs_splices first tree legs)
run_legs n first tree [] m b c to there stands closed f e way = record {
  after = b;
  kept = c;
  stands = stands;
  changed = record { here = there; others = λ k apart. refl; deleted = refl; numbered = λ is. is };
  splices = sym (append-nil b.splices);
  fit = tt;
}
run_legs n first tree (leg ∷ legs) m b c to there stands closed f e way =
    let ss : List Splice = leg_splices first tree leg in
    let more : List Splice = legs_splices first tree legs in
    let split = first_leg c.undo leg legs to way in
    let one : OneLeg n m b c leg ss =
    subst (λ (l : List Splice). OneLeg n m b c leg l) (sym (leg_splices-same first b.first tree b.undo leg f e)) (one_leg n m b c leg there stands closed split.0) in
    let between : ModelEditor = after_operations (leg_operations n first tree leg) m in
    let rest : IsRun n between (after_operations (flat_map (leg_operations n first tree) legs) between) (with_leg leg b) more =
    run_legs n first tree legs between (with_leg leg b) (after_leg c leg) to one.changed.here one.stands closed (f ∙ sym one.first) (e ∙ sym (gone_changes leg b.undo)) split.1 in
    record {
      after = rest.after;
      kept = rest.kept;
      stands = rest.stands;
      changed =
          subst (λ (x : ModelEditor). IsChanged n m x rest.after) (sym (all-append (leg_operations n first tree leg) (flat_map (leg_operations n first tree) legs) m))
          (changed_then n m between (after_operations (flat_map (leg_operations n first tree) legs) between) (with_leg leg b) rest.after one.changed rest.changed);
      splices = rest.splices ∙ ap (λ (l : List Splice). l ++ more) one.splices ∙ append_assoc b.splices ss more;
      fit = fit-append (text_of b) ss more one.fit (subst (λ (t : List ℕ). AllFitLines t more) one.text rest.fit);
    }

-- ---- ways
-- a way in the tree of the model is one in the tree as it is kept
leads_kept : (undo : Undo (List Edit)) (legs : List Leg) (from to : ℕ) → Leads (kept_undo undo) from legs to → Leads undo from legs to
leads_kept undo [] from to way = way
leads_kept undo (Back k ∷ legs) from to way = (way.0, way.1, sym (parent-kept undo k) ∙ way.2, leads_kept undo legs way.0 to way.3)
leads_kept undo (Ahead k ∷ legs) from to way = (sym (parent-kept undo k) ∙ way.0, leads_kept undo legs k to way.1)

-- the legs lead somewhere
abbrev LeadSomewhere : Undo Kept → List Leg → Type 0
LeadSomewhere t legs = (to : ℕ) × Leads t t.current legs to

back_leads : (t : Undo Kept) → IsTree t → (k : ℕ) → t.current ≡ k → LeadSomewhere t (ways.leg_back k)
back_leads t tree zero is = (t.current, refl)
back_leads t tree (suc k) is = way_to_parent t (suc k) (Back (suc k) ∷ []) refl (sym is) (omega arith) (omega (arith, is, tree.within))

pub undo_leads : (t : Undo Kept) → IsTree t → LeadSomewhere t (undo_legs t)
undo_leads t tree = back_leads t tree t.current refl

ahead_leads : (t : Undo Kept) → IsTree t → (o : Option ℕ) → child_of t t.current ≡ o → LeadSomewhere t (map Ahead (option_to_list o))
ahead_leads t tree None is = (t.current, refl)
ahead_leads t tree (Some k) is = way_to_child t k (Ahead k ∷ []) refl (tree.child t.current k is)

pub redo_leads : (t : Undo Kept) → IsTree t → LeadSomewhere t (redo_legs t)
redo_leads t tree = ahead_leads t tree (child_of t t.current) refl

pub to_leads : (t : Undo Kept) → IsTree t → (k : ℕ) → k ≤ last t → LeadSomewhere t (legs_to k t)
to_leads t tree k low = (k, path_leads t t.current k tree tree.within low)

-- ---- an undo command
-- the open change of a buffer as it is kept is closed
closed_of : (c : Content) (es : List Edit) → c.unsealed ≡ es → (after_seal_of c es).unsealed ≡ []
closed_of c [] is = is
closed_of c (e ∷ es) is = refl

-- the tree that the commands find
tree_found : (b : ModelBuffer) → IsSoundBuffer b → sealed_undo (seen_buffer b) ≡ (with_seal b).undo
tree_found b is = ap (λ (t : List ℕ). closed_with b.unsealed t b.undo) (flat_lines b is)

pub tree_sound : (b : ModelBuffer) → IsSoundBuffer b → IsTree (sealed_undo (seen_buffer b))
tree_sound b is = subst (λ (t : Undo Kept). IsTree t) (sym (tree_found b is)) (sealed_stands b is).valid.tree

text_sealed : (b : ModelBuffer) → text_of (with_seal b) ≡ text_of b
unfolding text_of
text_sealed b = refl

pub tells_legs : (m : ModelEditor) (n : ℤ) (b : ModelBuffer) (legs : List Leg) → IsSoundModel m → at_handle m.buffers n ≡ Some b
    → LeadSomewhere (sealed_undo (seen_buffer b)) legs
    → TellsAll m (after_operations (undo_operations n (seen_buffer b) legs) m) (edits n (seen_buffer b) (undo_splices (seen_buffer b) legs))
tells_legs m n b legs sound there way =
    let is : IsSoundBuffer b = sound.buffers n b there in
    let tree : Undo Kept = sealed_undo (seen_buffer b) in
    let sealed : IsSoundBuffer (with_seal b) = (after_seal is.0, sealed_stands b is) in
    let between : ModelEditor = after_operation (sealed_in n) m in
    let first : IsChanged n m between (with_seal b) = changed_by n with_seal m between b there refl refl (stays_below (sealed_in n) m) in
    let lead : Leads sealed.0.undo sealed.0.undo.current legs way.0 =
    leads_kept sealed.0.undo legs sealed.0.undo.current way.0
    (subst (λ (t : Undo Kept). Leads t t.current legs way.0) (tree_found b is ∙ sym sealed.1.undo) way.1) in
    let ss : List Splice = undo_splices (seen_buffer b) legs in
    let later : ModelEditor = after_operations (undo_operations n (seen_buffer b) legs) m in
    let run : IsRun n between later (with_seal b) ss =
    run_legs n b.first tree legs between (with_seal b) sealed.0 way.0 first.here sealed.1 (closed_of is.0 is.0.unsealed refl) refl (ap (λ (t : Undo Kept). t.changes) (tree_found b is)) lead in
    tells_changed n m later b run.after ss (flat (lines_of (text_of b))) (tick_of b) sound there
    (changed_then n m between later (with_seal b) run.after first run.changed) (run.kept, run.stands) run.splices (flat_lines b is) refl
    (subst (λ (t : List ℕ). AllFitLines t ss) (text_sealed b ∙ sym (flat_lines b is)) run.fit)
