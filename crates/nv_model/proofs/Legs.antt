-- A leg in the tree of a buffer keeps what stands for it.
use Rattle.std.proofs.Common.{◌≡◌, ℕ, ℤ, suc, pos, ◌+◌, ◌-◌, ◌+ℤ◌, ◌<◌, ◌≤◌, List, [], ◌∷◌, ◌++◌, length, take, drop, map, filter, fold, refl, ap, sym, ◌∙◌, append_assoc, length-append, arith, All, true, subst, Option, Some}
use Rattle.std.specs.Option.{option_map_or}
use Rattle.std.specs.Prelude.{option_map, option_to_list, slice_set, unwrap_or}
use Rattle.std.proofs.lemmas.Int.{ints}
use Rattle.std.proofs.lemmas.List.{append-nil}
use Rattle.nv_places.specs.Flat.{flat, IsLine}
use Rattle.nv_places.specs.Places.{extent_of, place_of}
use Rattle.nv_marks.specs.Marks.{greatest_id}
use Rattle.nv_marks.specs.Order.{IsInOrder}
use Rattle.nv_marks.specs.declared.keeping.Kept.{Kept as KeptMark}
use Rattle.nv_undo.specs.Tree.{Undo, tree_of, IsTree, last, numbered, parent_of, change_of, tree_after_leg}
use Rattle.nv_undo.specs.declared.legs.Leg.{Leg}
use Rattle.nv_undo.specs.declared.legs.Leg.TheVariants.{Back, Ahead}
use Rattle.nv_undo.proofs.NumberLemmas.{numbered_same, parent_some, some_numbered}
use Rattle.nv_undo.proofs.StepLemmas.{back_tree, child_tree}
use Rattle.nv_buffer.specs.Content.{Content, after_edit, events_from}
use Rattle.nv_buffer.specs.Changes.{text_at, first_text, leg_edits, lines_after}
use Rattle.nv_buffer.specs.KeptMarks.{kept_at}
use Rattle.nv_undo.specs.Ways.{origin, IsNext}
use Rattle.nv_buffer.specs.declared.edit.ChangePart.{ChangePart}
use Rattle.nv_buffer.specs.declared.edit.Edit.{Edit}
use Rattle.nv_buffer.proofs.KeptTexts.{text_at-same}
use Rattle.nv_model.specs.Buffers.{Splice, SetMark, Kept, KeptState, ModelBuffer, text_after, inverse_splice, splice_events, text_of, tick_of, last_kept, state_now, mark_of, marks_there, kept_text, with_splice_back}
use Rattle.nv_model.specs.Undoing.{leg_splices, splices_at}
use Rattle.nv_model.specs.Standing.{splice_of, splices_of, IsEditOf, kept_changes, kept_undo, AreNumbered, AreWithin, IsKeptBy, LeadTo, IsSetIn, IsValid, AreEditsOf, IsChangeOf, StandsFor, is_kept_of, kept_mark_of, text_met}
use Rattle.nv_model.specs.Keeping.{IsLegGone, with_leg, LegIsKept}
use Rattle.nv_model.proofs.Telling.{fold-append}
use Rattle.nv_model.proofs.Edits.{flat-edit, flat-edits, lines-edit, within-edits, told-edits}
use Rattle.nv_model.proofs.LegGone.{IsLegMet, leg_met_ahead, leg_met_back, parts-of}
use Rattle.nv_model.proofs.LegParts.{AllMeet, AreParts, all_meet}
use Rattle.nv_model.proofs.Stepping.{IsStep, MarksAlike, marks_stand, standing_marks}
use Rattle.nv_model.proofs.Trees.{parent-kept, text-kept, IsLeg, is_at, leg_is, length-splices, lines-at}

-- ---- marks after edits one after another
-- an edit of a buffer is a step
step-edit : (b : Content) (m : ModelBuffer) (e : Edit) → MarksAlike b m → IsEditOf b.text e
    → ((k : SetMark) (x : KeptState) → last_kept e.part (state_now m k).kept ≡ Some x
    → text_met e.part [] m.first m.splices ≡ text_after (text_of m) (splice_of b.text e))
    → IsStep b m (splice_of b.text e) e
step-edit b m e is of met =
    let count : e.old ≡ e.at + e.old - e.at = omega arith in
    let removed : e.removed ≡ extent_of (inverse_splice (flat b.text) (splice_of b.text e)).bytes =
    of.placed.removed ∙ ap (λ (n : ℕ). extent_of (take n (drop e.at (flat b.text)))) count in
    record {
      within = record { order = omega arith; within = omega (arith, of.bytes.removed, ap length is.text) };
      start = of.placed.start ∙ ap (λ (t : List ℕ). place_of t e.at) is.text;
      removed = removed ∙ ap (λ (t : List ℕ). extent_of (inverse_splice t (splice_of b.text e)).bytes) is.text;
      put = of.placed.put;
      part = refl;
      text = flat-edit b.text e of ∙ ap (λ (t : List ℕ). text_after t (splice_of b.text e)) is.text;
      lines = lines-edit b.text e is.lines of;
      met = met;
    }

pub marks-run : (es : List Edit) (b : Content) (m : ModelBuffer) → MarksAlike b m → AreEditsOf b.text es
    → AllMeet m.first m.splices (splices_of b.text es)
    → MarksAlike (fold after_edit b es) (fold (λ (x : ModelBuffer) (s : Splice). with_splice_back s x) m (splices_of b.text es))
unfolding text_of
marks-run [] b m is are meet = is
marks-run (e ∷ es) b m is are meet =
    marks-run es (after_edit b e) (with_splice_back (splice_of b.text e) m)
    (marks_stand b m (splice_of b.text e) e is (step-edit b m e is are.0 meet.0)) are.1 meet.1

-- what edits leave of the ids and of the numbers of settings
kept-edits : (es : List Edit) (b : Content)
    → ((fold after_edit b es).marks.greatest ≡ b.marks.greatest) × ((fold after_edit b es).marks.settings ≡ b.marks.settings)
kept-edits [] b = (refl, refl)
kept-edits (e ∷ es) b = kept-edits es (after_edit b e)

-- ---- a buffer of the model after splices of no open change
back_all : (ss : List Splice) (m : ModelBuffer)
    → fold (λ (b : ModelBuffer) (s : Splice). with_splice_back s b) (record m { modified = true }) ss
    ≡ record m { splices = m.splices ++ ss; modified = true }
back_all [] m = λ i. record m { splices = sym (append-nil m.splices) i; modified = true }
back_all (s ∷ ss) m =
    back_all ss (record m { splices = m.splices ++ s ∷ [] })
    ∙ ap (λ (l : List Splice). record m { splices = l; modified = true }) (append_assoc m.splices (s ∷ []) ss)

pub back_some : (ss : List Splice) (m : ModelBuffer) → 0 < length ss
    → fold (λ (b : ModelBuffer) (s : Splice). with_splice_back s b) m ss ≡ record m { splices = m.splices ++ ss; modified = true }
back_some [] m some = absurd (omega arith)
back_some (s ∷ ss) m some =
    back_all ss (record m { splices = m.splices ++ s ∷ [] })
    ∙ ap (λ (l : List Splice). record m { splices = l; modified = true }) (append_assoc m.splices (s ∷ []) ss)

-- ---- splices in their texts
pub within-append : (text : List ℕ) (ss ts : List Splice) → AreWithin text ss → AreWithin (fold text_after text ss) ts → AreWithin text (ss ++ ts)
within-append text [] ts are then = then
within-append text (s ∷ ss) ts are then = (are.0, within-append (text_after text s) ss ts are.1 then)

-- ---- trees after a leg
pub gone_changes : {E : Type 0} (leg : Leg) (undo : Undo E) → (tree_after_leg leg undo).changes ≡ undo.changes
gone_changes (Back n) undo = refl
gone_changes (Ahead n) undo = refl

pub gone_tree : {E : Type 0} (leg : Leg) (undo : Undo E) → IsTree undo → ((n : ℕ) → leg ≡ Ahead n → parent_of undo n ≡ Some undo.current)
    → IsTree (tree_after_leg leg undo)
gone_tree (Back n) undo tree next = back_tree undo tree
gone_tree (Ahead n) undo tree next = child_tree n undo tree (next n refl)

pub next_parent : (undo : Undo (List Edit)) (leg : Leg) → IsNext undo leg → (n : ℕ) → leg ≡ Ahead n → parent_of undo n ≡ Some undo.current
next_parent undo (Back k) next n is = absurd (cc)
next_parent undo (Ahead k) next n is = subst (λ (j : ℕ). parent_of undo j ≡ Some undo.current) (grind arith) next

pub changes-same : (undo other : Undo (List Edit)) → undo.changes ≡ other.changes → (n : ℕ) (cs : List (ℕ × List Edit))
    → kept_changes undo n cs ≡ kept_changes other n cs
changes-same undo other same n [] = refl
changes-same undo other same n (c ∷ cs) =
    let parent = text_at-same undo other c.0 same in
    let own = text_at-same undo other n same in
    let rest = changes-same undo other same (suc n) cs in
    λ i. (c.0, record { splices = splices_of (parent i) c.1; text = flat (own i) }) ∷ rest i

pub gone_kept : (leg : Leg) (undo : Undo (List Edit)) → kept_undo (tree_after_leg leg undo) ≡ tree_after_leg leg (kept_undo undo)
gone_kept (Back n) undo =
    let changes = changes-same (tree_after_leg (Back n) undo) undo refl 1 undo.changes in
    let current = ap (λ (o : Option ℕ). unwrap_or o undo.current) (sym (parent-kept undo undo.current)) in
    λ i. tree_of (changes i) (current i) undo.entered
gone_kept (Ahead n) undo =
    let changes = changes-same (tree_after_leg (Ahead n) undo) undo refl 1 undo.changes in
    let entered = ap (λ (o : Option ℕ). slice_set undo.entered (unwrap_or o 0) n) (sym (parent-kept undo n)) in
    λ i. tree_of (changes i) n (entered i)

-- the model's buffer after a leg, written out
abbrev spread : Leg → ModelBuffer → ModelBuffer
spread leg m = record m { splices = m.splices ++ leg_splices m.first m.undo leg; modified = true; undo = tree_after_leg leg m.undo }

-- ---- the buffer
module _ (b later : Content) (leg : Leg) (m : ModelBuffer) (go : IsLegGone b later leg) (is : StandsFor b m) where
  the_leg : IsLeg b.undo leg
  the_leg = leg_is b.undo is.tree is.changes leg go.next

  now_at : b.text ≡ text_at b.undo b.undo.current
  now_at = is.since ∙ ap (fold lines_after (text_at b.undo b.undo.current)) go.closed

  pub edits_are : splices_of b.text (leg_edits b.undo leg) ≡ leg_splices m.first m.undo leg
  edits_are =
      ap (λ (t : List (List ℕ)). splices_of t (leg_edits b.undo leg)) now_at
      ∙ the_leg.splices
      ∙ (λ i. leg_splices (sym is.first i) (is.undo i) leg)

  within : AreWithin (text_of m) (leg_splices m.first m.undo leg)
  within =
      subst (λ (ss : List Splice). AreWithin (text_of m) ss) edits_are
      (subst (λ (t : List ℕ). AreWithin t (splices_of b.text (leg_edits b.undo leg))) is.text
      (subst (λ (t : List (List ℕ)). AreWithin (flat t) (splices_of t (leg_edits b.undo leg))) (sym now_at)
      (within-edits (text_at b.undo b.undo.current) (leg_edits b.undo leg) the_leg.edits)))

  -- the text that the leg leads to
  arrives : flat (text_at b.undo (tree_after_leg leg b.undo).current) ≡ fold text_after (text_of m) (leg_splices m.first m.undo leg)
  arrives =
      ap flat (sym the_leg.text)
      ∙ flat-edits (text_at b.undo b.undo.current) (leg_edits b.undo leg) the_leg.edits
      ∙ ap (λ (t : List (List ℕ)). fold text_after (flat t) (splices_of t (leg_edits b.undo leg))) (sym now_at)
      ∙ (λ i. fold text_after (is.text i) (edits_are i))

  some_splices : 0 < length (leg_splices m.first m.undo leg)
  some_splices = subst (λ (ss : List Splice). 0 < length ss) edits_are (subst (λ (t : List (List ℕ)). 0 < length (splices_of t (leg_edits b.undo leg))) (sym now_at) the_leg.some)

  final_is : with_leg leg m ≡ spread leg m
  final_is =
      ap (λ (x : ModelBuffer). record x { undo = tree_after_leg leg m.undo })
      (back_some (leg_splices m.first m.undo leg) m some_splices)

  text_is : text_of (spread leg m)
      ≡ fold text_after (text_of m) (leg_splices m.first m.undo leg)
  unfolding text_of
  text_is = fold-append text_after m.first m.splices (leg_splices m.first m.undo leg)

  text_later : later.text ≡ text_at b.undo (tree_after_leg leg b.undo).current
  text_later =
      ap (λ (c : Content). c.text) go.content
      ∙ text_at-same (tree_after_leg leg b.undo) b.undo (tree_after_leg leg b.undo).current (gone_changes leg b.undo)

  none_now : m.unsealed ≡ []
  none_now = sym is.unsealed ∙ ap (splices_of (text_at b.undo b.undo.current)) go.closed

  -- the parts of the change of a leg are numbered
  parts_at : (n : ℕ) (c : ℕ × List Edit) → numbered b.undo n ≡ Some c → AreParts n 0 (splices_at m.undo n)
  parts_at n c here =
      subst (λ (u : Undo Kept). AreParts n 0 (splices_at u n)) is.undo
      (subst (λ (ss : List Splice). AreParts n 0 ss) (sym (is_at b.undo n c here).splices)
      (parts-of (text_at b.undo c.0) n 0 c.1 (is.numbered n c.1 (ap (option_map (λ (d : ℕ × List Edit). d.1)) here))))

  met_by : (g : Leg) → leg ≡ g → IsNext b.undo g → IsLegMet m g
  met_by (Ahead n) same next =
      let here = parent_some b.undo n b.undo.current next in
      leg_met_ahead m is.valid none_now n
      (subst (λ (u : Undo Kept). parent_of u n ≡ Some u.current) is.undo (parent-kept b.undo n ∙ next)) (parts_at n here.0 here.1)
  met_by (Back n) same next =
      let now : b.undo.current ≡ m.undo.current = ap (λ (u : Undo Kept). u.current) is.undo in
      let here = some_numbered b.undo b.undo.current (omega (arith, next.0, next.1)) is.tree.within in
      let there = some_numbered m.undo m.undo.current (omega (arith, next.0, next.1, now)) is.valid.tree.within in
      let splices : splices_at m.undo m.undo.current ≡ there.0.1.splices =
      ap (λ (o : Option (ℕ × Kept)). option_map_or (λ (k : Kept). k.splices) (option_map (λ (c : ℕ × Kept). c.1) o) []) there.1 in
      let text : kept_text m.first m.undo m.undo.current ≡ there.0.1.text =
      ap (λ (o : Option (ℕ × Kept)). option_map_or (λ (k : Kept). k.text) (option_map (λ (c : ℕ × Kept). c.1) o) m.first) there.1 in
      let leads = is.valid.changes m.undo.current there.0 there.1 in
      subst (λ (k : ℕ). IsLegMet m (Back k)) (sym (next.0 ∙ now))
      (leg_met_back m is.valid none_now there.0.0 (ap (option_map (λ (c : ℕ × Kept). c.0)) there.1)
      (subst (λ (k : ℕ). AreParts k 0 (splices_at m.undo k)) now (parts_at b.undo.current here.0 here.1))
      (subst (λ (t : List ℕ). LeadTo (kept_text m.first m.undo there.0.0) (splices_at m.undo m.undo.current) t) (sym text)
      (subst (λ (ss : List Splice). LeadTo (kept_text m.first m.undo there.0.0) ss there.0.1.text) (sym splices) leads)))

  is_met : IsLegMet m leg
  is_met = met_by leg refl go.next

  all_met : AllMeet m.first m.splices (leg_splices m.first m.undo leg)
  unfolding text_of
  all_met =
      subst (λ (ss : List Splice). AllMeet m.first ss (leg_splices m.first m.undo leg)) (append-nil m.splices)
      (all_meet m [] (leg_splices m.first m.undo leg) is_met.meets)

  runs : MarksAlike (fold after_edit b (leg_edits b.undo leg)) (record m { splices = m.splices ++ leg_splices m.first m.undo leg; modified = true })
  runs =
      subst (λ (x : ModelBuffer). MarksAlike (fold after_edit b (leg_edits b.undo leg)) x)
      (ap (fold (λ (x : ModelBuffer) (s : Splice). with_splice_back s x) m) edits_are
      ∙ back_some (leg_splices m.first m.undo leg) m some_splices)
      (marks-run (leg_edits b.undo leg) b m (standing_marks b m is)
      (subst (λ (t : List (List ℕ)). AreEditsOf t (leg_edits b.undo leg)) (sym now_at) the_leg.edits)
      (subst (λ (ss : List Splice). AllMeet m.first m.splices ss) (sym edits_are) all_met))

  marks_now : IsInOrder (map (mark_of (spread leg m)) (marks_there (spread leg m))) later.marks.marks
  unfolding text_of
  marks_now = subst (λ (c : Content). IsInOrder (map (mark_of (spread leg m)) (marks_there (spread leg m))) c.marks.marks) (sym go.content) runs.marks

  kept_now_by : (part : ChangePart) → IsKeptBy later (spread leg m) part
  unfolding text_of
  kept_now_by part = record {
    each =
        subst (λ (c : Content). All (λ (k : SetMark). filter (is_kept_of k) (kept_at c.kept part)
        ≡ option_to_list (option_map (kept_mark_of (text_met part [] m.first (m.splices ++ leg_splices m.first m.undo leg)) k) (last_kept part (state_now (spread leg m) k).kept)))
        (marks_there (spread leg m))) (sym go.content) (runs.kept part).each;
    made = subst (λ (c : Content). All (λ (x : KeptMark). x.set ≤ m.settings) (kept_at c.kept part)) (sym go.content) (runs.kept part).made;
  }

  set_now_in : All (IsSetIn (text_of (spread leg m)) (m.splices ++ leg_splices m.first m.undo leg)) m.marks
  unfolding text_of
  set_now_in = runs.set

  count : length (leg_splices m.first m.undo leg) ≡ length (leg_edits b.undo leg)
  count = ap length (sym edits_are) ∙ length-splices b.text (leg_edits b.undo leg)

  tick_later : later.tick ≡ pos (2 + length (m.splices ++ leg_splices m.first m.undo leg))
  tick_later =
      ap (λ (c : Content). c.tick) go.content
      ∙ ap (λ (z : ℤ). z +ℤ pos (length (leg_edits b.undo leg))) is.tick
      ∙ more
    where
      more : pos (2 + length m.splices) +ℤ pos (length (leg_edits b.undo leg)) ≡ pos (2 + length (m.splices ++ leg_splices m.first m.undo leg))
      more = omega (arith, ints, count, length-append m.splices (leg_splices m.first m.undo leg))

  undo_later : later.undo ≡ tree_after_leg leg b.undo
  undo_later = ap (λ (c : Content). c.undo) go.content

  tree_model : IsTree (tree_after_leg leg m.undo)
  tree_model =
      gone_tree leg m.undo is.valid.tree
      (λ n same. subst (λ (u : Undo Kept). parent_of u n ≡ Some u.current) is.undo (parent-kept b.undo n ∙ next_parent b.undo leg go.next n same))

  numbers_same : (n : ℕ) → kept_text m.first (tree_after_leg leg m.undo) n ≡ kept_text m.first m.undo n
  numbers_same n =
      ap (λ (o : Option (ℕ × Kept)). option_map_or (λ (k : Kept). k.text) (option_map (λ (c : ℕ × Kept). c.1) o) m.first)
      (numbered_same (tree_after_leg leg m.undo) m.undo (gone_changes leg m.undo) n)

  -- the text that is kept of the new number is the text
  kept_now : kept_text m.first (tree_after_leg leg m.undo) (tree_after_leg leg m.undo).current ≡ fold text_after (text_of m) (leg_splices m.first m.undo leg)
  kept_now =
      numbers_same (tree_after_leg leg m.undo).current
      ∙ (λ i. kept_text (is.first i) (sym is.undo i) (tree_after_leg leg (sym is.undo i)).current)
      ∙ ap (λ (u : Undo Kept). kept_text (flat first_text) (kept_undo b.undo) u.current) (sym (gone_kept leg b.undo))
      ∙ text-kept b.undo (tree_after_leg leg b.undo).current the_leg.within
      ∙ arrives

  valid_later : IsValid (spread leg m)
  valid_later = record {
    splices = within-append m.first m.splices (leg_splices m.first m.undo leg) is.valid.splices in_all;
    tree = tree_model;
    changes = λ n c here.
        subst (λ (t : List ℕ). LeadTo t c.1.splices c.1.text) (sym (numbers_same c.0))
        (is.valid.changes n c (sym (numbered_same (tree_after_leg leg m.undo) m.undo (gone_changes leg m.undo) n) ∙ here));
    since = subst (λ (ss : List Splice). LeadTo (kept_text m.first (tree_after_leg leg m.undo) (tree_after_leg leg m.undo).current) ss (text_of (spread leg m))) (sym none_now)
        (record { within = tt; makes = kept_now ∙ sym text_is });
    named = is.valid.named;
    marks = set_now_in;
    settings = is.valid.settings;
    parts = is_met.parts;
  }
    where
      in_all : AreWithin (fold text_after m.first m.splices) (leg_splices m.first m.undo leg)
      in_all = unfold text_of in within

  stands_later : StandsFor later (spread leg m)
  stands_later = record {
    first = is.first;
    text = ap flat text_later ∙ arrives ∙ sym text_is;
    lines = subst (λ (t : List (List ℕ)). All IsLine t) (sym text_later) (lines-at b.undo is.tree is.changes (tree_after_leg leg b.undo).current the_leg.within);
    tick = tick_later;
    marks = marks_now;
    settings = ap (λ (c : Content). c.marks.settings) go.content ∙ (kept-edits (leg_edits b.undo leg) b).1 ∙ is.settings;
    kept = kept_now_by;
    greatest = λ ns.
        ap (λ (c : Content). greatest_id c.marks.greatest ns) go.content
        ∙ ap (λ (g : List (ℕ × ℕ)). greatest_id g ns) (kept-edits (leg_edits b.undo leg) b).0
        ∙ is.greatest ns;
    tree = subst (λ (u : Undo (List Edit)). IsTree u) (sym undo_later) (gone_tree leg b.undo is.tree (next_parent b.undo leg go.next));
    undo = ap kept_undo undo_later ∙ gone_kept leg b.undo ∙ ap (tree_after_leg leg) is.undo;
    unsealed =
        ap (λ (c : Content). splices_of (text_at c.undo c.undo.current) c.unsealed) go.content
        ∙ ap (splices_of (text_at (tree_after_leg leg b.undo) (tree_after_leg leg b.undo).current)) go.closed
        ∙ sym (ap (splices_of (text_at b.undo b.undo.current)) go.closed)
        ∙ is.unsealed;
    since =
        ap (λ (c : Content). c.text) go.content
        ∙ sym (ap (fold lines_after (text_at (tree_after_leg leg b.undo) (tree_after_leg leg b.undo).current)) go.closed)
        ∙ sym (ap (λ (c : Content). fold lines_after (text_at c.undo c.undo.current) c.unsealed) go.content);
    edits =
        subst (λ (c : Content). AreEditsOf (text_at c.undo c.undo.current) c.unsealed) (sym go.content)
        (subst (λ (es : List Edit). AreEditsOf (text_at (tree_after_leg leg b.undo) (tree_after_leg leg b.undo).current) es) (sym go.closed) tt);
    parts =
        subst (λ (c : Content). AreNumbered (suc (last c.undo)) 0 c.unsealed) (sym go.content)
        (subst (λ (es : List Edit). AreNumbered (suc (last (tree_after_leg leg b.undo))) 0 es) (sym go.closed) tt);
    changes = subst (λ (u : Undo (List Edit)). (n : ℕ) (es : List Edit) → change_of u n ≡ Some es → IsChangeOf (text_at u (origin u n)) es)
        (sym undo_later) changes_later;
    numbered = subst (λ (u : Undo (List Edit)). (n : ℕ) (es : List Edit) → change_of u n ≡ Some es → AreNumbered n 0 es) (sym undo_later) numbered_later;
    name = ap (λ (c : Content). c.name) go.content ∙ is.name;
    modifiable = ap (λ (c : Content). c.modifiable) go.content ∙ is.modifiable;
    modified = ap (λ (c : Content). c.modified) go.content;
    listed = ap (λ (c : Content). c.listed) go.content ∙ is.listed;
    tabstop = ap (λ (c : Content). c.tabstop) go.content ∙ is.tabstop;
    valid = valid_later;
  }
    where
      numbered_later : (n : ℕ) (es : List Edit) → change_of (tree_after_leg leg b.undo) n ≡ Some es → AreNumbered n 0 es
      numbered_later n es here =
          is.numbered n es (sym (ap (option_map (λ (c : ℕ × List Edit). c.1)) (numbered_same (tree_after_leg leg b.undo) b.undo (gone_changes leg b.undo) n)) ∙ here)

      changes_later : (n : ℕ) (es : List Edit) → change_of (tree_after_leg leg b.undo) n ≡ Some es → IsChangeOf (text_at (tree_after_leg leg b.undo) (origin (tree_after_leg leg b.undo) n)) es
      changes_later n es here =
          let number = numbered_same (tree_after_leg leg b.undo) b.undo (gone_changes leg b.undo) n in
          let there : change_of b.undo n ≡ Some es = sym (ap (option_map (λ (c : ℕ × List Edit). c.1)) number) ∙ here in
          let from : origin (tree_after_leg leg b.undo) n ≡ origin b.undo n =
          ap (λ (o : Option (ℕ × List Edit)). unwrap_or (option_map (λ (c : ℕ × List Edit). c.0) o) 0) number in
          subst (λ (t : List (List ℕ)). IsChangeOf t es)
          (sym (text_at-same (tree_after_leg leg b.undo) b.undo (origin (tree_after_leg leg b.undo) n) (gone_changes leg b.undo) ∙ ap (text_at b.undo) from))
          (is.changes n es there)

  told_later : events_from b.tick (leg_edits b.undo leg) ≡ splice_events (text_of m) (tick_of m) (leg_splices m.first m.undo leg)
  told_later =
      told-edits (text_at b.undo b.undo.current) (leg_edits b.undo leg) b.tick (tick_of m) is.tick
      (subst (λ (t : List (List ℕ)). All IsLine t) now_at is.lines) the_leg.edits
      ∙ ap (λ (t : List (List ℕ)). splice_events (flat t) (tick_of m) (splices_of t (leg_edits b.undo leg))) (sym now_at)
      ∙ (λ i. splice_events (is.text i) (tick_of m) (edits_are i))

pub leg_is_kept : LegIsKept
leg_is_kept b later leg m go is =
    (subst (λ (x : ModelBuffer). StandsFor later x) (sym (final_is b later leg m go is)) (stands_later b later leg m go is), told_later b later leg m go is)
