-- A leg leads to the text that is kept, and an editor goes on standing for the model after it.
use Rattle.std.proofs.Common.{◌≡◌, ◌≢◌, ℕ, ℤ, List, [], ◌∷◌, ◌++◌, map, fold, refl, ap, sym, ◌∙◌, Bool, true, false, cond, subst, Option, Some}
use Rattle.std.specs.Prelude.{option_map, unwrap_or}
use Rattle.std.specs.Option.{option_map_or}
use Rattle.std.specs.Ordering.{int_eq}
use Rattle.std.proofs.lemmas.Bool.{both_ways}
use Rattle.nv_undo.specs.Tree.{Undo, numbered, parent_of, tree_after_leg}
use Rattle.nv_undo.specs.declared.legs.Leg.{Leg}
use Rattle.nv_undo.specs.declared.legs.Leg.TheVariants.{Back, Ahead}
use Rattle.nv_undo.proofs.NumberLemmas.{parent_some}
use Rattle.nv_buffer.specs.Content.{Content}
use Rattle.nv_model.specs.Buffers.{Splice, Kept, ModelBuffer, text_after, inverse_splices, text_of, kept_text, with_splice_back}
use Rattle.nv_model.specs.Undoing.{splices_at, leg_splices}
use Rattle.nv_model.specs.Stage.{stage_with_views}
use Rattle.nv_model.specs.Editors.{ModelEditor, at_handle, updated_at, handles_of}
use Rattle.nv_model.specs.Operations.{Operation, spliced_back, stepped, stage_spliced, with_spliced, with_buffer, after_operation, after_operations}
use Rattle.nv_model.specs.Standing.{IsValid, StandsFor, Both, Stands}
use Rattle.nv_model.specs.Keeping.{with_leg, LegLeadsToKept, EditorLegIsKept}
use Rattle.nv_model.proofs.Lookups.{same_int, int_eq-itself, at_updated, handles-updated}
use Rattle.nv_model.proofs.Telling.{fold-append, inverses_take_back}
use Rattle.nv_model.proofs.Legs.{edits_are, leg_is_kept}

-- ---- a buffer of the model after splices of no open change
abbrev back : ModelBuffer → Splice → ModelBuffer
back b s = with_splice_back s b

text-back : (ss : List Splice) (m : ModelBuffer) → text_of (fold back m ss) ≡ fold text_after (text_of m) ss
text-back [] m = refl
text-back (s ∷ ss) m = text-back ss (with_splice_back s m) ∙ ap (λ (t : List ℕ). fold text_after t ss) (text-once s m)
  where
    text-once : (s : Splice) (m : ModelBuffer) → text_of (with_splice_back s m) ≡ text_after (text_of m) s
    text-once s m = unfold text_of in fold-append text_after m.first m.splices (s ∷ [])

undo-back : (ss : List Splice) (m : ModelBuffer) → (fold back m ss).undo ≡ m.undo
undo-back [] m = refl
undo-back (s ∷ ss) m = undo-back ss (with_splice_back s m)

text-undo : (m : ModelBuffer) (undo : Undo Kept) → text_of (record m { undo = undo }) ≡ text_of m
unfolding text_of
text-undo m undo = refl

text-leg : (leg : Leg) (m : ModelBuffer) → text_of (with_leg leg m) ≡ fold text_after (text_of m) (leg_splices m.first m.undo leg)
text-leg leg m =
    text-undo (fold back m (leg_splices m.first m.undo leg)) (tree_after_leg leg m.undo) ∙ text-back (leg_splices m.first m.undo leg) m

-- the text now is the kept one
now_kept : (m : ModelBuffer) → IsValid m → m.unsealed ≡ [] → text_of m ≡ kept_text m.first m.undo m.undo.current
now_kept m is none = sym is.since.makes ∙ ap (fold text_after (kept_text m.first m.undo m.undo.current)) none

-- a change, found at its number
record IsFound (m : ModelBuffer) (n : ℕ) (c : ℕ × Kept) : Type 0 where
  splices : splices_at m.undo n ≡ c.1.splices
  text : kept_text m.first m.undo n ≡ c.1.text
  parent : unwrap_or (parent_of m.undo n) 0 ≡ c.0

found : (m : ModelBuffer) (n : ℕ) (c : ℕ × Kept) → numbered m.undo n ≡ Some c → IsFound m n c
found m n c here = record {
  splices = ap (λ (o : Option (ℕ × Kept)). option_map_or (λ (k : Kept). k.splices) (option_map (λ (d : ℕ × Kept). d.1) o) []) here;
  text = ap (λ (o : Option (ℕ × Kept)). option_map_or (λ (k : Kept). k.text) (option_map (λ (d : ℕ × Kept). d.1) o) m.first) here;
  parent = ap (λ (o : Option (ℕ × Kept)). unwrap_or (option_map (λ (d : ℕ × Kept). d.0) o) 0) here;
}

leads_back : (m : ModelBuffer) → IsValid m → m.unsealed ≡ [] → (c : ℕ × Kept) → numbered m.undo m.undo.current ≡ Some c
    → text_of (with_leg (Back m.undo.current) m) ≡ kept_text m.first m.undo c.0
leads_back m is none c here =
    let at = found m m.undo.current c here in
    let lead = is.changes m.undo.current c here in
    let now : text_of m ≡ fold text_after (kept_text m.first m.undo c.0) c.1.splices = now_kept m is none ∙ at.text ∙ sym lead.makes in
    text-leg (Back m.undo.current) m
    ∙ (λ i. fold text_after (now i) (inverse_splices (kept_text m.first m.undo (at.parent i)) (at.splices i)))
    ∙ inverses_take_back (kept_text m.first m.undo c.0) c.1.splices lead.within

leads_ahead : (m : ModelBuffer) → IsValid m → m.unsealed ≡ [] → (n : ℕ) (c : ℕ × Kept) → numbered m.undo n ≡ Some c → c.0 ≡ m.undo.current
    → text_of (with_leg (Ahead n) m) ≡ kept_text m.first m.undo n
leads_ahead m is none n c here parent =
    let at = found m n c here in
    let lead = is.changes n c here in
    text-leg (Ahead n) m
    ∙ (λ i. fold text_after ((now_kept m is none ∙ ap (kept_text m.first m.undo) (sym parent)) i) (at.splices i))
    ∙ lead.makes
    ∙ sym at.text

pub leg_leads_to_kept : LegLeadsToKept
leg_leads_to_kept (Back k) n m is none leads =
    let here = parent_some m.undo k leads.0 leads.2 in
    subst (λ (j : ℕ). text_of (with_leg (Back j) m) ≡ kept_text m.first m.undo n) (sym leads.1)
    (leads_back m is none here.0 (ap (numbered m.undo) (sym leads.1) ∙ here.1) ∙ ap (kept_text m.first m.undo) (here.2 ∙ leads.3))
leg_leads_to_kept (Ahead k) n m is none leads =
    let here = parent_some m.undo k m.undo.current leads.0 in
    leads_ahead m is none k here.0 here.1 here.2 ∙ ap (kept_text m.first m.undo) leads.1

-- ---- the editor of the model after splices of no open change
record IsRun (m later : ModelEditor) (n : ℤ) (x : ModelBuffer) (ss : List Splice) : Type 0 where
  here : at_handle later.buffers n ≡ Some (fold back x ss)
  others : (k : ℤ) → int_eq n k ≡ false → at_handle later.buffers k ≡ at_handle m.buffers k
  handles : handles_of later.buffers ≡ handles_of m.buffers
  stage : later.stage ≡ stage_with_views n (text_of x) ss m.stage

run_back : (ss : List Splice) (m : ModelEditor) (n : ℤ) (x : ModelBuffer) → at_handle m.buffers n ≡ Some x
    → IsRun m (after_operations (map (spliced_back n) ss) m) n x ss
run_back [] m n x there = record { here = there; others = λ k apart. refl; handles = refl; stage = refl }
run_back (s ∷ ss) m n x there =
    let once : ModelEditor = with_spliced n s with_splice_back m in
    let at : at_handle once.buffers n ≡ Some (with_splice_back s x) =
    at_updated n n (with_splice_back s) m.buffers
    ∙ ap (λ (t : Bool). cond t (option_map (with_splice_back s) (at_handle m.buffers n)) (at_handle m.buffers n)) (int_eq-itself n)
    ∙ ap (option_map (with_splice_back s)) there in
    let rest = run_back ss once n (with_splice_back s x) at in
    let stage : once.stage ≡ stage_with_views n (text_of x) (s ∷ []) m.stage =
    ap (λ (o : Option ModelBuffer). stage_spliced n s o m.stage) there in
    let text : text_of (with_splice_back s x) ≡ text_after (text_of x) s = text-back (s ∷ []) x in
    record {
      here = rest.here;
      others = λ k apart.
          rest.others k apart
          ∙ at_updated n k (with_splice_back s) m.buffers
          ∙ ap (λ (t : Bool). cond t (option_map (with_splice_back s) (at_handle m.buffers k)) (at_handle m.buffers k)) apart;
      handles = rest.handles ∙ handles-updated n (with_splice_back s) m.buffers;
      stage = rest.stage ∙ (λ i. stage_with_views n (text i) ss (stage i));
    }

pub all-append : (cs ds : List Operation) (m : ModelEditor) → after_operations (cs ++ ds) m ≡ after_operations ds (after_operations cs m)
all-append [] ds m = refl
all-append (c ∷ cs) ds m = all-append cs ds (after_operation c m)

-- after the splices of a leg, and the step in the tree
abbrev run_through : ℤ → Leg → ModelBuffer → ModelEditor → ModelEditor
run_through n leg x m = after_operations (map (spliced_back n) (leg_splices x.first x.undo leg)) m

abbrev stepped_by : Leg → ModelBuffer → ModelBuffer
stepped_by leg y = record y { undo = tree_after_leg leg y.undo }

pub editor_leg_is_kept : EditorLegIsKept
editor_leg_is_kept before later n b c leg m x is go stage there stands =
    subst (λ (e : ModelEditor). Stands later e) (sym (all-append (map (spliced_back n) (leg_splices x.first x.undo leg)) (stepped n leg ∷ []) m)) at_end
  where
    stands_x : StandsFor b x
    stands_x =
        subst (λ (p : Option ModelBuffer). Both StandsFor (Some b) p) there
        (subst (λ (o : Option Content). Both StandsFor o (at_handle m.buffers n)) is.was (stands.buffers n))

    run : IsRun m (run_through n leg x m) n x (leg_splices x.first x.undo leg)
    run = run_back (leg_splices x.first x.undo leg) m n x there

    at_n : at_handle (updated_at n (stepped_by leg) (run_through n leg x m).buffers) n ≡ Some (with_leg leg x)
    at_n =
        at_updated n n (stepped_by leg) _
        ∙ ap (λ (t : Bool). cond t (option_map (stepped_by leg) (at_handle (run_through n leg x m).buffers n)) (at_handle (run_through n leg x m).buffers n)) (int_eq-itself n)
        ∙ ap (option_map (stepped_by leg)) run.here
        ∙ ap (λ (u : Undo Kept). Some (record (fold back x (leg_splices x.first x.undo leg)) { undo = tree_after_leg leg u })) (undo-back (leg_splices x.first x.undo leg) x)

    at_end : Stands later (with_buffer n (stepped_by leg) (run_through n leg x m))
    at_end = record {
      buffers = λ k. by_case k (int_eq n k) refl;
      handles = is.handles ∙ stands.handles ∙ sym run.handles ∙ sym (handles-updated n _ (run_through n leg x m).buffers);
      stage =
          stage
          ∙ (λ i. stage_with_views n (stands_x.text i) (edits_are b c leg x go stands_x i) (stands.stage i))
          ∙ sym run.stage;
    }
      where
        by_case : (k : ℤ) (t : Bool) → int_eq n k ≡ t
            → Both StandsFor (at_handle later.buffers k) (at_handle (updated_at n (stepped_by leg) (run_through n leg x m).buffers) k)
        by_case k true same =
            subst (λ (j : ℤ). Both StandsFor (at_handle later.buffers j) (at_handle (updated_at n (stepped_by leg) (run_through n leg x m).buffers) j)) (same_int n k same)
            (subst (λ (o : Option Content). Both StandsFor o (at_handle (updated_at n (stepped_by leg) (run_through n leg x m).buffers) n)) (sym is.becomes)
            (subst (λ (p : Option ModelBuffer). Both StandsFor (Some c) p) (sym at_n) (leg_is_kept b c leg x go stands_x).0))
        by_case k false apart =
            subst (λ (o : Option Content). Both StandsFor o (at_handle (updated_at n (stepped_by leg) (run_through n leg x m).buffers) k)) (sym (is.others k other))
            (subst (λ (p : Option ModelBuffer). Both StandsFor (at_handle before.buffers k) p)
            (sym (at_updated n k _ (run_through n leg x m).buffers
            ∙ ap (λ (t : Bool). cond t (option_map (stepped_by leg) (at_handle (run_through n leg x m).buffers k)) (at_handle (run_through n leg x m).buffers k)) apart
            ∙ run.others k apart))
            (stands.buffers k))
          where
            other : k ≢ n
            other e = both_ways (int_eq n k) apart (subst (λ (j : ℤ). int_eq n j ≡ true) (sym e) (int_eq-itself n))
