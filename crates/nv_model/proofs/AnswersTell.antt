-- What answers of rows tell: the events of their splices.
use Rattle.std.proofs.Common.{◌≡◌, ◌∙◌, refl, sym, ap, subst, ℕ, ℤ, Bool, true, false, List, [], ◌∷◌, ◌++◌, map, append-nil, Option, Some, None}
use Rattle.std.specs.Prelude.{flat_map, if◌then◌else◌}
use Rattle.std.specs.Ordering.{int_eq}
use Rattle.std.proofs.lemmas.Bool.Decides.{Decides-int_eq}
use Rattle.std.proofs.lemmas.List.Concat.{flat_map-append}
use Rattle.nv_places.specs.Flat.{flat}
use Rattle.nv_value.specs.Content.{Tree, nil}
use Rattle.nv_value.specs.declared.fault.ApiFault.{ApiFault}
use Rattle.nv_buffer.specs.declared.buffer.Spliced.{Spliced}
use Rattle.nv_undo.specs.Tree.{Undo}
use Rattle.nv_undo.specs.declared.legs.Leg.{Leg}
use Rattle.nv_model.specs.Buffers.{Splice, Kept, is_empty_splice, splice_events}
use Rattle.nv_model.specs.Undoing.{leg_splices, legs_splices}
use Rattle.nv_model.specs.Seen.{Seen, SeenBuffer, sealed_undo}
use Rattle.nv_model.specs.Operations.{Operation, spliced, spliced_back, stepped}
use Rattle.nv_model.specs.Answers.{Answer, Fact, refused, replied, edited, unless, or_refused, on_buffer, edits, leg_operations, undo_operations, undo_splices}
use Rattle.nv_model.specs.Laws.{splices_in, splices_among}
use Rattle.nv_model.specs.Answering.{fault_or, reply_of, event_of_splice, splice_answer}
use Rattle.nv_model.specs.Rows.{edits_among, text_seen, tick_seen, TellsSplices}

-- ---- the words that rows are made of keep what is said of each fault and of the answer

pub chosen : (Q : Answer → Type 0) (b : Bool) (x y : Answer) → Q x → Q y → Q (if b then x else y)
chosen Q true x y p q = p
chosen Q false x y p q = q

pub keeps_unless :
    (Q : Answer → Type 0) → ((f : ApiFault) → Q (refused f)) → (fs : List (Bool × ApiFault)) (a : Answer) → Q a → Q (unless fs a)
keeps_unless Q r [] a q = q
keeps_unless Q r (f ∷ fs) a q = chosen Q f.0 (refused f.1) (unless fs a) (r f.1) (keeps_unless Q r fs a q)

pub keeps_or_refused :
    {A : Type 0} (Q : Answer → Type 0) → ((f : ApiFault) → Q (refused f)) → (o : Option A) (f : ApiFault) (next : A → Answer)
    → ((a : A) → o ≡ Some a → Q (next a)) → Q (or_refused o f next)
keeps_or_refused Q r None f next h = r f
keeps_or_refused Q r (Some a) f next h = h a refl

pub keeps_barred :
    (Q : Answer → Type 0) → ((f : ApiFault) → Q (refused f)) → (o : Option ApiFault) (a : Answer) → Q a → Q (fault_or o a)
keeps_barred Q r None a q = q
keeps_barred Q r (Some f) a q = r f

-- ---- splices of one buffer, and what is told of them

-- some, where a test holds
abbrev where_true : {A : Type 0} → Bool → List A → List A
where_true b xs = if b then xs else []

where_true-cons : {A : Type 0} (b : Bool) (x : A) (xs : List A) → where_true b (x ∷ []) ++ where_true b xs ≡ where_true b (x ∷ xs)
where_true-cons true x xs = refl
where_true-cons false x xs = refl

where_true-append : {A : Type 0} (b : Bool) (xs ys : List A) → where_true b xs ++ where_true b ys ≡ where_true b (xs ++ ys)
where_true-append true xs ys = refl
where_true-append false xs ys = refl

where_true-none : {A : Type 0} (b : Bool) → where_true {A = A} b [] ≡ []
where_true-none true = refl
where_true-none false = refl

among-splices_back : (n k : ℤ) (ss : List Splice) → splices_among k (map (spliced_back n) ss) ≡ where_true (int_eq n k) ss
among-splices_back n k [] = sym (where_true-none (int_eq n k))
among-splices_back n k (s ∷ ss) =
    ap (λ (l : List Splice). where_true (int_eq n k) (s ∷ []) ++ l) (among-splices_back n k ss) ∙ where_true-cons (int_eq n k) s ss

among-edited : (n k : ℤ) (es : List Spliced) → edits_among k (map (edited n) es) ≡ where_true (int_eq n k) es
among-edited n k [] = sym (where_true-none (int_eq n k))
among-edited n k (e ∷ es) =
    ap (λ (l : List Spliced). where_true (int_eq n k) (e ∷ []) ++ l) (among-edited n k es) ∙ where_true-cons (int_eq n k) e es

among-leg : (n k : ℤ) (first : List ℕ) (undo : Undo Kept) (leg : Leg) → splices_among k (leg_operations n first undo leg) ≡ where_true (int_eq n k) (leg_splices first undo leg)
among-leg n k first undo leg =
    flat_map-append (splices_in k) (map (spliced_back n) (leg_splices first undo leg)) (stepped n leg ∷ [])
    ∙ append-nil (splices_among k (map (spliced_back n) (leg_splices first undo leg)))
    ∙ among-splices_back n k (leg_splices first undo leg)

among-legs :
    (n k : ℤ) (first : List ℕ) (undo : Undo Kept) (legs : List Leg)
    → splices_among k (flat_map (leg_operations n first undo) legs) ≡ where_true (int_eq n k) (legs_splices first undo legs)
among-legs n k first undo [] = sym (where_true-none (int_eq n k))
among-legs n k first undo (leg ∷ legs) =
    flat_map-append (splices_in k) (leg_operations n first undo leg) (flat_map (leg_operations n first undo) legs)
    ∙ ap (λ (l : List Splice). l ++ splices_among k (flat_map (leg_operations n first undo) legs)) (among-leg n k first undo leg)
    ∙ ap (λ (l : List Splice). where_true (int_eq n k) (leg_splices first undo leg) ++ l) (among-legs n k first undo legs)
    ∙ where_true-append (int_eq n k) (leg_splices first undo leg) (legs_splices first undo legs)

-- what is told of splices of one buffer, seen from any buffer
told_in :
    (s : Seen) (n k : ℤ) (b : SeenBuffer) (ss : List Splice) (c : Bool) → s.buffer n ≡ Some b → int_eq n k ≡ c
    → where_true c (splice_events (flat b.lines) b.tick ss) ≡ splice_events (text_seen s k) (tick_seen s k) (where_true c ss)
told_in s n k b ss false is e = refl
told_in s n k b ss true is e =
    subst (λ (k : ℤ). splice_events (flat b.lines) b.tick ss ≡ splice_events (text_seen s k) (tick_seen s k) ss) ((Decides-int_eq n k).0 e) (rw is refl)

-- operations that make some splices in one buffer alone, told by their events
pub tells_edits :
    (s : Seen) (n : ℤ) (b : SeenBuffer) (ss : List Splice) (t : Tree) (operations : List Operation) → s.buffer n ≡ Some b
    → ((k : ℤ) → splices_among k operations ≡ where_true (int_eq n k) ss) → TellsSplices s (replied t operations (edits n b ss))
unfolding TellsSplices
tells_edits s n b ss t operations is made k =
    among-edited n k (splice_events (flat b.lines) b.tick ss)
    ∙ told_in s n k b ss (int_eq n k) is refl
    ∙ ap (splice_events (text_seen s k) (tick_seen s k)) (sym (made k))

-- operations that make no splice, and facts that tell of none
pub tells_none :
    (s : Seen) (t : Tree) (operations : List Operation) (facts : List Fact)
    → ((k : ℤ) → splices_among k operations ≡ []) → ((k : ℤ) → edits_among k facts ≡ []) → TellsSplices s (replied t operations facts)
unfolding TellsSplices
tells_none s t operations facts none untold k = untold k ∙ ap (splice_events (text_seen s k) (tick_seen s k)) (sym (none k))

pub tells_fault : (s : Seen) (f : ApiFault) → TellsSplices s (refused f)
unfolding TellsSplices
tells_fault s f = tt

pub tells_splice : (s : Seen) (n : ℤ) (b : SeenBuffer) (p : Splice) → s.buffer n ≡ Some b → TellsSplices s (splice_answer n b p)
tells_splice s n b p is =
    chosen (TellsSplices s) (is_empty_splice p) (reply_of nil) (replied nil (spliced n p ∷ []) (edited n (event_of_splice b p) ∷ []))
    (tells_none s nil [] [] (λ k. refl) (λ k. refl))
    (tells_edits s n b (p ∷ []) nil (spliced n p ∷ []) is (λ k. append-nil (where_true (int_eq n k) (p ∷ []))))

-- ---- what is told by the words that rows are made of

pub tells_answers : (s : Seen) (t : Tree) → TellsSplices s (reply_of t)
tells_answers s t = tells_none s t [] [] (λ k. refl) (λ k. refl)

pub tells_unless : (s : Seen) (fs : List (Bool × ApiFault)) (a : Answer) → TellsSplices s a → TellsSplices s (unless fs a)
tells_unless s fs a = keeps_unless (TellsSplices s) (tells_fault s) fs a

pub tells_barred : (s : Seen) (o : Option ApiFault) (a : Answer) → TellsSplices s a → TellsSplices s (fault_or o a)
tells_barred s o a = keeps_barred (TellsSplices s) (tells_fault s) o a

pub tells_found :
    (A : Type 0) (s : Seen) (o : Option A) (f : ApiFault) (next : A → Answer) → ((a : A) → o ≡ Some a → TellsSplices s (next a))
    → TellsSplices s (or_refused o f next)
tells_found A s o f next h = keeps_or_refused (TellsSplices s) (tells_fault s) o f next h

pub tells_on_buffer :
    (s : Seen) (n : ℤ) (next : ℤ → SeenBuffer → Answer) → ((k : ℤ) (b : SeenBuffer) → s.buffer k ≡ Some b → TellsSplices s (next k b))
    → TellsSplices s (on_buffer s n next)
tells_on_buffer s n next h = keeps_or_refused (TellsSplices s) (tells_fault s) _ _ _ (λ b is. h _ b is)

pub made_by_legs :
    (s : Seen) (n : ℤ) (b : SeenBuffer) (legs : List Leg) → s.buffer n ≡ Some b
    → TellsSplices s (replied nil (undo_operations n b legs) (edits n b (undo_splices b legs)))
made_by_legs s n b legs is =
    tells_edits s n b (undo_splices b legs) nil (undo_operations n b legs) is (λ k. among-legs n k b.first (sealed_undo b) legs)
