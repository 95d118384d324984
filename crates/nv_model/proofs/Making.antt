-- What rows make and tell, by the words that they are written with; and from kinds to what holds of
-- answers.
use Rattle.std.proofs.Common.{◌≡◌, ◌∙◌, inl, inr, refl, ap, ℤ, Bool, true, false, ◌&&◌, List, [], ◌∷◌, ◌++◌, Option, Some}
use Rattle.std.specs.Prelude.{flat_map, if◌then◌else◌}
use Rattle.std.specs.List.{AllByRecursion, list_all}
use Rattle.std.proofs.lemmas.Bool.{false≢true}
use Rattle.nv_value.specs.Content.{Tree}
use Rattle.nv_value.specs.declared.fault.ApiFault.{ApiFault}
use Rattle.nv_windows.specs.Workspace.{Page}
use Rattle.nv_windows.specs.declared.window.Window.{Window}
use Rattle.nv_model.specs.Seen.{Seen, SeenBuffer}
use Rattle.nv_model.specs.Operations.{Operation, spliced, spliced_back}
use Rattle.nv_model.specs.Answers.{Answer, Fact, edited, refused, replied, unless, or_refused, on_buffer, on_window, on_tabpage}
use Rattle.nv_model.specs.Answering.{fault_or, reply_of}
use Rattle.nv_model.specs.Laws.{splices_in}
use Rattle.nv_model.specs.Rows.{Row, RowTells, TellsSplices, edits_in}
use Rattle.nv_model.specs.Kinds.{OperationKind, splices, undoes_changes, FactKind, splicings, Effects, IsKindAmong, AreMade, AreTold, MakesOnly, HasEffects, kind_of_operation, kind_of_fact}
use Rattle.nv_model.proofs.AnswersTell.{chosen, keeps_unless, keeps_or_refused, keeps_barred, tells_none, tells_fault}

-- ---- the words that rows are made of

makes_fault : (e : Effects) (f : ApiFault) → MakesOnly e (refused f)
unfolding MakesOnly
makes_fault e f = tt

pub makes_all : (e : Effects) (t : Tree) (operations : List Operation) (facts : List Fact) → AreMade e operations → AreTold e facts
    → MakesOnly e (replied t operations facts)
unfolding MakesOnly
makes_all e t operations facts made told = (made, told)

pub makes_done : (e : Effects) (t : Tree) (operations : List Operation) → AreMade e operations → MakesOnly e (replied t operations [])
makes_done e t operations made = makes_all e t operations [] made tt

pub makes_one : (e : Effects) (t : Tree) (c : Operation) → IsKindAmong (kind_of_operation c) e.makes → MakesOnly e (replied t (c ∷ []) [])
makes_one e t c is = makes_done e t (c ∷ []) (is, tt)

pub makes_answers : (e : Effects) (t : Tree) → MakesOnly e (reply_of t)
makes_answers e t = makes_done e t [] tt

pub makes_unless : (e : Effects) (fs : List (Bool × ApiFault)) (a : Answer) → MakesOnly e a → MakesOnly e (unless fs a)
makes_unless e fs a = keeps_unless (MakesOnly e) (makes_fault e) fs a

pub makes_barred : (e : Effects) (o : Option ApiFault) (a : Answer) → MakesOnly e a → MakesOnly e (fault_or o a)
makes_barred e o a = keeps_barred (MakesOnly e) (makes_fault e) o a

pub makes_found : (A : Type 0) (e : Effects) (o : Option A) (f : ApiFault) (next : A → Answer) → ((a : A) → o ≡ Some a → MakesOnly e (next a))
    → MakesOnly e (or_refused o f next)
makes_found A e o f next h = keeps_or_refused (MakesOnly e) (makes_fault e) o f next h

pub makes_on_buffer : (e : Effects) (s : Seen) (n : ℤ) (next : ℤ → SeenBuffer → Answer) → ((k : ℤ) (b : SeenBuffer) → MakesOnly e (next k b))
    → MakesOnly e (on_buffer s n next)
makes_on_buffer e s n next h = keeps_or_refused (MakesOnly e) (makes_fault e) _ _ _ (λ b is. h _ b)

pub makes_on_window : (e : Effects) (s : Seen) (n : ℤ) (next : Window → Answer) → ((w : Window) → MakesOnly e (next w)) → MakesOnly e (on_window s n next)
makes_on_window e s n next h = makes_found Window e _ _ next (λ w is. h w)

pub makes_on_tabpage : (e : Effects) (s : Seen) (n : ℤ) (next : Page → Answer) → ((t : Page) → MakesOnly e (next t)) → MakesOnly e (on_tabpage s n next)
makes_on_tabpage e s n next h = makes_found Page e _ _ next (λ t is. h t)

pub makes_either : (e : Effects) (b : Bool) (x y : Answer) → MakesOnly e x → MakesOnly e y → MakesOnly e (if b then x else y)
makes_either e b x y p q = chosen (MakesOnly e) b x y p q

pub ruleset making_words = (makes_on_buffer, makes_on_window, makes_on_tabpage, makes_found, makes_unless, makes_barred, makes_answers)

pub made-append : (e : Effects) (cs ds : List Operation) → AreMade e cs → AreMade e ds → AreMade e (cs ++ ds)
made-append e [] ds are more = more
made-append e (c ∷ cs) ds are more = (are.0, made-append e cs ds are.1 more)

-- ---- from kinds to what holds of each operation, and of each fact

first-of : (a b : Bool) → (a && b) ≡ true → a ≡ true
first-of true b e = refl
first-of false b e = e

second-of : (a b : Bool) → (a && b) ≡ true → b ≡ true
second-of true b e = e
second-of false b e = absurd (false≢true e)

-- what is one of some kinds that pass a test passes it
passes_among : {K : Type 0} (p : K → Bool) (k : K) (ks : List K) → IsKindAmong k ks → list_all p ks ≡ true → p k ≡ true
passes_among p k [] is all = absurd is
passes_among p k (j ∷ js) (inl e) all = ap p e ∙ first-of (p j) (list_all p js) all
passes_among p k (j ∷ js) (inr is) all = passes_among p k js is (second-of (p j) (list_all p js) all)

-- what holds of each thing whose kind passes a test holds of things of kinds that do
pub by_kinds : {X K : Type 0} (kind : X → K) (p : K → Bool) (Q : X → Type 0) → ((x : X) → p (kind x) ≡ true → Q x)
    → (ks : List K) → list_all p ks ≡ true → (xs : List X) → AllByRecursion (λ x. IsKindAmong (kind x) ks) xs → AllByRecursion Q xs
by_kinds kind p Q each ks all [] are = tt
by_kinds kind p Q each ks all (x ∷ xs) are =
    (each x (passes_among p (kind x) ks are.0 all), by_kinds kind p Q each ks all xs are.1)

-- nothing is told where no kind of fact is
pub none_told : (facts : List Fact) → AllByRecursion (λ f. IsKindAmong (kind_of_fact f) []) facts → facts ≡ []
none_told [] are = refl
none_told (f ∷ facts) are = absurd are.0

-- ---- rows that make no splice, and tell of none

abbrev pub splices_nothing : OperationKind → Bool
splices_nothing splices = false
splices_nothing undoes_changes = false
splices_nothing _ = true

abbrev pub tells_no_splice : FactKind → Bool
tells_no_splice splicings = false
tells_no_splice _ = true

none_spliced : (k : ℤ) (c : Operation) → splices_nothing (kind_of_operation c) ≡ true → splices_in k c ≡ []
none_spliced k (spliced n s) e = absurd (false≢true e)
none_spliced k (spliced_back n s) e = absurd (false≢true e)
none_spliced k c e = refl

none_edited : (k : ℤ) (f : Fact) → tells_no_splice (kind_of_fact f) ≡ true → edits_in k f ≡ []
none_edited k (edited n event) e = absurd (false≢true e)
none_edited k f e = refl

pub none_among : {X Y : Type 0} (g : X → List Y) (xs : List X) → AllByRecursion (λ x. g x ≡ []) xs → flat_map g xs ≡ []
none_among g [] are = refl
none_among {X} {Y} g (x ∷ xs) are = ap (λ (ys : List Y). ys ++ flat_map g xs) are.0 ∙ none_among g xs are.1

abbrev pub makes_no_splice : Effects → Bool
makes_no_splice e = list_all splices_nothing e.makes && list_all tells_no_splice e.tells

pub silent_parts : (e : Effects) → makes_no_splice e ≡ true → (list_all splices_nothing e.makes ≡ true) × (list_all tells_no_splice e.tells ≡ true)
silent_parts e silent = (
  first-of (list_all splices_nothing e.makes) (list_all tells_no_splice e.tells) silent,
  second-of (list_all splices_nothing e.makes) (list_all tells_no_splice e.tells) silent,
)

untold : (e : Effects) (s : Seen) (a : Answer) → makes_no_splice e ≡ true → MakesOnly e a → TellsSplices s a
unfolding MakesOnly
untold e s (refused f) silent h = tells_fault s f
untold e s (replied t operations facts) silent h =
    tells_none s t operations facts
    (λ k. none_among (splices_in k) operations
    (by_kinds kind_of_operation splices_nothing (λ c. splices_in k c ≡ []) (none_spliced k) e.makes (silent_parts e silent).0 operations h.0))
    (λ k. none_among (edits_in k) facts
    (by_kinds kind_of_fact tells_no_splice (λ f. edits_in k f ≡ []) (none_edited k) e.tells (silent_parts e silent).1 facts h.1))

-- so they tell just their splices
pub silent_tells : (e : Effects) (row : Row) → makes_no_splice e ≡ true → HasEffects e row → RowTells row
silent_tells e row silent h s session args = untold e s (row s session args) silent (h s session args)
