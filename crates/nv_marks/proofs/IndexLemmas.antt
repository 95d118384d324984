-- The names in an index.
use Rattle.std.proofs.Common.{◌≡◌, ◌∙◌, ◌≤◌, refl, ap, sym, ℕ, zero, suc, List, [], ◌∷◌, ◌++◌, take, Bool, true, false, not, ◌&&◌, ◌||◌, cond, eqb, arith, Option, Some, None}
use Rattle.std.specs.Prelude.{IsSome, filter, is_some, option_map}
use Rattle.std.specs.Ordering.{is_gt, is_lt}
use Rattle.std.proofs.lemmas.Bool.{both_ways}
use Rattle.std.proofs.lemmas.List.{append-nil}
use Rattle.nv_places.specs.Places.{is_before}
use Rattle.nv_marks.specs.Queries.{is_meant, is_selected, stops_from}
use Rattle.nv_marks.specs.declared.query.Query.{Query}
use Rattle.std.specs.BTreeMap.{BTreeMap, get, is_at, keys}
use Rattle.std.specs.Map.{keys_of}
use Rattle.std.proofs.lemmas.Map.Made.{is_some-lookup}
use Rattle.std.proofs.lemmas.Grind.{common_steps}
use Rattle.std.proofs.lemmas.Bool.Decides.{nat_tests}
use Rattle.std.specs.declared.cmp.Reverse.{Reverse}
use Rattle.nv_marks.specs.Marks.{is_named, mark_at, without}
use Rattle.nv_marks.specs.declared.extmark.Mark.{Mark}
use Rattle.nv_marks.specs.declared.index.Home.{Home}
use Rattle.nv_marks.specs.inside.Chunks.{Piece, spread_records}
use Rattle.nv_marks.specs.inside.Records.{ForEach, marks_among}
use Rattle.nv_marks.specs.inside.Names.{name_of, name_order, is_indexed, is_one_name, IsIndexOf}

one_name : (ns id n i : ℕ) → is_at (name_order (name_of ns id)) (name_of n i) ≡ is_one_name ns id n i
one_name ns id n i = grind (arith, common_steps, nat_tests)

-- a map has a name as its keys do
pub known : (m : BTreeMap (ℕ × Reverse ℕ) Home) (ns id : ℕ) → is_some (get name_order m (name_of ns id)) ≡ is_indexed (keys m) ns id
known m ns id = is_some-lookup (is_at (name_order (name_of ns id))) m.entries

pub entered : (m n : BTreeMap (ℕ × Reverse ℕ) Home) (ns id : ℕ) (v : Home)
    → ((q : ℕ × Reverse ℕ) → get name_order n q ≡ cond (is_at (name_order (name_of ns id)) q) (Some v) (get name_order m q))
    → (a i : ℕ) → is_indexed (keys n) a i ≡ (is_one_name ns id a i || is_indexed (keys m) a i)
entered m n ns id v step a i =
    sym (known n a i) ∙ ap is_some (step (name_of a i)) ∙ by_case (is_at (name_order (name_of ns id)) (name_of a i)) (get name_order m (name_of a i))
    ∙ ap (λ (b : Bool). b || is_some (get name_order m (name_of a i))) (one_name ns id a i)
    ∙ ap (λ (b : Bool). is_one_name ns id a i || b) (known m a i)
  where
    by_case : (b : Bool) (o : Option Home) → is_some (cond b (Some v) o) ≡ (b || is_some o)
    by_case true o = refl
    by_case false o = refl

pub forgotten : (m n : BTreeMap (ℕ × Reverse ℕ) Home) (ns id : ℕ)
    → ((q : ℕ × Reverse ℕ) → get name_order n q ≡ cond (is_at (name_order (name_of ns id)) q) None (get name_order m q))
    → (a i : ℕ) → is_indexed (keys n) a i ≡ (not (is_one_name ns id a i) && is_indexed (keys m) a i)
forgotten m n ns id step a i =
    sym (known n a i) ∙ ap is_some (step (name_of a i)) ∙ by_case (is_at (name_order (name_of ns id)) (name_of a i)) (get name_order m (name_of a i))
    ∙ ap (λ (b : Bool). not b && is_some (get name_order m (name_of a i))) (one_name ns id a i)
    ∙ ap (λ (b : Bool). not (is_one_name ns id a i) && b) (known m a i)
  where
    by_case : (b : Bool) (o : Option Home) → is_some (cond b None o) ≡ (not b && is_some o)
    by_case true o = refl
    by_case false o = refl

-- what one name says of another is by the two alone
pub no_mark : (names : List (ℕ × Reverse ℕ)) (marks : List Mark) (ns id : ℕ) → IsIndexOf names marks → false ≡ is_indexed names ns id → mark_at marks ns id ≡ None
no_mark names marks ns id index none = by_case (mark_at marks ns id) (none ∙ index ns id)
  where
    by_case : (o : Option Mark) → false ≡ is_some o → o ≡ None
    by_case None is = refl
    by_case (Some m) is = absurd cc

-- ---- the index of other marks
pub index_none : (names : List (ℕ × Reverse ℕ)) (ps : List Piece) → names ≡ [] → ps ≡ [] → IsIndexOf names (marks_among (spread_records ps))
index_none names ps none empty ns id =
    ap (λ (l : List (ℕ × Reverse ℕ)). is_indexed l ns id) none ∙ sym (ap (λ (l : List Piece). is_some (mark_at (marks_among (spread_records l)) ns id)) empty)

pub index_moved : (names : List (ℕ × Reverse ℕ)) (old new : List Mark) (f : Mark → Mark) → ((ns id : ℕ) → mark_at new ns id ≡ option_map f (mark_at old ns id))
    → IsIndexOf names old → IsIndexOf names new
index_moved names old new f found index ns id = index ns id ∙ by_case (mark_at old ns id) ∙ ap is_some (sym (found ns id))
  where
    by_case : (o : Option Mark) → is_some o ≡ is_some (option_map f o)
    by_case None = refl
    by_case (Some m) = refl

pub index_with : (names more : List (ℕ × Reverse ℕ)) (old new : List Mark) (m : Mark)
    → ((n i : ℕ) → is_indexed more n i ≡ (is_one_name m.ns m.id n i || is_indexed names n i))
    → ((ns id : ℕ) → mark_at new ns id ≡ cond (is_named ns id m) (Some m) (mark_at old ns id))
    → IsIndexOf names old → IsIndexOf more new
index_with names more old new m entered found index ns id =
    entered ns id ∙ ap (λ (b : Bool). is_one_name m.ns m.id ns id || b) (index ns id)
    ∙ ap (λ (b : Bool). b || is_some (mark_at old ns id)) (named ns id)
    ∙ by_case (is_named ns id m) (mark_at old ns id) ∙ ap is_some (sym (found ns id))
  where
    named : (ns id : ℕ) → is_one_name m.ns m.id ns id ≡ is_named ns id m
    named ns id = grind (arith, nat_tests)

    by_case : (b : Bool) (o : Option Mark) → (b || is_some o) ≡ is_some (cond b (Some m) o)
    by_case true o = refl
    by_case false o = refl

mark_at-without : (ns id n i : ℕ) (marks : List Mark) → is_some (mark_at (without ns id marks) n i) ≡ (not (is_one_name ns id n i) && is_some (mark_at marks n i))
mark_at-without ns id n i [] = grind (arith, nat_tests)
mark_at-without ns id n i (m ∷ marks) = by_case (is_named ns id m) refl (is_named n i m) refl (mark_at-without ns id n i marks)
  where
    by_case : (b : Bool) → is_named ns id m ≡ b → (c : Bool) → is_named n i m ≡ c
        → is_some (mark_at (without ns id marks) n i) ≡ (not (is_one_name ns id n i) && is_some (mark_at marks n i))
        → is_some (mark_at (cond (not b) (m ∷ without ns id marks) (without ns id marks)) n i) ≡ (not (is_one_name ns id n i) && is_some (cond c (Some m) (mark_at marks n i)))
    by_case true here true there rest =
        let one : is_one_name ns id n i ≡ true = grind (arith, nat_tests) in
        rest ∙ ap (λ (b : Bool). not b && is_some (mark_at marks n i)) one ∙ sym (ap (λ (b : Bool). not b && true) one)
    by_case true here false there rest = rest
    by_case false here true there rest =
        let other : is_one_name ns id n i ≡ false = grind (arith, nat_tests) in
        ap (λ (b : Bool). is_some (cond b (Some m) (mark_at (without ns id marks) n i))) there ∙ sym (ap (λ (b : Bool). not b && true) other)
    by_case false here false there rest =
        ap (λ (b : Bool). is_some (cond b (Some m) (mark_at (without ns id marks) n i))) there ∙ rest

pub index_less : (names fewer : List (ℕ × Reverse ℕ)) (old new : List Mark) (ns id : ℕ)
    → ((n i : ℕ) → is_indexed fewer n i ≡ (not (is_one_name ns id n i) && is_indexed names n i))
    → new ≡ without ns id old → IsIndexOf names old → IsIndexOf fewer new
index_less names fewer old new ns id forgot is index n i =
    forgot n i ∙ ap (λ (b : Bool). not (is_one_name ns id n i) && b) (index n i) ∙ sym (mark_at-without ns id n i old)
    ∙ ap (λ (l : List Mark). is_some (mark_at l n i)) (sym is)

-- a new name that was entered and taken out again
pub left_again : (names more again : List (ℕ × Reverse ℕ)) (ns id : ℕ) (b : Bool) → is_indexed names ns id ≡ not b
    → ((n i : ℕ) → is_indexed more n i ≡ (is_one_name ns id n i || is_indexed names n i))
    → (b ≡ true → (n i : ℕ) → is_indexed again n i ≡ (not (is_one_name ns id n i) && is_indexed more n i))
    → (b ≡ false → again ≡ more) → (n i : ℕ) → is_indexed again n i ≡ is_indexed names n i
left_again names more again ns id true was entered forgot same n i =
    forgot refl n i ∙ ap (λ (c : Bool). not (is_one_name ns id n i) && c) (entered n i) ∙ by_case (is_one_name ns id n i) refl
  where
    by_case : (c : Bool) → is_one_name ns id n i ≡ c → (not c && (c || is_indexed names n i)) ≡ is_indexed names n i
    by_case true is = sym (there is)
      where
        there : is_one_name ns id n i ≡ true → is_indexed names n i ≡ false
        there is = let n_is : n ≡ ns = grind (arith, nat_tests) in
            let i_is : i ≡ id = grind (arith, nat_tests) in
            ap (λ (k : ℕ). is_indexed names k i) n_is ∙ ap (λ (k : ℕ). is_indexed names ns k) i_is ∙ was
    by_case false is = refl
left_again names more again ns id false was entered forgot same n i =
    ap (λ (l : List (ℕ × Reverse ℕ)). is_indexed l n i) (same refl) ∙ entered n i ∙ by_case (is_one_name ns id n i) refl
  where
    by_case : (c : Bool) → is_one_name ns id n i ≡ c → (c || is_indexed names n i) ≡ is_indexed names n i
    by_case true is = sym (there is)
      where
        there : is_one_name ns id n i ≡ true → is_indexed names n i ≡ true
        there is = let n_is : n ≡ ns = grind (arith, nat_tests) in
            let i_is : i ≡ id = grind (arith, nat_tests) in
            ap (λ (k : ℕ). is_indexed names k i) n_is ∙ ap (λ (k : ℕ). is_indexed names ns k) i_is ∙ was
    by_case false is = refl

-- ---- a namespace that has no mark
no_later : (ns id : ℕ) → is_gt (name_order (name_of ns id) (name_of ns 0)) ≡ false
no_later ns id = grind (arith, common_steps, nat_tests)

-- no name comes up to the last of the namespace
pub none_up_to : (m : BTreeMap (ℕ × Reverse ℕ) Home) (ns : ℕ)
    → ((q : ℕ × Reverse ℕ) → is_gt (name_order q (name_of ns 0)) ≡ false → get name_order m q ≡ None) → (id : ℕ) → is_indexed (keys m) ns id ≡ false
none_up_to m ns none id = sym (known m ns id) ∙ ap is_some (none (name_of ns id) (no_later ns id))

-- the last one that does is of another namespace
pub last_other : (m : BTreeMap (ℕ × Reverse ℕ) Home) (ns : ℕ) (last : ℕ × Reverse ℕ) → eqb last.0 ns ≡ false → is_gt (name_order last (name_of ns 0)) ≡ false
    → ((q : ℕ × Reverse ℕ) → is_gt (name_order q (name_of ns 0)) ≡ false → IsSome (get name_order m q) → is_lt (name_order last q) ≡ false)
    → (id : ℕ) → is_indexed (keys m) ns id ≡ false
last_other m ns last other upto greatest id = by_case (is_some (get name_order m (name_of ns id))) refl
  where
    before : is_lt (name_order last (name_of ns id)) ≡ true
    before = grind (arith, common_steps, nat_tests)

    by_case : (b : Bool) → is_some (get name_order m (name_of ns id)) ≡ b → is_indexed (keys m) ns id ≡ false
    by_case true is = absurd (both_ways (is_lt (name_order last (name_of ns id))) (greatest (name_of ns id) (no_later ns id) is) before)
    by_case false is = sym (known m ns id) ∙ is

pub none_meant : (names : List (ℕ × Reverse ℕ)) (ms : List Mark) (ns : ℕ) → ((id : ℕ) → is_indexed names ns id ≡ false) → IsIndexOf names ms
    → ForEach (λ m. eqb m.ns ns ≡ false) ms
none_meant names ms ns none index = each ms (λ id. sym (index ns id) ∙ none id)
  where
    rest : (m : Mark) (ks : List Mark) (id : ℕ) (b : Bool) → is_some (cond b (Some m) (mark_at ks ns id)) ≡ false → is_some (mark_at ks ns id) ≡ false
    rest m ks id true nothing = absurd cc
    rest m ks id false nothing = nothing

    other : (m : Mark) (ks : List Mark) → is_some (mark_at (m ∷ ks) ns m.id) ≡ false → (b : Bool) → eqb m.ns ns ≡ b → eqb m.ns ns ≡ false
    other m ks nothing false is = is
    other m ks nothing true is =
        let here : is_named ns m.id m ≡ true = grind (arith, nat_tests) in
        absurd (both_ways (is_some (mark_at (m ∷ ks) ns m.id)) nothing (ap (λ (b : Bool). is_some (cond b (Some m) (mark_at ks ns m.id))) here))

    each : (ks : List Mark) → ((id : ℕ) → is_some (mark_at ks ns id) ≡ false) → ForEach (λ m. eqb m.ns ns ≡ false) ks
    each [] nowhere = tt
    each (m ∷ ks) nowhere =
        (other m ks (nowhere m.id) (eqb m.ns ns) refl, each ks (λ id. rest m ks id (is_named ns id m) (nowhere id)))

pub none_selected : (q : Query) (ms : List Mark) → ForEach (λ m. is_meant q.ns m.ns ≡ false) ms → filter (is_selected q) ms ≡ []
none_selected q [] each = refl
none_selected q (m ∷ ms) each =
    ap (λ (b : Bool). cond (b && (not (is_before q.to m.start) && (not (is_before m.start q.from) || (q.reaching && stops_from q.from m.stop)))) (m ∷ filter (is_selected q) ms) (filter (is_selected q) ms)) each.0
    ∙ none_selected q ms each.1

pub select_none : (q : Query) (limit : ℕ) (ms had : List Mark) → ForEach (λ m. is_meant q.ns m.ns ≡ false) ms → had ≡ had ++ take limit (filter (is_selected q) ms)
select_none q limit ms had each = sym (ap (λ (l : List Mark). had ++ take limit l) (none_selected q ms each) ∙ by_case limit)
  where
    by_case : (n : ℕ) → had ++ take {A = Mark} n [] ≡ had
    by_case zero = append-nil had
    by_case (suc n) = append-nil had

-- ---- names of some namespaces
pub kept_names : (q : ℕ → Bool) (m n : BTreeMap (ℕ × Reverse ℕ) Home) → n.entries ≡ filter (λ (e : (ℕ × Reverse ℕ) × Home). q e.0.0) m.entries
    → (a i : ℕ) → is_indexed (keys n) a i ≡ (q a && is_indexed (keys m) a i)
kept_names q m n is a i = ap (λ (es : List ((ℕ × Reverse ℕ) × Home)). is_indexed (keys_of es) a i) is ∙ of_entries m.entries
  where
    none : (b : Bool) → false ≡ (b && false)
    none true = refl
    none false = refl

    same : (e : (ℕ × Reverse ℕ) × Home) → is_at (name_order (name_of a i)) e.0 ≡ true → q a ≡ q e.0.0
    same e hit =
        let one : is_one_name a i e.0.0 e.0.1.0 ≡ true = sym (one_name a i e.0.0 e.0.1.0) ∙ hit in
        let ns_is : a ≡ e.0.0 = grind (arith, nat_tests, one) in
        ap q ns_is

    step : (e : (ℕ × Reverse ℕ) × Home) (es : List ((ℕ × Reverse ℕ) × Home))
        → is_indexed (keys_of (filter (λ (f : (ℕ × Reverse ℕ) × Home). q f.0.0) es)) a i ≡ (q a && is_indexed (keys_of es) a i)
        → (b : Bool) → q e.0.0 ≡ b → (c : Bool) → is_at (name_order (name_of a i)) e.0 ≡ c
        → is_indexed (keys_of (cond b (e ∷ filter (λ (f : (ℕ × Reverse ℕ) × Home). q f.0.0) es) (filter (λ (f : (ℕ × Reverse ℕ) × Home). q f.0.0) es))) a i
        ≡ (q a && (c || is_indexed (keys_of es) a i))
    step e es rest true is_b true is_c =
        ap (λ (x : Bool). x || is_indexed (keys_of (filter (λ (f : (ℕ × Reverse ℕ) × Home). q f.0.0) es)) a i) is_c
        ∙ sym (ap (λ (x : Bool). x && true) (same e is_c ∙ is_b))
    step e es rest true is_b false is_c =
        ap (λ (x : Bool). x || is_indexed (keys_of (filter (λ (f : (ℕ × Reverse ℕ) × Home). q f.0.0) es)) a i) is_c ∙ rest
    step e es rest false is_b true is_c =
        rest ∙ ap (λ (x : Bool). x && is_indexed (keys_of es) a i) (same e is_c ∙ is_b) ∙ sym (ap (λ (x : Bool). x && true) (same e is_c ∙ is_b))
    step e es rest false is_b false is_c = rest

    of_entries : (es : List ((ℕ × Reverse ℕ) × Home))
        → is_indexed (keys_of (filter (λ (e : (ℕ × Reverse ℕ) × Home). q e.0.0) es)) a i ≡ (q a && is_indexed (keys_of es) a i)
    of_entries [] = none (q a)
    of_entries (e ∷ es) = step e es (of_entries es) (q e.0.0) refl (is_at (name_order (name_of a i)) e.0) refl

-- ---- all names
-- a name that is there stands at or behind the first one
pub none_before : (m : BTreeMap (ℕ × Reverse ℕ) Home) (first : ℕ × Reverse ℕ)
    → ((q : ℕ × Reverse ℕ) → IsSome (get name_order m q) → is_gt (name_order first q) ≡ false) → (n i : ℕ) → is_indexed (keys m) n i ≡ true → first.0 ≤ n
none_before m first least n i has =
    let order : is_gt (name_order first (name_of n i)) ≡ false = least (name_of n i) (known m n i ∙ has) in
    grind (arith, common_steps, nat_tests, order)

-- ... and at or before the last one
pub none_behind : (m : BTreeMap (ℕ × Reverse ℕ) Home) (last : ℕ × Reverse ℕ)
    → ((q : ℕ × Reverse ℕ) → IsSome (get name_order m q) → is_lt (name_order last q) ≡ false) → (n i : ℕ) → is_indexed (keys m) n i ≡ true → n ≤ last.0
none_behind m last greatest n i has =
    let order : is_lt (name_order last (name_of n i)) ≡ false = greatest (name_of n i) (known m n i ∙ has) in
    grind (arith, common_steps, nat_tests, order)

pub one_namespace : (names : List (ℕ × Reverse ℕ)) (ns : ℕ) → ((n i : ℕ) → is_indexed names n i ≡ true → ns ≤ n) → ((n i : ℕ) → is_indexed names n i ≡ true → n ≤ ns)
    → (n i : ℕ) → is_indexed names n i ≡ true → eqb n ns ≡ true
one_namespace names ns from to n i has =
    let low : ns ≤ n = from n i has in
    let high : n ≤ ns = to n i has in
    grind (arith, nat_tests, low, high)

-- no name is left of those that are all meant
pub none_left : (q : ℕ → Bool) (m : BTreeMap (ℕ × Reverse ℕ) Home) (names : List (ℕ × Reverse ℕ)) → m.entries ≡ [] → ((n i : ℕ) → is_indexed names n i ≡ true → q n ≡ true)
    → (n i : ℕ) → is_indexed (keys m) n i ≡ (not (q n) && is_indexed names n i)
none_left q m names empty all n i =
    ap (λ (es : List ((ℕ × Reverse ℕ) × Home)). is_indexed (keys_of es) n i) empty ∙ by_case (q n) (is_indexed names n i) (all n i)
  where
    by_case : (b c : Bool) → (c ≡ true → b ≡ true) → false ≡ (not b && c)
    by_case true c meant = refl
    by_case false true meant = absurd (both_ways false refl (meant refl))
    by_case false false meant = refl
