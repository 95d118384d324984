-- Bytes come to one end alone.
use Rattle.std.proofs.Common.{◌≡◌, ◌⊎◌, ℕ, ℤ, List, [], ◌∷◌, ◌++◌, length, Option, None, Some, refl, sym, ap, ap₂, ◌∙◌, subst, arith, append_assoc, inl, inr}
use Rattle.nv_value.specs.Content.{Tree, trees_of}
use Rattle.nv_io.specs.declared.lanes.Flaw.{Flaw}
use Rattle.nv_io.specs.declared.lanes.Flaw.TheVariants.{Bad, TooDeep, TooLong, Inside, NoCall}
use Rattle.nv_msgpack.specs.Spelling.{Each}
use Rattle.nv_msgpack.specs.Within.{SpellsWithin, BeginsNone}
use Rattle.nv_msgpack.proofs.Apart.{apart}
use Rattle.nv_stream.proofs.Cuts.{ends_none, streams_have_one_end}
use Rattle.nv_mirror.specs.Listings.{StopReason, buffer_detached, request_refused, unfit, strange, messages_in, listing, stop_in}
use Rattle.nv_mirror.specs.Ends.{most_levels, most_spelled, BeginWith, ListsAll, StopsAtValue, FollowsTo, IsReadToEnd}
use Rattle.nv_mirror.specs.Laws.{IsByBytes, EndsAreOne}
use Rattle.nv_mirror.specs.declared.followed.Followed.{Followed}
use Rattle.nv_mirror.specs.declared.followed.Followed.TheVariants.{Ended, Detached, Malformed, Refused, Unfit, ReadFault, ServerFault, OutputFault, NoMemory}
use Rattle.nv_mirror.specs.inside.Steps.{followed_of_flaw}
use Rattle.nv_mirror.proofs.Told.{stops_for_good}

abbrev Spelled : Tree → List ℕ → Type 0
Spelled = SpellsWithin most_levels most_spelled

spelled_apart : (t u : Tree) (a b x y : List ℕ) → Spelled t a → Spelled u b → a ++ x ≡ b ++ y → (a ≡ b) × (t ≡ u)
spelled_apart t u a b x y p q e = apart t u a b x y (most_levels, p.0) (most_levels, q.0) e

cancel : (a x y : List ℕ) → a ++ x ≡ a ++ y → x ≡ y
cancel [] x y e = e
cancel (h ∷ a) x y e = let r : a ++ x ≡ a ++ y = cc in cancel a x y r

behind_same : (a b x y : List ℕ) → a ≡ b → a ++ x ≡ b ++ y → x ≡ y
behind_same a b x y p e = cancel a x y (e ∙ ap (λ (l : List ℕ). l ++ y) (sym p))

regroup : (a b c d x : List ℕ) → a ≡ b ++ c → a ++ x ≡ d → b ++ (c ++ x) ≡ d
regroup a b c d x p e = sym (append_assoc b c x) ∙ ap (λ (l : List ℕ). l ++ x) (sym p) ∙ e

-- some values are others and more
abbrev IsMore : List Tree → List Tree → Type 0
IsMore all first = (more : List Tree) × (all ≡ first ++ more)

more_after : (v u : Tree) (all first : List Tree) → v ≡ u → IsMore all first → IsMore (u ∷ all) (v ∷ first)
more_after v u all first e h = (h.0, ap₂ (λ (t : Tree) (l : List Tree). t ∷ l) (sym e) h.1)

-- the spellings at the front of the same bytes are the same, so far as both go
heads_same : (v u : Tree) (a b p q r s x y : List ℕ) → Spelled v p → Spelled u r → a ≡ p ++ q → b ≡ r ++ s → a ++ x ≡ b ++ y → (v ≡ u) × (q ++ x ≡ s ++ y)
heads_same v u a b p q r s x y vp ur pa rb e =
    let split : p ++ (q ++ x) ≡ r ++ (s ++ y) = regroup a p q (r ++ (s ++ y)) x pa (sym (regroup b r s (a ++ x) y rb (sym e))) in
    let same = spelled_apart v u p r (q ++ x) (s ++ y) vp ur split in
    (same.1, behind_same p r (q ++ x) (s ++ y) same.0 split)

-- of two rows of values at the front of the same bytes one is the other and more
two_fronts : (vs us : List Tree) (a b x y : List ℕ) → Each Spelled (trees_of vs) a → Each Spelled (trees_of us) b → a ++ x ≡ b ++ y → IsMore us vs ⊎ IsMore vs us
two_fronts [] us a b x y p q e = inl (us, refl)
two_fronts (v ∷ vs) [] a b x y p q e = inr (v ∷ vs, refl)
two_fronts (v ∷ vs) (u ∷ us) a b x y p q e =
    let same = heads_same v u a b p.0 p.1 q.0 q.1 x y p.2 q.2 p.3 q.3 e in
    two_after v u vs us same.0 (two_fronts vs us p.1 q.1 x y p.4 q.4 same.1)
  where
    two_after : (v u : Tree) (vs us : List Tree) → v ≡ u → IsMore us vs ⊎ IsMore vs us → IsMore (u ∷ us) (v ∷ vs) ⊎ IsMore (v ∷ vs) (u ∷ us)
    two_after v u vs us e (inl h) = inl (more_after v u us vs e h)
    two_after v u vs us e (inr h) = inr (more_after u v vs us (sym e) h)

-- all values that bytes hold are those at their front and more
all_behind : (vs us : List Tree) (a b x y : List ℕ) → Each Spelled (trees_of vs) a → Each Spelled (trees_of us) b → a ++ x ≡ b ++ y → BeginsNone most_levels most_spelled y → IsMore us vs
all_behind [] us a b x y p q e none = (us, refl)
all_behind (v ∷ vs) [] a b x y p q e none =
    absurd (none v p.0 (p.1 ++ x) (sym (regroup a p.0 p.1 y x p.3 (e ∙ ap (λ (l : List ℕ). l ++ y) q))) p.2)
all_behind (v ∷ vs) (u ∷ us) a b x y p q e none =
    let same = heads_same v u a b p.0 p.1 q.0 q.1 x y p.2 q.2 p.3 q.3 e in
    more_after v u us vs same.0 (all_behind vs us p.1 q.1 x y p.4 q.4 same.1 none)

-- ---- two ends of the same bytes

-- the end of following that a stop is
abbrev followed_by : StopReason → Followed
followed_by buffer_detached = Detached
followed_by (request_refused words) = Refused words
followed_by (unfit n) = Unfit n
followed_by (strange n) = Malformed (NoCall n)

data Verdict (buffer : ℤ) (f : Followed) (bytes listed : List ℕ) : Type 0 where
  all_of : (end : Option Flaw) → ListsAll buffer end bytes listed → f ≡ followed_of_flaw end → Verdict buffer f bytes listed
  up_to : (stop : StopReason) → StopsAtValue buffer stop bytes listed → f ≡ followed_by stop → Verdict buffer f bytes listed

verdict : (over : Type 0) (buffer : ℤ) (f : Followed) (bytes listed : List ℕ) → IsByBytes f → FollowsTo over buffer f bytes listed → Verdict buffer f bytes listed
verdict over buffer Ended bytes listed i h = all_of None h.0 refl
verdict over buffer Detached bytes listed i h = up_to buffer_detached h refl
verdict over buffer (Malformed (Bad n)) bytes listed i h = all_of (Some (Bad n)) h refl
verdict over buffer (Malformed (TooDeep n)) bytes listed i h = all_of (Some (TooDeep n)) h refl
verdict over buffer (Malformed (TooLong n)) bytes listed i h = all_of (Some (TooLong n)) h refl
verdict over buffer (Malformed (Inside n)) bytes listed i h = all_of (Some (Inside n)) h.0 refl
verdict over buffer (Malformed (NoCall n)) bytes listed i h = up_to (strange n) h refl
verdict over buffer (Refused words) bytes listed i h = up_to (request_refused words) h refl
verdict over buffer (Unfit n) bytes listed i h = up_to (unfit n) h refl
verdict over buffer ReadFault bytes listed i h = absurd i
verdict over buffer ServerFault bytes listed i h = absurd i
verdict over buffer OutputFault bytes listed i h = absurd i
verdict over buffer NoMemory bytes listed i h = absurd i

abbrev AreSame : Followed → Followed → List ℕ → List ℕ → Type 0
AreSame f g listed others = (f ≡ g) × (listed ≡ others)

-- a stop at a front is one at all values
stop_all : (buffer : ℤ) (stop : StopReason) (all first : List Tree) → IsMore all first → stop_in buffer first ≡ Some stop → (stop_in buffer all ≡ Some stop) × (listing buffer (messages_in all) ≡ listing buffer (messages_in first))
stop_all buffer stop all first h e =
    subst (λ (l : List Tree). (stop_in buffer l ≡ Some stop) × (listing buffer (messages_in l) ≡ listing buffer (messages_in first))) (sym h.1) (stops_for_good buffer stop first h.0 e)

-- where a client stopped, it didn't go on past all values
not_both : (buffer : ℤ) (end : Option Flaw) (stop : StopReason) (bytes listed others : List ℕ) → ListsAll buffer end bytes listed → StopsAtValue buffer stop bytes others → ⊥
not_both buffer end stop bytes listed others p q =
    let none = ends_none most_levels most_spelled (length p.cut.0) p.cut.1 end (omega arith) p.cut.4 in
    let more = all_behind q.values p.values q.front.0 p.cut.0 q.rest p.cut.1 q.front.1 p.cut.2 (sym q.front.2 ∙ p.cut.3) none in
    let c : None ≡ Some stop = sym p.goes_on ∙ (stop_all buffer stop p.values q.values more q.stops).0 in
    cc

one_stop : (buffer : ℤ) (stop other : StopReason) (all first : List Tree) (listed others : List ℕ) → IsMore all first → stop_in buffer first ≡ Some stop → stop_in buffer all ≡ Some other
    → listed ≡ listing buffer (messages_in first) → others ≡ listing buffer (messages_in all) → (stop ≡ other) × (listed ≡ others)
one_stop buffer stop other all first listed others h p q l o =
    let w = stop_all buffer stop all first h p in
    let e : Some stop ≡ Some other = sym w.0 ∙ q in
    (let s : stop ≡ other = cc in s, l ∙ sym w.1 ∙ sym o)

stops_same : (buffer : ℤ) (stop other : StopReason) (bytes listed others : List ℕ) → StopsAtValue buffer stop bytes listed → StopsAtValue buffer other bytes others → (stop ≡ other) × (listed ≡ others)
stops_same buffer stop other bytes listed others p q =
    by_more (two_fronts p.values q.values p.front.0 q.front.0 p.rest q.rest p.front.1 q.front.1 (sym p.front.2 ∙ q.front.2))
  where
    by_more : IsMore q.values p.values ⊎ IsMore p.values q.values → (stop ≡ other) × (listed ≡ others)
    by_more (inl h) = one_stop buffer stop other q.values p.values listed others h p.stops q.stops p.lists q.lists
    by_more (inr h) = let w = one_stop buffer other stop p.values q.values others listed h q.stops p.stops q.lists p.lists in (sym w.0, sym w.1)

ends_same : (buffer : ℤ) (end other : Option Flaw) (bytes listed others : List ℕ) → ListsAll buffer end bytes listed → ListsAll buffer other bytes others → (end ≡ other) × (listed ≡ others)
ends_same buffer end other bytes listed others p q =
    let same = streams_have_one_end most_levels most_spelled bytes p.values q.values end other (omega arith) p.cut q.cut in
    (same.1, p.lists ∙ ap (λ (l : List Tree). listing buffer (messages_in l)) same.0 ∙ sym q.lists)

verdicts_same : (buffer : ℤ) (f g : Followed) (bytes listed others : List ℕ) → Verdict buffer f bytes listed → Verdict buffer g bytes others → AreSame f g listed others
verdicts_same buffer f g bytes listed others (all_of end p e) (all_of other q d) =
    let same = ends_same buffer end other bytes listed others p q in
    (e ∙ ap followed_of_flaw same.0 ∙ sym d, same.1)
verdicts_same buffer f g bytes listed others (all_of end p e) (up_to stop q d) = absurd (not_both buffer end stop bytes listed others p q)
verdicts_same buffer f g bytes listed others (up_to stop p e) (all_of end q d) = absurd (not_both buffer end stop bytes others listed q p)
verdicts_same buffer f g bytes listed others (up_to stop p e) (up_to other q d) =
    let same = stops_same buffer stop other bytes listed others p q in
    (e ∙ ap followed_by same.0 ∙ sym d, same.1)

pub ends_are_one : EndsAreOne
ends_are_one buffer left bytes listed others followed other i j p q =
    let over = IsReadToEnd left bytes in
    verdicts_same buffer followed other bytes listed others (verdict over buffer followed bytes listed i p) (verdict over buffer other bytes others j q)
