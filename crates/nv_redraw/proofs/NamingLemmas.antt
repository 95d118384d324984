-- Neighbours of one name, counted from the front.
use Rattle.std.proofs.Common.{ℕ, suc, ◌+◌, ◌<◌, ◌≤◌, ◌≡◌, Bool, true, false, cond, List, [], ◌∷◌, length, take, drop, get_or, refl, sym, ap, ◌∙◌, subst, arith}
use Rattle.std.specs.Str.{bytes_eq}
use Rattle.std.proofs.lemmas.List.{drop_more, drop-drop, length-drop}
use Rattle.std.proofs.lemmas.Slice.Eq.{bytes_eq-Decides}
use Rattle.nv_linegrid.specs.declared.event.Redraw.{Redraw}
use Rattle.nv_redraw.specs.Values.{event_name, NamedEvents, with_event, events_by_name}
use Rattle.nv_redraw.specs.inside.Naming.{count_named}

-- events of a name at the front of others
abbrev front_group : List ℕ → List Redraw → NamedEvents
front_group name es = record { name = name; events = es }

names_differ_at : (b : Bool) (e f : Redraw) (fs : List Redraw) → bytes_eq (event_name e) (event_name f) ≡ b
    → events_by_name (f ∷ fs) ≡ front_group (event_name f) (f ∷ take (count_named (event_name f) fs) fs) ∷ events_by_name (drop (count_named (event_name f) fs) fs)
    → with_event e (events_by_name (f ∷ fs))
    ≡ front_group (event_name e) (e ∷ take (cond b (suc (count_named (event_name e) fs)) 0) (f ∷ fs)) ∷ events_by_name (drop (cond b (suc (count_named (event_name e) fs)) 0) (f ∷ fs))
names_differ_at true e f fs h ih =
    let n = count_named (event_name f) fs in
    let same : event_name e ≡ event_name f = (bytes_eq-Decides (event_name e) (event_name f)).0 h in
    let gs = events_by_name (drop n fs) in
    ap (with_event e) ih
    ∙ ap (λ t. cond t (front_group (event_name f) (e ∷ f ∷ take n fs) ∷ gs) (front_group (event_name e) (e ∷ []) ∷ front_group (event_name f) (f ∷ take n fs) ∷ gs)) h
    ∙ ap (λ (m : List ℕ). front_group m (e ∷ f ∷ take (count_named m fs) fs) ∷ events_by_name (drop (count_named m fs) fs)) (sym same)
names_differ_at false e f fs h ih =
    let n = count_named (event_name f) fs in
    let gs = events_by_name (drop n fs) in
    ap (with_event e) ih
    ∙ ap (λ t. cond t (front_group (event_name f) (e ∷ f ∷ take n fs) ∷ gs) (front_group (event_name e) (e ∷ []) ∷ front_group (event_name f) (f ∷ take n fs) ∷ gs)) h
    ∙ ap (λ (hs : List NamedEvents). front_group (event_name e) (e ∷ []) ∷ hs) (sym ih)

-- the events of the first one's name, and then the others
by_name_step : (e : Redraw) (es : List Redraw)
    → events_by_name (e ∷ es) ≡ front_group (event_name e) (e ∷ take (count_named (event_name e) es) es) ∷ events_by_name (drop (count_named (event_name e) es) es)
by_name_step e [] = refl
by_name_step e (f ∷ fs) = names_differ_at (bytes_eq (event_name e) (event_name f)) e f fs refl (by_name_step f fs)

own_name : (e : Redraw) → bytes_eq (event_name e) (event_name e) ≡ true
own_name e = (bytes_eq-Decides (event_name e) (event_name e)).1 refl

count_first : (e : Redraw) (es : List Redraw) → count_named (event_name e) (e ∷ es) ≡ suc (count_named (event_name e) es)
count_first e es = ap (λ t. cond t (suc (count_named (event_name e) es)) 0) (own_name e)

within_at : (b : Bool) (m n : ℕ) → m ≤ n → cond b (suc m) 0 ≤ suc n
within_at true m n h = omega (arith, h)
within_at false m n h = omega arith

pub count_within : (name : List ℕ) (es : List Redraw) → count_named name es ≤ length es
count_within name [] = omega arith
count_within name (e ∷ es) = within_at (bytes_eq name (event_name e)) (count_named name es) (length es) (count_within name es)

front_of : (e : Redraw) (es : List Redraw) (n : ℕ) → n ≡ count_named (event_name e) (e ∷ es)
    → (events_by_name (e ∷ es) ≡ front_group (event_name e) (take n (e ∷ es)) ∷ events_by_name (drop n (e ∷ es))) × (0 < n)
front_of e es n h =
    let k : n ≡ suc (count_named (event_name e) es) = h ∙ count_first e es in
    let P : ℕ → Type 0 = λ m. (events_by_name (e ∷ es) ≡ front_group (event_name e) (take m (e ∷ es)) ∷ events_by_name (drop m (e ∷ es))) × (0 < m) in
    subst P (sym k) (by_name_step e es, omega arith)

-- what stands at the place up to which events were gone over
pub record FrontAt (es : List Redraw) (at n : ℕ) (name : List ℕ) : Type 0 where
  pub step : events_by_name (drop at es) ≡ record { name = name; events = take n (drop at es) } ∷ events_by_name (drop (at + n) es)
  pub some : 0 < n
  pub within : at + n ≤ length es

pub front_at : (es : List Redraw) (at n : ℕ) (e : Redraw) (name : List ℕ) → at < length es → e ≡ get_or es at e → name ≡ event_name e → n ≡ count_named name (drop at es)
    → FrontAt es at n name
front_at es at n e name lt is named count =
    let rest = drop (at + 1) es in
    let here : drop at es ≡ e ∷ rest = drop_more es at e lt ∙ ap (λ (x : Redraw). x ∷ rest) (sym is) in
    let counted : n ≡ count_named (event_name e) (e ∷ rest) = count ∙ ap (λ (m : List ℕ). count_named m (drop at es)) named ∙ ap (count_named (event_name e)) here in
    let f = front_of e rest n counted in
    let P : List Redraw → Type 0 = λ l. events_by_name l ≡ front_group (event_name e) (take n l) ∷ events_by_name (drop n l) in
    let moved = subst P (sym here) f.0 in
    let after : drop n (drop at es) ≡ drop (at + n) es = drop-drop n at es in
    let most = count_within name (drop at es) in
    record {
      step = moved ∙ ap (λ (l : List Redraw). front_group (event_name e) (take n (drop at es)) ∷ events_by_name l) after
          ∙ ap (λ (m : List ℕ). front_group m (take n (drop at es)) ∷ events_by_name (drop (at + n) es)) (sym named);
      some = f.1;
      within = omega (arith, length-drop at es);
    }
