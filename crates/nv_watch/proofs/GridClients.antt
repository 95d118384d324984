-- What a client takes, event by event and value by value.
use Rattle.std.proofs.Common.{◌≡◌, ◌↔◌, refl, ap, sym, ◌∙◌, ℕ, ◌+◌, ◌<◌, Bool, true, false, List, [], ◌∷◌, ◌++◌, Option, None, Some, is_some, subst, take, map, get_or, length, eqb, arith}
use Rattle.std.proofs.lemmas.List.{map-append, take_more}
use Rattle.std.specs.Prelude.{◌&&◌, ◌||◌, option_and_then, IsTrue}
use Rattle.std.specs.List.{list_any}
use Rattle.std.proofs.lemmas.Bool.Decides.{nat_tests}
use Rattle.std.proofs.lemmas.Bool.{and_parts, eqb-true, false≢true}
use Rattle.nv_value.specs.Content.{Tree}
use Rattle.nv_value.specs.View.{content}
use Rattle.nv_value.specs.declared.value.Value.{Value}
use Rattle.nv_hl.specs.Cells.{Screen}
use Rattle.nv_hl.specs.declared.colours.Colours.{Colours}
use Rattle.nv_linegrid.specs.declared.event.Redraw.{Redraw}
use Rattle.nv_linegrid.specs.Batch.{same_colours}
use Rattle.nv_linegrid.specs.Client.{Client, client_after, client_after_all}
use Rattle.nv_redraw.specs.Taking.{ShowsGrid, client_left}
use Rattle.nv_redraw.specs.Values.{batch_tree}
use Rattle.nv_redraw.specs.Reading.{AreTypedEvents}
use Rattle.nv_history.specs.UiLaws.{ShowsSceneWhole}
use Rattle.nv_screen.specs.declared.scene.Scene.{Scene}
use Rattle.nv_screen.specs.Drawing.{screen_of_scene}
use Rattle.nv_screen.specs.Cursor.{cursor_of_scene}
use Rattle.nv_watch.specs.declared.grid_client.Taken.{Taken}
use Rattle.nv_watch.specs.GridClients.{IsTellingOf, AreTellingsOf, client_by_events, client_by_telling, client_by_tellings, client_if_fits, client_if_all_fit, has_flush, have_flush, is_flush}
use Rattle.nv_watch.specs.inside.GridsTaken.{TookValues, taken_both}

-- ---- events

-- one event more
pub fits_step : (c : Client) (e : Redraw) (rest : List Redraw) (fits fit : Bool) → fit ≡ is_some (client_after c e)
    → ((fits && fit) && is_some (client_after_all (client_left c (client_after c e)) rest)) ≡ (fits && is_some (client_after_all c (e ∷ rest)))
fits_step c e rest fits fit is =
    ap (λ (b : Bool). (fits && b) && is_some (client_after_all (client_left c (client_after c e)) rest)) is ∙ by fits (client_after c e)
  where
    by : (b : Bool) (o : Option Client) → ((b && is_some o) && is_some (client_after_all (client_left c o) rest))
        ≡ (b && is_some (option_and_then (λ d. client_after_all d rest) o))
    by true None = refl
    by false None = refl
    by true (Some d) = refl
    by false (Some d) = refl

pub or_assoc : (a b d : Bool) → ((a || b) || d) ≡ (a || (b || d))
or_assoc true b d = refl
or_assoc false b d = refl

-- where all fits, what fits is all
pub all_fits : (c d : Client) (es : List Redraw) → client_after_all c es ≡ Some d → client_by_events c es ≡ d
all_fits c d [] h = some_is c d h
  where
    some_is : (a b : Client) → Some a ≡ Some b → a ≡ b
    some_is a b e = cc
all_fits c d (e ∷ es) h = by (client_after c e) (λ k g. all_fits k d es g) h
  where
    by : (o : Option Client) → ((k : Client) → client_after_all k es ≡ Some d → client_by_events k es ≡ d)
        → option_and_then (λ k. client_after_all k es) o ≡ Some d → client_by_events (client_left c o) es ≡ d
    by None ih g = absurd cc
    by (Some k) ih g = ih k g

-- ---- tellings

pub telling_fits : (c d : Client) (o : Option (List Redraw)) → client_if_fits c o ≡ Some d → client_by_telling c o ≡ d
telling_fits c d None h = absurd cc
telling_fits c d (Some es) h = all_fits c d es h

pub tellings_fit : (c d : Client) (os : List (Option (List Redraw))) → client_if_all_fit c os ≡ Some d → client_by_tellings c os ≡ d
tellings_fit c d [] h = some_is c d h
  where
    some_is : (a b : Client) → Some a ≡ Some b → a ≡ b
    some_is a b e = cc
tellings_fit c d (o ∷ os) h = by (client_if_fits c o) (λ k e. telling_fits c k o e) (λ k g. tellings_fit k d os g) refl h
  where
    by : (p : Option Client) → ((k : Client) → client_if_fits c o ≡ Some k → client_by_telling c o ≡ k)
        → ((k : Client) → client_if_all_fit k os ≡ Some d → client_by_tellings k os ≡ d)
        → client_if_fits c o ≡ p → option_and_then (λ k. client_if_all_fit k os) p ≡ Some d → client_by_tellings (client_by_telling c o) os ≡ d
    by None stays ih e g = absurd cc
    by (Some k) stays ih e g = ap (λ (j : Client). client_by_tellings j os) (stays k e) ∙ ih k g

-- what values tell, in two parts
pub by_both : (c : Client) (os ps : List (Option (List Redraw))) → client_by_tellings c (os ++ ps) ≡ client_by_tellings (client_by_tellings c os) ps
by_both c [] ps = refl
by_both c (o ∷ os) ps = by_both (client_by_telling c o) os ps

pub fit_both : (c : Client) (os ps : List (Option (List Redraw)))
    → is_some (client_if_all_fit c (os ++ ps)) ≡ (is_some (client_if_all_fit c os) && is_some (client_if_all_fit (client_by_tellings c os) ps))
fit_both c [] ps = refl
fit_both c (o ∷ os) ps = by (client_if_fits c o) (λ d e. telling_fits c d o e) (λ d. fit_both d os ps) refl
  where
    by : (p : Option Client) → ((d : Client) → client_if_fits c o ≡ Some d → client_by_telling c o ≡ d)
        → ((d : Client) → is_some (client_if_all_fit d (os ++ ps)) ≡ (is_some (client_if_all_fit d os) && is_some (client_if_all_fit (client_by_tellings d os) ps)))
        → client_if_fits c o ≡ p
        → is_some (option_and_then (λ d. client_if_all_fit d (os ++ ps)) p)
        ≡ (is_some (option_and_then (λ d. client_if_all_fit d os) p) && is_some (client_if_all_fit (client_by_tellings (client_by_telling c o) os) ps))
    by None stays ih e = refl
    by (Some d) stays ih e =
        ih d ∙ ap (λ (k : Client). is_some (client_if_all_fit d os) && is_some (client_if_all_fit (client_by_tellings k os) ps)) (sym (stays d e))

pub flush_both : (os ps : List (Option (List Redraw))) → have_flush (os ++ ps) ≡ (have_flush os || have_flush ps)
flush_both [] ps = refl
flush_both (o ∷ os) ps = ap (λ (b : Bool). has_flush o || b) (flush_both os ps) ∙ sym (or_assoc (has_flush o) (have_flush os) (have_flush ps))

pub tell_both : (ts us : List Tree) (os ps : List (Option (List Redraw))) → AreTellingsOf ts os → AreTellingsOf us ps → AreTellingsOf (ts ++ us) (os ++ ps)
tell_both [] us [] ps a b = b
tell_both [] us (o ∷ os) ps a b = absurd a
tell_both (t ∷ ts) us [] ps a b = absurd a
tell_both (t ∷ ts) us (o ∷ os) ps a b = (a.0, tell_both ts us os ps a.1 b)

-- ---- what a client took

pub took_none : (c : Client) → TookValues [] c c (record { fits = true; flushed = false })
took_none c = record {
  tellings = [];
  tell = tt;
  after = refl;
  fits = refl;
  flushed = refl;
}

pub took_both : (ts us : List Tree) (a b c : Client) (k m : Taken) → TookValues ts a b k → TookValues us b c m → TookValues (ts ++ us) a c (taken_both k m)
took_both ts us a b c k m f g = record {
  tellings = f.tellings ++ g.tellings;
  tell = tell_both ts us f.tellings g.tellings f.tell g.tell;
  after =
      g.after ∙ ap (λ (d : Client). client_by_tellings d g.tellings) f.after ∙ sym (by_both a f.tellings g.tellings);
  fits =
      ap (λ (x : Bool). x && m.fits) f.fits ∙ ap (λ (x : Bool). is_some (client_if_all_fit a f.tellings) && x) g.fits
      ∙ ap (λ (d : Client). is_some (client_if_all_fit a f.tellings) && is_some (client_if_all_fit d g.tellings)) f.after
      ∙ sym (fit_both a f.tellings g.tellings);
  flushed =
      ap (λ (x : Bool). x || m.flushed) f.flushed ∙ ap (λ (x : Bool). have_flush f.tellings || x) g.flushed ∙ sym (flush_both f.tellings g.tellings);
}

-- a value that tells no events, and one that tells some
pub took_no_events : (t : Tree) (c : Client) → IsTellingOf t None → TookValues (t ∷ []) c c (record { fits = false; flushed = false })
took_no_events t c none = record {
  tellings = None ∷ [];
  tell = (none, tt);
  after = refl;
  fits = refl;
  flushed = refl;
}

some_more : (o : Option Client) → is_some o ≡ is_some (option_and_then (λ d. Some d) o)
some_more None = refl
some_more (Some d) = refl

or_false : (b : Bool) → b ≡ (b || false)
or_false true = refl
or_false false = refl

pub took_events : (t : Tree) (es : List Redraw) (a b : Client) (k : Taken) → AreTypedEvents es → batch_tree es ≡ t → b ≡ client_by_events a es
    → k.fits ≡ is_some (client_after_all a es) → k.flushed ≡ list_any is_flush es → TookValues (t ∷ []) a b k
took_events t es a b k typed is after fits flushed = record {
  tellings = Some es ∷ [];
  tell = ((typed, is), tt);
  after = after;
  fits = fits ∙ some_more (client_after_all a es);
  flushed = flushed ∙ or_false (list_any is_flush es);
}

-- ---- what a client shows

colours_are : (o : Option Colours) (c : Colours) → same_colours o c ≡ true → o ≡ Some c
colours_are None c e = absurd (false≢true e)
colours_are (Some d) c e =
    let p4 = and_parts _ _ e in
    let p3 = and_parts _ _ p4.0 in
    let p2 = and_parts _ _ p3.0 in
    let p1 = and_parts _ _ p2.0 in
    let fg = eqb-true d.fg c.fg p1.0 in
    let bg = eqb-true d.bg c.bg p1.1 in
    let sp = eqb-true d.sp c.sp p2.1 in
    let cfg = eqb-true d.cterm_fg c.cterm_fg p3.1 in
    let cbg = eqb-true d.cterm_bg c.cterm_bg p4.1 in
    λ i. Some (record { fg = fg i; bg = bg i; sp = sp i; cterm_fg = cfg i; cterm_bg = cbg i })

number_is_itself : (n : ℕ) → eqb n n ≡ true
number_is_itself n = grind (arith, nat_tests)

both_true : (a b : Bool) → a ≡ true → b ≡ true → (a && b) ≡ true
both_true a b e f = ap (λ (x : Bool). x && b) e ∙ f

are_same : (o : Option Colours) (c : Colours) → o ≡ Some c → same_colours o c ≡ true
are_same o c e =
    ap (λ (p : Option Colours). same_colours p c) e
    ∙ both_true _ _ (both_true _ _ (both_true _ _ (both_true _ _ (number_is_itself c.fg) (number_is_itself c.bg)) (number_is_itself c.sp)) (number_is_itself c.cterm_fg))
    (number_is_itself c.cterm_bg)

shows_whole : (c : Client) (s : Scene) (shown coloured both : Bool) → both ≡ (shown && coloured)
    → (IsTrue shown ↔ ShowsGrid c (screen_of_scene s) (cursor_of_scene s)) → coloured ≡ same_colours c.colours s.colours
    → IsTrue both ↔ ShowsSceneWhole c s
shows_whole c s shown coloured both is shows told = (there, back)
  where
    there : both ≡ true → ShowsSceneWhole c s
    there h =
        let two = and_parts shown coloured (sym is ∙ h) in
        let g = shows.0 two.0 in
        record { size = g.size; cells = g.cells; colours = colours_are c.colours s.colours (sym told ∙ two.1); cursor = g.cursor }

    back : ShowsSceneWhole c s → both ≡ true
    back h =
        is ∙ both_true shown coloured (shows.1 (record { size = h.size; cells = h.cells; cursor = h.cursor }))
        (told ∙ are_same c.colours s.colours h.colours)

-- by a screen that stands for it, with its colours beside it
pub screen_shows : (c k : Client) (s : Scene) (grid : Screen) (cell : ℕ × ℕ) (told : Option Colours) (shown coloured both : Bool) → k ≡ c → told ≡ k.colours
    → grid ≡ screen_of_scene s → cell ≡ cursor_of_scene s → both ≡ (shown && coloured)
    → (IsTrue shown ↔ ShowsGrid k grid cell) → coloured ≡ same_colours told s.colours → IsTrue both ↔ ShowsSceneWhole c s
screen_shows c k s grid cell told shown coloured both k_is told_is grid_is cell_is both_is shows coloured_is =
    shows_whole c s shown coloured both both_is
    (subst (λ (x : Client). IsTrue shown ↔ ShowsGrid x (screen_of_scene s) (cursor_of_scene s)) k_is
    (subst (λ (x : Screen). IsTrue shown ↔ ShowsGrid k x (cursor_of_scene s)) grid_is
    (subst (λ (x : ℕ × ℕ). IsTrue shown ↔ ShowsGrid k grid x) cell_is shows)))
    (coloured_is ∙ ap (λ (x : Option Colours). same_colours x s.colours) (told_is ∙ ap (λ (x : Client). x.colours) k_is))

-- one value more of a list
pub took_next : (vs : List Value) (i : ℕ) (v : Value) (a b c : Client) (k m : Taken) → i < length vs → v ≡ get_or vs i v
    → TookValues (map content (take i vs)) a b k → TookValues (content v ∷ []) b c m → TookValues (map content (take (i + 1) vs)) a c (taken_both k m)
took_next vs i v a b c k m below is f g =
    subst (λ (ts : List Tree). TookValues ts a c (taken_both k m))
    (sym (ap (map content) (take_more vs i v below ∙ ap (λ (x : Value). take i vs ++ x ∷ []) (sym is)) ∙ map-append content (take i vs) (v ∷ [])))
    (took_both (map content (take i vs)) (content v ∷ []) a b c k m f g)
