-- A history decides what each session is sent.
use Rattle.std.proofs.Common.{◌≡◌, ℕ, suc, ℤ, List, [], ◌∷◌, ◌++◌, length, map, min, refl, ap, sym, ◌∙◌, subst, arith, Option, Some, None}
use Rattle.std.specs.Prelude.{IfSome}
use Rattle.std.specs.List.{AllByRecursion}
use Rattle.nv_msgpack.specs.Shortest.{shortest}
use Rattle.nv_layout.specs.Places.{rects}
use Rattle.nv_layout.specs.declared.nodes.Placed.{Placed}
use Rattle.nv_layout.specs.declared.nodes.Rect.{Rect}
use Rattle.nv_hl.specs.Groups.{NamedGroup}
use Rattle.nv_linedraw.specs.LineCells.{rows_of_line}
use Rattle.nv_windows.specs.Rooms.{windows_area, without_status}
use Rattle.nv_windows.specs.Workspace.{Page}
use Rattle.nv_windows.specs.declared.window.Window.{Window}
use Rattle.nv_screen.specs.declared.scene.Pane.{Pane}
use Rattle.nv_screen.specs.declared.scene.Scene.{Scene}
use Rattle.nv_screen.specs.declared.scene.SceneLine.{SceneLine}
use Rattle.nv_model.specs.Editors.{ModelEditor}
use Rattle.nv_model.specs.Seen.{Seen, SeenBuffer, seen_of}
use Rattle.nv_scene.specs.Laws.{AreNamedApart}
use Rattle.nv_scene.specs.Panes.{AreLinesOf, IsPaneIn, IsPaneOf}
use Rattle.nv_scene.specs.Scenes.{ArePanesIn, IsSceneOf}
use Rattle.nv_scene.proofs.DrawnAlike.{scenes_are_drawn_alike}
use Rattle.nv_linegrid.specs.declared.event.Redraw.{Redraw}
use Rattle.nv_linegrid.specs.Told.{Told, Wanted, nothing_told}
use Rattle.nv_linegrid.specs.Batch.{batch, told_after}
use Rattle.nv_redraw.specs.Values.{batch_tree}
use Rattle.nv_painter.specs.Pictures.{rows_in_pane, view_of, views_with, picture_of}
use Rattle.nv_history.specs.Events.{Event, Entry}
use Rattle.nv_history.specs.Worlds.{World, fresh_world, step, world_made}
use Rattle.nv_history.specs.Runs.{TakenBatch, rest_in, given, out_from, out}
use Rattle.nv_history.specs.Spoken.{bytes_of_messages, ShowsEditor, ShowsIfGiven, events_of, bytes_of_scene, told_with, IsSpoken, AreSpoken}
use Rattle.nv_history.specs.UiLaws.{PicturesAreOne, BytesAreOne}
use Rattle.nv_history.proofs.Makings.{step_makes}
use Rattle.nv_history.proofs.Moments.{GivesAsIs, given_as_is}
use Rattle.nv_history.proofs.MarksApart.{MarksApart, makes_apart, run_apart, fresh_apart, named_apart}

-- ---- pictures
heights_alike : (groups : List NamedGroup) (b : SeenBuffer) (row : ℕ) (p q : Pane) (ls ks : List SceneLine) → length ls ≡ length ks → AreLinesOf groups b row ls → AreLinesOf groups b row ks
    → p.rect ≡ q.rect → p.tabstop ≡ q.tabstop → map (rows_in_pane p) ls ≡ map (rows_in_pane q) ks
heights_alike groups b row p q [] [] many are also rect stop = refl
heights_alike groups b row p q [] (k ∷ ks) many are also rect stop = absurd (omega (arith, many))
heights_alike groups b row p q (l ∷ ls) [] many are also rect stop = absurd (omega (arith, many))
heights_alike groups b row p q (l ∷ ls) (k ∷ ks) many are also rect stop =
    let bytes : l.bytes ≡ k.bytes = are.0.bytes_are ∙ sym also.0.bytes_are in
    let rest = heights_alike groups b (suc row) p q ls ks (omega (arith, many)) are.1 also.1 rect stop in
    λ i. min (rect i).height (rows_of_line (rect i).width (stop i) (bytes i)) ∷ rest i

view_alike : (s : Seen) (n : ℤ) (rect : Rect) (p q : Pane) → IsPaneIn s n rect p → IsPaneIn s n rect q → view_of p ≡ view_of q
view_alike s n rect p q is also =
    let windows : Some is.window ≡ Some also.window = sym is.window_is ∙ also.window_is in
    let one : is.window ≡ also.window = cc in
    let buffers : Some is.buffer ≡ Some also.buffer = sym is.buffer_is ∙ ap (λ (w : Window). s.buffer w.buffer) one ∙ also.buffer_is in
    let same : is.buffer ≡ also.buffer = cc in
    let here : IsPaneOf s also.window also.buffer rect p =
    subst (λ (b : SeenBuffer). IsPaneOf s also.window b rect p) same (subst (λ (w : Window). IsPaneOf s w is.buffer rect p) one is.pane) in
    let there : IsPaneOf s also.window also.buffer rect q = also.pane in
    let area = here.rect_is ∙ sym there.rect_is in
    let handle = here.window ∙ sym there.window in
    let buffer = here.buffer ∙ sym there.buffer in
    let tick = here.tick ∙ sym there.tick in
    let stop = here.tabstop ∙ sym there.tabstop in
    let first = here.top ∙ sym there.top in
    let heights =
    heights_alike s.stage.groups also.buffer also.window.top p q p.lines.items q.lines.items (here.shown ∙ sym there.shown) here.lines there.lines area stop in
    λ i. record {
      window = handle i;
      row = (area i).row;
      col = (area i).col;
      width = (area i).width;
      height = (area i).height;
      buffer = buffer i;
      tick = tick i;
      tabstop = stop i;
      first = first i;
      heights = heights i;
    }

views_alike : (s : Seen) (placed : List Placed) (ps qs : List Pane) → ArePanesIn s placed ps → ArePanesIn s placed qs → map view_of ps ≡ map view_of qs
views_alike s [] [] [] are also = refl
views_alike s [] (p ∷ ps) qs are also = absurd are
views_alike s [] [] (q ∷ qs) are also = absurd also
views_alike s (at ∷ more) [] qs are also = absurd are
views_alike s (at ∷ more) (p ∷ ps) [] are also = absurd also
views_alike s (at ∷ more) (p ∷ ps) (q ∷ qs) are also =
    let first = view_alike s at.window (without_status at.rect) p q are.0 also.0 in
    let rest = views_alike s more ps qs are.1 also.1 in
    λ i. first i ∷ rest i

pub one_picture : (s : Seen) (a b : Scene) → AreNamedApart s → IsSceneOf s a → IsSceneOf s b → picture_of a ≡ picture_of b
one_picture s a b apart is also =
    let drawn = scenes_are_drawn_alike s a b apart is also in
    let pages : Some is.page ≡ Some also.page = sym is.page_is ∙ also.page_is in
    let page : is.page ≡ also.page = cc in
    let panes : ArePanesIn s (rects also.page.tree (windows_area s.stage.workspace)) a.panes.items =
    subst (λ (t : Page). ArePanesIn s (rects t.tree (windows_area s.stage.workspace)) a.panes.items) page is.panes in
    let views = views_alike s (rects also.page.tree (windows_area s.stage.workspace)) a.panes.items b.panes.items panes also.panes in
    let screen = drawn.screen in
    let colours = drawn.colours in
    let cursor = drawn.cursor in
    λ i. record { screen = screen i; colours = colours i; cursor = cursor i; views = views_with [] (views i) }

pub picture_of_editor : (m : ModelEditor) (a b : Scene) → MarksApart m → ShowsEditor m a → ShowsEditor m b → picture_of a ≡ picture_of b
picture_of_editor m a b apart is also = one_picture (seen_of m) a b (named_apart m apart) is.shows also.shows

pub pictures_are_one : PicturesAreOne
unfolding PicturesAreOne
pictures_are_one capacity limits history w a b runs is also =
    picture_of_editor w.editor a b (run_apart (fresh_world capacity limits) w history (fresh_apart capacity limits) runs) is also

-- ---- the editors that a session was given
given_if : (w : World) (o : Option ModelEditor) → MarksApart w.editor → ((m : ModelEditor) → o ≡ Some m → w.editor ≡ m) → IfSome o MarksApart
given_if w None h is = tt
given_if w (Some m) h is = subst (λ (k : ModelEditor). MarksApart k) (is m refl) h

gave_apart : (s : ℕ) (w : World) (event : Event) (gs : List TakenBatch) → MarksApart w.editor → GivesAsIs s w event gs → AllByRecursion (λ b. IfSome b.editor MarksApart) gs
gave_apart s w event [] h gives = tt
gave_apart s w event (b ∷ []) h gives = (given_if w b.editor h gives.1, tt)
gave_apart s w event (b ∷ (c ∷ bs)) h gives = absurd gives

all-append : {A : Type 0} (P : A → Type 0) (xs ys : List A) → AllByRecursion P xs → AllByRecursion P ys → AllByRecursion P (xs ++ ys)
all-append P [] ys are also = also
all-append P (x ∷ xs) ys are also = (are.0, all-append P xs ys are.1 also)

out_next : (s : ℕ) (es : List Entry) (o : Option World) → ((u : World) → o ≡ Some u → AllByRecursion (λ b. IfSome b.editor MarksApart) (out_from u s es))
    → AllByRecursion (λ b. IfSome b.editor MarksApart) (rest_in (λ u. out_from u s es) o)
out_next s es None rest = tt
out_next s es (Some u) rest = rest u refl

pub out_apart : (s : ℕ) (w : World) (es : List Entry) → MarksApart w.editor → AllByRecursion (λ b. IfSome b.editor MarksApart) (out_from w s es)
out_apart s w [] h = tt
out_apart s w (e ∷ es) h =
    all-append (λ (b : TakenBatch). IfSome b.editor MarksApart) (given s e.event (step w e.event)) (rest_in (λ u. out_from u s es) (world_made (step w e.event)))
    (gave_apart s w e.event (given s e.event (step w e.event)) h (given_as_is s w e.event))
    (out_next s es (world_made (step w e.event)) (λ u made. out_apart s u es (makes_apart w u e.event h (step_makes w u e.event made))))

-- ---- bytes
pub record AreSame (bytes others : List ℕ) (events more : List Redraw) (later last : Told) : Type 0 where
  pub bytes_are : bytes ≡ others
  pub events_are : events ≡ more
  pub later_is : later ≡ last

scene_same : (told : Told) (given : Option ModelEditor) (a b : Option Scene) → IfSome given MarksApart → ShowsIfGiven given a → ShowsIfGiven given b
    → AreSame (bytes_of_scene told a) (bytes_of_scene told b) (events_of told a) (events_of told b) (told_with told a) (told_with told b)
scene_same told None None None apart is also = record { bytes_are = refl; events_are = refl; later_is = refl }
scene_same told None (Some a) b apart is also = absurd is
scene_same told None None (Some b) apart is also = absurd also
scene_same told (Some m) None b apart is also = absurd is
scene_same told (Some m) (Some a) None apart is also = absurd also
scene_same told (Some m) (Some a) (Some b) apart is also =
    let one = picture_of_editor m a b apart is also in record {
      bytes_are = ap (λ (w : Wanted). shortest (batch_tree (batch told w))) one;
      events_are = ap (batch told) one;
      later_is = ap (told_after told) one;
    }

one_same : (told later last : Told) (given : TakenBatch) (bytes others : List ℕ) (events more : List Redraw) → IfSome given.editor MarksApart
    → IsSpoken told given bytes events later → IsSpoken told given others more last → AreSame bytes others events more later last
one_same told later last given bytes others events more apart is also =
    let same = scene_same told given.editor is.scene also.scene apart is.shows also.shows in record {
      bytes_are = is.bytes_are ∙ ap (λ (l : List ℕ). bytes_of_messages given.messages ++ l) same.bytes_are ∙ sym also.bytes_are;
      events_are = is.events_are ∙ same.events_are ∙ sym also.events_are;
      later_is = is.later_is ∙ same.later_is ∙ sym also.later_is;
    }

pub spoken_same : (told later last : Told) (bs : List TakenBatch) (bytes others : List ℕ) (events more : List Redraw) → AllByRecursion (λ b. IfSome b.editor MarksApart) bs
    → AreSpoken told bs bytes events later → AreSpoken told bs others more last → AreSame bytes others events more later last
spoken_same told later last [] bytes others events more apart is also = record {
  bytes_are = is.0 ∙ sym also.0;
  events_are = is.1 ∙ sym also.1;
  later_is = is.2 ∙ sym also.2;
}
spoken_same told later last (b ∷ bs) bytes others events more apart is also =
    let first = one_same told is.between also.between b is.first_bytes also.first_bytes is.first_events also.first_events apart.0 is.first also.first in
    let rest =
    spoken_same also.between later last bs is.other_bytes also.other_bytes is.other_events also.other_events apart.1
    (subst (λ (t : Told). AreSpoken t bs is.other_bytes is.other_events later) first.later_is is.rest) also.rest in
    let front = first.bytes_are in
    let back = rest.bytes_are in
    let before = first.events_are in
    let behind = rest.events_are in record {
      bytes_are = is.bytes_are ∙ (λ i. front i ++ back i) ∙ sym also.bytes_are;
      events_are = is.events_are ∙ (λ i. before i ++ behind i) ∙ sym also.events_are;
      later_is = rest.later_is;
    }

pub bytes_are_one : BytesAreOne
unfolding BytesAreOne
bytes_are_one capacity limits history w s bytes others runs is also =
    (spoken_same nothing_told is.1 also.1 (out capacity limits s history) bytes others is.0 also.0
    (out_apart s (fresh_world capacity limits) history (fresh_apart capacity limits)) is.2 also.2).bytes_are
