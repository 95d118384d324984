-- The windows go on showing live buffers, and an editor whose windows change goes on standing for
-- the model.
use Rattle.std.proofs.Common.{◌≡◌, ℕ, zero, suc, ℤ, pos, get_or, ◌+ℤ◌, ◌<◌, ◌≤◌, ◌≤ℤ◌, List, [], ◌∷◌, ◌++◌, length, map, filter, refl, sym, ap, subst, ◌∙◌, arith, All, Bool, true, false, true≢false, not, cond, Option, Some, None, ◌&&◌}
use Rattle.std.specs.Prelude.{find, IfSome, is_some}
use Rattle.std.specs.Option.{option_map_or}
use Rattle.std.specs.Ordering.{int_eq}
use Rattle.std.proofs.lemmas.Bool.{both_ways}
use Rattle.std.proofs.lemmas.Int.{ints}
use Rattle.std.proofs.lemmas.List.Elements.{All-nil, All-cons, All-head, All-tail, All-append, All-map, All-filter, All-weaker}
use Rattle.nv_buffer.specs.Content.{Content}
use Rattle.nv_places.specs.declared.place.Pos.{Pos}
use Rattle.nv_layout.specs.declared.nodes.Side.{Side}
use Rattle.nv_windows.proofs.Rising.{above}
use Rattle.nv_windows.specs.Sound.{IsRisingFrom, IsSoundWorkspace}
use Rattle.nv_windows.specs.Workspace.{Page, Workspace, handles_of_windows, window_at, window_on, tabpage_of}
use Rattle.nv_windows.specs.Rooms.{has_one_window, has_window_left, has_room_beside, has_handles_left}
use Rattle.nv_windows.specs.Operations.{windows_with, other_windows, with_window, without_window, with_tabpage, without_tabpage, at_window, entered_where, after_opening, after_close, after_tab_new, after_tab_close, closed_in, is_only_window, has_one_tabpage, is_in, with_buffer_in, with_cursor, with_top}
use Rattle.nv_windows.specs.declared.window.Window.{Window}
use Rattle.nv_model.specs.Editors.{ModelEditor, at_handle}
use Rattle.nv_model.specs.Operations.{window_opened, went_to_window, tab_made, after_operations}
use Rattle.nv_model.specs.Stage.{Stage, in_workspace}
use Rattle.nv_model.specs.Standing.{PresentEditor, Stands}
use Rattle.nv_model.proofs.Changing.{stage_update_is_kept}
use Rattle.nv_model.proofs.Lookups.{same_int, int_eq-itself}
use Rattle.nv_editor.specs.Closing.{closing_operations, operations_on_page, tab_closing_operations}
use Rattle.nv_editor.specs.Doing.{Does}
use Rattle.nv_editor.specs.Sound.{IsSoundEditor, ShowsText, ShowsBuffer, IsCursorIn, IsOfGroups, content_of, content_at}
use Rattle.nv_editor.specs.Uis.{AreSoundUis}
use Rattle.nv_editor.proofs.StageKept.{editor_of, stage_sound}

-- each window shows a live buffer
abbrev pub AreShown : List (ℤ × Content) → List Window → Type 0
AreShown buffers windows = All (λ (w : Window). ShowsBuffer (at_handle buffers w.buffer) w) windows

-- the screen has the size that it had
abbrev pub HasSizeOf : Workspace → Workspace → Type 0
HasSizeOf before after = (after.width ≡ before.width) × (after.height ≡ before.height)

-- an editor whose windows and tabpages alone change stays sound
pub windows_sound : (buffers : List (ℤ × Content)) (stage new : Stage) (update : Workspace → Workspace)
    → IsSoundEditor (editor_of buffers stage) → new ≡ in_workspace update stage → IsSoundWorkspace new.workspace
    → AreShown buffers (update stage.workspace).windows → HasSizeOf stage.workspace (update stage.workspace)
    → IsSoundEditor (editor_of buffers new)
windows_sound buffers stage new update sound put workspace are size =
    stage_sound buffers stage new sound (ap (λ (s : Stage). s.next_buffer) put) (record {
      workspace = workspace;
      shown = subst (λ (s : Stage). AreShown buffers s.workspace.windows) (sym put) are;
      painted = subst (λ (s : Stage). All (λ (b : ℤ × Content). All (IsOfGroups s.groups) b.1.marks.marks) buffers) (sym put) sound.painted;
      uis =
          subst (λ (s : Stage). AreSoundUis s.uis s.workspace.width s.workspace.height) (sym put)
          (subst (λ (h : ℕ). AreSoundUis stage.uis (update stage.workspace).width h) (sym size.1)
          (subst (λ (w : ℕ). AreSoundUis stage.uis w stage.workspace.height) (sym size.0) sound.uis));
    })

-- ---- the screen keeps its size
pub closed_size : (w : ℤ) (ws : Workspace) → HasSizeOf ws (after_close w ws)
closed_size w ws = by (is_only_window ws w) (tabpage_of ws w)
  where
    on_page : (t : Page) (b : Bool) → HasSizeOf ws (cond b (without_tabpage t.handle ws) (without_window w ws))
    on_page t true = (refl, refl)
    on_page t false = (refl, refl)

    by : (b : Bool) (o : Option Page) → HasSizeOf ws (cond b ws (option_map_or (closed_in w ws) o ws))
    by true o = (refl, refl)
    by false None = (refl, refl)
    by false (Some t) = on_page t (has_one_window t)

pub tab_closed_size : (ws : Workspace) → HasSizeOf ws (after_tab_close ws)
tab_closed_size ws = by (has_one_tabpage ws)
  where
    by : (b : Bool) → HasSizeOf ws (cond b ws (without_tabpage ws.tabpage ws))
    by true = (refl, refl)
    by false = (refl, refl)

pub opening_size : (beside : ℤ) (side : Side) (n : ℤ) (width height : ℕ) (enter : Bool) (ws : Workspace)
    → HasSizeOf ws (after_opening beside side n width height enter ws)
opening_size beside side n width height enter ws = by (has_window_left ws && has_room_beside ws beside side) enter
  where
    by : (t b : Bool)
        → HasSizeOf ws (cond t (cond b (at_window ws.next_window (with_window beside side n width height ws)) (with_window beside side n width height ws)) ws)
    by true true = (refl, refl)
    by true false = (refl, refl)
    by false b = (refl, refl)

pub tab_made_size : (n : ℤ) (ws : Workspace) → HasSizeOf ws (after_tab_new n ws)
tab_made_size n ws = by (has_handles_left ws)
  where
    by : (t : Bool) → HasSizeOf ws (cond t (with_tabpage n ws) ws)
    by true = (refl, refl)
    by false = (refl, refl)

-- ---- what windows show
-- a window that shows a live buffer from row 0 on
pub shows_on : (buffers : List (ℤ × Content)) (handle n : ℤ) → is_some (at_handle buffers n) ≡ true
    → 0 < length (content_of n (at_handle buffers n)).text → ShowsBuffer (at_handle buffers n) (window_on handle n)
shows_on buffers handle n live some = by (at_handle buffers n) live some
  where
    by : (o : Option Content) → is_some o ≡ true → 0 < length (content_of n o).text → ShowsBuffer o (window_on handle n)
    by None none some = absurd (true≢false (sym none))
    by (Some b) there some = record { cursor = record { row = some; col = omega arith }; top = some }

pub opened_shown : (buffers : List (ℤ × Content)) (ws : List Window) (handle n : ℤ) → AreShown buffers ws
    → ShowsBuffer (at_handle buffers n) (window_on handle n) → AreShown buffers (ws ++ window_on handle n ∷ [])
opened_shown buffers ws handle n are new =
    All-append (λ (w : Window). ShowsBuffer (at_handle buffers w.buffer) w) ws (window_on handle n ∷ []) are
    (All-cons (λ (w : Window). ShowsBuffer (at_handle buffers w.buffer) w) (window_on handle n) [] new (All-nil _))

pub fewer_shown : (buffers : List (ℤ × Content)) (p : Window → Bool) (ws : List Window) → AreShown buffers ws → AreShown buffers (filter p ws)
fewer_shown buffers p ws are = All-filter p (λ (w : Window). ShowsBuffer (at_handle buffers w.buffer) w) ws are

-- windows changed where they are of a handle
changed_shown : (buffers : List (ℤ × Content)) (n : ℤ) (f : Window → Window) (ws : List Window) → AreShown buffers ws
    → All (λ (w : Window). int_eq w.handle n ≡ true → ShowsBuffer (at_handle buffers w.buffer) w → ShowsBuffer (at_handle buffers (f w).buffer) (f w)) ws
    → AreShown buffers (windows_with n f ws)
changed_shown buffers n f [] are each = All-nil _
changed_shown buffers n f (w ∷ ws) are each =
    All-cons (λ (v : Window). ShowsBuffer (at_handle buffers v.buffer) v) (cond (int_eq w.handle n) (f w) w) (windows_with n f ws)
    (by (int_eq w.handle n) refl)
    (changed_shown buffers n f ws (All-tail (λ (v : Window). ShowsBuffer (at_handle buffers v.buffer) v) w ws are) (All-tail Keeps w ws each))
  where
    Keeps : Window → Type 0
    Keeps v = int_eq v.handle n ≡ true → ShowsBuffer (at_handle buffers v.buffer) v → ShowsBuffer (at_handle buffers (f v).buffer) (f v)

    here : ShowsBuffer (at_handle buffers w.buffer) w
    here = All-head (λ (v : Window). ShowsBuffer (at_handle buffers v.buffer) v) w ws are

    by : (t : Bool) → int_eq w.handle n ≡ t → ShowsBuffer (at_handle buffers (cond t (f w) w).buffer) (cond t (f w) w)
    by true is = All-head Keeps w ws each is here
    by false is = here

pub buffer_shown : (buffers : List (ℤ × Content)) (w n : ℤ) (ws : Workspace) → AreShown buffers ws.windows → is_some (at_handle buffers n) ≡ true
    → 0 < length (content_of n (at_handle buffers n)).text → AreShown buffers (with_buffer_in w n ws).windows
buffer_shown buffers w n ws are live some =
    changed_shown buffers w (λ (v : Window). window_on v.handle n) ws.windows are
    (λ k d low is h. shows_on buffers _ n live some)

-- a window is found by its handle, which no other one has
only_one : (b : ℤ) (ws : List Window) (n : ℤ) → IsRisingFrom b (handles_of_windows ws) → (k : ℕ) (d : Window) → k < length ws
    → int_eq (get_or ws k d).handle n ≡ true → find (λ (w : Window). int_eq w.handle n) ws ≡ Some (get_or ws k d)
only_one b [] n rise k d low is = absurd (omega arith)
only_one b (w ∷ ws) n rise zero d low is = ap (λ (t : Bool). cond t (Some w) (find (λ (v : Window). int_eq v.handle n) ws)) is
only_one b (w ∷ ws) n rise (suc k) d low is =
    let apart : int_eq w.handle n ≡ false = lower_apart w.handle (get_or ws k d).handle n (above (w.handle +ℤ pos 1) ws k d rise.1 (omega arith)) is in
    ap (λ (t : Bool). cond t (Some w) (find (λ (v : Window). int_eq v.handle n) ws)) apart ∙ only_one (w.handle +ℤ pos 1) ws n rise.1 k d (omega arith) is
  where
    lower_apart : (a b n : ℤ) → (a +ℤ pos 1) ≤ℤ b → int_eq b n ≡ true → int_eq a n ≡ false
    lower_apart a b n h e = grind (arith, ints)

-- a window put at another place of the text that it shows
module _ (e : PresentEditor) (n : ℤ) (f : Window → Window) (P : Window → Type 0)
    (stays : (w : Window) → (f w).buffer ≡ w.buffer)
    (puts : (w : Window) → P w → ShowsText (content_at e w.buffer).text w → ShowsText (content_at e w.buffer).text (f w)) where
  put_on : (w v : Window) (o : Option Content) → o ≡ at_handle e.buffers w.buffer → v.buffer ≡ w.buffer
      → (ShowsText (content_of w.buffer o).text w → ShowsText (content_of w.buffer o).text v) → ShowsBuffer o w → ShowsBuffer (at_handle e.buffers v.buffer) v
  put_on w v None is same goes shows = absurd shows
  put_on w v (Some b) is same goes shows =
      subst (λ (o : Option Content). ShowsBuffer o v) (is ∙ ap (at_handle e.buffers) (sym same)) (goes shows)

  pub put_shown : (ws : Workspace) → IsSoundWorkspace ws → AreShown e.buffers ws.windows → IfSome (window_at ws n) P
      → AreShown e.buffers (windows_with n f ws.windows)
  put_shown ws sound are within =
      changed_shown e.buffers n f ws.windows are
      (λ k d low is shows.
      let w : Window = get_or ws.windows k d in
      let found : window_at ws n ≡ Some w = only_one (pos 1000) ws.windows n sound.rising k d low is in
      let here : P w = subst (λ (o : Option Window). IfSome o P) found within in
      put_on w (f w) (at_handle e.buffers w.buffer) refl (stays w) (λ h. puts w here h) shows)

pub cursor_shown : (e : PresentEditor) (ws : Workspace) (n : ℤ) (p : Pos) → IsSoundWorkspace ws → AreShown e.buffers ws.windows
    → IfSome (window_at ws n) (λ (w : Window). IsCursorIn (content_at e w.buffer).text p) → AreShown e.buffers (with_cursor n p ws).windows
cursor_shown e ws n p sound are within =
    put_shown e n (λ (v : Window). record v { cursor = p }) (λ (w : Window). IsCursorIn (content_at e w.buffer).text p) (λ w. refl)
    (λ w here shows. record { cursor = here; top = shows.top }) ws sound are within

pub top_shown : (e : PresentEditor) (ws : Workspace) (n : ℤ) (row : ℕ) → IsSoundWorkspace ws → AreShown e.buffers ws.windows
    → IfSome (window_at ws n) (λ (w : Window). row < length (content_at e w.buffer).text) → AreShown e.buffers (with_top n row ws).windows
top_shown e ws n row sound are within =
    put_shown e n (λ (v : Window). record v { top = row }) (λ (w : Window). row < length (content_at e w.buffer).text) (λ w. refl)
    (λ w here shows. record { cursor = shows.cursor; top = here }) ws sound are within

-- ---- windows that open and close
pub closed_shown : (buffers : List (ℤ × Content)) (w : ℤ) (ws : Workspace) → AreShown buffers ws.windows → AreShown buffers (after_close w ws).windows
closed_shown buffers w ws are = by (is_only_window ws w) (tabpage_of ws w)
  where
    on_page : (t : Page) (b : Bool) → AreShown buffers (cond b (without_tabpage t.handle ws) (without_window w ws)).windows
    on_page t true = fewer_shown buffers _ ws.windows are
    on_page t false = fewer_shown buffers _ ws.windows are

    by : (b : Bool) (o : Option Page) → AreShown buffers (cond b ws (option_map_or (closed_in w ws) o ws)).windows
    by true o = are
    by false None = are
    by false (Some t) = on_page t (has_one_window t)

pub tab_closed_shown : (buffers : List (ℤ × Content)) (ws : Workspace) → AreShown buffers ws.windows → AreShown buffers (after_tab_close ws).windows
tab_closed_shown buffers ws are = by (has_one_tabpage ws)
  where
    by : (b : Bool) → AreShown buffers (cond b ws (without_tabpage ws.tabpage ws)).windows
    by true = are
    by false = fewer_shown buffers _ ws.windows are

pub opening_shown : (buffers : List (ℤ × Content)) (beside : ℤ) (side : Side) (n : ℤ) (width height : ℕ) (enter : Bool) (ws : Workspace)
    → AreShown buffers ws.windows → is_some (at_handle buffers n) ≡ true → 0 < length (content_of n (at_handle buffers n)).text
    → AreShown buffers (after_opening beside side n width height enter ws).windows
opening_shown buffers beside side n width height enter ws are live some = by (has_window_left ws && has_room_beside ws beside side) enter
  where
    by : (t b : Bool)
        → AreShown buffers (cond t (cond b (at_window ws.next_window (with_window beside side n width height ws)) (with_window beside side n width height ws)) ws).windows
    by true true = opened_shown buffers ws.windows ws.next_window n are (shows_on buffers ws.next_window n live some)
    by true false = opened_shown buffers ws.windows ws.next_window n are (shows_on buffers ws.next_window n live some)
    by false b = are

pub tab_made_shown : (buffers : List (ℤ × Content)) (n : ℤ) (ws : Workspace) → AreShown buffers ws.windows → is_some (at_handle buffers n) ≡ true
    → 0 < length (content_of n (at_handle buffers n)).text → AreShown buffers (after_tab_new n ws).windows
tab_made_shown buffers n ws are live some = by (has_handles_left ws)
  where
    by : (t : Bool) → AreShown buffers (cond t (with_tabpage n ws) ws).windows
    by true = opened_shown buffers ws.windows ws.next_window n are (shows_on buffers ws.next_window n live some)
    by false = are

-- ---- what is done
pub opening_done : (e : PresentEditor) (new : Stage) (beside : ℤ) (side : Side) (n : ℤ) (width height : ℕ) (enter : Bool)
    → new ≡ in_workspace (after_opening beside side n width height enter) e.stage
    → Does
    (cond (has_window_left e.stage.workspace && has_room_beside e.stage.workspace beside side)
    (window_opened beside side n width height ∷ cond enter (went_to_window e.stage.workspace.next_window ∷ []) []) [])
    e (record e { stage = new })
opening_done e new beside side n width height enter put m stands =
    by (has_window_left e.stage.workspace && has_room_beside e.stage.workspace beside side) enter put
  where
    by : (t b : Bool)
        → new ≡ record e.stage { workspace = cond t (cond b (at_window e.stage.workspace.next_window (with_window beside side n width height e.stage.workspace)) (with_window beside side n width height e.stage.workspace)) e.stage.workspace }
        → Stands (record e { stage = new })
        (after_operations (cond t (window_opened beside side n width height ∷ cond b (went_to_window e.stage.workspace.next_window ∷ []) []) []) m)
    by true true is =
        subst (λ (s : Stage). Stands (record e { stage = s }) (after_operations (window_opened beside side n width height ∷ went_to_window e.stage.workspace.next_window ∷ []) m)) (sym is)
        (stage_update_is_kept (record e { stage = in_workspace (with_window beside side n width height) e.stage }) (in_workspace (at_window e.stage.workspace.next_window)) _
        (stage_update_is_kept e (in_workspace (with_window beside side n width height)) m stands))
    by true false is =
        subst (λ (s : Stage). Stands (record e { stage = s }) (after_operations (window_opened beside side n width height ∷ []) m)) (sym is)
        (stage_update_is_kept e (in_workspace (with_window beside side n width height)) m stands)
    by false b is = subst (λ (s : Stage). Stands (record e { stage = s }) m) (sym is) stands

pub tab_making_done : (e : PresentEditor) (new : Stage) (n : ℤ) → new ≡ in_workspace (after_tab_new n) e.stage
    → Does (cond (has_handles_left e.stage.workspace) (tab_made n ∷ []) []) e (record e { stage = new })
tab_making_done e new n put m stands = by (has_handles_left e.stage.workspace) put
  where
    by : (t : Bool) → new ≡ record e.stage { workspace = cond t (with_tabpage n e.stage.workspace) e.stage.workspace }
        → Stands (record e { stage = new }) (after_operations (cond t (tab_made n ∷ []) []) m)
    by true is =
        subst (λ (s : Stage). Stands (record e { stage = s }) (after_operations (tab_made n ∷ []) m)) (sym is)
        (stage_update_is_kept e (in_workspace (with_tabpage n)) m stands)
    by false is = subst (λ (s : Stage). Stands (record e { stage = s }) m) (sym is) stands

-- a stage with other windows, as its fields give it
pub windows_put : (inside old : Stage) (new : Workspace) (update : Workspace → Workspace) → inside ≡ old → new ≡ update inside.workspace
    → record inside { workspace = new } ≡ in_workspace update old
windows_put inside old new update is put = ap (λ (w : Workspace). record inside { workspace = w }) put ∙ ap (λ (s : Stage). in_workspace update s) is
