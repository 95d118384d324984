use Rattle.std.proofs.Common.{◌≡◌, ◌∙◌, sym, ap, subst, rules, w64, to_z, of_z, ◌&&◌, List, [], ◌∷◌, map}
use Rattle.std.specs.Prelude.{if◌then◌else◌}
use Rattle.nv_value.specs.Content.{Tree}
use Rattle.nv_value.specs.View.{pair_content}
use Rattle.nv_args.specs.Args.{typed_arguments}
use Rattle.nv_args.specs.Arguments.{last_pairs}
use Rattle.nv_args.specs.Reading.{flag_at, pairs_at}
use Rattle.nv_windows.specs.Operations.{opening}
use Rattle.nv_windows.specs.Rooms.{has_room_beside, has_window_left}
use Rattle.nv_windows.specs.declared.window.Opened.TheVariants.{Window as OpenedWindow}
use Rattle.nv_model.specs.Operations.{Operation, window_opened, went_to_window}
use Rattle.nv_editor.specs.Doing.{Does}
use Rattle.nv_api_win.specs.Opening.{side_of, wished_height, wished_width}
use Rattle.nv_api_win.specs.WindowRows.{opening_operations}
use Rattle.nv_api_win.specs.Windows.{window_handle}
use Rattle.nv_api_win.proofs.Openings.{gives_opened}
use Rattle.nv_api_win.proofs.opening.open_at.Goals as goal

pub returns-in_ok-window_value-in-Window-clause-row : goal.returns-in_ok-window_value-in-Window-clause-row
returns-in_ok-window_value-in-Window-clause-row c = λ told.
    let stage = c.args.editor.now.stage in
    let ws = stage.workspace in
    let place = c.args.place in
    let pairs : List (Tree × Tree) = last_pairs (pairs_at (typed_arguments c.args.args.now) 2) in
    let given : last_pairs (map pair_content c.pairs-pairs.result.now) ≡ pairs = ap last_pairs c.pairs-pairs.ensures in
    let side : c.side_of.result ≡ side_of pairs = c.side_of.ensures ∙ ap side_of given in
    let width : c.wished_width.result ≡ wished_width pairs = c.wished_width.ensures.width ∙ ap wished_width given in
    let height : c.wished_height.result ≡ wished_height pairs = c.wished_height.ensures.height ∙ ap wished_height given in
    let beside : to_z w64 (of_z w64 place.beside) ≡ place.beside = search rules in
    let buffer : to_z w64 (of_z w64 place.buffer) ≡ place.buffer = search rules in
    let window : to_z w64 (of_z w64 c.in-Window.window) ≡ c.in-Window.window = search rules in
    let opened : OpenedWindow c.in-Window.window ≡ opening ws place.beside (side_of pairs) =
    sym c.in-Window.is ∙ c.in_ok-opened.ensures.told ∙ (λ i. opening ws (beside i) (side i)) in
    let done : Does
    (if has_window_left ws && has_room_beside ws place.beside (side_of pairs)
    then opening_operations stage place.buffer place.beside (flag_at (typed_arguments c.args.args.now) 1) pairs
    else []) c.args.editor.now c.open_window.new.self =
    subst (λ (operations : List Operation). Does operations c.args.editor.now c.open_window.new.self)
    (λ i.
    if has_window_left ws && has_room_beside ws (beside i) (side i)
    then window_opened (beside i) (side i) (buffer i) (width i) (height i) ∷ (if c.flag.ensures i then went_to_window ws.next_window ∷ [] else [])
    else [])
    c.in_ok-opened.ensures.done in
    gives_opened stage place.buffer place.beside c.in-Window.window (flag_at (typed_arguments c.args.args.now) 1) pairs c.in_ok-window_value-in-Window.field-0
    c.args.editor.now c.open_window.new.self told c.requires.left c.requires.room opened
    (c.in_ok-window_value-in-Window.ensures.value ∙ ap window_handle window) done
