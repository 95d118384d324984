use Rattle.std.proofs.Common.{◌≡◌, ℤ, ◌==◌, ◌<◌, ◌∷◌, [], true, false, List, length, Option, Some, ap, sym, subst, ◌∙◌, arith, rules, to_z, of_z, w64}
use Rattle.std.specs.Prelude.{IfSome, is_some, slice_get}
use Rattle.std.proofs.lemmas.Bool.Decides.{nat_tests}
use Rattle.nv_windows.specs.Workspace.{Workspace, is_live_window, window_at}
use Rattle.nv_windows.specs.declared.window.Window.{Window}
use Rattle.nv_model.specs.Operations.{Operation}
use Rattle.nv_model.specs.Standing.{seen_now}
use Rattle.nv_editor.specs.Doing.{Does}
use Rattle.nv_editor.specs.Sound.{content_at}
use Rattle.nv_scene.proofs.Found.{settled_by, settled_none, there_at, window_found}
use Rattle.nv_scene.proofs.settling.settle_at.Goals as goal

pub put_top-requires-clause-live : goal.put_top-requires-clause-live
put_top-requires-clause-live c =
    let ws : Workspace = c.args.editor.now.stage.workspace in
    let w : Window = c.in-Some.window.now in
    let e : to_z w64 (of_z w64 w.handle) ≡ w.handle = search rules in
    let there : Some w ≡ slice_get ws.windows c.args.place =
    there_at c.windows-2.result.now c.args.place w c.in-Some.ensures.lookup.3.0 c.in-Some.ensures.lookup.1
    ∙ ap (λ (vs : List Window). slice_get vs c.args.place) (c.windows-2.ensures.windows ∙ ap (λ (v : Workspace). v.windows) c.windows.ensures) in
    ap (is_live_window ws) e ∙ ap (λ (o : Option Window). is_some o) (window_found ws c.args.place w c.known.ensures.workspace there)

pub put_top-requires-clause-within : goal.put_top-requires-clause-within
put_top-requires-clause-within c =
    let ws : Workspace = c.args.editor.now.stage.workspace in
    let w : Window = c.in-Some.window.now in
    let e : to_z w64 (of_z w64 w.handle) ≡ w.handle = search rules in
    let there : Some w ≡ slice_get ws.windows c.args.place =
    there_at c.windows-2.result.now c.args.place w c.in-Some.ensures.lookup.3.0 c.in-Some.ensures.lookup.1
    ∙ ap (λ (vs : List Window). slice_get vs c.args.place) (c.windows-2.ensures.windows ∙ ap (λ (v : Workspace). v.windows) c.windows.ensures) in
    subst (λ (o : Option Window). IfSome o (λ v. c.in_ok-top.top < length (content_at c.args.editor.now v.buffer).text))
    (sym (ap (window_at ws) e ∙ window_found ws c.args.place w c.known.ensures.workspace there)) c.in_ok-top.ensures.within

pub returns-then-top-window : goal.returns-then-top-window
returns-then-top-window c =
    let ws : Workspace = c.args.editor.now.stage.workspace in
    let w : Window = c.in-Some.window.now in
    let e : to_z w64 (of_z w64 w.handle) ≡ w.handle = search rules in
    let there : Some w ≡ slice_get ws.windows c.args.place =
    there_at c.windows-2.result.now c.args.place w c.in-Some.ensures.lookup.3.0 c.in-Some.ensures.lookup.1
    ∙ ap (λ (vs : List Window). slice_get vs c.args.place) (c.windows-2.ensures.windows ∙ ap (λ (v : Workspace). v.windows) c.windows.ensures) in
    let differs : (c.in_ok-top.top == w.top) ≡ false = grind (arith, nat_tests) in
    subst (λ (os : List Operation). Does os c.args.editor.now c.put_top.new.self)
    (settled_by (seen_now c.args.editor.now) c.args.place w c.in_ok-top.top there c.in_ok-top.ensures.top differs)
    (subst (λ (n : ℤ). Does (Operation.top_put n c.in_ok-top.top ∷ []) c.args.editor.now c.put_top.new.self) e c.put_top.ensures)

pub returns-else-top-window : goal.returns-else-top-window
returns-else-top-window c =
    let ws : Workspace = c.args.editor.now.stage.workspace in
    let w : Window = c.in-Some.window.now in
    let there : Some w ≡ slice_get ws.windows c.args.place =
    there_at c.windows-2.result.now c.args.place w c.in-Some.ensures.lookup.3.0 c.in-Some.ensures.lookup.1
    ∙ ap (λ (vs : List Window). slice_get vs c.args.place) (c.windows-2.ensures.windows ∙ ap (λ (v : Workspace). v.windows) c.windows.ensures) in
    let same : (c.in_ok-top.top == w.top) ≡ true = grind (arith, nat_tests) in
    subst (λ (os : List Operation). Does os c.args.editor.now c.args.editor.now)
    (settled_none (seen_now c.args.editor.now) c.args.place w c.in_ok-top.top there c.in_ok-top.ensures.top same)
    (λ m stands. stands)
