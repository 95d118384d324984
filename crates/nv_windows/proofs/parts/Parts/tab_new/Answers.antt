use Rattle.std.proofs.Common.{rules, ◌≡◌, ◌++◌, ◌∷◌, [], ◌∙◌, sym, ap, true, w64}
use Rattle.std.specs.Prelude.{pos, ◌&&◌, if◌then◌else◌, ◌+ℤ◌}
use Rattle.std.proofs.lemmas.Int.{to_z-of_z}
use mir.Val.{to_z, of_z, SFits}
use Rattle.nv_windows.specs.Workspace.{Page, Workspace, page_of, window_on, plain_leaf}
use Rattle.nv_windows.specs.Pages.{pages_of}
use Rattle.nv_windows.specs.Kept.{workspace_of}
use Rattle.nv_windows.specs.Operations.{with_tabpage, put_behind}
use Rattle.nv_windows.specs.Rooms.{has_handles_left}
use Rattle.nv_windows.proofs.parts.Parts.tab_new.Goals as goal

pub returns-clause-after : goal.returns-clause-after
returns-clause-after c =
    let old : Workspace = workspace_of c.args.self.now in
    let new : Page = record { handle = old.next_tabpage; tree = plain_leaf old.next_window; current = old.next_window } in
    let fits : SFits w64 c.args.self.now.tabpage = search rules in
    let windows : c.push.new.self.items ≡ old.windows ++ window_on old.next_window c.args.buffer ∷ [] = search rules in
    let page : page_of c.tabpage_on.result ≡ new = search rules in
    let tabpages : pages_of c.put_behind.new.tabpages.items ≡ put_behind old.tabpage new old.tabpages =
    c.in_ok-put_behind.ensures.ok ∙ (λ i. put_behind (to_z-of_z w64 c.args.self.now.tabpage fits i) (page i) old.tabpages) in
    let tabpage : to_z w64 (of_z w64 c.args.self.now.next_tabpage) ≡ old.next_tabpage = search rules in
    let next : to_z w64 (of_z w64 (to_z w64 (of_z w64 c.args.self.now.next_window) +ℤ pos 1)) ≡ old.next_window +ℤ pos 1 = search rules in
    let next_tab : to_z w64 (of_z w64 (to_z w64 (of_z w64 c.args.self.now.next_tabpage) +ℤ pos 1)) ≡ old.next_tabpage +ℤ pos 1 = search rules in
    let left : has_handles_left old ≡ true = (λ i. (sym c.window_left.ensures ∙ c.if-not-window_left.false) i && (sym c.tabpage_left.ensures ∙ c.if-not-tabpage_left.false) i) in
    (λ i. record (with_tabpage c.args.buffer old) { windows = windows i; tabpages = tabpages i; tabpage = tabpage i; next_window = next i; next_tabpage = next_tab i })
    ∙ ap (λ b. if b then with_tabpage c.args.buffer old else old) (sym left)
