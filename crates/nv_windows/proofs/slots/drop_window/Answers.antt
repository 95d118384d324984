use Rattle.std.proofs.Common.{rules, not}
use Rattle.std.specs.Ordering.{int_eq}
use Rattle.std.proofs.lemmas.Fn.{filter_same}
use Rattle.nv_windows.specs.declared.window.Window.{Window}
use Rattle.nv_windows.proofs.slots.drop_window.Goals as goal

pub returns : goal.returns
returns c = filter_same _ (λ (w : Window). not (int_eq w.handle c.args.handle)) _ (λ x b f' k. search rules) _ _ c.retain.ensures.filtered
