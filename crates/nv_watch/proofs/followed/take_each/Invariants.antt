-- What is left to take, behind what was taken so far, gives the whole.
use Rattle.std.proofs.Common.{◌≡◌, ℕ, ℤ, map, drop}
use Rattle.std.specs.Prelude.{◌&&◌}
use Rattle.nv_rpc.specs.MessageView.{sent_of}
use Rattle.nv_watch.specs.Folds.{do_fit}
use Rattle.nv_watch.specs.inside.Mirroring.{AreNotTwice, mirror_in, mirrors_for}
use Rattle.nv_watch.specs.inside.Sharing.{AllShare, Texts}
use Rattle.nv_watch.proofs.followed.take_each.Given as goal

abbrev pub invariant-loop-message : goal.invariant-loop-message
invariant-loop-message l = record {
  fits : (l.fit && do_fit (mirror_in l.all.items l.session) (map sent_of (drop l.message-index l.messages)))
      ≡ do_fit (mirror_in l.fn.all.items l.session) (map sent_of l.messages);
  after : (s : ℕ) (n : ℤ) → mirrors_for l.session s (mirror_in l.all.items s) (map sent_of (drop l.message-index l.messages)) n
      ≡ mirrors_for l.session s (mirror_in l.fn.all.items s) (map sent_of l.messages) n;
  apart : AreNotTwice l.fn.all.items → AreNotTwice l.all.items;
  shares : (texts : Texts) → AllShare texts l.fn.all.items → AllShare texts l.all.items;
}
