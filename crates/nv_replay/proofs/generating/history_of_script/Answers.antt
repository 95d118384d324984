use Rattle.std.proofs.Common.{rules, ◌≡◌, ◌∙◌, List, ◌∷◌, ◌++◌, ap, sym, subst}
use Rattle.std.specs.List.{AllByRecursion}
use Rattle.std.specs.Vec.Iter.{into_iter_items}
use Rattle.nv_history.specs.Events.{Entry}
use Rattle.nv_history.specs.Worlds.{fresh_world}
use Rattle.nv_core.specs.Contents.{plain_entries}
use Rattle.nv_world.specs.Worlds.{WorldRecord, model_of}
use Rattle.nv_core.specs.declared.entry.Entry.{Entry as HeldEntry}
use Rattle.nv_gen.specs.Story.{IsLightEntry}
use Rattle.nv_replay.specs.Entering.{entered}
use Rattle.nv_replay.proofs.generating.history_of_script.Goals as goal

pub loop-entry-init : goal.loop-entry-init
loop-entry-init c =
    let e = c.in_ok-world.ensures in
    let fresh = fresh_world c.args.outbox c.args.limits in
    let items : into_iter_items c.into_iter-entry-iterator.result ≡ c.in_ok-entry-items.entry-items.items = search rules in
    record {
      next = tt;
      finite = tt;
      capacity = ap (λ (k : WorldRecord). k.capacity) e;
      limits = ap (λ (k : WorldRecord). k.limits) e;
      light = subst (λ (es : List HeldEntry). AllByRecursion IsLightEntry (plain_entries es)) (sym items) c.in_ok-entry-items.ensures.light;
      made = (
        fresh,
        ap model_of e,
        ap (λ (k : WorldRecord). plain_entries k.history ++ entered fresh (plain_entries (into_iter_items c.into_iter-entry-iterator.result))) e
            ∙ ap (λ (es : List HeldEntry). entered fresh (plain_entries es)) items
            ∙ ap (λ (es : List Entry). entered fresh es) c.in_ok-entry-items.ensures.script,
      );
    }

pub loop-entry-preserved : goal.loop-entry-preserved
loop-entry-preserved c =
    let i = c.loop-entry.invariant in
    let m = i.made in
    let steps : into_iter_items c.loop-entry.entry-iterator ≡ c.in-Some.entry ∷ into_iter_items c.next.new.self = c.in-Some.ensures.steps.0 in
    let h = c.in_ok-offer.ensures m.0 m.1 in
    record {
      next = tt;
      finite = tt;
      capacity = h.capacity_is ∙ i.capacity;
      limits = h.limits_are ∙ i.limits;
      light = (subst (λ (es : List HeldEntry). AllByRecursion IsLightEntry (plain_entries es)) steps i.light).1;
      made = (
        h.next,
        h.runs,
        sym (h.goes (plain_entries (into_iter_items c.next.new.self)))
            ∙ ap (λ (es : List HeldEntry). plain_entries c.loop-entry.world.history ++ entered m.0 (plain_entries es)) (sym steps) ∙ m.2,
      );
    }
