-- A whole value ends within the bytes, and has a spelling.
use Rattle.std.proofs.Common.{◌-◌, length, take, drop, arith, sym, subst, length-drop}
use Rattle.std.proofs.lemmas.List.{length-take}
use Rattle.nv_value.specs.View.{content, contents}
use Rattle.nv_msgpack.specs.Shortest.{HasSpelling, HaveSpellings}
use Rattle.nv_msgpack.specs.Decoded.{IsRight, HasSpellingIfWhole}
use Rattle.nv_msgpack.proofs.Items.{HaveSpellings-push}
use Rattle.bench.proofs.codec.decode_all.Goals as goal

pub loop-preserved : goal.loop-preserved
loop-preserved c =
    let right = subst (λ answer. IsRight 64 67108864 (take (length c.args.bytes.now - c.loop.at) (drop c.loop.at c.args.bytes.now)) answer) c.in-Whole.is c.in_ok-value.ensures.right in
    let has : HasSpelling (content c.in-Whole.value) = subst HasSpellingIfWhole c.in-Whole.is c.in_ok-value.ensures.has_spelling in
    record {
      within = omega (arith, right.0, length-take (length c.args.bytes.now - c.loop.at) (drop c.loop.at c.args.bytes.now), length-drop c.loop.at c.args.bytes.now);
      spelled = subst (λ l. HaveSpellings (contents l)) (sym c.in_ok-push-in-Whole.ensures.items) (HaveSpellings-push c.loop.values.items c.in-Whole.value c.loop.invariant.spelled has);
    }
