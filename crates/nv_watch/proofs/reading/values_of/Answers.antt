use Rattle.std.proofs.Common.{rules, ◌≡◌, ℕ, suc, ◌+◌, ◌-◌, List, [], ◌∷◌, ◌++◌, Option, Some, None, drop, take, length, map, ap, ◌∙◌, subst, arith}
use Rattle.std.proofs.lemmas.List.{map-append, drop-drop, length-drop, take_all}
use Rattle.nv_value.specs.View.{content}
use Rattle.nv_value.specs.declared.value.Value.{Value}
use Rattle.nv_watch.specs.SentParts.{values_read, values_within}
use Rattle.nv_watch.specs.inside.Parts.{IsFirstValue}
use Rattle.nv_watch.proofs.Readings.{Goes, goes_first, goes_on, goes_no_further, goes_to_end}
use Rattle.nv_watch.proofs.reading.values_of.Goals as goal

pub loop-init : goal.loop-init
loop-init c = record {
  goes = goes_first _ _ (ap (map content) c.new-values.ensures.items);
  within = omega arith;
}

-- the rest of the bytes, as the code takes it
part_whole : (bytes : List ℕ) (taken : ℕ) → take (length bytes - taken) (drop taken bytes) ≡ drop taken bytes
part_whole bytes taken = take_all (length bytes - taken) (drop taken bytes) (let e = length-drop taken bytes in omega (arith, e))

first_there : (bytes : List ℕ) (taken : ℕ) (o : Option (Value × ℕ)) → IsFirstValue (take (length bytes - taken) (drop taken bytes)) o → IsFirstValue (drop taken bytes) o
first_there bytes taken o is = subst (λ (rest : List ℕ). IsFirstValue rest o) (part_whole bytes taken) is

-- there is no first value
none_first : (rest : List ℕ) (o : Option (Value × ℕ)) → IsFirstValue rest o → o ≡ None
    → (n : ℕ) → values_within (suc n) rest ≡ record { values = []; rest = rest }
none_first rest o is e = subst (λ (p : Option (Value × ℕ)). IsFirstValue rest p) e is

pub returns-in_default-clause-values : goal.returns-in_default-clause-values
returns-in_default-clause-values c =
    let none : c.in_ok-value.field-0 ≡ None = search rules in
    (goes_no_further _ _ _ _ _ c.loop-test.true (none_first _ _ (first_there c.args.bytes.now c.loop.taken _ c.in_ok-value.ensures) none) c.loop.invariant.goes).0

pub returns-in_default-clause-rest : goal.returns-in_default-clause-rest
returns-in_default-clause-rest c =
    let none : c.in_ok-value.field-0 ≡ None = search rules in
    (goes_no_further _ _ _ _ _ c.loop-test.true (none_first _ _ (first_there c.args.bytes.now c.loop.taken _ c.in_ok-value.ensures) none) c.loop.invariant.goes).1

pub loop-preserved : goal.loop-preserved
loop-preserved c =
    let rest : List ℕ = drop c.loop.taken c.args.bytes.now in
    let first : IsFirstValue rest (Some (c.in-Some.value, c.in-Some.len)) = subst (λ (p : Option (Value × ℕ)). IsFirstValue rest p) c.in-Some.is (first_there c.args.bytes.now c.loop.taken _ c.in_ok-value.ensures) in
    let pushed : map content c.push.new.self.items ≡ map content c.loop.values.items ++ content c.in-Some.value ∷ [] =
    ap (map content) c.in_ok-push.ensures.items ∙ map-append content c.loop.values.items _ in
    let goes = goes_on _ _ _ _ _ rest _ _ c.loop-test.true pushed first.1 c.loop.invariant.goes in
    record {
      goes =
          subst (λ (bytes : List ℕ). Goes (map content c.push.new.self.items) (length c.args.bytes.now - (c.loop.counter + 1)) bytes (values_read c.args.bytes.now))
          (drop-drop c.in-Some.len c.loop.taken c.args.bytes.now) goes;
      within = omega (arith, first.0, length-drop c.loop.taken c.args.bytes.now, c.loop.invariant.within);
    }

pub returns-clause-values : goal.returns-clause-values
returns-clause-values c =
    let none : length c.args.bytes.now - c.loop.counter ≡ 0 = search rules in
    (goes_to_end _ _ _ _ none c.loop.invariant.goes).0

pub returns-clause-rest : goal.returns-clause-rest
returns-clause-rest c =
    let none : length c.args.bytes.now - c.loop.counter ≡ 0 = search rules in
    (goes_to_end _ _ _ _ none c.loop.invariant.goes).1
