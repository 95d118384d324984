use Rattle.std.proofs.Common.{◌≡◌, ℕ, ◌≤◌, Bool, true, false, List, [], ◌++◌, length, Ok, refl, sym, ap, ◌∙◌, arith}
use Rattle.std.proofs.lemmas.Bool.{leb-true}
use Rattle.nv_value.specs.View.{content}
use Rattle.nv_msgpack.specs.Shortest.{shortest, depth}
use Rattle.nv_book.specs.Books.{IsFitValue}
use Rattle.nv_book.proofs.Tellable.{spelling_told, depth_told, told_back}
use Rattle.nv_book.proofs.Weights.{in_weight}
use Rattle.nv_book.proofs.writing.is_fit_value.Goals as goal

pub returns-then-not-is_tellable-clause-unfit : goal.returns-then-not-is_tellable-clause-unfit
returns-then-not-is_tellable-clause-unfit c = λ _ fit.
    let t = content c.args.value.now in
    let no : c.is_tellable.result ≡ false = c.if-not-is_tellable.true in
    let yes : c.is_tellable.result ≡ true = c.is_tellable.ensures ∙ told_back 64 t fit.spelling fit.deep in
    cc

pub encode-requires : goal.encode-requires
encode-requires c = spelling_told 64 (content c.args.value.now) (sym c.is_tellable.ensures ∙ c.if-not-is_tellable.false)

pub returns-clause-fit : goal.returns-clause-fit
returns-clause-fit c = λ e.
    let t = content c.args.value.now in
    let told = sym c.is_tellable.ensures ∙ c.if-not-is_tellable.false in
    let room : c.encode.new.into.items ≡ shortest t = c.in_ok-encode.ensures.ok ∙ ap (λ (l : List ℕ). l ++ shortest t) c.clear.ensures.items in
    let small : c.len.result ≤ 67109120 = leb-true c.len.result 67109120 (cc) in
    record {
      spelling = spelling_told 64 t told;
      deep = depth_told 64 t told;
      long = omega (arith, c.len.ensures, ap (length {A = ℕ}) room);
    }

pub returns-clause-light : goal.returns-clause-light
returns-clause-light c = λ e.
    let t = content c.args.value.now in
    let room : c.encode.new.into.items ≡ shortest t = c.in_ok-encode.ensures.ok ∙ ap (λ (l : List ℕ). l ++ shortest t) c.clear.ensures.items in
    let small : c.len.result ≤ 67109120 = leb-true c.len.result 67109120 (cc) in
    omega (arith, c.len.ensures, ap (length {A = ℕ}) room, in_weight (depth t) t (shortest t) c.in_ok-encode.ensures.spelled)
