use Rattle.std.proofs.Common.{◌∙◌, ap, not, ◌&&◌, rules, ℕ, List}
use Rattle.std.specs.declared.cmp.Reverse.{Reverse}
use Rattle.std.proofs.lemmas.Map.Made.{filter_same_pairs}
use Rattle.nv_marks.specs.Queries.{is_meant}
use Rattle.nv_marks.specs.declared.index.Home.{Home}
use Rattle.nv_marks.specs.inside.Names.{is_indexed}
use Rattle.nv_marks.proofs.IndexLemmas.{kept_names, none_left}
use Rattle.nv_marks.proofs.index.Index.forget_all.Goals as goal

pub returns : goal.returns
returns c = λ n i.
    kept_names (λ (k : ℕ). not (is_meant c.args.meant k)) c.self.inside.homes c.retain.new.self
    (filter_same_pairs _ (λ (e : (ℕ × Reverse ℕ) × Home). not (is_meant c.args.meant e.0.0)) _ (λ k v b w f' t. search rules) _ _ c.retain.ensures.filtered) n i
    ∙ ap (λ (l : List (ℕ × Reverse ℕ)). not (is_meant c.args.meant n) && is_indexed l n i) c.self.view_is

pub returns-then-are_all : goal.returns-then-are_all
returns-then-are_all c =
    none_left (is_meant c.args.meant) c.clear.new.self c.args.self.now c.clear.ensures.empty (c.are_all.ensures c.if-are_all.true)
