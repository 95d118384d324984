use Rattle.std.proofs.Common.{◌≡◌, Bool, false, Some, None, sym, ◌∙◌, cond}
use Rattle.nv_api_buf.specs.OptionRows.{modifiable_option, modified_option, listed_option, tabstop_option}
use Rattle.nv_api_buf.proofs.options.setting_named.Goals as goal

none_named : (a b c d : Bool) → a ≡ false → b ≡ false → c ≡ false → d ≡ false
    → cond a (Some modifiable_option) (cond b (Some modified_option) (cond c (Some listed_option) (cond d (Some tabstop_option) None))) ≡ None
none_named a b c d p q r s = λ i. cond (p i) (Some modifiable_option) (cond (q i) (Some modified_option) (cond (r i) (Some listed_option) (cond (s i) (Some tabstop_option) None)))

pub returns : goal.returns
returns c =
    sym (none_named _ _ _ _ (sym c.is_word.ensures ∙ c.if-is_word.false) (sym c.is_word-2.ensures ∙ c.if-is_word-2.false) (sym c.is_word-3.ensures ∙ c.if-is_word-3.false) (sym c.is_word-4.ensures ∙ c.if-is_word-4.false))
