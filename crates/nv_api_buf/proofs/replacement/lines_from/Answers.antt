use Rattle.std.proofs.Common.{◌≡◌, ap, sym, ◌∙◌, List, ℕ, ◌∷◌, [], ◌++◌, ◌+◌, map, drop, true, false, append_assoc, arith}
use Rattle.std.proofs.lemmas.List.{at_drop_more}
use Rattle.std.specs.List.{list_any}
use Rattle.std.specs.Prelude.{get_or}
use Rattle.nv_value.specs.View.{content}
use Rattle.nv_value.specs.declared.value.Value.{Value}
use Rattle.nv_args.specs.Texts.{has_newline}
use Rattle.nv_api_buf.specs.inside.Parts.{text_of_value, texts_of}
use Rattle.nv_api_buf.proofs.Newlines.{search-of_no_line, search-of_line, found_at, clean_push}
use Rattle.nv_api_buf.proofs.replacement.lines_from.Goals as goal

pub returns-then-not-is_line-clause-none : goal.returns-then-not-is_line-clause-none
returns-then-not-is_line-clause-none c =
    let place = c.loop-value.value-index in
    let values = c.args.strings.now in
    let string = c.in_ok-string.string in
    let same : c.as_slice.result.now ≡ string = c.as_slice.ensures.bytes in
    let found : has_newline string ≡ true =
    ap has_newline (sym same) ∙ search-of_no_line c.as_slice.result.now c.is_line.result c.is_line.ensures c.if-not-is_line.true in
    let step : texts_of (map content (drop place values)) ≡ text_of_value (content (get_or values place c.value-item.result)) ∷ texts_of (map content (drop (place + 1) values)) =
    at_drop_more (λ (vs : List Value). texts_of (map content vs)) values place c.value-item.result (omega arith) in
    let here : text_of_value (content (get_or values place c.value-item.result)) ≡ string =
    ap (λ (v : Value). text_of_value (content v)) (sym c.value-item.is) ∙ sym c.in_ok-string.ensures in
    let whole : c.loop-value.lines.items ++ string ∷ texts_of (map content (drop (place + 1) values)) ≡ texts_of (map content values) =
    ap (λ (t : List ℕ). c.loop-value.lines.items ++ t ∷ texts_of (map content (drop (place + 1) values))) (sym here)
    ∙ ap (λ (ts : List (List ℕ)). c.loop-value.lines.items ++ ts) (sym step)
    ∙ c.loop-value.invariant.all in
    ap (list_any has_newline) (sym whole) ∙ found_at c.loop-value.lines.items string (texts_of (map content (drop (place + 1) values))) found

pub loop-value-preserved : goal.loop-value-preserved
loop-value-preserved c =
    let place = c.loop-value.value-index in
    let values = c.args.strings.now in
    let string = c.in_ok-string.string in
    let rest = texts_of (map content (drop (place + 1) values)) in
    let same : c.as_slice.result.now ≡ string = c.as_slice.ensures.bytes in
    let line : c.from_bytes.result ≡ string = c.from_bytes.ensures in
    let clean : has_newline c.from_bytes.result ≡ false =
    ap has_newline (line ∙ sym same) ∙ search-of_line c.as_slice.result.now (c.is_line.ensures.0 c.if-not-is_line.false) in
    let grown : c.push.new.self.items ≡ c.loop-value.lines.items ++ c.from_bytes.result ∷ [] = c.in_ok-push.ensures.items in
    let step : texts_of (map content (drop place values)) ≡ text_of_value (content (get_or values place c.value-item.result)) ∷ rest =
    at_drop_more (λ (vs : List Value). texts_of (map content vs)) values place c.value-item.result (omega arith) in
    let here : text_of_value (content (get_or values place c.value-item.result)) ≡ string =
    ap (λ (v : Value). text_of_value (content v)) (sym c.value-item.is) ∙ sym c.in_ok-string.ensures in
    record {
      all =
          ap (λ (front : List (List ℕ)). front ++ rest) grown
          ∙ append_assoc c.loop-value.lines.items (c.from_bytes.result ∷ []) rest
          ∙ ap (λ (t : List ℕ). c.loop-value.lines.items ++ t ∷ rest) (line ∙ sym here)
          ∙ ap (λ (ts : List (List ℕ)). c.loop-value.lines.items ++ ts) (sym step)
          ∙ c.loop-value.invariant.all;
      clean = ap (list_any has_newline) grown ∙ clean_push c.loop-value.lines.items c.from_bytes.result c.loop-value.invariant.clean clean;
    }
