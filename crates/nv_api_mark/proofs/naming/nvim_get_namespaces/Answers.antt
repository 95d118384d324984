use Rattle.std.proofs.Common.{◌∙◌, ℕ, sym, ap, List, map, Bor}
use Rattle.std.proofs.lemmas.Simd.{map-map}
use Rattle.nv_value.specs.Content.{Tree, text}
use Rattle.nv_model.specs.Answering.{dict_of, natural, reply_of}
use Rattle.nv_editor.specs.Namespaces.{named_namespaces}
use Rattle.nv_api_mark.proofs.naming.nvim_get_namespaces.Goals as goal

abbrev told : List ℕ × ℕ → Tree × Tree
told entry = (text entry.0, natural entry.1)

abbrev lent : Bor (List ℕ) × ℕ → List ℕ × ℕ
lent e = (e.0.now, e.1)

pub returns-clause-row : goal.returns-clause-row
returns-clause-row c = λ session args.
    ap reply_of (sym (c.in_ok-entries.ensures.value
    ∙ ap (λ (es : List (Bor (List ℕ) × ℕ)). dict_of (map (λ e. told (lent e)) es)) c.as_slice.ensures.value
    ∙ ap dict_of (sym (map-map told lent c.in_ok-names.names.items))
    ∙ ap (λ (es : List (List ℕ × ℕ)). dict_of (map told es)) (c.in_ok-names.ensures.entries ∙ ap (named_namespaces 1) c.namespaces.ensures)))
