-- Names and options, and a fresh buffer.
use Rattle.std.proofs.Common.{◌≡◌, ◌≢◌, ℕ, zero, suc, List, [], ◌∷◌, ◌≤◌, refl, sym, arith, Bool, true, false, Some}
use Rattle.std.proofs.lemmas.List.Elements.{All-nil, All-cons}
use Rattle.std.proofs.lemmas.List.Sorted.{IsPermutation-refl}
use Rattle.std.proofs.lemmas.Map.Keys.{IsDistinct-from_apart}
use Rattle.std.proofs.lemmas.Option.{none-some}
use Rattle.nv_places.specs.Flat.{IsLine}
use Rattle.nv_marks.specs.declared.keeping.Kept.{Kept as KeptMark}
use Rattle.nv_undo.specs.Tree.{no_changes, numbered, change_of}
use Rattle.nv_undo.proofs.StepLemmas.{first_tree}
use Rattle.nv_buffer.specs.declared.edit.Edit.{Edit}
use Rattle.nv_buffer.proofs.KeptTexts.{text_at-first}
use Rattle.nv_buffer.specs.Content.{Content, fresh_content}
use Rattle.nv_model.specs.Buffers.{Splice, SetMark, Kept, ModelBuffer, fresh_buffer, text_of}
use Rattle.nv_model.specs.Standing.{IsKeptFor, IsPartIn, IsSetIn, StandsFor, same_set}
use Rattle.nv_model.specs.Keeping.{OptionsAreKept, FreshIsKept}

with_options : (b : Content) (m : ModelBuffer) → StandsFor b m
    → (n o : List ℕ) → n ≡ o → (x y : Bool) → x ≡ y → (u v : Bool) → u ≡ v → (k l : Bool) → k ≡ l → (s t : ℕ) → s ≡ t
    → StandsFor (record b { name = n; modifiable = x; modified = u; listed = k; tabstop = s })
    (record m { name = o; modifiable = y; modified = v; listed = l; tabstop = t })
unfolding text_of
with_options b m is n o name x y modifiable u v modified k l listed s t tabstop = record {
  first = is.first;
  text = is.text;
  lines = is.lines;
  tick = is.tick;
  marks = is.marks;
  settings = is.settings;
  kept = λ part. record { each = (is.kept part).each; made = (is.kept part).made };
  greatest = is.greatest;
  tree = is.tree;
  undo = is.undo;
  unsealed = is.unsealed;
  since = is.since;
  edits = is.edits;
  parts = is.parts;
  changes = is.changes;
  numbered = is.numbered;
  name = name;
  modifiable = modifiable;
  modified = modified;
  listed = listed;
  tabstop = tabstop;
  valid = record {
    splices = is.valid.splices;
    tree = is.valid.tree;
    changes = is.valid.changes;
    since = is.valid.since;
    named = is.valid.named;
    marks = is.valid.marks;
    settings = is.valid.settings;
    parts = record { known = is.valid.parts.known; changes = is.valid.parts.changes; since = is.valid.parts.since };
  };
}

pub options_are_kept : OptionsAreKept
options_are_kept = record {
  name = λ b m name is.
      with_options b m is name name refl b.modifiable m.modifiable is.modifiable b.modified m.modified is.modified
      b.listed m.listed is.listed b.tabstop m.tabstop is.tabstop;
  modifiable = λ b m on is.
      with_options b m is b.name m.name is.name on on refl b.modified m.modified is.modified
      b.listed m.listed is.listed b.tabstop m.tabstop is.tabstop;
  modified = λ b m on is.
      with_options b m is b.name m.name is.name b.modifiable m.modifiable is.modifiable on on refl
      b.listed m.listed is.listed b.tabstop m.tabstop is.tabstop;
  listed = λ b m on is.
      with_options b m is b.name m.name is.name b.modifiable m.modifiable is.modifiable
      b.modified m.modified is.modified on on refl b.tabstop m.tabstop is.tabstop;
  tabstop = λ b m cells is.
      with_options b m is b.name m.name is.name b.modifiable m.modifiable is.modifiable
      b.modified m.modified is.modified b.listed m.listed is.listed cells cells refl;
}

none_there : (n : ℕ) (c : ℕ × Kept) → numbered no_changes n ≡ Some c → ⊥
none_there zero c is = none-some c is
none_there (suc n) c is = none-some c is

no_edits : (n : ℕ) (es : List Edit) → change_of no_changes n ≡ Some es → ⊥
no_edits zero es is = none-some es is
no_edits (suc n) es is = none-some es is

pub fresh_is_kept : FreshIsKept
unfolding text_of
fresh_is_kept handle listed = record {
  first = refl;
  text = refl;
  lines = All-cons IsLine [] [] (All-nil (λ b. b ≢ 10)) (All-nil IsLine);
  tick = refl;
  marks = record { same_marks = IsPermutation-refl []; in_order = λ k d low within. absurd (omega arith) };
  settings = refl;
  kept = λ part. record { each = All-nil (IsKeptFor (fresh_content handle listed) (fresh_buffer listed) part); made = All-nil (λ (x : KeptMark). x.set ≤ 0) };
  greatest = λ ns. refl;
  tree = first_tree;
  undo = refl;
  unsealed = refl;
  since = sym (text_at-first no_changes);
  edits = tt;
  parts = tt;
  changes = λ n es is. absurd (no_edits n es is);
  numbered = λ n es is. absurd (no_edits n es is);
  name = refl;
  modifiable = refl;
  modified = refl;
  listed = refl;
  tabstop = refl;
  valid = record {
    splices = tt;
    tree = first_tree;
    changes = λ n c is. absurd (none_there n c is);
    since = record { within = tt; makes = refl };
    named = IsDistinct-from_apart same_set [] (λ i j d before within. absurd (omega arith));
    marks = All-nil (IsSetIn (10 ∷ []) []);
    settings = All-nil (λ (k : SetMark). k.set ≤ 0);
    parts = record {
      known = All-nil (λ (s : Splice). IsPartIn (fresh_buffer listed) s.part);
      changes = λ p low made. absurd (let no : false ≡ true = made in cc);
      since = λ p change low. absurd (omega arith);
    };
  };
}
