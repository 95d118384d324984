-- The parts of the laws of combining.
use Rattle.std.proofs.Common.{◌≡◌, refl, sym, ap, ◌∙◌, arith, ◌+◌, ◌*◌, ◌<◌, zero, suc, List, [], ◌∷◌, ◌++◌, length, get_or, Bool, true, false, ◌||◌, ◌&&◌, Option, Some, None, ℕ}
use Rattle.std.proofs.lemmas.Bool.{true≢false, and_parts, eqb-true, eq-eqb}
use Rattle.std.proofs.lemmas.List.{get_or_append_left, get_or-append-add}
use Rattle.std.specs.List.{flat_map, AllByRecursion}
use Rattle.nv_hl.specs.declared.attribute.Attr.{Attr}
use Rattle.nv_hl.specs.declared.cell.Cell.{Cell}
use Rattle.nv_hl.specs.Attributes.{same_colour, same_flag, same_attr}
use Rattle.std.proofs.Math.Nat.{suc-mul}
use Rattle.std.specs.Option.{option_or}
use Rattle.nv_hl.specs.Laws.{CombiningIsAssociative, SameAttrsAreEqual, CellsStandByRows}

colour : (high middle low : Option ℕ) → option_or high (option_or middle low) ≡ option_or (option_or high middle) low
colour None middle low = refl
colour (Some c) middle low = refl

flag : (low middle high : Bool) → ((low || middle) || high) ≡ (low || (middle || high))
flag true middle high = refl
flag false middle high = refl

pub associative : CombiningIsAssociative
associative low middle high = λ i. record {
  fg = colour high.fg middle.fg low.fg i;
  bg = colour high.bg middle.bg low.bg i;
  sp = colour high.sp middle.sp low.sp i;
  ctermfg = colour high.ctermfg middle.ctermfg low.ctermfg i;
  ctermbg = colour high.ctermbg middle.ctermbg low.ctermbg i;
  reverse = flag low.reverse middle.reverse high.reverse i;
  italic = flag low.italic middle.italic high.italic i;
  bold = flag low.bold middle.bold high.bold i;
  underline = flag low.underline middle.underline high.underline i;
  undercurl = flag low.undercurl middle.undercurl high.undercurl i;
  strikethrough = flag low.strikethrough middle.strikethrough high.strikethrough i;
}

-- ---- sameness

colour_same : (a b : Option ℕ) → same_colour a b ≡ true → a ≡ b
colour_same None None h = refl
colour_same None (Some b) h = absurd (true≢false (sym h))
colour_same (Some a) None h = absurd (true≢false (sym h))
colour_same (Some a) (Some b) h = ap Some (eqb-true a b h)

same_colour-refl : (a : Option ℕ) → same_colour a a ≡ true
same_colour-refl None = refl
same_colour-refl (Some a) = eq-eqb a a refl

flag_same : (a b : Bool) → same_flag a b ≡ true → a ≡ b
flag_same true true h = refl
flag_same true false h = absurd (true≢false (sym h))
flag_same false true h = absurd (true≢false (sym h))
flag_same false false h = refl

same_flag-refl : (a : Bool) → same_flag a a ≡ true
same_flag-refl true = refl
same_flag-refl false = refl

both_true : (a b : Bool) → a ≡ true → b ≡ true → (a && b) ≡ true
both_true a b h g = ap (λ x. x && b) h ∙ g

attr_same : (a b : Attr) → same_attr a b ≡ true → a ≡ b
unfolding same_attr
attr_same a b h =
    let strikethrough = and_parts (same_colour a.fg b.fg && same_colour a.bg b.bg && same_colour a.sp b.sp && same_colour a.ctermfg b.ctermfg && same_colour a.ctermbg b.ctermbg && same_flag a.reverse b.reverse && same_flag a.italic b.italic && same_flag a.bold b.bold && same_flag a.underline b.underline && same_flag a.undercurl b.undercurl) (same_flag a.strikethrough b.strikethrough) h in
    let undercurl = and_parts (same_colour a.fg b.fg && same_colour a.bg b.bg && same_colour a.sp b.sp && same_colour a.ctermfg b.ctermfg && same_colour a.ctermbg b.ctermbg && same_flag a.reverse b.reverse && same_flag a.italic b.italic && same_flag a.bold b.bold && same_flag a.underline b.underline) (same_flag a.undercurl b.undercurl) strikethrough.0 in
    let underline = and_parts (same_colour a.fg b.fg && same_colour a.bg b.bg && same_colour a.sp b.sp && same_colour a.ctermfg b.ctermfg && same_colour a.ctermbg b.ctermbg && same_flag a.reverse b.reverse && same_flag a.italic b.italic && same_flag a.bold b.bold) (same_flag a.underline b.underline) undercurl.0 in
    let bold = and_parts (same_colour a.fg b.fg && same_colour a.bg b.bg && same_colour a.sp b.sp && same_colour a.ctermfg b.ctermfg && same_colour a.ctermbg b.ctermbg && same_flag a.reverse b.reverse && same_flag a.italic b.italic) (same_flag a.bold b.bold) underline.0 in
    let italic = and_parts (same_colour a.fg b.fg && same_colour a.bg b.bg && same_colour a.sp b.sp && same_colour a.ctermfg b.ctermfg && same_colour a.ctermbg b.ctermbg && same_flag a.reverse b.reverse) (same_flag a.italic b.italic) bold.0 in
    let reverse = and_parts (same_colour a.fg b.fg && same_colour a.bg b.bg && same_colour a.sp b.sp && same_colour a.ctermfg b.ctermfg && same_colour a.ctermbg b.ctermbg) (same_flag a.reverse b.reverse) italic.0 in
    let ctermbg = and_parts (same_colour a.fg b.fg && same_colour a.bg b.bg && same_colour a.sp b.sp && same_colour a.ctermfg b.ctermfg) (same_colour a.ctermbg b.ctermbg) reverse.0 in
    let ctermfg = and_parts (same_colour a.fg b.fg && same_colour a.bg b.bg && same_colour a.sp b.sp) (same_colour a.ctermfg b.ctermfg) ctermbg.0 in
    let sp = and_parts (same_colour a.fg b.fg && same_colour a.bg b.bg) (same_colour a.sp b.sp) ctermfg.0 in
    let bg = and_parts (same_colour a.fg b.fg) (same_colour a.bg b.bg) sp.0 in
    λ i. record {
      fg = colour_same a.fg b.fg bg.0 i;
      bg = colour_same a.bg b.bg bg.1 i;
      sp = colour_same a.sp b.sp sp.1 i;
      ctermfg = colour_same a.ctermfg b.ctermfg ctermfg.1 i;
      ctermbg = colour_same a.ctermbg b.ctermbg ctermbg.1 i;
      reverse = flag_same a.reverse b.reverse reverse.1 i;
      italic = flag_same a.italic b.italic italic.1 i;
      bold = flag_same a.bold b.bold bold.1 i;
      underline = flag_same a.underline b.underline underline.1 i;
      undercurl = flag_same a.undercurl b.undercurl undercurl.1 i;
      strikethrough = flag_same a.strikethrough b.strikethrough strikethrough.1 i;
    }

same_attr-refl : (a : Attr) → same_attr a a ≡ true
unfolding same_attr
same_attr-refl a =
    both_true _ _ (both_true _ _ (both_true _ _ (both_true _ _ (both_true _ _ (both_true _ _ (both_true _ _ (both_true _ _ (both_true _ _ (both_true _ _ (same_colour-refl a.fg)
    (same_colour-refl a.bg))
    (same_colour-refl a.sp))
    (same_colour-refl a.ctermfg))
    (same_colour-refl a.ctermbg))
    (same_flag-refl a.reverse))
    (same_flag-refl a.italic))
    (same_flag-refl a.bold))
    (same_flag-refl a.underline))
    (same_flag-refl a.undercurl))
    (same_flag-refl a.strikethrough)

pub same_attrs_are_equal : SameAttrsAreEqual
same_attrs_are_equal a b = (attr_same a b, λ e. ap (same_attr a) (sym e) ∙ same_attr-refl a)

-- ---- screens

stands : (w : ℕ) (rows : List (List Cell)) → AllByRecursion (λ r. length r ≡ w) rows
    → (row col : ℕ) (none : Cell) → row < length rows → col < w
    → get_or (flat_map (λ r. r) rows) (row * w + col) none ≡ get_or (get_or rows row []) col none
stands w [] all row col none lt within = absurd (omega (arith, lt))
stands w (r ∷ rs) all zero col none lt within =
    ap (λ n. get_or (r ++ flat_map (λ x. x) rs) n none) (omega arith)
    ∙ get_or_append_left r (flat_map (λ x. x) rs) none col (omega (arith, within, all.0))
stands w (r ∷ rs) all (suc row) col none lt within =
    let far : suc row * w + col ≡ length r + (row * w + col) = omega (arith, suc-mul row w, all.0) in
    ap (λ n. get_or (r ++ flat_map (λ x. x) rs) n none) far
    ∙ get_or-append-add r (flat_map (λ x. x) rs) (row * w + col) none
    ∙ stands w rs all.1 row col none (omega (arith, lt)) within

pub cells_stand_by_rows : CellsStandByRows
cells_stand_by_rows s sized row col none lt within =
    stands s.width s.rows sized.wide row col none (omega (arith, sized.high, lt)) within
