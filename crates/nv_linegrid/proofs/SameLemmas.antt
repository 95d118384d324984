-- Tests of sameness that hold are equations.
use Rattle.std.proofs.Common.{◌≡◌, ℕ, List, Bool, true, false, eqb, Option, Some, None, refl, ap}
use Rattle.std.proofs.lemmas.Bool.{and_parts, eqb-true, false≢true}
use Rattle.std.proofs.lemmas.Slice.Eq.{bytes_eq-Decides}
use Rattle.std.specs.Prelude.{bytes_eq}
use Rattle.nv_hl.specs.declared.attribute.Attr.{Attr}
use Rattle.nv_hl.specs.Attributes.{same_colour, same_flag, same_attr}
use Rattle.nv_linegrid.specs.Client.{Shown}
use Rattle.nv_linegrid.specs.Rows.{same_shown}

same_colour_is : (a b : Option ℕ) → same_colour a b ≡ true → a ≡ b
same_colour_is None None e = refl
same_colour_is None (Some y) e = absurd (false≢true e)
same_colour_is (Some x) None e = absurd (false≢true e)
same_colour_is (Some x) (Some y) e = ap Some (eqb-true x y e)

same_flag_is : (a b : Bool) → same_flag a b ≡ true → a ≡ b
same_flag_is true true e = refl
same_flag_is true false e = absurd (false≢true e)
same_flag_is false true e = absurd (false≢true e)
same_flag_is false false e = refl

pub same_attr_is : (a b : Attr) → same_attr a b ≡ true → a ≡ b
unfolding same_attr
same_attr_is a b e =
    let p10 = and_parts _ (same_flag a.strikethrough b.strikethrough) e in
    let p9 = and_parts _ (same_flag a.undercurl b.undercurl) p10.0 in
    let p8 = and_parts _ (same_flag a.underline b.underline) p9.0 in
    let p7 = and_parts _ (same_flag a.bold b.bold) p8.0 in
    let p6 = and_parts _ (same_flag a.italic b.italic) p7.0 in
    let p5 = and_parts _ (same_flag a.reverse b.reverse) p6.0 in
    let p4 = and_parts _ (same_colour a.ctermbg b.ctermbg) p5.0 in
    let p3 = and_parts _ (same_colour a.ctermfg b.ctermfg) p4.0 in
    let p2 = and_parts _ (same_colour a.sp b.sp) p3.0 in
    let p1 = and_parts (same_colour a.fg b.fg) (same_colour a.bg b.bg) p2.0 in
    let fg = same_colour_is a.fg b.fg p1.0 in
    let bg = same_colour_is a.bg b.bg p1.1 in
    let sp = same_colour_is a.sp b.sp p2.1 in
    let ctermfg = same_colour_is a.ctermfg b.ctermfg p3.1 in
    let ctermbg = same_colour_is a.ctermbg b.ctermbg p4.1 in
    let reverse = same_flag_is a.reverse b.reverse p5.1 in
    let italic = same_flag_is a.italic b.italic p6.1 in
    let bold = same_flag_is a.bold b.bold p7.1 in
    let underline = same_flag_is a.underline b.underline p8.1 in
    let undercurl = same_flag_is a.undercurl b.undercurl p9.1 in
    let strikethrough = same_flag_is a.strikethrough b.strikethrough p10.1 in
    λ i. record {
      fg = fg i;
      bg = bg i;
      sp = sp i;
      ctermfg = ctermfg i;
      ctermbg = ctermbg i;
      reverse = reverse i;
      italic = italic i;
      bold = bold i;
      underline = underline i;
      undercurl = undercurl i;
      strikethrough = strikethrough i;
    }

pub bytes_eq_is : (xs ys : List ℕ) → bytes_eq xs ys ≡ true → xs ≡ ys
bytes_eq_is xs ys e = (bytes_eq-Decides xs ys).0 e

pub same_shown_is : (a b : Shown) → same_shown a b ≡ true → a ≡ b
same_shown_is a b e =
    let p = and_parts (eqb a.id b.id) (bytes_eq a.text b.text) e in
    let id = eqb-true a.id b.id p.0 in
    let text = bytes_eq_is a.text b.text p.1 in
    λ i. record { text = text i; id = id i }
