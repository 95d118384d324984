-- The attributes of text, and how one is laid over another (help: highlight-args, nvim_set_hl()).
use Rattle.std.specs.Prelude.{ℕ, Bool, true, false, not, ◌||◌, ◌&&◌, ◌==◌, Option, None, Some}
use Rattle.std.specs.Option.{option_or}
use Rattle.nv_hl.specs.declared.attribute.Attr.{Attr}

-- no colour and no flag
abbrev pub empty_attr : Attr
empty_attr = record {
  fg = None;
  bg = None;
  sp = None;
  ctermfg = None;
  ctermbg = None;
  reverse = false;
  italic = false;
  bold = false;
  underline = false;
  undercurl = false;
  strikethrough = false;
}

-- an attribute laid over another: a colour of the high one where it has one, else of the low one; a
-- flag where either has it (own rule)
abbrev pub combined : Attr → Attr → Attr
combined low high = record {
  fg = option_or high.fg low.fg;
  bg = option_or high.bg low.bg;
  sp = option_or high.sp low.sp;
  ctermfg = option_or high.ctermfg low.ctermfg;
  ctermbg = option_or high.ctermbg low.ctermbg;
  reverse = low.reverse || high.reverse;
  italic = low.italic || high.italic;
  bold = low.bold || high.bold;
  underline = low.underline || high.underline;
  undercurl = low.undercurl || high.undercurl;
  strikethrough = low.strikethrough || high.strikethrough;
}

abbrev pub same_colour : Option ℕ → Option ℕ → Bool
same_colour None None = true
same_colour (Some a) (Some b) = a == b
same_colour _ _ = false

abbrev pub same_flag : Bool → Bool → Bool
same_flag true b = b
same_flag false b = not b

-- whether two attributes are equal, field by field
unfoldable pub same_attr : Attr → Attr → Bool
same_attr a b =
    same_colour a.fg b.fg && same_colour a.bg b.bg && same_colour a.sp b.sp
    && same_colour a.ctermfg b.ctermfg && same_colour a.ctermbg b.ctermbg
    && same_flag a.reverse b.reverse && same_flag a.italic b.italic && same_flag a.bold b.bold
    && same_flag a.underline b.underline && same_flag a.undercurl b.undercurl
    && same_flag a.strikethrough b.strikethrough
