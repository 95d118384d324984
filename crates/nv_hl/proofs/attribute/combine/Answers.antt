use Rattle.nv_hl.proofs.attribute.combine.Goals as goal

pub returns : goal.returns
returns c = λ i. record {
  fg = c.or.ensures i;
  bg = c.or-2.ensures i;
  sp = c.or-3.ensures i;
  ctermfg = c.or-4.ensures i;
  ctermbg = c.or-5.ensures i;
  reverse = c.either.ensures i;
  italic = c.either-2.ensures i;
  bold = c.either-3.ensures i;
  underline = c.either-4.ensures i;
  undercurl = c.either-5.ensures i;
  strikethrough = c.either-6.ensures i;
}
