use Rattle.std.proofs.Common.{sym, ap, ◌∙◌, not}
use Rattle.nv_lines.proofs.Newlines.{is_line-no_feed, no_feed-is_line, not-false}
use Rattle.nv_lines.proofs.single.is_line.Goals as goal

pub returns : goal.returns
returns c = (
  λ is. no_feed-is_line c.args.bytes.now c.memchr.result c.memchr.ensures (c.is_none.ensures ∙ ap not is),
  λ line. not-false c.is_none.result (sym (is_line-no_feed c.args.bytes.now c.memchr.result c.memchr.ensures line) ∙ c.is_none.ensures),
)
