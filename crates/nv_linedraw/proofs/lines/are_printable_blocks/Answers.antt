use Rattle.std.proofs.Common.{◌≡◌, ◌+◌, ◌-◌, ◌∙◌, ap, arith, drop, length, rules, subst, sym, take, true}
use Rattle.std.proofs.lemmas.List.{length-drop, take_all}
use Rattle.std.specs.Int.{is_in_range}
use Rattle.std.specs.List.{list_all}
use Rattle.nv_linedraw.proofs.Printable.{all_more, all_parts}
use Rattle.nv_linedraw.proofs.lines.are_printable_blocks.Goals as goal

pub looking-preserved : goal.looking-preserved
looking-preserved c =
    let bytes = c.args.bytes.now in
    let at = c.looking.at in
    let block : list_all (is_in_range 0x20 0x7E) (take (at + 16 - at) (drop at bytes)) ≡ true = search rules in
    let more : at + 16 ≡ at + (at + 16 - at) = omega arith in
    ap (λ n. list_all (is_in_range 0x20 0x7E) (take n bytes)) more
    ∙ all_more (is_in_range 0x20 0x7E) bytes at (at + 16 - at) c.looking.invariant block

pub returns : goal.returns
returns c plain =
    let bytes = c.args.bytes.now in
    let end = length bytes - 16 in
    let block : list_all (is_in_range 0x20 0x7E) (take (end + 16 - end) (drop end bytes)) ≡ true = search rules in
    let all : take (end + 16 - end) (drop end bytes) ≡ drop end bytes =
    take_all (end + 16 - end) (drop end bytes) (omega (arith, c.requires, length-drop end bytes)) in
    all_parts (is_in_range 0x20 0x7E) bytes c.looking.at end (omega (arith, c.looking-test.false)) c.looking.invariant
    (ap (list_all (is_in_range 0x20 0x7E)) (sym all) ∙ block)
