use Rattle.std.proofs.Common.{◌≡◌, ◌+◌, ◌-◌, ◌∙◌, ap, arith, Some}
use Rattle.nv_hl.specs.declared.linking.Group.TheVariants.{Plain, Link}
use Rattle.nv_hl.specs.Groups.{attr_along}
use Rattle.nv_hl.proofs.GroupLemmas.{at_plain, at_nothing, at_last_link, at_link}
use Rattle.nv_hl.proofs.stored.attr_from.Goals as goal

pub returns-in-Some-Plain : goal.returns-in-Some-Plain
returns-in-Some-Plain c =
    let inner : c.in-Some-Plain.field-0 ≡ Plain c.in-Some-Plain.attr = rw c.in-Some-Plain.is at c.in-Some-Plain.field-0-is in
    let is : c.loop-followed.group ≡ Some (Plain c.in-Some-Plain.attr) = c.in-Some-Plain.is ∙ ap Some inner in
    at_plain c.args.entries.now.items (64 - c.loop-followed.followed) c.loop-followed.group c.in-Some-Plain.attr is ∙ c.loop-followed.invariant

pub returns-in-None : goal.returns-in-None
returns-in-None c = at_nothing c.args.entries.now.items (64 - c.loop-followed.followed) c.loop-followed.group c.in-None.is ∙ c.loop-followed.invariant

pub loop-followed-preserved : goal.loop-followed-preserved
loop-followed-preserved c =
    let inner : c.in-Some-Link.field-0 ≡ Link c.in-Some-Link.next = rw c.in-Some-Link.is at c.in-Some-Link.field-0-is in
    let is : c.loop-followed.group ≡ Some (Link c.in-Some-Link.next) = c.in-Some-Link.is ∙ ap Some inner in
    at_link c.args.entries.now.items (64 - c.loop-followed.followed) (64 - (c.loop-followed.followed + 1)) c.loop-followed.group c.group_of-group-in-Some-Link.result c.in-Some-Link.next (omega arith) is
    c.group_of-group-in-Some-Link.ensures
    ∙ c.loop-followed.invariant

pub returns-in-Some-Plain-group : goal.returns-in-Some-Plain-group
returns-in-Some-Plain-group c =
    let inner : c.in-Some-Plain-group.field-0 ≡ Plain c.in-Some-Plain-group.attr = rw c.in-Some-Plain-group.is at c.in-Some-Plain-group.field-0-is in
    let is : c.loop-followed.group ≡ Some (Plain c.in-Some-Plain-group.attr) = c.in-Some-Plain-group.is ∙ ap Some inner in
    at_plain c.args.entries.now.items (64 - c.loop-followed.followed) c.loop-followed.group c.in-Some-Plain-group.attr is ∙ c.loop-followed.invariant

pub returns-in-Some-Link-group : goal.returns-in-Some-Link-group
returns-in-Some-Link-group c =
    let inner : c.in-Some-Link-group.field-0 ≡ Link c.in-Some-Link-group.field-0-0 = rw c.in-Some-Link-group.is at c.in-Some-Link-group.field-0-is in
    let is : c.loop-followed.group ≡ Some (Link c.in-Some-Link-group.field-0-0) = c.in-Some-Link-group.is ∙ ap Some inner in
    let all : 0 ≡ 64 - c.loop-followed.followed = omega arith in
    at_last_link c.args.entries.now.items c.loop-followed.group c.in-Some-Link-group.field-0-0 is ∙ ap (λ n. attr_along n c.args.entries.now.items c.loop-followed.group) all ∙ c.loop-followed.invariant

pub returns-in-None-group : goal.returns-in-None-group
returns-in-None-group c = at_nothing c.args.entries.now.items (64 - c.loop-followed.followed) c.loop-followed.group c.in-None-group.is ∙ c.loop-followed.invariant
