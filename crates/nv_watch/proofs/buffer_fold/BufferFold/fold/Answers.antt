use Rattle.std.proofs.Common.{rules, ◌≡◌, List, [], ◌∷◌, ◌++◌, Option, map, ap, sym, subst, ◌∙◌}
use Rattle.nv_rpc.specs.Messages.{Sent}
use Rattle.nv_rpc.specs.MessageView.{sent_of}
use Rattle.nv_rpc.specs.declared.message.Message.{Message}
use Rattle.nv_model.specs.Seen.{Seen}
use Rattle.nv_watch.specs.SentParts.{is_whole_sent, messages_sent}
use Rattle.nv_watch.specs.SeenWorlds.{editor_seen}
use Rattle.nv_watch.specs.Verdicts.{sight}
use Rattle.nv_watch.specs.declared.mirror.Followed.{Followed}
use Rattle.nv_watch.specs.declared.verdict.Verdict.{Verdict}
use Rattle.nv_watch.specs.inside.Folded.{HasFoldedIn}
use Rattle.nv_watch.specs.inside.Looking.{HaveLookedIn}
use Rattle.nv_watch.proofs.Folded.{folded_more, known_last}
use Rattle.nv_watch.proofs.buffer_fold.BufferFold.fold.Goals as goal

pub returns : goal.returns
returns c = λ seen before becomes shares old.
    let step = c.args.step.now in
    let x = sight c.args.world.now step in
    let told : List Message = c.as_slice-messages.result.now in
    let messages : List Sent = map sent_of told in
    let mid : List Followed = c.take_each.new.all.items in
    let later : List Followed = c.look_in-other.new.all.items in
    let told_is : told ≡ c.in_ok-parts.parts.messages.items = c.as_slice-messages.ensures.value in
    let parts_are : map sent_of c.in_ok-parts.parts.messages.items ≡ messages_sent step.sent = search rules in
    let sent : messages ≡ messages_sent step.sent = ap (map sent_of) told_is ∙ parts_are in
    let whole : c.in_ok-parts.parts.is_whole ≡ is_whole_sent step.sent = search rules in
    let looked : HaveLookedIn (editor_seen c.args.world.now) step messages mid later c.look_in-other.result =
    subst (λ (o : Option Seen). HaveLookedIn o step messages mid later c.look_in-other.result) c.editor_of.ensures c.look_in-other.ensures in
    let shown = looked.shows before becomes (c.in_ok-fit.ensures.shares before shares) in
    subst (λ (v : Verdict). HasFoldedIn later v (seen ++ x ∷ []))
    (sym c.with-self.ensures)
    (record {
      kept =
          folded_more _ later _ seen x messages _ _ _ _ sent whole c.in_ok-fit.ensures.fits
          (λ s n. looked.same s n ∙ c.in_ok-fit.ensures.after s n)
          (λ h. looked.apart (c.in_ok-fit.ensures.apart h)) shown.0 c.is_broken-broken.ensures old;
      known = known_last later seen x shown.1;
    })
