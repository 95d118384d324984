use Rattle.std.proofs.Common.{◌≡◌, ◌∙◌, ap, rules, to_z, of_z, w64}
use Rattle.std.specs.List.{list_any}
use Rattle.nv_model.specs.Deleting.{other_handles}
use Rattle.nv_model.specs.Seen.{is_name_of}
use Rattle.nv_model.specs.Standing.{seen_now}
use Rattle.nv_api_buf.proofs.buffers.has_other.Goals as goal

pub returns : goal.returns
returns c =
    let e : to_z w64 (of_z w64 c.args.live.handle) ≡ c.args.live.handle = search rules in
    let s = seen_now c.args.editor.now in
    c.is_named_other.ensures
    ∙ ap (λ n. list_any (λ k. is_name_of c.args.name.now (s.buffer k)) (other_handles n s.handles)) e
