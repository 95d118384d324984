use Rattle.std.proofs.Common.{◌∙◌, List, sym, ap, map}
use Rattle.nv_value.specs.View.{content}
use Rattle.nv_value.specs.declared.value.Value.{Value}
use Rattle.nv_value.proofs.Contents.{content-List}
use Rattle.nv_args.proofs.KindLemmas.{tree_list-contents}
use Rattle.nv_model.specs.Standing.{seen_buffer_now}
use Rattle.nv_api_mark.specs.Listing.{place_of_value, place_pair}
use Rattle.nv_api_mark.proofs.listing.place_of_value.Goals as goal

pub returns-in-List : goal.returns-in-List
returns-in-List c =
    let b = c.args.buffer.now in
    let values = c.in-List.values in
    c.place_pair.ensures
    ∙ ap (λ (vs : List Value). place_pair b.text (map content vs)) c.as_slice.ensures.value
    ∙ ap (place_pair b.text) (sym (tree_list-contents values.items))
    ∙ ap (place_of_value (seen_buffer_now b) c.args.meant) (sym (content-List values))
    ∙ ap (λ (v : Value). place_of_value (seen_buffer_now b) c.args.meant (content v)) (sym c.in-List.is)
