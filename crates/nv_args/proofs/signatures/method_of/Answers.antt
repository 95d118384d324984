use Rattle.std.proofs.Common.{◌≡◌, List, map, Option, Some, None, sym, ap, subst, ◌∙◌}
use Rattle.std.specs.Prelude.{length, slice_get}
use Rattle.std.specs.Option.{option_or}
use Rattle.nv_args.specs.Methods.{signature_of}
use Rattle.nv_args.specs.Table.{Signature, other_names, signature_among, table}
use Rattle.nv_args.specs.inside.Lookup.{of_length}
use Rattle.nv_args.proofs.NameLookup.{brief_found, name_found}
use Rattle.nv_args.proofs.signatures.method_of.Goals as goal

-- the places are of names as long as this one
pub named_at-requires : goal.named_at-requires
named_at-requires c =
    subst (λ (ts : List Signature). map (slice_get ts) c.places_of_length.result.now ≡ map Some (of_length (length c.args.name.now) ts)) (sym c.told_signatures.ensures)
    c.places_of_length.ensures

pub returns-in-Some : goal.returns-in-Some
returns-in-Some c =
    let others = signature_among c.args.name.now other_names in
    let told : Some (signature_of c.in-Some.signature.now) ≡ signature_among c.args.name.now table =
    c.in-Some.ensures ∙ ap (signature_among c.args.name.now) c.told_signatures.ensures in
    let named = ap (λ (o : Option Signature). option_or o others) told in
    record {
      signature = named;
      name = name_found c.args.name.now (Some c.in-Some.signature) named;
      brief = brief_found c.args.name.now (Some c.in-Some.signature) named;
    }

pub returns-in-None : goal.returns-in-None
returns-in-None c =
    let others = signature_among c.args.name.now other_names in
    let none : None ≡ signature_among c.args.name.now table =
    c.in-None.ensures ∙ ap (signature_among c.args.name.now) c.told_signatures.ensures in
    let named = c.named.ensures ∙ ap (signature_among c.args.name.now) c.other_names.ensures ∙ ap (λ (o : Option Signature). option_or o others) none in
    record {
      signature = named;
      name = name_found c.args.name.now c.named.result named;
      brief = brief_found c.args.name.now c.named.result named;
    }
