-- The list of an array's values.
use Rattle.std.proofs.Common.{List, map, ap, sym, ◌∙◌}
use Rattle.serde_json.specs.View.{view}
use Rattle.serde_json.specs.declared.value.Value.{Value}
use Rattle.sc_schema.specs.declared.raw.RawFlat.TheVariants.{Many}
use Rattle.sc_json.specs.RawDocs.{raw_one}
use Rattle.sc_json.proofs.RawLemmas.{flat_of_array}
use Rattle.sc_json.proofs.raw.raw_flat.Goals as goal

pub returns-in_ok-raw_items-in-Array : goal.returns-in_ok-raw_items-in-Array
returns-in_ok-raw_items-in-Array c =
    ap Many (c.in_ok-raw_items-in-Array.ensures ∙ ap (λ (vs : List Value). map raw_one (map view vs)) c.as_slice.ensures.value)
    ∙ sym (flat_of_array c.args.value.now c.in-Array.items c.in-Array.is)
