-- Once every member was read, the fields ascend.
use Rattle.std.proofs.Common.{sym, subst}
use Rattle.sc_schema.specs.Raw.{AscendByName}
use Rattle.sc_json.proofs.RawLemmas.{all_read}
use Rattle.sc_json.proofs.raw.raw_members.Goals as goal

pub invariant_of-result : goal.invariant_of-result
invariant_of-result c =
    let l = c.loop-name in
    let sorted = all_read l.fields.items c.args.members.now.entries l.name-iterator c.in-None.ensures.steps.0 c.len.ensures.ordered l.invariant in
    record { ascend = subst AscendByName (sym c.from_vec.ensures) sorted }
