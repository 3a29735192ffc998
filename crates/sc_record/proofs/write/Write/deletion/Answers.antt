-- A run without bytes has no document and no terms.
use Rattle.std.specs.Int.{w32, w64}
use Rattle.std.proofs.lemmas.Int.{to_z-of_z}
use Rattle.sc_spelling.specs.Reading.{read_of}
use Rattle.sc_record.proofs.WriteLemmas.{none_kept}
use Rattle.sc_record.proofs.write.Write.deletion.Goals as goal

pub returns : goal.returns
returns c =
    let none = none_kept c.args.id c.new.result.items c.new.ensures.items in
    let hash = to_z-of_z w32 c.args.hash c.ranges.hash in
    let version = to_z-of_z w64 c.args.version c.ranges.version in
    λ i. record { id = c.args.id; hash = hash i; version = version i; doc = none.0 i; terms = read_of (none.1 i) }
