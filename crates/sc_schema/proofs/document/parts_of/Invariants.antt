-- The changes so far, and then those that the members left ask for.
use Rattle.std.proofs.Common.{◌≡◌, ◌++◌, drop}
use Rattle.sc_schema.specs.Documents.{found_map, member_changes}
use Rattle.sc_schema.proofs.document.parts_of.Given as goal

abbrev pub invariant-loop-field : goal.invariant-loop-field
invariant-loop-field l =
    member_changes l.fields ≡ found_map (λ more. l.parts ++ more) (member_changes (drop l.field-index l.fields))
