-- The member is looked for among those that are left.
use Rattle.std.proofs.Common.{◌≡◌, drop}
use Rattle.sc_schema.specs.Documents.{member}
use Rattle.sc_schema.proofs.document.member.Given as goal

abbrev pub invariant-loop-field : goal.invariant-loop-field
invariant-loop-field l = member (drop l.field-index l.fields) l.name ≡ member l.fields l.name
