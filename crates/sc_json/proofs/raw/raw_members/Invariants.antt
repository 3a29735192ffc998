-- The fields that were read come before those of the members that are left.
use Rattle.std.proofs.Common.{◌≡◌, ◌++◌}
use Rattle.serde_json.specs.View.{members_view}
use Rattle.sc_json.specs.RawDocs.{raw_fields}
use Rattle.sc_json.proofs.raw.raw_members.Given as goal

abbrev pub invariant-loop-name : goal.invariant-loop-name
invariant-loop-name l =
    l.fields.items ++ raw_fields (members_view l.name-iterator) ≡ raw_fields (members_view l.fn.members.entries)
