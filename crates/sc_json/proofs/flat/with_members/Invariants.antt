-- The fields that were read are the members that were read, and those that are left go on from there.
use Rattle.std.proofs.Common.{◌≡◌, ℕ, ◌≤◌, length}
use Rattle.serde_json.specs.Data.{Members}
use Rattle.sc_schema.specs.Raw.{AscendByName}
use Rattle.sc_json.specs.Flat.{member_depth}
use Rattle.sc_json.specs.RawDocs.{raw_fields}
use Rattle.sc_json.proofs.TurnLemmas.{members_left}
use Rattle.sc_json.proofs.flat.with_members.Given as goal

abbrev pub invariant-members : goal.invariant-members
invariant-members l =
    AscendByName l.fields.items
    × (length l.reader ≤ length l.initial.reader)
    × ((first : Members) (most : ℕ) → raw_fields first ≡ l.initial.fields.items → length l.initial.reader ≤ most
    → (ms : Members) × (n : ℕ) × (length l.reader ≤ n)
    × (raw_fields ms ≡ l.fields.items)
    × (members_left member_depth most first l.initial.reader ≡ members_left member_depth n ms l.reader))

abbrev pub decreases-members : goal.decreases-members
decreases-members l = length l.reader
