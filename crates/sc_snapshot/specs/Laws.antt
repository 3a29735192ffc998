-- What the rows of every snapshot are.
use Rattle.std.specs.Prelude.{◌≡◌, List, Contains, Some}
use Rattle.sc_record.specs.Writes.{Write, write_of}
use Rattle.sc_snapshot.specs.Rows.{AreRows}

-- a row is the write of its id, and no other row has that id
abbrev pub AreEachOfOneId : Type 0
AreEachOfOneId = (rows : List Write) → AreRows rows
    → ((row : Write) → Contains rows row → write_of rows row.id ≡ Some row)
    × ((one other : Write) → Contains rows one → Contains rows other → one.id ≡ other.id → one ≡ other)
