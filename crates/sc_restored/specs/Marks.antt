-- What an entry says of a seat before it.
use Rattle.std.specs.Prelude.{ℕ, nat_eq, if◌then◌else◌, Bool, true, false}
use Rattle.sc_record.specs.declared.slice.SliceId.{SliceId}
use Rattle.sc_record.specs.declared.entry.Entry.{Entry}
use Rattle.sc_record.specs.declared.entry.Entry.TheVariants as entry

-- the entry says something of a seat: it is of a core, or drops a slice
abbrev pub is_mark : Entry → Bool
is_mark (entry.Dropped slice) = true
is_mark (entry.Down core) = true
is_mark (entry.Up core) = true
is_mark (entry.Led core) = true
is_mark _ = false

-- the entry takes the slice away
abbrev pub resets : SliceId → Entry → Bool
resets slice (entry.Dropped other) = nat_eq other.0 slice.0
resets slice _ = false

-- the seat, before the entry, of the core that sits at this one after it, where the entry does not take the slice away
abbrev pub seat_before : SliceId → Entry → ℕ → ℕ
seat_before slice (entry.Led core) at =
    if nat_eq core.slice.0 slice.0 then (if nat_eq at 1 then core.replica else if nat_eq at core.replica then 1 else at) else at
seat_before slice _ at = at
