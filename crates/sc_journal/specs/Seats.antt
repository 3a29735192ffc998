-- Which core of a slice sits in which of its seats. A slice has as many seats as replicas, counted from 1, and the core in seat 1
-- leads. At first core k, from 1, sits in seat k.
use Rattle.std.specs.Prelude.{ℕ, nat_eq, if◌then◌else◌, List, fold}
use Rattle.sc_record.specs.declared.slice.SliceId.{SliceId}
use Rattle.sc_record.specs.declared.entry.Entry.{Entry}
use Rattle.sc_record.specs.declared.entry.Entry.TheVariants as entry

-- the cores by their seats, once those in seat 1 and in this one changed places
abbrev pub exchanged : ℕ → (ℕ → ℕ) → ℕ → ℕ
exchanged seat core_in at =
    if nat_eq at 1 then core_in seat
    else if nat_eq at seat then core_in 1
    else core_in at

-- the cores of the slice by their seats after an entry; the other are those before it
abbrev pub seats_after : SliceId → (ℕ → ℕ) → Entry → (ℕ → ℕ)
seats_after slice core_in (entry.Led core) = if nat_eq core.slice.0 slice.0 then exchanged core.replica core_in else core_in
seats_after slice core_in (entry.Dropped other) = if nat_eq other.0 slice.0 then (λ (seat : ℕ). seat) else core_in
seats_after slice core_in _ = core_in

-- the cores of the slice by their seats
abbrev pub seats : List Entry → SliceId → ℕ → ℕ
seats journal slice = fold (seats_after slice) (λ (seat : ℕ). seat) journal
