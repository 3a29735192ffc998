-- The names of cores.
use Rattle.std.specs.Prelude.{ℕ, Bool, ◌&&◌, nat_eq}
use Rattle.sc_record.specs.declared.slice.CoreId.{CoreId}

-- the name of a core as two numbers: its slice and its replica
abbrev pub key_of_core : CoreId → ℕ × ℕ
key_of_core core = (core.slice.0, core.replica)

-- the two are the name of one core
abbrev pub is_key : ℕ × ℕ → ℕ × ℕ → Bool
is_key one other = nat_eq one.0 other.0 && nat_eq one.1 other.1

-- the two names are those of one core
abbrev pub is_core : CoreId → CoreId → Bool
is_core one other = is_key (key_of_core one) (key_of_core other)
