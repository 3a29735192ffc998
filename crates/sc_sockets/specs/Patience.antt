-- How long a client may keep its worker waiting.
use Rattle.std.specs.Prelude.{ℕ, ◌+◌, ◌-◌, ◌*◌, ◌/◌, ◌^◌, min}

-- a minute and for each KiB a second more, in milliseconds, as far as 64 bits go
abbrev pub patience_of : ℕ → ℕ
patience_of bytes = min (60_000 + bytes / 1_024 * 1_000) (2 ^ 64 - 1)
