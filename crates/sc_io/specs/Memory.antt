-- What a source in memory does, call by call.
use Rattle.std.specs.Prelude.{◌≡◌, ◌↔◌, ◌+◌, ◌-◌, ◌^◌, ℕ, List, length, drop, min, Result, IfOk, IsErr, OnErr, Contains}
use Rattle.sc_io.specs.declared.fault.Failed.{Failed}
use Rattle.sc_io.specs.declared.mem_source.MemSource.{MemSource}

-- A read fails exactly where its number is in the list. It gives as many bytes as there are, as it may and as there is room for,
-- and leaves the rest of the room as it was.
pub record ReadsMemory (old new : MemSource) (room filled : List ℕ) (result : Result ℕ Failed) : Type 0 where
  pub fails : IsErr result ↔ Contains old.fails old.calls
  pub piece : IfOk result (λ n. n ≡ min (min (length old.bytes - old.at) old.most) (length room))
  pub beyond : IfOk result (λ n. drop n filled ≡ drop n room)
  pub untouched : OnErr result (filled ≡ room)
  pub counted : new.calls ≡ min (old.calls + 1) (2 ^ 64 - 1)
  pub bytes : new.bytes ≡ old.bytes
  pub failing : new.fails ≡ old.fails
  pub most : new.most ≡ old.most
