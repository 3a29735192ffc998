-- The fields of a workload's documents fit their names, which ascend.
use Rattle.std.proofs.Common.{ℕ, refl}
use Rattle.sc_values.specs.Fields.{AreFields, kind_of}
use Rattle.sc_workload.specs.Workload.{fields_at}

pub fields_fit : (place : ℕ) → AreFields (fields_at place)
unfolding kind_of
fields_fit place = record { each = (refl, (refl, tt)); ascends = (refl, (tt, tt)) }
