-- The names so far are those of the first subs.
use Rattle.std.proofs.Common.{◌≡◌, map, take}
use Rattle.sc_record.specs.declared.slice.SubSlice.{SubSlice}
use Rattle.sc_split.proofs.cores.names.Given as goal

abbrev pub invariant-loop-sub : goal.invariant-loop-sub
invariant-loop-sub l = l.names.items ≡ map (λ (sub : SubSlice). sub.name) (take l.sub-index l.subs)
