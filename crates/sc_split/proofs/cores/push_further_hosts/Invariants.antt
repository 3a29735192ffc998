-- After the cores from before come those of the first subs, which have fewer than 256 replicas each.
use Rattle.std.proofs.Common.{◌≡◌, ◌<◌, ◌++◌, All, take}
use Rattle.std.specs.List.{flat_map}
use Rattle.sc_record.specs.declared.slice.SubSlice.{SubSlice}
use Rattle.sc_split.specs.Outside.{further_cores}
use Rattle.sc_split.proofs.cores.push_further_hosts.Given as goal

abbrev pub invariant-loop-sub : goal.invariant-loop-sub
invariant-loop-sub l = record {
  hosts : l.hosts.items ≡ l.initial.hosts.items ++ flat_map (further_cores l.nodes) (take l.sub-index l.subs);
  few : All (λ (sub : SubSlice). sub.replicas < 256) (take l.sub-index l.subs);
}
