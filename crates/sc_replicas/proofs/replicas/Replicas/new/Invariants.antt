-- So far each slice has its cores.
use Rattle.std.proofs.Common.{◌≡◌, All, map, take}
use Rattle.sc_replicas.specs.Cores.{core_key, core_keys, IsCounted, IsNewCore}
use Rattle.sc_replicas.proofs.replicas.Replicas.new.Given as goal

abbrev pub invariant-loop-at : goal.invariant-loop-at
invariant-loop-at l = record {
  keys : map core_key l.replicas.items ≡ core_keys (take l.at l.slices);
  new : All IsNewCore l.replicas.items;
  counted : All IsCounted l.replicas.items;
}
