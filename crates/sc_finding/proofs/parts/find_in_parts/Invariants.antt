-- So far what the first parts find.
use Rattle.std.proofs.Common.{◌≡◌, ◌*◌, ◌++◌, length, take}
use Rattle.sc_eval.specs.Criteria.{criterion_of}
use Rattle.sc_finding.specs.Hits.{HasFound}
use Rattle.sc_finding.proofs.parts.find_in_parts.Given as goal

abbrev pub invariant-loop-part : goal.invariant-loop-part
invariant-loop-part g l = record {
  left : l.yielded ++ l.part-iterator.rest.items ≡ l.initial.part-iterator.rest.items;
  far : HasFound (criterion_of l.query) l.most (take (length l.yielded * l.size) l.searchers) l.all;
}
