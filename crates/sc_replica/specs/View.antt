-- What contracts see of a replica.
use Rattle.std.specs.Prelude.{map}
use Rattle.std.specs.Arc.{arc_value}
use Rattle.sc_replica.specs.Core.{Core}
use Rattle.sc_replica.specs.declared.replica.Replica.TheInside.{Inside}

-- a replica's fields as a core
abbrev pub core_of : Inside → Core
core_of a = record {
  core = a.core;
  number = a.number;
  cells = a.cells.writes;
  mode = a.log.mode;
  buffer = map arc_value a.log.entries;
  clock = a.clock;
  down = a.down;
  cell_spare = a.cells.spare;
  buffer_spare = a.log.spare;
}
