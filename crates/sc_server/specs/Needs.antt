-- What a server needs before it opens its port.
use Rattle.std.specs.Prelude.{◌≡◌, ◌++◌, ℕ, List, length, codes, string_bytes, All}
use Rattle.std.specs.Fmt.{decimal}
use Rattle.sc_cores.specs.Cores.{cores_of_map}
use Rattle.sc_seen.specs.Seen.{nothing_opened}
use Rattle.sc_collection.specs.Shapes.{HasShape, SeesOpened}
use Rattle.sc_session.specs.Listening.{nothing_kept}
use Rattle.sc_shared.specs.declared.passes.Passes.{Passes}
use Rattle.sc_shared.specs.Passes.{seen_of}
use Rattle.sc_shared.specs.Collections.{Locks, layout_of}
use Rattle.sc_shared.specs.Sharing.{ArePasses}
use Rattle.sc_arguments.specs.declared.asked.Server.{Server}
use Rattle.sc_server.specs.declared.needs.Kit.{Kit}
use Rattle.sc_server.specs.declared.needs.Needs.{Needs}

-- the line that says that a server listens
abbrev pub listening_line : ℕ → List ℕ
listening_line port = codes "listening " ++ decimal port ++ codes "\n"

-- the collection behind these locks is new, and the passes are of it and have seen nothing
pub record AreNew (locks : Locks) (passes : Passes) : Type 0 where
  pub are : ArePasses locks passes
  pub opened : (layout_of locks).opened ≡ nothing_opened
  pub seen : SeesOpened (layout_of locks).opened (seen_of passes)

-- what one worker needs: new passes, and an empty trail
pub record IsKit (locks : Locks) (kit : Kit) : Type 0 where
  pub passes : AreNew locks kit.passes
  pub trail : kit.trail ≡ nothing_kept

-- What a server needs: a collection of its shape, new passes of it and the cores of its first map; what each worker needs; and the line
-- that says that it listens.
pub record AreNeeds (server : Server) (needs : Needs) : Type 0 where
  pub shape : HasShape server.shape (layout_of needs.collection)
  pub passes : AreNew needs.collection needs.passes
  pub cores : needs.cores ≡ cores_of_map server.shape.nodes (layout_of needs.collection).first
  pub count : length needs.kits.items ≡ server.workers
  pub kits : All (IsKit needs.collection) needs.kits.items
  pub line : string_bytes needs.line ≡ listening_line server.port
