-- What a get shows, by the journals that were seen.
use Rattle.std.specs.Prelude.{◌≡◌, ℕ, false, List, [], ◌∷◌, ◌++◌, length, map, Option, Some, None, option_to_list, Result, IfOk, ⊤}
use Rattle.std.specs.Arc.{arc_value}
use Rattle.std.specs.Option.{option_map}
use Rattle.std.specs.declared.alloc.AllocError.{AllocError}
use Rattle.std.specs.declared.alloc.Global.{Global}
use Rattle.std.specs.declared.sync.Arc.{Arc}
use Rattle.sc_record.specs.Writes.{Write}
use Rattle.sc_values.specs.declared.field.Field.{Field}
use Rattle.sc_router.specs.Route.{bucket_of}
use Rattle.sc_journal.specs.Journal.{last_write}
use Rattle.sc_seen.specs.Seen.{Layout, Seen, FromNowOn, journal_at}
use Rattle.sc_seen.specs.Moments.{View, Keeps}
use Rattle.sc_seen.specs.declared.stop.Stop.{Stop}

-- the write, where it is no deletion
abbrev pub live : Option Write → Option Write
live None = None
live (Some write) = by_document write write.doc
  where
    by_document : Write → Option (List Field) → Option Write
    by_document write (Some doc) = Some write
    by_document write None = None

-- the journal of an id's bucket was read at the stop, which made no entry
pub record ReadsAt (layout : Layout) (id : List ℕ) (stop : Stop) : Type 0 where
  pub lock : stop.lock ≡ bucket_of id layout.buckets
  pub made : stop.made ≡ false

-- the document of an id at a stop: its last write there, where that is no deletion
abbrev pub live_at : Seen → List ℕ → Stop → Option Write
live_at seen id stop = live (last_write (journal_at seen stop) id)

-- One id was read at one stop, which was kept. What was found is its live write there.
pub record IsGot (layout : Layout) (old new : View) (id : List ℕ) (found : Result (Option (Arc Write Global)) AllocError) : Type 0 where
  pub stop : Stop
  pub reads : ReadsAt layout id stop
  pub keeps : Keeps layout old new (stop ∷ [])
  pub found_is : IfOk found (λ cell. FromNowOn new.seen (λ later. option_map arc_value cell ≡ live_at later id stop))

-- each id was read in turn at a stop of its own: as many of them as there are stops
abbrev pub ReadsEach : Layout → List (List ℕ) → List Stop → Type 0
ReadsEach layout ids [] = ⊤
ReadsEach layout [] (stop ∷ stops) = ⊥
ReadsEach layout (id ∷ ids) (stop ∷ stops) = ReadsAt layout id stop × ReadsEach layout ids stops

-- the documents of the ids that are live, in the order of the ids, each at its stop
abbrev pub live_writes : Seen → List (List ℕ) → List Stop → List Write
live_writes seen (id ∷ ids) (stop ∷ stops) = option_to_list (live_at seen id stop) ++ live_writes seen ids stops
live_writes seen _ _ = []

-- The ids were read in turn, each at its stop, which were kept, up to the end or up to where memory ran out.
pub record AreGot (layout : Layout) (old new : View) (ids : List (List ℕ)) (found : Result (List (Arc Write Global)) AllocError) : Type 0 where
  pub stops : List Stop
  pub keeps : Keeps layout old new stops
  pub reads : ReadsEach layout ids stops
  pub found_are : IfOk found (λ cells. (length stops ≡ length ids)
      × FromNowOn new.seen (λ later. map arc_value cells ≡ live_writes later ids stops))
