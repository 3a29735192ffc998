-- A bucket that was held, read and given back as it was is a stop at which its id was got.
use Rattle.std.proofs.Common.{◌≡◌, ℕ, ◌<◌, false, List, [], ◌∷◌, ◌++◌, refl, sym, ap, ◌∙◌, subst}
use Rattle.std.specs.Prelude.{Option, Result, Ok, Err, IfOk}
use Rattle.std.specs.Arc.{arc_value}
use Rattle.std.specs.Option.{option_map}
use Rattle.std.specs.declared.alloc.AllocError.{AllocError}
use Rattle.std.specs.declared.alloc.Global.{Global}
use Rattle.std.specs.declared.sync.Arc.{Arc}
use Rattle.std.proofs.lemmas.List.{append-nil}
use mathlib.Core.List.{IsPrefix}
use Rattle.sc_record.specs.declared.entry.Entry.{Entry}
use Rattle.sc_record.specs.Writes.{Write}
use Rattle.sc_router.specs.Route.{bucket_of}
use Rattle.sc_journal.specs.Journal.{last_write}
use Rattle.sc_seen.specs.Seen.{Layout, Seen, FromNowOn}
use Rattle.sc_seen.specs.Moments.{View}
use Rattle.sc_seen.proofs.GoesOnLemmas.{take-prefix}
use Rattle.sc_bucket.specs.declared.bucket.Bucket.{Bucket}
use Rattle.sc_collection.specs.Desks.{SeesGiven}
use Rattle.sc_collection.proofs.StopLemmas.{GoesOn-held, stop_at}
use Rattle.sc_get.specs.Got.{IsGot, live, live_at}

-- what was live at the stop is so in all that is seen later
found_later : (id : List ℕ) (new : Seen) (number : ℕ) (journal : List Entry) (found : Result (Option (Arc Write Global)) AllocError)
    → new.journals number ≡ journal
    → IfOk found (λ cell. option_map arc_value cell ≡ live (last_write journal id))
    → IfOk found (λ cell. FromNowOn new (λ later. option_map arc_value cell ≡ live_at later id (stop_at number journal false)))
found_later id new number journal (Ok cell) seen is = λ later more.
    let begins : IsPrefix journal (later.journals number) = subst (λ (j : List Entry). IsPrefix j (later.journals number)) seen (more.journals number) in
    is ∙ ap (λ (j : List Entry). live (last_write j id)) (sym (take-prefix journal (later.journals number) begins))
found_later id new number journal (Err fault) seen is = is

pub got : (layout : Layout) (old new : View) (bucket : Bucket) (number : ℕ) (id : List ℕ)
    (found : Result (Option (Arc Write Global)) AllocError)
    → number ≡ bucket_of id layout.buckets → number < layout.buckets
    → IsPrefix (old.seen.journals number) bucket.journal.entries
    → SeesGiven (record { number = number; bucket = bucket; by_keeper = false }) bucket old.seen new.seen
    → new.stops ≡ old.stops ++ stop_at number bucket.journal.entries false ∷ []
    → IfOk found (λ cell. option_map arc_value cell ≡ live (last_write bucket.journal.entries id))
    → IsGot layout old new id found
got layout old new bucket number id found here below begins sees kept is = record {
  stop = stop_at number bucket.journal.entries false;
  reads = record { lock = here; made = refl };
  keeps = record {
    goes = GoesOn-held layout old.seen new.seen (record { number = number; bucket = bucket; by_keeper = false }) bucket false [] below begins
        (sym (append-nil bucket.journal.entries)) refl sees;
    kept = kept;
  };
  found_is = found_later id new.seen number bucket.journal.entries found sees.journal is;
}
