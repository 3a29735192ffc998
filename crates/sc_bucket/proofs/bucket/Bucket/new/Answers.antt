-- A new bucket is sound, and begins with the map.
use Rattle.std.proofs.Common.{[], None, refl, sym, subst, arith}
use Rattle.sc_cluster.specs.Map.{IsMap}
use Rattle.sc_bucket.specs.New.{IsNewBucket}
use Rattle.sc_bucket.specs.declared.bucket.Bucket.{Bucket}
use Rattle.sc_bucket.specs.declared.phase.Phase.TheVariants as phases
use Rattle.sc_replicas.proofs.CoreLemmas.{have_leaders}
use Rattle.sc_bucket.proofs.NewLemmas.{IsMade, has_room_for, IsSound-new}
use Rattle.sc_bucket.proofs.SearcherLemmas.{AreLed-from_keys}
use Rattle.sc_bucket.proofs.bucket.Bucket.new.Goals as goal

pub returns : goal.returns
returns c =
    let same = c.in_ok-first.ensures in
    let is_map : IsMap c.args.map.now = c.get.ensures.map in
    let b : Bucket = record {
      first = c.in_ok-first.first;
      map = c.in_ok-slices.slices;
      journal = c.in_ok-journal.journal;
      unsettled = record { places = []; room = 0 };
      replicas = c.in_ok-replicas.replicas;
      flight = record { messages = []; room = 0 };
      searchers = c.in_ok-searchers.searchers;
      phase = phases.Idle;
      feeds = [];
      spares = None;
      owed = c.followers-owed.result;
      limit = c.args.limit;
    } in
    let made : IsMade b c.args.map.now c.args.limit = record {
      first_is = same;
      map_is = c.in_ok-slices.ensures;
      entries = c.in_ok-journal.ensures.entries;
      places = refl;
      owed_is = c.followers-owed.ensures;
      room = has_room_for c.followers-owed.result _ c.in_ok-journal.journal.room c.in_ok-journal.ensures.room (omega arith);
      limit_is = refl;
      keys = c.in_ok-replicas.ensures.keys;
      messages = refl;
      new = c.in_ok-replicas.ensures.new;
      counted = c.in_ok-replicas.ensures.counted;
      searchers = c.in_ok-searchers.ensures c.in_ok-replicas.replicas
          (AreLed-from_keys c.args.map.now c.in_ok-replicas.replicas
          (have_leaders c.args.map.now c.in_ok-replicas.replicas c.in_ok-replicas.ensures.keys)) c.in_ok-replicas.ensures.new;
      phase_is = refl;
      feeds_are = refl;
      spares_are = refl;
    } in
    let new : IsNewBucket c.args.map.now c.args.limit b = record {
      sound = IsSound-new b c.args.map.now c.args.limit is_map c.requires.active c.requires.least c.requires.most made;
      first = same;
      map_is = c.in_ok-slices.ensures;
      journal = c.in_ok-journal.ensures.entries;
      filed = c.in_ok-journal.ensures.filed;
      limit = refl;
      cores = c.in_ok-replicas.ensures.new;
      phase = refl;
      feeds = refl;
    } in
    subst (IsNewBucket c.args.map.now c.args.limit) (sym c.begun.ensures) new
