-- The bucket is made of such parts.
use Rattle.std.proofs.Common.{◌≡◌, ◌∙◌, None, ℕ, List, length, map, filter, refl, ap, subst, arith}
use Rattle.std.specs.Arc.{arc_value}
use Rattle.sc_record.specs.Writes.{Write}
use Rattle.sc_record.specs.declared.entry.Entry.{Entry}
use Rattle.sc_bucket.specs.Kept.{FlightState}
use Rattle.sc_bucket.specs.declared.bucket.Bucket.{Bucket}
use Rattle.sc_bucket.specs.declared.phase.Phase.TheVariants as phases
use Rattle.sc_journal.specs.Journal.{writes, unsettled}
use Rattle.sc_journal.specs.Committed.{committed, last_commit}
use Rattle.sc_journal.specs.Splits.{map_after}
use Rattle.sc_restored.specs.Marks.{is_mark}
use Rattle.sc_restored.specs.Restored.{AreRestored, AreShown}
use Rattle.sc_restored.proofs.SoundLemmas.{AreParts, none_forming, counted_by, restored_of}
use Rattle.sc_restored.proofs.UnsettledLemmas.{unsettled_few}
use Rattle.sc_restored.proofs.bucket.restored.Goals as goal

pub map_after-requires-clause-idle : goal.map_after-requires-clause-idle
map_after-requires-clause-idle c = none_forming c.args.map.now c.requires.begins

pub searchers_of-requires : goal.searchers_of-requires
searchers_of-requires c = omega (arith, c.requires.within, c.requires.limit_to, ap (λ (e : List Entry). length e) c.as_slice-entries.ensures)

pub owed_by-owed-requires : goal.owed_by-owed-requires
owed_by-owed-requires c =
    omega (
      arith,
      c.requires.within,
      c.requires.limit_to,
      c.len.ensures,
      ap (λ (places : List ℕ). length places) c.in_ok-unsettled.ensures,
      unsettled_few c.as_slice-entries.result.now,
      ap (λ (e : List Entry). length e) c.as_slice-entries.ensures,
    )

pub returns : goal.returns
returns c =
    let first = c.args.map.now in
    let journal = c.args.journal in
    let entries = c.as_slice-entries.result.now in
    let same : entries ≡ journal = c.as_slice-entries.ensures in
    let marks : c.as_slice-marks.result.now ≡ filter is_mark journal =
    c.as_slice-marks.ensures.value ∙ c.in_ok-among.ensures ∙ ap (filter is_mark) same in
    let b : Bucket = record {
      first = c.in_ok-first.first;
      map = c.in_ok-slices.slices;
      journal = c.in_ok-kept.kept;
      unsettled = c.in_ok-unsettled.unsettled;
      replicas = c.in_ok-replicas.replicas;
      flight = c.new.result;
      searchers = c.in_ok-searchers.searchers;
      phase = phases.Idle;
      feeds = c.new-2.result;
      spares = None;
      owed = c.owed_by-owed.result;
      limit = c.args.limit;
    } in
    let parts : AreParts b first journal = record {
      is_map = c.get.ensures.map;
      may = c.requires;
      map_is = c.in_ok-slices.ensures ∙ ap (map_after first) same;
      places = c.in_ok-unsettled.ensures ∙ ap unsettled same;
      owed_is = counted_by c.in_ok-slices.slices journal c.as_slice-marks.result.now c.in_ok-unsettled.unsettled.places c.len.result
          c.owed_by-owed.result marks (c.in_ok-unsettled.ensures ∙ ap unsettled same)
          c.len.ensures c.owed_by-owed.ensures;
      room = omega (arith, c.in_ok-kept.ensures.room);
      filed = c.in_ok-kept.ensures.filed;
      cores = subst (λ (marks : List Entry). AreRestored c.in_ok-slices.slices marks (writes journal) c.in_ok-replicas.replicas)
          marks
          (subst (λ (these : List Write). AreRestored c.in_ok-slices.slices c.as_slice-marks.result.now these c.in_ok-replicas.replicas)
          (ap (map arc_value) c.as_slice-writes.ensures.value ∙ c.in_ok-cells.ensures ∙ ap (λ (e : List Entry). writes e) same) c.in_ok-replicas.ensures);
      searchers = subst (λ (e : List Entry). AreShown c.in_ok-slices.slices (last_commit e) (writes (committed e)) c.in_ok-searchers.searchers)
          same c.in_ok-searchers.ensures;
      messages = ap (λ (f : FlightState). f.messages) c.new.ensures;
      phase_is = refl;
      feeds_are = c.new-2.ensures;
      spares_are = refl;
    } in
    restored_of b first journal c.in_ok-first.ensures c.in_ok-kept.ensures.entries parts
