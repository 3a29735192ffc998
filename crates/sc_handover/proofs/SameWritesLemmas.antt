-- What is true of a core stays true where the journal gets an entry that is no write, and the core's slice stays.
use Rattle.std.proofs.Common.{◌≡◌, ◌⊎◌, ◌∙◌, ℕ, pos, List, map, filter, All, Contains, sym, ap, subst}
use Rattle.sc_record.specs.Writes.{is_of, Write}
use Rattle.sc_record.specs.declared.entry.Entry.{Entry}
use Rattle.sc_cluster.specs.declared.slice.Slice.{Slice}
use Rattle.sc_replica.specs.Core.{Core}
use Rattle.sc_journal.specs.Journal.{writes, last_of, last_write}
use Rattle.sc_bucket.proofs.DeliveredLemmas.{IsSoundCore}

-- of the same writes the last one of an id is the same
pub last_write-same : (journal longer : List Entry) (id : List ℕ) → writes longer ≡ writes journal
    → last_write longer id ≡ last_write journal id
last_write-same journal longer id same = ap (λ (all : List Write). last_of (filter (is_of id) all)) same

-- a core is sound beside a journal with the same writes, and a map in which its slice is as before
pub same_writes_is_sound : (slices others : List Slice) (journal longer : List Entry) (sent pending : List Write)
    (core : Core) → writes longer ≡ writes journal
    → ((slice : Slice) → Contains others slice → slice.id ≡ core.core.slice → Contains slices slice)
    → IsSoundCore slices journal sent pending core → IsSoundCore others longer sent pending core
same_writes_is_sound slices others journal longer sent pending core same from sound = record {
  serves = λ slice there named active leader.
      let before = sound.serves slice (from slice there named) named active leader in
      (before.0, λ id within. before.1 id within ∙ sym (last_write-same journal longer id same));
  written = (
    subst (λ (all : List Write). All (Contains all) core.cells) (sym same) sound.written.0,
    subst (λ (all : List Write). All (Contains all) pending) (sym same) sound.written.1,
  );
  held = λ slice there named attached id write within is.
      sound.held slice (from slice there named) named attached id write within
      (sym (last_write-same journal longer id same) ∙ is);
  in_range = λ slice there named. sound.in_range slice (from slice there named) named;
  clock = subst (λ (all : List Write). (core.clock ≡ pos 0)
      ⊎ Contains (map (λ (write : Write). write.version) all) core.clock)
      (sym same) sound.clock;
  cell_room = sound.cell_room;
  buffer_room = sound.buffer_room;
}
