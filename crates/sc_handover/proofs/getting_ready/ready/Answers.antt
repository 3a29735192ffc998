-- Only the phase changes, and the leaders of all subs are active.
use Rattle.std.proofs.Common.{◌≡◌, refl, sym, ap, subst}
use Rattle.sc_record.specs.declared.slice.SliceId.{SliceId}
use Rattle.sc_bucket.specs.Searchers.{ArePrepared}
use Rattle.sc_bucket.specs.Sound.{is_idle, AreLedActively, IsInPhase, IsSound}
use Rattle.sc_bucket.specs.declared.bucket.Bucket.{Bucket}
use Rattle.sc_bucket.specs.declared.phase.Phase.{Phase}
use Rattle.sc_bucket.specs.declared.phase.Phase.TheVariants as phases
use Rattle.sc_bucket.proofs.RoomLemmas.{HasJournal-same}
use Rattle.sc_bucket.proofs.SearcherLemmas.{HasSearchers-same}
use Rattle.sc_bucket.proofs.SoundLemmas.{HasCores-alike, AreFeeds-alike, IsOpen-same, AreSent-same}
use Rattle.sc_handover.proofs.getting_ready.ready.Goals as goal

-- the bucket in another phase
abbrev in_phase : Bucket → Phase → Bucket
in_phase b phase = record b { phase = phase }

IsSound-ready : (b : Bucket) (parent : SliceId) → IsSound b → b.phase ≡ phases.Building parent → AreLedActively b
    → IsSound (in_phase b (phases.Recovering parent))
IsSound-ready b parent sound is led =
    let new : Bucket = in_phase b (phases.Recovering parent) in
    let same_idle : is_idle new.phase ≡ is_idle b.phase = ap is_idle (sym is) in
    record {
      journal = HasJournal-same b new refl refl refl refl refl refl sound.journal.room
          sound.journal;
      leaders = sound.leaders;
      written = sound.written;
      held = sound.held;
      in_range = sound.in_range;
      clocks = sound.clocks;
      in_order = sound.in_order;
      searchers = HasSearchers-same b new refl refl refl sound.searchers;
      prepared = subst (λ phase. ArePrepared phase b.map b.searchers b.spares) is sound.prepared;
      messages = AreSent-same b new refl refl refl sound.messages;
      room = sound.room;
      cores = HasCores-alike b new same_idle refl refl sound.cores.marked sound.cores;
      feeds = AreFeeds-alike b new same_idle refl refl refl sound.feeds;
      phase = (IsOpen-same b new parent refl refl (subst (IsInPhase b) is sound.phase), led);
    }

pub returns-clause-sound : goal.returns-clause-sound
returns-clause-sound c =
    IsSound-ready c.args.bucket.now c.in-Building.parent c.requires.sound c.in-Building.is c.requires.can.1.1
