-- A split that begins in the bucket with more room for its journal begins in the bucket.
use Rattle.std.proofs.Common.{◌≡◌, ◌≤◌, ◌+◌, List, [], ◌∷◌, ◌++◌, length, map, refl, sym, ap, ◌∙◌, subst}
use Rattle.sc_record.specs.declared.slice.SliceId.{SliceId}
use Rattle.sc_record.specs.declared.slice.SubSlice.{SubSlice}
use Rattle.sc_record.specs.declared.entry.Entry.{Entry}
use Rattle.sc_record.specs.declared.entry.Entry.TheVariants as entry
use Rattle.sc_journal.specs.Splits.{owed, entries_of_split}
use Rattle.sc_bucket.specs.Kept.{JournalState}
use Rattle.sc_bucket.specs.Searchers.{AreTaken}
use Rattle.sc_bucket.specs.declared.bucket.Bucket.{Bucket}
use Rattle.sc_bucket.specs.Sound.{IsSound}
use Rattle.sc_handover.proofs.ReservedLemmas.{IsSound-reserved, CanBegin-reserved}
use Rattle.sc_handover.specs.Events.{Begins}
use Rattle.sc_handover.proofs.beginning.begin.Goals as goal
use Rattle.sc_handover.specs.Made.{first_feed}

-- a split that begins with more room for the journal begins without it
Begins-reserved : (b new : Bucket) (journal : JournalState) (parent : SliceId) (subs others : List SubSlice)
    → journal.entries ≡ b.journal.entries → journal.filed ≡ b.journal.filed → subs ≡ others → Begins (record b { journal = journal }) parent subs new
    → Begins b parent others new
Begins-reserved b new journal parent subs others same same_filed same_subs is =
    subst (λ (these : List SubSlice). Begins b parent these new) same_subs (record {
      name = record { first = is.name.first; limit = is.name.limit; filed = is.name.filed ∙ same_filed };
      room = subst (λ (entries : List Entry). length entries + owed b.first entries + entries_of_split subs ≤ b.limit) same is.room;
      map_is = is.map_is;
      entries = is.entries ∙ ap (λ (entries : List Entry). entries ++ entry.Begun parent subs ∷ []) same;
      phase_is = is.phase_is;
      messages = is.messages;
      cores = is.cores;
      leader = is.leader;
      leader_there = is.leader_there;
      leader_is = is.leader_is;
      feeds_are = subst (λ (entries : List Entry). new.feeds ≡ map (first_feed (record { place = length entries; rows = is.leader.cells })) subs)
          same is.feeds_are;
      searchers_are = subst (λ (entries : List Entry). AreTaken b.map b.replicas (length entries) new.searchers) same
          is.searchers_are;
    })

pub returns-in_err-reserve-clause-sound : goal.returns-in_err-reserve-clause-sound
returns-in_err-reserve-clause-sound c =
    subst (λ (journal : JournalState). IsSound (record c.args.bucket.now { journal = journal }))
    (sym c.in_err-reserve.ensures.err) c.requires.sound

pub prepare-requires-clause-sound : goal.prepare-requires-clause-sound
prepare-requires-clause-sound c =
    IsSound-reserved c.args.bucket.now c.reserve.new.self _ c.in_ok-reserve.ensures.ok c.requires.sound

pub prepare-requires-clause-can : goal.prepare-requires-clause-can
prepare-requires-clause-can c =
    CanBegin-reserved c.args.bucket.now c.reserve.new.self c.args.plan.now.parent c.args.plan.now.subs c.args.plan.now.subs refl
    c.requires.can

pub put_begun-requires-clause-can : goal.put_begun-requires-clause-can
put_begun-requires-clause-can c =
    CanBegin-reserved c.args.bucket.now c.reserve.new.self c.args.plan.now.parent c.args.plan.now.subs
    c.in_ok-beginning.beginning.subs (sym c.in_ok-beginning.ensures.subs) c.requires.can

pub put_begun-requires-clause-sound : goal.put_begun-requires-clause-sound
put_begun-requires-clause-sound c =
    IsSound-reserved c.args.bucket.now c.reserve.new.self _ c.in_ok-reserve.ensures.ok c.requires.sound

pub returns-in_err-beginning-clause-sound : goal.returns-in_err-beginning-clause-sound
returns-in_err-beginning-clause-sound c =
    IsSound-reserved c.args.bucket.now c.reserve.new.self _ c.in_ok-reserve.ensures.ok c.requires.sound

pub returns-clause-begun : goal.returns-clause-begun
returns-clause-begun c =
    Begins-reserved c.args.bucket.now c.put_begun.new.bucket c.reserve.new.self c.args.plan.now.parent
    c.in_ok-beginning.beginning.subs c.args.plan.now.subs
    (ap (λ (journal : JournalState). journal.entries) c.in_ok-reserve.ensures.ok)
    (ap (λ (journal : JournalState). journal.filed) c.in_ok-reserve.ensures.ok) c.in_ok-beginning.ensures.subs
    c.in_ok-put_begun.ensures.begun
