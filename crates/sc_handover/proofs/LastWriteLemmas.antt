-- A core for which nothing is pending has the last writes.
use Rattle.std.proofs.Common.{◌≡◌, ◌⊎◌, inl, inr, true, false, cond, IsTrue, ℕ, ◌+◌, ◌*◌, List, [], ◌∷◌, ◌++◌, length, Option, Some, None, All, Contains, refl, sym, ap, ◌∙◌, subst, arith}
use Rattle.std.proofs.lemmas.Bool.{false_from_ne_true}
use Rattle.std.proofs.lemmas.List.Elements.{All-head, All-tail, All-weaker}
use Rattle.sc_record.specs.Writes.{is_of, write_of, Write}
use Rattle.sc_record.specs.declared.entry.Entry.{Entry}
use Rattle.sc_record.specs.declared.slice.CoreId.{CoreId}
use Rattle.sc_cluster.specs.declared.slice.Slice.{Slice}
use Rattle.sc_cluster.proofs.ListLemmas.{Contains-filter}
use Rattle.sc_cluster.proofs.OrderLemmas.{same_from_rising_key}
use Rattle.sc_ulog.specs.declared.mode.Mode.TheVariants.{Active, Buffering}
use Rattle.sc_replica.specs.Core.{Core}
use Rattle.sc_journal.specs.Journal.{writes, writes_of, last_write}
use Rattle.sc_journal.proofs.JournalLemmas.{last_write_none}
use Rattle.sc_bucket.specs.Kept.{Sent, FeedState}
use Rattle.sc_record.specs.Names.{is_core}
use Rattle.sc_replicas.specs.Cores.{core_key, core_number, is_attached, CoresAscend}
use Rattle.sc_bucket.specs.Flight.{in_flight}
use Rattle.sc_bucket.specs.Pending.{is_feed_of, to_feed, pending}
use Rattle.sc_bucket.specs.Sound.{HasLastWrites, IsFeed, IsSound}
use Rattle.sc_bucket.specs.declared.bucket.Bucket.{Bucket}
use Rattle.sc_replicas.proofs.CoreLemmas.{is_core-Decides}
use Rattle.sc_bucket.proofs.DeliveredLemmas.{IsSoundCore}
use Rattle.sc_bucket.proofs.FeedLemmas.{to_feed-none}
use Rattle.sc_handover.proofs.EachCoreLemmas.{core_in}

-- no cell is of an id that was never written
never_written : (journal : List Entry) (cells : List Write) (id : List ℕ) → All (Contains (writes journal)) cells
    → last_write journal id ≡ None → write_of cells id ≡ None
never_written journal [] id written none = refl
never_written journal (cell ∷ cells) id written none =
    ap (λ b. cond b (Some cell) (write_of cells id)) (false_from_ne_true (is_of id cell) not_own)
    ∙ never_written journal cells id (All-tail (Contains (writes journal)) cell cells written) none
  where
    not_own : is_of id cell ≡ true → ⊥
    not_own own =
        let there : Contains (writes_of journal id) cell =
        Contains-filter (is_of id) (writes journal) cell (All-head (Contains (writes journal)) cell cells written) own in
        let (k, below, is) = subst (λ (these : List Write). Contains these cell) (last_write_none journal id none) there in
        absurd (omega arith)

-- a core for which nothing is pending has the last write of each id in the range of its slice, where it is attached
last_from_nothing : (slices : List Slice) (journal : List Entry) (sent pending : List Write) (core : Core) (slice : Slice)
    → IsSoundCore slices journal sent pending core → pending ≡ [] → Contains slices slice → slice.id ≡ core.core.slice
    → IsTrue (is_attached slice core) → HasLastWrites journal slice core
last_from_nothing slices journal sent pending core slice sound nothing there named attached id within =
    by (last_write journal id) refl
  where
    by : (last : Option Write) → last_write journal id ≡ last → write_of core.cells id ≡ last_write journal id
    by None none = never_written journal core.cells id sound.written.0 none ∙ sym none
    by (Some last) is = cases (sound.held slice there named attached id last within is) where
      cases : (write_of core.cells id ≡ Some last) ⊎ Contains pending last → write_of core.cells id ≡ last_write journal id
      cases (inl cell) = cell ∙ sym is
      cases (inr (k, below, here)) = absurd (omega (arith, ap length nothing))

-- cores of the same name are one
pub same_from_key : (cores : List Core) (one other : Core) → CoresAscend cores → Contains cores one → Contains cores other
    → core_key one ≡ core_key other → one ≡ other
same_from_key cores one other ascend there other_there same =
    same_from_rising_key (λ (core : Core). core_number core.core) cores one other ascend there other_there
    (ap (λ (key : ℕ × ℕ). key.0 * 256 + key.1) same)

-- an active core is not fed
pub unfed_where_active : (b : Bucket) (core : Core) → IsSound b → Contains b.replicas core → core.mode ≡ Active
    → to_feed b.feeds core.core ≡ []
unfed_where_active b core sound there active =
    to_feed-none b.feeds core.core
    (All-weaker (IsFeed b) (λ (feed : FeedState). is_feed_of core.core feed ≡ false) other b.feeds sound.feeds.each)
  where
    other : (feed : FeedState) → IsFeed b feed → is_feed_of core.core feed ≡ false
    other feed is = false_from_ne_true (is_core core.core feed.core) (λ own.
        let named : is.core.core ≡ core.core = is.core_is ∙ sym ((is_core-Decides core.core feed.core).0 own) in
        let same : is.core ≡ core =
        same_from_key b.replicas is.core core sound.cores.ascend is.core_there there
        (ap (λ (name : CoreId). (name.slice.0, name.replica)) named) in
        let both : Buffering ≡ Active = sym is.buffering ∙ (ap (λ (c : Core). c.mode) same ∙ active) in
        cc)

-- nothing is pending for a core to which nothing is in flight, whose buffer is empty, and that is not fed
pub pending-none : (messages : List Sent) (feeds : List FeedState) (core : Core) → in_flight messages core.core ≡ []
    → core.buffer ≡ [] → to_feed feeds core.core ≡ [] → pending messages feeds core ≡ []
pending-none messages feeds core sent kept left =
    ap (λ these. (these ++ core.buffer) ++ to_feed feeds core.core) sent
    ∙ ap (λ these. these ++ to_feed feeds core.core) kept ∙ left

-- so an active core to which nothing is in flight, and that buffers nothing, has the last writes
pub last_where_settled : (b : Bucket) (slice : Slice) (core : Core) → IsSound b → Contains b.map slice
    → slice.id ≡ core.core.slice → IsTrue (is_attached slice core) → Contains b.replicas core → core.mode ≡ Active
    → core.buffer ≡ [] → in_flight b.flight.messages core.core ≡ [] → HasLastWrites b.journal.entries slice core
last_where_settled b slice core sound in_map named attached there active kept sent =
    last_from_nothing b.map b.journal.entries (in_flight b.flight.messages core.core)
    (pending b.flight.messages b.feeds core) core slice (core_in b core sound there)
    (pending-none b.flight.messages b.feeds core sent kept (unfed_where_active b core sound there active))
    in_map named attached
