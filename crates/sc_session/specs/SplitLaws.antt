-- Laws of splits that were done, in an administrator's words: what they leave of every answer. And which splits these laws are of.
use Rattle.std.specs.Prelude.{◌≡◌, ◌≢◌, ◌⊎◌, ◌↔◌, ◌≤◌, ◌<◌, ◌≤ℤ◌, ℕ, false, List, [], ◌∷◌, ◌++◌, length, take, map, slice_get, Option, Some, None, All, Contains}
use Rattle.std.specs.List.{range_with_len}
use Rattle.std.specs.Option.{option_or}
use mathlib.Core.List.{IsPrefix}
use Rattle.sc_hash.specs.Range.{Meets}
use Rattle.sc_hash.specs.declared.range.Range.{Range}
use Rattle.sc_record.specs.declared.slice.SubSlice.{SubSlice}
use Rattle.sc_record.specs.Writes.{Write}
use Rattle.sc_record.specs.declared.entry.Entry.{Entry}
use Rattle.sc_record.specs.declared.entry.Entry.TheVariants as entry
use Rattle.sc_cluster.specs.declared.plan.SplitPlan.{SplitPlan}
use Rattle.sc_cluster.specs.declared.slice.Slice.{Slice}
use Rattle.sc_cluster.specs.declared.slice.State.TheVariants as states
use Rattle.sc_cluster.specs.Slices.{forming}
use Rattle.sc_cluster.specs.Map.{IsMap, Leads}
use Rattle.sc_cluster.specs.Changes.{begun_slice, in_state}
use Rattle.sc_eval.specs.Criteria.{Criterion}
use Rattle.sc_journal.specs.Journal.{writes, writes_of, last_write}
use Rattle.sc_journal.specs.Splits.{map_after}
use Rattle.sc_journal.specs.Committed.{committed}
use Rattle.sc_journal.specs.Legal.{IsLegal}
use Rattle.sc_seen.specs.Seen.{Layout, Seen, SeesMore, journal_at}
use Rattle.sc_seen.specs.Moments.{view_of}
use Rattle.sc_seen.specs.Commits.{CommitAnswer}
use Rattle.sc_seen.specs.declared.stop.Stop.{Stop}
use Rattle.sc_collection.specs.Looks.{LooksAtBuckets}
use Rattle.sc_fanout.specs.Searches.{IsFoundIn, IsFoundAtOne, Search, SearchPage, ShowsFound}
use Rattle.sc_board.specs.Splits.{AskedSplit}
use Rattle.sc_collection.specs.declared.commits.Commits.{Commits}
use Rattle.sc_split.specs.declared.end.SplitEnd.{SplitEnd}
use Rattle.sc_split.specs.declared.end.SplitEnd.TheVariants as ends
use Rattle.sc_split.specs.Splits.{SplitMoment, split_moment, Course, done, is_of_split, IsSplit}
use Rattle.sc_session.specs.Answers.{get_reply}
use Rattle.sc_session.specs.Commands.{Situation, moment_at, split_ended}
use Rattle.sc_session.specs.Connection.{Exchange, exchanges_of}
use Rattle.sc_session.specs.States.{ConnectionState}
use Rattle.sc_session.specs.Served.{IsServed}
use Rattle.sc_session.specs.declared.end.End.{End}

-- the journals of the buckets, by their numbers
abbrev pub Journals : Type 0
Journals = ℕ → List Entry

-- what is seen where these are the journals of the buckets
abbrev pub seen_in_journals : Journals → Seen
seen_in_journals journals = record { journals = journals; board = []; own = λ lock. [] }

-- a look at the end of a journal
abbrev pub at_end_of : Journals → ℕ → Stop
at_end_of journals lock = record { lock = lock; place = length (journals lock); made = false }

-- the search with this criterion, and this route if it has one, where it looks at each bucket at the end of its journal
abbrev pub search_over : Layout → Journals → Criterion → Option Range → Search
search_over layout journals criterion route =
    record { stops = map (at_end_of journals) (range_with_len 0 layout.buckets); criterion = criterion; route = route }

-- such a search finds the write
abbrev pub FindsOver : Layout → Journals → Criterion → Option Range → Write → Type 0
FindsOver layout journals criterion route write =
    IsFoundAtOne layout (seen_in_journals journals) (search_over layout journals criterion route) write

-- such a search shows the page
abbrev pub ShowsOver : Layout → Journals → Criterion → Option Range → SearchPage → Type 0
ShowsOver layout journals criterion route page =
    ShowsFound layout (seen_in_journals journals) (search_over layout journals criterion route) page

-- what a search shows is what one shows over the journals at its stops
abbrev pub SearchesAreOfTheirJournals : Type 0
SearchesAreOfTheirJournals = (layout : Layout) (seen : Seen) (search : Search) (journals : Journals) (page : SearchPage)
    → LooksAtBuckets layout.buckets search.stops
    → ((stop : Stop) → Contains search.stops stop → journal_at seen stop ≡ journals stop.lock)
    → ShowsFound layout seen search page ↔ ShowsOver layout journals search.criterion search.route page

-- A bucket's journal at two places: at the first the split of the plan has not begun in it, and at the second it was switched. Between
-- them others made entries before it began, during it, of which none begins or ends a split, and after it was switched.
pub record ComesBetween (plan : SplitPlan) (before after : List Entry) : Type 0 where
  pub earlier : List Entry
  pub during : List Entry
  pub further : List Entry
  pub after_is : after ≡ before ++ earlier ++ entry.Begun plan.parent plan.subs ∷ during ++ entry.Switched plan.parent ∷ further
  pub next : All (λ (one : Entry). is_of_split one ≡ false) during

-- the entries between that are not the split's
abbrev pub of_others : {plan : SplitPlan} {before after : List Entry} → ComesBetween plan before after → List Entry
of_others split = split.earlier ++ split.during ++ split.further

-- In a journal of which these entries were seen before, the split of the plan begins at one place and is switched at another. It comes
-- between any two places of which the one is no later than its beginning and the other after its switch, also where the journal went on.
pub record SwitchesBetween (plan : SplitPlan) (seen journal : List Entry) : Type 0 where
  pub begun : ℕ
  pub switched : ℕ
  pub not_seen : length seen ≤ begun
  pub begins : slice_get journal begun ≡ Some (entry.Begun plan.parent plan.subs)
  pub ends : slice_get journal switched ≡ Some (entry.Switched plan.parent)
  pub between : (later : List Entry) → IsPrefix journal later → (from to : ℕ) → from ≤ begun → switched < to
      → ComesBetween plan (take from later) (take to later)

-- A split that was done comes so in the journal of each bucket.
abbrev pub DoneSplitsSwitch : Type 0
DoneSplitsSwitch = (layout : Layout) (asked : AskedSplit) (old new : SplitMoment) (subs : List (List ℕ)) (commits : Commits)
    → (split : IsSplit layout asked old new (ends.Done subs commits))
    → (plan : SplitPlan) × (answers : List CommitAnswer) × (split.course ≡ done plan answers)
    × (subs ≡ map (λ (sub : SubSlice). sub.name) plan.subs)
    × ((lock : ℕ) → lock < layout.buckets → SwitchesBetween plan (old.view.seen.journals lock) (new.view.seen.journals lock))

-- Over a split that was done, the last write of each id is the last that others made between, or else the one before: where they made
-- none, a get is answered the same.
abbrev pub GetsStay : Type 0
GetsStay = (plan : SplitPlan) (before after : List Entry) (id : List ℕ) → (split : ComesBetween plan before after)
    → (last_write after id ≡ option_or (last_write (of_others split) id) (last_write before id))
    × (writes_of (of_others split) id ≡ [] → get_reply (last_write after id) ≡ get_reply (last_write before id))

-- the split comes so between two journals of each bucket
abbrev pub ComesBetweenAll : ℕ → SplitPlan → Journals → Journals → Type 0
ComesBetweenAll buckets plan before after = (lock : ℕ) → lock < buckets → ComesBetween plan (before lock) (after lock)

-- the journals, each with a commit at its end
abbrev pub once_committed : Journals → Journals
once_committed journals lock = journals lock ++ entry.Committed ∷ []

-- Without a route, a search shows what it would show where a commit came last of all, after what was committed.
abbrev pub SearchesAreOfTheirCommits : Type 0
SearchesAreOfTheirCommits = (layout : Layout) (journals : Journals) (criterion : Criterion) (page : SearchPage)
    → ShowsOver layout journals criterion None page
    ↔ ShowsOver layout (once_committed (λ (lock : ℕ). committed (journals lock))) criterion None page

-- Over a split that was done, all that was written before it began was committed.
abbrev pub BeginningsCommit : Type 0
BeginningsCommit = (plan : SplitPlan) (before after : List Entry) → (split : ComesBetween plan before after)
    → IsPrefix (before ++ split.earlier) (committed after)

-- Over a split that was done, a search without a route shows after it what a commit before it and then the search would have shown,
-- where no others wrote between.
abbrev pub SearchesStay : Type 0
SearchesStay = (layout : Layout) (plan : SplitPlan) (before after : Journals) (criterion : Criterion) (page : SearchPage)
    → (split : ComesBetweenAll layout.buckets plan before after)
    → ((lock : ℕ) → (is_bucket : lock < layout.buckets) → writes (of_others (split lock is_bucket)) ≡ [])
    → ShowsOver layout after criterion None page ↔ ShowsOver layout (once_committed before) criterion None page

-- And of each id that no others wrote between it finds the same.
abbrev pub FindingsStay : Type 0
FindingsStay = (layout : Layout) (plan : SplitPlan) (before after : Journals) (criterion : Criterion) (write : Write)
    → (split : ComesBetweenAll layout.buckets plan before after)
    → ((lock : ℕ) → (is_bucket : lock < layout.buckets) → writes_of (of_others (split lock is_bucket)) write.id ≡ [])
    → FindsOver layout after criterion None write ↔ FindsOver layout (once_committed before) criterion None write

-- the slice is one that the plan makes of the parent, and lies within it
pub record IsMadeWithin (plan : SplitPlan) (parent slice : Slice) : Type 0 where
  pub sub : SubSlice
  pub planned : Contains plan.subs sub
  pub is : slice ≡ in_state states.Active (begun_slice sub)
  pub least : parent.range.min ≤ℤ slice.range.min
  pub greatest : slice.range.max ≤ℤ parent.range.max

-- a slice's place is taken by the other over the split of the plan: that of the parent by one of its subs, and of any other by itself
abbrev pub IsSucceededBy : SplitPlan → Slice → Slice → Type 0
IsSucceededBy plan slice later =
    ((slice.id ≢ plan.parent) × (later ≡ slice)) ⊎ ((slice.id ≡ plan.parent) × IsMadeWithin plan slice later)

-- Over a split that was done, and no other, what is found after it lies in the slice that took the place of its slice before. Of that a
-- search with a route finds what lies in a slice that meets the route.
abbrev pub RoutesFollowTheSubs : Type 0
RoutesFollowTheSubs = (first : List Slice) (plan : SplitPlan) (before after : List Entry) (criterion : Criterion) (write : Write)
    → IsMap first → forming first ≡ [] → IsLegal first after
    → (split : ComesBetween plan before after) → All (λ (one : Entry). is_of_split one ≡ false) (of_others split)
    → IsFoundIn first after criterion None write
    → (slice later : Slice) × Leads (map_after first before) write.hash slice × Leads (map_after first after) write.hash later
    × IsSucceededBy plan slice later
    × ((route : Range) → IsFoundIn first after criterion (Some route) write ↔ Meets later.range.min later.range.max route.min route.max)

-- An exchange was a split, from what stood before it to what stood after it, between what was seen before and after all exchanges.
pub record CameToSplit (layout : Layout) (old new : Seen) (x : Exchange) (asked : AskedSplit) (end : SplitEnd) : Type 0 where
  pub before : Situation
  pub grows : SeesMore old before.seen
  pub split : IsSplit layout asked (moment_at before) (split_moment (view_of x.seen x.trace.stops) x.outside) end
  pub stays : SeesMore x.seen new

-- Each exchange whose command was a split is one to which the laws apply, of a connection that was served, whatever its clock gives.
abbrev pub ConnectionsSplit : {C : Type 0} → (C → ℕ → C → Type 0) → Type 0
ConnectionsSplit {C} gives = (layout : Layout) (before after : ConnectionState C) (end : End) (earlier further : List Exchange) (x : Exchange)
    (asked : AskedSplit) (first : Stop) (course : Course) (split_end : SplitEnd)
    → (served : IsServed gives layout before after end) → served.exchanges ++ exchanges_of served.last ≡ earlier ++ x ∷ further
    → x.trace.command ≡ split_ended asked first course split_end
    → CameToSplit layout before.moment.view.seen after.moment.view.seen x asked split_end

-- Of a connection that was served, each look at a bucket before a split that was done, and each look at it after, are at two places of its
-- journal between which the split comes.
abbrev pub LooksAreAround : {C : Type 0} → (C → ℕ → C → Type 0) → Type 0
LooksAreAround {C} gives = (layout : Layout) (before after : ConnectionState C) (end : End) (earlier between further rest : List Exchange)
    (reading x again : Exchange) (asked : AskedSplit) (first : Stop) (course : Course) (subs : List (List ℕ)) (commits : Commits)
    → (served : IsServed gives layout before after end)
    → served.exchanges ++ exchanges_of served.last ≡ earlier ++ reading ∷ between ++ x ∷ further ++ again ∷ rest
    → x.trace.command ≡ split_ended asked first course (ends.Done subs commits)
    → (plan : SplitPlan) × (subs ≡ map (λ (sub : SubSlice). sub.name) plan.subs)
    × ((one two : Stop) → Contains reading.trace.stops one → Contains again.trace.stops two → two.lock ≡ one.lock
    → one.lock < layout.buckets
    → ComesBetween plan (journal_at after.moment.view.seen one) (journal_at after.moment.view.seen two))
