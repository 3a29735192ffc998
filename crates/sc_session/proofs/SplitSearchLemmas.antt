-- A search over journals finds what it finds in each of them, and shows the same where it finds the same.
use Rattle.std.proofs.Common.{◌≡◌, ℕ, zero, suc, ◌+◌, ◌<◌, List, [], ◌∷◌, ◌++◌, length, map, Option, None, Contains, refl, sym, ap, ◌∙◌, subst, arith}
use Rattle.std.specs.List.{filter, range_with_len}
use Rattle.sc_hash.specs.declared.range.Range.{Range}
use Rattle.sc_record.specs.Writes.{is_of, Write}
use Rattle.sc_record.specs.declared.entry.Entry.{Entry}
use Rattle.sc_record.specs.declared.entry.Entry.TheVariants as entry
use Rattle.sc_cluster.specs.declared.plan.SplitPlan.{SplitPlan}
use Rattle.sc_cluster.proofs.ListLemmas.{Contains-map}
use Rattle.sc_cluster.proofs.PairLemmas.{Contains-from_map}
use Rattle.sc_eval.specs.Criteria.{Criterion}
use Rattle.sc_journal.specs.Journal.{writes_of}
use Rattle.sc_journal.specs.Committed.{committed}
use Rattle.sc_journal.proofs.CommittedLemmas.{committed-push_commit}
use Rattle.sc_seen.specs.Seen.{Layout, Seen, journal_at}
use Rattle.sc_seen.specs.declared.stop.Stop.{Stop}
use Rattle.sc_seen.proofs.ExtendsLemmas.{IsPrefix-self}
use Rattle.sc_seen.proofs.GoesOnLemmas.{take-prefix}
use Rattle.sc_fanout.specs.Searches.{IsFoundIn, IsFoundAtOne, Search, SearchPage, ShowsFound}
use Rattle.sc_session.specs.SplitLaws.{Journals, seen_in_journals, at_end_of, FindsOver, of_others, ComesBetweenAll, once_committed, SearchesAreOfTheirJournals, SearchesAreOfTheirCommits, SearchesStay, FindingsStay}
use Rattle.sc_session.proofs.SplitJournalLemmas.{same_committed, shown_alike}

-- a number of a range
in-range : (from n r : ℕ) → Contains (range_with_len from n) r → (k : ℕ) × (k < n) × (r ≡ from + k)
in-range from zero r (k, below, is) = absurd (omega (arith, below))
in-range from (suc n) r (zero, below, is) = (0, omega arith, (let same : from ≡ from + 0 = omega arith in sym is ∙ same))
in-range from (suc n) r (suc k, below, is) =
    let rest = in-range (from + 1) n r (k, omega (arith, below), is) in
    (suc rest.0, (let within : rest.0 < n = rest.1 in omega (arith, within)), rest.2 ∙ (let same : (from + 1) + rest.0 ≡ from + suc rest.0 = omega arith in same))

range-has : (from n k : ℕ) → k < n → Contains (range_with_len from n) (from + k)
range-has from zero k below = absurd (omega (arith, below))
range-has from (suc n) zero below = (0, omega arith, (let same : from ≡ from + 0 = omega arith in same))
range-has from (suc n) (suc k) below =
    let rest = range-has (from + 1) n k (omega (arith, below)) in
    let same : (from + 1) + k ≡ from + suc k = omega arith in
    subst (Contains (from ∷ range_with_len (from + 1) n)) same (suc rest.0, (let within : rest.0 < length (range_with_len (from + 1) n) = rest.1 in omega (arith, within)), rest.2)

below-range : (n lock : ℕ) → Contains (range_with_len 0 n) lock → lock < n
below-range n lock there =
    let found = in-range 0 n lock there in
    let within : found.0 < n = found.1 in
    let is : lock ≡ 0 + found.0 = found.2 in
    omega (arith, within, is)

has-lock : (n lock : ℕ) → lock < n → Contains (range_with_len 0 n) lock
has-lock n lock below =
    let same : 0 + lock ≡ lock = omega arith in
    subst (Contains (range_with_len 0 n)) same (range-has 0 n lock below)

-- a bucket in whose journal the write is found
abbrev pub IsFoundInOne : Layout → Journals → Criterion → Option Range → Write → Type 0
IsFoundInOne layout journals criterion route write =
    (lock : ℕ) × (lock < layout.buckets) × IsFoundIn layout.first (journals lock) criterion route write

module _ (layout : Layout) (journals : Journals) (criterion : Criterion) (route : Option Range) where
  -- a look at the end of a journal sees all of it
  whole : (lock : ℕ) → journal_at (seen_in_journals journals) (at_end_of journals lock) ≡ journals lock
  whole lock = take-prefix (journals lock) (journals lock) (IsPrefix-self (journals lock))

  pub found_in : (write : Write) → FindsOver layout journals criterion route write → IsFoundInOne layout journals criterion route write
  found_in write finds =
      let look = Contains-from_map (at_end_of journals) (range_with_len 0 layout.buckets) finds.0 finds.1 in (
        look.0,
        below-range layout.buckets look.0 look.1,
        subst (λ (j : List Entry). IsFoundIn layout.first j criterion route write) (whole look.0)
            (subst (λ (stop : Stop). IsFoundIn layout.first (journal_at (seen_in_journals journals) stop) criterion route write) (sym look.2) finds.2),
      )

  pub found_over : (write : Write) → IsFoundInOne layout journals criterion route write → FindsOver layout journals criterion route write
  found_over write found = (
    at_end_of journals found.0,
    Contains-map (at_end_of journals) (range_with_len 0 layout.buckets) found.0 (has-lock layout.buckets found.0 found.1),
    subst (λ (j : List Entry). IsFoundIn layout.first j criterion route write) (sym (whole found.0)) found.2,
  )

-- a search shows what another shows that finds the same
pub shows_alike : (layout : Layout) (seen other : Seen) (one two : Search) (page : SearchPage)
    → ((write : Write) → IsFoundAtOne layout seen one write → IsFoundAtOne layout other two write)
    → ((write : Write) → IsFoundAtOne layout other two write → IsFoundAtOne layout seen one write)
    → ShowsFound layout seen one page → ShowsFound layout other two page
shows_alike layout seen other one two page to from shows = record {
  sorted = shows.sorted;
  are_found = record {
    ascend = shows.are_found.ascend;
    exactly = λ write. (
      λ has. to write ((shows.are_found.exactly write).0 has),
      λ found. (shows.are_found.exactly write).1 (from write found),
    );
  };
  found_is = shows.found_is;
  docs_are = shows.docs_are;
}

pub searches_are_of_their_journals : SearchesAreOfTheirJournals
searches_are_of_their_journals layout seen search journals page looks same = (
  shows_alike layout seen (seen_in_journals journals) search _ page to from,
  shows_alike layout (seen_in_journals journals) seen _ search page from to,
)
  where
    to : (write : Write) → IsFoundAtOne layout seen search write → FindsOver layout journals search.criterion search.route write
    to write found =
        let there : Contains (map (λ (stop : Stop). stop.lock) search.stops) found.0.lock =
        Contains-map (λ (stop : Stop). stop.lock) search.stops found.0 found.1 in
        found_over layout journals search.criterion search.route write (
          found.0.lock,
          below-range layout.buckets found.0.lock (subst (λ (locks : List ℕ). Contains locks found.0.lock) looks.locks there),
          subst (λ (j : List Entry). IsFoundIn layout.first j search.criterion search.route write) (same found.0 found.1) found.2,
        )

    from : (write : Write) → FindsOver layout journals search.criterion search.route write → IsFoundAtOne layout seen search write
    from write finds =
        let found = found_in layout journals search.criterion search.route write finds in
        let there : Contains (map (λ (stop : Stop). stop.lock) search.stops) found.0 =
        subst (λ (locks : List ℕ). Contains locks found.0) (sym looks.locks) (has-lock layout.buckets found.0 found.1) in
        let look = Contains-from_map (λ (stop : Stop). stop.lock) search.stops found.0 there in (
          look.0,
          look.1,
          subst (λ (j : List Entry). IsFoundIn layout.first j search.criterion search.route write) (sym (same look.0 look.1))
              (subst (λ (lock : ℕ). IsFoundIn layout.first (journals lock) search.criterion search.route write) (sym look.2) found.2),
        )

-- ---- over a commit
-- of a journal the same was committed as where a commit comes after that
committed_again : (journal : List Entry) → committed (committed journal ++ entry.Committed ∷ []) ≡ committed journal
committed_again journal = committed-push_commit (committed journal) entry.Committed refl

-- the journals, each up to its last commit, and a commit
abbrev again : Journals → Journals
again journals = once_committed (λ (lock : ℕ). committed (journals lock))

module _ (layout : Layout) (journals : Journals) (criterion : Criterion) (write : Write) where
  found_again : FindsOver layout journals criterion None write → FindsOver layout (again journals) criterion None write
  found_again finds =
      let found = found_in layout journals criterion None write finds in
      found_over layout (again journals) criterion None write (
        found.0,
        found.1,
        record {
          shown = shown_alike (journals found.0) (again journals found.0) write
              (ap (λ (j : List Entry). writes_of j write.id) (sym (committed_again (journals found.0)))) found.2.shown;
          matched = found.2.matched;
          in_route = tt;
        },
      )

  found_first : FindsOver layout (again journals) criterion None write → FindsOver layout journals criterion None write
  found_first finds =
      let found = found_in layout (again journals) criterion None write finds in
      found_over layout journals criterion None write (
        found.0,
        found.1,
        record {
          shown = shown_alike (again journals found.0) (journals found.0) write
              (ap (λ (j : List Entry). writes_of j write.id) (committed_again (journals found.0))) found.2.shown;
          matched = found.2.matched;
          in_route = tt;
        },
      )

pub searches_are_of_their_commits : SearchesAreOfTheirCommits
searches_are_of_their_commits layout journals criterion page = (
  shows_alike layout (seen_in_journals journals) (seen_in_journals (again journals)) _ _ page
      (found_again layout journals criterion) (found_first layout journals criterion),
  shows_alike layout (seen_in_journals (again journals)) (seen_in_journals journals) _ _ page
      (found_first layout journals criterion) (found_again layout journals criterion),
)

-- ---- over a split that was done
module _ (layout : Layout) (plan : SplitPlan) (before after : Journals) (criterion : Criterion) (write : Write)
    (split : ComesBetweenAll layout.buckets plan before after)
    (none : (lock : ℕ) → (is_bucket : lock < layout.buckets) → writes_of (of_others (split lock is_bucket)) write.id ≡ []) where
  stays_found : FindsOver layout after criterion None write → FindsOver layout (once_committed before) criterion None write
  stays_found finds =
      let found = found_in layout after criterion None write finds in
      found_over layout (once_committed before) criterion None write (
        found.0,
        found.1,
        record {
          shown = shown_alike (after found.0) (once_committed before found.0) write
              (same_committed plan (before found.0) (after found.0) write.id (split found.0 found.1) (none found.0 found.1)) found.2.shown;
          matched = found.2.matched;
          in_route = tt;
        },
      )

  found_since : FindsOver layout (once_committed before) criterion None write → FindsOver layout after criterion None write
  found_since finds =
      let found = found_in layout (once_committed before) criterion None write finds in
      found_over layout after criterion None write (
        found.0,
        found.1,
        record {
          shown = shown_alike (once_committed before found.0) (after found.0) write
              (sym (same_committed plan (before found.0) (after found.0) write.id (split found.0 found.1) (none found.0 found.1))) found.2.shown;
          matched = found.2.matched;
          in_route = tt;
        },
      )

pub findings_stay : FindingsStay
findings_stay layout plan before after criterion write split none =
    (stays_found layout plan before after criterion write split none, found_since layout plan before after criterion write split none)

pub searches_stay : SearchesStay
searches_stay layout plan before after criterion page split none = (
  shows_alike layout (seen_in_journals after) (seen_in_journals (once_committed before)) _ _ page (λ write. (findings_stay layout plan before after criterion write split (of_id write)).0)
      (λ write. (findings_stay layout plan before after criterion write split (of_id write)).1),
  shows_alike layout (seen_in_journals (once_committed before)) (seen_in_journals after) _ _ page (λ write. (findings_stay layout plan before after criterion write split (of_id write)).1)
      (λ write. (findings_stay layout plan before after criterion write split (of_id write)).0),
)
  where
    of_id : (write : Write) (lock : ℕ) → (is_bucket : lock < layout.buckets) → writes_of (of_others (split lock is_bucket)) write.id ≡ []
    of_id write lock is_bucket = ap (filter (is_of write.id)) (none lock is_bucket)
