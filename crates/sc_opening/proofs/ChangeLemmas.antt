-- What entries one after another say was done for good, and how a journal catches up with it.
use Rattle.std.proofs.Common.{◌≡◌, ℕ, Bool, true, false, cond, List, [], ◌∷◌, ◌++◌, length, map, drop, Option, Some, None, refl, sym, ap, ◌∙◌}
use Rattle.std.specs.List.{fold}
use Rattle.std.specs.Option.{option_map}
use Rattle.std.proofs.lemmas.List.{append-nil, append_assoc, drop_at}
use Rattle.std.proofs.lemmas.List.Sums.{fold-append}
use Rattle.std.proofs.lemmas.Grind.{flat_map-append}
use Rattle.sc_record.specs.declared.slice.SliceId.{SliceId}
use Rattle.sc_record.specs.declared.entry.Entry.{Entry}
use Rattle.sc_record.specs.declared.entry.Entry.TheVariants as entry
use Rattle.sc_cluster.specs.declared.plan.SplitPlan.{SplitPlan}
use Rattle.sc_journal.specs.Journal.{unsettled}
use Rattle.sc_journal.specs.Splits.{split_after, open_split}
use Rattle.sc_seen.specs.Rounds.{bucket_entries}
use Rattle.sc_opening.specs.declared.change.Change.{Change}
use Rattle.sc_opening.specs.declared.change.Change.TheVariants as change
use Rattle.sc_opening.specs.Changes.{begun_after, open_begun, done_by, changes_after, changes, round_of}
use Rattle.sc_opening.specs.Same.{same_plan}
use Rattle.sc_opening.specs.Closed.{entries_of, is_first, catching_up, missing, closing, closed}
use Rattle.sc_opening.specs.Collections.{GoesWith}
use Rattle.sc_opening.specs.Laws.{ClosedHasTheChanges}
use Rattle.sc_opening.proofs.SameLemmas.{same_plan-Decides}

-- the split that is open after entries, where this is open before them
abbrev pub begun_from : Option SplitPlan → List Entry → Option SplitPlan
begun_from running entries = fold begun_after running entries

-- ---- entries more
pub changes_after-append : (running : Option SplitPlan) (entries more : List Entry)
    → changes_after running (entries ++ more) ≡ changes_after running entries ++ changes_after (begun_from running entries) more
changes_after-append running [] more = refl
changes_after-append running (one ∷ entries) more =
    let next = begun_after running one in
    ap (λ (rest : List Change). done_by one running ++ rest) (changes_after-append next entries more)
    ∙ sym (append_assoc (done_by one running) (changes_after next entries) (changes_after (begun_from next entries) more))

pub changes-append : (journal more : List Entry)
    → changes (journal ++ more) ≡ changes journal ++ changes_after (open_begun journal) more
changes-append journal more = changes_after-append None journal more

pub open_begun-append : (journal more : List Entry) → open_begun (journal ++ more) ≡ begun_from (open_begun journal) more
open_begun-append journal more = fold-append begun_after None journal more

-- ---- the parent of the open split is what the journal's open split is
abbrev pub parent_of : Option SplitPlan → Option SliceId
parent_of running = option_map (λ (plan : SplitPlan). plan.parent) running

split_is-after : (running : Option SplitPlan) (one : Entry) → split_after (parent_of running) one ≡ parent_of (begun_after running one)
split_is-after running (entry.Write cell) = refl
split_is-after running (entry.Settled place) = refl
split_is-after running entry.Committed = refl
split_is-after running (entry.Begun parent subs) = refl
split_is-after running (entry.Switched parent) = refl
split_is-after running (entry.Failed parent) = refl
split_is-after running (entry.Dropped slice) = refl
split_is-after running (entry.Down core) = refl
split_is-after running (entry.Up core) = refl
split_is-after running (entry.Led core) = refl

split_is-from : (running : Option SplitPlan) (entries : List Entry)
    → fold split_after (parent_of running) entries ≡ parent_of (begun_from running entries)
split_is-from running [] = refl
split_is-from running (one ∷ entries) =
    ap (λ (split : Option SliceId). fold split_after split entries) (split_is-after running one)
    ∙ split_is-from (begun_after running one) entries

pub open_split_is : (journal : List Entry) → open_split journal ≡ parent_of (open_begun journal)
open_split_is journal = split_is-from None journal

-- where no split is open none has begun, and the other way round
pub no_plan : (running : Option SplitPlan) → parent_of running ≡ None → running ≡ None
no_plan None none = refl
no_plan (Some plan) none = absurd (cc)

-- ---- the entries that say what was done
pub entries_of-append : (done more : List Change) → entries_of (done ++ more) ≡ entries_of done ++ entries_of more
entries_of-append done more = flat_map-append (λ (one : Change). bucket_entries (round_of one)) done more

pub changes_of_entries : (done : List Change) → changes_after None (entries_of done) ≡ done
changes_of_entries [] = refl
changes_of_entries (change.Switched plan ∷ done) = ap (λ (rest : List Change). change.Switched plan ∷ rest) (changes_of_entries done)
changes_of_entries (change.Dropped slice ∷ done) = ap (λ (rest : List Change). change.Dropped slice ∷ rest) (changes_of_entries done)

pub begun_of_entries : (done : List Change) → begun_from None (entries_of done) ≡ None
begun_of_entries [] = refl
begun_of_entries (change.Switched plan ∷ done) = begun_of_entries done
begun_of_entries (change.Dropped slice ∷ done) = begun_of_entries done

-- ---- catching up
-- by the entries of it just what was to be done is done, and no split is open after it
pub changes_of_catching_up : (running : Option SplitPlan) (done : List Change) → changes_after running (catching_up running done) ≡ done
changes_of_catching_up None done = changes_of_entries done
changes_of_catching_up (Some plan) [] = refl
changes_of_catching_up (Some plan) (change.Dropped slice ∷ done) = changes_of_entries (change.Dropped slice ∷ done)
changes_of_catching_up (Some plan) (change.Switched other ∷ done) = by (same_plan plan other) refl where
  by : (t : Bool) → same_plan plan other ≡ t
      → changes_after (Some plan) (cond t (entry.Switched plan.parent ∷ entries_of done)
      (entry.Failed plan.parent ∷ entries_of (change.Switched other ∷ done)))
      ≡ change.Switched other ∷ done
  by true is =
      ap (λ (rest : List Change). change.Switched plan ∷ rest) (changes_of_entries done)
      ∙ ap (λ (p : SplitPlan). change.Switched p ∷ done) ((same_plan-Decides plan other).0 is)
  by false is = changes_of_entries (change.Switched other ∷ done)

pub begun_of_catching_up : (running : Option SplitPlan) (done : List Change) → begun_from running (catching_up running done) ≡ None
begun_of_catching_up None done = begun_of_entries done
begun_of_catching_up (Some plan) done = by (is_first plan done) where
  by : (t : Bool)
      → begun_from (Some plan) (cond t (entry.Switched plan.parent ∷ entries_of (drop 1 done)) (entry.Failed plan.parent ∷ entries_of done))
      ≡ None
  by true = begun_of_entries (drop 1 done)
  by false = begun_of_entries done

-- ---- settling
pub changes_of_settled : (running : Option SplitPlan) (places : List ℕ) → changes_after running (map entry.Settled places) ≡ []
changes_of_settled running [] = refl
changes_of_settled running (place ∷ places) = changes_of_settled running places

pub begun_of_settled : (running : Option SplitPlan) (places : List ℕ) → begun_from running (map entry.Settled places) ≡ running
begun_of_settled running [] = refl
begun_of_settled running (place ∷ places) = begun_of_settled running places

-- ---- closing
pub changes_of_closing : (journal : List Entry) (done : List Change)
    → changes_after (open_begun journal) (closing journal done) ≡ missing journal done
changes_of_closing journal done =
    let running = open_begun journal in
    let up = catching_up running (missing journal done) in
    changes_after-append running up (map entry.Settled (unsettled journal))
    ∙ ap (λ (rest : List Change). changes_after running up ++ rest) (changes_of_settled (begun_from running up) (unsettled journal))
    ∙ append-nil (changes_after running up)
    ∙ changes_of_catching_up running (missing journal done)

pub begun_of_closing : (journal : List Entry) (done : List Change) → begun_from (open_begun journal) (closing journal done) ≡ None
begun_of_closing journal done =
    let running = open_begun journal in
    let up = catching_up running (missing journal done) in
    fold-append begun_after running up (map entry.Settled (unsettled journal))
    ∙ begun_of_settled (begun_from running up) (unsettled journal)
    ∙ begun_of_catching_up running (missing journal done)

-- what a journal has and what it lacks is all that was done
pub with_missing : (journal : List Entry) (done : List Change) → GoesWith done journal → changes journal ++ missing journal done ≡ done
with_missing journal done (rest, is) =
    ap (λ (all : List Change). changes journal ++ drop (length (changes journal)) all) (sym is)
    ∙ ap (λ (more : List Change). changes journal ++ more) (drop_at (changes journal) rest (length (changes journal)) refl)
    ∙ is

pub closed_has_the_changes : ClosedHasTheChanges
closed_has_the_changes journal done goes =
    changes-append journal (closing journal done)
    ∙ ap (λ (rest : List Change). changes journal ++ rest) (changes_of_closing journal done)
    ∙ with_missing journal done goes

pub open_begun_of_closed : (journal : List Entry) (done : List Change) → open_begun (closed journal done) ≡ None
open_begun_of_closed journal done = open_begun-append journal (closing journal done) ∙ begun_of_closing journal done
