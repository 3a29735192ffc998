-- What a journal answers without its entries of cores.
use Rattle.std.proofs.Common.{◌≡◌, ◌∙◌, Bool, true, false, cond, not, List, [], ◌∷◌, ◌++◌, filter, Option, Some, None, refl, sym, ap, subst}
use Rattle.std.specs.Prelude.{ℕ, fold}
use Rattle.std.specs.List.{filter_map, cons_option}
use Rattle.std.proofs.lemmas.List.{append-nil}
use Rattle.std.proofs.lemmas.List.Elements.{filter-append}
use Rattle.sc_record.specs.Versions.{found_version}
use Rattle.sc_record.specs.Writes.{is_of, Write}
use Rattle.sc_record.specs.declared.slice.SliceId.{SliceId}
use Rattle.sc_record.specs.declared.entry.Entry.{Entry}
use Rattle.sc_record.specs.declared.entry.Entry.TheVariants as entry
use Rattle.sc_cluster.specs.declared.slice.Slice.{Slice}
use Rattle.sc_cluster.specs.Histories.{after_all}
use Rattle.sc_journal.specs.Journal.{as_write, last_of, last_write}
use Rattle.sc_journal.specs.Committed.{commits, committed}
use Rattle.sc_journal.specs.Splits.{map_change_of, split_after}
use Rattle.sc_journal.specs.Laws.{is_of_core, without_cores, CoresChangeNoAnswer}
use Rattle.sc_journal.proofs.ListLemmas.{append-cons}
use Rattle.sc_journal.proofs.CommittedLemmas.{committed-push_other, committed-push_commit}

-- what is true of the list with no element, and is kept by one more at the end, is true of each
by_last : {A : Type 0} (P : List A → Type 0) → P [] → ((xs : List A) (x : A) → P xs → P (xs ++ x ∷ [])) → (xs : List A) → P xs
by_last {A} P none step xs = from [] xs none where
  from : (before more : List A) → P before → P (before ++ more)
  from before [] holds = subst P (sym (append-nil before)) holds
  from before (x ∷ more) holds = subst P (append-cons before x more) (from (before ++ x ∷ []) more (step before x holds))

-- what an entry of a core gives nothing of, a journal gives as much of without those
filter_map-without : {B : Type 0} (f : Entry → Option B) → ((one : Entry) → is_of_core one ≡ true → f one ≡ None)
    → (journal : List Entry) → filter_map f journal ≡ filter_map f (without_cores journal)
filter_map-without f none [] = refl
filter_map-without {B} f none (one ∷ journal) = by (is_of_core one) refl (filter_map-without f none journal) where
  by : (t : Bool) → is_of_core one ≡ t → filter_map f journal ≡ filter_map f (without_cores journal)
      → cons_option (f one) (filter_map f journal)
      ≡ filter_map f (cond (not t) (one ∷ without_cores journal) (without_cores journal))
  by true is rest = ap (λ (o : Option B). cons_option o (filter_map f journal)) (none one is) ∙ rest
  by false is rest = ap (cons_option (f one)) rest

-- no entry of a core is a write, changes a slice, or begins or ends a split
no_write : (one : Entry) → is_of_core one ≡ true → as_write one ≡ None
no_write (entry.Down core) is = refl
no_write (entry.Up core) is = refl
no_write (entry.Led core) is = refl
no_write (entry.Write cell) is = absurd (cc)
no_write (entry.Settled place) is = absurd (cc)
no_write entry.Committed is = absurd (cc)
no_write (entry.Begun parent subs) is = absurd (cc)
no_write (entry.Switched parent) is = absurd (cc)
no_write (entry.Failed parent) is = absurd (cc)
no_write (entry.Dropped slice) is = absurd (cc)

no_change : (one : Entry) → is_of_core one ≡ true → map_change_of one ≡ None
no_change (entry.Down core) is = refl
no_change (entry.Up core) is = refl
no_change (entry.Led core) is = refl
no_change (entry.Write cell) is = absurd (cc)
no_change (entry.Settled place) is = absurd (cc)
no_change entry.Committed is = absurd (cc)
no_change (entry.Begun parent subs) is = absurd (cc)
no_change (entry.Switched parent) is = absurd (cc)
no_change (entry.Failed parent) is = absurd (cc)
no_change (entry.Dropped slice) is = absurd (cc)

-- nor does one commit
no_commit : (one : Entry) → is_of_core one ≡ true → commits one ≡ false
no_commit (entry.Down core) is = refl
no_commit (entry.Up core) is = refl
no_commit (entry.Led core) is = refl
no_commit (entry.Write cell) is = refl
no_commit (entry.Settled place) is = refl
no_commit entry.Committed is = absurd (cc)
no_commit (entry.Begun parent subs) is = absurd (cc)
no_commit (entry.Switched parent) is = refl
no_commit (entry.Failed parent) is = refl
no_commit (entry.Dropped slice) is = refl

-- so the same split is open
fold-without : (journal : List Entry) (split : Option SliceId) → fold split_after split journal ≡ fold split_after split (without_cores journal)
fold-without [] split = refl
fold-without (entry.Down core ∷ journal) split = fold-without journal split
fold-without (entry.Up core ∷ journal) split = fold-without journal split
fold-without (entry.Led core ∷ journal) split = fold-without journal split
fold-without (entry.Write cell ∷ journal) split = fold-without journal split
fold-without (entry.Settled place ∷ journal) split = fold-without journal split
fold-without (entry.Committed ∷ journal) split = fold-without journal split
fold-without (entry.Begun parent subs ∷ journal) split = fold-without journal (Some parent)
fold-without (entry.Switched parent ∷ journal) split = fold-without journal None
fold-without (entry.Failed parent ∷ journal) split = fold-without journal None
fold-without (entry.Dropped slice ∷ journal) split = fold-without journal split

-- the journal with one entry more, without those of cores
without-push : (journal : List Entry) (one : Entry) (t : Bool) → is_of_core one ≡ t
    → without_cores (journal ++ one ∷ []) ≡ cond t (without_cores journal) (without_cores journal ++ one ∷ [])
without-push journal one t is =
    filter-append (λ (e : Entry). not (is_of_core e)) journal (one ∷ [])
    ∙ ap (λ (b : Bool). without_cores journal ++ cond (not b) (one ∷ []) []) is ∙ by t where
      by : (b : Bool) → without_cores journal ++ cond (not b) (one ∷ []) [] ≡ cond b (without_cores journal) (without_cores journal ++ one ∷ [])
      by true = append-nil (without_cores journal)
      by false = refl

-- of what was committed the rest is what is committed of the rest
committed-without : (journal : List Entry) → without_cores (committed journal) ≡ committed (without_cores journal)
committed-without = by_last (λ (j : List Entry). without_cores (committed j) ≡ committed (without_cores j)) refl step where
  step : (journal : List Entry) (one : Entry) → without_cores (committed journal) ≡ committed (without_cores journal)
      → without_cores (committed (journal ++ one ∷ [])) ≡ committed (without_cores (journal ++ one ∷ []))
  step journal one before = by (is_of_core one) refl (commits one) refl where
    by : (t : Bool) → is_of_core one ≡ t → (c : Bool) → commits one ≡ c
        → without_cores (committed (journal ++ one ∷ [])) ≡ committed (without_cores (journal ++ one ∷ []))
    by true is c commit =
        ap without_cores (committed-push_other journal one (no_commit one is)) ∙ before
        ∙ ap committed (sym (without-push journal one true is))
    by false is true commit =
        ap without_cores (committed-push_commit journal one commit)
        ∙ sym (committed-push_commit (without_cores journal) one commit)
        ∙ ap committed (sym (without-push journal one false is))
    by false is false commit =
        ap without_cores (committed-push_other journal one commit) ∙ before
        ∙ sym (committed-push_other (without_cores journal) one commit)
        ∙ ap committed (sym (without-push journal one false is))

-- the last write of an id
last-without : (journal : List Entry) (id : List ℕ) → last_write journal id ≡ last_write (without_cores journal) id
last-without journal id =
    ap (λ (these : List Write). last_of (filter (is_of id) these)) (filter_map-without as_write no_write journal)

pub change_no_answer : CoresChangeNoAnswer
change_no_answer first journal = record {
  last = last-without journal;
  found_is = λ id. ap found_version (last-without journal id);
  committed_is = committed-without journal;
  shown = λ id. last-without (committed journal) id ∙ ap (λ (j : List Entry). last_write j id) (committed-without journal);
  map_is = ap (after_all first) (filter_map-without map_change_of no_change journal);
  split = fold-without journal None;
}
