-- What the entries of a split leave of a journal's writes, and of what can be found in it.
use Rattle.std.proofs.Common.{◌≡◌, ℕ, ◌⊎◌, inl, inr, Bool, true, false, List, [], ◌∷◌, ◌++◌, length, Option, Some, None, refl, sym, ap, ◌∙◌, subst, arith, append_assoc, length-append}
use Rattle.std.specs.List.{filter, cons_option}
use Rattle.std.specs.Option.{option_or}
use Rattle.std.proofs.lemmas.List.{append-nil}
use mathlib.Core.List.{IsPrefix}
use Rattle.sc_record.specs.Writes.{is_of, Write}
use Rattle.sc_record.specs.declared.entry.Entry.{Entry}
use Rattle.sc_record.specs.declared.entry.Entry.TheVariants as entry
use Rattle.sc_cluster.specs.declared.plan.SplitPlan.{SplitPlan}
use Rattle.sc_journal.specs.Journal.{as_write, writes, writes_of, last_of, last_write}
use Rattle.sc_journal.specs.Committed.{commits, committed, IsShown}
use Rattle.sc_journal.proofs.ListLemmas.{last_of-append, last_of_cases}
use Rattle.sc_journal.proofs.JournalLemmas.{writes-append, writes_of-append}
use Rattle.sc_journal.proofs.CommittedLemmas.{committed-push_other, committed-push_commit, committed-prefix}
use Rattle.sc_session.specs.Answers.{get_reply}
use Rattle.sc_session.specs.SplitLaws.{ComesBetween, of_others, GetsStay, BeginningsCommit}

-- ---- writes
-- an entry that is no write is none of the writes
pub writes-without : (xs : List Entry) (one : Entry) (ys : List Entry) → as_write one ≡ None → writes (xs ++ one ∷ ys) ≡ writes (xs ++ ys)
writes-without xs one ys none =
    writes-append xs (one ∷ ys) ∙ ap (λ (w : Option Write). writes xs ++ cons_option w (writes ys)) none ∙ sym (writes-append xs ys)

-- nor are two such
pub writes-without_two : (xs : List Entry) (one : Entry) (ys : List Entry) (other : Entry) (zs : List Entry) → as_write one ≡ None
    → as_write other ≡ None → writes (xs ++ one ∷ ys ++ other ∷ zs) ≡ writes (xs ++ ys ++ zs)
writes-without_two xs one ys other zs none no_other =
    writes-without (xs ++ one ∷ ys) other zs no_other ∙ writes-append (xs ++ one ∷ ys) zs
    ∙ ap (λ (ws : List Write). ws ++ writes zs) (writes-without xs one ys none) ∙ sym (writes-append (xs ++ ys) zs)

-- the last of two parts is that of the second, or that of the first where the second has none
last_of-parts : {A : Type 0} (xs ys : List A) → last_of (xs ++ ys) ≡ option_or (last_of ys) (last_of xs)
last_of-parts {A} xs ys = by (last_of_cases ys) where
  by : ((ys ≡ []) × (last_of ys ≡ None)) ⊎ ((init : List A) × (x : A) × (ys ≡ init ++ x ∷ []) × (last_of ys ≡ Some x))
      → last_of (xs ++ ys) ≡ option_or (last_of ys) (last_of xs)
  by (inl (empty, none)) =
      ap (λ (zs : List A). last_of (xs ++ zs)) empty ∙ ap last_of (append-nil xs)
      ∙ ap (λ (o : Option A). option_or o (last_of xs)) (sym none)
  by (inr (init, x, ends, last)) =
      ap (λ (zs : List A). last_of (xs ++ zs)) ends ∙ ap last_of (sym (append_assoc xs init (x ∷ []))) ∙ last_of-append (xs ++ init) x
      ∙ ap (λ (o : Option A). option_or o (last_of xs)) (sym last)

-- a part that adds nothing has nothing
pub nothing-added : {A : Type 0} (xs ys zs : List A) → xs ++ ys ++ zs ≡ xs → ys ≡ []
nothing-added xs [] zs same = refl
nothing-added {A} xs (y ∷ ys) zs same =
    let counted : length (xs ++ (y ∷ ys) ++ zs) ≡ length xs = ap length same in
    absurd (omega (arith, counted, length-append (xs ++ y ∷ ys) zs, length-append xs (y ∷ ys)))

module _ (plan : SplitPlan) (before after : List Entry) (split : ComesBetween plan before after) where
  -- of the entries of a split none is a write
  writes_after : writes after ≡ writes before ++ writes (of_others split)
  writes_after =
      ap writes split.after_is
      ∙ writes-without_two (before ++ split.earlier) (entry.Begun plan.parent plan.subs) split.during (entry.Switched plan.parent) split.further refl refl
      ∙ ap writes (ap (λ (j : List Entry). j ++ split.further) (append_assoc before split.earlier split.during)
      ∙ append_assoc before (split.earlier ++ split.during) split.further)
      ∙ writes-append before (of_others split)

  writes_of_after : (id : List ℕ) → writes_of after id ≡ writes_of before id ++ writes_of (of_others split) id
  writes_of_after id =
      ap (filter (is_of id)) (writes_after ∙ sym (writes-append before (of_others split))) ∙ writes_of-append before (of_others split) id

  last_write_after : (id : List ℕ) → last_write after id ≡ option_or (last_write (of_others split) id) (last_write before id)
  last_write_after id = ap last_of (writes_of_after id) ∙ last_of-parts (writes_of before id) (writes_of (of_others split) id)

pub gets_stay : GetsStay
gets_stay plan before after id split =
    let last = last_write_after plan before after split id in
    (last, λ none. ap get_reply (last ∙ ap (λ (ws : List Write). option_or (last_of ws) (last_write before id)) none))

-- ---- commits
-- what was committed of a journal was committed of it with one entry more
committed-step : (first journal : List Entry) (one : Entry) → IsPrefix first journal → IsPrefix first (committed journal)
    → IsPrefix first (committed (journal ++ one ∷ []))
committed-step first journal one begins within = by (commits one) refl where
  by : (b : Bool) → commits one ≡ b → IsPrefix first (committed (journal ++ one ∷ []))
  by true is = subst (IsPrefix first) (sym (committed-push_commit journal one is)) begins
  by false none = subst (IsPrefix first) (sym (committed-push_other journal one none)) within

longer : (first journal : List Entry) (one : Entry) → IsPrefix first journal → IsPrefix first (journal ++ one ∷ [])
longer first journal one begins =
    (begins.0 ++ one ∷ [], sym (append_assoc first begins.0 (one ∷ [])) ∙ ap (λ (xs : List Entry). xs ++ one ∷ []) begins.1)

-- and with any number of them
pub committed-longer : (first journal more : List Entry) → IsPrefix first journal → IsPrefix first (committed journal)
    → IsPrefix first (committed (journal ++ more))
committed-longer first journal [] begins within = subst (λ (j : List Entry). IsPrefix first (committed j)) (sym (append-nil journal)) within
committed-longer first journal (one ∷ more) begins within =
    subst (λ (j : List Entry). IsPrefix first (committed j)) (append_assoc journal (one ∷ []) more)
    (committed-longer first (journal ++ one ∷ []) more (longer first journal one begins) (committed-step first journal one begins within))

-- what comes before an entry that commits is committed
pub committed-before : (journal : List Entry) (one : Entry) (more : List Entry) → commits one ≡ true
    → IsPrefix journal (committed (journal ++ one ∷ more))
committed-before journal one more is =
    let begins : IsPrefix journal (journal ++ one ∷ []) = (one ∷ [], refl) in
    let within : IsPrefix journal (committed (journal ++ one ∷ [])) =
    subst (IsPrefix journal) (sym (committed-push_commit journal one is)) ([], append-nil journal) in
    subst (λ (j : List Entry). IsPrefix journal (committed j)) (append_assoc journal (one ∷ []) more)
    (committed-longer journal (journal ++ one ∷ []) more begins within)

pub beginnings_commit : BeginningsCommit
beginnings_commit plan before after split =
    let rest : List Entry = split.during ++ entry.Switched plan.parent ∷ split.further in
    let is : after ≡ (before ++ split.earlier) ++ entry.Begun plan.parent plan.subs ∷ rest =
    split.after_is
    ∙ append_assoc (before ++ split.earlier) (entry.Begun plan.parent plan.subs ∷ split.during) (entry.Switched plan.parent ∷ split.further) in
    subst (λ (j : List Entry). IsPrefix (before ++ split.earlier) (committed j)) (sym is)
    (committed-before (before ++ split.earlier) (entry.Begun plan.parent plan.subs) rest refl)

-- where no others wrote the id between, the same of its writes was committed as a commit before the split commits
pub same_committed : (plan : SplitPlan) (before after : List Entry) (id : List ℕ) → (split : ComesBetween plan before after)
    → writes_of (of_others split) id ≡ [] → writes_of (committed after) id ≡ writes_of (committed (before ++ entry.Committed ∷ [])) id
same_committed plan before after id split none = there ∙ ap (λ (j : List Entry). writes_of j id) (sym (committed-push_commit before entry.Committed refl))
  where
    more : IsPrefix (before ++ split.earlier) (committed after)
    more = beginnings_commit plan before after split

    come : List Entry
    come = split.earlier ++ more.0

    committed_is : committed after ≡ before ++ come
    committed_is = sym more.1 ∙ append_assoc before split.earlier more.0

    rest : IsPrefix (committed after) after
    rest = committed-prefix after

    all_is : after ≡ before ++ come ++ rest.0
    all_is = sym rest.1 ∙ ap (λ (j : List Entry). j ++ rest.0) committed_is

    parts : writes_of before id ++ writes_of come id ++ writes_of rest.0 id ≡ writes_of before id
    parts = sym (ap (λ (j : List Entry). writes_of j id) all_is ∙ writes_of-append (before ++ come) rest.0 id
        ∙ ap (λ (ws : List Write). ws ++ writes_of rest.0 id) (writes_of-append before come id))
        ∙ writes_of_after plan before after split id ∙ ap (λ (ws : List Write). writes_of before id ++ ws) none ∙ append-nil (writes_of before id)

    there : writes_of (committed after) id ≡ writes_of before id
    there = ap (λ (j : List Entry). writes_of j id) committed_is ∙ writes_of-append before come id
        ∙ ap (λ (ws : List Write). writes_of before id ++ ws)
        (nothing-added (writes_of before id) (writes_of come id) (writes_of rest.0 id) parts)
        ∙ append-nil (writes_of before id)

-- where the same of its writes was committed, the same of an id can be found
pub shown_alike : (one other : List Entry) (write : Write) → writes_of (committed one) write.id ≡ writes_of (committed other) write.id
    → IsShown one write → IsShown other write
shown_alike one other write same shown = record { last = sym (ap last_of same) ∙ shown.last; live = shown.live }
