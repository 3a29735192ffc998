-- What a journal answers once it is closed.
use Rattle.std.proofs.Common.{◌≡◌, ℕ, Bool, true, false, List, [], ◌∷◌, ◌++◌, length, map, Option, None, All, Contains, refl, sym, ap, ◌∙◌, subst, arith, length-append}
use Rattle.std.specs.List.{filter, cons_option}
use Rattle.std.proofs.lemmas.List.{append-nil, append_assoc}
use Rattle.std.proofs.lemmas.List.Elements.{All-nil, All-cons, All-head, All-tail, All-append, All-weaker}
use mathlib.Core.List.{IsPrefix}
use Rattle.sc_record.specs.Versions.{found_version}
use Rattle.sc_record.specs.Writes.{is_of, Write}
use Rattle.sc_record.specs.declared.entry.Entry.{Entry}
use Rattle.sc_record.specs.declared.entry.Entry.TheVariants as entry
use Rattle.sc_journal.specs.Journal.{as_write, writes, last_of, last_write, unsettled}
use Rattle.sc_journal.specs.Committed.{commits, committed}
use Rattle.sc_journal.specs.Laws.{is_of_core}
use Rattle.sc_journal.proofs.ListLemmas.{append-cons, split_at}
use Rattle.sc_journal.proofs.JournalLemmas.{writes-append}
use Rattle.sc_journal.proofs.CommittedLemmas.{committed-push_other, committed-push_commit, committed-prefix}
use Rattle.sc_opening.specs.declared.change.Change.{Change}
use Rattle.sc_opening.specs.Changes.{open_begun}
use Rattle.sc_opening.specs.Closed.{catching_up, missing, closing, closed}
use Rattle.sc_opening.specs.Laws.{ClosedAnswersAlike}
use Rattle.sc_opening.proofs.QuietLemmas.{is_of_slices, AreOfSlices-catching_up, no_write_of_slices}

-- ---- what closes a journal
-- the entry is no write, and says nothing of any core
abbrev pub IsQuiet : Entry → Type 0
IsQuiet one = (as_write one ≡ None) × (is_of_core one ≡ false)

no_core_of_slices : (one : Entry) → is_of_slices one ≡ true → is_of_core one ≡ false
no_core_of_slices (entry.Write cell) is = refl
no_core_of_slices (entry.Settled place) is = refl
no_core_of_slices entry.Committed is = refl
no_core_of_slices (entry.Begun parent subs) is = refl
no_core_of_slices (entry.Switched parent) is = refl
no_core_of_slices (entry.Failed parent) is = refl
no_core_of_slices (entry.Dropped slice) is = refl
no_core_of_slices (entry.Down core) is = absurd (cc)
no_core_of_slices (entry.Up core) is = absurd (cc)
no_core_of_slices (entry.Led core) is = absurd (cc)

quiet_settled : (places : List ℕ) → All IsQuiet (map entry.Settled places)
quiet_settled [] = All-nil IsQuiet
quiet_settled (place ∷ places) =
    All-cons IsQuiet (entry.Settled place) (map entry.Settled places) (refl, refl) (quiet_settled places)

pub quiet_closing : (journal : List Entry) (done : List Change) → All IsQuiet (closing journal done)
quiet_closing journal done =
    let up = catching_up (open_begun journal) (missing journal done) in
    All-append IsQuiet up (map entry.Settled (unsettled journal))
    (All-weaker (λ (one : Entry). is_of_slices one ≡ true) IsQuiet (λ one is. (no_write_of_slices one is, no_core_of_slices one is)) up
    (AreOfSlices-catching_up (open_begun journal) (missing journal done)))
    (quiet_settled (unsettled journal))

writes_of_quiet : (entries : List Entry) → All IsQuiet entries → writes entries ≡ []
writes_of_quiet [] all = refl
writes_of_quiet (one ∷ entries) all =
    ap (λ (write : Option Write). cons_option write (writes entries)) (All-head IsQuiet one entries all).0
    ∙ writes_of_quiet entries (All-tail IsQuiet one entries all)

writes_of_closing : (journal : List Entry) (done : List Change) → writes (closing journal done) ≡ []
writes_of_closing journal done = writes_of_quiet (closing journal done) (quiet_closing journal done)

writes_of_closed : (journal : List Entry) (done : List Change) → writes (closed journal done) ≡ writes journal
writes_of_closed journal done =
    writes-append journal (closing journal done)
    ∙ ap (λ (more : List Write). writes journal ++ more) (writes_of_closing journal done)
    ∙ append-nil (writes journal)

-- journals of the same writes have the same last ones
last_by_writes : (one other : List Entry) (id : List ℕ) → writes one ≡ writes other → last_write one id ≡ last_write other id
last_by_writes one other id same = ap (λ (all : List Write). last_of (filter (is_of id) all)) same

-- ---- what was committed
prefix_of_prefix : {A : Type 0} (xs ys zs : List A) → IsPrefix xs ys → IsPrefix ys zs → IsPrefix xs zs
prefix_of_prefix xs ys zs (more, is) (rest, all) =
    (more ++ rest, sym (append_assoc xs more rest) ∙ ap (λ l. l ++ rest) is ∙ all)

prefix_itself : {A : Type 0} (xs ys : List A) → xs ≡ ys → IsPrefix xs ys
prefix_itself xs ys same = ([], append-nil xs ∙ same)

committed-push : (journal : List Entry) (one : Entry) → IsPrefix (committed journal) (committed (journal ++ one ∷ []))
committed-push journal one = by (commits one) refl where
  by : (t : Bool) → commits one ≡ t → IsPrefix (committed journal) (committed (journal ++ one ∷ []))
  by true is =
      prefix_of_prefix (committed journal) journal (committed (journal ++ one ∷ [])) (committed-prefix journal)
      (prefix_itself journal (committed (journal ++ one ∷ [])) (sym (committed-push_commit journal one is)))
  by false is = prefix_itself (committed journal) (committed (journal ++ one ∷ [])) (sym (committed-push_other journal one is))

-- it stays so, whatever comes
committed-more : (journal more : List Entry) → IsPrefix (committed journal) (committed (journal ++ more))
committed-more journal [] = prefix_itself (committed journal) (committed (journal ++ [])) (ap committed (sym (append-nil journal)))
committed-more journal (one ∷ more) =
    let longer = journal ++ one ∷ [] in
    subst (λ (all : List Entry). IsPrefix (committed journal) (committed all)) (append-cons journal one more)
    (prefix_of_prefix (committed journal) (committed longer) (committed (longer ++ more)) (committed-push journal one) (committed-more longer more))

-- and is the same where nothing that comes commits
committed-same : (journal more : List Entry) → All (λ (one : Entry). commits one ≡ false) more → committed (journal ++ more) ≡ committed journal
committed-same journal [] none = ap committed (append-nil journal)
committed-same journal (one ∷ more) none =
    let P = λ (one : Entry). commits one ≡ false in
    ap committed (sym (append-cons journal one more)) ∙ committed-same (journal ++ one ∷ []) more (All-tail P one more none)
    ∙ committed-push_other journal one (All-head P one more none)

-- ---- where something commits
first_is_nil : {A : Type 0} (xs ys : List A) → xs ++ ys ≡ [] → xs ≡ []
first_is_nil [] ys is = refl
first_is_nil (x ∷ xs) ys is = absurd (cc)

nothing_between : {A : Type 0} (xs ys zs : List A) → (xs ++ ys) ++ zs ≡ xs → ys ≡ []
nothing_between xs [] zs is = refl
nothing_between xs (y ∷ ys) zs is =
    let whole = ap length is in
    absurd (omega (arith, whole, length-append (xs ++ y ∷ ys) zs, length-append xs (y ∷ ys)))

-- between a journal and a longer one without writes more what is committed has the same writes
writes_between : (journal between whole : List Entry) → writes whole ≡ writes journal → IsPrefix journal between → IsPrefix between whole
    → writes between ≡ writes journal
writes_between journal between whole same (more, is) (rest, all) =
    let parts : writes between ≡ writes journal ++ writes more = ap writes (sym is) ∙ writes-append journal more in
    let both : (writes journal ++ writes more) ++ writes rest ≡ writes journal =
    ap (λ (ws : List Write). ws ++ writes rest) (sym parts) ∙ sym (writes-append between rest) ∙ ap writes all ∙ same in
    parts ∙ ap (λ (ws : List Write). writes journal ++ ws) (nothing_between (writes journal) (writes more) (writes rest) both)
    ∙ append-nil (writes journal)

all_are_committed : (journal more : List Entry) (one : Entry) → writes more ≡ [] → Contains more one → commits one ≡ true
    → writes (committed (journal ++ more)) ≡ writes journal
all_are_committed journal more one none there is =
    let at = split_at more one there in
    let before = at.0 in
    let after = at.1 in
    let middle = journal ++ before in
    let parts : (middle ++ one ∷ []) ++ after ≡ journal ++ more =
    append-cons middle one after ∙ append_assoc journal before (one ∷ after) ∙ ap (λ (e : List Entry). journal ++ e) (sym at.2) in
    let empty : writes before ≡ [] =
    first_is_nil (writes before) (writes (one ∷ after)) (sym (writes-append before (one ∷ after)) ∙ ap writes (sym at.2) ∙ none) in
    let of_middle : writes middle ≡ writes journal =
    writes-append journal before ∙ ap (λ (ws : List Write). writes journal ++ ws) empty ∙ append-nil (writes journal) in
    let of_whole : writes (journal ++ more) ≡ writes journal =
    writes-append journal more ∙ ap (λ (ws : List Write). writes journal ++ ws) none ∙ append-nil (writes journal) in
    let begins : IsPrefix middle (committed (journal ++ more)) =
    subst (λ (all : List Entry). IsPrefix middle (committed all)) parts
    (prefix_of_prefix middle (committed (middle ++ one ∷ [])) (committed ((middle ++ one ∷ []) ++ after))
    (prefix_itself middle (committed (middle ++ one ∷ [])) (sym (committed-push_commit middle one is)))
    (committed-more (middle ++ one ∷ []) after)) in
    writes_between middle (committed (journal ++ more)) (journal ++ more) (of_whole ∙ sym of_middle) begins (committed-prefix (journal ++ more))
    ∙ of_middle

-- ---- what is answered
pub closed_answers_alike : ClosedAnswersAlike
closed_answers_alike journal done =
    let more = closing journal done in
    let last : (id : List ℕ) → last_write (closed journal done) id ≡ last_write journal id =
    λ id. last_by_writes (closed journal done) journal id (writes_of_closed journal done) in
    record {
      no_write = writes_of_closing journal done;
      no_core = All-weaker IsQuiet (λ (one : Entry). is_of_core one ≡ false) (λ one is. is.1) more (quiet_closing journal done);
      last = last;
      found_is = λ id. ap found_version (last id);
      committed_stays = committed-more journal more;
      committed_is = committed-same journal more;
      all_committed = λ one there is id.
          last_by_writes (committed (closed journal done)) journal id (all_are_committed journal more one (writes_of_closing journal done) there is);
    }
