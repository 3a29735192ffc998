-- What may come after a legal journal keeps it legal, and what is so of each entry of one.
use Rattle.std.proofs.Common.{◌≡◌, ℕ, ◌+◌, ◌≤◌, ◌⊎◌, inl, inr, Bool, true, false, ◌||◌, List, [], ◌∷◌, ◌++◌, length, Some, Option, refl, sym, ap, ◌∙◌, subst, Contains, arith, length-append}
use Rattle.std.specs.Prelude.{IsSome, pos, ◌<ℤ◌, ◌≤ℤ◌}
use Rattle.std.specs.List.{cons_option}
use Rattle.std.specs.Arc.{arc_value}
use Rattle.std.proofs.lemmas.Bool.{eqb-true, false≢true}
use Rattle.std.proofs.lemmas.Int.{ints}
use Rattle.std.proofs.lemmas.List.{append-nil, append_assoc}
use Rattle.sc_record.specs.Versions.{last_timed_version}
use Rattle.sc_record.specs.Writes.{Write}
use Rattle.sc_record.specs.declared.entry.Entry.{Entry}
use Rattle.sc_record.specs.declared.entry.Entry.TheVariants as entry
use Rattle.sc_router.specs.Route.{route_hash}
use Rattle.sc_cluster.specs.declared.slice.Slice.{Slice}
use Rattle.sc_journal.specs.Journal.{as_write, write_at, writes, settles, is_settled, unsettled}
use Rattle.sc_journal.specs.Legal.{HasTerms, MayWrite, MaySettle, MayFollow, IsLegal}
use Rattle.sc_journal.specs.Splits.{owed}
use Rattle.sc_journal.proofs.ListLemmas.{split_last, append-cons}
use Rattle.sc_journal.proofs.JournalLemmas.{writes-append, write_at-append, write_at_within, write_is_entry}
use Rattle.sc_journal.proofs.SettledLemmas.{is_settled-push, unsettled-push_write}
use Rattle.sc_journal.proofs.SplitLemmas.{owed-push_write, owed-push_settled}

-- a journal with no entries is legal
pub IsLegal-none : (first : List Slice) → IsLegal first []
IsLegal-none first [] one after h = absurd (cc)
IsLegal-none first (b ∷ before) one after h = absurd (cc)

-- and a legal one with an entry more that may follow it
pub IsLegal-push : (first : List Slice) (journal : List Entry) (one : Entry) → IsLegal first journal
    → MayFollow first journal one → IsLegal first (journal ++ one ∷ [])
IsLegal-push first journal one legal follows before other after h =
    by (split_last journal one before other after h) where
      by : ((journal ≡ before) × (one ≡ other)) ⊎ ((rest : List Entry) × (journal ≡ before ++ other ∷ rest))
          → MayFollow first before other
      by (inl (same, last)) =
          subst (λ j. MayFollow first j other) same (subst (λ e. MayFollow first journal e) last follows)
      by (inr (rest, some)) = legal before other rest some

-- a prefix of a legal journal is legal
pub IsLegal-prefix : (first : List Slice) (journal more : List Entry) → IsLegal first (journal ++ more)
    → IsLegal first journal
IsLegal-prefix first journal more legal before one after is =
    let longer : journal ++ more ≡ before ++ one ∷ (after ++ more) =
    ap (λ j. j ++ more) is ∙ append_assoc before (one ∷ after) more in
    legal before one (after ++ more) longer

-- the entry at the end of a legal journal may follow those before it
pub MayFollow_end : (first : List Slice) (journal : List Entry) (one : Entry) → IsLegal first (journal ++ one ∷ [])
    → MayFollow first journal one
MayFollow_end first journal one legal = legal journal one [] refl

-- what holds of the journal with no entries, and is kept by each entry that may follow, holds of each legal journal
pub legal_induction : (first : List Slice) (P : List Entry → Type 0) → P []
    → ((journal : List Entry) (one : Entry) → IsLegal first journal → MayFollow first journal one → P journal
    → P (journal ++ one ∷ []))
    → (journal : List Entry) → IsLegal first journal → P journal
legal_induction first P none step journal legal = from [] journal none legal where
  from : (before more : List Entry) → P before → IsLegal first (before ++ more) → P (before ++ more)
  from before [] holds all = subst P (sym (append-nil before)) holds
  from before (one ∷ more) holds all =
      let joined : (before ++ one ∷ []) ++ more ≡ before ++ one ∷ more = append-cons before one more in
      let prefix = IsLegal-prefix first before (one ∷ more) all in
      let next = step before one prefix (all before one more refl) holds in
      subst P joined (from (before ++ one ∷ []) more next (subst (IsLegal first) (sym joined) all))

-- what an entry settles is a write before it
settles_write : (first : List Slice) (journal : List Entry) (one : Entry) (place : ℕ) → MayFollow first journal one
    → settles place one ≡ true → IsSome (write_at journal place)
settles_write first journal (entry.Settled settled) place may is =
    let same : settled ≡ place = eqb-true settled place is in
    subst (λ p. IsSome (write_at journal p)) same may.written
settles_write first journal (entry.Write cell) place may is = absurd (false≢true is)
settles_write first journal entry.Committed place may is = absurd (false≢true is)
settles_write first journal (entry.Begun parent subs) place may is = absurd (false≢true is)
settles_write first journal (entry.Switched parent) place may is = absurd (false≢true is)
settles_write first journal (entry.Failed parent) place may is = absurd (false≢true is)
settles_write first journal (entry.Dropped slice) place may is = absurd (false≢true is)
settles_write first journal (entry.Down core) place may is = absurd (false≢true is)
settles_write first journal (entry.Up core) place may is = absurd (false≢true is)
settles_write first journal (entry.Led core) place may is = absurd (false≢true is)

-- what the journal settles are writes of its
abbrev SettlesWrites : List Entry → Type 0
SettlesWrites journal = (place : ℕ) → is_settled journal place ≡ true → IsSome (write_at journal place)

SettlesWrites-push : (first : List Slice) (journal : List Entry) (one : Entry) → IsLegal first journal
    → MayFollow first journal one → SettlesWrites journal → SettlesWrites (journal ++ one ∷ [])
SettlesWrites-push first journal one legal may before place is = kept (by (is_settled journal place) refl) where
  kept : IsSome (write_at journal place) → IsSome (write_at (journal ++ one ∷ []) place)
  kept some = subst IsSome (sym (write_at-append journal (one ∷ []) place (write_at_within journal place some))) some

  either : is_settled journal place || settles place one ≡ true
  either = sym (is_settled-push journal one place) ∙ is

  by : (b : Bool) → is_settled journal place ≡ b → IsSome (write_at journal place)
  by true old = before place old
  by false old =
      settles_write first journal one place may (ap (λ b. b || settles place one) (sym old) ∙ either)

-- only a write that is there is settled
pub settled_is_write : (first : List Slice) (journal : List Entry) → IsLegal first journal
    → (place : ℕ) → is_settled journal place ≡ true → IsSome (write_at journal place)
settled_is_write first =
    legal_induction first SettlesWrites (λ place is. absurd (false≢true is)) (SettlesWrites-push first)

-- so no entry settles the place after the end
pub end_is_open : (first : List Slice) (journal : List Entry) → IsLegal first journal
    → is_settled journal (length journal) ≡ false
end_is_open first journal legal = by (is_settled journal (length journal)) refl where
  by : (b : Bool) → is_settled journal (length journal) ≡ b → is_settled journal (length journal) ≡ false
  by false is = is
  by true is =
      let end = length journal in
      let within = write_at_within journal end (settled_is_write first journal legal end is) in
      absurd (omega arith)

-- in a legal journal a write is not settled yet, and makes one more entry owed
pub unsettled-push_legal_write : (first : List Slice) (journal : List Entry) (cell : _) → IsLegal first journal
    → unsettled (journal ++ entry.Write cell ∷ []) ≡ unsettled journal ++ length journal ∷ []
unsettled-push_legal_write first journal cell legal =
    unsettled-push_write journal cell (end_is_open first journal legal)

pub owed-push_legal_write : (first : List Slice) (journal : List Entry) (cell : _) → IsLegal first journal
    → owed first (journal ++ entry.Write cell ∷ []) ≡ owed first journal + 1
owed-push_legal_write first journal cell legal = owed-push_write first journal cell (end_is_open first journal legal)

-- and the entry that settles it one less
pub owed-push_legal_settled : (first : List Slice) (journal : List Entry) (place : ℕ) → MaySettle journal place
    → owed first (journal ++ entry.Settled place ∷ []) + 1 ≡ owed first journal
owed-push_legal_settled first journal place may = owed-push_settled first journal place may.written may.once

-- an entry that is a write could follow those before it
is_may_write : (first : List Slice) (before : List Entry) (one : Entry) (write : Write) → as_write one ≡ Some write
    → MayFollow first before one → MayWrite before write
is_may_write first before (entry.Write cell) write is may =
    let same : arc_value cell ≡ write = cc in subst (MayWrite before) same may
is_may_write first before (entry.Settled place) write is may = absurd (cc)
is_may_write first before entry.Committed write is may = absurd (cc)
is_may_write first before (entry.Begun parent subs) write is may = absurd (cc)
is_may_write first before (entry.Switched parent) write is may = absurd (cc)
is_may_write first before (entry.Failed parent) write is may = absurd (cc)
is_may_write first before (entry.Dropped slice) write is may = absurd (cc)
is_may_write first before (entry.Down core) write is may = absurd (cc)
is_may_write first before (entry.Up core) write is may = absurd (cc)
is_may_write first before (entry.Led core) write is may = absurd (cc)

-- each write of a legal journal could follow the entries before it
pub legal_write : (first : List Slice) (journal : List Entry) (write : Write) → IsLegal first journal
    → Contains (writes journal) write
    → (before : List Entry) × (after : List Entry) × (one : Entry) × (journal ≡ before ++ one ∷ after)
    × (as_write one ≡ Some write) × MayWrite before write
legal_write first journal write legal there =
    let at = write_is_entry journal write there in
    (at.0, at.2, at.1, at.3, at.4, is_may_write first at.0 at.1 write at.4 (legal at.0 at.1 at.2 at.3))

-- its hash is that of its id, its terms are those of its document, and its version is above 0
pub legal_hash : (first : List Slice) (journal : List Entry) (write : Write) → IsLegal first journal
    → Contains (writes journal) write → write.hash ≡ route_hash write.id
legal_hash first journal write legal there = (legal_write first journal write legal there).5.hash

pub legal_terms : (first : List Slice) (journal : List Entry) (write : Write) → IsLegal first journal
    → Contains (writes journal) write → HasTerms write.id write.doc write.terms
legal_terms first journal write legal there = (legal_write first journal write legal there).5.terms

pub legal_positive : (first : List Slice) (journal : List Entry) (write : Write) → IsLegal first journal
    → Contains (writes journal) write → pos 0 <ℤ write.version
legal_positive first journal write legal there = (legal_write first journal write legal there).5.positive

-- the writes up to one, with it
length-writes_before : (before : List Entry) (one : Entry) (after : List Entry) (write : Write)
    → as_write one ≡ Some write → length (writes before) + 1 ≤ length (writes (before ++ one ∷ after))
length-writes_before before one after write is =
    let later : writes (one ∷ after) ≡ write ∷ writes after =
    ap (λ (w : Option Write). cons_option w (writes after)) is in
    let lengths = ap length (writes-append before (one ∷ after))
    ∙ length-append (writes before) (writes (one ∷ after)) in
    let end = ap length later in
    omega (arith, lengths, end)

-- and no greater than the last timestamp and the number of writes allow
pub legal_bounded : (first : List Slice) (journal : List Entry) (write : Write) → IsLegal first journal
    → Contains (writes journal) write → write.version ≤ℤ pos (last_timed_version + length (writes journal))
legal_bounded first journal write legal there =
    let at = legal_write first journal write legal there in
    let most = at.5.bounded in
    let more = length-writes_before at.0 at.2 at.1 write at.4 in
    let whole = ap (λ j. length (writes j)) at.3 in
    omega (arith, ints, most, more, whole)
