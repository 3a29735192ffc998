-- The versions of the writes of a legal journal, and the clocks that they make.
use Rattle.std.proofs.Common.{◌≡◌, ℕ, ◌+◌, ◌⊎◌, inl, inr, Bool, true, false, List, [], ◌∷◌, ◌++◌, length, map, Some, None, Option, refl, sym, ap, ◌∙◌, subst, All, Contains, arith}
use Rattle.std.specs.Prelude.{ℤ, pos, ◌<ℤ◌, ◌≤ℤ◌}
use Rattle.std.specs.List.{AllByRecursion}
use Rattle.std.specs.Arc.{arc_value}
use Rattle.std.proofs.lemmas.Int.{ints, clamps}
use Rattle.std.proofs.lemmas.List.{map-append}
use Rattle.std.proofs.lemmas.List.Elements.{All-contains, All-push, All-from_recursion, recursion_from_All, All-contains_itself, All-weaker, Contains-append_left, Contains-append_right, Contains-push}
use Rattle.sc_record.specs.Versions.{version_after, last_timed_version}
use Rattle.sc_record.specs.Writes.{is_of, Write}
use Rattle.sc_record.specs.declared.entry.Entry.{Entry}
use Rattle.sc_record.specs.declared.entry.Entry.TheVariants as entry
use Rattle.sc_record.proofs.VersionLemmas.{version_after-above_zero, version_after-at_most}
use Rattle.sc_cluster.specs.declared.slice.Slice.{Slice}
use Rattle.sc_cluster.proofs.PairLemmas.{Contains-from_map}
use Rattle.sc_journal.specs.Journal.{as_write, writes, writes_of, last_write}
use Rattle.sc_journal.specs.Legal.{MayWrite, MayFollow, IsLegal}
use Rattle.sc_journal.specs.Outcomes.{IsClock}
use Rattle.sc_journal.specs.Laws.{AscendsInVersions}
use Rattle.sc_journal.proofs.ListLemmas.{split_last, split_at, last_of_cases}
use Rattle.sc_journal.proofs.JournalLemmas.{id_from_is_of, writes-append, writes-push_write, writes_of-push_write, writes_of-push_write_other, writes_of-push_other, last_write_none}
use Rattle.sc_journal.proofs.LegalLemmas.{legal_induction, legal_positive, legal_bounded}

-- of two writes of each id the later one has the greater version
abbrev Ascends : List Entry → Type 0
Ascends journal = (id : List ℕ) (before between after : List Write) (one other : Write)
    → writes_of journal id ≡ before ++ one ∷ between ++ other ∷ after → one.version <ℤ other.version

-- so it is where the writes of the id are those of a shorter journal
ascends_same : (journal longer : List Entry) (id : List ℕ) (before between after : List Write) (one other : Write)
    → Ascends journal → writes_of longer id ≡ writes_of journal id
    → writes_of longer id ≡ before ++ one ∷ between ++ other ∷ after → one.version <ℤ other.version
ascends_same journal longer id before between after one other up same is =
    up id before between after one other (sym same ∙ is)

-- and where a write is added whose version is greater than all before it
ascends_more : (these : List Write) (last : Write) (before between after : List Write) (one other : Write)
    → AllByRecursion (λ (earlier : Write). earlier.version <ℤ last.version) these
    → ((rest : List Write) → these ≡ before ++ one ∷ between ++ other ∷ rest → one.version <ℤ other.version)
    → these ++ last ∷ [] ≡ before ++ one ∷ between ++ other ∷ after → one.version <ℤ other.version
ascends_more these last before between after one other newest up is =
    by (split_last these last prefix other after is) where
      prefix : List Write
      prefix = before ++ one ∷ between

      by : ((these ≡ prefix) × (last ≡ other)) ⊎ ((rest : List Write) × (these ≡ prefix ++ other ∷ rest))
          → one.version <ℤ other.version
      by (inl (all, end)) =
          let all_below = All-from_recursion (λ (earlier : Write). earlier.version <ℤ last.version) these newest in
          let there : Contains prefix one = Contains-append_right before (one ∷ between) one (0, omega arith, refl) in
          let below : one.version <ℤ last.version =
          All-contains (λ (earlier : Write). earlier.version <ℤ last.version) these one all_below
          (subst (λ (ws : List Write). Contains ws one) (sym all) there) in
          subst (λ (w : Write). one.version <ℤ w.version) end below
      by (inr (rest, some)) = up rest some

-- the write's version is below this one
abbrev IsBefore : ℤ → Write → Type 0
IsBefore version earlier = earlier.version <ℤ version

-- an entry that is no write
ascends_other : (journal : List Entry) (one : Entry) → as_write one ≡ None → Ascends journal
    → Ascends (journal ++ one ∷ [])
ascends_other journal one none up id before between after this other =
    ascends_same journal (journal ++ one ∷ []) id before between after this other up
    (writes_of-push_other journal one id none)

-- a write
ascends_write : (journal : List Entry) (cell : _) → MayWrite journal (arc_value cell) → Ascends journal
    → Ascends (journal ++ entry.Write cell ∷ [])
ascends_write journal cell may up id before between after one other is = by (is_of id (arc_value cell)) refl where
  by : (b : Bool) → is_of id (arc_value cell) ≡ b → one.version <ℤ other.version
  by false not_own =
      ascends_same journal (journal ++ entry.Write cell ∷ []) id before between after one other up
      (writes_of-push_write_other journal cell id not_own) is
  by true is_own =
      let own = id_from_is_of id (arc_value cell) is_own in
      let newest = subst (λ i. AllByRecursion (IsBefore cell.value.version) (writes_of journal i)) own may.newest in
      ascends_more (writes_of journal id) (arc_value cell) before between after one other newest
      (λ rest. up id before between rest one other) (sym (writes_of-push_write journal cell id is_own) ∙ is)

ascends_push : (first : List Slice) (journal : List Entry) (one : Entry) → IsLegal first journal
    → MayFollow first journal one → Ascends journal → Ascends (journal ++ one ∷ [])
ascends_push first journal (entry.Write cell) legal may up = ascends_write journal cell may up
ascends_push first journal (entry.Settled place) legal may up = ascends_other journal (entry.Settled place) refl up
ascends_push first journal entry.Committed legal may up = ascends_other journal entry.Committed refl up
ascends_push first journal (entry.Begun parent subs) legal may up =
    ascends_other journal (entry.Begun parent subs) refl up
ascends_push first journal (entry.Switched parent) legal may up = ascends_other journal (entry.Switched parent) refl up
ascends_push first journal (entry.Failed parent) legal may up = ascends_other journal (entry.Failed parent) refl up
ascends_push first journal (entry.Dropped slice) legal may up = ascends_other journal (entry.Dropped slice) refl up
ascends_push first journal (entry.Down core) legal may up = ascends_other journal (entry.Down core) refl up
ascends_push first journal (entry.Up core) legal may up = ascends_other journal (entry.Up core) refl up
ascends_push first journal (entry.Led core) legal may up = ascends_other journal (entry.Led core) refl up

ascends_none : Ascends []
ascends_none id [] between after one other is = absurd (cc)
ascends_none id (w ∷ before) between after one other is = absurd (cc)

pub ascends_in_versions : AscendsInVersions
ascends_in_versions first journal id before between after one other legal =
    legal_induction first Ascends ascends_none (ascends_push first) journal legal id before between after one other

-- no write of an id is newer than the last one
pub legal_newest : (first : List Slice) (journal : List Entry) (id : List ℕ) (last : Write) → IsLegal first journal
    → last_write journal id ≡ Some last → All (λ (write : Write). write.version ≤ℤ last.version) (writes_of journal id)
legal_newest first journal id last legal is = by (last_of_cases (writes_of journal id)) where
  IsOlder : Write → Type 0
  IsOlder write = write.version ≤ℤ last.version

  by : ((writes_of journal id ≡ []) × (last_write journal id ≡ None))
      ⊎ ((init : List Write) × (w : Write) × (writes_of journal id ≡ init ++ w ∷ []) × (last_write journal id ≡ Some w))
      → All (λ (write : Write). write.version ≤ℤ last.version) (writes_of journal id)
  by (inl (none, no_last)) = let both : None ≡ Some last = sym no_last ∙ is in absurd (cc)
  by (inr (init, w, ends, found)) =
      let some : Some w ≡ Some last = sym found ∙ is in
      let same : w ≡ last = cc in
      let ended : writes_of journal id ≡ init ++ last ∷ [] = ends ∙ ap (λ (z : Write). init ++ z ∷ []) same in
      subst (All IsOlder) (sym ended) (All-push IsOlder init last (older init ended) (omega (arith, ints)))
    where
      older : (init : List Write) → writes_of journal id ≡ init ++ last ∷ [] → All IsOlder init
      older init ended =
          All-weaker (Contains init) IsOlder (λ write there. each init ended write (split_at init write there)) init
          (All-contains_itself init)
        where
          each : (init : List Write) → writes_of journal id ≡ init ++ last ∷ [] → (write : Write)
              → (before : List Write) × (after : List Write) × (init ≡ before ++ write ∷ after) → IsOlder write
          each init ended write (before, after, at) =
              let whole = ended ∙ ap (λ ws. ws ++ last ∷ []) at in
              let less = ascends_in_versions first journal id before after [] write last legal whole in
              omega (arith, ints, less)

-- a version above that of the last write of an id is above those of all its writes
pub newest_from_last : (first : List Slice) (journal : List Entry) (id : List ℕ) (version : ℤ) → IsLegal first journal
    → ((last : Write) → last_write journal id ≡ Some last → last.version <ℤ version)
    → AllByRecursion (λ (earlier : Write). earlier.version <ℤ version) (writes_of journal id)
newest_from_last first journal id version legal above = by (last_write journal id) refl where
  IsEarlier : Write → Type 0
  IsEarlier earlier = earlier.version <ℤ version

  by : (last : Option Write) → last_write journal id ≡ last → AllByRecursion IsEarlier (writes_of journal id)
  by None is = subst (AllByRecursion IsEarlier) (sym (last_write_none journal id is)) tt
  by (Some last) is =
      let below = above last is in
      recursion_from_All IsEarlier (writes_of journal id)
      (All-weaker (λ (write : Write). write.version ≤ℤ last.version) IsEarlier
      (λ write most. omega (arith, ints, most, below))
      (writes_of journal id) (legal_newest first journal id last legal is))

-- a clock of a journal is one of each longer journal
pub IsClock-append : (journal more : List Entry) (clock : ℤ) → IsClock journal clock → IsClock (journal ++ more) clock
IsClock-append journal more clock (inl zero) = inl zero
IsClock-append journal more clock (inr there) =
    let version_of : Write → ℤ = λ write. write.version in
    let these = map version_of (writes journal) in
    let those = map version_of (writes more) in
    let parts : map version_of (writes (journal ++ more)) ≡ these ++ those =
    ap (map version_of) (writes-append journal more) ∙ map-append version_of (writes journal) (writes more) in
    inr (subst (λ (vs : List ℤ). Contains vs clock) (sym parts) (Contains-append_left these those clock there))

-- the version of a write at the end is a clock
pub IsClock-push_write : (journal : List Entry) (cell : _)
    → IsClock (journal ++ entry.Write cell ∷ []) cell.value.version
IsClock-push_write journal cell =
    let version_of : Write → ℤ = λ write. write.version in
    let version : ℤ = cell.value.version in
    let these = map version_of (writes journal) in
    let parts : map version_of (writes (journal ++ entry.Write cell ∷ [])) ≡ these ++ version ∷ [] =
    ap (map version_of) (writes-push_write journal cell)
    ∙ map-append version_of (writes journal) (arc_value cell ∷ []) in
    inr (subst (λ (vs : List ℤ). Contains vs version) (sym parts) (Contains-push these version))

-- a clock is no greater than the last timestamp and the number of writes allow
pub clock_bounded : (first : List Slice) (journal : List Entry) (clock : ℤ) → IsLegal first journal
    → IsClock journal clock → clock ≤ℤ pos (last_timed_version + length (writes journal))
clock_bounded first journal clock legal (inl zero) = omega (arith, ints)
clock_bounded first journal clock legal (inr there) =
    let at = Contains-from_map (λ (write : Write). write.version) (writes journal) clock there in
    let most = legal_bounded first journal at.0 legal at.1 in
    subst (λ c. c ≤ℤ pos (last_timed_version + length (writes journal))) at.2 most

-- nor is it below 0
pub clock_not_negative : (first : List Slice) (journal : List Entry) (clock : ℤ) → IsLegal first journal
    → IsClock journal clock → pos 0 ≤ℤ clock
clock_not_negative first journal clock legal (inl zero) = omega (arith, ints)
clock_not_negative first journal clock legal (inr there) =
    let at = Contains-from_map (λ (write : Write). write.version) (writes journal) clock there in
    let above = legal_positive first journal at.0 legal at.1 in
    subst (λ c. pos 0 ≤ℤ c) at.2 (omega (arith, ints, above))

-- the version of a write at a timestamp, after such a clock, is above 0, and bounded as that of one write more
pub version_after-positive : (first : List Slice) (journal : List Entry) (now : ℕ) (clock : ℤ) → IsLegal first journal
    → IsClock journal clock → pos 0 <ℤ version_after now clock
version_after-positive first journal now clock legal is =
    version_after-above_zero now clock (clock_not_negative first journal clock legal is)

pub version_after-bounded : (first : List Slice) (journal : List Entry) (now : ℕ) (clock : ℤ) → IsLegal first journal
    → IsClock journal clock → version_after now clock ≤ℤ pos (last_timed_version + (length (writes journal) + 1))
version_after-bounded first journal now clock legal is =
    let most = clock_bounded first journal clock legal is in
    let bound = version_after-at_most now clock in
    omega (arith, ints, clamps, most, bound)
