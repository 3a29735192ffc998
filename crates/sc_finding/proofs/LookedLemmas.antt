-- What was looked up with a searcher is what it finds, once it is joined.
use Rattle.std.proofs.Common.{◌≡◌, ℕ, zero, suc, Bool, List, [], ◌∷◌, ◌++◌, length, map, take, drop, slice_get, refl, ap, subst, sym, ◌∙◌, arith}
use Rattle.std.proofs.Math.ListN.{drop_of_length-le}
use Rattle.std.proofs.lemmas.List.{append-nil, take_all}
use Rattle.sc_record.specs.Writes.{Write}
use Rattle.sc_rows.specs.Joining.{has_row}
use Rattle.sc_rows.proofs.JoinLemmas.{increasing_from_ascend}
use Rattle.sc_snapshot.specs.Rows.{AreRows}
use Rattle.sc_replicas.specs.declared.standing.Searcher.{Searcher}
use Rattle.sc_eval.specs.Criteria.{Criterion}
use Rattle.sc_eval.specs.Matching.{finds}
use Rattle.sc_eval.specs.Numbers.{numbers_of, passes, AreNumbersOf, IsBeginning}
use Rattle.sc_eval.specs.Unjoined.{CanBeJoined, IsJoined, WillBeNumbersOf}
use Rattle.sc_eval.specs.declared.numbers.Matches.{Matches}
use Rattle.sc_eval.specs.declared.numbers.Numbers.{Numbers}
use Rattle.sc_eval.specs.declared.unjoined.Unjoined.{Unjoined}
use Rattle.sc_eval.specs.declared.unjoined.Unjoined.TheVariants.{One}
use Rattle.sc_eval.proofs.NumberLemmas.{are-matches}
use Rattle.sc_replicas.specs.Searchers.{searcher_rows}
use Rattle.sc_finding.specs.Hits.{HasMatches}
use Rattle.sc_finding.specs.declared.hits.Looked.{Looked}
use Rattle.sc_finding.proofs.HitLemmas.{has-matches}

-- what the criterion finds in the searcher's rows was looked up
pub record IsLookedUp (criterion : Criterion) (looked : Looked) : Type 0 where
  pub will : WillBeNumbersOf (finds looked.searcher.now.range criterion) (searcher_rows looked.searcher.now) looked.unjoined
  pub rows : AreRows (searcher_rows looked.searcher.now)

-- the searchers with which it was looked up
abbrev pub looked_with : List Looked → List Searcher
looked_with all = map (λ (looked : Looked). looked.searcher.now) all

-- no numbers are those of no rows
none-at : (test : Write → Bool) (number : ℕ) → has_row [] number ≡ passes test (slice_get [] number)
none-at test zero = refl
none-at test (suc n) = refl

none-there : (test : Write → Bool) (rows : List Write) → length rows ≡ 0 → AreNumbersOf test rows []
none-there test [] none = record { members = none-at test; ascending = increasing_from_ascend 0 [] tt }
none-there test (row ∷ rows) none = absurd (omega (arith, none))

-- and so they may be given for them
pub none-looked : (test : Write → Bool) (rows : List Write) (numbers : Numbers) → length rows ≡ 0 → numbers_of numbers ≡ []
    → WillBeNumbersOf test rows (One numbers)
none-looked test rows numbers none are =
    record { ready = tt; joined = λ list is. subst (AreNumbersOf test rows) (sym (is ∙ are)) (none-there test rows none) }

-- a list whose end is noted stands for the numbers for which it stood
pub noted : (criterion : Criterion) (looked : Looked) (unjoined : Unjoined) → IsLookedUp criterion looked → CanBeJoined unjoined
    → ((numbers : List ℕ) → IsJoined unjoined numbers → IsJoined looked.unjoined numbers)
    → IsLookedUp criterion (record looked { unjoined = unjoined })
noted criterion looked unjoined is ready same = record {
  will = record { ready = ready; joined = λ numbers joined. is.will.joined numbers (same numbers joined) };
  rows = is.rows;
}

-- what was looked up, counted as it is joined, is what the searcher finds
pub looked-matches : (criterion : Criterion) (most : ℕ) (looked : Looked) (found : Matches) → IsLookedUp criterion looked
    → (numbers : List ℕ) × IsJoined looked.unjoined numbers × IsBeginning most numbers found → HasMatches criterion most looked.searcher.now found
looked-matches criterion most looked found is begins =
    let rows = searcher_rows looked.searcher.now in
    has-matches criterion most looked.searcher.now rows found refl
    (are-matches looked.searcher.now.range criterion rows begins.0 most found (is.will.joined begins.0 begins.1) begins.2)

-- a list into whose whole length another one is written is that one
pub written : {X : Type 0} (old new : List X) (len : ℕ) → length old ≡ len → length new ≡ len → take len (new ++ drop (length new) old) ≡ new
written old new len old_is new_is =
    ap (λ (ends : List _). take len (new ++ ends)) (drop_of_length-le old {i = length new} (omega (arith, old_is, new_is)))
    ∙ ap (take len) (append-nil new) ∙ take_all len new (omega (arith, new_is))
