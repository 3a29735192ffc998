-- Which fault of a query is named, and what criteria find by the rules of logic.
use Rattle.std.specs.Prelude.{◌≡◌, ◌≤ℤ◌, ◌&&◌, ℕ, true, List, [], ◌∷◌, ◌++◌, is_some, if◌then◌else◌, MatchResult}
use Rattle.sc_query.specs.Tree.{Tree}
use Rattle.sc_eval.specs.Binding.{leaf_term, bound}
use Rattle.sc_hash.specs.declared.range.Range.{Range}
use Rattle.sc_record.specs.Writes.{Write}
use Rattle.sc_eval.specs.Criteria.{Criterion}
use Rattle.sc_eval.specs.Matching.{is_live, finds}

-- the places of the leaves at fault, from left to right
abbrev pub faults : Tree → List ℕ
faults Tree.All = []
faults (Tree.Leaf field value at) = if is_some (leaf_term field value) then [] else at ∷ []
faults (Tree.Not t) = faults t
faults (Tree.And s t) = faults s ++ faults t
faults (Tree.Or s t) = faults s ++ faults t

-- a query is bound where no leaf is at fault, and else its fault is the first of them
abbrev pub NamesTheFirstFault : Type 0
NamesTheFirstFault = (t : Tree)
    → MatchResult (bound t) (λ _. faults t ≡ []) (λ at. (others : List ℕ) × (faults t ≡ at ∷ others))

-- two criteria find the same, in every range
abbrev pub FindTheSame : Criterion → Criterion → Type 0
FindTheSame one other = (range : Range) (write : Write) → finds range one write ≡ finds range other write

-- what is not not asked is asked
abbrev pub NotNotIsNothing : Type 0
NotNotIsNothing = (one : Criterion) → FindTheSame (Criterion.Not (Criterion.Not one)) one

-- not both is not the one or not the other, and not either is not the one and not the other
abbrev pub NotTurnsAndToOr : Type 0
NotTurnsAndToOr = (one other : Criterion)
    → FindTheSame (Criterion.Not (Criterion.And one other)) (Criterion.Or (Criterion.Not one) (Criterion.Not other))
    × FindTheSame (Criterion.Not (Criterion.Or one other)) (Criterion.And (Criterion.Not one) (Criterion.Not other))

-- AND finds what both find
abbrev pub AndFindsWhatBothFind : Type 0
AndFindsWhatBothFind = (range : Range) (one other : Criterion) (write : Write)
    → finds range (Criterion.And one other) write ≡ (finds range one write && finds range other write)

-- what is found in a part of a range is found in the range
abbrev pub FindsMoreInMore : Type 0
FindsMoreInMore = (whole part : Range) (one : Criterion) (write : Write) → whole.min ≤ℤ part.min → part.max ≤ℤ whole.max
    → finds part one write ≡ true → finds whole one write ≡ true

-- whatever is found is live
abbrev pub FindsTheLive : Type 0
FindsTheLive = (range : Range) (one : Criterion) (write : Write) → finds range one write ≡ true → is_live write ≡ true
