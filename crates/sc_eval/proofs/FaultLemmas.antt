-- The fault that is named is the first of a query's faults.
use Rattle.std.proofs.Common.{◌≡◌, ℕ, List, [], ◌∷◌, ◌++◌, Option, Some, None, Result, Ok, Err, cond, refl, ap, ◌∙◌}
use Rattle.std.specs.Option.{is_some, option_map, ok_or}
use Rattle.std.specs.Result.{MatchResult}
use Rattle.sc_query.specs.Tree.{Tree}
use Rattle.sc_record.specs.declared.term.Term.{Term}
use Rattle.sc_eval.specs.Criteria.{Criterion}
use Rattle.sc_eval.specs.Binding.{leaf_term, made_of, made_of_both, bound}
use Rattle.sc_eval.specs.Laws.{faults, NamesTheFirstFault}

-- what was found is named by these faults: there are none, or the one that is named comes first
abbrev IsNamed : Result Criterion ℕ → List ℕ → Type 0
IsNamed found places = MatchResult found (λ _. places ≡ []) (λ at. (others : List ℕ) × (places ≡ at ∷ others))

of_leaf : (term : Option Term) (at : ℕ) → IsNamed (ok_or (option_map Criterion.Leaf term) at) (cond (is_some term) [] (at ∷ []))
of_leaf None at = ([], refl)
of_leaf (Some term) at = refl

of_one : (make : Criterion → Criterion) (found : Result Criterion ℕ) (places : List ℕ) → IsNamed found places
    → IsNamed (made_of make found) places
of_one make (Ok one) places named = named
of_one make (Err at) places named = named

of_both : (make : Criterion → Criterion → Criterion) (left right : Result Criterion ℕ) (first second : List ℕ)
    → IsNamed left first → IsNamed right second → IsNamed (made_of_both make left right) (first ++ second)
of_both make (Ok one) (Ok other) first second named also = ap (λ (xs : List ℕ). xs ++ second) named ∙ also
of_both make (Ok one) (Err at) first second named also = (also.0, ap (λ (xs : List ℕ). xs ++ second) named ∙ also.1)
of_both make (Err at) right first second named also = (named.0 ++ second, ap (λ (xs : List ℕ). xs ++ second) named.1)

pub names_the_first_fault : NamesTheFirstFault
names_the_first_fault Tree.All = refl
names_the_first_fault (Tree.Leaf field value at) = of_leaf (leaf_term field value) at
names_the_first_fault (Tree.Not t) = of_one Criterion.Not (bound t) (faults t) (names_the_first_fault t)
names_the_first_fault (Tree.And s t) =
    of_both Criterion.And (bound s) (bound t) (faults s) (faults t) (names_the_first_fault s) (names_the_first_fault t)
names_the_first_fault (Tree.Or s t) =
    of_both Criterion.Or (bound s) (bound t) (faults s) (faults t) (names_the_first_fault s) (names_the_first_fault t)
