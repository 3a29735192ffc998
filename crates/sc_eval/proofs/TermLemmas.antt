-- Lists of the same terms meet the same criteria, and the terms of a write say what its document does.
use Rattle.std.proofs.Common.{◌≡◌, ℕ, suc, ◌↔◌, Bool, true, false, List, [], ◌∷◌, Option, Some, None, refl, ap, sym, arith}
use Rattle.std.specs.List.{Contains, list_any}
use Rattle.std.specs.Prelude.{not, ◌||◌}
use Rattle.std.proofs.lemmas.Map.Views.{list_any-from_Contains}
use Rattle.sc_values.specs.declared.field.Field.{Field}
use Rattle.sc_record.specs.declared.term.Term.{Term}
use Rattle.sc_record.proofs.TermLemmas.{same_term-equal, same_term-equivalence}
use Rattle.sc_schema.specs.Terms.{found_by}
use Rattle.sc_journal.specs.Legal.{HasTerms}
use Rattle.sc_eval.specs.Criteria.{Criterion}
use Rattle.sc_eval.specs.Matching.{is_term, terms_in, matches_by}

-- a test that finds a term finds it at a place
place_of : (term : Term) (terms : List Term) → list_any (is_term term) terms ≡ true → Contains terms term
place_of term [] h = cc
place_of term (t ∷ terms) h = at_first (is_term term t) refl (place_of term terms) h
  where
    at_first : (b : Bool) → is_term term t ≡ b → (list_any (is_term term) terms ≡ true → Contains terms term)
        → (b || list_any (is_term term) terms) ≡ true → Contains (t ∷ terms) term
    at_first true is later any = (0, omega arith, sym (same_term-equal term t is))
    at_first false is later any = let rest = later any in (suc rest.0, omega (arith, rest.1), rest.2)

-- of two truth values that follow from each other
same_truth : (a b : Bool) → (a ≡ true → b ≡ true) → (b ≡ true → a ≡ true) → a ≡ b
same_truth true b to from = sym (to refl)
same_truth false true to from = from refl
same_truth false false to from = refl

-- the same terms meet the same criteria
matches_by-same : (terms others : List Term) → ((t : Term) → Contains terms t ↔ Contains others t) → (criterion : Criterion)
    → matches_by terms criterion ≡ matches_by others criterion
matches_by-same terms others same Criterion.All = refl
matches_by-same terms others same (Criterion.Leaf term) =
    same_truth (list_any (is_term term) terms) (list_any (is_term term) others)
    (λ any. list_any-from_Contains same_term-equivalence term others ((same term).0 (place_of term terms any)))
    (λ any. list_any-from_Contains same_term-equivalence term terms ((same term).1 (place_of term others any)))
matches_by-same terms others same (Criterion.Not operand) = ap not (matches_by-same terms others same operand)
matches_by-same terms others same (Criterion.And left right) =
    rw (matches_by-same terms others same left, matches_by-same terms others same right) refl
matches_by-same terms others same (Criterion.Or left right) =
    rw (matches_by-same terms others same left, matches_by-same terms others same right) refl

-- the terms of a document say what it is found by
pub terms-say : (id : List ℕ) (doc : Option (List Field)) (terms : List Term) → HasTerms id doc terms → (criterion : Criterion)
    → matches_by terms criterion ≡ matches_by (terms_in id doc) criterion
terms-say id None terms has criterion = ap (λ (ts : List Term). matches_by ts criterion) has
terms-say id (Some fields) terms has criterion = matches_by-same terms (found_by id fields) has.same criterion
