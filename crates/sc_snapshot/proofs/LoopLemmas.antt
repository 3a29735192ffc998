-- What a loop over cells has of one cell more.
use Rattle.std.proofs.Common.{◌≡◌, ℕ, ◌+◌, ◌<◌, List, [], ◌∷◌, ◌++◌, map, take, length, get_or, Bool, not, ◌||◌, ◌&&◌, All, refl, sym, ap, subst, ◌∙◌, arith, append-nil, append_assoc}
use Rattle.std.proofs.lemmas.List.{take_more, map-append, length-map, length-take-le}
use Rattle.std.proofs.Math.Bool.{and-true, or-false}
use Rattle.std.proofs.lemmas.List.Elements.{All-push, filter-append}
use Rattle.std.proofs.lemmas.List.Folds.{list_any-append, list_all-append}
use Rattle.std.specs.List.{list_all, list_any}
use Rattle.sc_record.specs.TermRuns.{term_of}
use Rattle.sc_record.specs.declared.term.Term.{Term}
use Rattle.sc_record.specs.declared.term_run.TermRef.{TermRef}
use Rattle.sc_record.specs.Writes.{Write}
use Rattle.sc_segment.specs.Index.{IsIndexOf}
use Rattle.sc_snapshot.proofs.PostingLemmas.{keyed_rows-push}
use Rattle.sc_snapshot.specs.Postings.{key_order, keyed, keyed_rows, live_terms, is_id_term, other_terms}
use Rattle.sc_snapshot.specs.declared.term_key.TermKey.{TermKey}

module _ {C : Type 0} (value : C → Write) (cells : List C) (i : ℕ) (cell : C) (within : i < length cells) (at : cell ≡ get_or cells i cell) where
  pub one-more : map value (take (i + 1) cells) ≡ map value (take i cells) ++ value cell ∷ []
  one-more =
      ap (map value) (take_more cells i cell within ∙ ap (λ (c : C). take i cells ++ c ∷ []) (sym at))
      ∙ map-append value (take i cells) (cell ∷ [])

  few : length (map value (take i cells)) ≡ i
  few = length-map (take i cells) value ∙ length-take-le i cells (omega (arith, within))

  -- the keys of the first rows, and those of the next
  keyed-next : (number : ℕ) → number ≡ i → keyed_rows 0 (map value (take (i + 1) cells))
      ≡ keyed_rows 0 (map value (take i cells)) ++ keyed number (live_terms (value cell))
  keyed-next number is =
      let place : 0 + length (map value (take i cells)) ≡ number = omega (arith, few, is) in
      ap (keyed_rows 0) one-more ∙ keyed_rows-push 0 (map value (take i cells)) (value cell)
      ∙ ap (λ n. keyed_rows 0 (map value (take i cells)) ++ keyed n (live_terms (value cell))) place

  pub rows-next : (number : ℕ) (index : List (TermKey × List ℕ)) → number ≡ i
      → IsIndexOf key_order (keyed_rows 0 (map value (take i cells)) ++ keyed number (live_terms (value cell))) index
      → IsIndexOf key_order (keyed_rows 0 (map value (take (i + 1) cells))) index
  rows-next number index is filed =
      subst (λ (ps : List (ℕ × TermKey)). IsIndexOf key_order ps index) (sym (keyed-next number is)) filed

  -- what follows for the first rows, and holds of the next
  pub all-next : (P Q : Write → Type 0) → ((w : Write) → P w → Q w) → All P (map value (take i cells)) → Q (value cell)
      → All Q (map value (take (i + 1) cells))
  all-next P Q weaker all here =
      subst (All Q) (sym one-more) (All-push Q (map value (take i cells)) (value cell) (λ k d lt. weaker _ (all k d lt)) here)

-- a row's keys of the terms so far, and of the next
module _ (number : ℕ) (before : List TermRef) (term : TermRef) where
  pub terms-more : map term_of (before ++ term ∷ []) ≡ map term_of before ++ term_of term ∷ []
  terms-more = map-append term_of before (term ∷ [])

  keyed-more : (key : TermKey) → key.term ≡ term_of term
      → keyed number (map term_of (before ++ term ∷ [])) ≡ keyed number (map term_of before) ++ (number, key) ∷ []
  keyed-more key is =
      ap (keyed number) terms-more ∙ map-append (λ (t : Term). (number, record { term = t })) (map term_of before) (term_of term ∷ [])
      ∙ ap (λ (t : Term). keyed number (map term_of before) ++ (number, record { term = t }) ∷ []) (sym is)

  pub terms-next : (added : List (ℕ × TermKey)) (key : TermKey) (index : List (TermKey × List ℕ)) → key.term ≡ term_of term
      → IsIndexOf key_order ((added ++ keyed number (map term_of before)) ++ (number, key) ∷ []) index
      → IsIndexOf key_order (added ++ keyed number (map term_of (before ++ term ∷ []))) index
  terms-next added key index is filed =
      subst (λ (ps : List (ℕ × TermKey)). IsIndexOf key_order ps index)
      (append_assoc added (keyed number (map term_of before)) ((number, key) ∷ [])
      ∙ ap (λ (ps : List (ℕ × TermKey)). added ++ ps) (sym (keyed-more key is))) filed

  -- the same of those that are not of the field of ids
  others-more : keyed number (other_terms (map term_of (before ++ term ∷ [])))
      ≡ keyed number (other_terms (map term_of before)) ++ keyed number (other_terms (term_of term ∷ []))
  others-more =
      ap (λ (ts : List Term). keyed number (other_terms ts)) terms-more
      ∙ ap (keyed number) (filter-append (λ (t : Term). not (is_id_term t)) (map term_of before) (term_of term ∷ []))
      ∙ map-append (λ (t : Term). (number, record { term = t })) (other_terms (map term_of before)) (other_terms (term_of term ∷ []))

  pub others-next : (added : List (ℕ × TermKey)) (index : List (TermKey × List ℕ))
      → IsIndexOf key_order ((added ++ keyed number (other_terms (map term_of before))) ++ keyed number (other_terms (term_of term ∷ []))) index
      → IsIndexOf key_order (added ++ keyed number (other_terms (map term_of (before ++ term ∷ [])))) index
  others-next added index filed =
      subst (λ (ps : List (ℕ × TermKey)). IsIndexOf key_order ps index)
      (append_assoc added (keyed number (other_terms (map term_of before))) (keyed number (other_terms (term_of term ∷ [])))
      ∙ ap (λ (ps : List (ℕ × TermKey)). added ++ ps) (sym others-more)) filed

-- what a test says of the terms so far and of the next
module _ (test : Term → Bool) (before : List TermRef) (term : TermRef) where
  pub any-more : list_any test (map term_of (before ++ term ∷ [])) ≡ (list_any test (map term_of before) || test (term_of term))
  any-more =
      ap (list_any test) (map-append term_of before (term ∷ [])) ∙ list_any-append test (map term_of before) (term_of term ∷ [])
      ∙ ap (λ b. list_any test (map term_of before) || b) (or-false (test (term_of term)))

  pub all-more : list_all test (map term_of (before ++ term ∷ [])) ≡ (list_all test (map term_of before) && test (term_of term))
  all-more =
      ap (list_all test) (map-append term_of before (term ∷ [])) ∙ list_all-append test (map term_of before) (term_of term ∷ [])
      ∙ ap (λ b. list_all test (map term_of before) && b) (and-true (test (term_of term)))

-- of the terms that are lent, those so far, the next and those after it
pub lent-more : (before : List TermRef) (term : TermRef) (left rest terms : List Term) → map term_of before ++ left ≡ terms → left ≡ term_of term ∷ rest
    → map term_of (before ++ term ∷ []) ++ rest ≡ terms
lent-more before term left rest terms whole next =
    ap (λ (ts : List Term). ts ++ rest) (map-append term_of before (term ∷ [])) ∙ append_assoc (map term_of before) (term_of term ∷ []) rest
    ∙ ap (λ (ts : List Term). map term_of before ++ ts) (sym next) ∙ whole

-- where none is left, those so far are all
pub lent-all : (before : List TermRef) (left terms : List Term) → map term_of before ++ left ≡ terms → left ≡ [] → map term_of before ≡ terms
lent-all before left terms whole none =
    sym (append-nil (map term_of before)) ∙ ap (λ (ts : List Term). map term_of before ++ ts) (sym none) ∙ whole

-- two maps, one after the other, are one
pub map-twice : {X Y Z : Type 0} (f : Y → Z) (g : X → Y) (xs : List X) → map f (map g xs) ≡ map (λ x. f (g x)) xs
map-twice f g [] = refl
map-twice f g (x ∷ xs) = ap (λ zs. f (g x) ∷ zs) (map-twice f g xs)
