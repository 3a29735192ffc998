-- The terms of a document are determined: they ascend, each once, and have the same members.
use Rattle.std.proofs.Common.{◌≡◌, ℕ, zero, suc, ◌⊎◌, List, [], ◌∷◌, refl, sym, ap, subst, ◌∙◌, arith, inl, inr, Less, Equal, Contains}
use Rattle.std.specs.List.{AllByRecursion}
use Rattle.std.specs.List.Sorted.{IsStrictlySortedBy}
use Rattle.std.proofs.lemmas.Cmp.{tied_itself}
use Rattle.std.proofs.lemmas.List.Elements.{All-contains, All-from_recursion}
use Rattle.sc_record.specs.declared.term.Term.{Term}
use Rattle.sc_values.specs.declared.field.Field.{Field}
use Rattle.sc_record.specs.Terms.{term_cmp}
use Rattle.sc_record.proofs.TermLemmas.{term_cmp-total}
use Rattle.sc_schema.specs.Terms.{AreTerms}

-- a member of a list is its first or one of the others
first_or_other : {X : Type 0} (x : X) (xs : List X) (y : X) → Contains (x ∷ xs) y → (x ≡ y) ⊎ Contains xs y
first_or_other x xs y (zero, below, is) = inl is
first_or_other x xs y (suc k, below, is) = inr (k, omega arith, is)

here : {X : Type 0} (x : X) (xs : List X) → Contains (x ∷ xs) x
here x xs = (0, omega arith, refl)

there : {X : Type 0} (x : X) (xs : List X) (y : X) → Contains xs y → Contains (x ∷ xs) y
there x xs y (k, below, is) = (suc k, omega arith, is)

-- each member of the others comes after the first
after : (t : Term) (ts : List Term) (u : Term) → AllByRecursion (λ (v : Term). term_cmp t v ≡ Less) ts → Contains ts u → term_cmp t u ≡ Less
after t ts u each in' = All-contains (λ (v : Term). term_cmp t v ≡ Less) ts u (All-from_recursion (λ (v : Term). term_cmp t v ≡ Less) ts each) in'

-- no term comes before itself
never_before : (t : Term) → term_cmp t t ≡ Less → ⊥
never_before t h = let tied = tied_itself term_cmp-total t in let both : Less ≡ Equal = sym h ∙ tied in absurd cc

-- of two terms each comes not before the other
never_both : (t u : Term) → term_cmp t u ≡ Less → term_cmp u t ≡ Less → ⊥
never_both t u h k = never_before t (term_cmp-total.trans t u t h k)

-- the lists begin with one term
same_first : (t u : Term) (ts us : List Term) → AllByRecursion (λ (v : Term). term_cmp t v ≡ Less) ts → AllByRecursion (λ (v : Term). term_cmp u v ≡ Less) us
    → Contains (u ∷ us) t → Contains (t ∷ ts) u → t ≡ u
same_first t u ts us each others to from =
    elim (first_or_other u us t to) [
      | inl same ↦ sym same
      | inr later ↦ elim (first_or_other t ts u from) [
        | inl same ↦ same
        | inr other ↦ absurd (never_both t u (after t ts u each other) (after u us t others later))
      ]
    ]

-- what is in the others of one list is in the others of the other
in_others : (t u : Term) (ts us : List Term) → t ≡ u → AllByRecursion (λ (v : Term). term_cmp t v ≡ Less) ts → (v : Term) → Contains (u ∷ us) v → Contains ts v → Contains us v
in_others t u ts us same each v to from =
    elim (first_or_other u us v to) [
      | inl is ↦ absurd (never_before t (subst (λ (w : Term). term_cmp t w ≡ Less) (sym (same ∙ is)) (after t ts v each from)))
      | inr later ↦ later
    ]

pub same_members : (ts us : List Term) → IsStrictlySortedBy term_cmp ts → IsStrictlySortedBy term_cmp us
    → ((v : Term) → Contains ts v → Contains us v) → ((v : Term) → Contains us v → Contains ts v) → ts ≡ us
unfolding IsStrictlySortedBy
same_members [] [] a b to from = refl
same_members [] (u ∷ us) a b to from = absurd (nothing u (from u (here u us)))
  where
    nothing : (v : Term) → Contains [] v → ⊥
    nothing v (k, below, is) = omega (arith, below)
same_members (t ∷ ts) [] a b to from = absurd (nothing t (to t (here t ts)))
  where
    nothing : (v : Term) → Contains [] v → ⊥
    nothing v (k, below, is) = omega (arith, below)
same_members (t ∷ ts) (u ∷ us) a b to from =
    let first : t ≡ u = same_first t u ts us a.0 b.0 (to t (here t ts)) (from u (here u us)) in
    let others : ts ≡ us = same_members ts us a.1 b.1
    (λ v in'. in_others t u ts us first a.0 v (to v (there t ts v in')) in')
    (λ v in'. in_others u t us ts (sym first) b.0 v (from v (there u us v in')) in') in
    ap (λ (v : Term). v ∷ ts) first ∙ ap (λ (l : List Term). u ∷ l) others

pub terms_are_determined : (id : List ℕ) (fields : List Field) (a b : List Term) → AreTerms id fields a → AreTerms id fields b → a ≡ b
terms_are_determined id fields a b are others =
    same_members a b are.ascend others.ascend
    (λ v in'. (others.same v).1 ((are.same v).0 in'))
    (λ v in'. (are.same v).1 ((others.same v).0 in'))
