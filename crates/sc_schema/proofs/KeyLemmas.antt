-- Terms that stand field by field, those of each field in order, are the terms of the document in order.
use Rattle.std.proofs.Common.{rules, ◌≡◌, ◌↔◌, ℕ, ⊎_elim, List, [], ◌∷◌, ◌++◌, map, refl, sym, ap, subst, ◌∙◌, arith, append_assoc, Contains, nat_cmp}
use Rattle.std.specs.Cmp.Lexicographic.{slice_cmp, texts_ties}
use Rattle.std.specs.List.{AllByRecursion, dedup}
use Rattle.std.specs.List.Sorted.{IsPermutation, IsSorted, IsStrictlySortedBy}
use Rattle.std.specs.Ordering.{ordering_then}
use Rattle.std.specs.Prelude.{⊤, flat_map}
use Rattle.std.specs.declared.cmp.Ordering.TheVariants.{Less, Equal}
use Rattle.std.specs.Str.{bytes_eq}
use Rattle.std.proofs.lemmas.Cmp.{nat_list_cmp_total, nat_list_eq_equiv}
use Rattle.std.proofs.lemmas.List.{length-map, get_or-map}
use Rattle.std.proofs.lemmas.List.Elements.{All-map, All-weaker, All-contains, All-contains_itself, Contains-append_left, Contains-append_right, Contains-append_cases}
use Rattle.std.proofs.lemmas.List.Kept.{Contains-dedup, Contains-from_dedup, IsStrictlySortedBy-dedup}
use Rattle.std.proofs.lemmas.List.Sorted.{Contains-permutation, IsPermutation-sym}
use Rattle.std.proofs.lemmas.Slice.Eq.{bytes_eq-Decides}
use Rattle.sc_record.specs.Terms.{term_cmp}
use Rattle.sc_record.specs.declared.term.Term.{Term}
use Rattle.sc_schema.specs.Terms.{term}
use Rattle.sc_schema.specs.Keys.{AreKeys, Found, AreTermsInOrder, AddsTerms}

-- the terms of what was found
abbrev pub terms_in : Found → List Term
terms_in found = map (term found.0) found.1

-- a name below those of all that was found
abbrev pub IsBelow : List ℕ → List Found → Type 0
IsBelow name found = AllByRecursion (λ (f : Found). slice_cmp nat_cmp name f.0 ≡ Less) found

all_append : {X : Type 0} (P : X → Type 0) (xs ys : List X) → AllByRecursion P xs → AllByRecursion P ys → AllByRecursion P (xs ++ ys)
all_append P [] ys h k = k
all_append P (x ∷ xs) ys h k = (h.0, all_append P xs ys h.1 k)

-- terms of one field that was found come after it
name_below : (name field : List ℕ) (key : List ℕ) (keys : List (List ℕ)) → slice_cmp nat_cmp name field ≡ Less
    → AllByRecursion (λ (y : Term). term_cmp (term name key) y ≡ Less) (map (term field) keys)
name_below name field key [] h = tt
name_below name field key (k ∷ keys) h = (ap (λ o. ordering_then o (slice_cmp nat_cmp key k)) h, name_below name field key keys h)

-- a term of a name below all others comes before all their terms
all_below : (name key : List ℕ) (found : List Found) (terms : List Term) → IsBelow name found → AreTermsInOrder found terms
    → AllByRecursion (λ (y : Term). term_cmp (term name key) y ≡ Less) terms
all_below name key [] terms below are = subst (AllByRecursion (λ (y : Term). term_cmp (term name key) y ≡ Less)) (sym are) tt
all_below name key (f ∷ found) terms below (keys, rest, own, is, others) =
    subst (AllByRecursion (λ (y : Term). term_cmp (term name key) y ≡ Less)) (sym is)
    (all_append _ (map (term f.0) keys) rest (name_below name f.0 key keys below.0) (all_below name key found rest below.1 others))

same_name : (name : List ℕ) → slice_cmp nat_cmp name name ≡ Equal
same_name [] = refl
same_name (c ∷ name) = ap (λ o. ordering_then o (slice_cmp nat_cmp name name)) (nat_same c) ∙ same_name name
  where
    nat_same : (c : ℕ) → nat_cmp c c ≡ Equal
    nat_same c = search rules

key_below : (name key : List ℕ) (keys : List (List ℕ)) → AllByRecursion (λ k. slice_cmp nat_cmp key k ≡ Less) keys
    → AllByRecursion (λ (y : Term). term_cmp (term name key) y ≡ Less) (map (term name) keys)
key_below name key [] h = tt
key_below name key (k ∷ keys) h =
    (ap (λ o. ordering_then o (slice_cmp nat_cmp key k)) (same_name name) ∙ h.0, key_below name key keys h.1)

-- the terms of one field, and then those of the fields after it
one_ascends : (name : List ℕ) (keys : List (List ℕ)) (found : List Found) (rest : List Term) → IsBelow name found
    → AreTermsInOrder found rest → IsStrictlySortedBy (slice_cmp nat_cmp) keys → IsStrictlySortedBy term_cmp rest
    → IsStrictlySortedBy term_cmp (map (term name) keys ++ rest)
unfolding IsStrictlySortedBy
one_ascends name [] found rest below are ascend sorted = sorted
one_ascends name (key ∷ keys) found rest below are ascend sorted = (
  all_append _ (map (term name) keys) rest (key_below name key keys ascend.0) (all_below name key found rest below are),
  one_ascends name keys found rest below are ascend.1 sorted,
)

-- the names ascend
unfoldable pub AscendByField : List Found → Type 0
AscendByField [] = ⊤
AscendByField (f ∷ found) = IsBelow f.0 found × AscendByField found

pub all_ascend : (found : List Found) (terms : List Term) → AscendByField found → AreTermsInOrder found terms → IsStrictlySortedBy term_cmp terms
unfolding IsStrictlySortedBy AscendByField
all_ascend [] terms ascend are = subst (IsStrictlySortedBy term_cmp) (sym are) tt
all_ascend (f ∷ found) terms ascend (keys, rest, own, is, others) =
    subst (IsStrictlySortedBy term_cmp) (sym is)
    (one_ascends f.0 keys found rest ascend.0 others own.ascend (all_ascend found rest ascend.1 others))

-- elements of a mapped list
Contains-map : {A B : Type 0} (f : A → B) (xs : List A) (x : A) → Contains xs x → Contains (map f xs) (f x)
Contains-map f xs x (k, below, is) = (k, omega (arith, length-map xs f), get_or-map f xs k x (f x) below ∙ ap f is)

Contains-from_map : {A B : Type 0} (f : A → B) (xs : List A) (y : B) → Contains (map f xs) y → (x : A) × Contains xs x × (f x ≡ y)
Contains-from_map {A} {B} f xs y there =
    let IsMade : B → Type 0 = λ z. (x : A) × Contains xs x × (f x ≡ z) in
    let each = All-weaker (Contains xs) (λ x. IsMade (f x)) (λ x inside. (x, inside, refl)) xs (All-contains_itself xs) in
    All-contains IsMade (map f xs) y (All-map IsMade f xs each) there

same_mapped : (name : List ℕ) (xs ys : List (List ℕ)) → ((key : List ℕ) → Contains xs key → Contains ys key) → (t : Term)
    → Contains (map (term name) xs) t → Contains (map (term name) ys) t
same_mapped name xs ys h t there =
    let (key, inside, is) = Contains-from_map (term name) xs t there in
    subst (Contains (map (term name) ys)) is (Contains-map (term name) ys key (h key inside))

either : (xs ys vs ws : List Term) (t : Term) → (Contains xs t → Contains vs t) → (Contains ys t → Contains ws t)
    → Contains (xs ++ ys) t → Contains (vs ++ ws) t
either xs ys vs ws t f g there =
    ⊎_elim (λ inside. Contains-append_left vs ws t (f inside)) (λ inside. Contains-append_right vs ws t (g inside)) (Contains-append_cases xs ys t there)

pub all_same : (found : List Found) (terms : List Term) → AreTermsInOrder found terms → (t : Term) → Contains terms t ↔ Contains (flat_map terms_in found) t
all_same [] terms are t = (subst (λ xs. Contains xs t) are, subst (λ xs. Contains xs t) (sym are))
all_same (f ∷ found) terms (keys, rest, own, is, others) t =
    let own_terms = map (term f.0) keys in
    let more = flat_map terms_in found in
    let (to, from) = all_same found rest others t in (
      λ there. either own_terms rest (terms_in f) more t (same_mapped f.0 keys f.1 (λ key. (own.same key).0) t) to (subst (λ xs. Contains xs t) is there),
      λ there. subst (λ xs. Contains xs t) (sym is)
          (either (terms_in f) more own_terms rest t (same_mapped f.0 f.1 keys (λ key. (own.same key).1) t) from there),
    )

-- what was found in some fields and then in others
in_order-append : (found more : List Found) (terms others : List Term) → AreTermsInOrder found terms → AreTermsInOrder more others
    → AreTermsInOrder (found ++ more) (terms ++ others)
in_order-append [] more terms others are those = subst (λ ts. AreTermsInOrder more (ts ++ others)) (sym are) those
in_order-append (f ∷ found) more terms others (keys, rest, own, is, after) those = (
  keys,
  rest ++ others,
  own,
  ap (λ ts. ts ++ others) is ∙ append_assoc (map (term f.0) keys) rest others,
  in_order-append found more rest others after those,
)

pub Adds-more : (found more : List Found) (old mid new : List Term) → AddsTerms found old mid → AddsTerms more mid new → AddsTerms (found ++ more) old new
Adds-more found more old mid new first then = record {
  terms = first.terms ++ then.terms;
  are = in_order-append found more first.terms then.terms first.are then.are;
  added = then.added ∙ ap (λ ts. ts ++ then.terms) first.added ∙ append_assoc old first.terms then.terms;
}

pub Adds-none : (old : List Term) → AddsTerms [] old old
Adds-none old = record { terms = []; are = refl; added = search rules }

-- the terms of one field
pub Adds-one : (found : Found) (keys : List (List ℕ)) (old new : List Term) → AreKeys found.1 keys
    → new ≡ old ++ map (term found.0) keys → AddsTerms (found ∷ []) old new
Adds-one found keys old new are added = record {
  terms = map (term found.0) keys;
  are = (keys, [], are, search rules, refl);
  added = added;
}

-- one key alone
pub AreKeys-one : (key : List ℕ) → AreKeys (key ∷ []) (key ∷ [])
unfolding IsStrictlySortedBy
AreKeys-one key = record { ascend = (tt, tt); same = λ k. (λ h. h, λ h. h) }

-- keys that are sorted and then left once each
pub AreKeys-sorted : (found sorted : List (List ℕ)) → IsPermutation found sorted → IsSorted (slice_cmp nat_cmp) sorted
    → AreKeys found (dedup bytes_eq sorted)
AreKeys-sorted found sorted moved order = record {
  ascend = IsStrictlySortedBy-dedup nat_list_cmp_total texts_ties sorted order;
  same = λ key. (
    λ h. Contains-permutation sorted found key (IsPermutation-sym found sorted moved) (Contains-from_dedup bytes_eq sorted key h),
    λ h. Contains-dedup nat_list_eq_equiv (λ x y same. (bytes_eq-Decides x y).0 same) sorted key (Contains-permutation found sorted key moved h),
  );
}
