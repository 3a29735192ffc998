-- What follows of the values of a field and of changes of them.
use Rattle.std.proofs.Common.{◌≡◌, ℕ, ◌+◌, ◌<◌, Bool, true, false, not, ◌&&◌, List, [], ◌∷◌, ◌++◌, length, get_or, take, Option, Some, None, refl, sym, ap, ◌∙◌, inl, inr, arith}
use Rattle.std.specs.Bool.{IsTrue, if◌then◌else◌}
use Rattle.std.specs.List.{list_all, filter}
use Rattle.std.proofs.lemmas.Bool.{cases_Bool, and_parts, and_from}
use Rattle.std.proofs.lemmas.Bool.Decides.{nat_tests}
use Rattle.std.proofs.lemmas.List.{take_more}
use Rattle.std.proofs.lemmas.List.Folds.{list_all-append}
use Rattle.sc_values.specs.Fields.{kind_of, fits_kind, fits_count, fits_name}
use Rattle.sc_record.specs.Orders.{fits_change}
use Rattle.sc_values.specs.declared.value.Kind.{Kind}
use Rattle.sc_values.specs.declared.value.Kind.TheVariants as kinds
use Rattle.sc_values.specs.declared.value.Value.{Value}
use Rattle.sc_record.specs.declared.order.How.{How}
use Rattle.sc_record.specs.declared.order.How.TheVariants as hows
use Rattle.sc_partial.specs.Changed.{is_among, with_distinct, without, changed, can_change, has_room}
use Rattle.sc_partial.specs.Resolved.{some_field}

-- one more value to add, where it is not in the list so far
pub with_distinct-push : (list others : List Value) (value : Value) → with_distinct list (others ++ value ∷ [])
    ≡ (if is_among value (with_distinct list others) then with_distinct list others else with_distinct list others ++ value ∷ [])
with_distinct-push list [] value = refl
with_distinct-push list (first ∷ others) value = with_distinct-push (if is_among first list then list else list ++ first ∷ []) others value

-- so it is where the values are the first ones of a list
pub with_distinct_more : (list others : List Value) (i : ℕ) (value : Value) → i < length others → value ≡ get_or others i value
    → with_distinct list (take (i + 1) others)
    ≡ (if is_among value (with_distinct list (take i others)) then with_distinct list (take i others) else with_distinct list (take i others) ++ value ∷ [])
with_distinct_more list others i value h is =
    ap (with_distinct list) (take_more others i value h ∙ ap (λ v. take i others ++ v ∷ []) (sym is)) ∙ with_distinct-push list (take i others) value

-- values of a kind, as far as they are kept or added, are of the kind
list_all-filter : (p q : Value → Bool) (list : List Value) → list_all p list ≡ true → list_all p (filter q list) ≡ true
list_all-filter p q [] h = refl
list_all-filter p q (x ∷ xs) h =
    let (first, others) = and_parts (p x) (list_all p xs) h in
    elim (cases_Bool (q x)) [
      | inl kept ↦ rw kept (and_from (p x) (list_all p (filter q xs)) first (list_all-filter p q xs others))
      | inr gone ↦ rw gone (list_all-filter p q xs others)
    ]

list_all-with_distinct : (p : Value → Bool) (list others : List Value) → list_all p list ≡ true → list_all p others ≡ true → list_all p (with_distinct list others) ≡ true
list_all-with_distinct p list [] h o = h
list_all-with_distinct p list (x ∷ xs) h o =
    let (first, rest) = and_parts (p x) (list_all p xs) o in
    list_all-with_distinct p (if is_among x list then list else list ++ x ∷ []) xs
    (elim (cases_Bool (is_among x list)) [
      | inl among ↦ rw among h
      | inr new ↦ rw (new, list_all-append) (and_from (list_all p list) (p x && true) h (and_from (p x) true first refl))
    ]) rest

-- the values are of the kind that the name stands for
abbrev pub fit_all : Option (Kind × Bool) → List Value → Bool
fit_all None list = false
fit_all (Some (kind, many)) list = list_all (fits_kind kind) list

-- where there are values, they make a field of this name
abbrev pub MayStand : List ℕ → List Value → Type 0
MayStand name [] = Unit {0}
MayStand name (value ∷ others) = IsTrue (fits_name (kind_of name) (value ∷ others))

may_stand : (name : List ℕ) (kind : Option (Kind × Bool)) (list : List Value) → kind_of name ≡ kind → fit_all kind list ≡ true → has_room kind list ≡ true → MayStand name list
may_stand name kind [] is fit room = tt
may_stand name None (value ∷ others) is fit room = cc
may_stand name (Some (kind, true)) (value ∷ others) is fit room = rw is (and_from _ _ fit (grind (arith, nat_tests)))
may_stand name (Some (kind, false)) (value ∷ others) is fit room = rw is (and_from _ _ fit (grind (arith, nat_tests)))

-- a field has values
pub no_values : (kind : Option (Kind × Bool)) → IsTrue (fits_name kind []) → ⊥
no_values None h = cc
no_values (Some (kind, true)) h = cc
no_values (Some (kind, false)) h = cc

-- the field that values of this name make
pub some_field-is : (name : List ℕ) (list : List Value) → IsTrue (fits_name (kind_of name) list) → some_field name list ≡ record { name = name; values = list } ∷ []
some_field-is name [] fits = absurd (no_values (kind_of name) fits)
some_field-is name (value ∷ others) fits = refl

pub fits_may_stand : (name : List ℕ) (list : List Value) → IsTrue (fits_name (kind_of name) list) → MayStand name list
fits_may_stand name [] fits = tt
fits_may_stand name (value ∷ others) fits = fits

-- the values of a field are of its kind
pub fits_fit_all : (kind : Option (Kind × Bool)) (list : List Value) → IsTrue (fits_name kind list) → fit_all kind list ≡ true
fits_fit_all None list fits = cc
fits_fit_all (Some (kind, many)) list fits = (and_parts (list_all (fits_kind kind) list) (fits_count many (length list)) fits).0

-- values that fit, changed by a change that fits and that the field can take, make a field
changed_fit : (name : List ℕ) (kind : Option (Kind × Bool)) (old : List Value) (how : How) → kind_of name ≡ kind → IsTrue (fits_change kind how)
    → fit_all kind old ≡ true → IsTrue (can_change name old how) → MayStand name (changed name old how)
changed_fit name None old how is fits fit can = cc
changed_fit name (Some (kind, many)) old (hows.Set list) is fits fit can = may_stand name (Some (kind, many)) list is fits (rw is at can)
changed_fit name (Some (kind, many)) old (hows.Add list) is fits fit can =
    may_stand name (Some (kind, many)) (old ++ list) is (rw list_all-append (and_from _ _ fit fits)) (rw is at can)
changed_fit name (Some (kind, many)) old (hows.AddDistinct list) is fits fit can =
    may_stand name (Some (kind, many)) (with_distinct old list) is (list_all-with_distinct (fits_kind kind) old list fit fits) (rw is at can)
changed_fit name (Some (kind, many)) old (hows.Remove list) is fits fit can =
    may_stand name (Some (kind, many)) (without old list) is (list_all-filter (fits_kind kind) (λ v. not (is_among v list)) old fit) (rw is at can)
changed_fit name (Some (kinds.Int, false)) old (hows.Inc amount) is fits fit can = rw is refl
changed_fit name (Some (kinds.Int, true)) old (hows.Inc amount) is fits fit can = cc
changed_fit name (Some (kinds.Long, false)) old (hows.Inc amount) is fits fit can = rw is refl
changed_fit name (Some (kinds.Long, true)) old (hows.Inc amount) is fits fit can = cc
changed_fit name (Some (kinds.Str, many)) old (hows.Inc amount) is fits fit can = cc
changed_fit name (Some (kinds.Flag, many)) old (hows.Inc amount) is fits fit can = cc
changed_fit name (Some (kinds.Words, many)) old (hows.Inc amount) is fits fit can = cc

pub changed_field : (name : List ℕ) (old : List Value) (how : How) → IsTrue (fits_change (kind_of name) how)
    → IsTrue (fits_name (kind_of name) old) → IsTrue (can_change name old how) → MayStand name (changed name old how)
changed_field name old how fits field can = changed_fit name (kind_of name) old how refl fits (fits_fit_all (kind_of name) old field) can

-- so do those of a field that was missing
none_fit : (kind : Option (Kind × Bool)) (how : How) → IsTrue (fits_change kind how) → fit_all kind [] ≡ true
none_fit None how fits = cc
none_fit (Some (kind, many)) how fits = refl

pub changed_missing : (name : List ℕ) (how : How) → IsTrue (fits_change (kind_of name) how) → IsTrue (can_change name [] how) → MayStand name (changed name [] how)
changed_missing name how fits can = changed_fit name (kind_of name) [] how refl fits (none_fit (kind_of name) how fits) can
