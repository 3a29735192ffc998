-- What follows of the order of terms: it is total, and tells apart terms that differ.
use Rattle.std.proofs.Common.{◌≡◌, Bool, true, ◌&&◌, ap, nat_cmp}
use Rattle.std.proofs.Math.Path.{ap₂}
use Rattle.std.specs.Str.{bytes_eq}
use Rattle.std.specs.Ordering.{eq_by_cmp}
use Rattle.std.specs.Cmp.{IsEquivalence, IsTotalOrder}
use Rattle.std.specs.Cmp.Derive.{tie, then_tied}
use Rattle.std.specs.Cmp.Lexicographic.{slice_cmp, texts_ties}
use Rattle.std.proofs.lemmas.Bool.{and_from, and_parts}
use Rattle.std.proofs.lemmas.Cmp.{nat_list_cmp_total, nat_list_eq_equiv, then_total}
use Rattle.std.proofs.lemmas.Slice.Eq.{bytes_eq-Decides}
use Rattle.sc_record.specs.Terms.{term_cmp}
use Rattle.sc_record.specs.declared.term.Term.{Term}

-- the two terms have one field and one key
abbrev pub same_term : Term → Term → Bool
same_term x y = bytes_eq x.field y.field && bytes_eq x.key y.key

by_field : IsTotalOrder (λ (x y : Term). slice_cmp nat_cmp x.field y.field)
by_field = record {
  antisymm = λ x y. nat_list_cmp_total.antisymm x.field y.field;
  trans = λ x y z. nat_list_cmp_total.trans x.field y.field z.field;
  congr = λ x y z. nat_list_cmp_total.congr x.field y.field z.field;
}

by_key : IsTotalOrder (λ (x y : Term). slice_cmp nat_cmp x.key y.key)
by_key = record {
  antisymm = λ x y. nat_list_cmp_total.antisymm x.key y.key;
  trans = λ x y z. nat_list_cmp_total.trans x.key y.key z.key;
  congr = λ x y z. nat_list_cmp_total.congr x.key y.key z.key;
}

pub term_cmp-total : IsTotalOrder term_cmp
term_cmp-total = then_total by_field by_key

-- terms that the order does not tell apart are the same
pub same_term-ties : (x y : Term) → same_term x y ≡ eq_by_cmp term_cmp x y
same_term-ties x y =
    (then_tied (tie (λ (v w : Term). slice_cmp nat_cmp v.field w.field) (λ v w. texts_ties v.field w.field))
    (tie (λ (v w : Term). slice_cmp nat_cmp v.key w.key) (λ v w. texts_ties v.key w.key))).ties x y

-- and are one term
pub same_term-equal : (x y : Term) → same_term x y ≡ true → x ≡ y
same_term-equal x y h =
    let (field, key) = and_parts (bytes_eq x.field y.field) (bytes_eq x.key y.key) h in
    let same_field = (bytes_eq-Decides x.field y.field).0 field in
    let same_key = (bytes_eq-Decides x.key y.key).0 key in
    λ i. record { field = same_field i; key = same_key i }

pub same_term-equivalence : IsEquivalence same_term
same_term-equivalence = record {
  refl = λ x. and_from _ _ (nat_list_eq_equiv.refl x.field) (nat_list_eq_equiv.refl x.key);
  symm = λ x y. ap₂ (λ a b. a && b) (nat_list_eq_equiv.symm x.field y.field) (nat_list_eq_equiv.symm x.key y.key);
  congr = λ x y z h. ap (λ (t : Term). same_term t z) (same_term-equal x y h);
}
