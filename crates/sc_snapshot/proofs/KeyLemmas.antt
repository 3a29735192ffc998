-- What follows of the order of keys: it is total, and tells apart terms that differ.
use Rattle.std.proofs.Common.{◌≡◌, Bool, true, false, ◌&&◌, refl, ◌∙◌, nat_cmp}
use Rattle.std.specs.Ordering.{eq_by_cmp}
use Rattle.std.specs.Cmp.{IsTotalOrder}
use Rattle.std.specs.Cmp.Derive.{tie, then_tied}
use Rattle.std.specs.Cmp.Lexicographic.{slice_cmp, texts_ties}
use Rattle.std.specs.Str.{bytes_eq}
use Rattle.std.proofs.lemmas.Cmp.{nat_list_cmp_total, on_total, then_total}
use Rattle.sc_record.specs.declared.term.Term.{Term}
use Rattle.sc_record.proofs.TermLemmas.{same_term}
use Rattle.sc_snapshot.specs.Keys.{key_cmp}

pub key_cmp-total : IsTotalOrder key_cmp
key_cmp-total = then_total (on_total (λ (term : Term). term.key) nat_list_cmp_total) (on_total (λ (term : Term). term.field) nat_list_cmp_total)

other_way : (a b : Bool) → (a && b) ≡ (b && a)
other_way true true = refl
other_way true false = refl
other_way false true = refl
other_way false false = refl

-- terms that the order does not tell apart are the same
pub same_key-ties : (x y : Term) → same_term x y ≡ eq_by_cmp key_cmp x y
same_key-ties x y =
    other_way (bytes_eq x.field y.field) (bytes_eq x.key y.key)
    ∙ (then_tied (tie (λ (v w : Term). slice_cmp nat_cmp v.key w.key) (λ v w. texts_ties v.key w.key))
    (tie (λ (v w : Term). slice_cmp nat_cmp v.field w.field) (λ v w. texts_ties v.field w.field))).ties x y
