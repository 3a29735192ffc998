-- Which cores are among those that are down, once one more is, or some are not.
use Rattle.std.proofs.Common.{◌≡◌, ℕ, Bool, true, false, not, ◌&&◌, ◌||◌, nat_eq, List, [], ◌∷◌, ◌++◌, refl, sym, ap, ◌∙◌}
use Rattle.std.specs.List.{filter}
use Rattle.std.proofs.lemmas.List.Folds.{list_any-append}
use Rattle.std.proofs.lemmas.Map.Views.{any-filter_same}
use Rattle.sc_record.specs.declared.slice.SliceId.{SliceId}
use Rattle.sc_record.specs.declared.slice.CoreId.{CoreId}
use Rattle.sc_record.specs.Names.{key_of_core, is_key, is_core}
use Rattle.sc_journal.proofs.DownLemmas.{same_from_is_key}
use Rattle.sc_legal.specs.Kept.{is_among}

-- of two tests the order is free
exchanged : (a b : Bool) → a || (b || false) ≡ b || a
exchanged true true = refl
exchanged true false = refl
exchanged false true = refl
exchanged false false = refl

-- one core more
pub is_among-push : (key : ℕ × ℕ) (cores : List CoreId) (core : CoreId)
    → is_among key (cores ++ core ∷ []) ≡ is_key key (key_of_core core) || is_among key cores
is_among-push key cores core =
    list_any-append (λ other. is_key key (key_of_core other)) cores (core ∷ [])
    ∙ exchanged (is_among key cores) (is_key key (key_of_core core))

-- a core less
pub is_among-removed : (key : ℕ × ℕ) (cores : List CoreId) (core : CoreId)
    → is_among key (filter (λ other. not (is_core other core)) cores)
    ≡ not (is_key key (key_of_core core)) && is_among key cores
is_among-removed key cores core =
    any-filter_same (λ other. is_key key (key_of_core other)) (λ other. not (is_core other core))
    (not (is_key key (key_of_core core)))
    (λ other is. ap (λ (k : ℕ × ℕ). not (is_key k (key_of_core core))) (sym (same_from_is_key key (key_of_core other) is)))
    cores

-- the cores of a slice less
pub is_among-left : (key : ℕ × ℕ) (cores : List CoreId) (slice : SliceId)
    → is_among key (filter (λ (other : CoreId). not (nat_eq other.slice.0 slice.0)) cores)
    ≡ not (nat_eq key.0 slice.0) && is_among key cores
is_among-left key cores slice =
    any-filter_same (λ other. is_key key (key_of_core other)) (λ (other : CoreId). not (nat_eq other.slice.0 slice.0))
    (not (nat_eq key.0 slice.0))
    (λ other is. ap (λ (k : ℕ × ℕ). not (nat_eq k.0 slice.0)) (sym (same_from_is_key key (key_of_core other) is)))
    cores
