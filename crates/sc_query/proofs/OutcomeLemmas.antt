-- Each text has one outcome, and the reader gives it.
use Rattle.std.proofs.Common.{◌≡◌, ℕ, ◌<◌, ◌≤◌, Result, Ok, Err, List, length, ◌⊎◌, inl, inr, refl, sym, ◌∙◌, subst, arith}
use Rattle.std.proofs.lemmas.Bool.{cases_lt}
use Rattle.sc_query.specs.Tokens.{tokens}
use Rattle.sc_query.specs.Tree.{Tree}
use Rattle.sc_query.specs.Grammar.{HasTree, HasFault, StopsAt, EndsEarly}
use Rattle.sc_query.proofs.Runs.{reading}
use Rattle.sc_query.proofs.SoundLemmas.{sound}
use Rattle.sc_query.proofs.CompleteLemmas.{complete}
use Rattle.sc_query.proofs.FaultsLemmas.{fault_sound, stops_complete, ends_complete}

pub tree_read : (text : List ℕ) (t : Tree) → HasTree text t → reading text ≡ Ok t
tree_read text t h = complete (length text) (tokens text) t h.query

pub tree_found : (text : List ℕ) (t : Tree) → length text ≤ 4096 → reading text ≡ Ok t → HasTree text t
tree_found text t l h = record { in_limit = l; query = sound (length text) (tokens text) t h }

pub fault_read : (text : List ℕ) (at : ℕ) → length text ≤ 4096 → HasFault text at → reading text ≡ Err at
fault_read text at l (HasFault.too_long h) = absurd (omega (arith, l, h))
fault_read text at l (HasFault.stops k h) = stops_complete (length text) (tokens text) at h
fault_read text at l (HasFault.ends k h) = ends_complete (length text) (tokens text) h

pub fault_found : (text : List ℕ) (at : ℕ) → length text ≤ 4096 → reading text ≡ Err at → HasFault text at
fault_found text at l h = go (fault_sound (length text) (tokens text) at h)
  where
    go : StopsAt (tokens text) at ⊎ (EndsEarly (tokens text) × (at ≡ length text)) → HasFault text at
    go (inl s) = HasFault.stops l s
    go (inr e) = subst (λ (x : ℕ). HasFault text x) (sym e.1) (HasFault.ends l e.0)

pub too_long_fault : (text : List ℕ) (at : ℕ) → 4096 < length text → HasFault text at → at ≡ 4096
too_long_fault text at l (HasFault.too_long h) = refl
too_long_fault text at l (HasFault.stops k h) = absurd (omega (arith, l, k))
too_long_fault text at l (HasFault.ends k h) = absurd (omega (arith, l, k))

within_or_not : (text : List ℕ) → (length text ≤ 4096) ⊎ (4096 < length text)
within_or_not text = go (cases_lt 4096 (length text))
  where
    go : (4096 < length text) ⊎ (length text ≤ 4096) → (length text ≤ 4096) ⊎ (4096 < length text)
    go (inl h) = inr h
    go (inr h) = inl h

pub one_tree : (text : List ℕ) (s t : Tree) → HasTree text s → HasTree text t → s ≡ t
one_tree text s t h k =
    let same : Ok s ≡ Ok t = sym (tree_read text s h) ∙ tree_read text t k in
    cc

pub one_fault : (text : List ℕ) (a b : ℕ) → HasFault text a → HasFault text b → a ≡ b
one_fault text a b h k = go (within_or_not text)
  where
    go : (length text ≤ 4096) ⊎ (4096 < length text) → a ≡ b
    go (inl l) = let same : Err a ≡ Err b = sym (fault_read text a l h) ∙ fault_read text b l k in cc
    go (inr l) = too_long_fault text a l h ∙ sym (too_long_fault text b l k)

pub not_both : (text : List ℕ) (t : Tree) (at : ℕ) → HasTree text t → HasFault text at → ⊥
not_both text t at h k =
    let both : Ok t ≡ Err at = sym (tree_read text t h) ∙ fault_read text at h.in_limit k in
    cc

pub some_outcome : (text : List ℕ) → ((t : Tree) × HasTree text t) ⊎ ((at : ℕ) × HasFault text at)
some_outcome text = go (within_or_not text)
  where
    over : (r : Result Tree ℕ) → length text ≤ 4096 → reading text ≡ r → ((t : Tree) × HasTree text t) ⊎ ((at : ℕ) × HasFault text at)
    over (Ok t) l e = inl (t, tree_found text t l e)
    over (Err at) l e = inr (at, fault_found text at l e)

    go : (length text ≤ 4096) ⊎ (4096 < length text) → ((t : Tree) × HasTree text t) ⊎ ((at : ℕ) × HasFault text at)
    go (inl l) = over (reading text) l refl
    go (inr l) = inr (4096, HasFault.too_long l)
