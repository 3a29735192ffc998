-- What was written of a piece, step by step.
use Rattle.std.proofs.Common.{◌≡◌, ℕ, ◌+◌, ◌≤◌, List, ◌++◌, take, drop, Option, None, Some, sym, ◌∙◌, ap, subst, append_assoc}
use Rattle.std.proofs.Math.Seq.{take-add}
use Rattle.std.proofs.lemmas.List.{take-append-drop, take-take}
use Rattle.std.specs.Prelude.{IfSome}
use Rattle.std.specs.Io.KnownBytes.{Appends, Keeps}
use Rattle.sc_io.specs.Pieces.{AddsPrefix}

-- the bytes that were given first, where they are known, and after them the first n of the piece
abbrev pub HasPrefix : Option (List ℕ) → Option (List ℕ) → List ℕ → ℕ → Type 0
HasPrefix old now piece n = IfSome old (λ bytes. now ≡ Some (bytes ++ take n piece))

-- a prefix was added
pub prefix_added : (old now : Option (List ℕ)) (piece : List ℕ) (n : ℕ) → HasPrefix old now piece n → IfSome old (λ bytes. AddsPrefix bytes piece now)
prefix_added None now piece n has = tt
prefix_added (Some bytes) now piece n has = record {
  prefix = take n piece;
  left = drop n piece;
  whole = sym (take-append-drop n piece);
  added = has;
}

-- the first bytes of what is left make the prefix longer
pub more_added : (old mid now : Option (List ℕ)) (piece : List ℕ) (n left more : ℕ) → more ≤ left → HasPrefix old mid piece n
    → Appends mid now (take more (take left (drop n piece))) → HasPrefix old now piece (n + more)
more_added None mid now piece n left more fits has a = tt
more_added (Some bytes) mid now piece n left more fits has a =
    at now (subst (Appends (Some (bytes ++ take n piece)) now) (take-take more left (drop n piece) fits) (subst (λ (o : Option (List ℕ)). Appends o now (take more (take left (drop n piece)))) has a))
  where
    at : (o : Option (List ℕ)) → Appends (Some (bytes ++ take n piece)) o (take more (drop n piece)) → o ≡ Some (bytes ++ take (n + more) piece)
    at None b = absurd b
    at (Some ys) b = ap Some (b ∙ append_assoc bytes (take n piece) (take more (drop n piece)) ∙ ap (λ xs. bytes ++ xs) (sym (take-add n more piece)))

-- a write that kept what was there keeps the prefix
pub kept_prefix : (old mid now : Option (List ℕ)) (piece : List ℕ) (n : ℕ) → HasPrefix old mid piece n → Keeps mid now → HasPrefix old now piece n
kept_prefix None mid now piece n has k = tt
kept_prefix (Some bytes) mid now piece n has k = at now (subst (λ (o : Option (List ℕ)). Keeps o now) has k)
  where
    at : (o : Option (List ℕ)) → Keeps (Some (bytes ++ take n piece)) o → o ≡ Some (bytes ++ take n piece)
    at None b = absurd b
    at (Some ys) b = ap Some b
