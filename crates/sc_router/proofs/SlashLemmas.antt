-- The first `/` of a part: where it stands in one that grows by a byte, and what the part states after it.
use Rattle.std.proofs.Common.{◌≡◌, ◌≢◌, ℕ, ◌+◌, ◌<◌, List, [], ◌∷◌, ◌++◌, length, drop, true, false, subst, sym, ap, ◌∙◌, arith}
use Rattle.std.specs.Prelude.{Option, Some, None, is_some}
use Rattle.std.proofs.lemmas.Bool.{false≢true}
use Rattle.sc_hash.specs.Hash.{murmur3}
use Rattle.sc_router.specs.Parts.{stated_count, count_in}
use Rattle.sc_router.specs.Slash.{IsFirstSlash}
use Rattle.sc_router.specs.declared.part.Slash.{Slash}
use Rattle.sc_router.proofs.CountLemmas.{count_in-first, count_in-found}
use Rattle.sc_router.proofs.MarkLemmas.{before-lt, after-place, found-joined, occurrences-push_other, occurrences-push_le, before-push_first, before-push}

-- in a part that grows it stays where it is
IsFirstSlash-pushed : (slash : Slash) (byte : ℕ) (part : List ℕ) → IsFirstSlash (Some slash) part → IsFirstSlash (Some slash) (part ++ byte ∷ [])
IsFirstSlash-pushed slash byte part (some, at, hash) =
    let same = before-push 47 byte part some in
    (omega (arith, occurrences-push_le 47 byte part), at ∙ ap length (sym same), hash ∙ ap (λ key. murmur3 key 0) (sym same))

-- another byte is none
pub IsFirstSlash-other : (found : Option Slash) (byte : ℕ) (part : List ℕ) → byte ≢ 47 → IsFirstSlash found part → IsFirstSlash found (part ++ byte ∷ [])
IsFirstSlash-other None byte part other none = occurrences-push_other 47 byte part other ∙ none
IsFirstSlash-other (Some slash) byte part other h = IsFirstSlash-pushed slash byte part h

pub IsFirstSlash-kept : (found : Option Slash) (byte : ℕ) (part : List ℕ) → is_some found ≡ true → IsFirstSlash found part → IsFirstSlash found (part ++ byte ∷ [])
IsFirstSlash-kept None byte part some h = absurd (false≢true some)
IsFirstSlash-kept (Some slash) byte part some h = IsFirstSlash-pushed slash byte part h

-- a `/` after a part without one is the first
IsFirstSlash-here : (slash : Slash) (part : List ℕ) → IsFirstSlash None part → slash.at ≡ length part → slash.hash ≡ murmur3 part 0 → IsFirstSlash (Some slash) (part ++ 47 ∷ [])
IsFirstSlash-here slash part none at hash =
    let same = before-push_first 47 part none in
    (found-joined 47 part [], at ∙ ap length (sym same), hash ∙ ap (λ key. murmur3 key 0) (sym same))

pub IsFirstSlash-taken : (found : Option Slash) (slash : Slash) (byte : ℕ) (part : List ℕ) → is_some found ≡ false → byte ≡ 47 → IsFirstSlash found part → slash.at ≡ length part → slash.hash ≡ murmur3 part 0 → IsFirstSlash (Some slash) (part ++ byte ∷ [])
IsFirstSlash-taken None slash byte part none mark h at hash = subst (λ b. IsFirstSlash (Some slash) (part ++ b ∷ [])) (sym mark) (IsFirstSlash-here slash part h at hash)
IsFirstSlash-taken (Some other) slash byte part none mark h at hash = absurd (false≢true (sym none))

-- it is one of the part's bytes
pub IsFirstSlash-lt : (slash : Slash) (part : List ℕ) → IsFirstSlash (Some slash) part → slash.at < length part
IsFirstSlash-lt slash part (some, at, hash) = omega (arith, before-lt 47 part some)

-- what comes after it is the count that the part states, where it is not the first byte
pub count_in-slash : (slash : Slash) (part : List ℕ) → IsFirstSlash (Some slash) part → slash.at ≢ 0 → count_in part ≡ stated_count (drop (slash.at + 1) part)
count_in-slash slash part (some, at, hash) later = count_in-found part some (λ e. later (at ∙ e)) ∙ ap stated_count (sym (after-place 47 slash.at part some at))

pub count_in-slash_first : (slash : Slash) (part : List ℕ) → IsFirstSlash (Some slash) part → slash.at ≡ 0 → count_in part ≡ None
count_in-slash_first slash part (some, at, hash) first = count_in-first part (sym at ∙ first)
