-- What opening finds in frames.
use Rattle.std.proofs.Common.{◌≡◌, ◌≢◌, ℕ, zero, suc, ◌+◌, ◌^◌, ◌<◌, ◌≤◌, ◌&&◌, ◌==◌, nat_lt, Bool, true, false, List, [], ◌∷◌, ◌++◌, length, take, drop, Option, Some, None, if◌then◌else◌, refl, sym, ◌∙◌, ap, subst, arith, append_assoc, length-append}
use Rattle.std.proofs.lemmas.Bool.Decides.{nat_tests}
use Rattle.std.proofs.lemmas.List.{append-nil, take_at, drop_at, length-drop}
use Rattle.std.proofs.lemmas.Nat.{from_le_bytes-to_le_bytes_8}
use Rattle.std.proofs.lemmas.Grind.{flat_map-append}
use Rattle.std.specs.Int.{w64, to_le_bytes, from_le_bytes}
use Rattle.std.specs.List.{AllByRecursion}
use Rattle.sc_tail.specs.Frames.{frame, frames, told_length, first_frame, open_on, opened_within, opened}
use Rattle.sc_tail.specs.Files.{Fits}

-- the length that was spelt is the length that is told
pub told-spelt : (n : ℕ) (rest : List ℕ) → n < 2 ^ 64 → told_length (to_le_bytes w64 n ++ rest) ≡ n
told-spelt n rest fits = ap (λ l. from_le_bytes w64 l) (take_at (to_le_bytes w64 n) rest 8 refl) ∙ from_le_bytes-to_le_bytes_8 n fits

-- a frame is open where its mark is 1, and it and a byte more stand there
pub first_open : (mark : ℕ) (rest : List ℕ) → mark ≡ 1 → 8 + told_length rest < length rest
    → first_frame (mark ∷ rest) ≡ Some (take (told_length rest) (drop 8 rest), drop (8 + told_length rest) rest)
first_open mark rest is whole = grind (arith, nat_tests)

-- a mark that isn't 1 opens nothing
pub first_shut : (mark : ℕ) (rest : List ℕ) → mark ≢ 1 → first_frame (mark ∷ rest) ≡ None
first_shut mark rest shut = grind (arith, nat_tests)

-- nor does a frame that isn't whole, or has nothing after it
pub first_cut : (mark : ℕ) (rest : List ℕ) → length rest ≤ 8 + told_length rest → first_frame (mark ∷ rest) ≡ None
first_cut mark rest short = grind (arith, nat_tests)

pub first-frame : (body after : List ℕ) → Fits body → 0 < length after → first_frame (frame body ++ after) ≡ Some (body, after)
first-frame body after fits some =
    let spelt = to_le_bytes w64 (length body) in
    let rest = (spelt ++ body) ++ after in
    let apart : rest ≡ spelt ++ (body ++ after) = append_assoc spelt body after in
    let told : told_length rest ≡ length body = ap (λ l. told_length l) apart ∙ told-spelt (length body) (body ++ after) fits in
    let behind : drop 8 rest ≡ body ++ after = ap (λ l. drop 8 l) apart ∙ drop_at spelt (body ++ after) 8 refl in
    let whole : 8 + told_length rest < length rest = omega (arith, told, ap length apart, length-append spelt (body ++ after), length-append body after, some) in
    let here : take (told_length rest) (drop 8 rest) ≡ body = (λ i. take (told i) (behind i)) ∙ take_at body after (length body) refl in
    let beyond : drop (8 + told_length rest) rest ≡ after = ap (λ n. drop (8 + n) rest) told ∙ drop_at (spelt ++ body) after (8 + length body) (length-append spelt body) in
    first_open 1 rest refl whole ∙ (λ i. Some (here i, beyond i))

from_some : {X : Type 0} → X → Option X → X
from_some x None = x
from_some x (Some y) = y

some_is : {X : Type 0} (x y : X) → Some x ≡ Some y → x ≡ y
unfolding from_some
some_is x y e = ap (from_some x) e

is_none_of : {X : Type 0} → Option X → Type 0
is_none_of None = Unit {0}
is_none_of (Some x) = ⊥

pub none_is_not : {X : Type 0} (x : X) → None ≡ Some x → ⊥
unfolding is_none_of
none_is_not x e = subst is_none_of e tt

if_some : {X : Type 0} (b : Bool) (x y : X) → (if b then Some x else None) ≡ Some y → x ≡ y
if_some true x y e = some_is x y e
if_some false x y e = absurd (none_is_not y e)

-- what comes after a frame is shorter
pub shorter : (bytes : List ℕ) (found : List ℕ × List ℕ) → first_frame bytes ≡ Some found → length found.1 < length bytes
shorter [] found e = absurd (none_is_not found e)
shorter (mark ∷ rest) found e =
    let is = if_some (mark == 1 && nat_lt (8 + told_length rest) (length rest)) (take (told_length rest) (drop 8 rest), drop (8 + told_length rest) rest) found e in
    omega (arith, ap (λ (f : List ℕ × List ℕ). length f.1) is, length-drop (8 + told_length rest) rest)

same_on : (first : Option (List ℕ × List ℕ)) (f g : List ℕ → List (List ℕ)) → ((found : List ℕ × List ℕ) → first ≡ Some found → f found.1 ≡ g found.1) → open_on f first ≡ open_on g first
same_on None f g same = refl
same_on (Some found) f g same = ap (λ (l : List (List ℕ)). found.0 ∷ l) (same found refl)

nothing : (most : ℕ) → opened_within most [] ≡ []
nothing zero = refl
nothing (suc most) = refl

-- how many are looked for at most makes no difference once there are as many as bytes
same_within : (a b : ℕ) (bytes : List ℕ) → length bytes ≤ a → length bytes ≤ b → opened_within a bytes ≡ opened_within b bytes
same_within zero b [] la lb = sym (nothing b)
same_within zero b (x ∷ bytes) la lb = absurd (omega (arith, la))
same_within (suc a) zero [] la lb = refl
same_within (suc a) zero (x ∷ bytes) la lb = absurd (omega (arith, lb))
same_within (suc a) (suc b) bytes la lb = same_on (first_frame bytes) (opened_within a) (opened_within b) (λ found e.
    let less = shorter bytes found e in
    same_within a b found.1 (omega (arith, la, less)) (omega (arith, lb, less)))

-- an open frame's body is the first, and then comes what stands after it
pub opened_first : (bytes : List ℕ) (found : List ℕ × List ℕ) → first_frame bytes ≡ Some found → opened bytes ≡ found.0 ∷ opened found.1
opened_first [] found e = absurd (none_is_not found e)
opened_first (x ∷ bytes) found e =
    let less = shorter (x ∷ bytes) found e in
    ap (λ (f : Option (List ℕ × List ℕ)). open_on (opened_within (length bytes)) f) e
    ∙ ap (λ (l : List (List ℕ)). found.0 ∷ l) (same_within (length bytes) (length found.1) found.1 (omega (arith, less)) (omega arith))

-- where no frame is open, nothing is found
pub opened_none : (bytes : List ℕ) → first_frame bytes ≡ None → opened bytes ≡ []
opened_none [] e = refl
opened_none (x ∷ bytes) e = ap (λ (f : Option (List ℕ × List ℕ)). open_on (opened_within (length bytes)) f) e

-- frames, and then whatever opening finds after them
pub opened-frames : (bodies : List (List ℕ)) (after : List ℕ) → AllByRecursion Fits bodies → 0 < length after → opened (frames bodies ++ after) ≡ bodies ++ opened after
opened-frames [] after fits some = refl
opened-frames (body ∷ bodies) after fits some =
    ap opened (append_assoc (frame body) (frames bodies) after)
    ∙ opened_first (frame body ++ (frames bodies ++ after)) (body, frames bodies ++ after) (first-frame body (frames bodies ++ after) fits.0 (omega (arith, length-append (frames bodies) after, some)))
    ∙ ap (λ (l : List (List ℕ)). body ∷ l) (opened-frames bodies after fits.1 some)

-- a closed mark ends them, whatever stands behind it
pub opened_shut : (bodies : List (List ℕ)) (mark : ℕ) (rest : List ℕ) → AllByRecursion Fits bodies → mark ≢ 1 → opened (frames bodies ++ mark ∷ rest) ≡ bodies
opened_shut bodies mark rest fits shut =
    opened-frames bodies (mark ∷ rest) fits (omega arith)
    ∙ ap (λ (l : List (List ℕ)). bodies ++ l) (opened_none (mark ∷ rest) (first_shut mark rest shut))
    ∙ append-nil bodies

pub frames-push : (bodies : List (List ℕ)) (body : List ℕ) → frames (bodies ++ body ∷ []) ≡ frames bodies ++ frame body
frames-push bodies body = flat_map-append frame bodies (body ∷ []) ∙ ap (λ (l : List ℕ). frames bodies ++ l) (append-nil (frame body))

pub fits-push : (bodies : List (List ℕ)) (body : List ℕ) → AllByRecursion Fits bodies → Fits body → AllByRecursion Fits (bodies ++ body ∷ [])
fits-push [] body fits one = (one, tt)
fits-push (b ∷ bodies) body fits one = (fits.0, fits-push bodies body fits.1 one)
