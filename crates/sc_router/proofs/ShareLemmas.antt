-- The sum of what the parts give, as the code joins it, and what its upper bits are.
use Rattle.std.proofs.Common.{◌≡◌, ℕ, ◌+◌, ◌-◌, ◌*◌, ◌/◌, ◌%◌, ◌^◌, ◌<◌, ◌≤◌, List, [], ◌∷◌, length, take, refl, sym, ap, subst, ◌∙◌, arith, Bool, true, false, cond, eqb}
use Rattle.std.specs.Prelude.{min, sum_by, ◌&&◌, nat_eq}
use Rattle.std.specs.List.{ends_with}
use Rattle.std.proofs.lemmas.Nat.{pow_pos, pow-add, shl-shr, shr_high, mod_low, mod_below, mod-pow-add, mul-add-lt, shr_below}
use Rattle.std.proofs.Math.Nat.{mod-eq_of_lt, mul-one, div-one, min-eq_left, min-le_right, mul_assoc, add-mul}
use Rattle.sc_hash.specs.Hash.{murmur3}
use Rattle.sc_router.specs.Parts.{parts, Share, shares, fixed_shares, last_bits, ends_open, open_bits, bits_of, key_part, before_mark, after_mark, occurrences}
use Rattle.sc_router.specs.Route.{kept_bits, share_bits, route_bits}

abbrev share : List ℕ → ℕ → ℕ → Share
share key low count = record { key = key; low = low; count = count }

-- the lowest bits of a number, and its upper ones
kept-lowest : (count n : ℕ) → kept_bits 0 count n ≡ n % 2 ^ count
unfolding kept_bits
kept-lowest count n = mul-one (n / 1 % 2 ^ count) ∙ ap (λ x. x % 2 ^ count) (div-one n)

kept-upper : (low count n : ℕ) → n < 2 ^ (count + low) → kept_bits low count n ≡ n / 2 ^ low * 2 ^ low
unfolding kept_bits
kept-upper low count n h = ap (λ x. x * 2 ^ low) (mod-eq_of_lt (shr_below n count low h))

-- a block of upper bits over lower ones
two_blocks : (x f m r : ℕ) → x < 2 ^ f → r < 2 ^ m → x * 2 ^ m + r < 2 ^ (f + m)
two_blocks x f m r p q = omega (arith, mul-add-lt x (2 ^ m) r (2 ^ f) p q, pow-add 2 f m)

-- ---- what the code joins
pub joined_two : (f h l : ℕ) → f ≤ 32 → h < 2 ^ 32 → h / 2 ^ (32 - f) * 2 ^ (32 - f) + l % 2 ^ (32 - f) ≡ kept_bits (32 - f) f h + kept_bits 0 (32 - f) l
joined_two f h l p q =
    let whole : f + (32 - f) ≡ 32 = omega arith in
    let fits : h < 2 ^ (f + (32 - f)) = subst (λ k. h < 2 ^ k) (sym whole) q in
    sym (ap (λ x. x + kept_bits 0 (32 - f) l) (kept-upper (32 - f) f h fits) ∙ ap (λ x. h / 2 ^ (32 - f) * 2 ^ (32 - f) + x) (kept-lowest (32 - f) l))

-- the lower two of three parts, within the bits that the first leaves
lower_two : (s n h l : ℕ) → (h / 2 ^ n * 2 ^ n + l % 2 ^ n) % 2 ^ (s + n) ≡ kept_bits n s h + kept_bits 0 n l
unfolding kept_bits
lower_two s n h l =
    let r = mod_below l (2 ^ n) (pow_pos n) in
    mod-pow-add (h / 2 ^ n * 2 ^ n + l % 2 ^ n) s n
    ∙ ap (λ x. x % 2 ^ s * 2 ^ n + (h / 2 ^ n * 2 ^ n + l % 2 ^ n) % 2 ^ n) (shr_high (h / 2 ^ n) n (l % 2 ^ n) r)
    ∙ ap (λ x. h / 2 ^ n % 2 ^ s * 2 ^ n + x) (mod_low (h / 2 ^ n) n (l % 2 ^ n) r ∙ sym (kept-lowest n l))

-- ---- the shares of parts, one by one
abbrev two_shares : List ℕ → List ℕ → ℕ → List Share
two_shares key last f = share key (32 - f) f ∷ share last 0 (32 - f) ∷ []

abbrev three_shares : List ℕ → List ℕ → List ℕ → ℕ → ℕ → List Share
three_shares key second last f s = share key (32 - f) f ∷ share second (32 - f - s) s ∷ share last 0 (32 - f - s) ∷ []

shares-one : (a : List ℕ) → shares (a ∷ []) ≡ share a 0 32 ∷ []
unfolding shares
shares-one a = refl

shares-two : (a z : List ℕ) → shares (a ∷ z ∷ []) ≡ two_shares (key_part a) z (min (bits_of 16 a) 32)
unfolding shares
shares-two a z = refl

shares-three : (a b z : List ℕ) → shares (a ∷ b ∷ z ∷ []) ≡ three_shares (key_part a) (key_part b) z (min (bits_of 8 a) 32) (min (bits_of 8 b) (32 - min (bits_of 8 a) 32))
unfolding shares
shares-three a b z = refl

-- ---- what the code computes of two parts and of three
abbrev rest_bits : List Share → ℕ
rest_bits given = 32 - sum_by (λ share. share.count) (take (length given - 1) given)

last_bits-shares : (id_parts : List (List ℕ)) (given : List Share) → shares id_parts ≡ given → last_bits id_parts ≡ rest_bits given
unfolding last_bits fixed_shares
last_bits-shares id_parts given e = ap rest_bits e

pub shares-two_is : (a z : List ℕ) (f : ℕ) → f ≡ bits_of 16 a → f ≤ 32 → shares (a ∷ z ∷ []) ≡ two_shares (key_part a) z f
shares-two_is a z f e le = shares-two a z ∙ ap (two_shares (key_part a) z) (ap (λ n. min n 32) (sym e) ∙ min-eq_left le)

pub shares-three_is : (a b z : List ℕ) (f s : ℕ) → f ≡ bits_of 8 a → f ≤ 32 → s ≡ min (bits_of 8 b) (32 - f) → shares (a ∷ b ∷ z ∷ []) ≡ three_shares (key_part a) (key_part b) z f s
shares-three_is a b z f s e le k =
    let first : min (bits_of 8 a) 32 ≡ f = ap (λ n. min n 32) (sym e) ∙ min-eq_left le in
    shares-three a b z
    ∙ ap (λ n. three_shares (key_part a) (key_part b) z n (min (bits_of 8 b) (32 - n))) first
    ∙ ap (three_shares (key_part a) (key_part b) z f) (sym k)

pub last_bits-two : (a z : List ℕ) (f : ℕ) → f ≡ bits_of 16 a → f ≤ 32 → 32 - f ≡ last_bits (a ∷ z ∷ [])
last_bits-two a z f e le =
    let same : 32 - f ≡ rest_bits (two_shares (key_part a) z f) = omega arith in
    same ∙ sym (last_bits-shares (a ∷ z ∷ []) (two_shares (key_part a) z f) (shares-two_is a z f e le))

pub last_bits-three : (a b z : List ℕ) (f s : ℕ) → f ≡ bits_of 8 a → f ≤ 32 → s ≡ min (bits_of 8 b) (32 - f) → 32 - f - s ≡ last_bits (a ∷ b ∷ z ∷ [])
last_bits-three a b z f s e le k =
    let same : 32 - f - s ≡ rest_bits (three_shares (key_part a) (key_part b) z f s) = omega arith in
    same ∙ sym (last_bits-shares (a ∷ b ∷ z ∷ []) (three_shares (key_part a) (key_part b) z f s) (shares-three_is a b z f s e le k))

pub sum-two : (a z : List ℕ) (f h l : ℕ) → f ≡ bits_of 16 a → f ≤ 32 → h ≡ murmur3 (key_part a) 0 → h < 2 ^ 32 → l ≡ murmur3 z 0 → h / 2 ^ (32 - f) * 2 ^ (32 - f) + l % 2 ^ (32 - f) ≡ sum_by share_bits (shares (a ∷ z ∷ []))
sum-two a z f h l e le hash fits last =
    let joined : h / 2 ^ (32 - f) * 2 ^ (32 - f) + l % 2 ^ (32 - f) ≡ kept_bits (32 - f) f (murmur3 (key_part a) 0) + kept_bits 0 (32 - f) (murmur3 z 0) = joined_two f h l le fits ∙ ap (λ n. kept_bits (32 - f) f n + kept_bits 0 (32 - f) l) hash ∙ ap (λ n. kept_bits (32 - f) f (murmur3 (key_part a) 0) + kept_bits 0 (32 - f) n) last in
    let added : sum_by share_bits (two_shares (key_part a) z f) ≡ kept_bits (32 - f) f (murmur3 (key_part a) 0) + kept_bits 0 (32 - f) (murmur3 z 0) = omega arith in
    joined ∙ sym added ∙ ap (sum_by share_bits) (sym (shares-two_is a z f e le))

pub sum-three : (a b z : List ℕ) (f s g h l : ℕ) → f ≡ bits_of 8 a → f ≤ 32 → s ≡ min (bits_of 8 b) (32 - f) → g ≡ murmur3 (key_part a) 0 → g < 2 ^ 32 → h ≡ murmur3 (key_part b) 0 → l ≡ murmur3 z 0 → g / 2 ^ (32 - f) * 2 ^ (32 - f) + (h / 2 ^ (32 - f - s) * 2 ^ (32 - f - s) + l % 2 ^ (32 - f - s)) % 2 ^ (32 - f) ≡ sum_by share_bits (shares (a ∷ b ∷ z ∷ []))
sum-three a b z f s g h l e le k first fits second last =
    let n = 32 - f - s in
    let within : s ≤ 32 - f = subst (λ x. x ≤ 32 - f) (sym k) (min-le_right (bits_of 8 b) (32 - f)) in
    let whole : f + (32 - f) ≡ 32 = omega arith in
    let left : s + n ≡ 32 - f = omega arith in
    let upper : g / 2 ^ (32 - f) * 2 ^ (32 - f) ≡ kept_bits (32 - f) f g = sym (kept-upper (32 - f) f g (subst (λ x. g < 2 ^ x) (sym whole) fits)) in
    let lower : (h / 2 ^ n * 2 ^ n + l % 2 ^ n) % 2 ^ (32 - f) ≡ kept_bits n s h + kept_bits 0 n l = ap (λ x. (h / 2 ^ n * 2 ^ n + l % 2 ^ n) % 2 ^ x) (sym left) ∙ lower_two s n h l in
    let added : sum_by share_bits (three_shares (key_part a) (key_part b) z f s) ≡ kept_bits (32 - f) f (murmur3 (key_part a) 0) + (kept_bits n s (murmur3 (key_part b) 0) + kept_bits 0 n (murmur3 z 0)) = omega arith in
    ap (λ x. x + (h / 2 ^ n * 2 ^ n + l % 2 ^ n) % 2 ^ (32 - f)) upper
    ∙ ap (λ x. kept_bits (32 - f) f g + x) lower
    ∙ ap (λ x. kept_bits (32 - f) f x + (kept_bits n s h + kept_bits 0 n l)) first
    ∙ ap (λ x. kept_bits (32 - f) f (murmur3 (key_part a) 0) + (kept_bits n s x + kept_bits 0 n l)) second
    ∙ ap (λ x. kept_bits (32 - f) f (murmur3 (key_part a) 0) + (kept_bits n s (murmur3 (key_part b) 0) + kept_bits 0 n x)) last
    ∙ sym added
    ∙ ap (sum_by share_bits) (sym (shares-three_is a b z f s e le k))

-- ---- which bits are open
ends_open-two : (a z : List ℕ) → ends_open (a ∷ z ∷ []) ≡ eqb (length z) 0
unfolding ends_open
ends_open-two a z = refl

ends_open-three : (a b z : List ℕ) → ends_open (a ∷ b ∷ z ∷ []) ≡ eqb (length z) 0
unfolding ends_open
ends_open-three a b z = refl

pub open_bits-two : (a z : List ℕ) (n : ℕ) → n ≡ last_bits (a ∷ z ∷ []) → cond (eqb (length z) 0) n 0 ≡ open_bits (a ∷ z ∷ [])
unfolding open_bits
open_bits-two a z n e = ap (λ k. cond (eqb (length z) 0) k 0) e ∙ ap (λ t. cond t (last_bits (a ∷ z ∷ [])) 0) (sym (ends_open-two a z))

pub open_bits-three : (a b z : List ℕ) (n : ℕ) → n ≡ last_bits (a ∷ b ∷ z ∷ []) → cond (eqb (length z) 0) n 0 ≡ open_bits (a ∷ b ∷ z ∷ [])
unfolding open_bits
open_bits-three a b z n e = ap (λ k. cond (eqb (length z) 0) k 0) e ∙ ap (λ t. cond t (last_bits (a ∷ b ∷ z ∷ [])) 0) (sym (ends_open-three a b z))

pub open_bits-one : (a : List ℕ) → open_bits (a ∷ []) ≡ 0
unfolding open_bits ends_open
open_bits-one a = refl

pub sum-one : (a : List ℕ) (n : ℕ) → n ≡ murmur3 a 0 → n < 2 ^ 32 → n ≡ sum_by share_bits (shares (a ∷ []))
sum-one a n e fits =
    let added : sum_by share_bits (share a 0 32 ∷ []) ≡ kept_bits 0 32 (murmur3 a 0) = omega arith in
    sym (mod-eq_of_lt fits) ∙ ap (λ k. k % 2 ^ 32) e ∙ sym (kept-lowest 32 (murmur3 a 0)) ∙ sym added ∙ ap (sum_by share_bits) (sym (shares-one a))

-- ---- the upper bits of a sum, and how large it is
-- the parts before the last decide all bits but the last part's
abbrev pub SplitsOff : List Share → Type 0
SplitsOff given =
    (sum_by share_bits given / 2 ^ rest_bits given ≡ sum_by share_bits (take (length given - 1) given) / 2 ^ rest_bits given)
    × (sum_by share_bits given < 2 ^ 32)

-- upper bits and a rest below them
abbrev IsBlock : ℕ → ℕ → ℕ → ℕ → ℕ → Type 0
IsBlock total upper x m r = (total ≡ x * 2 ^ m + r) × (upper ≡ x * 2 ^ m) × (r < 2 ^ m)

same_upper : (total upper x m r k : ℕ) → k ≡ m → IsBlock total upper x m r → total / 2 ^ k ≡ upper / 2 ^ k
same_upper total upper x m r k same (e, f, lt) =
    ap (λ i. total / 2 ^ i) same ∙ ap (λ y. y / 2 ^ m) e ∙ shr_high x m r lt ∙ sym (shl-shr x m) ∙ ap (λ y. y / 2 ^ m) (sym f) ∙ ap (λ i. upper / 2 ^ i) (sym same)

kept-lowest-lt : (count n : ℕ) → kept_bits 0 count n < 2 ^ count
kept-lowest-lt count n = subst (λ x. x < 2 ^ count) (sym (kept-lowest count n)) (mod_below n (2 ^ count) (pow_pos count))

SplitsOff-one : (a : List ℕ) → SplitsOff (share a 0 32 ∷ [])
SplitsOff-one a =
    let total = sum_by share_bits (share a 0 32 ∷ []) in
    let r = kept_bits 0 32 (murmur3 a 0) in
    let small = kept-lowest-lt 32 (murmur3 a 0) in
    let whole : total ≡ r = omega arith in
    (same_upper total 0 0 32 r (rest_bits (share a 0 32 ∷ [])) (omega arith) (omega arith, omega arith, small), subst (λ x. x < 2 ^ 32) (sym whole) small)

SplitsOff-two : (k z : List ℕ) (f : ℕ) → f ≤ 32 → SplitsOff (two_shares k z f)
unfolding kept_bits
SplitsOff-two k z f le =
    let m = 32 - f in
    let x = murmur3 k 0 / 2 ^ m % 2 ^ f in
    let r = kept_bits 0 m (murmur3 z 0) in
    let small = kept-lowest-lt m (murmur3 z 0) in
    let fits = two_blocks x f m r (mod_below (murmur3 k 0 / 2 ^ m) (2 ^ f) (pow_pos f)) small in
    let total : sum_by share_bits (two_shares k z f) ≡ x * 2 ^ m + r = omega arith in
    let upper : sum_by share_bits (share k m f ∷ []) ≡ x * 2 ^ m = omega arith in
    let whole : f + m ≡ 32 = omega arith in
    let rest : rest_bits (two_shares k z f) ≡ m = omega arith in
    (same_upper _ _ x m r _ rest (total, upper, small), subst (λ n. n < 2 ^ 32) (sym total) (subst (λ i. x * 2 ^ m + r < 2 ^ i) whole fits))

SplitsOff-three : (k l z : List ℕ) (f s : ℕ) → f ≤ 32 → s ≤ 32 - f → SplitsOff (three_shares k l z f s)
unfolding kept_bits
SplitsOff-three k l z f s p q =
    let m = 32 - f in
    let n = 32 - f - s in
    let x = murmur3 k 0 / 2 ^ m % 2 ^ f in
    let y = murmur3 l 0 / 2 ^ n % 2 ^ s in
    let r = kept_bits 0 n (murmur3 z 0) in
    let small = kept-lowest-lt n (murmur3 z 0) in
    let lower = two_blocks y s n r (mod_below (murmur3 l 0 / 2 ^ n) (2 ^ s) (pow_pos s)) small in
    let left : s + n ≡ m = omega arith in
    let fits = two_blocks x f m (y * 2 ^ n + r) (mod_below (murmur3 k 0 / 2 ^ m) (2 ^ f) (pow_pos f)) (subst (λ i. y * 2 ^ n + r < 2 ^ i) left lower) in
    let whole : f + m ≡ 32 = omega arith in
    let high : x * 2 ^ m ≡ x * 2 ^ s * 2 ^ n = ap (λ i. x * 2 ^ i) (sym left) ∙ ap (λ i. x * i) (pow-add 2 s n) ∙ sym (mul_assoc x (2 ^ s) (2 ^ n)) in
    let joint : (x * 2 ^ s + y) * 2 ^ n ≡ x * 2 ^ s * 2 ^ n + y * 2 ^ n = add-mul (x * 2 ^ s) y (2 ^ n) in
    let added : sum_by share_bits (three_shares k l z f s) ≡ x * 2 ^ m + (y * 2 ^ n + r) = omega arith in
    let total : sum_by share_bits (three_shares k l z f s) ≡ (x * 2 ^ s + y) * 2 ^ n + r = omega (arith, added, high, joint) in
    let prefix : sum_by share_bits (share k m f ∷ share l n s ∷ []) ≡ x * 2 ^ m + y * 2 ^ n = omega arith in
    let upper : sum_by share_bits (share k m f ∷ share l n s ∷ []) ≡ (x * 2 ^ s + y) * 2 ^ n = omega (arith, prefix, high, joint) in
    let rest : rest_bits (three_shares k l z f s) ≡ n = omega arith in
    (same_upper _ _ (x * 2 ^ s + y) n r _ rest (total, upper, small), subst (λ i. i < 2 ^ 32) (sym added) (subst (λ i. x * 2 ^ m + (y * 2 ^ n + r) < 2 ^ i) whole fits))

-- ---- the same of an id
SplitsOff-parts : (id : List ℕ) → SplitsOff (shares (parts id))
unfolding parts
SplitsOff-parts id =
    by (nat_eq (occurrences 33 id) 0) (nat_eq (occurrences 33 id) 1) (nat_eq (occurrences 33 id) 2 && ends_with nat_eq id (33 ∷ 33 ∷ [])) where
      two : (a z : List ℕ) → SplitsOff (shares (a ∷ z ∷ []))
      two a z = subst SplitsOff (sym (shares-two a z)) (SplitsOff-two (key_part a) z (min (bits_of 16 a) 32) (min-le_right (bits_of 16 a) 32))

      three : (a b z : List ℕ) → SplitsOff (shares (a ∷ b ∷ z ∷ []))
      three a b z = subst SplitsOff (sym (shares-three a b z)) (SplitsOff-three (key_part a) (key_part b) z (min (bits_of 8 a) 32) (min (bits_of 8 b) (32 - min (bits_of 8 a) 32)) (min-le_right (bits_of 8 a) 32) (min-le_right (bits_of 8 b) (32 - min (bits_of 8 a) 32)))

      by : (t u v : Bool) → SplitsOff (shares (cond t (id ∷ []) (cond u (before_mark 33 id ∷ after_mark 33 id ∷ []) (cond v (before_mark 33 id ∷ [] ∷ []) (before_mark 33 id ∷ before_mark 33 (after_mark 33 id) ∷ after_mark 33 (after_mark 33 id) ∷ [])))))
      by true u v = subst SplitsOff (sym (shares-one id)) (SplitsOff-one id)
      by false true v = two (before_mark 33 id) (after_mark 33 id)
      by false false true = two (before_mark 33 id) []
      by false false false = three (before_mark 33 id) (before_mark 33 (after_mark 33 id)) (after_mark 33 (after_mark 33 id))

pub route_bits-lt : (id : List ℕ) → route_bits id < 2 ^ 32
unfolding route_bits
route_bits-lt id = (SplitsOff-parts id).1

abbrev fixed_sum : List Share → ℕ → ℕ
fixed_sum given k = sum_by share_bits given / 2 ^ k

-- the bits above the last part's are those of the shares before it
route_bits-upper : (id : List ℕ) → route_bits id / 2 ^ last_bits (parts id) ≡ fixed_sum (fixed_shares (parts id)) (32 - sum_by (λ share. share.count) (fixed_shares (parts id)))
unfolding route_bits last_bits fixed_shares
route_bits-upper id = (SplitsOff-parts id).0

-- ids with the same shares before the last part agree in all bits above it
pub route_bits-same : (id route : List ℕ) → fixed_shares (parts id) ≡ fixed_shares (parts route) → route_bits id / 2 ^ last_bits (parts route) ≡ route_bits route / 2 ^ last_bits (parts route)
unfolding last_bits
route_bits-same id route same =
    ap (λ given. route_bits id / 2 ^ (32 - sum_by (λ share. share.count) given)) (sym same)
    ∙ route_bits-upper id
    ∙ ap (λ given. fixed_sum given (32 - sum_by (λ share. share.count) given)) same
    ∙ sym (route_bits-upper route)
