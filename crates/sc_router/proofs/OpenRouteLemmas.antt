-- Laws on the hashes under a route.
use Rattle.std.proofs.Common.{◌≡◌, ◌≢◌, ℕ, suc, ◌+◌, ◌-◌, ◌*◌, ◌/◌, ◌%◌, ◌^◌, ◌<◌, ◌≤◌, ℤ, ◌≤ℤ◌, pos, negsuc, w32, to_z, of_z, List, Bool, true, false, cond, eqb, refl, sym, ap, subst, ◌∙◌, arith}
use Rattle.std.specs.Prelude.{◌↔◌, IsTrue}
use Rattle.std.specs.Int.RustNames.{FitsSigned}
use Rattle.std.proofs.lemmas.Int.{of_z-to_z, to_z-of_z}
use Rattle.std.proofs.lemmas.Bool.Decides.{Decides-eqb, nat_tests}
use Rattle.std.proofs.lemmas.Nat.{pow_pos, pow-add, mod_low}
use Rattle.std.proofs.Math.Facts.{sfits_to_z}
use Rattle.std.proofs.Math.Nat.{suc-mul, zero-mod}
use Rattle.sc_hash.specs.Range.{IsWithin}
use Rattle.sc_router.specs.Parts.{parts, last_bits, ends_open, open_bits}
use Rattle.sc_router.specs.Route.{route_bits, route_hash, least_under, greatest_under, HasFixedBits, IsOpenRoute, IsUnder}
use Rattle.sc_router.proofs.ShareLemmas.{route_bits-lt, route_bits-same}
use Rattle.sc_router.proofs.BlockLemmas.{within_iff, ordered_at, all_within, all_open}

open_bits-le : (id_parts : List (List ℕ)) → open_bits id_parts ≤ 32
unfolding open_bits last_bits
open_bits-le id_parts = by (ends_open id_parts) where
  by : (t : Bool) → cond t (last_bits id_parts) 0 ≤ 32
  by true = omega arith
  by false = omega arith

-- where one bit at least is fixed, the ends are the route's hash with its open bits 0, and with them 1
abbrev least_end : List ℕ → Bool → ℤ
least_end route t = cond t (negsuc (2 ^ 31 - 1)) (to_z w32 (route_bits route / 2 ^ open_bits (parts route) * 2 ^ open_bits (parts route)))

abbrev greatest_end : List ℕ → Bool → ℤ
greatest_end route t = cond t (pos (2 ^ 31 - 1)) (to_z w32 (route_bits route / 2 ^ open_bits (parts route) * 2 ^ open_bits (parts route) + (2 ^ open_bits (parts route) - 1)))

-- the ends hold just the hashes with the fixed bits
pub under_iff : (route : List ℕ) (h : ℤ) → FitsSigned w32 h → IsWithin (least_under route) (greatest_under route) h ↔ HasFixedBits route h
unfolding least_under greatest_under
under_iff route h fits = by (eqb (open_bits (parts route)) 32) refl where
  by : (t : Bool) → eqb (open_bits (parts route)) 32 ≡ t → IsWithin (least_end route t) (greatest_end route t) h ↔ HasFixedBits route h
  by true e =
      let whole : open_bits (parts route) ≡ 32 = (Decides-eqb (open_bits (parts route)) 32).0 e in
      let same : (of_z w32 h / 2 ^ open_bits (parts route)) ≡ route_bits route / 2 ^ open_bits (parts route) = rw whole (all_open (route_bits route) h (route_bits-lt route) fits) in
      (λ w. same, λ s. all_within h fits)
  by false e =
      let some : open_bits (parts route) ≢ 32 = λ k. grind (arith, nat_tests) in
      within_iff (route_bits route) (open_bits (parts route)) h (route_bits-lt route) (omega (arith, open_bits-le (parts route))) fits

open_bits-open : (id_parts : List (List ℕ)) → IsTrue (ends_open id_parts) → open_bits id_parts ≡ last_bits id_parts
unfolding open_bits
open_bits-open id_parts h = rw h refl

route_hash-fits : (id : List ℕ) → FitsSigned w32 (route_hash id)
route_hash-fits id = sfits_to_z {w = w32} (record { fits = route_bits-lt id })

-- an id under a route has its hash between the ends
pub under_ids : (route id : List ℕ) → IsOpenRoute route → IsUnder id route → IsWithin (least_under route) (greatest_under route) (route_hash id)
under_ids route id open_end under =
    let k = open_bits (parts route) in
    let bits = of_z-to_z w32 (route_bits id) (route_bits-lt id) in
    let last = open_bits-open (parts route) open_end in
    let same : route_bits id / 2 ^ k ≡ route_bits route / 2 ^ k = ap (λ n. route_bits id / 2 ^ n) last ∙ route_bits-same id route under ∙ ap (λ n. route_bits route / 2 ^ n) (sym last) in
    (under_iff route (route_hash id) (route_hash-fits id)).1 (ap (λ n. n / 2 ^ k) bits ∙ same)

-- ---- what the code computes
low_ones : (k : ℕ) → k < 32 → 4294967295 % 2 ^ k ≡ 2 ^ k - 1
low_ones k lt =
    let m = 2 ^ k in
    let r = 2 ^ (32 - k) - 1 in
    let p = pow_pos k in
    let q = pow_pos (32 - k) in
    let all : (32 - k) + k ≡ 32 = omega arith in
    let rows : 2 ^ (32 - k) * m ≡ 2 ^ 32 = sym (pow-add 2 (32 - k) k) ∙ ap (λ i. 2 ^ i) all in
    let next : 2 ^ (32 - k) ≡ suc r = omega arith in
    let row : suc r * m ≡ r * m + m = suc-mul r m in
    let whole : 4294967295 ≡ r * m + (m - 1) = omega (arith, rows, row, ap (λ n. n * m) next) in
    ap (λ n. n % m) whole ∙ mod_low r k (m - 1) (omega arith)

-- a number read as a signed one, where the code has its bits
signed_is : (z : ℤ) (n : ℕ) → FitsSigned w32 z → z ≡ to_z w32 n → to_z w32 (of_z w32 z) ≡ to_z w32 n
signed_is z n fits e = to_z-of_z w32 z fits ∙ e

pub least_is : (bits free n : ℕ) (z : ℤ) → FitsSigned w32 z → z ≡ to_z w32 n → n ≡ bits / 2 ^ free * 2 ^ free + 0 % 2 ^ free → to_z w32 (of_z w32 z) ≡ to_z w32 (bits / 2 ^ free * 2 ^ free)
least_is bits free n z fits e k =
    let zeros : bits / 2 ^ free * 2 ^ free + 0 % 2 ^ free ≡ bits / 2 ^ free * 2 ^ free = omega (arith, zero-mod (2 ^ free)) in
    signed_is z n fits e ∙ ap (to_z w32) (k ∙ zeros)

pub greatest_is : (bits free n : ℕ) (z : ℤ) → FitsSigned w32 z → free < 32 → z ≡ to_z w32 n → n ≡ bits / 2 ^ free * 2 ^ free + 4294967295 % 2 ^ free → to_z w32 (of_z w32 z) ≡ to_z w32 (bits / 2 ^ free * 2 ^ free + (2 ^ free - 1))
greatest_is bits free n z fits lt e k = signed_is z n fits e ∙ ap (to_z w32) (k ∙ ap (λ r. bits / 2 ^ free * 2 ^ free + r) (low_ones free lt))

pub ends_ordered : (bits free : ℕ) (a b : ℤ) → bits < 2 ^ 32 → free < 32 → a ≡ to_z w32 (bits / 2 ^ free * 2 ^ free) → b ≡ to_z w32 (bits / 2 ^ free * 2 ^ free + (2 ^ free - 1)) → a ≤ℤ b
ends_ordered bits free a b fits lt e f = subst (λ x. x ≤ℤ b) (sym e) (subst (λ x. to_z w32 (bits / 2 ^ free * 2 ^ free) ≤ℤ x) (sym f) (ordered_at bits free fits lt))

pub least_under-above : (route : List ℕ) (bits free : ℕ) → bits ≡ route_bits route → free ≡ open_bits (parts route) → free ≢ 32 → to_z w32 (bits / 2 ^ free * 2 ^ free) ≡ least_under route
unfolding least_under
least_under-above route bits free e f some =
    let partly : eqb (open_bits (parts route)) 32 ≡ false = grind (arith, nat_tests) in
    rw partly (ap (to_z w32) (ap (λ b. b / 2 ^ free * 2 ^ free) e ∙ ap (λ i. route_bits route / 2 ^ i * 2 ^ i) f))

pub greatest_under-above : (route : List ℕ) (bits free : ℕ) → bits ≡ route_bits route → free ≡ open_bits (parts route) → free ≢ 32 → to_z w32 (bits / 2 ^ free * 2 ^ free + (2 ^ free - 1)) ≡ greatest_under route
unfolding greatest_under
greatest_under-above route bits free e f some =
    let partly : eqb (open_bits (parts route)) 32 ≡ false = grind (arith, nat_tests) in
    rw partly (ap (to_z w32) (ap (λ b. b / 2 ^ free * 2 ^ free + (2 ^ free - 1)) e ∙ ap (λ i. route_bits route / 2 ^ i * 2 ^ i + (2 ^ i - 1)) f))

pub least_under-all : (route : List ℕ) (free : ℕ) → free ≡ open_bits (parts route) → free ≡ 32 → negsuc 2147483647 ≡ least_under route
unfolding least_under
least_under-all route free f whole = let all : open_bits (parts route) ≡ 32 = sym f ∙ whole in rw all refl

pub greatest_under-all : (route : List ℕ) (free : ℕ) → free ≡ open_bits (parts route) → free ≡ 32 → pos 2147483647 ≡ greatest_under route
unfolding greatest_under
greatest_under-all route free f whole = let all : open_bits (parts route) ≡ 32 = sym f ∙ whole in rw all refl

-- what holds between the ends holds between the numbers that are they
pub IsWithin-ends : (a b c d h : ℤ) → a ≡ c → b ≡ d → IsWithin c d h → IsWithin a b h
IsWithin-ends a b c d h e f w = (subst (λ x. x ≤ℤ h) (sym e) w.0, subst (λ x. h ≤ℤ x) (sym f) w.1)
