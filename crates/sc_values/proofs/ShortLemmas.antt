-- Two short texts compare as they do with zeros after them, and where these are alike as their lengths do; and 14 bytes compare as two words
-- that overlap.
use Rattle.std.proofs.Common.{◌≡◌, ◌∙◌, ◌⊎◌, inl, inr, ℕ, zero, suc, ◌+◌, ◌-◌, ◌*◌, ◌<◌, ◌≤◌, List, [], ◌∷◌, ◌++◌, length, get_or, refl, sym, ap, ap₂, subst, arith, append-nil, take_all, drop-cons, take-append-drop}
use Rattle.std.specs.Prelude.{replicate, take, drop}
use Rattle.std.specs.Cmp.{nat_cmp_is, ranks}
use Rattle.std.specs.Cmp.Lexicographic.{slice_cmp}
use Rattle.std.specs.Ordering.{nat_cmp, ordering_then, MatchOrdering}
use Rattle.std.specs.declared.cmp.Ordering.{Ordering}
use Rattle.std.specs.declared.cmp.Ordering.TheVariants.{Less, Equal, Greater}
use Rattle.std.specs.Slice.Scan.{big_endian}
use Rattle.std.proofs.lemmas.List.{length-append, length-replicate, length-take-le, length-drop, get_or-drop, drop-replicate, take_at, drop_all}
use Rattle.std.proofs.lemmas.Slice.{take-put_mid}
use Rattle.std.proofs.Math.Seq.{take-append_seam, take-add}
use borrow.Rule.Slice.PartMut.{put_mid}
use Rattle.sc_values.specs.Shorts.{IsShort, padded, eight_bytes_at, words_cmp}

-- ---- zeros
-- how texts compare
order : List ℕ → List ℕ → Ordering
order xs ys = slice_cmp nat_cmp xs ys

-- a text compares alike with itself
alike : (ys : List ℕ) → order ys ys ≡ Equal
unfolding order
alike [] = refl
alike (y ∷ ys) = rw (sym (nat_cmp_is y y Equal refl)) (alike ys)

-- zeros are not above a text of their number
zeros_below : (ys : List ℕ) → (order (replicate (length ys) 0) ys ≡ Less) ⊎ (order (replicate (length ys) 0) ys ≡ Equal)
unfolding order
zeros_below [] = inr refl
zeros_below (zero ∷ ys) = zeros_below ys
zeros_below (suc y ∷ ys) = inl (rw (sym (nat_cmp_is 0 (suc y) Less (omega arith))) refl)

-- and no text of their number is below them
zeros_above : (ys : List ℕ) → (order ys (replicate (length ys) 0) ≡ Greater) ⊎ (order ys (replicate (length ys) 0) ≡ Equal)
unfolding order
zeros_above [] = inr refl
zeros_above (zero ∷ ys) = zeros_above ys
zeros_above (suc y ∷ ys) = inl (rw (sym (nat_cmp_is (suc y) 0 Greater (omega arith))) refl)

-- numbers compare as those after them
next_compare : (a b : ℕ) → nat_cmp (suc a) (suc b) ≡ nat_cmp a b
next_compare a b = sym (nat_cmp_is (suc a) (suc b) (nat_cmp a b) (by (nat_cmp a b) (ranks a b)))
  where
    by : (o : Ordering) → MatchOrdering o (a < b) (a ≡ b) (b < a) → MatchOrdering o (suc a < suc b) (suc a ≡ suc b) (suc b < suc a)
    by Less less = omega (arith, less)
    by Equal same = ap suc same
    by Greater more = omega (arith, more)

-- a text with zeros after it is not below as many zeros alone, and where it is alike it is longer
none_first : (whole : List ℕ) (p n : ℕ) → p ≡ length whole → ordering_then (order (replicate p 0) whole) (nat_cmp 0 (suc n)) ≡ Less
none_first whole p n count = by (subst (λ m. (order (replicate m 0) whole ≡ Less) ⊎ (order (replicate m 0) whole ≡ Equal)) (sym count) (zeros_below whole)) where
  by : (order (replicate p 0) whole ≡ Less) ⊎ (order (replicate p 0) whole ≡ Equal) → ordering_then (order (replicate p 0) whole) (nat_cmp 0 (suc n)) ≡ Less
  by (inl less) = rw less refl
  by (inr equal) = rw equal (sym (nat_cmp_is 0 (suc n) Less (omega arith)))

-- the same with the two turned round
none_second : (whole : List ℕ) (q n : ℕ) → q ≡ length whole → ordering_then (order whole (replicate q 0)) (nat_cmp (suc n) 0) ≡ Greater
none_second whole q n count = by (subst (λ m. (order whole (replicate m 0) ≡ Greater) ⊎ (order whole (replicate m 0) ≡ Equal)) (sym count) (zeros_above whole)) where
  by : (order whole (replicate q 0) ≡ Greater) ⊎ (order whole (replicate q 0) ≡ Equal) → ordering_then (order whole (replicate q 0)) (nat_cmp (suc n) 0) ≡ Greater
  by (inl more) = rw more refl
  by (inr equal) = rw equal (sym (nat_cmp_is (suc n) 0 Greater (omega arith)))

-- so many bytes are those of a text with zeros after it
count_with : (xs : List ℕ) (p n : ℕ) → n ≡ length xs + p → n ≡ length (xs ++ replicate p 0)
count_with xs p n is = omega (arith, is, length-append xs (replicate p 0), length-replicate {A = ℕ} p 0)

-- texts with zeros after them, in all as many bytes
with_zeros : (xs ys : List ℕ) (p q : ℕ) → length xs + p ≡ length ys + q
    → ordering_then (order (xs ++ replicate p 0) (ys ++ replicate q 0)) (nat_cmp (length xs) (length ys)) ≡ order xs ys
unfolding order
with_zeros [] [] p q same =
    let level : p ≡ q = omega (arith, same) in
    let equal : order (replicate p 0) (replicate q 0) ≡ Equal = subst (λ n. order (replicate p 0) (replicate n 0) ≡ Equal) level (alike (replicate p 0)) in
    rw equal refl
with_zeros [] (y ∷ ys) p q same = none_first ((y ∷ ys) ++ replicate q 0) p (length ys) (count_with (y ∷ ys) q p (omega (arith, same)))
with_zeros (x ∷ xs) [] p q same = none_second ((x ∷ xs) ++ replicate p 0) q (length xs) (count_with (x ∷ xs) p q (omega (arith, same)))
with_zeros (x ∷ xs) (y ∷ ys) p q same = by (nat_cmp x y) refl (with_zeros xs ys p q (omega (arith, same))) where
  by : (o : Ordering) → nat_cmp x y ≡ o
      → ordering_then (order (xs ++ replicate p 0) (ys ++ replicate q 0)) (nat_cmp (length xs) (length ys)) ≡ order xs ys
      → ordering_then (order ((x ∷ xs) ++ replicate p 0) ((y ∷ ys) ++ replicate q 0)) (nat_cmp (length (x ∷ xs)) (length (y ∷ ys))) ≡ order (x ∷ xs) (y ∷ ys)
  by Less is rest = rw is refl
  by Equal is rest = rw (is, next_compare (length xs) (length ys)) rest
  by Greater is rest = rw is refl

-- so it is with each within one number of bytes
pub padded-order : (count : ℕ) (xs ys : List ℕ) → length xs ≤ count → length ys ≤ count
    → ordering_then (slice_cmp nat_cmp (padded count xs) (padded count ys)) (nat_cmp (length xs) (length ys)) ≡ slice_cmp nat_cmp xs ys
unfolding order
padded-order count xs ys few other_few = with_zeros xs ys (count - length xs) (count - length ys) (omega (arith, few, other_few))

-- short texts compare as their 14 bytes, and where these are alike as their lengths
pub short-order : (n m : ℕ) (bytes other_bytes mine others : List ℕ) → IsShort n bytes → IsShort m other_bytes → length bytes ≡ 14 → length other_bytes ≡ 14
    → take n bytes ≡ mine → take m other_bytes ≡ others → ordering_then (slice_cmp nat_cmp bytes other_bytes) (nat_cmp n m) ≡ slice_cmp nat_cmp mine others
short-order n m bytes other_bytes mine others short other_short count other_count view other_view =
    let length_is : length mine ≡ n = ap length (sym view) ∙ length-take-le n bytes (omega (arith, count, short.few)) in
    let other_length_is : length others ≡ m = ap length (sym other_view) ∙ length-take-le m other_bytes (omega (arith, other_count, other_short.few)) in
    let bytes_are : bytes ≡ padded 14 mine = short.zeros ∙ ap (padded 14) view in
    let other_bytes_are : other_bytes ≡ padded 14 others = other_short.zeros ∙ ap (padded 14) other_view in
    ap₂ ordering_then (λ i. slice_cmp nat_cmp (bytes_are i) (other_bytes_are i)) (λ i. nat_cmp (sym length_is i) (sym other_length_is i))
    ∙ padded-order 14 mine others (omega (arith, length_is, short.few)) (omega (arith, other_length_is, other_short.few))

-- a text that is written over the first of so many zeros is the text with zeros after it
pub padded-written : (count : ℕ) (text : List ℕ) → (take (length text) (text ++ drop (length text) (replicate count 0)) ≡ text)
    × (text ++ drop (length text) (replicate count 0) ≡ padded count (take (length text) (text ++ drop (length text) (replicate count 0))))
padded-written count text =
    let rest : List ℕ = drop (length text) (replicate count 0) in
    let first : take (length text) (text ++ rest) ≡ text = take-append_seam text rest in
    (first, ap (λ zeros. text ++ zeros) (drop-replicate (length text) count 0) ∙ ap (padded count) (sym first))

-- ---- words
-- the first of three answers decides, then the second
then_assoc : (o p q : Ordering) → ordering_then (ordering_then o p) q ≡ ordering_then o (ordering_then p q)
then_assoc Less p q = refl
then_assoc Equal p q = refl
then_assoc Greater p q = refl

-- an answer with nothing after it
then_level : (o : Ordering) → o ≡ ordering_then o Equal
then_level Less = refl
then_level Equal = refl
then_level Greater = refl

-- an answer that stands twice decides where it stands first
then_twice : (o p q : Ordering) → ordering_then (ordering_then o p) (ordering_then p q) ≡ ordering_then o (ordering_then p q)
then_twice Less p q = refl
then_twice Equal Less q = refl
then_twice Equal Equal q = refl
then_twice Equal Greater q = refl
then_twice Greater p q = refl

-- numbers that differ decide
pub unlike_decide : (x y : ℕ) (q : Ordering) → (x ≡ y → ⊥) → nat_cmp x y ≡ ordering_then (nat_cmp x y) q
unlike_decide x y q unlike = by (nat_cmp x y) (ranks x y) where
  by : (o : Ordering) → MatchOrdering o (x < y) (x ≡ y) (y < x) → o ≡ ordering_then o q
  by Less below = refl
  by Equal same = absurd (unlike same)
  by Greater above = refl

-- and numbers that are alike do not
pub alike_pass : (x y : ℕ) (q : Ordering) → x ≡ y → q ≡ ordering_then (nat_cmp x y) q
alike_pass x y q same = ap (λ o. ordering_then o q) (nat_cmp_is x y Equal same)

-- numbers with one more digit compare as they do without it, and then as their digits do
digit : (n m u v : ℕ) → u < 256 → v < 256 → nat_cmp (n * 256 + u) (m * 256 + v) ≡ ordering_then (nat_cmp n m) (nat_cmp u v)
digit n m u v small other_small = sym (nat_cmp_is (n * 256 + u) (m * 256 + v) (ordering_then (nat_cmp n m) (nat_cmp u v)) (by (nat_cmp n m) (nat_cmp u v) (ranks n m) (ranks u v)))
  where
    by : (o p : Ordering) → MatchOrdering o (n < m) (n ≡ m) (m < n) → MatchOrdering p (u < v) (u ≡ v) (v < u)
        → MatchOrdering (ordering_then o p) (n * 256 + u < m * 256 + v) (n * 256 + u ≡ m * 256 + v) (m * 256 + v < n * 256 + u)
    by Less p first second = let below : n < m = first in omega (arith, small, other_small)
    by Equal Less first second = let level : n ≡ m = first in let below : u < v = second in omega (arith, small, other_small)
    by Equal Equal first second = let level : n ≡ m = first in let same : u ≡ v = second in omega arith
    by Equal Greater first second = let level : n ≡ m = first in let above : v < u = second in omega (arith, small, other_small)
    by Greater p first second = let above : m < n = first in omega (arith, small, other_small)

-- as many bytes compare as the numbers that they spell
spelled : (n : ℕ) (us vs : List ℕ) (a b : ℕ) → n ≤ length us → n ≤ length vs → ((i : ℕ) → get_or us i 0 < 256) → ((i : ℕ) → get_or vs i 0 < 256)
    → nat_cmp (big_endian a (take n us)) (big_endian b (take n vs)) ≡ ordering_then (nat_cmp a b) (slice_cmp nat_cmp (take n us) (take n vs))
spelled zero us vs a b many other_many small other_small = then_level (nat_cmp a b)
spelled (suc n) [] vs a b many other_many small other_small = absurd (omega arith)
spelled (suc n) (u ∷ us) [] a b many other_many small other_small = absurd (omega arith)
spelled (suc n) (u ∷ us) (v ∷ vs) a b many other_many small other_small =
    spelled n us vs (a * 256 + u) (b * 256 + v) (omega arith) (omega arith) (λ i. small (suc i)) (λ i. other_small (suc i))
    ∙ ap (λ o. ordering_then o (slice_cmp nat_cmp (take n us) (take n vs))) (digit a b u v (small 0) (other_small 0))
    ∙ then_assoc (nat_cmp a b) (nat_cmp u v) (slice_cmp nat_cmp (take n us) (take n vs))

-- so many elements from i + k on, as they are read
abbrev reads : List ℕ → ℕ → ℕ → ℕ → List ℕ
reads xs i k zero = []
reads xs i k (suc n) = get_or xs (i + k) 0 ∷ reads xs i (suc k) n

read_out : (n : ℕ) (xs : List ℕ) (i k : ℕ) → i + k + n ≤ length xs → take n (drop (i + k) xs) ≡ reads xs i k n
read_out zero xs i k within = refl
read_out (suc n) xs i k within =
    let next : suc (i + k) ≡ i + suc k = omega arith in
    ap (take (suc n)) (drop-cons xs (i + k) 0 (omega arith))
    ∙ ap (λ rest. get_or xs (i + k) 0 ∷ rest) (ap (λ m. take n (drop m xs)) next ∙ read_out n xs i (suc k) (omega arith))

-- the word at a place is what its eight bytes spell
word_spelled : (xs : List ℕ) (i : ℕ) → i + 8 ≤ length xs
    → get_or xs i 0 * 72057594037927936 + get_or xs (i + 1) 0 * 281474976710656 + get_or xs (i + 2) 0 * 1099511627776 + get_or xs (i + 3) 0 * 4294967296
    + get_or xs (i + 4) 0 * 16777216 + get_or xs (i + 5) 0 * 65536 + get_or xs (i + 6) 0 * 256 + get_or xs (i + 7) 0 ≡ big_endian 0 (take 8 (drop i xs))
word_spelled xs i within =
    let here : get_or xs (i + 0) 0 ≡ get_or xs i 0 = ap (λ k. get_or xs k 0) (omega arith) in
    let start : i ≡ i + 0 = omega arith in
    let bytes : big_endian 0 (take 8 (drop i xs)) ≡ big_endian 0 (reads xs i 0 8) = ap (big_endian 0) (ap (λ m. take 8 (drop m xs)) start ∙ read_out 8 xs i 0 (omega arith)) in
    omega (arith, here) ∙ sym bytes

-- words compare as the bytes that spell them
word_order : (xs ys : List ℕ) (i : ℕ) → i + 8 ≤ length xs → i + 8 ≤ length ys → ((k : ℕ) → get_or xs k 0 < 256) → ((k : ℕ) → get_or ys k 0 < 256)
    → nat_cmp (eight_bytes_at xs i) (eight_bytes_at ys i) ≡ slice_cmp nat_cmp (take 8 (drop i xs)) (take 8 (drop i ys))
word_order xs ys i within other_within small other_small =
    let mine : (k : ℕ) → get_or (drop i xs) k 0 < 256 = λ k. subst (λ b. b < 256) (sym (get_or-drop i xs k 0)) (small (i + k)) in
    let others : (k : ℕ) → get_or (drop i ys) k 0 < 256 = λ k. subst (λ b. b < 256) (sym (get_or-drop i ys k 0)) (other_small (i + k)) in
    ap₂ nat_cmp (word_spelled xs i within) (word_spelled ys i other_within)
    ∙ spelled 8 (drop i xs) (drop i ys) 0 0 (omega (arith, length-drop i xs)) (omega (arith, length-drop i ys)) mine others
    ∙ ap (λ o. ordering_then o (slice_cmp nat_cmp (take 8 (drop i xs)) (take 8 (drop i ys)))) (sym (nat_cmp_is 0 0 Equal refl))

-- lists of two parts, of which the first are as long, compare as these and then as the others
append_order : (fs gs us vs : List ℕ) → length fs ≡ length gs → slice_cmp nat_cmp (fs ++ us) (gs ++ vs) ≡ ordering_then (slice_cmp nat_cmp fs gs) (slice_cmp nat_cmp us vs)
append_order [] [] us vs same = refl
append_order [] (g ∷ gs) us vs same = absurd (omega arith)
append_order (f ∷ fs) [] us vs same = absurd (omega arith)
append_order (f ∷ fs) (g ∷ gs) us vs same =
    ap (ordering_then (nat_cmp f g)) (append_order fs gs us vs (omega arith)) ∙ sym (then_assoc (nat_cmp f g) (slice_cmp nat_cmp fs gs) (slice_cmp nat_cmp us vs))

-- lists of three parts compare as their first two and then as their last two
overlap_order : (fs gs ps qs us vs : List ℕ) → length fs ≡ length gs → length ps ≡ length qs
    → ordering_then (slice_cmp nat_cmp (fs ++ ps) (gs ++ qs)) (slice_cmp nat_cmp (ps ++ us) (qs ++ vs)) ≡ slice_cmp nat_cmp (fs ++ (ps ++ us)) (gs ++ (qs ++ vs))
overlap_order fs gs ps qs us vs same also_same =
    let last : slice_cmp nat_cmp (ps ++ us) (qs ++ vs) ≡ ordering_then (slice_cmp nat_cmp ps qs) (slice_cmp nat_cmp us vs) = append_order ps qs us vs also_same in
    ap₂ ordering_then (append_order fs gs ps qs same) last
    ∙ then_twice (slice_cmp nat_cmp fs gs) (slice_cmp nat_cmp ps qs) (slice_cmp nat_cmp us vs)
    ∙ sym (append_order fs gs (ps ++ us) (qs ++ vs) same ∙ ap (ordering_then (slice_cmp nat_cmp fs gs)) last)

-- 14 bytes are six, two and six; the first eight of them are the first two of these parts, and the last eight the last two
first_eight : (xs : List ℕ) → take 8 (drop 0 xs) ≡ take 6 xs ++ take 2 (drop 6 xs)
first_eight xs = take-add 6 2 xs

last_eight : (xs : List ℕ) → length xs ≡ 14 → take 8 (drop 6 xs) ≡ take 2 (drop 6 xs) ++ drop 2 (drop 6 xs)
last_eight xs count = take_all 8 (drop 6 xs) (omega (arith, length-drop 6 xs)) ∙ sym (take-append-drop 2 (drop 6 xs))

three_parts : (xs : List ℕ) → take 6 xs ++ (take 2 (drop 6 xs) ++ drop 2 (drop 6 xs)) ≡ xs
three_parts xs = ap (λ rest. take 6 xs ++ rest) (take-append-drop 2 (drop 6 xs)) ∙ take-append-drop 6 xs

-- 14 bytes compare as two words that overlap
pub words-order : (xs ys : List ℕ) → length xs ≡ 14 → length ys ≡ 14 → ((i : ℕ) → get_or xs i 0 < 256) → ((i : ℕ) → get_or ys i 0 < 256)
    → words_cmp xs ys ≡ slice_cmp nat_cmp xs ys
words-order xs ys count other_count small other_small =
    let front : length (take 6 xs) ≡ length (take 6 ys) = length-take-le 6 xs (omega arith) ∙ sym (length-take-le 6 ys (omega arith)) in
    let middle : length (take 2 (drop 6 xs)) ≡ length (take 2 (drop 6 ys)) =
    length-take-le 2 (drop 6 xs) (omega (arith, length-drop 6 xs)) ∙ sym (length-take-le 2 (drop 6 ys) (omega (arith, length-drop 6 ys))) in
    ap₂ ordering_then (word_order xs ys 0 (omega arith) (omega arith) small other_small) (word_order xs ys 6 (omega arith) (omega arith) small other_small)
    ∙ (λ i. ordering_then (slice_cmp nat_cmp (first_eight xs i) (first_eight ys i)) (slice_cmp nat_cmp (last_eight xs count i) (last_eight ys other_count i)))
    ∙ overlap_order (take 6 xs) (take 6 ys) (take 2 (drop 6 xs)) (take 2 (drop 6 ys)) (drop 2 (drop 6 xs)) (drop 2 (drop 6 ys)) front middle
    ∙ (λ i. slice_cmp nat_cmp (three_parts xs i) (three_parts ys i))

-- ---- copies
-- the first two of 14 bytes, the next four and the last eight, written over others, are all of them
pub pieces-whole : (bytes front middle back others : List ℕ) → length bytes ≡ 14 → length others ≡ 12
    → front ≡ take 2 bytes → middle ≡ take 4 (drop 2 bytes) → back ≡ take 8 (drop 6 bytes)
    → put_mid 6 8 (put_mid 2 4 (front ++ others) middle) back ≡ bytes
pieces-whole bytes front middle back others count rest_count front_is middle_is back_is =
    let two : length front ≡ 2 = ap length front_is ∙ length-take-le 2 bytes (omega arith) in
    let four : length middle ≡ 4 = ap length middle_is ∙ length-take-le 4 (drop 2 bytes) (omega (arith, length-drop 2 bytes)) in
    let first : List ℕ = front ++ others in
    let first_count : length first ≡ 14 = omega (arith, length-append front others) in
    let second : List ℕ = put_mid 2 4 first middle in
    let second_count : length second ≡ 14 =
    omega (arith, length-append (take 2 first) (middle ++ drop 4 (drop 2 first)), length-append middle (drop 4 (drop 2 first)), length-take-le 2 first (omega arith), length-drop 4 (drop 2 first), length-drop 2 first) in
    let start : take 6 second ≡ front ++ middle = take-put_mid 2 4 first middle 6 (omega arith) (omega arith) ∙ ap (λ two. two ++ middle) (take_at front others 2 two) in
    let nothing : drop 8 (drop 6 second) ≡ [] = drop_all 8 (drop 6 second) (omega (arith, length-drop 6 second)) in
    let last : back ≡ drop 6 bytes = back_is ∙ take_all 8 (drop 6 bytes) (omega (arith, length-drop 6 bytes)) in
    (λ i. start i ++ (back ++ nothing i))
    ∙ (λ i. (front_is i ++ middle_is i) ++ append-nil back i)
    ∙ (λ i. sym (take-add 2 4 bytes) i ++ last i)
    ∙ take-append-drop 6 bytes
