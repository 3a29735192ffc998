-- Bytes that were read, after those that were there.
use Rattle.std.proofs.Common.{◌≡◌, ℕ, ◌+◌, ◌-◌, ◌<◌, ◌≤◌, List, [], ◌++◌, length, take, drop, refl, sym, ap, ◌∙◌, subst, inl, inr, ◌⊎◌, arith, append_assoc, append-nil, Option, Some, None}
use Rattle.std.proofs.lemmas.Bool.{cases_lt}
use Rattle.std.proofs.lemmas.List.{drop-drop, drop-take, drop_all, take_all, take-append-drop, length-take, take-take, take-append-le, length-take-le}
use Rattle.std.proofs.Math.Seq.{take-append-add}
use Rattle.sc_http.specs.Stream.{Gives, TakesMore, KeepsBytes, FallsShort, ReadsWhile, HasEnded, LeavesSuffix}

drop-take_prefix : (n m : ℕ) (xs : List ℕ) → drop n (take m xs) ≡ take (m - n) (drop n xs)
drop-take_prefix n m xs = by_order (cases_lt m n)
  where
    by_order : (m < n) ⊎ (n ≤ m) → drop n (take m xs) ≡ take (m - n) (drop n xs)
    by_order (inl less) =
        let none : m - n ≡ 0 = omega arith in
        let short : length (take m xs) ≤ n = omega (arith, length-take m xs) in
        rw (none, drop_all n (take m xs) short) refl
    by_order (inr more) =
        let whole : m ≡ n + (m - n) = omega arith in
        ap (λ k. drop n (take k xs)) whole ∙ drop-take n (m - n) xs

-- a part of a list without its first bytes
pub drop_prefix : (xs : List ℕ) (start end n : ℕ) → take (end - (start + n)) (drop (start + n) xs) ≡ drop n (take (end - start) (drop start xs))
drop_prefix xs start end n =
    let less : end - (start + n) ≡ end - start - n = omega arith in
    rw (drop-take_prefix n (end - start) (drop start xs), drop-drop n start xs, less) refl

-- what was read into the room after the first bytes
pub read_after : (old m into post tail : List ℕ) (filled count len : ℕ) → take filled m ≡ take filled old → filled ≤ length m
    → count ≤ length into → filled + count ≤ len
    → take (filled + count) (take len ((take filled m ++ (into ++ post)) ++ tail)) ≡ take filled old ++ take count into
read_after old m into post tail filled count len kept inside came fits =
    let long : length (take filled m) ≡ filled = length-take-le filled m inside in
    take-take (filled + count) len ((take filled m ++ (into ++ post)) ++ tail) fits
    ∙ ap (take (filled + count)) (append_assoc (take filled m) (into ++ post) tail ∙ ap (λ ys. take filled m ++ ys) (append_assoc into post tail))
    ∙ ap (λ n. take (n + count) (take filled m ++ (into ++ (post ++ tail)))) (sym long)
    ∙ take-append-add (take filled m) (into ++ (post ++ tail)) count
    ∙ ap (λ ys. take filled m ++ ys) (take-append-le count into (post ++ tail) came)
    ∙ ap (λ xs. xs ++ take count into) kept

-- nothing was taken
pub gives_none : (rest : Option (List ℕ)) → Gives [] rest rest
gives_none None = tt
gives_none (Some bytes) = record { more = bytes; whole = refl; left = refl }

-- one piece after another
pub gives_both : (p q : List ℕ) (a b c : Option (List ℕ)) → Gives p a b → Gives q b c → Gives (p ++ q) a c
gives_both p q None b c first second = tt
gives_both p q (Some bytes) b c first second =
    let next : Gives q (Some first.more) c = subst (λ (o : Option (List ℕ)). Gives q o c) first.left second in
    record { more = next.more; whole = first.whole ∙ ap (λ ys. p ++ ys) next.whole ∙ sym (append_assoc p q next.more); left = next.left }

-- the bytes that were there are given out
pub gives_out_all : (bytes : List ℕ) (rest : Option (List ℕ)) → KeepsBytes bytes [] bytes rest rest
gives_out_all bytes rest = record { piece = []; whole = refl; gives = gives_none rest }

-- none of them is
pub gives_out_nothing : (bytes : List ℕ) (rest : Option (List ℕ)) → KeepsBytes [] bytes bytes rest rest
gives_out_nothing bytes rest = record { piece = []; whole = sym (append-nil bytes); gives = gives_none rest }

-- what grew after bytes that were given out
pub gives_out_more : (out after before : List ℕ) (a b c : Option (List ℕ)) → KeepsBytes out [] before a b → TakesMore out after b c → KeepsBytes after [] before a c
gives_out_more out after before a b c given grown = record {
  piece = given.piece ++ grown.piece;
  whole = ap (λ xs. xs ++ []) (grown.whole ∙ ap (λ xs. xs ++ grown.piece) (sym (append-nil out) ∙ given.whole) ∙ append_assoc before given.piece grown.piece)
      ∙ append-nil (before ++ (given.piece ++ grown.piece));
  gives = gives_both given.piece grown.piece a b c given.gives grown.gives;
}

-- what is left grew
pub left_more : (out left after before : List ℕ) (a b c : Option (List ℕ)) → KeepsBytes out left before a b → TakesMore left after b c
    → KeepsBytes out after before a c
left_more out left after before a b c given grown = record {
  piece = given.piece ++ grown.piece;
  whole = ap (λ xs. out ++ xs) grown.whole ∙ sym (append_assoc out left grown.piece) ∙ ap (λ xs. xs ++ grown.piece) given.whole
      ∙ append_assoc before given.piece grown.piece;
  gives = gives_both given.piece grown.piece a b c given.gives grown.gives;
}

-- a call that took nothing changes nothing
pub gives_then_none : (out left before : List ℕ) (a b c : Option (List ℕ)) → KeepsBytes out left before a b → Gives [] b c → KeepsBytes out left before a c
gives_then_none out left before a b c given none = record {
  piece = given.piece;
  whole = given.whole;
  gives = subst (λ (p : List ℕ). Gives p a c) (append-nil given.piece) (gives_both given.piece [] a b c given.gives none);
}

-- the first bytes of what is left are given out
pub gives_out_first : (out left before : List ℕ) (n : ℕ) (a b : Option (List ℕ)) → KeepsBytes out left before a b
    → KeepsBytes (out ++ take n left) (drop n left) before a b
gives_out_first out left before n a b given = record {
  piece = given.piece;
  whole = append_assoc out (take n left) (drop n left) ∙ ap (λ xs. out ++ xs) (take-append-drop n left) ∙ given.whole;
  gives = given.gives;
}

-- the bytes of the connection are those that came and those that the source has still to give
pub whole_is : (came before piece bytes more : List ℕ) → came ≡ before ++ piece → bytes ≡ piece ++ more → before ++ bytes ≡ came ++ more
whole_is came before piece bytes more split rest = ap (λ xs. before ++ xs) rest ∙ sym (append_assoc before piece more) ∙ ap (λ xs. xs ++ more) (sym split)

-- where the source has ended, all its bytes came
pub all_came : (out before : List ℕ) (bytes : List ℕ) (b c : Option (List ℕ)) → KeepsBytes out [] before (Some bytes) b → Gives [] b c → HasEnded b c
    → before ++ bytes ≡ out
all_came out before bytes b c given none ended =
    let later : Gives [] (Some given.gives.more) c = subst (λ (o : Option (List ℕ)). Gives [] o c) given.gives.left none in
    let ending : c ≡ Some [] = subst (λ (o : Option (List ℕ)). HasEnded o c) given.gives.left ended in
    let reported : Some later.more ≡ Some [] = sym later.left ∙ ending in
    let last : later.more ≡ [] = cc in
    whole_is out before given.piece bytes given.gives.more (sym (append-nil out) ∙ given.whole) given.gives.whole
    ∙ ap (λ xs. out ++ xs) (later.whole ∙ last) ∙ append-nil out

-- too few bytes came
pub falls_short : (out before : List ℕ) (wanted : ℕ) (a b c : Option (List ℕ)) → KeepsBytes out [] before a b → length out < wanted → Gives [] b c
    → FallsShort before wanted a c
falls_short out before wanted a b c given few none =
    let all = gives_then_none out [] before a b c given none in
    record {
      piece = all.piece;
      short = subst (λ (xs : List ℕ). length xs < wanted) (sym (append-nil out) ∙ all.whole) few;
      gives = all.gives;
    }

-- what holds of the bytes that were there before a piece came
pub reads_while : (Q : List ℕ → Type 0) (out left before piece : List ℕ) (a b c : Option (List ℕ)) → KeepsBytes out left before a b → Gives piece b c
    → Q (out ++ left) → ReadsWhile (λ xs. Q (before ++ xs)) a c
reads_while Q out left before piece a b c kept came holds = record {
  before = kept.piece;
  piece = piece;
  held = subst Q kept.whole holds;
  gives = gives_both kept.piece piece a b c kept.gives came;
}

-- more bytes were given before that
pub reads_after : (P Q : List ℕ → Type 0) (first : List ℕ) (a b c : Option (List ℕ)) → Gives first a b → ReadsWhile P b c
    → ((xs : List ℕ) → P xs → Q (first ++ xs)) → ReadsWhile Q a c
reads_after P Q first a b c came later step = record {
  before = first ++ later.before;
  piece = later.piece;
  held = step later.before later.held;
  gives = subst (λ (xs : List ℕ). Gives xs a c) (sym (append_assoc first later.before later.piece)) (gives_both first (later.before ++ later.piece) a b c came later.gives);
}

-- the first bytes are given out, and the others left
pub given_prefix : (prefix left before : List ℕ) (n : ℕ) (rest : Option (List ℕ)) → prefix ≡ take n before → left ≡ drop n before
    → KeepsBytes prefix left before rest rest
given_prefix prefix left before n rest first others = record {
  piece = [];
  whole = rw (first, others) (take-append-drop n before ∙ sym (append-nil before));
  gives = gives_none rest;
}

-- all that was there is given out, and more
pub given_whole : (out prefix left before : List ℕ) (n : ℕ) (a b : Option (List ℕ)) → prefix ≡ take n before → left ≡ drop n before
    → length before ≤ n → KeepsBytes out [] prefix a b → KeepsBytes out left before a b
given_whole out prefix left before n a b first others short given =
    let all : prefix ≡ before = first ∙ take_all n before short in
    let none : left ≡ [] = others ∙ drop_all n before short in
    record {
      piece = given.piece;
      whole = ap (λ xs. out ++ xs) none ∙ given.whole ∙ ap (λ xs. xs ++ given.piece) all;
      gives = given.gives;
    }

-- where too few bytes came, none is left
pub left_none : (prefix left before : List ℕ) (n wanted : ℕ) (a b : Option (List ℕ)) → left ≡ drop n before → length before ≤ n
    → FallsShort prefix wanted a b → LeavesSuffix left before a b
left_none prefix left before n wanted a b others short falls =
    let none : left ≡ [] = others ∙ drop_all n before short in (
      before ++ falls.piece,
      record {
        piece = falls.piece;
        whole = ap (λ xs. (before ++ falls.piece) ++ xs) none ∙ append-nil (before ++ falls.piece);
        gives = falls.gives;
      },
    )
