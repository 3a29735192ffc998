-- The words of a plain text are its runs of letters and digits.
use Rattle.std.proofs.Common.{◌≡◌, ℕ, ◌<◌, ◌==◌, Bool, true, false, cond, not, ◌&&◌, ◌||◌, List, [], ◌∷◌, ◌++◌, map, refl, sym, ap, ap₂, ◌∙◌, eqb-true, arith, append_assoc, IsAscii, encode_utf8_all, unwrap_or}
use mathlib.Core.Bool.{false≢true}
use Rattle.std.specs.Char.{is_ascii_alphabetic, is_ascii_alphanumeric, is_ascii_digit, to_ascii_lowercase}
use Rattle.std.specs.Int.{is_in_range}
use Rattle.std.specs.List.{filter, list_all, list_any}
use Rattle.std.specs.Prelude.{nat_eq}
use Rattle.std.proofs.lemmas.Bool.{and_parts}
use Rattle.std.proofs.lemmas.Bool.Decides.{nat_tests}
use Rattle.std.proofs.lemmas.List.{map-append}
use Rattle.std.proofs.lemmas.List.Folds.{list_any-append}
use Rattle.std.proofs.lemmas.Str.{chars-IsAscii, encodes-IsAscii}
use Rattle.std.proofs.lemmas.Str.Ascii.{IsAscii-nil, IsAscii-cons, IsAscii-push}
use Rattle.ucd_table.proofs.Computing.{tables}
use Rattle.ucd_table.proofs.Facts.{Stepped-below}
use Rattle.ucd_table.proofs.TrieCheck.{all_below-at}
use Rattle.ucd_breaks.specs.WordBreak.{word_break, word_break_number}
use Rattle.ucd_breaks.specs.declared.WordBreak.{WordBreak}
use Rattle.ucd_breaks.specs.declared.WordBreak.TheVariants.{ALetter, Numeric, Other, WSegSpace}
use Rattle.ucd_breaks.proofs.Computing.{ucd_breaks}
use Rattle.ucd_breaks.proofs.WordBreakLemmas.{word_break_stepped, word_break_number_injective}
use Rattle.ucd_emoji.specs.Binary.{is_extended_pictographic}
use Rattle.unicode_segmentation.specs.Segments.{cut, segments, prepend, is_alphanumeric, has_alphanumeric}
use Rattle.unicode_segmentation.specs.Word.{break_by_pair, is_ignored, is_regional, significant, starts_with_half_flag, joins, value_at, is_word_break, words}
use Rattle.unicode_segmentation.proofs.AsciiLemmas.{is_alphanumeric_ascii}
use Rattle.unicode_segmentation.proofs.BoolLemmas.{and-false, or-false, or-true, same, same-true}
use Rattle.unicode_segmentation.proofs.SegmentsLemmas.{attach}
use Rattle.unicode_segmentation.proofs.WordLemmas.{is_word_break-inside, significant-kept}
use Rattle.sc_schema.specs.Terms.{folded}
use Rattle.sc_schema.specs.Runs.{is_plain, closed, runs_from, runs}
use Rattle.sc_schema.proofs.FoldLemmas.{folded-ascii}

-- what the rules of word breaks see in a plain byte
data Class : Type 0 where
  letter : Class
  digit : Class
  space : Class
  sign : Class

abbrev value : Class → WordBreak
value letter = ALetter
value digit = Numeric
value space = WSegSpace
value sign = Other

abbrev class_of : ℕ → Class
class_of c = cond (is_ascii_alphabetic c) letter (cond (is_ascii_digit c) digit (cond (nat_eq c 32) space sign))

abbrev is_run : Class → Bool
is_run letter = true
is_run digit = true
is_run space = false
is_run sign = false

abbrev is_space : Class → Bool
is_space letter = false
is_space digit = false
is_space space = true
is_space sign = false

-- no rule breaks between two bytes of these classes
abbrev joins_next : Class → Class → Bool
joins_next k l = (is_run k && is_run l) || (is_space k && is_space l)

plain_below : (c : ℕ) → is_plain c ≡ true → c < 128
plain_below c h = grind (arith, nat_tests)

kept_test : (p t : Bool) → p ≡ true → not p || t ≡ true → t ≡ true
kept_test true t h k = k
kept_test false t h k = cc

plain_break : (c : ℕ) → is_plain c ≡ true → word_break c ≡ value (class_of c)
unfolding ucd_breaks
plain_break c plain =
    let holds = Stepped-below word_break word_break_stepped
    (λ x v. not (is_plain x) || word_break_number v == word_break_number (value (class_of x))) 128 refl c (plain_below c plain) in
    word_break_number_injective _ _ (eqb-true _ _ (kept_test _ _ plain holds))

run_by : (a b c d : Bool) → is_run (cond (b || c) letter (cond a digit (cond d space sign))) ≡ (a || b) || c
run_by true true c d = refl
run_by true false true d = refl
run_by true false false d = refl
run_by false true c d = refl
run_by false false true d = refl
run_by false false false true = refl
run_by false false false false = refl

run_class : (c : ℕ) → is_run (class_of c) ≡ is_ascii_alphanumeric c
run_class c = run_by (is_ascii_digit c) (is_in_range 65 90 c) (is_in_range 97 122 c) (nat_eq c 32)

no_space : (k : Class) → is_run k ≡ true → is_space k ≡ false
no_space letter h = refl
no_space digit h = refl
no_space space h = cc
no_space sign h = cc

no_run : (k : Class) → is_space k ≡ true → is_run k ≡ false
no_run letter h = cc
no_run digit h = cc
no_run space h = refl
no_run sign h = cc

never_ignored : (k : Class) → is_ignored (value k) ≡ false
never_ignored letter = refl
never_ignored digit = refl
never_ignored space = refl
never_ignored sign = refl

-- the rules on two bytes of these classes, whatever stands around them
pair_rule : (k l : Class) (ext : Bool) (far_left far_right : WordBreak) (flag : Bool)
    → unwrap_or (break_by_pair (value k) (value l) ext)
    (not (joins far_left (value k) (value l) far_right || (flag && is_regional (value l)))) ≡ not (joins_next k l)
pair_rule letter letter ext far_left far_right flag = refl
pair_rule letter digit ext far_left far_right flag = simp and-false
pair_rule letter space ext far_left far_right flag = simp and-false
pair_rule letter sign ext far_left far_right flag = simp and-false
pair_rule digit letter ext far_left far_right flag = simp and-false
pair_rule digit digit ext far_left far_right flag = simp and-false
pair_rule digit space ext far_left far_right flag = simp and-false
pair_rule digit sign ext far_left far_right flag = simp and-false
pair_rule space letter ext far_left far_right flag = simp and-false
pair_rule space digit ext far_left far_right flag = simp and-false
pair_rule space space ext far_left far_right flag = refl
pair_rule space sign ext far_left far_right flag = simp and-false
pair_rule sign letter ext far_left far_right flag = simp and-false
pair_rule sign digit ext far_left far_right flag = simp and-false
pair_rule sign space ext far_left far_right flag = simp and-false
pair_rule sign sign ext far_left far_right flag = simp and-false

-- between two plain bytes it is their classes alone that count
plain_rule : (before : List ℕ) (last next : ℕ) (after : List ℕ) → is_plain last ≡ true → is_plain next ≡ true
    → is_word_break (last ∷ before) (next ∷ after) ≡ not (joins_next (class_of last) (class_of next))
plain_rule before last next after p q =
    let left = plain_break last p in
    let right = plain_break next q in
    let k = class_of last in
    let l = class_of next in
    let ext = is_extended_pictographic next in
    let far_right = value_at (significant after) 0 in
    let flag = starts_with_half_flag (significant (last ∷ before)) in
    let by : List WordBreak → WordBreak → WordBreak → Bool =
    λ values v w. unwrap_or (break_by_pair v w ext)
    (not (joins (value_at values 1) (value_at values 0) w far_right || (flag && is_regional w))) in
    let first = significant-kept last before (ap is_ignored left ∙ never_ignored k) in
    is_word_break-inside (last ∷ before) next after (omega arith)
    ∙ ap (λ values. by values (word_break last) (word_break next)) first
    ∙ ap (λ v. by (v ∷ significant before) v (word_break next)) left
    ∙ ap (λ w. by (value k ∷ significant before) (value k) w) right
    ∙ pair_rule k l ext (value_at (significant before) 0) far_right flag

-- the pieces of a plain text
abbrev pieces : List ℕ → List (List ℕ)
pieces [] = []
pieces (c ∷ []) = (c ∷ []) ∷ []
pieces (c ∷ (d ∷ cs)) = attach (not (joins_next (class_of c) (class_of d))) (c ∷ []) (pieces (d ∷ cs))

cut_plain : (before cs : List ℕ) → list_all is_plain cs ≡ true → cut is_word_break before cs [] ≡ pieces cs
unfolding cut is_word_break
cut_plain before [] h = refl
cut_plain before (c ∷ []) h = refl
cut_plain before (c ∷ (d ∷ cs)) h =
    let (first, rest) = and_parts _ _ h in
    let (next, others) = and_parts _ _ rest in
    ap₂ (λ b ps. attach b (c ∷ []) ps) (plain_rule before c d (cs ++ []) first next) (cut_plain (c ∷ before) (d ∷ cs) rest)

prepend-prepend : (x y : List ℕ) (ps : List (List ℕ)) → prepend x (prepend y ps) ≡ prepend (x ++ y) ps
prepend-prepend x y [] = refl
prepend-prepend x y (p ∷ ps) = ap (λ t. t ∷ ps) (sym (append_assoc x y p))

prepend-none : (b : Bool) (x : List ℕ) (ps : List (List ℕ)) → prepend [] (attach b x ps) ≡ attach b x ps
prepend-none true x ps = refl
prepend-none false x [] = refl
prepend-none false x (p ∷ ps) = refl

prepend-pieces : (c : ℕ) (cs : List ℕ) → prepend [] (pieces (c ∷ cs)) ≡ pieces (c ∷ cs)
prepend-pieces c [] = refl
prepend-pieces c (d ∷ cs) = prepend-none _ (c ∷ []) (pieces (d ∷ cs))

-- the pieces that have a letter or a digit, as texts
abbrev kept : List (List ℕ) → List (List ℕ)
kept ps = filter has_alphanumeric (map encode_utf8_all ps)

kept_piece : (p : List ℕ) (ps : List (List ℕ)) (b : Bool) → IsAscii p → list_any is_alphanumeric p ≡ b
    → kept (p ∷ ps) ≡ cond b (p ∷ kept ps) (kept ps)
unfolding has_alphanumeric
kept_piece p ps b ascii h =
    ap (λ q. cond (has_alphanumeric q) (q ∷ kept ps) (kept ps)) (encodes-IsAscii p ascii)
    ∙ ap (λ t. cond t (p ∷ kept ps) (kept ps)) (ap (list_any is_alphanumeric) (chars-IsAscii p ascii) ∙ h)

any_push : (run : List ℕ) (c : ℕ) (b : Bool) → is_alphanumeric c ≡ b
    → list_any is_alphanumeric (run ++ c ∷ []) ≡ list_any is_alphanumeric run || b
any_push run c b h =
    list_any-append is_alphanumeric run (c ∷ [])
    ∙ ap (λ t. list_any is_alphanumeric run || t) (or-false _ ∙ h)

closed_push : (run : List ℕ) (c : ℕ) → closed (run ++ c ∷ []) ≡ (run ++ c ∷ []) ∷ []
closed_push [] c = refl
closed_push (d ∷ run) c = refl

plain_ascii : (text : List ℕ) → list_all is_plain text ≡ true → IsAscii text
plain_ascii [] h = IsAscii-nil
plain_ascii (c ∷ text) h =
    let (first, rest) = and_parts _ _ h in
    IsAscii-cons c text (plain_below c first) (plain_ascii text rest)

-- a piece that has begun, and what follows it: where its last byte is a letter or a digit, a run; else what is not kept
abbrev IsKept : List ℕ → ℕ → List ℕ → Bool → Type 0
IsKept part c cs a = kept (prepend part (pieces (c ∷ cs))) ≡ cond a (runs_from (part ++ c ∷ []) cs) (runs_from [] cs)

-- the same of each piece that ends in this byte
abbrev EachIsKept : ℕ → List ℕ → Type 0
EachIsKept d ds =
    (part : List ℕ) (b : Bool) → is_ascii_alphanumeric d ≡ b → IsAscii part → (b ≡ false → list_any is_alphanumeric part ≡ false)
    → IsKept part d ds b

-- what follows a piece that ends
kept_after : (d : ℕ) (ds : List ℕ) (b : Bool) → is_ascii_alphanumeric d ≡ b → EachIsKept d ds
    → kept (pieces (d ∷ ds)) ≡ cond b (runs_from ([] ++ d ∷ []) ds) (runs_from [] ds)
kept_after d ds b h next = ap kept (sym (prepend-pieces d ds)) ∙ next [] b h IsAscii-nil (λ _. refl)

kept_step : (part : List ℕ) (c d : ℕ) (ds : List ℕ) (a b s : Bool) → is_ascii_alphanumeric c ≡ a → is_ascii_alphanumeric d ≡ b
    → (is_space (class_of c) && is_space (class_of d)) ≡ s
    → (a ≡ false → list_any is_alphanumeric part ≡ false) → is_alphanumeric c ≡ a → IsAscii (part ++ c ∷ []) → EachIsKept d ds
    → kept (prepend part (attach (not ((a && b) || s)) (c ∷ []) (pieces (d ∷ ds))))
    ≡ cond a (cond b (runs_from ((part ++ c ∷ []) ++ d ∷ []) ds) (closed (part ++ c ∷ []) ++ runs_from [] ds))
    (cond b (runs_from ([] ++ d ∷ []) ds) (runs_from [] ds))
kept_step part c d ds true true s hc hd hs gap own whole next =
    ap kept (prepend-prepend part (c ∷ []) (pieces (d ∷ ds))) ∙ next (part ++ c ∷ []) true hd whole (λ no. cc)
kept_step part c d ds true false true hc hd hs gap own whole next =
    absurd (false≢true (sym (no_space (class_of c) (run_class c ∙ hc)) ∙ (and_parts (is_space (class_of c)) (is_space (class_of d)) hs).0))
kept_step part c d ds true false false hc hd hs gap own whole next =
    kept_piece (part ++ c ∷ []) (pieces (d ∷ ds)) true whole (any_push part c true own ∙ or-true _)
    ∙ ap₂ (λ xs ys. xs ++ ys) (sym (closed_push part c)) (kept_after d ds false hd next)
kept_step part c d ds false true true hc hd hs gap own whole next =
    absurd (false≢true (sym (no_run (class_of d) (and_parts (is_space (class_of c)) (is_space (class_of d)) hs).1) ∙ run_class d ∙ hd))
kept_step part c d ds false false true hc hd hs gap own whole next =
    ap kept (prepend-prepend part (c ∷ []) (pieces (d ∷ ds)))
    ∙ next (part ++ c ∷ []) false hd whole (λ _. any_push part c false own ∙ or-false _ ∙ gap refl)
kept_step part c d ds false b false hc hd hs gap own whole next =
    kept_piece (part ++ c ∷ []) (pieces (d ∷ ds)) false whole (any_push part c false own ∙ or-false _ ∙ gap refl)
    ∙ kept_after d ds b hd next

kept_last : (part : List ℕ) (c : ℕ) (a : Bool) → (a ≡ false → list_any is_alphanumeric part ≡ false) → is_alphanumeric c ≡ a
    → IsAscii (part ++ c ∷ []) → IsKept part c [] a
kept_last part c true gap own whole =
    kept_piece (part ++ c ∷ []) [] true whole (any_push part c true own ∙ or-true _) ∙ sym (closed_push part c)
kept_last part c false gap own whole =
    kept_piece (part ++ c ∷ []) [] false whole (any_push part c false own ∙ or-false _ ∙ gap refl)

kept_from : (part : List ℕ) (c : ℕ) (cs : List ℕ) (a : Bool) → is_ascii_alphanumeric c ≡ a → IsAscii part
    → (a ≡ false → list_any is_alphanumeric part ≡ false) → list_all is_plain (c ∷ cs) ≡ true → IsKept part c cs a
kept_from part c [] a h ascii gap plain =
    let below = plain_below c (and_parts _ _ plain).0 in
    kept_last part c a gap (sym (is_alphanumeric_ascii c below) ∙ h) (IsAscii-push part c ascii below)
kept_from part c (d ∷ ds) a h ascii gap plain =
    let (first, rest) = and_parts _ _ plain in
    let below = plain_below c first in
    let s = is_space (class_of c) && is_space (class_of d) in
    let b = is_ascii_alphanumeric d in
    let joined : joins_next (class_of c) (class_of d) ≡ (a && b) || s =
    ap₂ (λ x y. (x && y) || s) (run_class c ∙ h) (run_class d) in
    ap (λ j. kept (prepend part (attach (not j) (c ∷ []) (pieces (d ∷ ds))))) joined
    ∙ kept_step part c d ds a b s h refl refl gap (sym (is_alphanumeric_ascii c below) ∙ h) (IsAscii-push part c ascii below)
    (λ p e is ascii_too gap_too. kept_from p d ds e is ascii_too gap_too rest)

-- the words of a plain text
pub words-plain : (text : List ℕ) → list_all is_plain text ≡ true → words text ≡ runs text
unfolding segments
words-plain text plain =
    ap (λ cs. kept (cut is_word_break [] cs [])) (chars-IsAscii text (plain_ascii text plain))
    ∙ ap kept (cut_plain [] text plain) ∙ all text plain
  where
    all : (text : List ℕ) → list_all is_plain text ≡ true → kept (pieces text) ≡ runs text
    all [] plain = refl
    all (c ∷ cs) plain =
        ap kept (sym (prepend-pieces c cs))
        ∙ kept_from [] c cs (is_ascii_alphanumeric c) refl IsAscii-nil (λ _. refl) plain

lower_alphanumeric : (c : ℕ) → c < 128 → is_ascii_alphanumeric (to_ascii_lowercase c) ≡ is_ascii_alphanumeric c
unfolding tables
lower_alphanumeric c below =
    same-true _ _ (all_below-at (λ x. same (is_ascii_alphanumeric (to_ascii_lowercase x)) (is_ascii_alphanumeric x)) 128 c refl below)

closed-folded : (run : List ℕ) → IsAscii run → map folded (closed run) ≡ closed (map to_ascii_lowercase run)
closed-folded [] ascii = refl
closed-folded (c ∷ run) ascii = ap (λ r. r ∷ []) (folded-ascii (c ∷ run) ascii)

folded_step : (run : List ℕ) (c : ℕ) (text : List ℕ) (a b : Bool) → a ≡ b → IsAscii run
    → map folded (runs_from (run ++ c ∷ []) text)
    ≡ runs_from (map to_ascii_lowercase (run ++ c ∷ [])) (map to_ascii_lowercase text)
    → map folded (runs_from [] text) ≡ runs_from [] (map to_ascii_lowercase text)
    → map folded (cond a (runs_from (run ++ c ∷ []) text) (closed run ++ runs_from [] text))
    ≡ cond b (runs_from (map to_ascii_lowercase run ++ to_ascii_lowercase c ∷ []) (map to_ascii_lowercase text))
    (closed (map to_ascii_lowercase run) ++ runs_from [] (map to_ascii_lowercase text))
folded_step run c text true true e ascii on new =
    on ∙ ap (λ r. runs_from r (map to_ascii_lowercase text)) (map-append to_ascii_lowercase run (c ∷ []))
folded_step run c text true false e ascii on new = cc
folded_step run c text false true e ascii on new = cc
folded_step run c text false false e ascii on new =
    map-append folded (closed run) (runs_from [] text) ∙ ap₂ (λ xs ys. xs ++ ys) (closed-folded run ascii) new

folded-runs : (run text : List ℕ) → IsAscii run → list_all is_plain text ≡ true
    → map folded (runs_from run text) ≡ runs_from (map to_ascii_lowercase run) (map to_ascii_lowercase text)
folded-runs run [] ascii plain = closed-folded run ascii
folded-runs run (c ∷ text) ascii plain =
    let (first, rest) = and_parts _ _ plain in
    let below = plain_below c first in
    folded_step run c text (is_ascii_alphanumeric c) (is_ascii_alphanumeric (to_ascii_lowercase c)) (sym (lower_alphanumeric c below)) ascii
    (folded-runs (run ++ c ∷ []) text (IsAscii-push run c ascii below) rest) (folded-runs [] text IsAscii-nil rest)

-- the words of a plain text, folded, are the runs of the text in small letters
pub folded-words-plain : (text : List ℕ) → list_all is_plain text ≡ true
    → map folded (words text) ≡ runs (map to_ascii_lowercase text)
folded-words-plain text plain = ap (map folded) (words-plain text plain) ∙ folded-runs [] text IsAscii-nil plain

-- a plain text is of ASCII, also in small letters
pub IsAscii-plain : (text : List ℕ) → list_all is_plain text ≡ true → IsAscii text
IsAscii-plain = plain_ascii
