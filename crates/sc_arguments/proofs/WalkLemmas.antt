-- clap's walk over the words finds the options that they are by definition, or fails where they are none.
use Rattle.std.proofs.Common.{◌≡◌, ◌∙◌, ◌≤◌, ◌+◌, inl, inr, Bool, true, false, List, [], ◌∷◌, ◌++◌, map, Option, Some, None, refl, sym, ap, ap₂, subst, arith, append-nil, true≢false}
use Rattle.std.specs.List.{list_any, before_first}
use Rattle.std.specs.Str.{bytes_eq}
use Rattle.std.proofs.lemmas.List.Elements.{All-nil}
use Rattle.clap.specs.Lexer.{long_of}
use Rattle.clap.specs.Walk.{Text, Row, Walk, Held, walk_from, walked, settled, has_row, used}
use Rattle.clap.specs.Kinds.{Kinds, or_else}
use Rattle.clap.specs.Faults.{turn_fault, walk_fault, settle_fault, use_fault}
use Rattle.clap.specs.declared.error.kind.ErrorKind.{ErrorKind}
use Rattle.sc_arguments.specs.Options.{Setting, is_equals_sign, is_number, settings}
use Rattle.sc_arguments.proofs.OrderLemmas.{as_number}
use Rattle.sc_arguments.proofs.RuleLemmas.{built_rule, rules_of, shape_with, known_long, unknown_long, known_id}
use Rattle.clap.specs.declared.error.kind.ErrorKind.TheVariants as kind
use Rattle.sc_arguments.specs.Found.{option_name}
use Rattle.sc_arguments.proofs.WordLemmas.{stop, starts, dash_no_number, first_setting, joined_settings, open_settings, last_settings, known_name, known_begins, before_whole, WordKind, joined_word, alone_word, other_word, kind_of_word}
use Rattle.sc_arguments.proofs.TurnLemmas.{held, row_of_setting, waits_for, value_turn, value_next, open_turn, open_next, unknown_turn, other_turn, no_value, other_option, other_unknown, value_given, used_once, used_again, rows_used}
use Rattle.sc_arguments.proofs.StepLemmas.{Follows, Verdict, fault_from, rows_from, fails, goes_on, fails_last, either, held_fails, one_more, bad_head, given_again}

-- ---- the whole walk

-- what is held is used without a fault, and then the rows are these
pub record Ready (names : List Text) (rows : List Row) (h : Held) : Type 0 where
  pub clear : settle_fault (rules_of names) false h ≡ []
  pub same : settled (rules_of names) h ≡ held rows None

-- the values of an option that is in no row yet
value_ready : (names : List Text) (rows : List Row) (name value : Text) → list_any (bytes_eq name) names ≡ true → has_row name rows ≡ false
    → Ready names (rows ++ row_of_setting (name, value) ∷ []) (held rows (Some (name, value ∷ [])))
value_ready names rows name value known free = record {
  clear = rw (known_id names name known) (used_once names rows name value free);
  same = rw (known_id names name known) (ap (λ (more : List Row). held more None) (rows_used names rows name value free));
}

-- the option that comes first is none
unknown_head : (names : List Text) (rows : List Row) (word : Text) (words : List Text) → (list_any (bytes_eq (before_first is_equals_sign word)) (map option_name names) ≡ true → ⊥)
    → Follows names rows (settings (word ∷ words)) → ⊥
unknown_head names rows word words bad =
    let first = first_setting word words in
    bad_head names rows (settings (word ∷ words)) first.1 (before_first is_equals_sign word) first.0 first.2 (λ option. bad option.0)

-- an option of another name is none
not_known : (names : List Text) (name text : Text) → text ≡ option_name name → list_any (bytes_eq name) names ≡ false → list_any (bytes_eq text) (map option_name names) ≡ true → ⊥
not_known names name text is none h =
    absurd (true≢false (sym h ∙ (ap (λ (t : Text). list_any (bytes_eq t) (map option_name names)) is ∙ (known_name names name ∙ none))))

-- what begins as an option is no number
name_no_number : (word name : Text) → before_first is_equals_sign word ≡ option_name name → is_number word ≡ true → ⊥
name_no_number word name e h =
    let begins = starts word name e in
    dash_no_number (45 ∷ begins.0) (subst (λ (t : Text). is_number t ≡ true) begins.1 h)

-- ---- where an option waits for its value

abbrev Same : List Text → Walk → List Text → Walk → List Text → Type 0
Same names w words next rest = (fault_from names w words ≡ fault_from names next rest) × (rows_from names w words ≡ rows_from names next rest)

-- the words are refused, since the walk fails after the option and its value is no number
bad_value : (names : List Text) (rows : List Row) (name word : Text) (words rest : List Text) (w : Walk) (k : ErrorKind) → settings words ≡ (option_name name, word) ∷ settings rest
    → Same names w words (waits_for name (held rows (Some (name, [])))) (word ∷ rest)
    → turn_fault (shape_with (rules_of names)) [] (waits_for name (held rows (Some (name, [])))) word ≡ k ∷ [] → (is_number word ≡ true → ⊥) → Verdict names w rows words
bad_value names rows name word words rest w k is same turn bad = inl (record {
  fault = λ e. fails names (waits_for name (held rows (Some (name, [])))) word rest k turn (sym same.0 ∙ e);
  given = bad_head names rows (settings words) (settings rest) (option_name name) word is (λ option. bad option.1);
})

-- the value comes after its option: it is used once, or is refused
good_value : (names : List Text) (rows : List Row) (name word : Text) (words rest : List Text) (w : Walk) → list_any (bytes_eq name) names ≡ true
    → settings words ≡ (option_name name, word) ∷ settings rest → Same names w words (walk_from (held rows (Some (name, word ∷ [])))) rest → list_any (λ word. bytes_eq word stop) rest ≡ false
    → (has_row name rows ≡ false → Verdict names (walk_from (held rows (Some (name, word ∷ [])))) (rows ++ row_of_setting (name, word) ∷ []) rest) → Verdict names w rows words
good_value names rows name word words rest w known is same none_stop next = by (has_row name rows) refl where
  by : (t : Bool) → has_row name rows ≡ t → Verdict names w rows words
  by true e = inl (record {
    fault = λ f. held_fails names rest rows (Some (name, word ∷ [])) kind.ArgumentConflict none_stop (rw (known_id names name known) (used_again names rows name word e)) (sym same.0 ∙ f);
    given = given_again names rows (settings words) (settings rest) name word is e;
  })
  by false e = one_more names w (walk_from (held rows (Some (name, word ∷ [])))) rows words rest name word e known is same (next e)

value_verdict : (names : List Text) (rows : List Row) (name word : Text) (words rest : List Text) (w : Walk) → bytes_eq word stop ≡ false → list_any (bytes_eq name) names ≡ true
    → settings words ≡ (option_name name, word) ∷ settings rest → Same names w words (waits_for name (held rows (Some (name, [])))) (word ∷ rest) → list_any (λ word. bytes_eq word stop) rest ≡ false
    → (has_row name rows ≡ false → Verdict names (walk_from (held rows (Some (name, word ∷ [])))) (rows ++ row_of_setting (name, word) ∷ []) rest)
    → Verdict names w rows words
value_verdict names rows name word words rest w s known is same none_stop next = by (kind_of_word word s) where
  flag : (found : Text) (value : Option Text) → long_of word ≡ Some (found, value) → (is_number word ≡ true → ⊥) → Verdict names w rows words
  flag found value long bad = known_or_not (list_any (bytes_eq found) names) refl where
    known_or_not : (t : Bool) → list_any (bytes_eq found) names ≡ t → Verdict names w rows words
    known_or_not true e = bad_value names rows name word words rest w kind.InvalidValue is same (other_option names rows name word found value s long (known_id names name known) (known_long names found e)) bad
    known_or_not false e = bad_value names rows name word words rest w kind.UnknownArgument is same (other_unknown names rows name word found value s long (unknown_long names found e)) bad

  by : WordKind word → Verdict names w rows words
  by (joined_word found value long setting _) = flag found (Some value) long (name_no_number word found (ap (λ (t : Setting). t.0) setting))
  by (alone_word found long whole _) = flag found None long (λ h. dash_no_number (45 ∷ found) (subst (λ (t : Text). is_number t ≡ true) whole h))
  by (other_word long _) = elim (value_given names rows name word s long (known_id names name known)) [
    | inl bad ↦ bad_value names rows name word words rest w kind.UnknownArgument is same bad.0 bad.1
    | inr good ↦ good_value names rows name word words rest w known is (let go = goes_on names (waits_for name (held rows (Some (name, [])))) (walk_from (held rows (Some (name, word ∷ [])))) word rest good.0 good.1 in (same.0 ∙ go.0, same.1 ∙ go.1)) none_stop next
  ]

-- ---- where none does

-- a word that fails, and is no option's
bad_word : (names : List Text) (rows first : List Row) (pending : Option (Text × List Text)) (word : Text) (words : List Text)
    → turn_fault (shape_with (rules_of names)) [] (walk_from (held first pending)) word ≡ kind.UnknownArgument ∷ []
    → (list_any (bytes_eq (before_first is_equals_sign word)) (map option_name names) ≡ true → ⊥) → Verdict names (walk_from (held first pending)) rows (word ∷ words)
bad_word names rows first pending word words turn bad = inl (record {
  fault = fails names (walk_from (held first pending)) word words kind.UnknownArgument turn;
  given = unknown_head names rows word words bad;
})

joined_verdict : (names : List Text) (rows first : List Row) (pending : Option (Text × List Text)) (word : Text) (words : List Text) (name value : Text) → bytes_eq word stop ≡ false
    → long_of word ≡ Some (name, Some value) → settings (word ∷ words) ≡ (option_name name, value) ∷ settings words → list_any (bytes_eq name) names ≡ true → Ready names rows (held first pending)
    → Verdict names (walk_from (held (rows ++ row_of_setting (name, value) ∷ []) None)) (rows ++ row_of_setting (name, value) ∷ []) words
    → Verdict names (walk_from (held first pending)) rows (word ∷ words)
joined_verdict names rows first pending word words name value s long is known ready next = by (has_row name rows) refl where
  turn : turn_fault (shape_with (rules_of names)) [] (walk_from (held first pending)) word ≡ use_fault false (built_rule name) (value ∷ []) rows
  turn = value_turn names (held first pending) word name value s long (known_long names name known)
      ∙ ap₂ (λ (kinds : Kinds) (h : Held). or_else kinds (use_fault false (built_rule name) (value ∷ []) h.rows)) ready.clear ready.same

  step : walked (rules_of names) [] (walk_from (held first pending)) word ≡ walk_from (held (used (built_rule name) (value ∷ []) rows) None)
  step = value_next names (held first pending) word name value s long (known_long names name known)
      ∙ ap (λ (h : Held). walk_from (held (used (built_rule name) (value ∷ []) h.rows) None)) ready.same

  by : (t : Bool) → has_row name rows ≡ t → Verdict names (walk_from (held first pending)) rows (word ∷ words)
  by true e = inl (record {
    fault = fails names (walk_from (held first pending)) word words kind.ArgumentConflict (turn ∙ used_again names rows name value e);
    given = given_again names rows (settings (word ∷ words)) (settings words) name value is e;
  })
  by false e = one_more names (walk_from (held first pending)) (walk_from (held (rows ++ row_of_setting (name, value) ∷ []) None)) rows (word ∷ words) words name value e known is
      (goes_on names (walk_from (held first pending)) (walk_from (held (rows ++ row_of_setting (name, value) ∷ []) None)) word words (turn ∙ used_once names rows name value e)
      (step ∙ ap (λ (more : List Row). walk_from (held more None)) (rows_used names rows name value e))) next

open_same : (names : List Text) (rows first : List Row) (pending : Option (Text × List Text)) (word : Text) (words : List Text) (name : Text) → bytes_eq word stop ≡ false
    → long_of word ≡ Some (name, None) → list_any (bytes_eq name) names ≡ true → Ready names rows (held first pending)
    → Same names (walk_from (held first pending)) (word ∷ words) (waits_for name (held rows (Some (name, [])))) words
open_same names rows first pending word words name s long known ready =
    goes_on names (walk_from (held first pending)) (waits_for name (held rows (Some (name, [])))) word words
    (open_turn names (held first pending) word name s long (known_long names name known) ∙ ready.clear)
    (open_next names (held first pending) word name s long (known_long names name known) ∙ ap (λ (h : Held). waits_for name (record h { pending = Some (name, []) })) ready.same)

-- an option at the end has no value
last_verdict : (names : List Text) (rows first : List Row) (pending : Option (Text × List Text)) (word name : Text) → settings (word ∷ []) ≡ (option_name name, []) ∷ [] → list_any (bytes_eq name) names ≡ true
    → Same names (walk_from (held first pending)) (word ∷ []) (waits_for name (held rows (Some (name, [])))) [] → Verdict names (walk_from (held first pending)) rows (word ∷ [])
last_verdict names rows first pending word name is known same = inl (record {
  fault = λ e. fails_last names (waits_for name (held rows (Some (name, [])))) kind.InvalidValue (no_value names rows name (known_id names name known)) (sym same.0 ∙ e);
  given = bad_head names rows (settings (word ∷ [])) [] (option_name name) [] is (λ option. absurd (true≢false (sym option.1)));
})

-- what a word means, by what comes of the words after it and of those after its value
word_verdict : (names : List Text) (rows first : List Row) (pending : Option (Text × List Text)) (word : Text) (words : List Text) → bytes_eq word stop ≡ false → Ready names rows (held first pending)
    → ((name value : Text) → settings (word ∷ words) ≡ (option_name name, value) ∷ settings words → Verdict names (walk_from (held (rows ++ row_of_setting (name, value) ∷ []) None)) (rows ++ row_of_setting (name, value) ∷ []) words)
    → ((name : Text) → word ≡ option_name name → list_any is_equals_sign word ≡ false → list_any (bytes_eq name) names ≡ true
    → Same names (walk_from (held first pending)) (word ∷ words) (waits_for name (held rows (Some (name, [])))) words → Verdict names (walk_from (held first pending)) rows (word ∷ words))
    → Verdict names (walk_from (held first pending)) rows (word ∷ words)
word_verdict names rows first pending word words s ready after alone = by (kind_of_word word s) where
  by : WordKind word → Verdict names (walk_from (held first pending)) rows (word ∷ words)
  by (joined_word name value long setting sign) = known (list_any (bytes_eq name) names) refl where
    is : settings (word ∷ words) ≡ (option_name name, value) ∷ settings words
    is = joined_settings word name value words setting sign

    known : (t : Bool) → list_any (bytes_eq name) names ≡ t → Verdict names (walk_from (held first pending)) rows (word ∷ words)
    known true e = joined_verdict names rows first pending word words name value s long is e ready (after name value is)
    known false e = bad_word names rows first pending word words (unknown_turn names (held first pending) word name (Some value) s long (unknown_long names name e))
        (not_known names name (before_first is_equals_sign word) (ap (λ (t : Setting). t.0) setting) e)
  by (alone_word name long whole none) = known (list_any (bytes_eq name) names) refl where
    known : (t : Bool) → list_any (bytes_eq name) names ≡ t → Verdict names (walk_from (held first pending)) rows (word ∷ words)
    known true e = alone name whole none e (open_same names rows first pending word words name s long e ready)
    known false e = bad_word names rows first pending word words (unknown_turn names (held first pending) word name None s long (unknown_long names name e))
        (not_known names name (before_first is_equals_sign word) (before_whole word none ∙ whole) e)
  by (other_word long never) = bad_word names rows first pending word words (other_turn names first pending word s long)
      (λ h. let begins = known_begins names (before_first is_equals_sign word) h in let rest = starts word begins.0 begins.1 in never rest.0 rest.1)

one_at_most : (t : Bool) → as_number t + 0 ≤ 1
one_at_most true = omega arith
one_at_most false = omega arith

-- at the end of the words
end_verdict : (names : List Text) (rows first : List Row) (pending : Option (Text × List Text)) → Ready names rows (held first pending) → Verdict names (walk_from (held first pending)) rows []
unfolding walk_fault
end_verdict names rows first pending ready = inr (record {
  more = [];
  fault = ready.clear;
  left = ap (λ (h : Held). h.rows) ready.same ∙ sym (append-nil rows);
  given = refl;
  known = All-nil (λ (s : Setting). list_any (bytes_eq s.0) names ≡ true);
  once = λ name. one_at_most (has_row name rows);
})

pub nothing_ready : (names : List Text) (rows : List Row) → Ready names rows (held rows None)
nothing_ready names rows = record { clear = refl; same = refl }

-- from anywhere between two options the walk finds the options that are left, or fails where they are none
pub verdict : (names words : List Text) → list_any (λ word. bytes_eq word stop) words ≡ false → (rows first : List Row) (pending : Option (Text × List Text)) → Ready names rows (held first pending)
    → Verdict names (walk_from (held first pending)) rows words
verdict names [] s rows first pending ready = end_verdict names rows first pending ready
verdict names (word ∷ []) s rows first pending ready =
    word_verdict names rows first pending word [] (either (bytes_eq word stop) false s).0 ready
    (λ name value is. end_verdict names (rows ++ row_of_setting (name, value) ∷ []) (rows ++ row_of_setting (name, value) ∷ []) None (nothing_ready names (rows ++ row_of_setting (name, value) ∷ [])))
    (λ name whole none known same. last_verdict names rows first pending word name (last_settings word name whole none) known same)
verdict names (word ∷ value ∷ words) s rows first pending ready =
    let here = either (bytes_eq word stop) (list_any (λ word. bytes_eq word stop) (value ∷ words)) s in
    let there = either (bytes_eq value stop) (list_any (λ word. bytes_eq word stop) words) here.1 in
    word_verdict names rows first pending word (value ∷ words) here.0 ready
    (λ name v is. verdict names (value ∷ words) here.1 (rows ++ row_of_setting (name, v) ∷ []) (rows ++ row_of_setting (name, v) ∷ []) None (nothing_ready names (rows ++ row_of_setting (name, v) ∷ [])))
    (λ name whole none known same. value_verdict names rows name value (word ∷ value ∷ words) words (walk_from (held first pending)) there.0 known (open_settings word name value words whole none) same there.1
    (λ free. verdict names words there.1 (rows ++ row_of_setting (name, value) ∷ []) rows (Some (name, value ∷ [])) (value_ready names rows name value known free)))
