-- What clap answers at the words is what they are by definition.
use Rattle.std.proofs.Common.{◌≡◌, ◌∙◌, ◌≤◌, ◌+◌, ◌⊎◌, inl, inr, ℕ, Bool, true, false, ◌||◌, ◌&&◌, cond, not, List, [], ◌∷◌, map, length, Option, Some, None, Bor, refl, sym, ap, ap₂, subst, arith, true≢false}
use Rattle.std.specs.Prelude.{fold, find, option_map, slice_get, nat_lt, option_and_then}
use Rattle.std.specs.List.{All, list_any, list_all, before_first}
use Rattle.std.specs.Option.{option_map_or}
use Rattle.std.specs.Str.{bytes_eq}
use Rattle.std.proofs.lemmas.List.Elements.{All-nil, All-cons, All-head, All-tail}
use Rattle.clap.specs.Walk.{Text, Row, rows_after, walk_from, nothing_held, with_default, has_row, first_of, settled, finished}
use Rattle.clap.specs.Simple.{App, matches_of, names_of}
use Rattle.clap.specs.Kinds.{Kinds, or_else}
use Rattle.clap.specs.Faults.{fault_of, built_fault, defaults_fault, check_fault, walk_fault, settle_fault}
use Rattle.clap.specs.Takes.{is_given}
use Rattle.clap.proofs.FaultLemmas.{leaf_fault}
use Rattle.clap.proofs.WalkLemmas.{both, first_value-rows}
use Rattle.clap.specs.Words.{rows_of, found_of, first_value, kind_of, HasKind}
use Rattle.clap.specs.declared.parser.matches.ArgMatches.{ArgMatches}
use Rattle.clap.specs.declared.error.Error.{Error}
use Rattle.clap.specs.declared.error.kind.ErrorKind.TheVariants as kind
use Rattle.std.proofs.lemmas.Slice.Eq.{bytes_eq-Decides}
use Rattle.sc_arguments.specs.Options.{Setting, is_equals_sign, is_number, setting_of, settings, option_value, are_options}
use Rattle.sc_arguments.specs.Laws.{IsOption, times, AreEachOnce}
use Rattle.sc_arguments.specs.Found.{command_with, has_number, NumbersDecide, HaveValues, settings_found, option_name, setting_found, row_has_value}
use Rattle.sc_arguments.proofs.OrderLemmas.{times_step, taken_once, value_absent, as_number}
use Rattle.sc_arguments.proofs.RuleLemmas.{built_rule, rules_of, shape_with, built_is, none_built, same_text}
use Rattle.sc_arguments.proofs.WordLemmas.{stop, dash_no_number, known_name, in_one_word, in_two_words}
use Rattle.sc_arguments.proofs.TurnLemmas.{or_none, row_of_setting}
use Rattle.sc_arguments.proofs.StepLemmas.{ending, fault_from, rows_from, named}
use Rattle.sc_arguments.proofs.WalkLemmas.{verdict, nothing_ready}

-- ---- after the walk

kept : (rows : List Row) (name : Text) → with_default rows (built_rule name) ≡ rows
kept rows name = by (has_row name rows) where
  by : (t : Bool) → cond t rows rows ≡ rows
  by true = refl
  by false = refl

no_defaults : (names : List Text) (rows : List Row) → fold with_default rows (rules_of names) ≡ rows
no_defaults [] rows = refl
no_defaults (name ∷ names) rows = ap (λ (now : List Row). fold with_default now (rules_of names)) (kept rows name) ∙ no_defaults names rows

no_default_fault : (names : List Text) (rows : List Row) → defaults_fault rows (rules_of names) ≡ []
unfolding defaults_fault
no_default_fault [] rows = refl
no_default_fault (name ∷ names) rows = by (has_row name rows) (ap (λ (now : List Row). defaults_fault now (rules_of names)) (kept rows name) ∙ no_default_fault names rows) where
  by : (t : Bool) → defaults_fault (with_default rows (built_rule name)) (rules_of names) ≡ []
      → or_else (cond (t || true) [] []) (defaults_fault (with_default rows (built_rule name)) (rules_of names)) ≡ []
  by true e = e
  by false e = e

no_check_fault : (names : List Text) (rows : List Row) → check_fault (shape_with (rules_of names)) rows false ≡ []
no_check_fault names rows = rw (none_built (λ a. a.required && not (is_given a.id rows)) (λ name. refl) names) refl

abbrev command_built : List Text → App
command_built names = record { top = shape_with (rules_of names); subs = [] }

-- the walk alone fails
fault_is : (names words : List Text) → fault_of (command_with names) words ≡ fault_from names (walk_from nothing_held) words
fault_is names words =
    let walked = walk_fault (shape_with (rules_of names)) [] (walk_from nothing_held) words in
    let end = (ending names (walk_from nothing_held) words).held in
    let held = settle_fault (rules_of names) false end in
    ap (λ (app : App). built_fault app nothing_held words) (built_is names) ∙ (leaf_fault (command_built names) nothing_held words refl
    ∙ (ap₂ (λ (a b : Kinds). or_else walked (or_else held (or_else a b))) (no_default_fault names (settled (rules_of names) end).rows) (no_check_fault names (finished (rules_of names) end))
    ∙ ap (λ (kinds : Kinds). or_else walked kinds) (or_none held)))

matches_are : (names words : List Text) → matches_of (command_with names) words ≡ rows_from names (walk_from nothing_held) words
matches_are names words =
    ap (λ (app : App). rows_after app.top.rules (names_of app) words) (built_is names) ∙ no_defaults names (rows_from names (walk_from nothing_held) words)

-- ---- the words that end the options

stop_is : (word : Text) → bytes_eq word stop ≡ true → word ≡ stop
stop_is word e = same_text word stop e

-- it is no option, and no option's value
stop_first : (names : List Text) (word value : Text) (more : List Setting) → list_any (bytes_eq stop) names ≡ false → bytes_eq word stop ≡ true → All (IsOption names) ((word, value) ∷ more) → ⊥
stop_first names word value more never e good =
    true≢false (sym (All-head (IsOption names) (word, value) more good).0 ∙ (ap (λ (t : Text). list_any (bytes_eq t) names) (stop_is word e) ∙ never))

stop_second : (names : List Text) (word value : Text) (more : List Setting) → bytes_eq value stop ≡ true → All (IsOption names) ((word, value) ∷ more) → ⊥
stop_second names word value more e good =
    dash_no_number (45 ∷ []) (subst (λ (t : Text). is_number t ≡ true) (stop_is value e) (All-head (IsOption names) (word, value) more good).1)

-- a line with such a word is refused by definition
pub stop_refused : (names : List Text) → list_any (bytes_eq stop) names ≡ false → (words : List Text) → list_any (λ word. bytes_eq word stop) words ≡ true → All (IsOption names) (settings words) → ⊥
stop_refused names never [] h good = true≢false (sym h)
stop_refused names never (word ∷ []) h good = by (bytes_eq word stop) refl h where
  by : (t : Bool) → bytes_eq word stop ≡ t → (t || false) ≡ true → ⊥
  by true e k = true≢false (sym (subst (λ (t : Text). list_any (bytes_eq (before_first is_equals_sign t)) names ≡ true) (stop_is word e) (All-head (IsOption names) (setting_of word) [] good).0) ∙ never)
  by false e k = true≢false (sym k)
stop_refused names never (word ∷ value ∷ words) h good =
    by (list_any is_equals_sign word) (bytes_eq word stop) (bytes_eq value stop) refl refl refl h (stop_refused names never (value ∷ words)) (stop_refused names never words) where
      by : (sign first second : Bool) → list_any is_equals_sign word ≡ sign → bytes_eq word stop ≡ first → bytes_eq value stop ≡ second → (first || (second || list_any (λ word. bytes_eq word stop) words)) ≡ true
          → (list_any (λ word. bytes_eq word stop) (value ∷ words) ≡ true → All (IsOption names) (settings (value ∷ words)) → ⊥)
          → (list_any (λ word. bytes_eq word stop) words ≡ true → All (IsOption names) (settings words) → ⊥) → ⊥
      by true true second e f g k one two = true≢false (sym e ∙ ap (list_any is_equals_sign) (stop_is word f))
      by true false second e f g k one two = one (ap (λ (t : Bool). t || list_any (λ word. bytes_eq word stop) words) g ∙ k)
          (All-tail (IsOption names) (setting_of word) (settings (value ∷ words)) (subst (All (IsOption names)) (in_one_word word (value ∷ words) e) good))
      by false true second e f g k one two = stop_first names word value (settings words) never f (subst (All (IsOption names)) (in_two_words word value words e) good)
      by false false true e f g k one two = stop_second names word value (settings words) g (subst (All (IsOption names)) (in_two_words word value words e) good)
      by false false false e f g k one two = two k (All-tail (IsOption names) (word, value) (settings words) (subst (All (IsOption names)) (in_two_words word value words e) good))

-- ---- what is found, by definition

pub refused_options : (names : List Text) (given : List Setting) → (AreEachOnce (map option_name names) given → ⊥) → are_options (map option_name names) given ≡ false
refused_options names given bad = by (are_options (map option_name names) given) refl where
  by : (t : Bool) → are_options (map option_name names) given ≡ t → t ≡ false
  by true e = absurd (bad ((taken_once (map option_name names) given).0 e))
  by false e = refl

-- clap takes the words, and finds these options
pub record Found (names words : List Text) : Type 0 where
  pub more : List Setting
  pub fault : fault_of (command_with names) words ≡ []
  pub left : matches_of (command_with names) words ≡ map row_of_setting more
  pub given : settings words ≡ map named more
  pub known : All (λ (s : Setting). list_any (bytes_eq s.0) names ≡ true) more
  pub once : (name : Text) → times name more ≤ 1

-- clap refuses them, and they are no options
pub record NotFound (names words : List Text) : Type 0 where
  pub fault : fault_of (command_with names) words ≡ [] → ⊥
  pub given : are_options (map option_name names) (settings words) ≡ false

pub found_or_not : (names words : List Text) → list_any (λ word. bytes_eq word stop) words ≡ false → NotFound names words ⊎ Found names words
found_or_not names words s = elim (verdict names words s [] [] None (nothing_ready names [])) [
  | inl bad ↦ inl (record {
    fault = λ e. bad.fault (sym (fault_is names words) ∙ e);
    given = refused_options names (settings words) (λ h. bad.given (record { good = h.good; once = λ name. let few = h.once (option_name name) in omega (arith, few) }));
  })
  | inr good ↦ inr (record {
    more = good.more;
    fault = fault_is names words ∙ good.fault;
    left = matches_are names words ∙ good.left;
    given = good.given;
    known = good.known;
    once = λ name. let few = good.once name in omega (arith, few);
  })
]

-- ---- what is read of the rows

-- the rows have the settings
pub found_settings : (more : List Setting) → map setting_found (map row_of_setting more) ≡ map named more
found_settings [] = refl
found_settings (setting ∷ more) = ap (λ (rest : List Setting). named setting ∷ rest) (found_settings more)

pub found_values : (more : List Setting) → list_all row_has_value (map row_of_setting more) ≡ true
found_values [] = refl
found_values (setting ∷ more) = found_values more

-- the first value of a name is that of its setting
pub value_read : (rows : List Row) (name : Text) → list_all row_has_value rows ≡ true → first_of name rows ≡ option_value (option_name name) (map setting_found rows)
value_read [] name h = refl
value_read (row ∷ rows) name h = by (bytes_eq row.id name) row.values refl (both (row_has_value row) (list_all row_has_value rows) h) (value_read rows name) where
  by : (t : Bool) (values : List Text) → row.values ≡ values → (row_has_value row ≡ true) × (list_all row_has_value rows ≡ true) → (list_all row_has_value rows ≡ true → first_of name rows ≡ option_value (option_name name) (map setting_found rows))
      → option_and_then (λ (r : Row). slice_get r.values 0) (cond t (Some row) (find (λ (r : Row). bytes_eq r.id name) rows))
      ≡ option_map (λ (s : Setting). s.1) (cond t (Some (setting_found row)) (find (λ (s : Setting). bytes_eq s.0 (option_name name)) (map setting_found rows)))
  by true [] e has rest = absurd (true≢false (sym has.0 ∙ ap (λ (values : List Text). nat_lt 0 (length values)) e))
  by true (value ∷ values) e has rest = rw e refl
  by false values e has rest = rest has.1

-- ---- numbers

value_named : (name : Text) (more : List Setting) → option_value (option_name name) (map named more) ≡ option_value name more
value_named name [] = refl
value_named name (setting ∷ more) = by (bytes_eq setting.0 name) (value_named name more) where
  by : (t : Bool) → option_value (option_name name) (map named more) ≡ option_value name more
      → option_map (λ (s : Setting). s.1) (cond t (Some (named setting)) (find (λ (s : Setting). bytes_eq s.0 (option_name name)) (map named more)))
      ≡ option_map (λ (s : Setting). s.1) (cond t (Some setting) (find (λ (s : Setting). bytes_eq s.0 name) more))
  by true rest = refl
  by false rest = rest

times_named : (name : Text) (more : List Setting) → times (option_name name) (map named more) ≡ times name more
times_named name [] = refl
times_named name (setting ∷ more) =
    times_step (option_name name) (named setting) (map named more) ∙ (ap (λ (n : ℕ). as_number (bytes_eq setting.0 name) + n) (times_named name more) ∙ sym (times_step name setting more))

never_or_named : (text : Text) (more : List Setting) → (times text (map named more) ≡ 0) ⊎ ((name : Text) × (text ≡ option_name name))
never_or_named text [] = inl refl
never_or_named text (setting ∷ more) = by (bytes_eq (option_name setting.0) text) refl (never_or_named text more) where
  by : (t : Bool) → bytes_eq (option_name setting.0) text ≡ t → (times text (map named more) ≡ 0) ⊎ ((name : Text) × (text ≡ option_name name))
      → (times text (map named (setting ∷ more)) ≡ 0) ⊎ ((name : Text) × (text ≡ option_name name))
  by true e rest = inr (setting.0, sym (same_text (option_name setting.0) text e))
  by false e (inl none) = inl (times_step text (named setting) (map named more) ∙ ap₂ (λ (t : Bool) (n : ℕ). as_number t + n) e none)
  by false e (inr is) = inr is

named_once : (more : List Setting) → ((name : Text) → times name more ≤ 1) → (text : Text) → times text (map named more) ≤ 1
named_once more once text = by (never_or_named text more) where
  by : (times text (map named more) ≡ 0) ⊎ ((name : Text) × (text ≡ option_name name)) → times text (map named more) ≤ 1
  by (inl none) = omega (arith, none)
  by (inr is) =
      let few = once is.0 in
      let same = ap (λ (t : Text). times t (map named more)) is.1 ∙ times_named is.0 more in
      omega (arith, few, same)

-- where each value of the names is a number, each option has one
numbers_each : (names : List Text) (more : List Setting) → ((name : Text) → list_any (bytes_eq name) names ≡ true → has_number (map named more) (option_name name) ≡ true)
    → All (λ (s : Setting). list_any (bytes_eq s.0) names ≡ true) more → ((name : Text) → times name more ≤ 1) → All (IsOption (map option_name names)) (map named more)
numbers_each names [] h known once = All-nil (IsOption (map option_name names))
numbers_each names ((name, value) ∷ more) h known once =
    let here = All-head (λ (s : Setting). list_any (bytes_eq s.0) names ≡ true) (name, value) more known in
    let number : is_number value ≡ true = rw ((bytes_eq-Decides name name).1 refl) at (h name here) in
    All-cons (IsOption (map option_name names)) (named (name, value)) (map named more) (known_name names name ∙ here, number)
    (numbers_each names more (λ other there. by other (bytes_eq name other) refl (h other there)) (All-tail (λ (s : Setting). list_any (bytes_eq s.0) names ≡ true) (name, value) more known)
    (λ other. let few = once other in let step = times_step other (name, value) more in omega (arith, few, step))) where
      by : (other : Text) (t : Bool) → bytes_eq name other ≡ t → has_number (map named ((name, value) ∷ more)) (option_name other) ≡ true → has_number (map named more) (option_name other) ≡ true
      by other true e k =
          let few = once other in
          let step = times_step other (name, value) more in
          let one = ap as_number e in
          ap (λ (o : Option Text). option_map_or is_number o true) (value_named other more ∙ value_absent other more (omega (arith, few, step, one)))
      by other false e k = rw e at k

numbers_all : (names : List Text) (given : List Setting) → All (IsOption names) given → (name : Text) → has_number given name ≡ true
numbers_all names [] good name = refl
numbers_all names (setting ∷ given) good name =
    by (bytes_eq setting.0 name) (All-head (IsOption names) setting given good).1 (numbers_all names given (All-tail (IsOption names) setting given good) name) where
      by : (t : Bool) → is_number setting.1 ≡ true → has_number given name ≡ true
          → option_map_or is_number (option_map (λ (s : Setting). s.1) (cond t (Some setting) (find (λ (s : Setting). bytes_eq s.0 name) given))) true ≡ true
      by true number rest = number
      by false number rest = rest

all_at : (p : Text → Bool) (names : List Text) (name : Text) → list_all p names ≡ true → list_any (bytes_eq name) names ≡ true → p name ≡ true
all_at p [] name h there = absurd (true≢false (sym there))
all_at p (n ∷ names) name h there = by (bytes_eq name n) refl there (both (p n) (list_all p names) h) (all_at p names name) where
  by : (t : Bool) → bytes_eq name n ≡ t → (t || list_any (bytes_eq name) names) ≡ true → (p n ≡ true) × (list_all p names ≡ true)
      → (list_all p names ≡ true → list_any (bytes_eq name) names ≡ true → p name ≡ true) → p name ≡ true
  by true e k hs rest = ap p (same_text name n e) ∙ hs.0
  by false e k hs rest = rest hs.1 k

all_of : (p : Text → Bool) → ((name : Text) → p name ≡ true) → (names : List Text) → list_all p names ≡ true
all_of p each [] = refl
all_of p each (name ∷ names) = rw (each name) (all_of p each names)

-- the options that clap finds are taken exactly where each has a number
pub numbers_decide : (names words : List Text) → Found names words
    → NumbersDecide names (settings words)
numbers_decide names words found = by (list_all (λ name. has_number (settings words) (option_name name)) names) refl where
  by : (t : Bool) → list_all (λ name. has_number (settings words) (option_name name)) names ≡ t → t ≡ are_options (map option_name names) (settings words)
  by true e = sym ((taken_once (map option_name names) (settings words)).1 (subst (AreEachOnce (map option_name names)) (sym found.given) (record {
    good = numbers_each names found.more (λ name there. all_at (λ n. has_number (map named found.more) (option_name n)) names name
        (ap (λ (given : List Setting). list_all (λ n. has_number given (option_name n)) names) (sym found.given) ∙ e) there) found.known found.once;
    once = named_once found.more found.once;
  })))
  by false e = sym (refused_options names (settings words) (λ h.
      true≢false (sym (all_of (λ n. has_number (settings words) (option_name n)) (λ name. numbers_all (map option_name names) (settings words) h.good (option_name name)) names) ∙ e)))

-- ---- what clap answers

-- matches of words of which none ends the options
pub taken_by : (names words : List Text) → list_any (λ word. bytes_eq word stop) words ≡ false → (found : ArgMatches) → fault_of (command_with names) words ≡ []
    → rows_of (found_of found) ≡ matches_of (command_with names) words → NumbersDecide names (settings words) × (settings_found found ≡ settings words) × HaveValues found
taken_by names words s found fault rows = elim (found_or_not names words s) [
  | inl bad ↦ absurd (bad.fault fault)
  | inr good ↦ (
    numbers_decide names words good,
    ap (map setting_found) (rows ∙ good.left) ∙ (found_settings good.more ∙ sym good.given),
    ap (list_all row_has_value) (rows ∙ good.left) ∙ found_values good.more,
  )
]

-- an error that isn't want of memory
pub refused_by : (names words : List Text) → list_any (λ word. bytes_eq word stop) words ≡ false → (error : Error) → (kind_of error ≡ kind.OutOfMemory → ⊥)
    → HasKind (fault_of (command_with names) words) error → are_options (map option_name names) (settings words) ≡ false
refused_by names words s error full has = elim (found_or_not names words s) [
  | inl bad ↦ bad.given
  | inr good ↦ absurd (elim (subst (λ (kinds : Kinds). HasKind kinds error) good.fault has) [ inl e ↦ full e | inr e ↦ e ])
]

list_all_same : {X : Type 0} (p q : X → Bool) → ((x : X) → p x ≡ q x) → (xs : List X) → list_all p xs ≡ list_all q xs
list_all_same p q same [] = refl
list_all_same p q same (x ∷ xs) = ap₂ (λ (s t : Bool). s && t) (same x) (list_all_same p q same xs)

list_all_map : (p : Text → Bool) (names : List (Bor Text)) → list_all (λ name. p name.now) names ≡ list_all p (map (λ (name : Bor Text). name.now) names)
list_all_map p [] = refl
list_all_map p (name ∷ names) = ap (λ (t : Bool). p name.now && t) (list_all_map p names)

-- the values that are read are numbers exactly where the options are taken
pub numbers_read : (names : List (Bor Text)) (given : List Setting) (found : ArgMatches) → HaveValues found → settings_found found ≡ given → NumbersDecide (map (λ (name : Bor Text). name.now) names) given
    → list_all (λ (name : Bor Text). option_map_or is_number (first_value (found_of found) name.now) true) names ≡ are_options (map option_name (map (λ (name : Bor Text). name.now) names)) given
numbers_read names given found values is decide =
    list_all_same _ (λ (name : Bor Text). has_number given (option_name name.now)) (λ name.
    ap (λ (o : Option Text). option_map_or is_number o true) (first_value-rows (found_of found) name.now ∙ value_read (rows_of (found_of found)) name.now values)
    ∙ ap (λ (settings : List Setting). has_number settings (option_name name.now)) is) names
    ∙ (list_all_map (λ name. has_number given (option_name name)) names ∙ decide)
