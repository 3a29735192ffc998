-- What clap reads of a command whose options each take one value.
use Rattle.std.proofs.Common.{◌≡◌, ℕ, Bool, true, false, ◌||◌, cond, List, [], ◌∷◌, ◌++◌, ◌+◌, ◌<◌, map, length, take, get_or, Some, None, refl, sym, ap, ◌∙◌}
use Rattle.std.specs.Prelude.{codes, find, is_some, count_by}
use Rattle.std.specs.List.{list_all, list_any}
use Rattle.std.specs.Str.{bytes_eq}
use Rattle.std.proofs.lemmas.List.{take_more, map-append}
use Rattle.std.proofs.lemmas.Slice.Eq.{bytes_eq-Decides}
use Rattle.clap.specs.Walk.{Rule, Text, is_early_multiple, arg_by_long, arg_by_id, arg_by_short, arg_by_index}
use Rattle.clap.specs.Simple.{Shape, new_shape, built, filled, filled_from, with_index, with_rule, is_simple}
use Rattle.sc_arguments.specs.Found.{option_rule, command_with}
use Rattle.clap.specs.Faults.{is_simple_and_free}

-- an option as it is built
abbrev pub built_rule : Text → Rule
built_rule name = with_index 1 (filled (option_rule name))

abbrev pub rules_of : List Text → List Rule
rules_of names = map built_rule names

-- the command as it is built
abbrev pub shape_with : List Rule → Shape
shape_with rules = record (new_shape (codes "solr_split")) {
  rules = rules;
  no_binary_name = true;
  disable_help_flag = true;
  disable_help_subcommand = true;
  is_built = true;
}

filled_rules : (i : ℕ) (names : List Text) → filled_from i (map option_rule names) ≡ rules_of names
filled_rules i [] = refl
filled_rules i (name ∷ names) = ap (λ (rules : List Rule). built_rule name ∷ rules) (filled_rules i names)

pub built_is : (names : List Text) → built (command_with names) ≡ record { top = shape_with (rules_of names); subs = [] }
built_is names = ap (λ (rules : List Rule). record { top = shape_with rules; subs = [] }) (filled_rules 1 names)

all_made : (p : Rule → Bool) → ((name : Text) → p (option_rule name) ≡ true) → (names : List Text) → list_all p (map option_rule names) ≡ true
all_made p each [] = refl
all_made p each (name ∷ names) = rw (each name) (all_made p each names)

all_built : (p : Rule → Bool) → ((name : Text) → p (built_rule name) ≡ true) → (names : List Text) → list_all p (rules_of names) ≡ true
all_built p each [] = refl
all_built p each (name ∷ names) = rw (each name) (all_built p each names)

pub none_built : (p : Rule → Bool) → ((name : Text) → p (built_rule name) ≡ false) → (names : List Text) → list_any p (rules_of names) ≡ false
none_built p each [] = refl
none_built p each (name ∷ names) = rw (each name) (none_built p each names)

none_found : (p : Rule → Bool) → ((name : Text) → p (built_rule name) ≡ false) → (names : List Text) → find p (rules_of names) ≡ None
none_found p each [] = refl
none_found p each (name ∷ names) = rw (each name) (none_found p each names)

pub no_short : (names : List Text) (x : ℕ) → arg_by_short (rules_of names) x ≡ None
no_short names x = none_found _ (λ name. refl) names

pub no_place : (names : List Text) (i : ℕ) → arg_by_index (rules_of names) i ≡ None
no_place names i = none_found _ (λ name. refl) names

pub same_text : (a b : Text) → bytes_eq a b ≡ true → a ≡ b
same_text a b h = (bytes_eq-Decides a b).0 h

pub same_turned : (a b : Text) → bytes_eq a b ≡ bytes_eq b a
same_turned a b = by (bytes_eq a b) (bytes_eq b a) refl refl where
  by : (s t : Bool) → bytes_eq a b ≡ s → bytes_eq b a ≡ t → s ≡ t
  by true true e f = refl
  by false false e f = refl
  by true false e f = let h = (bytes_eq-Decides b a).1 (sym (same_text a b e)) in cc
  by false true e f = let h = (bytes_eq-Decides a b).1 (sym (same_text b a f)) in cc

-- a rule with this name is found exactly where it is one of the names
module _ (p : Rule → Bool) (name : Text) (is : (n : Text) → p (built_rule n) ≡ bytes_eq name n) where
  found_named : (names : List Text) → list_any (bytes_eq name) names ≡ true → find p (rules_of names) ≡ Some (built_rule name)
  found_named [] h = absurd (cc)
  found_named (n ∷ names) h = rw (is n) (by (bytes_eq name n) refl h (found_named names)) where
    by : (t : Bool) → bytes_eq name n ≡ t → (t || list_any (bytes_eq name) names) ≡ true → (list_any (bytes_eq name) names ≡ true → find p (rules_of names) ≡ Some (built_rule name))
        → cond t (Some (built_rule n)) (find p (rules_of names)) ≡ Some (built_rule name)
    by true e k rest = ap (λ (m : Text). Some (built_rule m)) (sym (same_text name n e))
    by false e k rest = rest k

  none_named : (names : List Text) → list_any (bytes_eq name) names ≡ false → find p (rules_of names) ≡ None
  none_named [] h = refl
  none_named (n ∷ names) h = rw (is n) (by (bytes_eq name n) h (none_named names)) where
    by : (t : Bool) → (t || list_any (bytes_eq name) names) ≡ false → (list_any (bytes_eq name) names ≡ false → find p (rules_of names) ≡ None)
        → cond t (Some (built_rule n)) (find p (rules_of names)) ≡ None
    by true k rest = absurd (cc)
    by false k rest = rest k

or_false : (b : Bool) → (b || false) ≡ b
or_false true = refl
or_false false = refl

long_is : (name n : Text) → (bytes_eq n name || false) ≡ bytes_eq name n
long_is name n = or_false (bytes_eq n name) ∙ same_turned n name

pub known_long : (names : List Text) (name : Text) → list_any (bytes_eq name) names ≡ true → arg_by_long (rules_of names) name ≡ Some (built_rule name)
known_long names name h = found_named _ name (long_is name) names h

pub unknown_long : (names : List Text) (name : Text) → list_any (bytes_eq name) names ≡ false → arg_by_long (rules_of names) name ≡ None
unknown_long names name h = none_named _ name (long_is name) names h

pub known_id : (names : List Text) (name : Text) → list_any (bytes_eq name) names ≡ true → arg_by_id (rules_of names) name ≡ Some (built_rule name)
known_id names name h = found_named _ name (λ n. same_turned n name) names h

pub is_simple_app : (names : List Text) → is_simple (command_with names) ≡ true
is_simple_app names = rw (filled_rules 1 names) (rw (all_made (λ a. a.is_simple) (λ name. refl) names) (rw (all_built (λ a. a.is_simple) (λ name. refl) names)
    (rw (none_built (is_early_multiple (count_by (λ a. is_some a.index) (rules_of names))) (λ name. refl) names) refl)))

pub is_free_too : (names : List Text) → is_simple_and_free (command_with names) ≡ true
is_free_too names = rw (is_simple_app names) (rw (filled_rules 1 names) (rw (all_built (λ a. a.is_free) (λ name. refl) names) refl))

-- one option more
pub rule_added : (names : List Text) (i : ℕ) (name : Text) → i < length names → get_or names i [] ≡ name → with_rule (command_with (take i names)) (option_rule name) ≡ command_with (take (i + 1) names)
rule_added names i name below is =
    ap (λ (rules : List Rule). record { top = record (command_with []).top { rules = rules }; subs = [] })
    (sym (ap (map option_rule) (take_more names i [] below ∙ ap (λ (n : Text). take i names ++ n ∷ []) is) ∙ map-append option_rule (take i names) (name ∷ [])))
