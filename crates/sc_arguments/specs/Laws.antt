-- What the options of a line are, and what their two forms and their order mean.
use Rattle.std.specs.Prelude.{◌≡◌, ◌≤◌, ◌↔◌, ℕ, true, false, List, ◌∷◌, ◌++◌, count_by}
use Rattle.std.specs.List.{All, list_any}
use Rattle.std.specs.List.Sorted.{IsPermutation}
use Rattle.std.specs.Str.{bytes_eq}
use Rattle.sc_arguments.specs.Options.{Setting, is_equals_sign, is_number, settings, are_options}
use Rattle.sc_arguments.specs.Arguments.{asked_of}

-- it has one of the names, and a number for its value
abbrev pub IsOption : (names : List (List ℕ)) → Setting → Type 0
IsOption names setting = (list_any (bytes_eq setting.0) names ≡ true) × (is_number setting.1 ≡ true)

-- how often an option is given
abbrev pub times : List ℕ → List Setting → ℕ
times name given = count_by (λ (setting : Setting). bytes_eq setting.0 name) given

-- each is an option with a number for its value, and none is given twice
pub record AreEachOnce (names : List (List ℕ)) (given : List Setting) : Type 0 where
  pub good : All (IsOption names) given
  pub once : (name : List ℕ) → times name given ≤ 1

-- the options of a line are taken exactly where each has one of the names and a number, and none is given twice
abbrev pub AreTakenOnce : Type 0
AreTakenOnce = (names : List (List ℕ)) (given : List Setting) → (are_options names given ≡ true) ↔ AreEachOnce names given

-- an option and its value ask for the same in one word, with `=` between them, as in two words
abbrev pub AskTheSameInBothForms : Type 0
AskTheSameInBothForms = (command name value : List ℕ) (options : List (List ℕ)) → list_any is_equals_sign name ≡ false
    → asked_of (command ∷ (name ++ 61 ∷ value) ∷ options) ≡ asked_of (command ∷ name ∷ value ∷ options)

-- the same options in another order ask for the same, or are refused too
abbrev pub AskTheSameInAnyOrder : Type 0
AskTheSameInAnyOrder = (command : List ℕ) (options other : List (List ℕ)) → IsPermutation (settings options) (settings other)
    → asked_of (command ∷ options) ≡ asked_of (command ∷ other)
