-- An option and its value are read alike in one word and in two.
use Rattle.std.proofs.Common.{◌≡◌, ◌∙◌, ℕ, Bool, true, false, ◌||◌, List, [], ◌∷◌, ◌++◌, None, cond, refl, sym, ap, ap₂, true≢false}
use Rattle.std.specs.Prelude.{codes, option_map}
use Rattle.std.specs.List.{list_any}
use Rattle.std.specs.Str.{bytes_eq}
use Rattle.sc_arguments.specs.declared.asked.Asked.TheVariants as asking
use Rattle.sc_arguments.specs.Options.{Setting, is_equals_sign, setting_of, settings}
use Rattle.sc_arguments.specs.Arguments.{script_by, server_by, demo_by}
use Rattle.sc_arguments.specs.Laws.{AskTheSameInBothForms}
use Rattle.sc_arguments.proofs.WordLemmas.{before_step, after_step, in_one_word, in_two_words}

-- a word with `=` after a name that has none
abbrev joined : (name value : List ℕ) → List ℕ
joined name value = name ++ 61 ∷ value

has_sign : (name value : List ℕ) → list_any is_equals_sign (joined name value) ≡ true
has_sign [] value = refl
has_sign (byte ∷ name) value = by (is_equals_sign byte) (has_sign name value) where
  by : (t : Bool) → list_any is_equals_sign (joined name value) ≡ true → (t || list_any is_equals_sign (joined name value)) ≡ true
  by true rest = refl
  by false rest = rest

-- its setting is the name and the value
setting_is : (name value : List ℕ) → list_any is_equals_sign name ≡ false → setting_of (joined name value) ≡ (name, value)
setting_is [] value e = refl
setting_is (byte ∷ name) value e = by (is_equals_sign byte) refl e (setting_is name value) where
  by : (t : Bool) → is_equals_sign byte ≡ t → (t || list_any is_equals_sign name) ≡ false
      → (list_any is_equals_sign name ≡ false → setting_of (joined name value) ≡ (name, value)) → setting_of (byte ∷ joined name value) ≡ (byte ∷ name, value)
  by true f g rest = absurd (true≢false g)
  by false f g rest =
      ap₂ (λ (a b : List ℕ). (a, b)) (before_step byte (joined name value) f ∙ ap (λ (s : Setting). byte ∷ s.0) (rest g))
      (after_step byte (joined name value) f ∙ ap (λ (s : Setting). s.1) (rest g))

same_settings : (name value : List ℕ) (options : List (List ℕ)) → list_any is_equals_sign name ≡ false → settings (joined name value ∷ options) ≡ settings (name ∷ value ∷ options)
same_settings name value options e =
    in_one_word (joined name value) options (has_sign name value)
    ∙ (ap (λ (s : Setting). s ∷ settings options) (setting_is name value e) ∙ sym (in_two_words name value options e))

pub same_in_both_forms : AskTheSameInBothForms
same_in_both_forms command name value options e =
    ap (λ (given : List Setting). cond (bytes_eq command (codes "script")) (option_map asking.Script (script_by given))
    (cond (bytes_eq command (codes "serve")) (option_map asking.Serve (server_by given))
    (cond (bytes_eq command (codes "demo")) (option_map asking.Demo (demo_by given)) None))) (same_settings name value options e)
