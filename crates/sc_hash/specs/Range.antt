-- Ranges of signed 32-bit hashes, by their least and greatest number, and the texts that write them.
use Rattle.std.specs.Prelude.{◌≡◌, ℕ, ◌≤◌, ℤ, pos, ◌+ℤ◌, ◌-ℤ◌, ◌≤ℤ◌, List, ◌∷◌, ◌++◌, length, false}
use Rattle.std.specs.Int.RustNames.{FitsSigned}
use Rattle.std.specs.Int.{w32, cast_signed, cast_unsigned}
use Rattle.std.specs.Fmt.{digits}
use Rattle.std.specs.Str.Parse.{IsNumeral, digits_value}

-- the two numbers are signed ones of 32 bits, in order
abbrev pub IsRange : ℤ → ℤ → Type 0
IsRange min max = FitsSigned w32 min × FitsSigned w32 max × (min ≤ℤ max)

-- h is in the range from min to max
abbrev pub IsWithin : ℤ → ℤ → ℤ → Type 0
IsWithin min max h = (min ≤ℤ h) × (h ≤ℤ max)

-- some number is in both ranges
abbrev pub Meets : ℤ → ℤ → ℤ → ℤ → Type 0
Meets min max other_min other_max = (h : ℤ) × IsWithin min max h × IsWithin other_min other_max h

-- how many numbers the range from min to max has
abbrev pub size_of : ℤ → ℤ → ℤ
size_of min max = max -ℤ min +ℤ pos 1

-- the text of a range: `min-max`, each as an unsigned number in lower case hexadecimal without leading zeros
unfoldable pub range_text : ℤ → ℤ → List ℕ
range_text min max = digits 16 false (cast_unsigned w32 min) ++ 45 ∷ digits 16 false (cast_unsigned w32 max)

-- one to eight hexadecimal digits, in either case
abbrev pub IsBound : List ℕ → Type 0
IsBound text = IsNumeral 16 text × (length text ≤ 8)

-- the signed number whose 32 bits the digits write
abbrev pub bound_of : List ℕ → ℤ
bound_of text = cast_signed w32 (digits_value 16 text)

-- the text is two bounds with a `-` between them, and stands for the range from min to max
pub record ReadsAs (text : List ℕ) (min max : ℤ) : Type 0 where
  pub low : List ℕ
  pub high : List ℕ
  pub parts : text ≡ low ++ 45 ∷ high
  pub low_form : IsBound low
  pub high_form : IsBound high
  pub min_is : min ≡ bound_of low
  pub max_is : max ≡ bound_of high
  pub ordered : min ≤ℤ max
