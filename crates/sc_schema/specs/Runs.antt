-- The words of texts in which no rule of word breaks joins what is no letter and no digit with what follows.
use Rattle.std.specs.Prelude.{◌++◌, ◌&&◌, ℕ, Bool, not, List, [], ◌∷◌, nat_eq, nat_lt, if◌then◌else◌}
use Rattle.std.specs.Char.{is_ascii_alphanumeric}

-- the byte is a space, or an ASCII letter, digit or sign that no rule of word breaks joins with another
abbrev pub is_plain : ℕ → Bool
is_plain c =
    nat_lt 31 c && nat_lt c 127 && not (nat_eq c 34) && not (nat_eq c 39) && not (nat_eq c 44) && not (nat_eq c 46) && not (nat_eq c 58)
    && not (nat_eq c 59) && not (nat_eq c 95)

-- a run that ends here, where it has a byte
abbrev pub closed : List ℕ → List (List ℕ)
closed [] = []
closed (c ∷ run) = (c ∷ run) ∷ []

-- the runs of letters and digits of a text, where the first has begun with these bytes
abbrev pub runs_from : List ℕ → List ℕ → List (List ℕ)
runs_from run [] = closed run
runs_from run (c ∷ text) = if is_ascii_alphanumeric c then runs_from (run ++ c ∷ []) text else closed run ++ runs_from [] text

-- the runs of letters and digits of a text
abbrev pub runs : List ℕ → List (List ℕ)
runs text = runs_from [] text
