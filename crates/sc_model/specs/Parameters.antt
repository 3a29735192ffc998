-- The parameters of a request, of which the first of a name counts.
use Rattle.std.specs.Prelude.{ℕ, ◌==◌, Bool, false, not, List, Option, find}
use Rattle.std.specs.List.{slice_split}
use Rattle.std.specs.Option.{option_map, option_map_or}
use Rattle.std.specs.Str.{bytes_eq}
use Rattle.sc_model.specs.declared.message.Param.{Param}

-- the value of the first parameter of a name
abbrev pub parameter : List ℕ → List Param → Option (List ℕ)
parameter name params = option_map (λ (param : Param). param.value) (find (λ (param : Param). bytes_eq param.name name) params)

-- the first parameter of the name has this value
abbrev pub is_set_to : List ℕ → List ℕ → List Param → Bool
is_set_to value name params = option_map_or (λ found. bytes_eq found value) (parameter name params) false

-- the first parameter of the name has another value than this
abbrev pub is_other_than : List ℕ → List ℕ → List Param → Bool
is_other_than value name params = option_map_or (λ found. not (bytes_eq found value)) (parameter name params) false

-- the texts between the commas of a text
abbrev pub between_commas : List ℕ → List (List ℕ)
between_commas text = slice_split (λ byte. byte == 44) text
