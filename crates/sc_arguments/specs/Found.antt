-- What clap is told of options, and what it finds of them among words.
use Rattle.std.specs.Prelude.{◌≡◌, ℕ, Bool, true, List, [], ◌∷◌, map, codes, length, nat_lt, slice_get, unwrap_or, Some}
use Rattle.std.specs.List.{list_all}
use Rattle.std.specs.Option.{option_map_or}
use Rattle.clap.specs.declared.parser.matches.ArgMatches.{ArgMatches}
use Rattle.clap.specs.Words.{App, Row, Rule, rows_of, found_of, new_rule}
use Rattle.clap.specs.Simple.{new_shape}
use Rattle.sc_arguments.specs.Options.{Setting, is_number, option_value, are_options}

-- an option that takes one value, by its name
abbrev pub option_rule : List ℕ → Rule
option_rule name = record (new_rule name) { long = Some name }

-- a command that takes these options, and nothing else: no command below it, no help and no version
abbrev pub command_with : List (List ℕ) → App
command_with names = record {
  top = record (new_shape (codes "solr_split")) {
    rules = map option_rule names;
    no_binary_name = true;
    disable_help_flag = true;
  };
  subs = [];
}

-- an option has its name after two hyphens
abbrev pub option_name : List ℕ → List ℕ
option_name name = 45 ∷ 45 ∷ name

-- what is found of an option: its name, and the first of its values
abbrev pub setting_found : Row → Setting
setting_found row = (option_name row.id, unwrap_or (slice_get row.values 0) [])

-- the options that are found
abbrev pub settings_found : ArgMatches → List Setting
settings_found found = map setting_found (rows_of (found_of found))

-- it has a value
abbrev pub row_has_value : Row → Bool
row_has_value row = nat_lt 0 (length row.values)

-- each option that is found has a value
abbrev pub HaveValues : ArgMatches → Type 0
HaveValues found = list_all row_has_value (rows_of (found_of found)) ≡ true

-- the value of an option is a number, where it is given
abbrev pub has_number : List Setting → List ℕ → Bool
has_number given name = option_map_or is_number (option_value name given) true

-- the options are taken exactly where each name that is given has a number
abbrev pub NumbersDecide : List (List ℕ) → List Setting → Type 0
NumbersDecide names given = list_all (λ name. has_number given (option_name name)) names ≡ are_options (map option_name names) given
