-- The options that clap finds are taken exactly where each has a number.
use Rattle.std.proofs.Common.{◌≡◌, ◌∙◌, ℕ, Bool, true, false, List, sym, ap, map, string_bytes, Bor, Global}
use Rattle.std.specs.List.{list_all}
use Rattle.std.specs.Option.{option_map_or}
use Rattle.clap.specs.Words.{found_of, first_value}
use Rattle.clap.specs.declared.parser.matches.ArgMatches.{ArgMatches}
use Rattle.sc_arguments.specs.Found.{option_name, settings_found, HaveValues, NumbersDecide}
use Rattle.sc_arguments.specs.Options.{Setting, settings, is_number, are_options}
use Rattle.sc_arguments.proofs.FoundLemmas.{numbers_read}
use Rattle.sc_arguments.proofs.options.options_of.Goals as goal

abbrev names_in : List (Bor (List ℕ)) → List (List ℕ)
names_in names = map (λ (name : Bor (List ℕ)). name.now) names

-- whether each has a number is whether they are the options of the names
decided : (t read : Bool) (names : List (Bor (List ℕ))) (known : List (List ℕ)) (given : List Setting) (found : ArgMatches)
    → NumbersDecide (names_in names) given × (settings_found found ≡ given) × HaveValues found → map option_name (names_in names) ≡ known
    → read ≡ list_all (λ (name : Bor (List ℕ)). option_map_or is_number (first_value (found_of found) name.now) true) names → read ≡ t → are_options known given ≡ t
decided t read names known given found of is ensured e =
    sym (ap (λ (n : List (List ℕ)). are_options n given) is) ∙ (sym (numbers_read names given found of.2 of.1 of.0) ∙ (sym ensured ∙ e))

pub returns-then-are_numbers : goal.returns-then-are_numbers
returns-then-are_numbers c =
    let of = rw c.in-Some.is at c.in_ok-found.ensures in
    (decided true c.are_numbers.result c.names_of-names.result.now _ (settings (map (string_bytes {Z = Global}) c.args.words.now)) c.in-Some.found of c.names_of-names.ensures.names c.are_numbers.ensures c.if-are_numbers.true, of.1, of.2)

pub returns : goal.returns
returns c =
    let of = rw c.in-Some.is at c.in_ok-found.ensures in
    decided false c.are_numbers.result c.names_of-names.result.now _ (settings (map (string_bytes {Z = Global}) c.args.words.now)) c.in-Some.found of c.names_of-names.ensures.names c.are_numbers.ensures c.if-are_numbers.false
