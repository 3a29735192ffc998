-- What clap answers is what the words are by definition, where none of them ends the options.
use Rattle.std.proofs.Common.{◌≡◌, ◌∙◌, ℕ, Bool, true, false, List, [], sym, ap, map, string_bytes, subst, Bor, Global, String}
use Rattle.std.specs.List.{list_any}
use Rattle.std.specs.Str.{bytes_eq}
use Rattle.clap.specs.Words.{App, fault_of, HasKind, Kinds, is_simple, matches_of}
use Rattle.clap.specs.Faults.{is_simple_and_free}
use Rattle.clap.proofs.WalkLemmas.{list_any-map}
use Rattle.sc_arguments.specs.Found.{command_with, option_name}
use Rattle.sc_arguments.specs.Options.{settings}
use Rattle.sc_arguments.proofs.RuleLemmas.{is_simple_app, is_free_too}
use Rattle.sc_arguments.proofs.WordLemmas.{stop}
use Rattle.sc_arguments.proofs.FoundLemmas.{refused_options, stop_refused, taken_by, refused_by}
use Rattle.sc_arguments.proofs.options.found_by.Goals as goal

-- the names, and the words
abbrev names_in : List (Bor (List ℕ)) → List (List ℕ)
names_in names = map (λ (name : Bor (List ℕ)). name.now) names

abbrev words_in : List (String Global) → List (List ℕ)
words_in words = map (string_bytes {Z = Global}) words

-- whether one of them ends the options
ends : (t : Bool) (words : List (String Global)) (found : Bool) → found ≡ list_any (λ word. bytes_eq (string_bytes {Z = Global} word) stop) words → found ≡ t → list_any (λ word. bytes_eq word stop) (words_in words) ≡ t
ends t words found is e = sym (list_any-map (λ word. bytes_eq word stop) (string_bytes {Z = Global}) words) ∙ (sym is ∙ e)

pub returns-then-ends_options : goal.returns-then-ends_options
returns-then-ends_options c =
    refused_options (names_in c.args.names.now) (settings (words_in c.args.words.now)) (λ h.
    stop_refused (map option_name (names_in c.args.names.now)) c.requires.names (words_in c.args.words.now) (ends true c.args.words.now c.ends_options.result c.ends_options.ensures c.if-ends_options.true) h.good)

pub returns-in-Ok : goal.returns-in-Ok
returns-in-Ok c =
    let app = c.in_ok-parser_of.ensures in
    let names = names_in c.args.names.now in
    let words = words_in c.args.words.now in
    let fault : fault_of (command_with names) words ≡ [] = sym (ap (λ (a : App). fault_of a words) app) ∙ c.in-Ok.ensures.kinds (ap is_simple_and_free app ∙ is_free_too names) in
    let rows = (c.in-Ok.ensures.matches (ap is_simple app ∙ is_simple_app names)).0 ∙ ap (λ (a : App). matches_of a words) app in
    taken_by names words (ends false c.args.words.now c.ends_options.result c.ends_options.ensures c.if-ends_options.false) c.in-Ok.found fault rows

pub returns : goal.returns
returns c =
    let app = c.in_ok-parser_of.ensures in
    let names = names_in c.args.names.now in
    let words = words_in c.args.words.now in
    refused_by names words (ends false c.args.words.now c.ends_options.result c.ends_options.ensures c.if-ends_options.false) c.in-Err.error
    (λ full. c.in_default.not-OutOfMemory (c.kind.ensures ∙ full))
    (subst (λ (kinds : Kinds). HasKind kinds c.in-Err.error) (ap (λ (a : App). fault_of a words) app) (c.in-Err.ensures.kinds (ap is_simple_and_free app ∙ is_free_too names)))
