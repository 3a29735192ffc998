-- The value is that of the option's setting.
use Rattle.std.proofs.Common.{◌≡◌, ◌∙◌, ℕ, Bool, true, false, cond, Some, None, refl}
use Rattle.std.specs.Option.{unwrap_or}
use Rattle.std.specs.Str.Parse.{digits_value}
use Rattle.sc_arguments.specs.Options.{is_number}
use Rattle.clap.specs.Words.{found_of, rows_of}
use Rattle.clap.proofs.WalkLemmas.{first_value-rows}
use Rattle.sc_arguments.proofs.FoundLemmas.{value_read}
use Rattle.sc_arguments.proofs.options.number_given.Goals as goal

chosen : (test : Bool) (n : ℕ) → Some (unwrap_or (cond test (Some n) None) 0) ≡ Some (cond test n 0)
chosen true n = refl
chosen false n = refl

pub returns-in-Some : goal.returns-in-Some
returns-in-Some c =
    let read = c.get_str.ensures ∙ (first_value-rows (found_of c.args.found.now) c.args.name.now ∙ value_read (rows_of (found_of c.args.found.now)) c.args.name.now c.requires.values) in
    rw (← read, c.in-Some.is, c.unwrap_or.ensures, c.number_of.ensures) (chosen (is_number c.in-Some.value.now) (digits_value 10 c.in-Some.value.now))

pub returns-in-None : goal.returns-in-None
returns-in-None c =
    let read = c.get_str.ensures ∙ (first_value-rows (found_of c.args.found.now) c.args.name.now ∙ value_read (rows_of (found_of c.args.found.now)) c.args.name.now c.requires.values) in
    rw (← read, c.in-None.is) refl
