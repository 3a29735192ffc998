-- Whether a capital letter stands in the bytes so far, or in those that are left.
use Rattle.std.proofs.Common.{◌≡◌, ◌||◌, drop}
use Rattle.std.specs.Char.{is_ascii_uppercase}
use Rattle.std.specs.List.{list_any}
use Rattle.sc_schema.proofs.word.has_capital.Given as goal

abbrev pub invariant-loop-byte : goal.invariant-loop-byte
invariant-loop-byte l =
    (l.capital || list_any is_ascii_uppercase (drop l.byte-index l.text)) ≡ list_any is_ascii_uppercase l.text
