-- Whether the bytes so far are plain, and those that are left.
use Rattle.std.proofs.Common.{◌≡◌, ◌&&◌, drop}
use Rattle.std.specs.List.{list_all}
use Rattle.sc_schema.specs.Runs.{is_plain}
use Rattle.sc_schema.proofs.word.is_plain.Given as goal

abbrev pub invariant-loop-byte : goal.invariant-loop-byte
invariant-loop-byte l = (l.plain && list_all is_plain (drop l.byte-index l.text)) ≡ list_all is_plain l.text
