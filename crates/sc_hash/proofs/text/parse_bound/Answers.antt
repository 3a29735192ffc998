-- A text that std reads as no number is no bound.
use Rattle.std.proofs.Common.{◌≢◌, get_or, lit<}
use Rattle.std.proofs.lemmas.Str.Pattern.{starts_char}
use Rattle.sc_hash.proofs.RangeLemmas.{not_IsBound-refused}
use Rattle.sc_hash.proofs.text.parse_bound.Goals as goal

pub returns-in_err-bits : goal.returns-in_err-bits
returns-in_err-bits c =
    let text = c.args.text.now in
    let starts = starts_char 43 text _ c.starts_with.ensures.cases (lit< tt) (lit< tt) in
    let no_plus : get_or text 0 0 ≢ 43 = λ e. let plus = starts.1 e in cc in
    rw c.from_residual.ensures (not_IsBound-refused text c.from_str_radix.result c.ok.result c.from_str_radix.ensures.value c.ok.ensures.value c.in_err-bits.was no_plus)
